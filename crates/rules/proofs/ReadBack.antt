-- The clauses can be read back from a listing: for every catalogue and state the literal lists on its `c` lines are those of the stored clauses, in order.
use mathlib.Core.Path.{◌≡◌, refl, ap, sym, ◌∙◌}
use mathlib.Core.Bool.{Bool, true, false, cond}
use mathlib.Core.List.{List, [], ◌∷◌, ◌++◌, map, append_assoc}
use Prim.Native.Nat.{ℕ, suc, ◌+◌, ◌<◌}
use native.Mathlib.Omega.{arith}
use borrow.Author.Tests.{ne_eqb}
use Rattle.rules.specs.Lists.{all, list_if, concat_map}
use Rattle.rules.specs.Literal.{Literal}
use Rattle.rules.specs.Clause.{Clause, install, requires, gated, excluded, constrains, forbid, aux_out, aux_owner, lock, any_gate, any_one, literals}
use Rattle.rules.specs.Catalogue.{Catalogue}
use Rattle.rules.specs.State.{State}
use Rattle.rules.specs.Listing.{ascii, decimal, line, signed, origin_fields, numbered, reason_number, word_fields, clause_fields, listing}
use Rattle.rules.specs.Limits.{Terms}
use Rattle.rules.specs.Job.{outcome, accepted, printed}
use Rattle.rules.specs.ReadBack.{literal_read, is_letter, clause_read, clauses_read}
use Rattle.rules.proofs.Digits.{by_digits}
use Rattle.rules.proofs.ListingLines.{number_decimal, plain_decimal, plain_origin, plain_fields, Reads, reads_line, reads_none, reads_then, silent_numbered, OfLines, listing_read}

-- ---- literals

unsigned : (d : ℕ) (ds : List ℕ) → d < 10 → literal_read ((48 + d) ∷ ds) ≡ []
unfolding literal_read list_if
unsigned d ds h = rw (ne_eqb (48 + d) 43 (λ e. omega arith), ne_eqb (48 + d) 45 (λ e. omega arith))

decimal_unsigned : (n : ℕ) → literal_read (decimal n) ≡ []
unfolding decimal
decimal_unsigned n = by_digits (λ ds. literal_read ds ≡ []) (λ d ds h p. unsigned d ds h) (suc n) n [] (unfold literal_read in refl)

signed_by : (b : Bool) (x : ℕ) → literal_read (cond b 43 45 ∷ decimal x) ≡ record { variable = x; positive = b } ∷ []
unfolding literal_read list_if
signed_by true x = rw (number_decimal x)
signed_by false x = rw (number_decimal x)

literals_read : (ls : List Literal) → concat_map literal_read (map signed ls) ≡ ls
unfolding concat_map signed
literals_read [] = refl
literals_read (l ∷ ls) = rw (signed_by l.positive l.variable, literals_read ls)

concat_append : {A B : Type 0} (f : A → List B) (xs ys : List A) → concat_map f (xs ++ ys) ≡ concat_map f xs ++ concat_map f ys
unfolding concat_map
concat_append f [] ys = refl
concat_append f (x ∷ xs) ys = ap (λ (l : List _). f x ++ l) (concat_append f xs ys) ∙ sym (append_assoc (f x) (concat_map f xs) (concat_map f ys))

-- ---- the listing

only_clauses : OfLines clause_read
unfolding clause_read is_letter list_if
only_clauses = record { empty = refl; other = λ b v c fs. rw c }

module _ (c : Catalogue) where
  -- neither the word nor an exclusion's reason has a sign
  word_unsigned : (k : Clause) → concat_map literal_read (word_fields c k) ≡ []
  unfolding word_fields concat_map literal_read list_if ascii
  word_unsigned install = refl
  word_unsigned (requires o ks ps) = refl
  word_unsigned (gated g ps) = refl
  word_unsigned (excluded x p w) = rw (decimal_unsigned (reason_number c w p))
  word_unsigned (constrains o p) = refl
  word_unsigned (forbid p l) = refl
  word_unsigned (aux_out p v) = refl
  word_unsigned (aux_owner o v) = refl
  word_unsigned (lock p) = refl
  word_unsigned (any_gate g o) = refl
  word_unsigned (any_one y p) = refl

  clause_read_law : (i : ℕ) (k : Clause) → clause_read (ascii "c" ∷ decimal i ∷ clause_fields c k) ≡ literals k ∷ []
  unfolding clause_read is_letter list_if ascii clause_fields
  clause_read_law i k =
      ap (λ (l : List Literal). l ∷ [])
      (unfold concat_map in rw (decimal_unsigned i) (concat_append literal_read (word_fields c k) (map signed (literals k)) ∙ rw (word_unsigned k) (literals_read (literals k))))

  clause_line : (i : ℕ) (k : Clause) → Reads clause_read (line (ascii "c" ∷ decimal i ∷ clause_fields c k)) (literals k ∷ [])
  clause_line i k = rw (clause_read_law i k) at (reads_line clause_read (ascii "c") (decimal i ∷ clause_fields c k) (unfold all ascii in refl, (plain_decimal i, plain_fields c k)))

  clauses_read_law : (i : ℕ) (ks : List Clause) → Reads clause_read (numbered (ascii "c") (clause_fields c) i ks) (map literals ks)
  unfolding numbered
  clauses_read_law i [] = reads_none clause_read
  clauses_read_law i (k ∷ ks) = reads_then clause_read (clause_line i k) (clauses_read_law (suc i) ks)

  pub read_back : (s : State) → clauses_read (listing c s) ≡ map literals s.clauses
  unfolding clauses_read clause_read is_letter list_if ascii
  read_back s = listing_read clause_read only_clauses c s (silent_numbered clause_read 118 (λ fs. refl) refl origin_fields plain_origin 0 s.variables) (clauses_read_law 0 s.clauses)

-- of an accepted job
pub printed_read : (t : Terms) (job : List ℕ) {c : Catalogue} {s : State} → outcome t job ≡ accepted c s → clauses_read (printed (outcome t job)) ≡ map literals s.clauses
unfolding printed
printed_read t job {c} {s} e = rw e (read_back c s)
