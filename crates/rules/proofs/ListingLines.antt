-- A listing's lines and fields. What is read of a listing is what is read of its `v` lines and then of its `c` lines, by any reader that goes line by line
-- and reads nothing of a line with another letter (`listing_read`).
use mathlib.Core.Path.{◌≡◌, refl, ap, sym, ◌∙◌}
use mathlib.Core.Bool.{Bool, true, false, cond}
use mathlib.Core.List.{List, [], ◌∷◌, ◌++◌, map, append_assoc, append-nil}
use mathlib.Core.Option.{Option, none, some}
use Prim.Native.Nat.{ℕ, zero, suc, ◌+◌, ◌*◌, ◌-◌, ◌/◌, ◌%◌, ◌<◌, ◌≤◌}
use native.Mathlib.Omega.{arith}
use lib.Dec.{eqb, ltb}
use borrow.Author.Tests.{lt-ltb, ltb-true, eq-eqb, ne_eqb}
use Rattle.rules.specs.Lists.{all, concat_map, fold}
use Rattle.rules.specs.Literal.{Literal}
use Rattle.rules.specs.Clause.{Clause, install, requires, gated, excluded, constrains, forbid, aux_out, aux_owner, lock, any_gate, any_one, literals, asserted}
use Rattle.rules.specs.Catalogue.{Owner, root, part, Goal, range, union, Catalogue, requirement_at}
use Rattle.rules.specs.Conditions.{disjunct_at}
use Rattle.rules.specs.Decisions.{Decision}
use Rattle.rules.specs.Variables.{Origin, chosen, one, violation, gate}
use Rattle.rules.specs.State.{State}
use Rattle.rules.specs.Listing.{ascii, digits, decimal, line, signed, owner_field, goal_fields, origin_fields, clause_field, decision_line, numbered, assertions, reason_number, word_fields, clause_fields, waiting_line, waiting_lines, listing}
use Rattle.rules.specs.ReadBack.{join_first, runs_between, lines_read, number_read}
use Rattle.rules.proofs.Digits.{by_ten, digits_one, digits_more, by_digits}
use Rattle.rules.proofs.Bools.{and_left, and_right, and_both}
use Rattle.rules.proofs.ListLaws.{All, all_append, all_map, all_every}

-- ---- numbers

abbrev worth : List ℕ → ℕ → ℕ
worth ds n = fold (λ d m. 10 * m + (d - 48)) ds n

worth_first : (d n m : ℕ) (ds : List ℕ) → d < 10 → 10 * n + d ≡ m → worth ((48 + d) ∷ ds) n ≡ worth ds m
unfolding fold
worth_first d n m ds h e = ap (λ (k : ℕ). worth ds k) (omega arith)

digits_worth : (k n : ℕ) (acc : List ℕ) → n < k → worth (digits k n acc) 0 ≡ worth acc n
digits_worth zero n acc h = let no_such : ⊥ = omega arith in absurd no_such
digits_worth (suc k) n acc h =
    by_ten n _ (λ g. rw (digits_one k n acc g) (worth_first n 0 n acc g (omega arith)))
    (λ g.
    rw (digits_more k n acc g) (digits_worth k (n / 10) ((48 + n % 10) ∷ acc) (omega arith) ∙ worth_first (n % 10) (n / 10) n acc (omega arith) (omega arith)))

pub number_decimal : (n : ℕ) → number_read (decimal n) ≡ n
unfolding number_read decimal fold
number_decimal n = digits_worth (suc n) n [] (omega arith)

-- ---- runs of bytes

-- a byte of a field neither parts fields nor ends a line
abbrev pub Plain : List ℕ → Type 0
Plain bs = all (ltb 32) bs ≡ true

abbrev Free : ℕ → List ℕ → Type 0
Free d bs = All (λ b. eqb b d ≡ false) bs

plain_free : (d : ℕ) → d ≤ 32 → (bs : List ℕ) → Plain bs → Free d bs
unfolding all
plain_free d h [] p = tt
plain_free d h (b ∷ bs) p =
    let g : 32 < b = ltb-true 32 b (and_left _ _ p) in
    (ne_eqb b d (λ e. omega arith), plain_free d h bs (and_right (ltb 32 b) _ p))

run_ends : (d : ℕ) (bs : List ℕ) → Free d bs → runs_between d bs ≡ bs ∷ []
unfolding runs_between join_first
run_ends d [] p = refl
run_ends d (b ∷ bs) p = rw (p.0, run_ends d bs p.1, runs_between)

run_parted : (d : ℕ) (bs rest : List ℕ) → Free d bs → runs_between d (bs ++ (d ∷ rest)) ≡ bs ∷ runs_between d rest
unfolding runs_between join_first
run_parted d [] rest p = rw (eq-eqb d d refl, runs_between)
run_parted d (b ∷ bs) rest p = rw (p.0, run_parted d bs rest p.1, runs_between)

-- a line without its line feed
joined : List ℕ → List (List ℕ) → List ℕ
joined f [] = f
joined f (g ∷ fs) = f ++ (32 ∷ joined g fs)

line_joined : (f : List ℕ) (fs : List (List ℕ)) (rest : List ℕ) → line (f ∷ fs) ++ rest ≡ joined f fs ++ (10 ∷ rest)
unfolding line joined
line_joined f [] rest = append_assoc f (10 ∷ []) rest
line_joined f (g ∷ fs) rest =
    append_assoc f (32 ∷ line (g ∷ fs)) rest ∙ ap (λ (l : List ℕ). f ++ (32 ∷ l)) (line_joined g fs rest) ∙ sym (append_assoc f (32 ∷ joined g fs) (10 ∷ rest))

joined_free : (f : List ℕ) (fs : List (List ℕ)) → All Plain (f ∷ fs) → Free 10 (joined f fs)
unfolding joined
joined_free f [] p = plain_free 10 (omega arith) f p.0
joined_free f (g ∷ fs) p = all_append (λ b. eqb b 10 ≡ false) f (32 ∷ joined g fs) (plain_free 10 (omega arith) f p.0) (refl, joined_free g fs p.1)

fields_read : (f : List ℕ) (fs : List (List ℕ)) → All Plain (f ∷ fs) → runs_between 32 (joined f fs) ≡ f ∷ fs
unfolding joined
fields_read f [] p = run_ends 32 f (plain_free 32 (omega arith) f p.0)
fields_read f (g ∷ fs) p = run_parted 32 f (joined g fs) (plain_free 32 (omega arith) f p.0) ∙ rw (fields_read g fs p.1)

-- ---- the fields are plain

pub plain_decimal : (n : ℕ) → Plain (decimal n)
unfolding decimal all
plain_decimal n = by_digits (λ ds. Plain ds) (λ d ds h p. and_both (ltb 32 (48 + d)) (all (ltb 32) ds) (lt-ltb 32 (48 + d) (omega arith)) p) (suc n) n [] refl

plain_signed : (l : Literal) → Plain (signed l)
unfolding signed all
plain_signed l = go l.positive
  where
    go : (b : Bool) → Plain (cond b 43 45 ∷ decimal l.variable)
    go true = plain_decimal l.variable
    go false = plain_decimal l.variable

abbrev pub PlainAll : List (List ℕ) → Type 0
PlainAll fs = All Plain fs

plain_owner : (o : Owner) → Plain (owner_field o)
unfolding owner_field
plain_owner root = unfold all ascii in refl
plain_owner (part p) = plain_decimal p

plain_goal : (g : Goal) → PlainAll (goal_fields g)
unfolding goal_fields all ascii
plain_goal (range r) = (refl, (plain_decimal r, tt))
plain_goal (union u) = (refl, (plain_decimal u, tt))

pub plain_origin : (o : Origin) → PlainAll (origin_fields o)
unfolding origin_fields all ascii
plain_origin (chosen root) = (refl, tt)
plain_origin (chosen (part p)) = (refl, (plain_decimal _, tt))
plain_origin (Origin.forbid n j) = (refl, (plain_decimal n, tt))
plain_origin (one n) = (refl, (plain_decimal n, tt))
plain_origin (violation r) = (refl, (plain_decimal r, tt))
plain_origin (gate g) = (refl, plain_goal g)

plain_clause : (i : Option ℕ) → Plain (clause_field i)
unfolding clause_field
plain_clause none = unfold all ascii in refl
plain_clause (some i) = plain_decimal i

module _ (c : Catalogue) where
  plain_word : (k : Clause) → PlainAll (word_fields c k)
  unfolding word_fields all ascii
  plain_word install = (refl, tt)
  plain_word (requires o ks ps) = (refl, tt)
  plain_word (gated g ps) = (refl, tt)
  plain_word (excluded x p w) = (refl, (plain_decimal (reason_number c w p), tt))
  plain_word (constrains o p) = (refl, tt)
  plain_word (forbid p l) = (refl, tt)
  plain_word (aux_out p v) = (refl, tt)
  plain_word (aux_owner o v) = (refl, tt)
  plain_word (lock p) = (refl, tt)
  plain_word (any_gate g o) = (refl, tt)
  plain_word (any_one y p) = (refl, tt)

  pub plain_fields : (k : Clause) → PlainAll (clause_fields c k)
  unfolding clause_fields
  plain_fields k = all_append _ (word_fields c k) (map signed (literals k)) (plain_word k) (all_map _ signed (literals k) (all_every _ plain_signed (literals k)))

-- ---- what is read of a run of lines

module _ {A : Type 0} (reader : List (List ℕ) → List A) where
  pub record Reads (bs : List ℕ) (xs : List A) : Type 0 where
    read : (rest : List ℕ) → lines_read reader (bs ++ rest) ≡ xs ++ lines_read reader rest

  pub reads_line : (f : List ℕ) (fs : List (List ℕ)) → All Plain (f ∷ fs) → Reads (line (f ∷ fs)) (reader (f ∷ fs))
  unfolding lines_read concat_map
  reads_line f fs p = record { read = λ rest. rw (line_joined f fs rest, run_parted 10 (joined f fs) rest (joined_free f fs p), fields_read f fs p) }

  pub reads_none : Reads [] []
  reads_none = record { read = λ rest. refl }

  pub reads_then : {us vs : List ℕ} {xs ys : List A} → Reads us xs → Reads vs ys → Reads (us ++ vs) (xs ++ ys)
  reads_then {us} {vs} {xs} {ys} p q = record { read = λ rest. rw (append_assoc us vs rest, p.read (vs ++ rest), q.read rest, append_assoc) }

  reads_each : {B : Type 0} (f : B → List ℕ) → ((x : B) → Reads (f x) []) → (xs : List B) → Reads (concat_map f xs) []
  unfolding concat_map
  reads_each f p [] = reads_none
  reads_each f p (x ∷ xs) = reads_then (p x) (reads_each f p xs)

  -- a letter of whose lines nothing is read
  abbrev pub Silent : ℕ → Type 0
  Silent b = (fs : List (List ℕ)) → reader ((b ∷ []) ∷ fs) ≡ []

  silent_line : (b : ℕ) (fs : List (List ℕ)) → Silent b → ltb 32 b ≡ true → PlainAll fs → Reads (line ((b ∷ []) ∷ fs)) []
  unfolding all
  silent_line b fs e h p = rw (e fs) at (reads_line (b ∷ []) fs (and_both (ltb 32 b) true h refl, p))

  pub silent_numbered : {B : Type 0} (b : ℕ) → Silent b → ltb 32 b ≡ true → (f : B → List (List ℕ)) → ((x : B) → PlainAll (f x)) → (i : ℕ) (xs : List B) → Reads (numbered (b ∷ []) f i xs) []
  unfolding numbered
  silent_numbered b e h f p i [] = reads_none
  silent_numbered b e h f p i (x ∷ xs) = reads_then (silent_line b (decimal i ∷ f x) e h (plain_decimal i, p x)) (silent_numbered b e h f p (suc i) xs)

  -- ---- the listing

  -- nothing is read of an empty line or of one with another letter than v and c
  pub record OfLines : Type 0 where
    pub empty : reader ([] ∷ []) ≡ []
    pub other : (b : ℕ) → eqb b 118 ≡ false → eqb b 99 ≡ false → Silent b

  module _ (o : OfLines) where
    other_line : (b : ℕ) (fs : List (List ℕ)) → eqb b 118 ≡ false → eqb b 99 ≡ false → ltb 32 b ≡ true → PlainAll fs → Reads (line ((b ∷ []) ∷ fs)) []
    other_line b fs v c = silent_line b fs (o.other b v c)

    owners_read : (os : List Owner) → Reads (concat_map (λ o. line (ascii "o" ∷ owner_field o ∷ [])) os) []
    unfolding ascii
    owners_read os = reads_each _ (λ o. other_line 111 (owner_field o ∷ []) refl refl refl (plain_owner o, tt)) os

    names_read : (ns : List ℕ) → Reads (concat_map (λ n. line (ascii "p" ∷ decimal n ∷ [])) ns) []
    unfolding ascii
    names_read ns = reads_each _ (λ n. other_line 112 (decimal n ∷ []) refl refl refl (plain_decimal n, tt)) ns

    conflicts_read : (es : List (ℕ × ℕ)) → Reads (concat_map (λ (e : ℕ × ℕ). line (ascii "x" ∷ decimal e.0 ∷ decimal e.1 ∷ [])) es) []
    unfolding ascii
    conflicts_read es = reads_each _ (λ e. other_line 120 (decimal e.0 ∷ decimal e.1 ∷ []) refl refl refl (plain_decimal e.0, (plain_decimal e.1, tt))) es

    assertions_read : (i : ℕ) (ks : List Clause) → Reads (assertions i ks) []
    unfolding assertions ascii
    assertions_read i [] = reads_none
    assertions_read i (k ∷ ks) =
        reads_then (reads_each _ (λ x. other_line 110 (decimal x ∷ decimal i ∷ []) refl refl refl (plain_decimal x, (plain_decimal i, tt))) (asserted k)) (assertions_read (suc i) ks)

    decision_read : (d : Decision) → Reads (decision_line d) []
    unfolding decision_line ascii
    decision_read d =
        other_line 100 (decimal d.variable ∷ decimal (cond d.value 1 0) ∷ decimal d.level ∷ clause_field d.clause ∷ []) refl refl refl
        (plain_decimal d.variable, (plain_decimal (cond d.value 1 0), (plain_decimal d.level, (plain_clause d.clause, tt))))

    module _ (c : Catalogue) where
      waiting_read : (k : ℕ) (e : ℕ × ℕ) → Reads (waiting_line c k e) []
      unfolding waiting_line ascii
      waiting_read k e =
          let q = requirement_at c e.0 in
          other_line 119 (decimal k ∷ owner_field q.owner ∷ (goal_fields q.goal ++ map decimal (disjunct_at c e.0 e.1))) refl refl refl
          (plain_decimal k, (plain_owner q.owner, all_append _ (goal_fields q.goal) (map decimal (disjunct_at c e.0 e.1)) (plain_goal q.goal) (all_map _ decimal (disjunct_at c e.0 e.1) (all_every _ plain_decimal (disjunct_at c e.0 e.1)))))

      waiting_lines_read : (es : List (ℕ × ℕ)) (k : ℕ) → Reads (waiting_lines c es k) []
      unfolding waiting_lines
      waiting_lines_read es k = reads_each (waiting_line c k) (waiting_read k) _

      nothing_read : lines_read reader [] ≡ []
      unfolding lines_read runs_between concat_map
      nothing_read = rw o.empty

      pub listing_read : (s : State) {vs ks : List A} → Reads (numbered (ascii "v") origin_fields 0 s.variables) vs → Reads (numbered (ascii "c") (clause_fields c) 0 s.clauses) ks
          → lines_read reader (listing c s) ≡ vs ++ ks
      unfolding listing
      listing_read s {vs} {ks} p q =
          let all_read : Reads (listing c s) (vs ++ (ks ++ [])) =
          reads_then p
          (reads_then q
          (reads_then (owners_read s.opening.owners)
          (reads_then (names_read s.opening.names)
          (reads_then (conflicts_read s.conflicts)
          (reads_then (assertions_read 0 s.clauses)
          (reads_then (reads_each decision_line decision_read s.decisions)
          (reads_each (waiting_lines c s.opening.waiting) (waiting_lines_read s.opening.waiting) _))))))) in
          rw (append-nil (listing c s), nothing_read, append-nil ks, append-nil (vs ++ ks)) at (all_read.read [])
