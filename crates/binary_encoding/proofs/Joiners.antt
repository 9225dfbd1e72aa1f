-- Names by their flags: those that are not flagged have no part that joins, so that they may be left out.
use mathlib.Core.Path.{◌≡◌, refl, sym, ◌∙◌, ap}
use mathlib.Core.Bool.{Bool, true, false, cond, not, false≢true}
use mathlib.Core.List.{List, [], ◌∷◌, ◌++◌, append-nil}
use Prim.Native.Nat.{ℕ, suc, ◌<◌}
use native.Mathlib.Omega.{arith}
use lib.Dec.{eqb}
use lib.ListN.{length, get_or, set}
use lib.Seq.{get_or-set_same, get_or-set_other}
use borrow.Author.Tests.{eqb-true, eqb-false}
use Rattle.rules.specs.Lists.{filter, elem, snoc, any, concat_map, fold, distinct}
use Rattle.rules.specs.Catalogue.{no_part}
use Rattle.rules.proofs.Bools.{by_cases}
use Rattle.rules.proofs.Each.{Each}
use Rattle.rules.proofs.MemberLaws.{filter_append}
use Rattle.tables.specs.declared.Counts.{Counts}
use Rattle.tables.specs.Tables.{tables}
use Rattle.marked.specs.Marked.{listed, is_marked}
use Rattle.encoder.specs.declared.State.{State}
use Rattle.goals.specs.Goals.{HandNotes}
use Rattle.tracking.specs.Joining.{part_name, NamesLow}
use Rattle.binary_encoding.specs.Joiners.{flagged, NotesJoiner, JoinersNoted, NotesIf}

-- ---- a flag is set

pub joiner_low : (k : Counts) (t : List ℕ) (p a : ℕ) (flags : List Bool) → NamesLow k t → length flags ≡ 64 → a ≡ (get_or (tables k t).parts p no_part).name → a < length flags
joiner_low k t p a flags w h e = let low = w.low p in let q : a ≡ part_name k t p = unfold part_name in e in omega arith

pub joiner_flagged : (k : Counts) (t : List ℕ) (st : ℕ → List ℕ) (p a : ℕ) (flags : List Bool) → NamesLow k t → length flags ≡ 64 → a ≡ (get_or (tables k t).parts p no_part).name
    → NotesJoiner k t st p flags (set flags a true)
unfolding flagged
joiner_flagged k t st p a flags w h e =
    let low = joiner_low k t p a flags w h e in
    let q : a ≡ part_name k t p = unfold part_name in e in
    record {
      still = λ n y. by_cases (eqb n a) (λ z. rw (eqb-true n a z, get_or-set_same flags a true false low)) (λ z. rw (get_or-set_other flags a n true false (eqb-false n a z)) y);
      new = λ z. rw (← q, get_or-set_same flags a true false low);
    }

-- ---- a name is noted if it is flagged

module _ (flags : List Bool) (name m : ℕ) (x : State) where
  pub name_passed : get_or flags name false ≡ false → NotesIf (flagged flags name) name m x m x
  unfolding flagged
  name_passed e = record { noted = λ z. absurd (false≢true (rw e at z)); same = λ z. refl; kept = λ z. refl }

  pub name_noted : {r : ℕ} {x' : State} → get_or flags name false ≡ true → HandNotes name m x r x' → NotesIf (flagged flags name) name m x r x'
  unfolding flagged
  name_noted e y = record { noted = λ z. y; same = λ z. absurd (false≢true (sym (rw e at z))); kept = λ z. absurd (false≢true (sym (rw e at z))) }

-- ---- lists

-- numbers that fail a test may be left out before repeats are or after
step : ℕ → List ℕ → List ℕ
step x seen = cond (elem x seen) seen (snoc seen x)

module _ (f : ℕ → Bool) where
  elem_filter : (x : ℕ) (xs : List ℕ) → f x ≡ true → elem x (filter f xs) ≡ elem x xs
  unfolding filter any
  elem_filter x [] e = refl
  elem_filter x (y ∷ ys) e = by_cases (f y) (λ z. rw (z, filter, elem_filter x ys e)) (λ z. rw (z, filter, elem_filter x ys e, apart z))
    where
      apart : f y ≡ false → eqb x y ≡ false
      apart z = by_cases (eqb x y) (λ w. absurd (false≢true (sym z ∙ (ap f (sym (eqb-true x y w)) ∙ e)))) (λ w. w)

  kept_step : (x : ℕ) (seen : List ℕ) → f x ≡ true → filter f (step x seen) ≡ step x (filter f seen)
  unfolding step snoc filter
  kept_step x seen e =
      by_cases (elem x seen) (λ z. rw (z, elem_filter x seen e, z))
      (λ z. rw (z, elem_filter x seen e, z) (filter_append f seen (x ∷ []) ∙ rw (e, filter)))

  left_step : (x : ℕ) (seen : List ℕ) → f x ≡ false → filter f (step x seen) ≡ filter f seen
  unfolding step snoc filter
  left_step x seen e =
      by_cases (elem x seen) (λ z. rw z)
      (λ z. rw z (filter_append f seen (x ∷ []) ∙ rw (e, filter, append-nil (filter f seen))))

  steps_filter : (xs seen : List ℕ) → fold step (filter f xs) (filter f seen) ≡ filter f (fold step xs seen)
  unfolding fold filter
  steps_filter [] seen = refl
  steps_filter (x ∷ xs) seen =
      by_cases (f x) (λ e. rw (e, filter, ← kept_step x seen e) (steps_filter xs (step x seen)))
      (λ e. rw (e, filter, ← left_step x seen e) (steps_filter xs (step x seen)))

  pub distinct_filter : (xs : List ℕ) → distinct (filter f xs) ≡ filter f (distinct xs)
  unfolding distinct filter step
  distinct_filter xs = steps_filter xs []

  -- lists of which nothing passes a second test may be left out
  pub without_idle : (g : ℕ → Bool) (h : ℕ → List ℕ) → ((n : ℕ) → f n ≡ false → filter g (h n) ≡ []) → (ns : List ℕ) → filter g (concat_map h (filter f ns)) ≡ filter g (concat_map h ns)
  unfolding concat_map filter
  without_idle g h none [] = refl
  without_idle g h none (n ∷ ns) =
      by_cases (f n)
      (λ e. rw (e, filter) (filter_append g (h n) (concat_map h (filter f ns)) ∙ (ap (λ (xs : List ℕ). filter g (h n) ++ xs) (without_idle g h none ns) ∙ sym (filter_append g (h n) (concat_map h ns)))))
      (λ e. rw (e, filter) (without_idle g h none ns ∙ sym (filter_append g (h n) (concat_map h ns) ∙ rw (none n e))))

-- ---- a name that is not flagged has no part that joins

places : {P : ℕ → Type 0} (xs : List ℕ) → ((i : ℕ) → i < length xs → P (get_or xs i 0)) → Each P xs
places [] h = Each.nil
places (x ∷ xs) h = Each.cons (h 0 (omega arith)) (places xs (λ i l. h (suc i) (omega arith)))

module _ (k : Counts) (t : List ℕ) (flags : List Bool) (tracked : List ℕ) where
  nothing_new : (n : ℕ) → flagged flags n ≡ false → (ps : List ℕ) → Each (λ p. elem p tracked ≡ false → flagged flags (part_name k t p) ≡ true) ps
      → filter (λ p. not (elem p tracked)) (filter (λ p. eqb (part_name k t p) n) ps) ≡ []
  unfolding filter
  nothing_new n e [] x = refl
  nothing_new n e (p ∷ ps) (Each.cons x xs) =
      by_cases (eqb (part_name k t p) n)
      (λ z. by_cases (elem p tracked) (λ w. rw (z, filter, w) (nothing_new n e ps xs))
      (λ w. absurd (false≢true (sym e ∙ (ap (flagged flags) (sym (eqb-true (part_name k t p) n z)) ∙ x w)))))
      (λ z. rw (z, filter) (nothing_new n e ps xs))

  -- the names of all named parts that join are flagged
  pub joiners_idle : (named : ℕ) (st : ℕ → List ℕ) → length (listed named 8 st) ≡ named → ((p : ℕ) → is_marked 11 p st ≡ elem p tracked) → JoinersNoted k t named st named flags
      → (n : ℕ) → flagged flags n ≡ false → filter (λ p. not (elem p tracked)) (filter (λ p. eqb (part_name k t p) n) (listed named 8 st)) ≡ []
  joiners_idle named st h marks x n e = nothing_new n e (listed named 8 st) (places (listed named 8 st) (λ i l z. x.is i (omega arith) (marks _ ∙ z)))
