-- For callers: refusal 6 by sizes, and what keeps tables sized: a condition put with its right size, and whatever touches no condition.
use mathlib.Core.Path.{◌≡◌, refl, sym, ap, ◌∙◌}
use mathlib.Core.List.{List, [], ◌∷◌}
use Prim.Native.Nat.{ℕ, ◌+◌, ◌<◌, ◌≤◌}
use native.Mathlib.Nat.{mul-le-mul}
use native.Mathlib.Numerals.{add-one}
use native.Mathlib.Decide.{dec_lt}
use native.Mathlib.Omega.{arith}
use lib.Dec.{ltb}
use lib.ListN.{length}
use Rattle.rules.specs.Lists.{snoc}
use Rattle.rules.specs.Catalogue.{Operator, and, or, Condition, leaf, joined, no_condition}
use Rattle.rules.specs.Conditions.{Disjunct, combined, disjuncts, too_wide, too_many_disjuncts}
use Rattle.rules.proofs.ListLaws.{length_snoc, each_snoc, no_element}
use Rattle.rules.proofs.DisjunctLaws.{disjuncts_old, disjuncts_new_leaf, disjuncts_new_joined, length_or, length_and}
use Rattle.tables.specs.declared.Counts.{Counts}
use Rattle.tables.specs.declared.Size as S
use Rattle.tables.specs.Tables.{Size, Tables, tables, size_is}
use Rattle.tables.specs.Tables.{with_condition}
use Rattle.tables.proofs.Listed.{listed_more, listed_same, listed_length}
use Rattle.tables.proofs.Laws.{conditions_counted, sizes_counted}
use Rattle.conditions.specs.Sizes.{longest, size_of, sizes_of, Allowed, Earlier, Sized}
use Rattle.conditions.proofs.Longest.{too_wide_law, too_many}
use Rattle.conditions.proofs.Sizing.{count_is, longest_is}

-- ---- refusal 6

module _ (z : S.Size) (ds : List Disjunct) (e : size_is z ≡ size_of ds) where
  pub too_many_by : too_many_disjuncts ds ≡ ltb 64 z.count
  too_many_by = rw (count_is z ds e) (too_many ds)

  pub too_wide_by : too_wide ds ≡ ltb 16 z.longest
  too_wide_by = rw (longest_is z ds e) (too_wide_law ds)

-- ---- no condition more

pub sized_same : (t t' : Tables) → t'.conditions ≡ t.conditions → t'.sizes ≡ t.sizes → Sized t → Sized t'
sized_same t t' e f s =
    record { sizes = rw (e, f) s.sizes; allowed = λ c h. rw e (s.allowed c (rw e at h)); earlier = λ c h. rw e (s.earlier c (rw e at h)) }

length_sizes : (cs : List Condition) → length (sizes_of cs) ≡ length cs
unfolding sizes_of
length_sizes cs = listed_length (length cs) (λ c. size_of (disjuncts cs c))

pub sized_none : (k : Counts) (b : List ℕ) → k.conditions ≡ 0 → Sized (tables k b)
sized_none k b e =
    let n : length (tables k b).conditions ≡ 0 = conditions_counted k b ∙ e in
    record {
      sizes = no_element (tables k b).sizes (sizes_counted k b ∙ e) ∙ sym (no_element (sizes_of (tables k b).conditions) (length_sizes (tables k b).conditions ∙ n));
      allowed = λ c h. let no_such : ⊥ = omega arith in absurd no_such;
      earlier = λ c h. let no_such : ⊥ = omega arith in absurd no_such;
    }

-- ---- one condition more

some_combined : (o : Operator) (ls rs : List Disjunct) → 1 ≤ length ls → 1 ≤ length rs → 1 ≤ length (combined o ls rs)
some_combined or ls rs h g = rw (length_or ls rs) (omega arith)
some_combined and ls rs h g = rw (length_and ls rs) (mul-le-mul h g)

module _ (t : Tables) (s : Sized t) where
  abbrev cs : List Condition
  cs = t.conditions

  module _ (x : Condition) (z : Size) (e : z ≡ size_of (disjuncts (snoc cs x) (length cs))) (a : Allowed (disjuncts (snoc cs x) (length cs)))
      (f : Earlier (length cs) x) where
    sizes_more : snoc t.sizes z ≡ sizes_of (snoc cs x)
    unfolding sizes_of
    sizes_more =
        let old : ℕ → Size = λ c. size_of (disjuncts cs c) in
        let new : ℕ → Size = λ c. size_of (disjuncts (snoc cs x) c) in
        let n : length (snoc cs x) ≡ length cs + 1 = length_snoc cs x ∙ sym (add-one (length cs)) in
        rw (n, listed_more (length cs) new, listed_same (length cs) new old (λ c h. rw (disjuncts_old cs x c h)), s.sizes, e)

    allowed_more : (c : ℕ) → c < length (snoc cs x) → Allowed (disjuncts (snoc cs x) c)
    allowed_more c h = elim (dec_lt c (length cs)) [
      | yes l ↦ rw (disjuncts_old cs x c l) (s.allowed c l)
      | no l ↦ let q : c ≡ length cs = omega (arith, length_snoc cs x) in rw q a
    ]

    sized_more : Sized (with_condition t x z)
    unfolding with_condition
    sized_more = record { sizes = sizes_more; allowed = allowed_more; earlier = each_snoc Earlier no_condition cs x s.earlier f }

  pub sized_leaf : (r : ℕ) → Sized (with_condition t (leaf r) (record { count = 1; longest = 1 }))
  unfolding size_of longest
  sized_leaf r =
      let q : disjuncts (snoc cs (leaf r)) (length cs) ≡ (r ∷ []) ∷ [] = disjuncts_new_leaf cs (leaf r) r refl in
      sized_more (leaf r) (record { count = 1; longest = 1 }) (rw q) (rw q (record { some = omega arith; most = omega arith; narrow = omega arith })) tt

  pub sized_joined : (o : Operator) (l r : ℕ) (z : Size) → l < length cs → r < length cs
      → z ≡ size_of (disjuncts (snoc cs (joined o l r)) (length cs)) → z.count ≤ 64 → z.longest ≤ 16
      → Sized (with_condition t (joined o l r) z)
  unfolding size_of
  sized_joined o l r z h g e m n =
      let q : disjuncts (snoc cs (joined o l r)) (length cs) ≡ combined o (disjuncts cs l) (disjuncts cs r) = disjuncts_new_joined cs (joined o l r) o l r refl h g in
      let some = rw (← q) at (some_combined o (disjuncts cs l) (disjuncts cs r) (s.allowed l h).some (s.allowed r g).some) in
      let most = rw (ap (λ (y : Size). y.count) e) at m in
      let narrow = rw (ap (λ (y : Size). y.longest) e) at n in
      sized_more (joined o l r) z e (record { some = some; most = most; narrow = narrow }) (h, g)
