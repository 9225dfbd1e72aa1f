-- The ranges of the longest disjunct: of joined halves, of one disjunct, and as refusal 6 tests it.
use mathlib.Core.Path.{◌≡◌, refl, sym}
use mathlib.Core.Bool.{Bool, true, false, ◌||◌}
use mathlib.Core.List.{List, [], ◌∷◌, ◌++◌, map}
use Prim.Native.Nat.{ℕ, zero, suc, ◌+◌, ◌≤◌, max}
use native.Mathlib.Nat.{not-suc-le-zero}
use native.Mathlib.Omega.{arith}
use lib.Dec.{ltb}
use lib.ListN.{length, get_or, length-append}
use borrow.Author.Tests.{ltb-true, ltb-false, lt-ltb, le-ltb}
use Rattle.rules.specs.Lists.{any, concat_map}
use Rattle.rules.specs.Catalogue.{and, or}
use Rattle.rules.specs.Conditions.{Disjunct, combined, too_wide, too_many_disjuncts}
use Rattle.conditions.specs.Sizes.{longest}

-- ---- joined halves

longest_append : (ls rs : List Disjunct) → longest (ls ++ rs) ≡ max (longest ls) (longest rs)
unfolding longest
longest_append [] rs = omega arith
longest_append (l ∷ ls) rs = omega (arith, longest_append ls rs)

pub longest_or : (ls rs : List Disjunct) → longest (combined or ls rs) ≡ max (longest ls) (longest rs)
unfolding combined
longest_or ls rs = longest_append ls rs

longest_none : longest [] ≡ 0
unfolding longest
longest_none = refl

longest_more : (d : Disjunct) (ds : List Disjunct) → longest (d ∷ ds) ≡ max (length d) (longest ds)
unfolding longest
longest_more d ds = refl

longest_behind : (l r : Disjunct) (rs : List Disjunct) → longest (map (λ x. l ++ x) (r ∷ rs)) ≡ length l + longest (r ∷ rs)
unfolding longest
longest_behind l r [] = omega (arith, length-append l r)
longest_behind l r (q ∷ rs) = omega (arith, length-append l r, longest_behind l q rs)

module _ (r : Disjunct) (rs : List Disjunct) where
  -- the disjuncts that begin with l
  abbrev behind : Disjunct → List Disjunct
  behind l = map (λ x. l ++ x) (r ∷ rs)

  longest_each : (l : Disjunct) (ls : List Disjunct) → longest (concat_map behind (l ∷ ls)) ≡ longest (l ∷ ls) + longest (r ∷ rs)
  unfolding concat_map
  longest_each l [] = omega (arith, longest_append (behind l) [], longest_behind l r rs, longest_none, longest_more l [])
  longest_each l (q ∷ ls) =
      omega (arith, longest_append (behind l) (concat_map behind (q ∷ ls)), longest_behind l r rs, longest_each q ls, longest_more l (q ∷ ls))

pub longest_and : (ls rs : List Disjunct) → 1 ≤ length ls → 1 ≤ length rs → longest (combined and ls rs) ≡ longest ls + longest rs
unfolding combined
longest_and [] rs h g = absurd (not-suc-le-zero h)
longest_and (l ∷ ls) [] h g = absurd (not-suc-le-zero g)
longest_and (l ∷ ls) (r ∷ rs) h g = longest_each r rs l ls

-- ---- one disjunct

pub at_most_longest : (ds : List Disjunct) (i : ℕ) → length (get_or ds i []) ≤ longest ds
unfolding longest
at_most_longest [] i = omega arith
at_most_longest (d ∷ ds) zero = omega arith
at_most_longest (d ∷ ds) (suc i) = omega (arith, at_most_longest ds i)

-- ---- refusal 6

either_longer : (n a b : ℕ) → (ltb n a || ltb n b) ≡ ltb n (max a b)
either_longer n a b = go (ltb n a) refl (ltb n b) refl
  where
    go : (x : Bool) → ltb n a ≡ x → (y : Bool) → ltb n b ≡ y → (x || y) ≡ ltb n (max a b)
    go true e y f = let h = ltb-true n a e in sym (lt-ltb n (max a b) (omega arith))
    go false e true f = let h = ltb-true n b f in sym (lt-ltb n (max a b) (omega arith))
    go false e false f =
        let h = ltb-false n a e in
        let g = ltb-false n b f in
        sym (le-ltb n (max a b) (omega arith))

pub too_wide_law : (ds : List Disjunct) → too_wide ds ≡ ltb 16 (longest ds)
unfolding too_wide any longest
too_wide_law [] = refl
too_wide_law (d ∷ ds) = rw (too_wide_law ds) (either_longer 16 (length d) (longest ds))

pub too_many : (ds : List Disjunct) → too_many_disjuncts ds ≡ ltb 64 (length ds)
unfolding too_many_disjuncts
too_many ds = refl
