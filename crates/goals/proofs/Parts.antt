-- A pass over the parts: what is left of a range's matching parts from part p on. And lists from a place on.
use mathlib.Core.Path.{◌≡◌, refl}
use mathlib.Core.Bool.{Bool, true, false, ◌&&◌, true≢false}
use mathlib.Core.List.{List, [], ◌∷◌, ◌++◌}
use Prim.Native.Nat.{ℕ, suc, ◌+◌, ◌-◌, ◌<◌, ◌≤◌}
use native.Mathlib.Numerals.{add-one}
use native.Mathlib.Omega.{arith}
use lib.Dec.{eqb}
use lib.ListN.{length}
use Rattle.rules.specs.Lists.{filter, all, up_to}
use Rattle.rules.specs.Catalogue.{Catalogue, name_of, range_name}
use Rattle.rules.specs.Candidates.{member, parts_of, matching}
use Rattle.rules.proofs.Bools.{by_cases, and_left, and_right}
use Rattle.tables.specs.declared.Counts.{Counts}
use Rattle.cache.specs.declared.Choice.TheVariants.{Matching}
use Rattle.cache.specs.Areas.{catalogue}
use Rattle.cache.specs.Lists.{asked, chosen}
use Rattle.cache.proofs.Laws.{parts_held}

module _ {A : Type 0} (f g : A → Bool) (x : A) (xs : List A) where
  pub both_here : (g x && f x) ≡ true → filter f (filter g (x ∷ xs)) ≡ x ∷ filter f (filter g xs)
  unfolding filter
  both_here e = rw (and_left (g x) (f x) e, filter, and_right (g x) (f x) e, filter)

  pub both_past : (g x && f x) ≡ false → filter f (filter g (x ∷ xs)) ≡ filter f (filter g xs)
  unfolding filter
  both_past e =
      by_cases (g x) (λ h. by_cases (f x) (λ d. absurd (true≢false (rw (h, d) at e))) (λ d. rw (h, filter, d, filter))) (λ h. rw (h, filter))

pub all_both : {A : Type 0} (f : A → Bool) (xs ys : List A) → all f (xs ++ ys) ≡ (all f xs && all f ys)
unfolding all
all_both f [] ys = refl
all_both f (x ∷ xs) ys = by_cases (f x) (λ h. rw (h, all_both f xs ys)) (λ h. rw h)

-- ---- the matching parts from part p on

unfoldable pub onward : Catalogue → ℕ → ℕ → List ℕ
onward c r p = filter (member c r) (filter (λ q. eqb (name_of c q) (range_name c r)) (up_to p (length c.parts - p)))

module _ (k : Counts) (m u t : List ℕ) (r : ℕ) where
  abbrev held : Catalogue
  held = catalogue k m u t

  pub onward_start : onward held r 0 ≡ matching held r
  unfolding onward matching parts_of
  onward_start =
      let e : length held.parts - 0 ≡ length held.parts = omega arith in
      rw e

  module _ (p : ℕ) where
    opened : p < k.parts → up_to p (length held.parts - p) ≡ p ∷ up_to (p + 1) (length held.parts - (p + 1))
    unfolding up_to
    opened h =
        let e : length held.parts - p ≡ suc (length held.parts - (p + 1)) = omega (arith, parts_held k m u t) in
        rw (e, add-one p)

    pub onward_here : p < k.parts → chosen held r Matching p ≡ true → onward held r p ≡ p ∷ onward held r (p + 1)
    unfolding onward chosen asked
    onward_here h e = rw (opened h) (both_here (member held r) (λ q. eqb (name_of held q) (range_name held r)) p (up_to (p + 1) (length held.parts - (p + 1))) e)

    pub onward_past : p < k.parts → chosen held r Matching p ≡ false → onward held r p ≡ onward held r (p + 1)
    unfolding onward chosen asked
    onward_past h e = rw (opened h) (both_past (member held r) (λ q. eqb (name_of held q) (range_name held r)) p (up_to (p + 1) (length held.parts - (p + 1))) e)

    pub onward_end : k.parts ≤ p → onward held r p ≡ []
    unfolding onward up_to filter
    onward_end h =
        let e : length held.parts - p ≡ 0 = omega (arith, parts_held k m u t) in
        rw e
