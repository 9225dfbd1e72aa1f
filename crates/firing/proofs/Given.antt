-- Every range of a disjunct is given, and so is its name.
use mathlib.Core.Path.{◌≡◌}
use mathlib.Core.Bool.{Bool, true, false}
use mathlib.Core.List.{List, [], ◌∷◌, ◌++◌, map}
use Prim.Native.Nat.{ℕ, zero, suc, ◌<◌, ◌≤◌}
use native.Mathlib.Omega.{arith}
use lib.Dec.{eqb}
use lib.ListN.{length, get_or}
use borrow.Author.Tests.{lt-ltb}
use Rattle.rules.specs.Lists.{concat_map}
use Rattle.rules.specs.Catalogue.{Operator, and, or, Condition, leaf, joined, Catalogue, no_condition}
use Rattle.rules.specs.Conditions.{Disjunct, combined, from_halves, disjuncts_below, disjuncts}
use Rattle.rules.specs.Variables.{one}
use Rattle.rules.proofs.Each.{Each, each_append, each_imp, each_map, each_at}
use Rattle.rules.proofs.WellFormed.{ConditionFits, WellFormed}
use Rattle.tables.specs.declared.Counts.{Counts}
use Rattle.tables.specs.Tables.{tables}
use Rattle.cache.specs.Areas.{catalogue}
use Rattle.cache.proofs.Laws.{ranges_held, conditions_held, conditions_same}
use Rattle.variable_map.specs.Mapping.{in_tables}
use Rattle.index.specs.Catalogued.{Catalogued}
use Rattle.owners.proofs.Names.{range_low}

module _ (c : Catalogue) where
  abbrev AllGiven : Disjunct → Type 0
  AllGiven d = Each (λ r. r < length c.ranges) d

  -- each right half behind each left one
  both_given : (ls rs : List Disjunct) → Each AllGiven ls → Each AllGiven rs → Each AllGiven (concat_map (λ l. map (λ r. l ++ r) rs) ls)
  unfolding concat_map
  both_given [] rs Each.nil q = Each.nil
  both_given (l ∷ ls) rs (Each.cons p ps) q = each_append (each_map (λ r. l ++ r) rs (each_imp (λ r h. each_append p h) q)) (both_given ls rs ps q)

  combined_given : (o : Operator) (ls rs : List Disjunct) → Each AllGiven ls → Each AllGiven rs → Each AllGiven (combined o ls rs)
  unfolding combined
  combined_given or ls rs p q = each_append p q
  combined_given and ls rs p q = both_given ls rs p q

  halves_given : (k : ℕ) (x : Condition) (half : ℕ → List Disjunct) → ConditionFits c k x → ((j : ℕ) → Each AllGiven (half j)) → Each AllGiven (from_halves x half)
  unfolding from_halves
  halves_given k (leaf r) half h f = Each.cons (Each.cons h Each.nil) Each.nil
  halves_given k (joined o l r) half h f = combined_given o (half l) (half r) (f l) (f r)

  module _ (w : WellFormed c) where
    below_given : (n k : ℕ) → n ≤ length c.conditions → Each AllGiven (disjuncts_below c.conditions n k)
    unfolding disjuncts_below
    below_given zero k h = Each.nil
    below_given (suc n) k h = go (eqb k n) (λ j. below_given n j (omega arith))
      where
        go : (b : Bool) → ((j : ℕ) → Each AllGiven (disjuncts_below c.conditions n j))
            → Each AllGiven (elim b [ true ↦ from_halves (get_or c.conditions n no_condition) (disjuncts_below c.conditions n) | false ↦ disjuncts_below c.conditions n k ])
        go true f = halves_given n (get_or c.conditions n no_condition) (disjuncts_below c.conditions n) (w.conditions n h) f
        go false f = f k

    disjuncts_given : (k : ℕ) → k < length c.conditions → Each AllGiven (disjuncts c.conditions k)
    unfolding disjuncts
    disjuncts_given k h = below_given (suc k) k h

-- a range of a disjunct
pub range_given : (k : Counts) (m u t : List ℕ) (x i : ℕ) → Catalogued k m u t → x < k.conditions → i < length (disjuncts (tables k t).conditions x)
    → {rs : List ℕ} → rs ≡ get_or (disjuncts (tables k t).conditions x) i [] → (j : ℕ) → j < length rs → get_or rs j 0 < k.ranges
range_given k m u t x i w h g {rs} e j b =
    let c = catalogue k m u t in
    let ds = rw (conditions_same k m u t) at (disjuncts_given c w.formed x (rw conditions_held h)) in
    let here : j < length (get_or (disjuncts (tables k t).conditions x) i []) = rw e at b in
    let low : get_or rs j 0 < length c.ranges = rw e (each_at (each_at ds i [] g) j 0 here) in
    omega (arith, ranges_held k m u t)

-- one-of-name of a given range has its place among the variables
pub one_fits : (k : Counts) (m u t : List ℕ) (r : ℕ) {x : ℕ} → Catalogued k m u t → r < k.ranges → x ≡ get_or (tables k t).ranges r 0 → in_tables (one x) ≡ true
unfolding in_tables
one_fits k m u t r {x} w h e = lt-ltb x 64 (range_low k m u t w.formed w.kept h e)
