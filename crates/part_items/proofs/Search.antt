-- The search for a part of a name that has a flag.
use mathlib.Core.Path.{◌≡◌, refl, sym, ◌∙◌, ap}
use mathlib.Core.Bool.{Bool, true, false, not, ◌||◌}
use mathlib.Core.List.{List}
use Prim.Native.Nat.{ℕ, ◌+◌, ◌<◌, ◌≤◌}
use native.Mathlib.Omega.{arith}
use native.Mathlib.Numerals.{add-one}
use lib.ListN.{length, get_or, drop, drop_of_length-le}
use lib.Seq.{drop-cons}
use Rattle.rules.specs.Lists.{any}
use Rattle.rules.specs.Catalogue.{Part, no_part}
use Rattle.tables.specs.declared.Counts.{Counts}
use Rattle.tables.specs.declared.Flag.{Flag}
use Rattle.tables.specs.Tables.{tables}
use Rattle.tables.proofs.Laws.{parts_counted}
use Rattle.kept.specs.declared.Vacancy.{Vacancy}
use Rattle.kept.specs.Vacancies.{knows_none, nothing_known, in_flags, Vacant}
use Rattle.part_items.specs.Second.{such, is_second, Known}

-- none of the first p parts is so
pub record Unseen (ps : List Part) (w : Flag) (n p : ℕ) : Type 0 where
  pub left : any (such w n) (drop p ps) ≡ any (such w n) ps

pub unseen_start : (ps : List Part) (w : Flag) (n : ℕ) → Unseen ps w n 0
unseen_start ps w n = record { left = refl }

module _ (k : Counts) (t : List ℕ) (w : Flag) (n p : ℕ) (x : Unseen (tables k t).parts w n p) (h : p < k.parts) where
  abbrev ps : List Part
  ps = (tables k t).parts

  opened : any (such w n) (drop p ps) ≡ (such w n (get_or ps p no_part) || any (such w n) (drop (p + 1) ps))
  unfolding any
  opened =
      let l : p < length ps = omega (arith, parts_counted k t) in
      ap (any (such w n)) (drop-cons ps p no_part l) ∙ rw add-one

  pub unseen_step : (b : Bool) → b ≡ such w n (get_or ps p no_part) → b ≡ false → Unseen ps w n (p + 1)
  unseen_step b e f = record { left = sym (rw (← e, f) at opened) ∙ x.left }

  pub found : (b : Bool) → b ≡ such w n (get_or ps p no_part) → b ≡ true → true ≡ any (such w n) ps
  found b e f = sym (rw (← e, f) at opened) ∙ x.left

pub none_left : (k : Counts) (t : List ℕ) (w : Flag) (n p : ℕ) → Unseen (tables k t).parts w n p → k.parts ≤ p → false ≡ any (such w n) (tables k t).parts
unfolding any
none_left k t w n p x h =
    let l : length (tables k t).parts ≤ p = omega (arith, parts_counted k t) in
    sym (ap (any (such w n)) (drop_of_length-le (tables k t).parts l)) ∙ x.left

-- ---- is a part a second one? Where the flag is set, and it is not known that none has it

module _ (ps : List Part) (w : Flag) (n f : ℕ) (a : Bool) (d : a ≡ in_flags w f) where
  pub second_unset : a ≡ false → (x : Bool) → x ≡ a → x ≡ is_second ps w n f
  unfolding is_second
  second_unset h x e = rw (← d, h) (e ∙ h)

  pub second_searched : a ≡ true → (k : Counts) (t : List ℕ) → (tables k t).parts ≡ ps → (b : Bool) → b ≡ any (such w n) (tables k t).parts → b ≡ is_second ps w n f
  unfolding is_second
  second_searched h k t x b e = rw (← d, h) (rw x at e)

  pub second_known : a ≡ true → (v : Vacancy) (b x : Bool) → b ≡ knows_none v w → x ≡ not b → x ≡ false → Known v n ps → x ≡ is_second ps w n f
  unfolding is_second
  second_known h v b x e g i y = rw (← d, h) (i ∙ sym (y.none w (sym e ∙ not_is b (sym g ∙ i))))
    where
      not_is : (b : Bool) → not b ≡ false → b ≡ true
      not_is true q = refl
      not_is false q = sym q

pub known_of : (vs : List Vacancy) (ps : List Part) (n : ℕ) (v : Vacancy) → v ≡ get_or vs n nothing_known → Vacant vs ps → Known v n ps
known_of vs ps n v q y = record { none = λ w h. y.none w n (rw q at h) }
