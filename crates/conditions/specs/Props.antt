-- Sized tables are so in one way only.
use Rattle.std.specs.Prelude.{ℕ}
use Rattle.std.specs.Coded.{le_prop, Unit-prop}
use native.Mathlib.Nat.{ℕ_set}
use mathlib.Core.List.{is_set}
use Rattle.rules.specs.Catalogue.{Condition, leaf, joined}
use Rattle.tables.specs.Tables.{Tables}
use Rattle.conditions.specs.Sizes.{Earlier, Sized}

earlier_prop : (c : ℕ) (x : Condition) → IsProp (Earlier c x)
earlier_prop c (leaf r) = Unit-prop
earlier_prop c (joined o l r) = Prim.hlevel le_prop

pub sized_prop : (t : Tables) → IsProp (Sized t)
sized_prop t = Prim.hlevel (le_prop, ℕ_set, is_set, earlier_prop)
