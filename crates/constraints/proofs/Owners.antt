-- A constraint's owner and range, by the tables, and the owner's origin.
use mathlib.Core.Path.{◌≡◌, refl, sym, ◌∙◌, ap}
use mathlib.Core.Bool.{true}
use mathlib.Core.List.{List}
use Prim.Native.Nat.{ℕ, ◌<◌}
use lib.ListN.{get_or}
use borrow.Author.Tests.{lt-ltb}
use Rattle.rules.specs.Catalogue as rules
use Rattle.rules.specs.Catalogue.{no_constraint, constraint_at}
use Rattle.rules.specs.Variables.{chosen, violation}
use Rattle.requirement.specs.declared.Owner.{Owner}
use Rattle.requirement.specs.declared.Owner.TheVariants.{Root, Part}
use Rattle.requirement.specs.Requirements.{owner_is}
use Rattle.tables.specs.declared.Counts.{Counts}
use Rattle.tables.specs.declared.Constraint as code
use Rattle.tables.specs.Tables.{tables, constraint_is}
use Rattle.cache.specs.Areas.{catalogue}
use Rattle.cache.proofs.Laws.{constraint_held}
use Rattle.variable_map.specs.declared.Origin as variable_map
use Rattle.variable_map.specs.Mapping.{origin_of, in_tables}
use Rattle.owners.specs.Owners.{OwnerNumber}

-- ---- origins

pub owner_fits : (w : variable_map.Origin) (o : Owner) → origin_of w ≡ chosen (owner_is o) → OwnerNumber o → in_tables (origin_of w) ≡ true
unfolding in_tables
owner_fits w Root e h = rw e
owner_fits w (Part p) e h = rw e (lt-ltb p 1024 (h.low p refl))

pub violation_fits : (r : ℕ) → r < 512 → in_tables (violation r) ≡ true
unfolding in_tables
violation_fits r h = lt-ltb r 512 h

-- ---- the record

module _ (k : Counts) (m u t : List ℕ) (i : ℕ) (it : code.Constraint) (e : constraint_is it ≡ get_or (tables k t).constraints i no_constraint) where
  constraint_is_law : constraint_at (catalogue k m u t) i ≡ constraint_is it
  constraint_is_law = constraint_held k m u t i ∙ sym e

  pub range_at : (constraint_at (catalogue k m u t) i).range ≡ it.range
  unfolding constraint_is
  range_at = ap (λ (x : rules.Constraint). x.range) constraint_is_law

  pub owner_at_law : (constraint_at (catalogue k m u t) i).owner ≡ owner_is it.owner
  unfolding constraint_is
  owner_at_law = ap (λ (x : rules.Constraint). x.owner) constraint_is_law
