-- A task of the line, as the code serves it.
use Rattle.std.specs.Prelude.{false, ◌≡◌, List, ℕ, ◌<◌, length, get_or}
use Rattle.rules.specs.Catalogue.{Catalogue}
use Rattle.rules.specs.Conditions.{unconditional}
use Rattle.rules.specs.Opening.{owner, name, requirement, constraint}
use Rattle.rules.specs.State.{State, Run, decided_true}
use Rattle.rules.proofs.Valid.{Entry}
use Rattle.rules.proofs.WellFormed.{OwnerGiven}
use Rattle.marked.specs.Marked.{owner_of}
use Rattle.line.specs.declared.Task.{Task}
use Rattle.line.specs.declared.Task.TheVariants.{Owner, Name, Condition, Requirement, Constraint, Drawn}
use Rattle.entries.specs.Entries.{no_entry}
use Rattle.encoder.specs.Held.{Reading, fired_now, drawn_task}
use Rattle.owners.specs.Owners.{serving}
use Rattle.firing.specs.Firing.{condition_served}

module _ (c : Catalogue) (r : Run) where
  -- for the disjuncts that hold now
  unfoldable pub served_fired : ℕ → State → State
  served_fired q s = serving c r (requirement q (fired_now c (decided_true s) q)) s

  -- `ds`: the drawn entries
  unfoldable pub served_drawn : List (ℕ × ℕ) → ℕ → State → State
  served_drawn ds e s = serving c r (drawn_task (get_or ds e no_entry)) s

  unfoldable pub served_as : List (ℕ × ℕ) → Reading → Task → State → State
  served_as ds v (Owner o) s = serving c r (owner (owner_of o)) s
  served_as ds v (Name n) s = serving c r (name n) s
  served_as ds v (Condition q) s = condition_served c v q s
  served_as ds v (Requirement q) s = served_fired q s
  served_as ds v (Constraint k) s = serving c r (constraint k) s
  served_as ds v (Drawn e) s = served_drawn ds e s

-- its number names something given
abbrev pub Given : Catalogue → List (ℕ × ℕ) → Task → Type 0
Given c ds (Owner o) = (o < 1025) × OwnerGiven c (owner_of o)
Given c ds (Name n) = n < length c.names
Given c ds (Condition q) = (q < length c.requirements) × (unconditional c q ≡ false)
Given c ds (Requirement q) = q < length c.requirements
Given c ds (Constraint k) = k < length c.constraints
Given c ds (Drawn e) = (e < length ds) × Entry c (get_or ds e no_entry)

pub record TaskGiven (c : Catalogue) (ds : List (ℕ × ℕ)) (t : Task) : Type 0 where
  pub given : Given c ds t
