-- An owner's records one after another, and a task that is served.
use Rattle.std.specs.Prelude.{◌≡◌, Bool, ◌&&◌, ℕ, ◌<◌, length}
use Rattle.rules.specs.Lists.{when}
use Rattle.rules.specs.Catalogue.{Owner, Catalogue, constraint_at, owner_at, range_name, same_owner}
use Rattle.rules.specs.Conditions.{unconditional}
use Rattle.rules.specs.Opening.{Task, constraint, Opening, queue, open_name, open_names, ranges_of, task_by}
use Rattle.rules.specs.State.{State}
use Rattle.rules.specs.State as rules
use Rattle.rules.specs.Run.{serve_task}
use Rattle.rules.proofs.Forgotten.{forget}
use Rattle.requirement.specs.declared.Owner as code
use Rattle.requirement.specs.declared.Owner.TheVariants.{Part}
use Rattle.tables.specs.declared.Counts.{Counts}
use Rattle.encoder.specs.Held.{Reading}
use Rattle.owners.specs.declared.Rule.{Rule}
use Rattle.owners.specs.declared.Rule.TheVariants.{OpenRequirement, OpenConstraint, QueueRequirement, QueueConstraint}

-- an owner of the tables: the root, or a part below the ceiling of parts
pub record OwnerNumber (o : code.Owner) : Type 0 where
  pub low : (p : ℕ) → o ≡ Part p → p < 1024

-- record i, if it is this owner's
unfoldable pub rule_of : Catalogue → Reading → Rule → Owner → ℕ → Opening → Opening
rule_of c v OpenRequirement o q = when (same_owner o (owner_at c q) && unconditional c q) (open_names c (ranges_of c q))
rule_of c v OpenConstraint o k = when (same_owner o (constraint_at c k).owner) (open_name (range_name c (constraint_at c k).range))
rule_of c v QueueRequirement o q = when (same_owner o (owner_at c q)) (queue (task_by c (unconditional c q) q))
rule_of c v QueueConstraint o k = when (same_owner o (constraint_at c k).owner) (queue (constraint k))

-- is record i this owner's?
unfoldable pub is_of : Catalogue → Rule → Owner → ℕ → Bool
is_of c OpenRequirement o q = same_owner o (owner_at c q)
is_of c OpenConstraint o k = same_owner o (constraint_at c k).owner
is_of c QueueRequirement o q = same_owner o (owner_at c q)
is_of c QueueConstraint o k = same_owner o (constraint_at c k).owner

unfoldable pub count_of : Catalogue → Rule → ℕ
count_of c OpenRequirement = length c.requirements
count_of c OpenConstraint = length c.constraints
count_of c QueueRequirement = length c.requirements
count_of c QueueConstraint = length c.constraints

unfoldable pub cardinal : Counts → Rule → ℕ
cardinal k OpenRequirement = k.requirements
cardinal k OpenConstraint = k.constraints
cardinal k QueueRequirement = k.requirements
cardinal k QueueConstraint = k.constraints

-- a task is served; what was handled and fired is not kept
unfoldable pub serving : Catalogue → rules.Run → Task → State → State
serving c r t s = forget (serve_task c r t s)
