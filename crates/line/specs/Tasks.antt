-- A task as a number: owners, names, conditions, requirements, constraints and drawn entries, one kind behind the other.
use Rattle.std.specs.Prelude.{cond, ℕ, ◌+◌, ◌-◌, ◌<◌, ltb, ⊤}
use Rattle.line.specs.declared.Task.{Task}
use Rattle.line.specs.declared.Task.TheVariants.{Owner, Name, Condition, Requirement, Constraint, Drawn}

unfoldable pub task_of : ℕ → Task
task_of x =
    cond (ltb x 1025) (Owner x)
    (cond (ltb x 1089) (Name (x - 1025))
    (cond (ltb x 2113) (Condition (x - 1089))
    (cond (ltb x 3137) (Requirement (x - 2113))
    (cond (ltb x 3649) (Constraint (x - 3137)) (Drawn (x - 3649))))))

abbrev pub task_number : Task → ℕ
task_number (Owner o) = o
task_number (Name n) = 1025 + n
task_number (Condition q) = 1089 + q
task_number (Requirement q) = 2113 + q
task_number (Constraint k) = 3137 + k
task_number (Drawn e) = 3649 + e

-- its number stands for no task of another kind
abbrev pub HasNumber : Task → Type 0
HasNumber (Owner o) = o < 1025
HasNumber (Name n) = n < 64
HasNumber (Condition q) = q < 1024
HasNumber (Requirement q) = q < 1024
HasNumber (Constraint k) = k < 512
HasNumber (Drawn e) = ⊤
