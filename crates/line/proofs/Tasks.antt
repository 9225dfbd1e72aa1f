-- Tasks by their numbers: a law for each case.
use mathlib.Core.Path.{◌≡◌, sym, ap, ◌∙◌}
use Prim.Native.Nat.{ℕ, ◌+◌, ◌-◌, ◌<◌, ◌≤◌}
use native.Mathlib.Omega.{arith}
use borrow.Author.Tests.{lt-ltb, le-ltb}
use Rattle.line.specs.declared.Task.TheVariants.{Owner, Name, Condition, Requirement, Constraint, Drawn}
use Rattle.line.specs.declared.Task.{Task}
use Rattle.line.specs.Tasks.{task_of, task_number, HasNumber}

module _ (x : ℕ) where
  pub task_owner : x < 1025 → Owner x ≡ task_of x
  unfolding task_of
  task_owner h = rw (lt-ltb x 1025 h)

  pub task_name : 1025 ≤ x → x < 1089 → Name (x - 1025) ≡ task_of x
  unfolding task_of
  task_name g h = rw (le-ltb x 1025 g, lt-ltb x 1089 h)

  pub task_condition : 1089 ≤ x → x < 2113 → Condition (x - 1089) ≡ task_of x
  unfolding task_of
  task_condition g h = rw (le-ltb x 1025 (omega arith), le-ltb x 1089 g, lt-ltb x 2113 h)

  pub task_requirement : 2113 ≤ x → x < 3137 → Requirement (x - 2113) ≡ task_of x
  unfolding task_of
  task_requirement g h = rw (le-ltb x 1025 (omega arith), le-ltb x 1089 (omega arith), le-ltb x 2113 g, lt-ltb x 3137 h)

  pub task_constraint : 3137 ≤ x → x < 3649 → Constraint (x - 3137) ≡ task_of x
  unfolding task_of
  task_constraint g h = rw (le-ltb x 1025 (omega arith), le-ltb x 1089 (omega arith), le-ltb x 2113 (omega arith), le-ltb x 3137 g, lt-ltb x 3649 h)

  pub task_drawn : 3649 ≤ x → Drawn (x - 3649) ≡ task_of x
  unfolding task_of
  task_drawn g =
      rw (le-ltb x 1025 (omega arith), le-ltb x 1089 (omega arith), le-ltb x 2113 (omega arith), le-ltb x 3137 (omega arith), le-ltb x 3649 g)

-- and back
pub number_back : (t : Task) → HasNumber t → task_of (task_number t) ≡ t
number_back (Owner o) h = sym (task_owner o h)
number_back (Name n) h = let e : 1025 + n - 1025 ≡ n = omega arith in sym (task_name (1025 + n) (omega arith) (omega arith)) ∙ ap Name e
number_back (Condition q) h = let e : 1089 + q - 1089 ≡ q = omega arith in sym (task_condition (1089 + q) (omega arith) (omega arith)) ∙ ap Condition e
number_back (Requirement q) h = let e : 2113 + q - 2113 ≡ q = omega arith in sym (task_requirement (2113 + q) (omega arith) (omega arith)) ∙ ap Requirement e
number_back (Constraint k) h = let e : 3137 + k - 3137 ≡ k = omega arith in sym (task_constraint (3137 + k) (omega arith) (omega arith)) ∙ ap Constraint e
number_back (Drawn e) h = let d : 3649 + e - 3649 ≡ e = omega arith in sym (task_drawn (3649 + e) (omega arith)) ∙ ap Drawn d
