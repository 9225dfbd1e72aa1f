-- For callers too: the variables and decisions of a state are those of its assignment.
use mathlib.Core.Path.{◌≡◌}
use Rattle.encoder.specs.declared.State.{State}
use Rattle.encoder.specs.declared.Assignment.{Assignment}
use Rattle.encoder.specs.Does.{variables_of, decisions_of}
use Rattle.encoder.specs.Assignments.{variables_in, decisions_in, AssignmentOf}

module _ {x : State} {a : Assignment} (e : AssignmentOf x a) where
  pub variables_same : variables_in a ≡ variables_of x
  variables_same = rw (e.area, e.limits, e.variables)

  pub decisions_same : decisions_in a ≡ decisions_of x
  decisions_same = rw (e.area, e.limits, e.decisions)
