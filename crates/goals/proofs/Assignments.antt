-- For callers too: what is decided of the parts of a state is decided of those of its assignment.
use mathlib.Core.Path.{◌≡◌, ◌∙◌, ap}
use mathlib.Core.Bool.{Bool}
use mathlib.Core.List.{List}
use Prim.Native.Nat.{ℕ}
use Rattle.rules.specs.Lists.{any}
use Rattle.encoder.specs.declared.State.{State}
use Rattle.encoder.specs.declared.Assignment.{Assignment}
use Rattle.encoder.specs.Assignments.{AssignmentOf}
use Rattle.encoder.proofs.Assignments.{variables_same, decisions_same}
use Rattle.goals.specs.Goals.{truth_of, truth_in}

module _ {x : State} {a : Assignment} (e : AssignmentOf x a) where
  pub truth_same : truth_in a ≡ truth_of x
  truth_same = rw (variables_same e, decisions_same e)

  pub any_same : {b : Bool} (ps : List ℕ) → b ≡ any (truth_in a) ps → b ≡ any (truth_of x) ps
  any_same ps q = q ∙ ap (λ (f : ℕ → Bool). any f ps) truth_same
