-- What a handled requirement does makes nothing that is counted less.
use mathlib.Core.Bool.{Bool}
use mathlib.Core.List.{List}
use Prim.Native.Nat.{ℕ}
use Rattle.rules.specs.Lists.{distinct}
use Rattle.rules.specs.Catalogue.{Catalogue, owner_at, goal_at}
use Rattle.rules.specs.Candidates.{goal_ranges}
use Rattle.rules.specs.Variables.{chosen, gate}
use Rattle.rules.specs.Encoding.{Shape, direct, through_gate, on_firing, shape_of}
use Rattle.rules.specs.State.{State, Run}
use Rattle.rules.proofs.Capped.{add_variable}
use Rattle.encoder.specs.Did.{Widens}
use Rattle.encoder.proofs.Did.{widens_then, widens_fold}
use Rattle.encoder.proofs.Widening.{widens_when, add_variable_widens, add_clause_widens}
use Rattle.naming.specs.Naming.{name_disjuncts}
use Rattle.naming.proofs.Widening.{named_widens, disjuncts_widen}
use Rattle.handling.specs.Handling.{add_direct, add_gate, add_through_gate, add_fired, add_all_fired, add_by, handled}

module _ (c : Catalogue) (r : Run) (q : ℕ) where
  pub direct_widens : (s : State) → Widens s (add_direct c r q s)
  unfolding add_direct
  direct_widens s = add_clause_widens r _ s

  pub gate_widens : (new : Bool) (s : State) → Widens s (add_gate c r q new s)
  unfolding add_gate
  gate_widens new s = widens_when new _ (λ u. add_clause_widens r _ u) s

  pub through_gate_widens : (s : State) → Widens s (add_through_gate c r q s)
  unfolding add_through_gate
  through_gate_widens s = widens_then (add_variable_widens (gate (goal_at c q)) s) (widens_then (gate_widens _ _) (add_clause_widens r _ _))

  pub fired_widens : (i : ℕ) (s : State) → Widens s (add_fired c r q i s)
  unfolding add_fired
  fired_widens i s = add_clause_widens r _ s

  pub all_fired_widen : (is : List ℕ) (s : State) → Widens s (add_all_fired c r q is s)
  unfolding add_all_fired
  all_fired_widen is s = widens_fold (add_fired c r q) fired_widens is s

  pub added_widens : (h : Shape) (is : List ℕ) (s : State) → Widens s (add_by c r q h is s)
  unfolding add_by
  added_widens direct is s = direct_widens s
  added_widens through_gate is s = through_gate_widens s
  added_widens on_firing is s = widens_then (disjuncts_widen c q is s) (all_fired_widen is (name_disjuncts c q is s))

  -- the whole
  pub handled_widens : (settled : Bool) (is : List ℕ) (s : State) → Widens s (handled c r q settled is s)
  unfolding handled
  handled_widens settled is s =
      widens_then (add_variable_widens (chosen (owner_at c q)) s)
      (widens_then (named_widens c settled (distinct (goal_ranges c (goal_at c q))) (add_variable (chosen (owner_at c q)) s)) (added_widens (shape_of c q) is _))
