-- The clauses of a requirement's task.
use Rattle.std.specs.Prelude.{Bool, not, List, [], map, ℕ}
use Rattle.rules.specs.Lists.{fold, when, distinct}
use Rattle.rules.specs.Clause.{requires, gated, any_gate}
use Rattle.rules.specs.Catalogue.{Catalogue, owner_at, goal_at}
use Rattle.rules.specs.Candidates.{goal_ranges, candidates}
use Rattle.rules.specs.Conditions.{disjunct_at}
use Rattle.rules.specs.Variables.{chosen, gate, known, variable_of, part_variable}
use Rattle.rules.specs.Encoding.{Shape, direct, through_gate, on_firing, shape_of, disjunct_literals}
use Rattle.rules.specs.State.{State, Run}
use Rattle.rules.proofs.Capped.{add_variable}
use Rattle.rules.proofs.ClauseByClause.{add_clause}
use Rattle.naming.specs.Naming.{name_candidates, name_disjuncts}

module _ (c : Catalogue) (r : Run) (q : ℕ) where
  abbrev pub candidates_of : State → List ℕ
  candidates_of s = map (part_variable s.variables) (candidates c (goal_at c q))

  abbrev pub owner_of : State → ℕ
  owner_of s = variable_of s.variables (chosen (owner_at c q))

  unfoldable pub add_direct : State → State
  add_direct s = add_clause r (requires (owner_of s) [] (candidates_of s)) s

  unfoldable pub add_gate : (new : Bool) → State → State
  add_gate new s = when new (λ (u : State). add_clause r (gated (variable_of u.variables (gate (goal_at c q))) (candidates_of u)) u) s

  unfoldable pub add_through_gate : State → State
  add_through_gate s =
      let a = add_variable (gate (goal_at c q)) s in
      let b = add_gate (not (known s.variables (gate (goal_at c q)))) a in
      add_clause r (any_gate (variable_of b.variables (gate (goal_at c q))) (owner_of b)) b

  unfoldable pub add_fired : ℕ → State → State
  add_fired i s = add_clause r (requires (owner_of s) (disjunct_literals c s.variables (disjunct_at c q i)) (candidates_of s)) s

  unfoldable pub add_all_fired : List ℕ → State → State
  add_all_fired is s = fold add_fired is s

  -- by its shape
  unfoldable pub add_by : Shape → List ℕ → State → State
  add_by direct is s = add_direct s
  add_by through_gate is s = add_through_gate s
  add_by on_firing is s = add_all_fired is (name_disjuncts c q is s)

  unfoldable pub add_unconditional : State → State
  add_unconditional s = add_by (shape_of c q) [] s

  -- the owner's variable, the candidates, which may be settled, then the clauses
  unfoldable pub handled : (settled : Bool) → List ℕ → State → State
  handled settled is s = add_by (shape_of c q) is (name_candidates c settled (distinct (goal_ranges c (goal_at c q))) (add_variable (chosen (owner_at c q)) s))
