-- The clauses of a requirement are added to alike states alike; so a requirement handled with the first candidate of each range named, where all are
-- settled, gives a state alike to that in which its task was served.
use mathlib.Core.Path.{◌≡◌, refl, ◌∙◌, ap}
use mathlib.Core.Bool.{Bool, true, false, not}
use mathlib.Core.List.{List, [], ◌∷◌}
use Prim.Native.Nat.{ℕ}
use Rattle.rules.specs.Lists.{fold, when, distinct}
use Rattle.rules.specs.Clause.{any_gate}
use Rattle.rules.specs.Catalogue.{Catalogue, range_name, owner_at, goal_at}
use Rattle.rules.specs.Candidates.{non_matching, goal_ranges}
use Rattle.rules.specs.Conditions.{disjunct_at}
use Rattle.rules.specs.Variables.{chosen, one, gate, known, variable_of}
use Rattle.rules.specs.Opening.{Opening}
use Rattle.rules.specs.Encoding.{Shape, direct, through_gate, on_firing, shape_of}
use Rattle.rules.specs.State.{State, set_opening, Run}
use Rattle.rules.proofs.Capped.{add_variable}
use Rattle.rules.proofs.ClauseByClause.{add_clause}
use Rattle.parts.specs.declared.Naming.TheVariants.{Tracked}
use Rattle.naming.specs.Naming.{name_parts, name_range, name_disjuncts}
use Rattle.naming.specs.Settled.{AllSettled}
use Rattle.naming.specs.Alike.{AlikeIn}
use Rattle.naming.proofs.Alike.{in_fold, in_step, variable_alone, clause_alone}
use Rattle.naming.proofs.Settled.{namings_alike, first_enough}
use Rattle.handling.specs.Handling.{add_direct, add_gate, add_through_gate, add_fired, add_all_fired, add_by, handled}

module _ (c : Catalogue) where
  parts_alike : (n : ℕ) (ps : List ℕ) {s s' : State} → AlikeIn c s s' → AlikeIn c (name_parts c n ps s) (name_parts c n ps s')
  unfolding name_parts
  parts_alike n [] a = in_step (add_variable (one n)) (variable_alone (one n)) a
  parts_alike n (p ∷ ps) a = namings_alike c Tracked (p ∷ ps) a

  disjuncts_alike : (q : ℕ) (is : List ℕ) {s s' : State} → AlikeIn c s s' → AlikeIn c (name_disjuncts c q is s) (name_disjuncts c q is s')
  unfolding name_disjuncts name_range
  disjuncts_alike q is a =
      in_fold (λ i. fold (λ x. name_parts c (range_name c x) (non_matching c x)) (disjunct_at c q i))
      (λ i s s'. in_fold (λ x. name_parts c (range_name c x) (non_matching c x)) (λ x u u'. parts_alike (range_name c x) (non_matching c x)) (disjunct_at c q i)) is a

  module _ (r : Run) (q : ℕ) where
    direct_alone : (o : Opening) (s : State) → add_direct c r q (set_opening o s) ≡ set_opening o (add_direct c r q s)
    unfolding add_direct
    direct_alone o s = clause_alone r _ o s

    gate_alone : (new : Bool) (o : Opening) (s : State) → add_gate c r q new (set_opening o s) ≡ set_opening o (add_gate c r q new s)
    unfolding add_gate when
    gate_alone true o s = clause_alone r _ o s
    gate_alone false o s = refl

    through_gate_alone : (o : Opening) (s : State) → add_through_gate c r q (set_opening o s) ≡ set_opening o (add_through_gate c r q s)
    unfolding add_through_gate
    through_gate_alone o s =
        let g = gate (goal_at c q) in
        let last : State → State = λ b. add_clause r (any_gate (variable_of b.variables g) (variable_of b.variables (chosen (owner_at c q)))) b in
        let new = not (known s.variables g) in
        ap (λ a. last (add_gate c r q new a)) (variable_alone g o s) ∙ (ap last (gate_alone new o (add_variable g s)) ∙ clause_alone r _ o (add_gate c r q new (add_variable g s)))

    fired_alone : (i : ℕ) (o : Opening) (s : State) → add_fired c r q i (set_opening o s) ≡ set_opening o (add_fired c r q i s)
    unfolding add_fired
    fired_alone i o s = clause_alone r _ o s

    added_alike : (h : Shape) (is : List ℕ) {s s' : State} → AlikeIn c s s' → AlikeIn c (add_by c r q h is s) (add_by c r q h is s')
    unfolding add_by add_all_fired
    added_alike direct is a = in_step (add_direct c r q) direct_alone a
    added_alike through_gate is a = in_step (add_through_gate c r q) through_gate_alone a
    added_alike on_firing is a = in_fold (add_fired c r q) (λ i s s'. in_step (add_fired c r q i) (fired_alone i)) is (disjuncts_alike q is a)

    -- either way to name the candidates
    pub handled_alike : (is : List ℕ) (s : State) → AllSettled c (distinct (goal_ranges c (goal_at c q))) (add_variable (chosen (owner_at c q)) s)
        → AlikeIn c (handled c r q false is s) (handled c r q true is s)
    unfolding handled
    handled_alike is s h = added_alike (shape_of c q) is (first_enough c (distinct (goal_ranges c (goal_at c q))) (add_variable (chosen (owner_at c q)) s) h)
