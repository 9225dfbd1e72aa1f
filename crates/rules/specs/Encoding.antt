-- The encoding rules: what each event asks of the variables, and the clauses it adds. Nothing else makes either.
use Rattle.std.specs.Prelude.{Bool, true, false, not, List, [], ◌∷◌, ◌++◌, map, ℕ, suc, ltb, length}
use Rattle.std.proofs.Math.Option.{Option, none, some}
use Rattle.rules.specs.Lists.{list_if, concat_map, up_to}
use Rattle.rules.specs.Literal.{Literal, pos, neg}
use Rattle.rules.specs.Clause.{Clause, requires, gated, excluded, constrains, aux_out, aux_owner, lock, any_gate, any_one, exclusion, unknown_dependencies}
use Rattle.rules.specs.AtMostOne.{helpers_for, join_clauses}
use Rattle.rules.specs.Catalogue.{Owner, root, part, Goal, Catalogue, part_at, constraint_at, name_of, range_name, owner_at, goal_at, condition_at}
use Rattle.rules.specs.Candidates.{non_matching, candidates, locked_part, locked_out, excluded_parts}
use Rattle.rules.specs.Conditions.{disjunct_at}
use Rattle.rules.specs.Variables.{Origin, chosen, one, violation, gate, known, variable_of, part_origin, part_variable}
use Rattle.rules.specs.Opening.{Task, owner, name, condition, requirement, constraint}

pub data Event : Type 0 where
  served : Task → Event
  joins : (part : ℕ) (earlier : List ℕ) → Event  -- a part joins the tracked parts of its name
  links : (name : ℕ) (tracked : List ℕ) → Event  -- a run's new one-of-name variable, over the name's tracked parts

-- "Unconditional, owner not root and at least 4 candidates counted with repeats: one gate"
pub data Shape : Type 0 where
  direct through_gate on_firing : Shape

unfoldable pub shape_by : (few : Bool) → Shape
shape_by true = direct
shape_by false = through_gate

unfoldable pub shape : Option ℕ → Owner → ℕ → Shape
shape none root n = direct
shape none (part p) n = shape_by (ltb n 4)
shape (some k) o n = on_firing

-- "Constraint with under 4 non-matching parts: one clause each. From 4: one violation variable"
unfoldable pub few : List ℕ → Bool
few ps = ltb (length ps) 4

unfoldable pub helpers_of : ℕ → ℕ → List Origin
helpers_of n k = map (Origin.forbid n) (up_to 0 (helpers_for k))

-- "Literals of a fired range: its non-matching parts; if none, 'not one-of-name'"
unfoldable pub range_origins : ℕ → List ℕ → List Origin
range_origins n [] = one n ∷ []
range_origins n (p ∷ ps) = map part_origin (p ∷ ps)

unfoldable pub range_literals : List Origin → ℕ → List ℕ → List Literal
range_literals vs n [] = neg (variable_of vs (one n)) ∷ []
range_literals vs n (p ∷ ps) = map (λ m. pos (part_variable vs m)) (p ∷ ps)

module _ (c : Catalogue) where
  abbrev pub shape_of : ℕ → Shape
  shape_of q = shape (condition_at c q) (owner_at c q) (length (candidates c (goal_at c q)))

  -- ---- the variables that an event names, in the Rust's order; those without one get theirs then

  unfoldable pub disjunct_origins : List ℕ → List Origin
  disjunct_origins d = concat_map (λ r. range_origins (range_name c r) (non_matching c r)) d

  unfoldable pub shape_origins : Shape → ℕ → List ℕ → List Origin
  shape_origins direct q is = []
  shape_origins through_gate q is = gate (goal_at c q) ∷ []
  shape_origins on_firing q is = concat_map (λ i. disjunct_origins (disjunct_at c q i)) is

  unfoldable pub constraint_origins : (few : Bool) → ℕ → List Origin
  constraint_origins true r = map part_origin (non_matching c r)
  constraint_origins false r = violation r ∷ map part_origin (non_matching c r)

  unfoldable pub task_origins : Task → List Origin
  task_origins (owner root) = []
  task_origins (owner (part p)) = list_if (part_at c p).unknown (part_origin p ∷ [])
  task_origins (name n) = map part_origin (locked_part c n ++ (locked_out c n ++ excluded_parts c n))
  task_origins (condition q) = []
  task_origins (requirement q is) = chosen (owner_at c q) ∷ (map part_origin (candidates c (goal_at c q)) ++ shape_origins (shape_of q) q is)
  task_origins (constraint k) =
      let r = (constraint_at c k).range in
      chosen (constraint_at c k).owner ∷ constraint_origins (few (non_matching c r)) r

  unfoldable pub origins : Event → List Origin
  origins (served t) = task_origins t
  origins (joins p earlier) = part_origin p ∷ helpers_of (name_of c p) (suc (length earlier))
  origins (links n ps) = one n ∷ map part_origin ps

  unfoldable pub disjunct_literals : List Origin → List ℕ → List Literal
  disjunct_literals vs d = concat_map (λ r. range_literals vs (range_name c r) (non_matching c r)) d

  -- ---- the clauses; `old` are the variables before the event, `new` after it

  module _ (old new : List Origin) where
    abbrev var : Origin → ℕ
    var = variable_of new

    abbrev part_var : ℕ → ℕ
    part_var = part_variable new

    -- "Requires: not owner, or a condition literal, or a candidate"; a gate's own clause once
    unfoldable pub requirement_clauses : Shape → Owner → Goal → ℕ → List ℕ → List Clause
    requirement_clauses direct o g q is = requires (var (chosen o)) [] (map part_var (candidates c g)) ∷ []
    requirement_clauses through_gate o g q is =
        list_if (not (known old (gate g))) (gated (var (gate g)) (map part_var (candidates c g)) ∷ [])
        ++ (any_gate (var (gate g)) (var (chosen o)) ∷ [])
    requirement_clauses on_firing o g q is = map (λ i. requires (var (chosen o)) (disjunct_literals new (disjunct_at c q i)) (map part_var (candidates c g))) is

    unfoldable pub constraint_clauses : (few : Bool) → Owner → ℕ → List Clause
    constraint_clauses true o r = map (λ p. constrains (var (chosen o)) (part_var p)) (non_matching c r)
    constraint_clauses false o r =
        list_if (not (known old (violation r))) (map (λ p. aux_out (part_var p) (var (violation r))) (non_matching c r))
        ++ (aux_owner (var (chosen o)) (var (violation r)) ∷ [])

    unfoldable pub task_clauses : Task → List Clause
    task_clauses (owner root) = []
    task_clauses (owner (part p)) = list_if (part_at c p).unknown (excluded (part_var p) p unknown_dependencies ∷ [])
    -- "first, a locked part makes every other part of the name false beside the root; then each excluded part is false"
    task_clauses (name n) = map (λ p. lock (part_var p)) (locked_out c n) ++ map (λ p. excluded (part_var p) p exclusion) (excluded_parts c n)
    task_clauses (condition q) = []
    task_clauses (requirement q is) = requirement_clauses (shape_of q) (owner_at c q) (goal_at c q) q is
    task_clauses (constraint k) =
        let r = (constraint_at c k).range in
        constraint_clauses (few (non_matching c r)) (constraint_at c k).owner r

    -- `before`: how many variables the run began with. A one-of-name variable of this run is linked at its end.
    unfoldable pub clauses : (before : ℕ) → Event → List Clause
    clauses before (served t) = task_clauses t
    clauses before (joins p earlier) =
        let n = name_of c p in
        join_clauses (map part_var earlier) (part_var p) (map var (helpers_of n (suc (length earlier))))
        ++ list_if (ltb (var (one n)) before) (any_one (var (one n)) (part_var p) ∷ [])
    clauses before (links n ps) = map (λ p. any_one (var (one n)) (part_var p)) ps
