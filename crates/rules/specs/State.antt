-- The state between two records: the opening, the variables and clauses, the decisions and conflicts.
use Rattle.std.specs.Prelude.{Bool, not, ◌&&◌, List, [], ◌∷◌, ◌++◌, map, ℕ, suc, leb, length}
use Rattle.std.proofs.Math.Option.{some}
use Rattle.rules.specs.Lists.{snoc, when, fold}
use Rattle.rules.specs.Literal.{Literal, pos, neg}
use Rattle.rules.specs.Clause.{Clause, install, requires, gated, excluded, constrains, forbid, aux_out, aux_owner, lock, any_gate, any_one}
use Rattle.rules.specs.Catalogue.{root, Catalogue}
use Rattle.rules.specs.Decisions.{Decision, Evaluation, undecided, satisfied, falsified, evaluate, is_undecided, is_true, is_false, all_false}
use Rattle.rules.specs.Variables.{Origin, chosen, known, with_variables, part_origin, part_variable}
use Rattle.rules.specs.Opening.{Opening, unopened}
use Rattle.rules.specs.Encoding.{Event, origins, clauses}

pub record State : Type 0 where
  pub opening : Opening
  pub variables : List Origin  -- by number
  pub clauses : List Clause  -- by number
  pub decisions : List Decision  -- oldest first
  pub conflicts : List (ℕ × ℕ)  -- run and clause
  pub runs : ℕ  -- runs so far

abbrev pub set_opening : Opening → State → State
set_opening x s = record { opening = x; variables = s.variables; clauses = s.clauses; decisions = s.decisions; conflicts = s.conflicts; runs = s.runs }

abbrev pub set_variables : List Origin → State → State
set_variables x s = record { opening = s.opening; variables = x; clauses = s.clauses; decisions = s.decisions; conflicts = s.conflicts; runs = s.runs }

abbrev pub set_clauses : List Clause → State → State
set_clauses x s = record { opening = s.opening; variables = s.variables; clauses = x; decisions = s.decisions; conflicts = s.conflicts; runs = s.runs }

abbrev pub set_decisions : List Decision → State → State
set_decisions x s = record { opening = s.opening; variables = s.variables; clauses = s.clauses; decisions = x; conflicts = s.conflicts; runs = s.runs }

abbrev pub set_conflicts : List (ℕ × ℕ) → State → State
set_conflicts x s = record { opening = s.opening; variables = s.variables; clauses = s.clauses; decisions = s.decisions; conflicts = x; runs = s.runs }

-- "Variable 0 is the root. Clause 0, install, is stored at the start"
abbrev pub start : State
start = record { opening = unopened; variables = chosen root ∷ []; clauses = install ∷ []; decisions = []; conflicts = []; runs = 0 }

-- what a disjunct's firing asks for
unfoldable pub decided_true : State → ℕ → Bool
decided_true s p = known s.variables (part_origin p) && is_true s.decisions (part_variable s.variables p)

-- a run: its number from 1, its level, and how many variables it began with
pub record Run : Type 0 where
  pub number : ℕ
  pub level : ℕ
  pub before : ℕ

-- ---- "Conflicts and forced values": what clause i, when made, sets or reports

module _ (r : Run) (i : ℕ) where
  unfoldable pub report : State → State
  report s = set_conflicts (snoc s.conflicts (r.number, i)) s

  -- an undecided literal is set true; a decided one stays as it is
  unfoldable pub force : Literal → State → State
  force l s =
      when (is_undecided (evaluate s.decisions l))
      (λ (u : State). set_decisions (snoc u.decisions (record { variable = l.variable; value = l.positive; level = r.level; clause = some i })) u) s

  -- "sets its last undecided literal if the other is false, and is a conflict if all are false"
  unfoldable pub propagate_by : Evaluation → Evaluation → Literal → Literal → State → State
  propagate_by (falsified j) (falsified k) a b s = report s
  propagate_by (falsified j) undecided a b s = force b s
  propagate_by (falsified j) (satisfied k) a b s = s
  propagate_by undecided (falsified k) a b s = force a s
  propagate_by undecided undecided a b s = s
  propagate_by undecided (satisfied k) a b s = s
  propagate_by (satisfied j) t a b s = s

  unfoldable pub propagate : Literal → Literal → State → State
  propagate a b s = propagate_by (evaluate s.decisions a) (evaluate s.decisions b) a b s

  unfoldable pub effect : Clause → State → State
  effect install s = s
  effect (requires o ks ps) s = when (all_false s.decisions (ks ++ map pos ps) && not (is_false s.decisions o)) report s
  effect (gated g ps) s = when (all_false s.decisions (map pos ps)) (force (neg g)) s
  effect (excluded x p w) s = when (is_true s.decisions x) report s
  effect (constrains o p) s = when (is_true s.decisions p && not (is_false s.decisions o)) report s
  effect (forbid p l) s = propagate (neg p) l s
  effect (aux_out p v) s = when (is_true s.decisions p) (force (pos v)) s
  effect (aux_owner o v) s = when (is_true s.decisions v && not (is_false s.decisions o)) report s
  effect (lock p) s = s
  effect (any_gate g o) s = propagate (pos g) (neg o) s
  -- "A part already true sets a .. one-of-name variable true in the run that makes it"
  effect (any_one y p) s = when (is_true s.decisions p && leb r.before y) (force (pos y)) s

unfoldable pub effects : Run → ℕ → List Clause → State → State
effects r i [] s = s
effects r i (k ∷ ks) s = effects r (suc i) ks (effect r i k s)

-- ---- the one step that makes variables and clauses

unfoldable pub emit : Catalogue → Run → Event → State → State
emit c r e s =
    let vs = with_variables (origins c e) s.variables in
    let ks = clauses c s.variables vs r.before e in
    effects r (length s.clauses) ks (set_clauses (s.clauses ++ ks) (set_variables vs s))

unfoldable pub emit_all : Catalogue → Run → List Event → State → State
emit_all c r es s = fold (emit c r) es s
