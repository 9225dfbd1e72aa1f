-- Clauses by their rows, and back.
use Rattle.std.specs.Prelude.{◌≡◌, cond, not, Option, unwrap_or, ℕ, eqb}
use Rattle.std.specs.Bool.{then_some}
use Rattle.rules.specs.Items as items
use Rattle.requirement.specs.Requirements.{goal_of, form_of, number_of}
use Rattle.solver.specs.declared.Clause.{Clause}
use Rattle.solver.specs.declared.Clause.TheVariants as clauses
use Rattle.solver.specs.Rows.{Row}

-- the run of a conflict, or 0
abbrev pub run_number : Option ℕ → ℕ
run_number r = unwrap_or r 0

abbrev pub run_by : ℕ → Option ℕ
run_by r = then_some (not (eqb r 0)) r

abbrev pub pair_row : (kind first second conflict : ℕ) → Row
pair_row k x y i = record { kind = k; first = x; second = y; start = 0; count = 0; form = 0; number = 0; conflict = i }

abbrev pub goal_row : (kind first start count form number conflict : ℕ) → Row
goal_row k x s n f m i = record { kind = k; first = x; second = 0; start = s; count = n; form = f; number = m; conflict = i }

-- by kind: 0 install, 1 requires, 2 a gate's own requires, 3 excluded, 4 excluded for unknown dependencies, 5 constrains, 6 forbid, 7 aux-out,
-- 8 aux-owner, 9 lock, 10 any for a gate, 11 any for one-of-name
unfoldable pub clause_row : Clause → (conflict : ℕ) → Row
clause_row clauses.Install i = pair_row 0 0 0 i
clause_row (clauses.Requires o s n g) i = goal_row 1 o s n (form_of (goal_of g)) (number_of (goal_of g)) i
clause_row (clauses.Gated x g) i = goal_row 2 x 0 0 (form_of (goal_of g)) (number_of (goal_of g)) i
clause_row (clauses.Excluded x p) i = pair_row 3 x p i
clause_row (clauses.Unknown x p) i = pair_row 4 x p i
clause_row (clauses.Constrains o x) i = pair_row 5 o x i
clause_row (clauses.Forbid x h) i = pair_row 6 x h.code i
clause_row (clauses.AuxOut x v) i = pair_row 7 x v i
clause_row (clauses.AuxOwner o v) i = pair_row 8 o v i
clause_row (clauses.Lock x) i = pair_row 9 x 0 i
clause_row (clauses.AnyGate g o) i = pair_row 10 g o i
clause_row (clauses.AnyOne y x) i = pair_row 11 y x i

unfoldable pub literal_count : Clause → ℕ
literal_count k = (clause_row k 0).count

-- a row without the numbers that its kind has no use for
unfoldable pub plain : Row → Row
plain r =
    cond (eqb r.kind 0) (pair_row 0 0 0 r.conflict)
    (cond (eqb r.kind 1) (goal_row 1 r.first r.start r.count (form_of (items.goal_of r.form r.number)) (number_of (items.goal_of r.form r.number)) r.conflict)
    (cond (eqb r.kind 2) (goal_row 2 r.first 0 0 (form_of (items.goal_of r.form r.number)) (number_of (items.goal_of r.form r.number)) r.conflict)
    (cond (eqb r.kind 3) (pair_row 3 r.first r.second r.conflict)
    (cond (eqb r.kind 4) (pair_row 4 r.first r.second r.conflict)
    (cond (eqb r.kind 5) (pair_row 5 r.first r.second r.conflict)
    (cond (eqb r.kind 6) (pair_row 6 r.first r.second r.conflict)
    (cond (eqb r.kind 7) (pair_row 7 r.first r.second r.conflict)
    (cond (eqb r.kind 8) (pair_row 8 r.first r.second r.conflict)
    (cond (eqb r.kind 9) (pair_row 9 r.first 0 r.conflict)
    (cond (eqb r.kind 10) (pair_row 10 r.first r.second r.conflict) (pair_row 11 r.first r.second r.conflict)))))))))))

-- the row is this clause's
pub record Says (k : Clause) (r : Row) : Type 0 where
  pub is : clause_row k r.conflict ≡ plain r
