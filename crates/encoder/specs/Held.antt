-- The state that the areas hold, and what holds of the areas between two steps.
use Rattle.std.specs.Prelude.{◌≡◌, Bool, true, false, cond, List, [], ◌∷◌, ◌++◌, map, ℕ, suc, ◌+◌, ◌*◌, ◌/◌, ◌%◌, ◌<◌, ◌≤◌, eqb, length, get_or, take, drop}
use Rattle.rules.specs.Lists.{filter, sum}
use Rattle.rules.specs.Literal.{Literal}
use Rattle.rules.specs.Clause.{Clause, install, requires, gated, excluded, constrains, forbid, aux_out, aux_owner, lock, any_gate, any_one, exclusion, unknown_dependencies, condition_literals}
use Rattle.rules.specs.Catalogue.{Catalogue}
use Rattle.rules.specs.Candidates.{candidates}
use Rattle.rules.specs.Conditions.{indices}
use Rattle.rules.specs.Items.{goal_of}
use Rattle.rules.specs.Variables.{Origin, known, part_origin, part_variable}
use Rattle.rules.specs.Opening.{Task, owner, name, condition, requirement, constraint, Opening, entry_holds, tracked_of}
use Rattle.rules.specs.State.{State}
use Rattle.rules.specs.State as rules
use Rattle.rules.proofs.Each.{Each}
use Rattle.clause.specs.Literals.{signed}
use Rattle.state.specs.declared.Limits.{Limits}
use Rattle.variable_map.specs.Mapping.{variables, Mapped, AllKnown}
use Rattle.decision_tracker.specs.Tracking.{decisions, Kept}
use Rattle.marked.specs.Marked.{listed, owner_of, Marked}
use Rattle.line.specs.declared.Task as line
use Rattle.line.specs.declared.Task.TheVariants.{Owner, Name, Condition, Requirement, Constraint, Drawn}
use Rattle.line.specs.Line.{queued}
use Rattle.line.specs.Tasks.{task_of}
use Rattle.entries.specs.Entries.{waiting_in, drawn_in}
use Rattle.solver.specs.Rows.{Row, rows}
use Rattle.encoder.specs.declared.Counters.{Counters}
use Rattle.encoder.specs.declared.Run as code

unfoldable pub run_of : code.Run → rules.Run
run_of r = record { number = r.number; level = r.level; before = r.before }

-- ---- tasks by number

-- what a run's tasks are read by: the parts decided true and the drawn entries, as they were when it began
pub record Reading : Type 0 where
  pub truth : ℕ → Bool
  pub drawn : List (ℕ × ℕ)

unfoldable pub fired_now : Catalogue → (ℕ → Bool) → ℕ → List ℕ
fired_now c true? q = filter (entry_holds c true? q) (indices c q)

unfoldable pub drawn_task : ℕ × ℕ → Task
drawn_task e = requirement e.0 (e.1 ∷ [])

-- past the drawn entries: a requirement that no catalogue has
abbrev pub no_such : ℕ × ℕ
no_such = (65535, 0)

unfoldable pub task_from : Catalogue → Reading → line.Task → Task
task_from c v (Owner o) = owner (owner_of o)
task_from c v (Name n) = name n
task_from c v (Condition q) = condition q
task_from c v (Requirement q) = requirement q (fired_now c v.truth q)
task_from c v (Constraint k) = constraint k
task_from c v (Drawn e) = drawn_task (get_or v.drawn e no_such)

unfoldable pub task_in : Catalogue → Reading → ℕ → Task
task_in c v x = task_from c v (task_of x)

-- ---- clauses by row

-- a literal by its number
unfoldable pub literal_in : ℕ → Literal
literal_in x = signed (x / 2) (eqb (x % 2) 0)

-- `count` numbers from `start` on
unfoldable pub literals_in : List ℕ → (start count : ℕ) → List Literal
literals_in w start count = map literal_in (take count (drop start w))

unfoldable pub goal_variables : Catalogue → List Origin → (form number : ℕ) → List ℕ
goal_variables c vs form number = map (part_variable vs) (candidates c (goal_of form number))

-- by kind: 0 install, 1 requires, 2 a gate's own requires, 3 excluded, 4 excluded for unknown dependencies, 5 constrains, 6 forbid, 7 aux-out,
-- 8 aux-owner, 9 lock, 10 any for a gate, 11 any for one-of-name
unfoldable pub clause_in : Catalogue → List Origin → List ℕ → Row → Clause
clause_in c vs w r =
    cond (eqb r.kind 0) install
    (cond (eqb r.kind 1) (requires r.first (literals_in w r.start r.count) (goal_variables c vs r.form r.number))
    (cond (eqb r.kind 2) (gated r.first (goal_variables c vs r.form r.number))
    (cond (eqb r.kind 3) (excluded r.first r.second exclusion)
    (cond (eqb r.kind 4) (excluded r.first r.second unknown_dependencies)
    (cond (eqb r.kind 5) (constrains r.first r.second)
    (cond (eqb r.kind 6) (forbid r.first (literal_in r.second))
    (cond (eqb r.kind 7) (aux_out r.first r.second)
    (cond (eqb r.kind 8) (aux_owner r.first r.second)
    (cond (eqb r.kind 9) (lock r.first)
    (cond (eqb r.kind 10) (any_gate r.first r.second) (any_one r.first r.second)))))))))))

unfoldable pub clauses_in : Catalogue → List Origin → List ℕ → List Row → List Clause
clauses_in c vs w rs = map (clause_in c vs w) rs

-- run and clause of each conflict, the first row being clause i
unfoldable pub conflict_if : ℕ → ℕ → List (ℕ × ℕ)
conflict_if run i = cond (eqb run 0) [] ((run, i) ∷ [])

unfoldable pub conflicts_from : ℕ → List Row → List (ℕ × ℕ)
conflicts_from i [] = []
conflicts_from i (r ∷ rs) = conflict_if r.conflict i ++ conflicts_from (suc i) rs

-- ---- the state

unfoldable pub opening_of : Catalogue → Limits → Reading → Counters → (ℕ → List ℕ) → List ℕ → Opening
opening_of c l v n st wt =
    record {
      owners = map owner_of (listed n.owners 1 st);
      names = listed n.names 3 st;
      several = listed n.several 5 st;
      handled = [];
      fired = [];
      waiting = waiting_in l n.waiting wt;
      drawn = drawn_in l n.drawn wt;
      added = map owner_of (listed n.added 6 st);
      named = listed n.named 8 st;
      tracked = listed n.tracked 10 st;
      line = map (task_in c v) (queued n.first n.tail st);
    }

-- `st`: the state area by regions; `cl`, `wt`: the bytes of the clauses' and the waiting area
unfoldable pub state_of : Catalogue → Limits → Reading → Counters → (ℕ → List ℕ) → (cl wt : List ℕ) → State
state_of c l v n st cl wt =
    record {
      opening = opening_of c l v n st wt;
      variables = variables n.variables st;
      clauses = clauses_in c (variables n.variables st) (st 19) (rows n.clauses cl);
      decisions = decisions n.decisions st;
      conflicts = conflicts_from 0 (rows n.clauses cl);
      runs = n.runs;
    }

-- ---- what holds between two steps

-- a row's literals are stored, and its goal's candidates have variables
pub record Sound (c : Catalogue) (vs : List Origin) (literals : ℕ) (r : Row) : Type 0 where
  pub stored : r.kind ≡ 1 → r.start + r.count ≤ literals
  pub named : (r.kind ≡ 1) → Each (λ p. known vs (part_origin p) ≡ true) (candidates c (goal_of r.form r.number))
  pub gated : (r.kind ≡ 2) → Each (λ p. known vs (part_origin p) ≡ true) (candidates c (goal_of r.form r.number))

pub record GoodState (c : Catalogue) (l : Limits) (n : Counters) (st : ℕ → List ℕ) : Type 0 where
  pub mapped : Mapped l n.variables st
  pub kept : Kept l n.decisions st
  pub owners : Marked 1 2 n.owners st
  pub names : Marked 3 4 n.names st
  pub several : n.several ≤ 64
  pub added : Marked 6 7 n.added st
  pub named : Marked 8 9 n.named st
  pub tracked : Marked 10 11 n.tracked st
  pub counted : (m : ℕ) → m < 64 → get_or (st 12) m 0 ≡ length (tracked_of c m (listed n.tracked 10 st))
  pub literals : n.literals ≤ l.literals
  pub before : n.first ≤ n.tail
  pub room : n.tail ≤ 3649 + l.waiting

pub record GoodClauses (c : Catalogue) (l : Limits) (n : Counters) (st : ℕ → List ℕ) (cl : List ℕ) : Type 0 where
  pub room : n.clauses ≤ l.clauses
  pub literals : n.literals ≡ sum (map condition_literals (clauses_in c (variables n.variables st) (st 19) (rows n.clauses cl)))
  pub sound : Each (Sound c (variables n.variables st) n.literals) (rows n.clauses cl)

pub record Good (c : Catalogue) (l : Limits) (n : Counters) (st : ℕ → List ℕ) (cl wt : List ℕ) : Type 0 where
  pub state : GoodState c l n st
  pub clauses : GoodClauses c l n st cl
  pub entries : n.waiting + n.drawn ≤ l.waiting

-- what holds between two steps, of the state area and some clauses: a step of the state area alone keeps it, whichever they are
pub record GoodAlone (c : Catalogue) (l : Limits) (n : Counters) (st : ℕ → List ℕ) : Type 0 where
  pub clauses : List ℕ
  pub good : Good c l n st clauses []

-- each of these parts has a variable, if it is not full
pub record KnownUnlessFull (full : Bool) (vs : List Origin) (ps : List ℕ) : Type 0 where
  pub known : full ≡ false → AllKnown vs ps

-- areas of these lengths are long enough
pub record LongEnough (l : Limits) (cl wt : ℕ) : Type 0 where
  pub clauses : l.clauses * 20 ≤ cl
  pub most : l.clauses ≤ 16384
  pub waiting : l.waiting ≤ 2048
  pub entries : 8 * l.waiting ≤ wt
