-- A clause is stored and heeded; a literal is set.
use Rattle.std.specs.Prelude.{◌≡◌, Bool, true, false, Option, None, Some, List, [], ◌++◌, map, ℕ, ◌+◌, ◌-◌, ◌*◌, ◌<◌, ◌≤◌, length}
use Rattle.rules.specs.Lists.{snoc}
use Rattle.rules.specs.Literal.{Literal, pos}
use Rattle.rules.specs.Clause as rules
use Rattle.rules.specs.Clause.{requires, gated, Reason, exclusion, unknown_dependencies, condition_literals}
use Rattle.rules.specs.Catalogue.{Catalogue, Goal}
use Rattle.rules.specs.Candidates.{candidates}
use Rattle.rules.specs.Variables.{Origin, known, part_origin}
use Rattle.rules.specs.Decisions.{Decision, evaluate, all_false}
use Rattle.rules.specs.State.{State, set_clauses, set_conflicts, force, propagate, effect}
use Rattle.rules.proofs.Each.{Each}
use Rattle.rules.proofs.ClauseByClause.{add_clause}
use Rattle.clause.specs.Literals.{literal_of}
use Rattle.clause.specs.declared.Literal as code
use Rattle.state.specs.declared.Limits.{Limits}
use Rattle.state.specs.Layout.{held}
use Rattle.variable_map.specs.Mapping.{variables}
use Rattle.decision_tracker.specs.Tracking.{seen}
use Rattle.solver.specs.declared.Clause.{Clause}
use Rattle.solver.specs.Clauses.{clause_row, literal_count}
use Rattle.encoder.specs.declared.Counters.{Counters}
use Rattle.encoder.specs.declared.Run.{Run}
use Rattle.encoder.specs.declared.State as encoder
use Rattle.encoder.specs.Held.{run_of, literals_in, conflict_if, Sound}
use Rattle.encoder.specs.Clauses.{candidate_variables, clause_is}
use Rattle.encoder.specs.Did.{Did, is_full}
use Rattle.encoder.specs.Does.{PlainDoes, IsTracked, regions_of, variables_of, decisions_of}
use Rattle.storing.specs.declared.Outcome.{Outcome}
use Rattle.storing.specs.declared.Outcome.TheVariants as outcomes

-- Of the encoder's state, what is used when a clause is added: the decisions, and room. `bytes`: the length of the clauses' area.
pub record CanAdd (x : encoder.State) (bytes : ℕ) : Type 0 where
  pub kept : IsTracked x
  pub clauses : x.used.clauses ≤ x.limits.clauses
  pub literals : x.used.literals ≤ x.limits.literals
  pub most : x.limits.clauses ≤ 16384
  pub long : x.limits.clauses * 20 ≤ bytes

unfoldable pub reason_for : (unknown : Bool) → Reason
reason_for true = unknown_dependencies
reason_for false = exclusion

-- a clause is stored behind the others; `run`: the run in which it is a conflict, or 0
unfoldable pub with_clause : rules.Clause → ℕ → State → State
with_clause k run s = set_conflicts (s.conflicts ++ conflict_if run (length s.clauses)) (set_clauses (snoc s.clauses k) s)

-- the clause's literals and candidates are as `Good` asks
pub record Fitting (c : Catalogue) (l : Limits) (n : Counters) (st : ℕ → List ℕ) (k : Clause) : Type 0 where
  pub room : n.literals + literal_count k ≤ l.literals
  pub sound : (i : ℕ) → Sound c (variables n.variables st) (n.literals + literal_count k) (clause_row k i)
  pub counted : condition_literals (clause_is c (variables n.variables st) (st 19) k) ≡ literal_count k

-- The clause stands behind the others, or it is full; the state's area stays as it was. `run`: the run in which it is a conflict, or 0.
pub record Stores (k : Clause) (run : ℕ) (x : encoder.State) (cl : List ℕ) (x' : encoder.State) (cl' : List ℕ) : Type 0 where
  pub limits : x'.limits ≡ x.limits
  pub area : x'.area.ghost_name ≡ x.area.ghost_name
  pub same : x'.area.now ≡ x.area.now
  pub decisions : x'.used.decisions ≡ x.used.decisions
  pub room : x'.used.clauses ≤ x.limits.clauses
  pub count : is_full x'.used ≡ false → x'.used.clauses ≡ x.used.clauses + 1
  pub is : (c : Catalogue) (st : ℕ → List ℕ) (wt : List ℕ) → Fitting c x.limits x.used st k
      → Did c x.limits (λ v s. with_clause (clause_is c s.variables (st 19) k) run s) x.used st cl wt x'.used st cl' wt

-- what is used when the last clause sets a literal
pub record CanForce (x : encoder.State) (z : code.Literal) : Type 0 where
  pub kept : IsTracked x
  pub some : 0 < x.used.clauses
  pub few : x.used.clauses ≤ 16384
  pub exists : (literal_of z).variable < x.limits.variables

-- the last clause sets a literal
pub record Forces (r : Run) (z : code.Literal) (x x' : encoder.State) : Type 0 where
  pub does : PlainDoes (λ c v. force (run_of r) (x.used.clauses - 1) (literal_of z)) x x'

-- a clause is stored, and sets a literal
pub record Sets (r : Run) (k : Clause) (z : code.Literal) (x : encoder.State) (cl : List ℕ) (x' : encoder.State) (cl' : List ℕ) : Type 0 where
  pub limits : x'.limits ≡ x.limits
  pub area : x'.area.ghost_name ≡ x.area.ghost_name
  pub is : (c : Catalogue) (wt : List ℕ) → Fitting c x.limits x.used (regions_of x) k
      → Did c x.limits (λ v s. force (run_of r) (length s.clauses) (literal_of z) (with_clause (clause_is c s.variables (regions_of x 19) k) 0 s))
      x.used (regions_of x) cl wt x'.used (held x.limits x'.area.now) cl' wt

-- clause k is added in run r
pub record Adds (r : Run) (k : rules.Clause) (x : encoder.State) (cl : List ℕ) (x' : encoder.State) (cl' : List ℕ) : Type 0 where
  pub limits : x'.limits ≡ x.limits
  pub area : x'.area.ghost_name ≡ x.area.ghost_name
  pub is : (c : Catalogue) (wt : List ℕ) → Did c x.limits (λ v. add_clause (run_of r) k) x.used (regions_of x) cl wt x'.used (held x.limits x'.area.now) cl' wt

-- what a clause of two literals does, by what the decisions say of them
unfoldable pub outcome_of : (first second : Option Bool) → Outcome
outcome_of (Some true) v = outcomes.Nothing
outcome_of (Some false) (Some true) = outcomes.Nothing
outcome_of (Some false) (Some false) = outcomes.Conflict
outcome_of (Some false) None = outcomes.SetsSecond
outcome_of None (Some true) = outcomes.Nothing
outcome_of None (Some false) = outcomes.SetsFirst
outcome_of None None = outcomes.Nothing

unfoldable pub outcome_in : List Decision → Literal → Literal → Outcome
outcome_in ds a b = outcome_of (seen (evaluate ds a)) (seen (evaluate ds b))

-- of a clause of two literals: variables that exist, and a run that can be reported
pub record CanPair (l : Limits) (r : Run) (a b : code.Literal) : Type 0 where
  pub run : 0 < r.number
  pub first : (literal_of a).variable < l.variables
  pub second : (literal_of b).variable < l.variables

-- such a clause is k, which has no goal
pub record IsPair (pair : Clause) (k : rules.Clause) : Type 0 where
  pub not_requires : (i : ℕ) → (clause_row pair i).kind ≡ 1 → ⊥
  pub not_gated : (i : ℕ) → (clause_row pair i).kind ≡ 2 → ⊥
  pub clause : (c : Catalogue) (vs : List Origin) (w : List ℕ) → clause_is c vs w pair ≡ k
  pub none : literal_count pair ≡ 0
  pub literals : condition_literals k ≡ 0

-- if the clause's two literals are a and b, it is added
pub record AddsPair (r : Run) (pair : Clause) (a b : code.Literal) (x : encoder.State) (cl : List ℕ) (x' : encoder.State) (cl' : List ℕ) : Type 0 where
  pub is : (k : rules.Clause) → IsPair pair k → ((i : ℕ) (s : State) → effect (run_of r) i k s ≡ propagate (run_of r) i (literal_of a) (literal_of b) s)
      → Adds r k x cl x' cl'

-- ---- of a goal whose candidates have variables

abbrev pub AllNamed : Catalogue → encoder.State → Goal → Type 0
AllNamed c x g = Each (λ p. known (variables_of x) (part_origin p) ≡ true) (candidates c g)

abbrev pub false_now : Catalogue → encoder.State → List Literal → Goal → Bool
false_now c x ks g = all_false (decisions_of x) (ks ++ map pos (candidate_variables c (variables_of x) g))

-- The condition literals ks are the `count` numbers behind those of the stored clauses, if there is room for them. `all`: all literals but the owner's are false.
pub record AddsRequires (r : Run) (owner count : ℕ) (g : Goal) (all : Bool) (x : encoder.State) (cl : List ℕ) (x' : encoder.State) (cl' : List ℕ) : Type 0 where
  pub limits : x'.limits ≡ x.limits
  pub area : x'.area.ghost_name ≡ x.area.ghost_name
  pub is : (c : Catalogue) (wt : List ℕ) (ks : List Literal) → length ks ≡ count → AllNamed c x g
      → (x.used.literals + count ≤ x.limits.literals → literals_in (regions_of x 19) x.used.literals count ≡ ks)
      → (x.used.literals + count ≤ x.limits.literals → all ≡ false_now c x ks g)
      → Did c x.limits (λ v s. add_clause (run_of r) (requires owner ks (candidate_variables c s.variables g)) s)
      x.used (regions_of x) cl wt x'.used (held x.limits x'.area.now) cl' wt

pub record AddsGated (r : Run) (gate : ℕ) (g : Goal) (all : Bool) (x : encoder.State) (cl : List ℕ) (x' : encoder.State) (cl' : List ℕ) : Type 0 where
  pub limits : x'.limits ≡ x.limits
  pub area : x'.area.ghost_name ≡ x.area.ghost_name
  pub is : (c : Catalogue) (wt : List ℕ) → AllNamed c x g → all ≡ false_now c x [] g
      → Did c x.limits (λ v s. add_clause (run_of r) (gated gate (candidate_variables c s.variables g)) s)
      x.used (regions_of x) cl wt x'.used (held x.limits x'.area.now) cl' wt
