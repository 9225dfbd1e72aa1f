-- Decisions in the state area: region 18 has a row of four numbers for each, region 17 a number for each variable's value.
use Rattle.std.specs.Prelude.{◌≡◌, ◌≢◌, Bool, true, false, not, Option, None, Some, List, [], ◌∷◌, map, ℕ, zero, suc, ◌+◌, ◌*◌, ◌<◌, ◌≤◌, eqb, get_or}
use Rattle.std.proofs.Math.Option as rules
use Rattle.std.proofs.Math.Option.{none, some}
use Rattle.rules.specs.Lists.{snoc, up_to}
use Rattle.rules.specs.Literal.{pos}
use Rattle.rules.specs.Decisions.{Decision, Evaluation, undecided, satisfied, falsified, evaluate, is_undecided}
use Rattle.rules.proofs.Each.{Each, Pairwise}
use Rattle.state.specs.declared.Limits.{Limits}
use Rattle.state.specs.Changed.{Changed}
use Rattle.decision_tracker.specs.declared.Decision as code

-- ---- decisions

unfoldable pub clause_of : Option ℕ → rules.Option ℕ
clause_of None = none
clause_of (Some i) = some i

-- a clause as a row has it: its number and one more, or 0
unfoldable pub clause_number : Option ℕ → ℕ
clause_number None = 0
clause_number (Some i) = i + 1

unfoldable pub clause_by : ℕ → rules.Option ℕ
clause_by zero = none
clause_by (suc i) = some i

unfoldable pub decision_by : (variable : ℕ) (value : Bool) (level clause : ℕ) → Decision
decision_by x b k i = record { variable = x; value = b; level = k; clause = clause_by i }

unfoldable pub decision_of : code.Decision → Decision
decision_of d = record { variable = d.variable; value = d.value; level = d.level; clause = clause_of d.clause }

unfoldable pub decision_in : List ℕ → ℕ → Decision
decision_in w i = decision_by (get_or w (4 * i) 0) (eqb (get_or w (4 * i + 1) 0) 1) (get_or w (4 * i + 2) 0) (get_or w (4 * i + 3) 0)

unfoldable pub decisions : ℕ → (ℕ → List ℕ) → List Decision
decisions d st = map (decision_in (st 18)) (up_to 0 d)

abbrev pub no_decision : Decision
no_decision = record { variable = 0; value = false; level = 0; clause = none }

-- ---- values

-- an evaluation without its level
unfoldable pub seen : Evaluation → Option Bool
seen undecided = None
seen (satisfied k) = Some true
seen (falsified k) = Some false

-- a value as the area has it
unfoldable pub number_of : Option Bool → ℕ
number_of None = 0
number_of (Some false) = 1
number_of (Some true) = 2

-- what a value says
abbrev pub says_undecided : Option Bool → Bool
says_undecided None = true
says_undecided (Some b) = false

abbrev pub says_false : Option Bool → Bool
says_false None = false
says_false (Some b) = not b

abbrev pub says_true : Option Bool → Bool
says_true None = false
says_true (Some b) = b

-- there are d decisions, each of another variable, and every variable has its value
pub record Kept (l : Limits) (d : ℕ) (st : ℕ → List ℕ) : Type 0 where
  pub room : d ≤ l.variables
  pub values : (x : ℕ) → get_or (st 17) x 0 ≡ number_of (seen (evaluate (decisions d st) (pos x)))
  pub below : Each (λ (e : Decision). e.variable < l.variables) (decisions d st)
  pub once : Pairwise (λ (e f : Decision). e.variable ≢ f.variable) (decisions d st)

-- variable x can be decided
pub record Free (l : Limits) (d x : ℕ) (st : ℕ → List ℕ) : Type 0 where
  pub kept : Kept l d st
  pub exists : x < l.variables
  pub free : is_undecided (evaluate (decisions d st) (pos x)) ≡ true

-- the row of e follows the d rows
pub record Rowed (d : ℕ) (e : Decision) (st st' : ℕ → List ℕ) : Type 0 where
  pub is : decisions (d + 1) st' ≡ snoc (decisions d st) e
  pub rest : Changed (18 ∷ []) st st'

-- the d decisions are now ds, and nothing but regions 17 and 18 has changed
pub record Told (l : Limits) (d : ℕ) (ds : List Decision) (st st' : ℕ → List ℕ) : Type 0 where
  pub kept : Kept l d st'
  pub is : decisions d st' ≡ ds
  pub rest : Changed (17 ∷ 18 ∷ []) st st'

-- the last of d decisions is no longer one, and r are left
pub record Dropped (l : Limits) (d r : ℕ) (st st' : ℕ → List ℕ) : Type 0 where
  pub less : d ≡ r + 1
  pub kept : Kept l r st'
  pub rest : Changed (17 ∷ []) st st'
