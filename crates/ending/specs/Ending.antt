-- What a job comes to, against the definitions' outcome; and the end of one.
use Rattle.std.specs.Prelude.{◌≡◌, List, [], ◌++◌, ℕ, length, drop, Result, Ok, Err}
use Rattle.rules.specs.Catalogue.{Catalogue}
use Rattle.rules.specs.Refusals.{number_and_place, unless_any}
use Rattle.rules.specs.State.{State}
use Rattle.rules.specs.Limits.{Terms}
use Rattle.rules.specs.Job.{accepts, refuses, answer_of, printed, ending, ended_by}
use Rattle.rules.specs.Job as rules
use Rattle.refusal.specs.declared.RefusedAt.{RefusedAt}
use Rattle.refusal.specs.Refusing.{refusal_of}
use Rattle.state.specs.declared.Limits.{Limits}
use Rattle.encoder.specs.declared.Counters.{Counters}
use Rattle.encoder.specs.declared.state_ref.StateRef.{StateRef}
use Rattle.encoder.specs.StateRefs.{regions_at}
use Rattle.beginning.specs.Beginning.{Holds}
use Rattle.ending.specs.declared.Accepted.{Accepted}

-- in a job of this length
unfoldable pub told : ℕ → Result Accepted RefusedAt → rules.Answer
told n (Ok a) = accepts a.length a.variables a.clauses
told n (Err e) = refuses (number_and_place n e.at (refusal_of e.refusal)).0 (number_and_place n e.at (refusal_of e.refusal)).1

-- the definitions' outcome o is told as r, and its listing, if any, was written
pub record Comes (job : List ℕ) (o : rules.Outcome) (r : Result Accepted RefusedAt) (out out' : List ℕ) : Type 0 where
  pub answer : answer_of o ≡ told (length job) r
  pub listing : out' ≡ printed o ++ drop (length (printed o)) out

-- the listing of the state that the areas hold, if there is room for it
pub record Prints (c : Catalogue) (l : Limits) (n : Counters) (st : ℕ → List ℕ) (cl wt : List ℕ) (r : Result Accepted RefusedAt) (out out' : List ℕ) : Type 0 where
  pub is : (s : State) → Holds c l s n st cl wt → (t : Terms) (job : List ℕ) → t.listing ≡ length out
      → s.opening.added ≡ [] → s.opening.drawn ≡ []
      → Comes job (ended_by t job c (unless_any (ending t job c s) s)) r out out'

-- the end of a job in the state that the areas hold
pub record Finishes (c : Catalogue) (l : Limits) (n : Counters) (st : ℕ → List ℕ) (cl wt : List ℕ) (r : Result Accepted RefusedAt) (out out' : List ℕ) : Type 0 where
  pub is : (s : State) → Holds c l s n st cl wt → (t : Terms) (job : List ℕ) → t.listing ≡ length out
      → Comes job (ended_by t job c (unless_any (ending t job c s) s)) r out out'

-- ---- the same two of the encoder's state and the two other areas

abbrev pub IsPrinted : Catalogue → StateRef → (cl wt : List ℕ) → Result Accepted RefusedAt → (out out' : List ℕ) → Type 0
IsPrinted c x cl wt r out out' = Prints c x.limits x.used (regions_at x) cl wt r out out'

abbrev pub IsFinished : Catalogue → StateRef → (cl wt : List ℕ) → Result Accepted RefusedAt → (out out' : List ℕ) → Type 0
IsFinished c x cl wt r out out' = Finishes c x.limits x.used (regions_at x) cl wt r out out'
