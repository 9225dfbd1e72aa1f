-- The task line of a run: a point of it, a task served, the whole line served.
use Rattle.std.specs.Prelude.{◌≡◌, true, false, List, map, ℕ, ◌+◌, ◌≤◌, length}
use Rattle.rules.specs.Catalogue.{Catalogue}
use Rattle.rules.specs.State.{State, decided_true, Run}
use Rattle.rules.specs.Run.{run_once}
use Rattle.rules.specs.Limits.{above}
use Rattle.rules.proofs.Reached.{Given, Reached}
use Rattle.rules.proofs.Line.{After, first_line, first_state, run_from}
use Rattle.rules.proofs.Forgotten.{forget}
use Rattle.state.specs.declared.Limits.{Limits}
use Rattle.state.specs.Layout.{held}
use Rattle.marked.specs.Marked.{Marked}
use Rattle.line.specs.Line.{queued, line_at}
use Rattle.line.specs.Tasks.{task_of}
use Rattle.entries.specs.Entries.{drawn_in}
use Rattle.encoder.specs.declared.Counters.{Counters}
use Rattle.encoder.specs.declared.State as encoder
use Rattle.encoder.specs.Held.{Reading, task_in, state_of, Good}
use Rattle.encoder.specs.Did.{is_full}
use Rattle.encoder.specs.Does.{regions_of}
use Rattle.state.specs.Limits.{limits_of}
use Rattle.naming.specs.Alike.{AlikeIn, AlikeDid}
use Rattle.beginning.specs.Beginning.{reading_of}
use Rattle.serving.specs.Serving.{served_as}

-- the tasks of the line from `first` on are left
unfoldable pub from : ℕ → Counters → Counters
from first n =
    record {
      variables = n.variables;
      clauses = n.clauses;
      literals = n.literals;
      decisions = n.decisions;
      owners = n.owners;
      names = n.names;
      several = n.several;
      added = n.added;
      named = n.named;
      tracked = n.tracked;
      waiting = n.waiting;
      drawn = n.drawn;
      first = first;
      tail = n.tail;
      runs = n.runs;
      full = n.full;
    }

-- none is left
unfoldable pub taken : Counters → Counters
taken n = from n.tail n

-- `head` tasks of the run that began in s₀ were served, and those from `head` to the tail are left
pub record Point (c : Catalogue) (l : Limits) (level : ℕ) (r : Run) (s₀ : State) (v : Reading) (head : ℕ) (n : Counters) (st : ℕ → List ℕ) (cl wt : List ℕ) : Type 0 where
  pub given : Given c
  pub reached : Reached (limits_of l) c s₀
  pub run : r ≡ run_from level s₀
  pub size : length (st 20) ≡ 3649 + l.waiting
  pub at : State
  pub after : After c r (first_line c s₀) (first_state c s₀) head (map (task_in c v) (queued head n.tail st)) at
  pub is : AlikeIn c (forget at) (state_of c l v (taken n) st cl wt)
  pub truth : v.truth ≡ decided_true s₀
  pub drawn : v.drawn ≡ s₀.opening.drawn
  pub entries : drawn_in l (length v.drawn) wt ≡ v.drawn

-- the task at `head` was served; `drawn` entries were drawn when the run began
pub record Serves (c : Catalogue) (l : Limits) (r : Run) (drawn head : ℕ) (n : Counters) (st : ℕ → List ℕ) (cl wt : List ℕ)
    (n' : Counters) (st' : ℕ → List ℕ) (cl' wt' : List ℕ) : Type 0 where
  pub did : AlikeDid c l (λ v. served_as c r (drawn_in l drawn wt) v (task_of (line_at head st))) (from (head + 1) n) st cl wt n' st' cl' wt'

-- the areas hold the first point of a run, if it is not full already
pub record Begun (c : Catalogue) (l : Limits) (r : Run) (drawn : ℕ) (n : Counters) (st : ℕ → List ℕ) (cl wt : List ℕ) : Type 0 where
  pub level : ℕ
  pub state : State
  pub count : drawn ≡ length state.opening.drawn
  pub few : drawn ≤ l.waiting
  pub first : n.first ≡ 0
  pub none : n.drawn ≡ 0
  pub point : is_full n ≡ false → Point c l level r state (reading_of state) 0 n st cl wt

-- the line was served to its end, or the run would end above a limit
pub record LineServed (c : Catalogue) (l : Limits) (r : Run) (drawn : ℕ) (n : Counters) (st : ℕ → List ℕ) (cl wt : List ℕ)
    (n' : Counters) (st' : ℕ → List ℕ) (cl' wt' : List ℕ) : Type 0 where
  pub good : Good c l n' st' cl' wt'
  pub hand : Marked 14 15 0 st'
  pub none : n'.drawn ≡ 0
  pub ended : is_full n' ≡ false → n'.first ≡ n'.tail
  pub stays : is_full n ≡ true → is_full n' ≡ true
  pub done : (level : ℕ) (s₀ : State) → drawn ≡ length s₀.opening.drawn → Point c l level r s₀ (reading_of s₀) 0 n st cl wt
      → is_full n ≡ false → is_full n' ≡ false → Point c l level r s₀ (reading_of s₀) n'.tail n' st' cl' wt'
  pub over : (level : ℕ) (s₀ : State) → drawn ≡ length s₀.opening.drawn → Point c l level r s₀ (reading_of s₀) 0 n st cl wt
      → is_full n ≡ false → is_full n' ≡ true → above (limits_of l) (run_once c level s₀) ≡ true

-- ---- the same of the encoder's state: in the same area and within the same limits

abbrev pub IsBegun : Catalogue → Run → (drawn : ℕ) → encoder.State → (cl wt : List ℕ) → Type 0
IsBegun c r drawn x cl wt = Begun c x.limits r drawn x.used (regions_of x) cl wt

pub record ServesNext (c : Catalogue) (r : Run) (drawn head : ℕ) (x : encoder.State) (cl wt : List ℕ) (x' : encoder.State) (cl' wt' : List ℕ) : Type 0 where
  pub limits : x'.limits ≡ x.limits
  pub area : x'.area.ghost_name ≡ x.area.ghost_name
  pub serves : Serves c x.limits r drawn head x.used (regions_of x) cl wt x'.used (held x.limits x'.area.now) cl' wt'

pub record ServesLine (c : Catalogue) (r : Run) (drawn : ℕ) (x : encoder.State) (cl wt : List ℕ) (x' : encoder.State) (cl' wt' : List ℕ) : Type 0 where
  pub limits : x'.limits ≡ x.limits
  pub area : x'.area.ghost_name ≡ x.area.ghost_name
  pub served : LineServed c x.limits r drawn x.used (regions_of x) cl wt x'.used (held x.limits x'.area.now) cl' wt'
