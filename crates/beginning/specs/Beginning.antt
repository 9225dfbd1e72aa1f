-- The state between two records, and a run that has begun.
use Rattle.std.specs.Prelude.{◌≡◌, true, false, List, [], ◌∷◌, ℕ, suc, ◌+◌}
use Rattle.rules.specs.Lists.{fold}
use Rattle.rules.specs.Catalogue.{Catalogue}
use Rattle.rules.specs.Opening.{Opening, set_added, open_owner}
use Rattle.rules.specs.State.{State, decided_true}
use Rattle.rules.specs.Run.{begun, run_once}
use Rattle.rules.specs.Limits.{above}
use Rattle.rules.proofs.Reached.{Given, Reached}
use Rattle.rules.proofs.Forgotten.{forget}
use Rattle.state.specs.declared.Limits.{Limits}
use Rattle.state.specs.Layout.{held}
use Rattle.marked.specs.Marked.{Marked}
use Rattle.encoder.specs.declared.Counters.{Counters}
use Rattle.encoder.specs.declared.State as encoder
use Rattle.encoder.specs.Held.{Reading, task_in, state_of, Good}
use Rattle.encoder.specs.Did.{is_full}
use Rattle.encoder.specs.Does.{IsGood, regions_of}
use Rattle.state.specs.Limits.{limits_of}
use Rattle.firing.specs.Firing.{queued}

-- a run's tasks are read by what is decided true and drawn in the state in which it begins
abbrev pub reading_of : State → Reading
reading_of s = record { truth = decided_true s; drawn = s.opening.drawn }

-- the areas hold s, but for what is not kept
pub record Holds (c : Catalogue) (l : Limits) (s : State) (n : Counters) (st : ℕ → List ℕ) (cl wt : List ℕ) : Type 0 where
  pub good : Good c l n st cl wt
  pub hand : Marked 14 15 0 st
  pub room : is_full n ≡ false
  pub is : (v : Reading) → state_of c l v n st cl wt ≡ forget s

-- the areas hold a state that a job can come to
pub record Reaches (c : Catalogue) (l : Limits) (n : Counters) (st : ℕ → List ℕ) (cl wt : List ℕ) : Type 0 where
  pub state : State
  pub given : Given c
  pub reached : Reached (limits_of l) c state
  pub holds : Holds c l state n st cl wt

-- the same two of the encoder's state and the two other areas
abbrev pub IsHolding : Catalogue → State → encoder.State → (cl wt : List ℕ) → Type 0
IsHolding c s x cl wt = Holds c x.limits s x.used (regions_of x) cl wt

abbrev pub IsReached : Catalogue → encoder.State → (cl wt : List ℕ) → Type 0
IsReached c x cl wt = Reaches c x.limits x.used (regions_of x) cl wt

-- ---- a run begins

-- what holds between two steps of the state alone, with some catalogue: for a step that does not read it
pub record GoodSome (x : encoder.State) : Type 0 where
  pub catalogue : Catalogue
  pub good : IsGood catalogue x

unfoldable pub open_added : Opening → Opening
open_added o = fold open_owner o.added o

unfoldable pub forget_added : Opening → Opening
forget_added o = set_added [] o

-- the drawn entries ds, the first of which is entry e
unfoldable pub fire_from : Catalogue → Reading → ℕ → List (ℕ × ℕ) → Opening → Opening
fire_from c v e [] o = o
fire_from c v e (x ∷ xs) o = fire_from c v (suc e) xs (queued c x.0 (task_in c v (3649 + e)) o)

unfoldable pub fire_drawn : Catalogue → Reading → List (ℕ × ℕ) → Opening → Opening
fire_drawn c v ds o = fire_from c v 0 ds o

-- nothing is drawn and nothing in the line; one run more
unfoldable pub emptied : Counters → Counters
emptied n =
    record {
      variables = n.variables;
      clauses = n.clauses;
      literals = n.literals;
      decisions = n.decisions;
      owners = n.owners;
      names = n.names;
      several = n.several;
      added = n.added;
      named = n.named;
      tracked = n.tracked;
      waiting = n.waiting;
      drawn = 0;
      first = 0;
      tail = 0;
      runs = n.runs + 1;
      full = n.full;
    }

-- that is so of the encoder's state
pub record Empties (x x' : encoder.State) : Type 0 where
  pub limits : x'.limits ≡ x.limits
  pub area : x'.area.ghost_name ≡ x.area.ghost_name
  pub same : x'.area.now ≡ x.area.now
  pub used : x'.used ≡ emptied x.used

-- a run has begun, or would end above a limit
pub record Begins (c : Catalogue) (l : Limits) (n : Counters) (st : ℕ → List ℕ) (cl wt : List ℕ) (n' : Counters) (st' : ℕ → List ℕ) : Type 0 where
  pub good : Good c l n' st' cl wt
  pub hand : Marked 14 15 0 st'
  pub first : n'.first ≡ 0
  pub none : n'.drawn ≡ 0
  pub done : (s : State) → Given c → Reached (limits_of l) c s → Holds c l s n st cl wt → is_full n' ≡ false
      → state_of c l (reading_of s) n' st' cl wt ≡ forget (begun c s)
  pub over : (s : State) → Given c → Reached (limits_of l) c s → Holds c l s n st cl wt → is_full n' ≡ true
      → (level : ℕ) → above (limits_of l) (run_once c level s) ≡ true

-- the same of the encoder's state
pub record RunBegins (c : Catalogue) (x : encoder.State) (cl wt : List ℕ) (x' : encoder.State) : Type 0 where
  pub limits : x'.limits ≡ x.limits
  pub area : x'.area.ghost_name ≡ x.area.ghost_name
  pub did : Begins c x.limits x.used (regions_of x) cl wt x'.used (held x.limits x'.area.now)
