-- What a step of the encoder does: what a function of the definitions does, or, where that would pass a limit, nothing but to say so.
use Rattle.std.specs.Prelude.{◌≡◌, Bool, true, false, not, ◌||◌, List, ℕ, ◌+◌, ◌-◌, ◌<◌, ◌≤◌, eqb, ltb, length, take}
use Rattle.rules.specs.Catalogue.{Catalogue}
use Rattle.rules.specs.Lists.{snoc}
use Rattle.rules.specs.Variables.{Origin, known, variable_of}
use Rattle.rules.specs.Opening.{Opening, set_several}
use Rattle.rules.specs.State.{State, set_opening}
use Rattle.rules.specs.Limits as rules
use Rattle.rules.proofs.Grows.{Grows}
use Rattle.state.specs.declared.Limits.{Limits}
use Rattle.state.specs.Limits.{limits_of}
use Rattle.marked.specs.Marked.{listed, Marked}
use Rattle.entries.specs.Entries.{drawn_in}
use Rattle.encoder.specs.declared.Counters.{Counters}
use Rattle.encoder.specs.Held.{Reading, state_of, Good}

-- a limit would have been passed
abbrev pub is_full : Counters → Bool
is_full n = not (eqb n.full 0)

-- the places that are left in the line for the tasks that the present task queues
unfoldable pub room_of : Limits → Counters → ℕ
room_of l n = 3649 + l.waiting - n.first

-- above a limit, or with more tasks queued or more names served with several allowed than there are places for
unfoldable pub beyond : Limits → ℕ → State → Bool
beyond l room s = rules.above (limits_of l) s || (ltb room (length s.opening.line) || ltb 64 (length s.opening.several))

-- nothing that is counted becomes less
pub record Widens (s s' : State) : Type 0 where
  pub grows : Grows s s'
  pub line : length s.opening.line ≤ length s'.opening.line
  pub several : length s.opening.several ≤ length s'.opening.several

-- a step of the opening alone
unfoldable pub on_opening : (Opening → Opening) → State → State
on_opening f s = set_opening (f s.opening) s

-- a name is served with several allowed
unfoldable pub with_several : ℕ → Opening → Opening
with_several n o = set_several (snoc o.several n) o

-- x is the variable of o, if it has one
pub record Looked (vs : List Origin) (o : Origin) (x : ℕ) : Type 0 where
  pub is : known vs o ≡ true → x ≡ variable_of vs o
  pub below : known vs o ≡ true → x < length vs

-- what every step leaves as it was: the list at hand, of ranges or of names, and the line before `first`
pub record Beside (first : ℕ) (st st' : ℕ → List ℕ) : Type 0 where
  pub marked : (m : ℕ) → Marked 14 15 m st → Marked 14 15 m st'
  pub list : (m : ℕ) → Marked 14 15 m st → listed m 14 st' ≡ listed m 14 st
  pub line : take first (st' 20) ≡ take first (st 20)

-- From entry to exit F was done. F may look at what the run's tasks are read by.
pub record Did (c : Catalogue) (l : Limits) (F : Reading → State → State) (n : Counters) (st : ℕ → List ℕ) (cl wt : List ℕ)
    (n' : Counters) (st' : ℕ → List ℕ) (cl' wt' : List ℕ) : Type 0 where
  pub wide : (v : Reading) (s : State) → Widens s (F v s)
  pub good : Good c l n st cl wt → Good c l n' st' cl' wt'
  pub first : n'.first ≡ n.first
  pub beside : Good c l n st cl wt → Beside n.first st st'
  pub fewer : n'.drawn ≡ n.drawn
  pub drawn : (k : ℕ) → drawn_in l k wt' ≡ drawn_in l k wt
  pub stays : is_full n ≡ true → is_full n' ≡ true
  pub done : Good c l n st cl wt → is_full n ≡ false → is_full n' ≡ false → (v : Reading) → state_of c l v n' st' cl' wt' ≡ F v (state_of c l v n st cl wt)
  pub over : Good c l n st cl wt → is_full n ≡ false → is_full n' ≡ true → (v : Reading) → beyond l (room_of l n) (F v (state_of c l v n st cl wt)) ≡ true

-- the same of a step of the state area alone, whatever the other two hold
pub record StateDid (c : Catalogue) (l : Limits) (F : Reading → State → State) (n : Counters) (st : ℕ → List ℕ) (n' : Counters) (st' : ℕ → List ℕ) : Type 0 where
  pub is : (cl wt : List ℕ) → Did c l F n st cl wt n' st' cl wt

-- the same of the state area and the clauses', whatever the waiting area holds
pub record ClausesDid (c : Catalogue) (l : Limits) (F : Reading → State → State) (n : Counters) (st : ℕ → List ℕ) (cl : List ℕ)
    (n' : Counters) (st' : ℕ → List ℕ) (cl' : List ℕ) : Type 0 where
  pub is : (wt : List ℕ) → Did c l F n st cl wt n' st' cl' wt

-- the same of one that does not read the catalogue
pub record PlainDid (l : Limits) (F : Catalogue → Reading → State → State) (n : Counters) (st : ℕ → List ℕ) (n' : Counters) (st' : ℕ → List ℕ) : Type 0 where
  pub is : (c : Catalogue) → StateDid c l (F c) n st n' st'

-- of one of the waiting area alone
pub record WaitingDid (l : Limits) (F : Reading → State → State) (n : Counters) (wt : List ℕ) (n' : Counters) (wt' : List ℕ) : Type 0 where
  pub is : (c : Catalogue) (st : ℕ → List ℕ) (cl : List ℕ) → Did c l F n st cl wt n' st cl wt'

unfoldable pub filled : Counters → Counters
filled n =
    record {
      variables = n.variables;
      clauses = n.clauses;
      literals = n.literals;
      decisions = n.decisions;
      owners = n.owners;
      names = n.names;
      several = n.several;
      added = n.added;
      named = n.named;
      tracked = n.tracked;
      waiting = n.waiting;
      drawn = n.drawn;
      first = n.first;
      tail = n.tail;
      runs = n.runs;
      full = 1;
    }
