-- A condition is served: which disjuncts fire, and what that does.
use Rattle.std.specs.Prelude.{◌≡◌, Bool, true, false, not, List, [], ◌∷◌, map, ℕ, ◌+◌, ◌<◌, ◌≤◌, length, get_or, take}
use Rattle.std.specs.Bool.{beq}
use Rattle.rules.specs.Lists.{filter, fold}
use Rattle.rules.specs.Catalogue.{Catalogue}
use Rattle.rules.specs.Conditions.{disjuncts_of, indices}
use Rattle.rules.specs.Opening.{Task, Opening, queue, open_names, ranges_of, entry_holds}
use Rattle.rules.specs.State.{State, decided_true}
use Rattle.rules.proofs.Capped.{add_waiting}
use Rattle.state.specs.declared.Limits.{Limits}
use Rattle.state.specs.Layout.{held}
use Rattle.encoder.specs.declared.Counters.{Counters}
use Rattle.encoder.specs.declared.State as encoder
use Rattle.encoder.specs.Held.{Reading, task_in, fired_now}
use Rattle.encoder.specs.Did.{on_opening, Did}
use Rattle.encoder.specs.Does.{regions_of}
use Rattle.firing.specs.declared.disjuncts.Judgement.{Judgement}
use Rattle.firing.specs.declared.disjuncts.Indices.{Indices}

-- whether a disjunct holds, or whether it does not
unfoldable pub judging : Catalogue → (ℕ → Bool) → ℕ → (holds : Bool) → ℕ → Bool
judging c true? q true i = entry_holds c true? q i
judging c true? q false i = not (entry_holds c true? q i)

-- which disjuncts of requirement q hold: a flag for each
pub record Judges (c : Catalogue) (true? : ℕ → Bool) (q : ℕ) (j : Judgement) : Type 0 where
  pub few : j.count ≤ 64
  pub all : j.count ≡ length (disjuncts_of c q)
  pub is : (i : ℕ) → i < j.count → get_or j.flags i false ≡ entry_holds c true? q i

-- the same of a disjunct, by these flags
unfoldable pub flagging : List Bool → (holds : Bool) → ℕ → Bool
flagging flags holds i = beq (get_or flags i false) holds

unfoldable pub indices_in : Indices → List ℕ
indices_in x = take x.len x.at

pub record Lists (x : Indices) (js : List ℕ) : Type 0 where
  pub len : x.len ≡ length js
  pub room : x.len ≤ 64
  pub is : indices_in x ≡ js

-- these disjuncts of requirement q wait
unfoldable pub waits : ℕ → List ℕ → State → State
waits q is = fold add_waiting (map (λ i. (q, i)) is)

-- requirement q opens its names, and task t is queued
unfoldable pub queued : Catalogue → ℕ → Task → Opening → Opening
queued c q t o = queue t (open_names c (ranges_of c q) o)

-- if any disjunct fires
unfoldable pub queued_if : Catalogue → ℕ → Task → List ℕ → Opening → Opening
queued_if c q t [] o = o
queued_if c q t (i ∷ is) o = queued c q t o

-- by what is decided now; the task is read by what was decided when the run began
unfoldable pub condition_served : Catalogue → Reading → ℕ → State → State
condition_served c v q s =
    let f = decided_true s in
    on_opening (queued_if c q (task_in c v (2113 + q)) (fired_now c f q)) (waits q (filter (λ i. not (entry_holds c f q i)) (indices c q)) s)

-- a step of the state's and the waiting area, whatever the clauses' area holds
pub record EntriesDid (c : Catalogue) (l : Limits) (F : Reading → State → State) (n : Counters) (st : ℕ → List ℕ) (wt : List ℕ)
    (n' : Counters) (st' : ℕ → List ℕ) (wt' : List ℕ) : Type 0 where
  pub is : (cl : List ℕ) → Did c l F n st cl wt n' st' cl wt'

-- the same of the encoder's state and the waiting entries: F was done, in the same areas and within the same limits
pub record EntriesDo (c : Catalogue) (F : Reading → State → State) (x : encoder.State) (wt : List ℕ) (x' : encoder.State) (wt' : List ℕ) : Type 0 where
  pub limits : x'.limits ≡ x.limits
  pub area : x'.area.ghost_name ≡ x.area.ghost_name
  pub did : EntriesDid c x.limits F x.used (regions_of x) wt x'.used (held x.limits x'.area.now) wt'
