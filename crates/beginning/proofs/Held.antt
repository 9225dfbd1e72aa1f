-- What the areas of a reached state give to what comes after it.
use mathlib.Core.Path.{◌≡◌, ap}
use mathlib.Core.Bool.{false}
use mathlib.Core.List.{List, []}
use Prim.Native.Nat.{ℕ}
use Rattle.rules.specs.Catalogue.{Catalogue}
use Rattle.rules.specs.State.{State}
use Rattle.rules.proofs.Levels.{Rising, levels}
use Rattle.rules.proofs.Valid.{valid}
use Rattle.state.specs.declared.Limits.{Limits}
use Rattle.decision_tracker.specs.Tracking.{decisions}
use Rattle.entries.specs.Entries.{waiting_in}
use Rattle.encoder.specs.declared.Counters.{Counters}
use Rattle.encoder.specs.Held.{Reading, opening_of, state_of}
use Rattle.goals.specs.Goals.{AllGiven}
use Rattle.goals.proofs.Given.{all_given}
use Rattle.beginning.specs.Beginning.{Holds, Reaches}

-- between two records no task is left, so any reading will do
abbrev pub any_reading : Reading
any_reading = record { truth = λ _. false; drawn = [] }

module _ {c : Catalogue} {l : Limits} {s : State} {n : Counters} {st : ℕ → List ℕ} {cl wt : List ℕ} (h : Holds c l s n st cl wt) where
  pub held_decisions : decisions n.decisions st ≡ s.decisions
  unfolding state_of
  held_decisions = ap (λ (u : State). u.decisions) (h.is any_reading)

  held_waiting : waiting_in l n.waiting wt ≡ s.opening.waiting
  unfolding state_of opening_of
  held_waiting = ap (λ (u : State). u.opening.waiting) (h.is any_reading)

  pub held_runs : n.runs ≡ s.runs
  unfolding state_of
  held_runs = ap (λ (u : State). u.runs) (h.is any_reading)

module _ {c : Catalogue} {l : Limits} {n : Counters} {st : ℕ → List ℕ} {cl wt : List ℕ} (h : Reaches c l n st cl wt) where
  pub reaches_rising : Rising (decisions n.decisions st)
  reaches_rising = rw (held_decisions h.holds) (levels h.reached).rising

  pub reaches_given : AllGiven c (waiting_in l n.waiting wt)
  reaches_given = rw (held_waiting h.holds) (all_given (valid h.given h.reached).opening.waiting)
