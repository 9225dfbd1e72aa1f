-- A point of a run: what is decided true there is what was when the run began, and the line has places for what its next task queues.
use mathlib.Core.Path.{◌≡◌, fun_ext}
use mathlib.Core.List.{List, ◌∷◌}
use Prim.Native.Nat.{ℕ, suc, ◌+◌, ◌≤◌}
use native.Mathlib.Nat.{le_refl}
use native.Mathlib.Omega.{arith}
use lib.ListN.{length, length-append}
use Rattle.rules.specs.Catalogue.{Catalogue}
use Rattle.rules.specs.Items.{ceiling}
use Rattle.rules.specs.Opening.{Task}
use Rattle.rules.specs.State.{State, decided_true, Run}
use Rattle.rules.specs.Run.{serve_task, begun}
use Rattle.rules.proofs.Reached.{Given, Reached}
use Rattle.rules.proofs.Line.{After, begins, serves, first_line, first_state, run_from}
use Rattle.rules.proofs.RunLaws.{Within, serve_task_within}
use Rattle.rules.proofs.Decided.{decided, no_part_made_true}
use Rattle.rules.proofs.Ends.{room}
use Rattle.rules.proofs.Drawn.{places}
use Rattle.state.specs.declared.Limits.{Limits}
use Rattle.state.specs.Limits.{limits_of}

within_at : {c : Catalogue} {r : Run} {ts₀ : List Task} {s₀ : State} {k : ℕ} {ts : List Task} {u : State} → After c r ts₀ s₀ k ts u → Within c r s₀ u
within_at begins = Within.begins
within_at {c} (serves {t = t} a) = Within.opens (serve_task_within c (within_at a) t) _

module _ (l : Limits) {c : Catalogue} {s₀ : State} (g : Given c) (reached : Reached (limits_of l) c s₀) (level : ℕ) where
  abbrev run : Run
  run = run_from level s₀

  -- no part's being decided true has changed since the run began
  pub truth_at : {k : ℕ} {ts : List Task} {u : State} → After c run (first_line c s₀) (first_state c s₀) k ts u → decided_true u ≡ decided_true s₀
  unfolding begun decided_true
  truth_at a = fun_ext (no_part_made_true c {r = run} {s₀ = first_state c s₀} (record { before = le_refl _; decided_in = decided reached }) (within_at a))

  -- the line has places for what the task queues
  pub step_room : {k : ℕ} {t : Task} {ts : List Task} {u : State} → After c run (first_line c s₀) (first_state c s₀) k (t ∷ ts) u
      → suc k + (length ts + length (serve_task c run t u).opening.line) ≤ 3649 + l.waiting
  unfolding ceiling limits_of
  step_room {t = t} {ts = ts} {u = u} a = omega (arith, room g reached run (serves a), length-append ts (serve_task c run t u).opening.line, places g reached)
