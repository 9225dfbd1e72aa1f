-- The task line of a run, without fuel: what stands in the line after so many tasks (`After`), and the line served to its end (`Served`).
-- Clauses, decisions and conflicts leave the opening alone, so a task's effect on it is `serve`, and a run's end is `end_run`.
use mathlib.Core.Path.{◌≡◌, refl, ◌∙◌}
use mathlib.Core.Bool.{Bool, true, false}
use mathlib.Core.List.{List, [], ◌∷◌, ◌++◌}
use Prim.Native.Nat.{ℕ, zero, suc, ◌+◌}
use native.Mathlib.Nat.{add-zero, zero-add, add-suc, suc-add}
use lib.ListN.{length}
use Rattle.rules.specs.Lists.{when, fold}
use Rattle.rules.specs.Literal.{Literal, pos, neg}
use Rattle.rules.specs.Clause.{Clause, install, requires, gated, excluded, constrains, forbid, aux_out, aux_owner, lock, any_gate, any_one}
use Rattle.rules.specs.Catalogue.{Catalogue}
use Rattle.rules.specs.Decisions.{Evaluation, undecided, satisfied, falsified}
use Rattle.rules.specs.Opening.{Task, serve, end_run}
use Rattle.rules.specs.Encoding.{Event, served}
use Rattle.rules.specs.State.{State, set_opening, decided_true, Run, report, force, propagate_by, propagate, effect, effects, emit, emit_all}
use Rattle.rules.specs.Run.{line_taken, serve_task, serve_line, join_all, link_all, begun, most_tasks, run_once}

-- ---- clauses, decisions and conflicts leave the opening alone

when_opening : (b : Bool) (f : State → State) → ((s : State) → (f s).opening ≡ s.opening) → (s : State) → (when b f s).opening ≡ s.opening
unfolding when
when_opening true f h s = h s
when_opening false f h s = refl

module _ (c : Catalogue) (r : Run) where
  force_opening : (i : ℕ) (l : Literal) (s : State) → (force r i l s).opening ≡ s.opening
  unfolding force
  force_opening i l s = when_opening _ _ (λ u. refl) s

  report_opening : (i : ℕ) (s : State) → (report r i s).opening ≡ s.opening
  unfolding report
  report_opening i s = refl

  propagate_opening : (i : ℕ) (x y : Evaluation) (a b : Literal) (s : State) → (propagate_by r i x y a b s).opening ≡ s.opening
  unfolding propagate_by
  propagate_opening i (falsified j) (falsified k) a b s = report_opening i s
  propagate_opening i (falsified j) undecided a b s = force_opening i b s
  propagate_opening i (falsified j) (satisfied k) a b s = refl
  propagate_opening i undecided (falsified k) a b s = force_opening i a s
  propagate_opening i undecided undecided a b s = refl
  propagate_opening i undecided (satisfied k) a b s = refl
  propagate_opening i (satisfied j) y a b s = refl

  effect_opening : (i : ℕ) (k : Clause) (s : State) → (effect r i k s).opening ≡ s.opening
  unfolding effect propagate
  effect_opening i install s = refl
  effect_opening i (requires o ks ps) s = when_opening _ (report r i) (report_opening i) s
  effect_opening i (gated g ps) s = when_opening _ (force r i (neg g)) (force_opening i (neg g)) s
  effect_opening i (excluded x p w) s = when_opening _ (report r i) (report_opening i) s
  effect_opening i (constrains o p) s = when_opening _ (report r i) (report_opening i) s
  effect_opening i (forbid p l) s = propagate_opening i _ _ (neg p) l s
  effect_opening i (aux_out p v) s = when_opening _ (force r i (pos v)) (force_opening i (pos v)) s
  effect_opening i (aux_owner o v) s = when_opening _ (report r i) (report_opening i) s
  effect_opening i (lock p) s = refl
  effect_opening i (any_gate g o) s = propagate_opening i _ _ (pos g) (neg o) s
  effect_opening i (any_one y p) s = when_opening _ (force r i (pos y)) (force_opening i (pos y)) s

  effects_opening : (i : ℕ) (ks : List Clause) (s : State) → (effects r i ks s).opening ≡ s.opening
  unfolding effects
  effects_opening i [] s = refl
  effects_opening i (k ∷ ks) s = effects_opening (suc i) ks (effect r i k s) ∙ effect_opening i k s

  pub emit_opening : (e : Event) (s : State) → (emit c r e s).opening ≡ s.opening
  unfolding emit
  emit_opening e s = effects_opening _ _ _

  pub serve_task_opening : (t : Task) (s : State) → (serve_task c r t s).opening ≡ serve c (decided_true s) t s.opening
  unfolding serve_task
  serve_task_opening t s = emit_opening (served t) (set_opening (serve c (decided_true s) t s.opening) s)

  pub emit_all_opening : (es : List Event) (s : State) → (emit_all c r es s).opening ≡ s.opening
  unfolding emit_all fold
  emit_all_opening [] s = refl
  emit_all_opening (e ∷ es) s = emit_all_opening es (emit c r e s) ∙ emit_opening e s

  pub join_all_opening : (s : State) → (join_all c r s).opening ≡ end_run c s.opening
  unfolding join_all
  join_all_opening s = emit_all_opening _ _

  pub link_all_opening : (s : State) → (link_all c r s).opening ≡ s.opening
  unfolding link_all
  link_all_opening s = emit_all_opening _ _

  -- ---- a task served, the line's first

  abbrev pub line_after : Task → List Task → State → List Task
  line_after t ts s = ts ++ (serve_task c r t s).opening.line

  abbrev pub state_after : Task → State → State
  state_after t s = line_taken (serve_task c r t s)

  -- a point of the run: n tasks of the line ts₀ served, or of what they queued, and what is left to serve
  pub data After (ts₀ : List Task) (s₀ : State) : ℕ → List Task → State → Type 0 where
    begins : After ts₀ s₀ 0 ts₀ s₀
    serves : {n : ℕ} {t : Task} {ts : List Task} {s : State} → After ts₀ s₀ n (t ∷ ts) s → After ts₀ s₀ (suc n) (line_after t ts s) (state_after t s)

  -- the line served to its end, in n tasks
  pub data Served : ℕ → List Task → State → State → Type 0 where
    done : {s : State} → Served 0 [] s s
    next : {n : ℕ} {t : Task} {ts : List Task} {s s' : State} → Served n (line_after t ts s) (state_after t s) s' → Served (suc n) (t ∷ ts) s s'

  module _ {ts₀ : List Task} {s₀ : State} where
    -- a point and the rest of the run
    pub after_served : {n m : ℕ} {ts : List Task} {s s' : State} → After ts₀ s₀ n ts s → Served m ts s s' → Served (n + m) ts₀ s₀ s'
    after_served {m = m} begins p = rw (zero-add m) p
    after_served {m = m} (serves {n = n} a) p = rw (suc-add n m, ← add-suc n m) (after_served a (next p))

    pub served_after : {n m : ℕ} {ts : List Task} {s s' : State} → After ts₀ s₀ n ts s → Served m ts s s' → After ts₀ s₀ (n + m) [] s'
    served_after {n} a done = rw (add-zero n) a
    served_after {n} a (next {n = m} p) = rw (add-suc n m, ← suc-add n m) (served_after {n = suc n} (serves a) p)

    -- what fuel leads to is a point of the run
    pub serve_line_after : (fuel : ℕ) {n : ℕ} {ts : List Task} {s : State} → After ts₀ s₀ n ts s
        → (m : ℕ) × (ts' : List Task) × After ts₀ s₀ m ts' (serve_line c r fuel ts s)
    unfolding serve_line
    serve_line_after zero a = (_, _, a)
    serve_line_after (suc fuel) {ts = []} a = (_, _, a)
    serve_line_after (suc fuel) {ts = t ∷ ts} a = serve_line_after fuel (serves a)

-- ---- the run that begins in s

abbrev pub first_line : Catalogue → State → List Task
first_line c s = (begun c s).opening.line

abbrev pub first_state : Catalogue → State → State
first_state c s = line_taken (begun c s)

abbrev pub run_from : ℕ → State → Run
run_from level s = record { number = suc s.runs; level = level; before = length s.variables }

-- what is left of a run when its line has been served
abbrev pub run_end : Catalogue → Run → State → State
run_end c r s = link_all c r (join_all c r s)

pub run_end_opening_law : (c : Catalogue) (r : Run) (s : State) → (run_end c r s).opening ≡ end_run c s.opening
run_end_opening_law c r s = link_all_opening c r (join_all c r s) ∙ join_all_opening c r s

-- `run_once` is: begin, serve the line, end
pub run_once_is : (c : Catalogue) (level : ℕ) (s : State)
    → run_once c level s ≡ run_end c (run_from level s) (serve_line c (run_from level s) (most_tasks c s.opening) (first_line c s) (first_state c s))
unfolding run_once
run_once_is c level s = refl
