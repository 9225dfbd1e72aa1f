-- A run that stops at the first excess of a limit (`run_capped`) ends as the whole run does. So a run is refused as full exactly where its stopped
-- run is full, and otherwise gives the stopped run's state (READINGS.md, 22). And no reached state is above a limit.
use mathlib.Core.Path.{◌≡◌, refl, sym, ◌∙◌}
use mathlib.Core.Bool.{Bool, true, false, ◌&&◌}
use mathlib.Core.List.{List, [], ◌∷◌, ◌++◌}
use Prim.Native.Nat.{ℕ, zero, suc, ◌≤◌, zero-le}
use native.Mathlib.Omega.{arith}
use lib.Dec.{ltb, leb}
use lib.ListN.{length, drop}
use borrow.Author.Tests.{ltb-true, le-ltb}
use Rattle.rules.specs.Lists.{fold, sum}
use Rattle.rules.specs.Clause.{condition_literals}
use Rattle.rules.specs.Catalogue.{Catalogue}
use Rattle.rules.specs.Refusals.{level_low, run_full, ◌if◌, Result, ok, refuse, unless_any}
use Rattle.rules.specs.Records.{Command}
use Rattle.rules.specs.Decisions.{Decision, up_to_level}
use Rattle.rules.specs.Items.{owner_of}
use Rattle.rules.specs.Opening.{Task, Opening, set_line, serve, add, draw, is_drawn, joining, end_run}
use Rattle.rules.specs.Variables.{with_variables}
use Rattle.rules.specs.Encoding.{served, task_origins, origins, task_clauses, clauses}
use Rattle.rules.specs.State.{State, set_opening, set_decisions, start, decided_true, Run, emit, emit_all}
use Rattle.rules.specs.Run.{joins_from, links_for, line_taken, serve_task, serve_line, join_all, link_all, begun, most_tasks, run_once}
use Rattle.rules.specs.Limits.{Limits, allowed, above}
use Rattle.rules.specs.Limits
use Rattle.rules.specs.Sheet.{too_low, decide, command_refusals, carried_out, carry_out}
use Rattle.rules.proofs.Bools.{and_left, and_right}
use Rattle.rules.proofs.ListLaws.{when_keeps, length_filters}
use Rattle.rules.proofs.Reached.{tested, passes, Given, Reached, command}
use Rattle.rules.proofs.Grows.{whole, Grows, same, and_then, opening_grows, emit_grows, serve_task_grows, serve_line_grows, join_all_grows, link_all_grows}
use Rattle.rules.proofs.Line.{line_after, state_after, After, begins, serves, Served, done, next, first_line, first_state, run_from, run_end, run_once_is}
use Rattle.rules.proofs.Ends.{ends}
use Rattle.rules.proofs.Drawn.{within_limit}
use Rattle.rules.proofs.ClauseByClause.{add_clause}
use Rattle.rules.proofs.Capped.{add_variable, emit_capped, Capped, full, within, capped_by, capped, afterwards, step_capped, is_within, staged, fold_capped, same_waiting, only_waiting, begin_waiting}

-- ---- a task: its opening, then its event with a test after each variable and each clause

pub task_capped : (l : Limits) (c : Catalogue) (r : Run) (t : Task) (s : State)
    → let u = set_opening (serve c (decided_true s) t s.opening) s in let vs = with_variables (task_origins c t) s.variables in
    fold (step_capped l (add_clause r)) (task_clauses c s.variables vs t) (fold (step_capped l add_variable) (task_origins c t) (capped l u))
    ≡ capped l (serve_task c r t s)
unfolding serve_task origins clauses
task_capped l c r t s = emit_capped l c r (served t) (set_opening (serve c (decided_true s) t s.opening) s)

-- ---- the line

module _ (l : Limits) (c : Catalogue) (r : Run) where
  -- the line, with a test after each task
  unfoldable pub serve_capped : ℕ → List Task → State → Capped
  serve_capped zero ts s = within s
  serve_capped (suc fuel) [] s = within s
  serve_capped (suc fuel) (t ∷ ts) s = afterwards (capped l (serve_task c r t s)) (λ u. serve_capped fuel (ts ++ u.opening.line) (line_taken u))

  taken_grows : (s : State) → Grows s (line_taken s)
  taken_grows s = opening_grows (set_line [] s.opening) s whole

  pub line_capped : (fuel : ℕ) (ts : List Task) (s : State) → above l s ≡ false → serve_capped fuel ts s ≡ capped l (serve_line c r fuel ts s)
  unfolding serve_capped serve_line
  line_capped zero ts s e = sym (is_within l s e)
  line_capped (suc fuel) [] s e = sym (is_within l s e)
  line_capped (suc fuel) (t ∷ ts) s e =
      let rest : State → State = λ u. serve_line c r fuel (ts ++ u.opening.line) (line_taken u) in
      staged l (serve_task c r t s) rest (λ u. serve_capped fuel (ts ++ u.opening.line) (line_taken u))
      (and_then (taken_grows (serve_task c r t s)) (serve_line_grows c r fuel _ (line_taken (serve_task c r t s))))
      (λ u k. line_capped fuel (ts ++ u.opening.line) (line_taken u) (same_waiting l (set_line [] u.opening) u refl ∙ k))

  -- ---- the run's end, with a test after each event

  unfoldable pub join_capped : State → Capped
  join_capped s = fold (step_capped l (emit c r)) (joins_from c s.opening.tracked (joining c s.opening)) (within (set_opening (end_run c s.opening) s))

  unfoldable pub link_capped : State → Capped
  link_capped s = fold (step_capped l (emit c r)) (links_for c (drop r.before s.variables) s.opening.tracked) (within s)

  pub join_capped_law : (s : State) → above l s ≡ false → join_capped s ≡ capped l (join_all c r s)
  unfolding join_capped join_all emit_all end_run
  join_capped_law s e =
      let u = set_opening (end_run c s.opening) s in
      rw (← is_within l u (same_waiting l (end_run c s.opening) s refl ∙ e)) (fold_capped l (emit c r) (emit_grows c r) _ u)

  pub link_capped_law : (s : State) → above l s ≡ false → link_capped s ≡ capped l (link_all c r s)
  unfolding link_capped link_all emit_all
  link_capped_law s e = rw (← is_within l s e) (fold_capped l (emit c r) (emit_grows c r) _ s)

-- ---- the run

unfoldable pub run_capped : Limits → Catalogue → (level : ℕ) → State → Capped
run_capped l c level s =
    let r = run_from level s in
    afterwards (serve_capped l c r (most_tasks c s.opening) (first_line c s) (first_state c s)) (λ u. afterwards (join_capped l c r u) (link_capped l c r))

module _ (l : Limits) (c : Catalogue) where
  first_above : (s : State) → above l (first_state c s) ≡ above l s
  unfolding begun above
  first_above s = rw (begin_waiting s.opening.waiting c s.opening refl)

  pub run_capped_law : (level : ℕ) (s : State) → above l s ≡ false → run_capped l c level s ≡ capped l (run_once c level s)
  unfolding run_capped
  run_capped_law level s e =
      let r = run_from level s in
      let u = serve_line c r (most_tasks c s.opening) (first_line c s) (first_state c s) in
      rw (run_once_is c level s, line_capped l c r (most_tasks c s.opening) (first_line c s) (first_state c s) (first_above s ∙ e))
      (staged l u (run_end c r) _ (and_then (join_all_grows c r u) (link_all_grows c r (join_all c r u)))
      (λ v k. rw (join_capped_law l c r v k) (staged l (join_all c r v) (link_all c r) (link_capped l c r) (link_all_grows c r (join_all c r v)) (link_capped_law l c r))))

-- "a run, carried out without limits, would end above a limit"
unfoldable pub run_result : (low : Bool) → Capped → Result State
run_result true u = refuse level_low
run_result false full = refuse run_full
run_result false (within s) = ok s

-- A RUN IS REFUSED AS FULL EXACTLY WHERE THE STOPPED RUN IS FULL
pub run_carried_out : (l : Limits) (c : Catalogue) (level : ℕ) (s : State) → above l s ≡ false
    → carry_out l c (Command.run level) s ≡ run_result (too_low level s) (run_capped l c level s)
unfolding carry_out command_refusals carried_out
run_carried_out l c level s e = rw (run_capped_law l c level s e) (unfold capped in go (too_low level s) (above l (run_once c level s)) (run_once c level s))
  where
    go : (a b : Bool) (u : State) → unless_any ((level_low if a) ∷ (run_full if b) ∷ []) u ≡ run_result a (capped_by b u)
    go true b u = unfold unless_any run_result in refl
    go false true u = unfold unless_any run_result capped_by in refl
    go false false u = unfold unless_any run_result capped_by in refl

-- ---- at any point of a run: what is above a limit there is above it at the run's end

module _ (c : Catalogue) (r : Run) where
  -- the whole line served passes through each of its points
  pub rest_served : {ts₀ : List Task} {s₀ : State} {n m : ℕ} {ts : List Task} {u end : State} → After c r ts₀ s₀ n ts u → Served c r m ts₀ s₀ end
      → (k : ℕ) × Served c r k ts u end
  rest_served begins p = (_, p)
  rest_served (serves a) p = go (rest_served a p).1
    where
      go : {k : ℕ} {t : Task} {ts : List Task} {u end : State} → Served c r k (t ∷ ts) u end → (j : ℕ) × Served c r j (line_after c r t ts u) (state_after c r t u) end
      go (next q) = (_, q)

  pub served_grows : {m : ℕ} {ts : List Task} {s end : State} → Served c r m ts s end → Grows s end
  served_grows done = same
  served_grows (next {t = t} {s = s} p) =
      and_then (serve_task_grows c r t s) (and_then (opening_grows (set_line [] (serve_task c r t s).opening) (serve_task c r t s) whole) (served_grows p))

module _ {l : Limits} {c : Catalogue} {s : State} (g : Given c) (reached : Reached l c s) (level : ℕ) where
  pub point_grows : {n : ℕ} {ts : List Task} {u : State} → After c (run_from level s) (first_line c s) (first_state c s) n ts u → Grows u (run_once c level s)
  point_grows a =
      let r = run_from level s in
      let end = serve_line c r (most_tasks c s.opening) (first_line c s) (first_state c s) in
      rw (run_once_is c level s)
      (and_then (served_grows c r (rest_served c r a (ends g reached r).served).1) (and_then (join_all_grows c r end) (link_all_grows c r (join_all c r end))))

  -- v: a state on the way of serving t
  pub task_grows : {n : ℕ} {t : Task} {ts : List Task} {u v : State} → After c (run_from level s) (first_line c s) (first_state c s) n (t ∷ ts) u
      → Grows v (serve_task c (run_from level s) t u) → Grows v (run_once c level s)
  task_grows {t = t} {u = u} a h =
      let w = serve_task c (run_from level s) t u in
      and_then h (and_then (opening_grows (set_line [] w.opening) w whole) (point_grows (serves a)))

-- ---- no reached state is above a limit

abbrev positive : ℕ → ℕ → Bool
positive n most = ltb 0 n && leb n most

above_zero : (n most : ℕ) → positive n most ≡ true → 1 ≤ n
above_zero n most e = ltb-true 0 n (and_left (ltb 0 n) (leb n most) e)

module _ (l : Limits) where
  pub start_within : allowed l ≡ true → above l start ≡ false
  unfolding allowed Limits.within above sum condition_literals
  start_within e =
      let a = and_left (positive l.variables 4096) (positive l.clauses 16384 && (positive l.condition_literals 8192 && positive l.waiting 2048)) e in
      let b = and_left (positive l.clauses 16384) _ (and_right (positive l.variables 4096) _ e) in
      rw (le-ltb l.variables 1 (above_zero _ 4096 a), le-ltb l.clauses 1 (above_zero _ 16384 b), le-ltb l.condition_literals 0 zero-le)
      (le-ltb l.waiting 0 zero-le)

  decisions_apart : (ds : List Decision) (s : State) → above l (set_decisions ds s) ≡ above l s
  unfolding above
  decisions_apart ds s = refl

  fewer_waiting : (s : State) → above l s ≡ false → (o : Opening) → length o.waiting ≤ length s.opening.waiting → above l (set_opening o s) ≡ false
  fewer_waiting s e o h = only_waiting l s e o ∙ le-ltb l.waiting (length o.waiting) (omega (arith, within_limit l s e))

  pub never_above : {c : Catalogue} {s : State} → above l start ≡ false → Reached l c s → above l s ≡ false
  unfolding carried_out command_refusals tested add draw decide
  never_above e Reached.begun = e
  never_above e (command {s = s} r (Command.add o) p) = same_waiting l (add (owner_of o) s.opening) s refl ∙ never_above e r
  never_above {c} e (command {s = s} r (Command.draw k) p) =
      let n = never_above e r in
      let f = is_drawn c (decided_true s) k in
      fewer_waiting s n (draw c (decided_true s) k s.opening) (omega (arith, length_filters f s.opening.waiting))
  never_above e (command r (Command.run level) p) = passes p 1
  never_above e (command {s = s} r (Command.decide x value level) p) =
      let n = never_above e r in
      when_keeps (λ u. above l u ≡ false) _ _ s n (decisions_apart _ s ∙ n)
  never_above e (command {s = s} r (Command.undo level) p) = decisions_apart (up_to_level level s.decisions) s ∙ never_above e r
