-- The opening does not depend on the clauses: a machine on openings alone (`carried_out_alone`), which is told which parts are decided true and knows
-- no variable, clause, level or limit, gives the opening after every command of every job. It may be told once for a whole run, because no rule
-- makes a part true (Decided.runOnce-same).
use mathlib.Core.Path.{◌≡◌, refl, sym, ◌∙◌, ap, fun_ext}
use mathlib.Core.Bool.{Bool}
use mathlib.Core.List.{List, [], ◌∷◌, ◌++◌}
use Prim.Native.Nat.{ℕ, zero, suc, ◌≤◌}
use native.Mathlib.Nat.{le_refl}
use Rattle.rules.specs.Catalogue.{Owner, Catalogue}
use Rattle.rules.specs.Opening.{Task, Opening, unopened, set_line, serve, add, draw, begin_run, end_run}
use Rattle.rules.specs.Encoding.{served}
use Rattle.rules.specs.State.{State, decided_true, Run}
use Rattle.rules.specs.Run.{begun, serve_line, most_tasks}
use Rattle.rules.specs.Records.{Command}
use Rattle.rules.specs.Items.{owner_of}
use Rattle.rules.specs.Limits.{Limits}
use Rattle.rules.specs.Sheet.{decide, carried_out}
use Rattle.rules.proofs.Each.{when_cases}
use Rattle.rules.proofs.Reached.{Given, Reached, command}
use Rattle.rules.proofs.Line.{emit_opening, first_line, first_state, run_from, run_end_opening_law, run_once_is}
use Rattle.rules.proofs.Ends.{more_fuel}
use Rattle.rules.proofs.Decided.{serve_task_by, serve_line_by, run_judged_at_start}

-- ---- the machine

module _ (c : Catalogue) (true? : ℕ → Bool) where
  -- the line, the first first; what a task queues goes behind
  unfoldable pub serve_alone : (fuel : ℕ) → List Task → Opening → Opening
  serve_alone zero ts o = o
  serve_alone (suc fuel) [] o = o
  serve_alone (suc fuel) (t ∷ ts) o =
      let o₁ = serve c true? t o in
      serve_alone fuel (ts ++ o₁.line) (set_line [] o₁)

  -- the line of the run that begins here
  abbrev pub line_alone : (fuel : ℕ) → Opening → Opening
  line_alone fuel o =
      let o₁ = begin_run c o in
      serve_alone fuel o₁.line (set_line [] o₁)

  -- begin, serve the line to its end, end
  unfoldable pub run_alone : Opening → Opening
  run_alone o = end_run c (line_alone (most_tasks c o) o)

  unfoldable pub carried_out_alone : Command → Opening → Opening
  carried_out_alone (Command.add n) o = add (owner_of n) o
  carried_out_alone (Command.draw k) o = draw c true? k o
  carried_out_alone (Command.run level) o = run_alone o
  carried_out_alone (Command.decide x value level) o = o
  carried_out_alone (Command.undo level) o = o

-- ---- a run's line

served_alone : (c : Catalogue) (r : Run) (f : ℕ → Bool) (fuel : ℕ) (ts : List Task) (s : State)
    → (serve_line_by c r f fuel ts s).opening ≡ serve_alone c f fuel ts s.opening
unfolding serve_line_by serve_task_by serve_alone
served_alone c r f zero ts s = refl
served_alone c r f (suc fuel) [] s = refl
served_alone c r f (suc fuel) (t ∷ ts) s = served_alone c r f fuel _ _ ∙ rw (emit_opening c r (served t) _)

module _ {l : Limits} {c : Catalogue} {s : State} (h : Reached l c s) where
  line_alone_law : (level fuel : ℕ)
      → (serve_line c (run_from level s) fuel (first_line c s) (first_state c s)).opening ≡ line_alone c (decided_true s) fuel s.opening
  unfolding begun
  line_alone_law level fuel = rw (run_judged_at_start h (run_from level s) (le_refl _) fuel (first_line c s)) (served_alone c _ (decided_true s) fuel _ _)

  -- the machine's fuel is enough: more gives the same
  pub more_fuel_alone : Given c → (fuel : ℕ) → most_tasks c s.opening ≤ fuel
      → line_alone c (decided_true s) fuel s.opening ≡ line_alone c (decided_true s) (most_tasks c s.opening) s.opening
  more_fuel_alone g fuel b = sym (line_alone_law 0 fuel) ∙ (ap (λ (u : State). u.opening) (more_fuel g h (run_from 0 s) fuel b) ∙ line_alone_law 0 _)

  -- THE OPENING DOES NOT DEPEND ON THE CLAUSES
  pub opening_alone : (o : Command) → (carried_out l c o s).opening ≡ carried_out_alone c (decided_true s) o s.opening
  unfolding carried_out carried_out_alone run_alone decide
  opening_alone (Command.add n) = refl
  opening_alone (Command.draw k) = refl
  opening_alone (Command.run level) = rw (run_once_is c level s) (run_end_opening_law c _ _ ∙ ap (end_run c) (line_alone_law level _))
  opening_alone (Command.decide x value level) = when_cases (λ (u : State). u.opening ≡ s.opening) _ _ s refl (λ e. refl)
  opening_alone (Command.undo level) = refl

-- Two jobs of one catalogue, whatever their limits, variables and clauses: with the same opening, and the same parts decided true, each command
-- gives both the same opening.
pub same_opening : {l l' : Limits} {c : Catalogue} {s s' : State} → Reached l c s → Reached l' c s'
    → s.opening ≡ s'.opening → ((p : ℕ) → decided_true s p ≡ decided_true s' p)
    → (o : Command) → (carried_out l c o s).opening ≡ (carried_out l' c o s').opening
same_opening {c = c} {s = s} h h' e d o = opening_alone h o ∙ (rw (fun_ext d, e) refl ∙ sym (opening_alone h' o))

-- ---- what every rule keeps holds of the opening of every job; no clause need be looked at

pub record KeptByRules (c : Catalogue) (P : Opening → Type 0) : Type 0 where
  pub added : (w : Owner) (o : Opening) → P o → P (add w o)
  pub drawn : (true? : ℕ → Bool) (k : ℕ) (o : Opening) → P o → P (draw c true? k o)
  pub begun : (o : Opening) → P o → P (begin_run c o)
  pub taken : (o : Opening) → P o → P (set_line [] o)
  pub served : (true? : ℕ → Bool) (t : Task) (o : Opening) → P o → P (serve c true? t o)
  pub ended : (o : Opening) → P o → P (end_run c o)

module _ (c : Catalogue) (P : Opening → Type 0) (k : KeptByRules c P) where
  line_kept : (true? : ℕ → Bool) (fuel : ℕ) (ts : List Task) (o : Opening) → P o → P (serve_alone c true? fuel ts o)
  unfolding serve_alone
  line_kept true? zero ts o p = p
  line_kept true? (suc fuel) [] o p = p
  line_kept true? (suc fuel) (t ∷ ts) o p = line_kept true? fuel _ _ (k.taken _ (k.served true? t o p))

  command_kept : (true? : ℕ → Bool) (x : Command) (o : Opening) → P o → P (carried_out_alone c true? x o)
  unfolding carried_out_alone run_alone
  command_kept true? (Command.add n) o p = k.added (owner_of n) o p
  command_kept true? (Command.draw n) o p = k.drawn true? n o p
  command_kept true? (Command.run level) o p = k.ended _ (line_kept true? _ _ _ (k.taken _ (k.begun o p)))
  command_kept true? (Command.decide x value level) o p = p
  command_kept true? (Command.undo level) o p = p

  pub every_opening : P unopened → {l : Limits} {s : State} → Reached l c s → P s.opening
  every_opening p Reached.begun = p
  every_opening p (command {s = s} r x q) = rw (opening_alone r x) (command_kept (decided_true s) x s.opening (every_opening p r))
