-- Every job has a history: a list of served tasks that the opening's books and the stored clauses both go by.
use mathlib.Core.Path.{◌≡◌, refl}
use mathlib.Core.List.{List, [], ◌∷◌, ◌++◌}
use Prim.Native.Nat.{ℕ}
use lib.ListN.{length}
use Rattle.rules.specs.Catalogue.{Catalogue}
use Rattle.rules.specs.Records.{Command}
use Rattle.rules.specs.Items.{owner_of}
use Rattle.rules.specs.Opening.{Task, add, draw, serve, begin_run, end_run}
use Rattle.rules.specs.State.{State, decided_true, Run}
use Rattle.rules.specs.Run.{serve_task, line_taken, run_once}
use Rattle.rules.specs.Limits.{Limits}
use Rattle.rules.specs.Sheet.{decide, carried_out}
use Rattle.rules.proofs.ListLaws.{when_keeps}
use Rattle.rules.proofs.Reached.{Given, Reached, begun, command}
use Rattle.rules.proofs.Line.{Served, done, next, serve_task_opening, first_line, first_state, run_from, run_end, run_end_opening_law}
use Rattle.rules.proofs.Valid.{valid}
use Rattle.rules.proofs.Ends.{ends, run_to_end}
use Rattle.rules.proofs.Grows.{serve_waits, begin_waits}
use Rattle.rules.proofs.Booked.{Booked, start_booked, serve_booked, begin_booked, end_booked, add_booked, draw_booked}
use Rattle.rules.proofs.Encoded.{Encoded, start_encoded, serve_task_encoded}
use Rattle.rules.proofs.RunEnd.{run_end_law}

-- after the tasks of `log`, with `ts` still in the line; `before` is the number of variables at the run's start
record Point (c : Catalogue) (before : ℕ) (ts : List Task) (s : State) : Type 0 where
  log : List Task
  booked : Booked c log ts s.opening
  encoded : Encoded c log before s.opening.tracked s.variables s.clauses
  taken : s.opening.line ≡ []

-- between two records
pub record History (c : Catalogue) (s : State) : Type 0 where
  pub log : List Task
  pub booked : Booked c log [] s.opening
  pub encoded : Encoded c log (length s.variables) s.opening.tracked s.variables s.clauses

module _ (c : Catalogue) where
  task_served : (r : Run) (t : Task) {ts : List Task} (s : State) → Point c r.before (t ∷ ts) s
      → Point c r.before (ts ++ (serve_task c r t s).opening.line) (line_taken (serve_task c r t s))
  task_served r t {ts} s p =
      let o = serve_task_opening c r t s in
      let same : (serve c (decided_true s) t s.opening).tracked ≡ s.opening.tracked = (serve_waits c (decided_true s) t s.opening).tracked in
      record {
        log = p.log ++ (t ∷ []);
        booked = rw o (serve_booked c (decided_true s) p.booked p.taken);
        encoded = rw (o, same) (serve_task_encoded c r t s p.encoded);
        taken = refl;
      }

  line_served : {r : Run} {n : ℕ} {ts : List Task} {s s' : State} → Served c r n ts s s' → Point c r.before ts s → Point c r.before [] s'
  line_served done p = p
  line_served {r} (next {t = t} {s = s} d) p = line_served d (task_served r t s p)

  run_begun : (level : ℕ) (s : State) → s.opening.line ≡ [] → History c s → Point c (run_from level s).before (first_line c s) (first_state c s)
  unfolding Rattle.rules.specs.Run.begun
  run_begun level s e h =
      let same : (begin_run c s.opening).tracked ≡ s.opening.tracked = (begin_waits c s.opening).tracked in
      record { log = h.log; booked = begin_booked c h.booked e; encoded = rw same h.encoded; taken = refl }

  run_ended : (r : Run) (s : State) → Point c r.before [] s → History c (run_end c r s)
  unfolding end_run
  run_ended r s p =
      let o = run_end_opening_law c r s in
      record { log = p.log; booked = rw o (end_booked c p.booked); encoded = rw o (run_end_law c r s p.encoded) }

  run_history : {l : Limits} {s : State} → Given c → Reached l c s → (level : ℕ) → History c s → History c (run_once c level s)
  run_history {l} {s} g reached level h =
      let e = ends g reached (run_from level s) in
      rw (run_to_end g reached level e.served) (run_ended (run_from level s) _ (line_served e.served (run_begun level s (valid g reached).line_empty h)))

  command_history : {l : Limits} {s : State} → Given c → Reached l c s → (o : Command) → History c s → History c (carried_out l c o s)
  unfolding carried_out add draw decide
  command_history {l} {s} g r (Command.add o) h = record { log = h.log; booked = add_booked c (owner_of o) h.booked; encoded = h.encoded }
  command_history {l} {s} g r (Command.draw k) h = record { log = h.log; booked = draw_booked c (decided_true s) k h.booked; encoded = h.encoded }
  command_history {l} {s} g r (Command.run level) h = run_history g r level h
  command_history {l} {s} g r (Command.decide x value level) h =
      when_keeps (History c) _ _ s h (record { log = h.log; booked = h.booked; encoded = h.encoded })
  command_history {l} {s} g r (Command.undo level) h = record { log = h.log; booked = h.booked; encoded = h.encoded }

  pub history : {l : Limits} {s : State} → Given c → Reached l c s → History c s
  history g begun = record { log = []; booked = start_booked c; encoded = start_encoded c }
  history g (command r o p) = command_history g r o (history g r)
