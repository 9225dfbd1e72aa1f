-- One run (34): "Tasks are served first in, first out"; at its end the named parts join and new one-of-name clauses follow.
use Rattle.std.specs.Prelude.{List, [], ◌∷◌, ◌++◌, map, ℕ, zero, suc, ◌+◌, ◌*◌, length, drop}
use Rattle.rules.specs.Lists.{snoc, concat_map}
use Rattle.rules.specs.Catalogue.{Catalogue, name_of}
use Rattle.rules.specs.Variables.{Origin, chosen, forbid, one, violation, gate}
use Rattle.rules.specs.Opening.{Task, Opening, set_line, serve, begin_run, joining, end_run, tracked_of}
use Rattle.rules.specs.Encoding.{Event, served, joins, links}
use Rattle.rules.specs.State.{State, set_opening, decided_true, Run, emit, emit_all}

unfoldable pub name_if_one : Origin → List ℕ
name_if_one (chosen o) = []
name_if_one (forbid n j) = []
name_if_one (one n) = n ∷ []
name_if_one (violation r) = []
name_if_one (gate g) = []

abbrev pub line_taken : State → State
line_taken s = set_opening (set_line [] s.opening) s

module _ (c : Catalogue) where
  unfoldable pub joins_from : List ℕ → List ℕ → List Event
  joins_from tracked [] = []
  joins_from tracked (p ∷ ps) = joins p (tracked_of c (name_of c p) tracked) ∷ joins_from (snoc tracked p) ps

  -- the one-of-name variables that the run made, in order of making
  unfoldable pub links_for : List Origin → List ℕ → List Event
  links_for new tracked = map (λ n. links n (tracked_of c n tracked)) (concat_map name_if_one new)

  module _ (r : Run) where
    unfoldable pub serve_task : Task → State → State
    serve_task t s = emit c r (served t) (set_opening (serve c (decided_true s) t s.opening) s)

    -- The line `ts`, the first first; what a task queues goes behind. At most `fuel` tasks: proved to be enough.
    unfoldable pub serve_line : ℕ → List Task → State → State
    serve_line zero ts s = s
    serve_line (suc fuel) [] s = s
    serve_line (suc fuel) (t ∷ ts) s =
        let s₁ = serve_task t s in
        serve_line fuel (ts ++ s₁.opening.line) (line_taken s₁)

    unfoldable pub join_all : State → State
    join_all s = emit_all c r (joins_from s.opening.tracked (joining c s.opening)) (set_opening (end_run c s.opening) s)

    unfoldable pub link_all : State → State
    link_all s = emit_all c r (links_for (drop r.before s.variables) s.opening.tracked) s

  unfoldable pub begun : State → State
  begun s = record { opening = begin_run c s.opening; variables = s.variables; clauses = s.clauses; decisions = s.decisions; conflicts = s.conflicts; runs = suc s.runs }

  -- The most tasks of a run that begins from this opening; proofs/Ends.antt proves that it never runs out. Each owner and each name
  -- once, for each requirement a task or two, for each constraint and each drawn entry one.
  unfoldable pub most_tasks : Opening → ℕ
  most_tasks o = suc (length c.parts) + length c.names + 2 * length c.requirements + length c.constraints + length o.drawn

  -- the run carried out without limits
  unfoldable pub run_once : ℕ → State → State
  run_once level s =
      let r : Run = record { number = suc s.runs; level = level; before = length s.variables } in
      let s₁ = begun s in
      link_all r (join_all r (serve_line r (most_tasks s.opening) s₁.opening.line (line_taken s₁)))
