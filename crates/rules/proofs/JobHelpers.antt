-- In every job, and for every name: its helper variables and its forbid clauses are, in their order, those of the joins of its tracked parts
-- (`helpers_of_law`).
use mathlib.Core.Path.{◌≡◌, refl}
use mathlib.Core.Bool.{false}
use mathlib.Core.List.Memᴰ
use mathlib.Core.List.{List, [], ◌∷◌, ◌++◌, append-nil, append_assoc}
use Prim.Native.Nat.{ℕ}
use lib.ListN.{drop}
use Rattle.rules.specs.Lists.{filter, snoc, list_if, concat_map, fold, up_to}
use Rattle.rules.specs.Clause.{Clause}
use Rattle.rules.specs.AtMostOne.{helpers_for}
use Rattle.rules.specs.Catalogue.{Catalogue}
use Rattle.rules.specs.Variables.{Origin, with_variables}
use Rattle.rules.specs.Opening.{Task, add, draw, tracked_of, joining, begin_run, serve}
use Rattle.rules.specs.Encoding.{helpers_of, clauses}
use Rattle.rules.specs.State.{State, start, Run, decided_true}
use Rattle.rules.specs.Run.{name_if_one, joins_from, links_for, serve_task, join_all, link_all, line_taken, begun, run_once}
use Rattle.rules.specs.Records.{Command}
use Rattle.rules.specs.Limits.{Limits}
use Rattle.rules.specs.Sheet.{decide, carried_out}
use Rattle.rules.specs.Called.{◌∈◌}
use Rattle.rules.proofs.MemberLaws.{of_concat_map, of_drop}
use Rattle.rules.proofs.Grows.{serve_waits, begin_waits}
use Rattle.rules.proofs.Line.{Served, done, next, serve_task_opening, first_state, run_from, run_end, link_all_opening}
use Rattle.rules.proofs.EmitLaws.{variables_after_all, clauses_of_all, emit_all_variables, emit_all_clauses, settled, serve_task_variables, serve_task_clauses}
use Rattle.rules.proofs.Encoded.{Encoded, serve_task_encoded}
use Rattle.rules.proofs.Joined.{join_encoded}
use Rattle.rules.proofs.Links.{links_known}
use Rattle.rules.proofs.RunEnd.{join_all_tracked, join_all_encoded, made_since}
use Rattle.rules.proofs.History.{History, history}
use Rattle.rules.proofs.Ends.{ends, run_to_end}
use Rattle.rules.proofs.Reached.{Given, Reached, command}
use Rattle.rules.proofs.Each.{when_cases}
use Rattle.rules.proofs.AtMostOne.{nothing}
use Rattle.rules.proofs.NameHelpers.{helper_of, forbid_of, HelpersOf, filter_const, others_made, served_helpers, joined_helpers}

-- of every name
abbrev AllHelpers : Catalogue → List ℕ → List Origin → List Clause → Type 0
AllHelpers c tracked vs ks = (n : ℕ) → HelpersOf c tracked vs ks n

-- ---- a run's end

module _ (c : Catalogue) (log : List Task) (before : ℕ) where
  joins_helpers : (ps tracked : List ℕ) {vs : List Origin} {ks : List Clause} → Encoded c log before tracked vs ks → AllHelpers c tracked vs ks
      → AllHelpers c (tracked ++ ps) (variables_after_all c (joins_from c tracked ps) vs) (ks ++ clauses_of_all c before vs (joins_from c tracked ps))
  unfolding joins_from snoc variables_after_all clauses_of_all
  joins_helpers [] tracked {ks = ks} e h = rw (append-nil tracked, append-nil ks) h
  joins_helpers (p ∷ ps) tracked {ks = ks} e h =
      rw (← (append_assoc tracked (p ∷ []) ps), ← (append_assoc ks _ _))
      (joins_helpers ps (tracked ++ (p ∷ [])) (join_encoded c log before tracked p e) (λ n. joined_helpers e p n h))

-- the clauses of links are no forbid clauses
links_none : (c : Catalogue) (before : ℕ) (vs new : List Origin) (tracked : List ℕ) (n : ℕ) (k : Clause)
    → k ∈ concat_map (clauses c vs vs before) (links_for c new tracked) → forbid_of vs n k ≡ false
unfolding links_for clauses forbid_of
links_none c before vs new tracked n k m =
    let x = of_concat_map (clauses c vs vs before) (links_for c new tracked) m in
    let l = Memᴰ.of_map _ (concat_map name_if_one new) x.1 in
    let p = Memᴰ.of_map _ (tracked_of c l.0 tracked) (rw (← l.2) at x.2) in
    rw (← p.2)

module _ (c : Catalogue) (r : Run) (s : State) {log : List Task} (e : Encoded c log r.before s.opening.tracked s.variables s.clauses)
    (h : AllHelpers c s.opening.tracked s.variables s.clauses) where
  join_all_helpers : AllHelpers c (s.opening.tracked ++ joining c s.opening) (join_all c r s).variables (join_all c r s).clauses
  unfolding join_all
  join_all_helpers = rw (emit_all_variables c r _ _, emit_all_clauses c r _ _) (joins_helpers c log r.before (joining c s.opening) s.opening.tracked e h)

  link_all_helpers : AllHelpers c s.opening.tracked (link_all c r s).variables (link_all c r s).clauses
  unfolding link_all with_variables fold list_if
  link_all_helpers n =
      let vs = s.variables in
      let tracked = s.opening.tracked in
      let new = drop r.before vs in
      let es = links_for c new tracked in
      let same = settled c r.before vs es (links_known c log r.before tracked vs new (λ m. of_drop r.before vs) (made_since c r s) e.numbered) in
      rw (emit_all_variables c r es s, same.0, emit_all_clauses c r es s, same.1)
      (others_made e n [] _ (λ x m. absurd (Memᴰ.not-nil m)) (filter_const false _ _ (links_none c r.before vs new tracked n)) (h n))

-- ---- a run

-- at a point of a run: with the tasks served so far, and how many variables the run began with
record Point (c : Catalogue) (before : ℕ) (s : State) : Type 0 where
  log : List Task
  encoded : Encoded c log before s.opening.tracked s.variables s.clauses
  helpers : AllHelpers c s.opening.tracked s.variables s.clauses

-- after a record
record Helped (c : Catalogue) (s : State) : Type 0 where
  helpers : AllHelpers c s.opening.tracked s.variables s.clauses

module _ (c : Catalogue) where
  task_point : (r : Run) (t : Task) (s : State) → Point c r.before s → Point c r.before (line_taken (serve_task c r t s))
  task_point r t s p =
      let o = serve_task_opening c r t s in
      let same : (serve c (decided_true s) t s.opening).tracked ≡ s.opening.tracked = (serve_waits c (decided_true s) t s.opening).tracked in
      record {
        log = p.log ++ (t ∷ []);
        encoded = rw (o, same) (serve_task_encoded c r t s p.encoded);
        helpers = rw (o, same, serve_task_variables c r t s, serve_task_clauses c r t s) (λ n. served_helpers p.encoded t n (p.helpers n));
      }

  line_point : {r : Run} {m : ℕ} {ts : List Task} {s s' : State} → Served c r m ts s s' → Point c r.before s → Point c r.before s'
  line_point done p = p
  line_point {r} (next {t = t} {s = s} d) p = line_point d (task_point r t s p)

  first_point : (level : ℕ) (s : State) → History c s → Helped c s → Point c (run_from level s).before (first_state c s)
  unfolding begun
  first_point level s h p =
      let same : (begin_run c s.opening).tracked ≡ s.opening.tracked = (begin_waits c s.opening).tracked in
      record { log = h.log; encoded = rw same h.encoded; helpers = rw same p.helpers }

  end_helped : (r : Run) (s : State) → Point c r.before s → Helped c (run_end c r s)
  end_helped r s p =
      let t = join_all_tracked c r s in
      let h =
      link_all_helpers c r (join_all c r s) {log = p.log} (rw t (join_all_encoded c r s p.encoded)) (rw t (join_all_helpers c r s p.encoded p.helpers)) in
      record { helpers = rw (link_all_opening c r (join_all c r s)) h }

  run_helped : {l : Limits} {s : State} → Given c → Reached l c s → (level : ℕ) → Helped c s → Helped c (run_once c level s)
  run_helped {l} {s} g reached level h =
      let e = ends g reached (run_from level s) in
      rw (run_to_end g reached level e.served) (end_helped (run_from level s) _ (line_point e.served (first_point level s (history c g reached) h)))

-- ---- every job

start_helped : (c : Catalogue) → Helped c start
unfolding tracked_of helpers_of helpers_for up_to filter helper_of forbid_of
start_helped c = record { helpers = λ n. record { variables = refl; clauses = nothing } }

helped : {l : Limits} {c : Catalogue} {s : State} → Given c → Reached l c s → Helped c s
unfolding carried_out add draw decide
helped {c = c} g Reached.begun = start_helped c
helped g (command r (Command.add o) p) = record { helpers = (helped g r).helpers }
helped g (command r (Command.draw k) p) = record { helpers = (helped g r).helpers }
helped {c = c} g (command r (Command.run level) p) = run_helped c g r level (helped g r)
helped {c = c} g (command {s} r (Command.decide x value level) p) =
    let h = helped g r in
    when_cases (Helped c) _ _ s h (λ e. record { helpers = h.helpers })
helped g (command r (Command.undo level) p) = record { helpers = (helped g r).helpers }

pub helpers_of_law : {l : Limits} {c : Catalogue} {s : State} → Given c → Reached l c s → (n : ℕ) → HelpersOf c s.opening.tracked s.variables s.clauses n
helpers_of_law g r = (helped g r).helpers
