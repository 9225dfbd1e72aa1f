-- A run leaves nothing added or drawn, and between two records the waiting and the drawn entries together keep the waiting limit.
-- So the places that the limits give the task line (`needed`, specs/Limits.antt) are enough for every run: `places`.
use mathlib.Core.Path.{◌≡◌, refl, ap}
use mathlib.Core.Bool.{Bool, true, false, true≢false}
use mathlib.Core.List.{List, [], ◌∷◌, ◌++◌}
use Prim.Native.Nat.{ℕ, suc, ◌+◌, ◌*◌, ◌≤◌}
use native.Mathlib.Omega.{arith}
use lib.Dec.{ltb}
use lib.ListN.{length, length-append}
use borrow.Author.Tests.{ltb-false}
use Rattle.rules.specs.Lists.{filter}
use Rattle.rules.specs.Catalogue.{Owner, part, Catalogue, range_name, goal_at}
use Rattle.rules.specs.Candidates.{candidates}
use Rattle.rules.specs.Refusals.{Thing}
use Rattle.rules.specs.Records.{Command}
use Rattle.rules.specs.Items.{ceiling}
use Rattle.rules.specs.Opening.{Task, owner, name, condition, requirement, constraint, Opening, queue, open_owner, open_name, open_names, ranges_of, ranges_first, tasks_of, serve_owner, serve_name, fire, serve_condition, fired_parts, name_for_tracking, open_ready, mark_handled, serve_requirement, serve, add, draw, is_drawn, begin_run, end_run}
use Rattle.rules.specs.State.{State, decided_true, Run}
use Rattle.rules.specs.Run.{serve_task, begun, most_tasks, run_once}
use Rattle.rules.specs.Limits.{Limits, above}
use Rattle.rules.specs.Sheet.{decide, command_refusals, carried_out}
use Rattle.rules.proofs.Bools.{or_true}
use Rattle.rules.proofs.ListLaws.{when_keeps, unless_keeps, fold_every, length_filters}
use Rattle.rules.proofs.Reached.{Passed, tested, passes, Given, Reached, command}
use Rattle.rules.proofs.WellFormed.{well_formed}
use Rattle.rules.proofs.Line.{serve_task_opening, After, begins, serves, serve_line_after, first_state, run_from, run_end_opening_law, run_once_is}

-- ---- while a run is carried out nothing is added or drawn

pub record Cleared (s : Opening) : Type 0 where
  pub added : s.added ≡ []
  pub drawn : s.drawn ≡ []

module _ (c : Catalogue) where
  queue_cleared : (t : Task) (s : Opening) → Cleared s → Cleared (queue t s)
  unfolding queue
  queue_cleared t s e = record { added = e.added; drawn = e.drawn }

  open_owner_cleared : (o : Owner) (s : Opening) → Cleared s → Cleared (open_owner o s)
  unfolding open_owner
  open_owner_cleared o s e = unless_keeps Cleared _ _ s e (λ _. queue_cleared (owner o) _ (record { added = e.added; drawn = e.drawn }))

  open_name_cleared : (n : ℕ) (s : Opening) → Cleared s → Cleared (open_name n s)
  unfolding open_name
  open_name_cleared n s e = unless_keeps Cleared _ _ s e (λ _. queue_cleared (name n) _ (record { added = e.added; drawn = e.drawn }))

  open_names_cleared : (rs : List ℕ) (s : Opening) → Cleared s → Cleared (open_names c rs s)
  unfolding open_names
  open_names_cleared rs s e = fold_every Cleared _ (λ r. open_name_cleared (range_name c r)) rs s e

  fire_cleared : (q : ℕ) (is : List ℕ) (s : Opening) → Cleared s → Cleared (fire c q is s)
  unfolding fire
  fire_cleared q [] s e = e
  fire_cleared q (i ∷ is) s e = queue_cleared (requirement q (i ∷ is)) _ (open_names_cleared (ranges_of c q) s e)

  naming_cleared : (p : ℕ) (s : Opening) → Cleared s → Cleared (name_for_tracking c p s)
  unfolding name_for_tracking
  naming_cleared p s e = unless_keeps Cleared _ _ s e (λ _. record { added = e.added; drawn = e.drawn })

  ready_cleared : (p : ℕ) (s : Opening) → Cleared s → Cleared (open_ready c p s)
  unfolding open_ready
  ready_cleared p s e = when_keeps Cleared _ _ s e (open_owner_cleared (part p) s e)

  serve_cleared : (f : ℕ → Bool) (t : Task) (s : Opening) → Cleared s → Cleared (serve c f t s)
  unfolding serve serve_owner serve_name serve_condition serve_requirement mark_handled
  serve_cleared f (owner o) s e =
      unless_keeps Cleared _ _ s e (λ _. fold_every Cleared queue queue_cleared (tasks_of c o) _ (open_names_cleared (ranges_first c o) s e))
  serve_cleared f (name n) s e = when_keeps Cleared _ _ s e (record { added = e.added; drawn = e.drawn })
  serve_cleared f (condition q) s e = fire_cleared q _ _ (record { added = e.added; drawn = e.drawn })
  serve_cleared f (requirement q is) s e =
      fold_every Cleared (open_ready c) ready_cleared (candidates c (goal_at c q)) _
      (fold_every Cleared (name_for_tracking c) naming_cleared (candidates c (goal_at c q) ++ fired_parts c q is) _ (record { added = e.added; drawn = e.drawn }))
  serve_cleared f (constraint k) s e = e

  begin_cleared : (s : Opening) → Cleared (begin_run c s)
  unfolding begin_run
  begin_cleared s =
      fold_every Cleared _ (λ e. fire_cleared e.0 (e.1 ∷ [])) s.drawn _
      (fold_every Cleared open_owner open_owner_cleared s.added _ (record { added = refl; drawn = refl }))

  pub point_cleared : (r : Run) {ts₀ : List Task} {s₀ : State} → Cleared s₀.opening → {n : ℕ} {ts : List Task} {s : State} → After c r ts₀ s₀ n ts s
      → Cleared s.opening
  point_cleared r e begins = e
  point_cleared r e (serves {t = t} {s = s} a) =
      let u = serve_cleared (decided_true s) t s.opening (point_cleared r e a) in
      let u : Cleared (serve_task c r t s).opening = rw (serve_task_opening c r t s) u in
      record { added = u.added; drawn = u.drawn }

  first_cleared : (s : State) → Cleared (first_state c s).opening
  unfolding begun
  first_cleared s = let u = begin_cleared s.opening in record { added = u.added; drawn = u.drawn }

  -- after a run nothing is added or drawn
  pub run_cleared : (level : ℕ) (s : State) → Cleared (run_once c level s).opening
  unfolding end_run
  run_cleared level s =
      let r = run_from level s in
      let a = serve_line_after c r (most_tasks c s.opening) begins in
      let u = point_cleared r (first_cleared s) a.2 in
      rw (run_once_is c level s, run_end_opening_law c r _) (record { added = u.added; drawn = u.drawn })

-- ---- the waiting limit

pub within_limit : (l : Limits) (s : State) → above l s ≡ false → length s.opening.waiting ≤ l.waiting
unfolding above
within_limit l s e = go (ltb l.waiting (length s.opening.waiting)) refl
  where
    go : (b : Bool) → ltb l.waiting (length s.opening.waiting) ≡ b → length s.opening.waiting ≤ l.waiting
    go true q = absurd (true≢false (simp (q, or_true, above) at e))
    go false q = ltb-false l.waiting _ q

module _ (l : Limits) (c : Catalogue) where
  abbrev entries : State → ℕ
  entries s = length s.opening.waiting + length s.opening.drawn

  entries_kept : (o : Command) (s : State) → Passed (command_refusals l c o s) → entries s ≤ l.waiting → entries (carried_out l c o s) ≤ l.waiting
  unfolding carried_out command_refusals tested add draw decide
  entries_kept (Command.add o) s p h = h
  entries_kept (Command.draw k) s p h =
      let f = is_drawn c (decided_true s) k in
      let o = s.opening in
      omega (arith, length-append o.drawn (filter f o.waiting), length_filters f o.waiting)
  entries_kept (Command.run level) s p h =
      let none = ap length (run_cleared c level s).drawn in
      omega (arith, within_limit l (run_once c level s) (passes p 1))
  entries_kept (Command.decide x value level) s p h = when_keeps (λ u. entries u ≤ l.waiting) _ _ s h h
  entries_kept (Command.undo level) s p h = h

  -- the waiting and the drawn entries together keep the waiting limit
  pub entries_few : {s : State} → Reached l c s → entries s ≤ l.waiting
  entries_few Reached.begun = omega arith
  entries_few (command {s = s} r o p) = entries_kept o s p (entries_few r)

-- The most tasks of a run, by the limits alone.
pub places : {l : Limits} {c : Catalogue} {s : State} → Given c → Reached l c s
    → most_tasks c s.opening ≤ suc (ceiling Thing.part) + ceiling Thing.name + 2 * ceiling Thing.requirement + ceiling Thing.constraint + l.waiting
unfolding most_tasks
places {l} {c} g r = let w = well_formed g in omega (arith, entries_few l c r, w.ceilings)
