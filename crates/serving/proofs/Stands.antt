-- A task that is served loses no opened owner, no name that was served with several allowed and no part that was named for tracking or is tracked.
use mathlib.Core.Bool.{Bool, true, false}
use mathlib.Core.List.{List, [], ◌∷◌, ◌++◌}
use Prim.Native.Nat.{ℕ}
use Rattle.rules.specs.Lists.{snoc, fold, when, unless}
use Rattle.rules.specs.Catalogue.{Owner, part, Catalogue, range_name, goal_at}
use Rattle.rules.specs.Candidates.{candidates}
use Rattle.rules.specs.Opening.{Task, owner, name, condition, requirement, constraint, Opening, queue, open_owner, open_name, open_names, ranges_of, ranges_first, tasks_of, serve_owner, serve_name}
use Rattle.rules.specs.Opening.{fire, serve_condition, fired_parts, name_for_tracking, open_ready, mark_handled, serve_requirement, serve}
use Rattle.rules.specs.Encoding.{served}
use Rattle.rules.specs.State.{State, set_opening, decided_true, Run, emit}
use Rattle.rules.specs.Run.{serve_task}
use Rattle.rules.proofs.Effects.{emit_leaves}
use Rattle.rules.proofs.Grows.{whole, longer, ending}
use Rattle.rules.proofs.Capped.{add_waitings_is}
use Rattle.line.specs.declared.Task as line
use Rattle.line.specs.declared.Task.TheVariants as numbered
use Rattle.encoder.specs.Held.{Reading}
use Rattle.encoder.specs.Did.{on_opening}
use Rattle.owners.specs.Owners.{serving}
use Rattle.firing.specs.Firing.{waits, queued, queued_if, condition_served}
use Rattle.naming.proofs.Settled.{Stands, stands_same, tracking_stands}
use Rattle.serving.specs.Serving.{served_fired, served_drawn, served_as}

-- ---- one step after another

pub then : {o o' o'' : Opening} → Stands o o' → Stands o' o'' → Stands o o''
then p q = record { owners = longer p.owners q.owners; several = longer p.several q.several; named = longer p.named q.named; tracked = longer p.tracked q.tracked }

pub each_stands : {A : Type 0} (f : A → Opening → Opening) → ((x : A) (o : Opening) → Stands o (f x o)) → (xs : List A) (o : Opening) → Stands o (fold f xs o)
unfolding fold
each_stands f h [] o = stands_same
each_stands f h (x ∷ xs) o = then (h x o) (each_stands f h xs (f x o))

unless_stands : (b : Bool) (f : Opening → Opening) → ((o : Opening) → Stands o (f o)) → (o : Opening) → Stands o (unless b f o)
unfolding unless
unless_stands true f h o = stands_same
unless_stands false f h o = h o

when_stands : (b : Bool) (f : Opening → Opening) → ((o : Opening) → Stands o (f o)) → (o : Opening) → Stands o (when b f o)
unfolding when
when_stands true f h o = h o
when_stands false f h o = stands_same

-- ---- steps of the opening

queue_stands : (t : Task) (o : Opening) → Stands o (queue t o)
unfolding queue
queue_stands t o = record { owners = whole; several = whole; named = whole; tracked = whole }

pub open_owner_stands : (w : Owner) (o : Opening) → Stands o (open_owner w o)
unfolding open_owner queue snoc
open_owner_stands w o = unless_stands _ _ (λ u. record { owners = ending u.owners _; several = whole; named = whole; tracked = whole }) o

open_name_stands : (n : ℕ) (o : Opening) → Stands o (open_name n o)
unfolding open_name queue
open_name_stands n o = unless_stands _ _ (λ u. record { owners = whole; several = whole; named = whole; tracked = whole }) o

module _ (c : Catalogue) where
  open_names_stands : (rs : List ℕ) (o : Opening) → Stands o (open_names c rs o)
  unfolding open_names
  open_names_stands rs o = each_stands (λ r. open_name (range_name c r)) (λ r. open_name_stands (range_name c r)) rs o

  owner_stands : (w : Owner) (o : Opening) → Stands o (serve_owner c w o)
  unfolding serve_owner
  owner_stands w o = unless_stands _ _ (λ u. then (open_names_stands (ranges_first c w) u) (each_stands queue queue_stands (tasks_of c w) _)) o

  pub fire_stands : (q : ℕ) (is : List ℕ) (o : Opening) → Stands o (fire c q is o)
  unfolding fire
  fire_stands q [] o = stands_same
  fire_stands q (i ∷ is) o = then (open_names_stands (ranges_of c q) o) (queue_stands (requirement q (i ∷ is)) _)

  pub ready_stands : (p : ℕ) (o : Opening) → Stands o (open_ready c p o)
  unfolding open_ready
  ready_stands p o = when_stands _ (open_owner (part p)) (open_owner_stands (part p)) o

  -- ---- a task

  serve_stands : (f : ℕ → Bool) (t : Task) (o : Opening) → Stands o (serve c f t o)
  unfolding serve serve_name serve_condition serve_requirement mark_handled snoc
  serve_stands f (owner w) o = owner_stands w o
  serve_stands f (name n) o = when_stands _ _ (λ u. record { owners = whole; several = ending u.several _; named = whole; tracked = whole }) o
  serve_stands f (condition q) o = then (record { owners = whole; several = whole; named = whole; tracked = whole }) (fire_stands q _ _)
  serve_stands f (requirement q is) o =
      then {o' = mark_handled q is o} (record { owners = whole; several = whole; named = whole; tracked = whole })
      (then (each_stands (name_for_tracking c) (tracking_stands c) (candidates c (goal_at c q) ++ fired_parts c q is) _)
      (each_stands (open_ready c) ready_stands (candidates c (goal_at c q)) _))
  serve_stands f (constraint k) o = stands_same

  pub serving_stands : (r : Run) (t : Task) (s : State) → Stands s.opening (serving c r t s).opening
  unfolding serving serve_task
  serving_stands r t s =
      let o = serve c (decided_true s) t s.opening in
      let p : Stands s.opening (emit c r (served t) (set_opening o s)).opening = rw (emit_leaves c r (served t) (set_opening o s)).opening (serve_stands (decided_true s) t s.opening) in
      record { owners = p.owners; several = p.several; named = p.named; tracked = p.tracked }

  pub condition_stands : (v : Reading) (q : ℕ) (s : State) → Stands s.opening (condition_served c v q s).opening
  unfolding condition_served waits on_opening
  condition_stands v q s = rw (add_waitings_is _ s) (then (record { owners = whole; several = whole; named = whole; tracked = whole }) (queued_stands _ _ _))
    where
      queued_stands : (t : Task) (is : List ℕ) (o : Opening) → Stands o (queued_if c q t is o)
      queued_stands t [] o = unfold queued_if in stands_same
      queued_stands t (i ∷ is) o = unfold queued_if queued in then (open_names_stands (ranges_of c q) o) (queue_stands t _)

  -- by its number
  pub served_stands : (r : Run) (ds : List (ℕ × ℕ)) (v : Reading) (t : line.Task) (s : State) → Stands s.opening (served_as c r ds v t s).opening
  unfolding served_as served_fired served_drawn
  served_stands r ds v (numbered.Owner o) s = serving_stands r _ s
  served_stands r ds v (numbered.Name n) s = serving_stands r _ s
  served_stands r ds v (numbered.Condition q) s = condition_stands v q s
  served_stands r ds v (numbered.Requirement q) s = serving_stands r _ s
  served_stands r ds v (numbered.Constraint k) s = serving_stands r _ s
  served_stands r ds v (numbered.Drawn e) s = serving_stands r _ s
