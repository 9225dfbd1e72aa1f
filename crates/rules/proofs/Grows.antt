-- In a run variables, clauses and waiting entries are only added at the end of their lists. So what is above a limit stays above it
-- (READINGS.md, 22): a run that stops at the first excess gives the same answer.
use mathlib.Core.Path.{◌≡◌, refl, sym, ◌∙◌, ap}
use mathlib.Core.Bool.{Bool, true, false, ◌||◌}
use mathlib.Core.List.{List, [], ◌∷◌, ◌++◌, map, append-nil, append_assoc}
use Prim.Native.Nat.{ℕ, zero, suc, ◌≤◌}
use native.Mathlib.Omega.{arith}
use lib.Dec.{ltb}
use lib.ListN.{length, length-append}
use borrow.Author.Tests.{ltb-true, lt-ltb}
use Rattle.rules.specs.Lists.{snoc, fold, when, unless, sum}
use Rattle.rules.specs.Clause.{Clause, condition_literals}
use Rattle.rules.specs.Catalogue.{Owner, part, Catalogue, range_name, goal_at}
use Rattle.rules.specs.Candidates.{candidates}
use Rattle.rules.specs.Variables.{Origin, with_variable, with_variables}
use Rattle.rules.specs.Opening.{Task, owner, name, condition, requirement, constraint, Opening, set_added, set_drawn, queue, open_owner, open_name, open_names, ranges_of, ranges_first, tasks_of, serve_owner, serve_name, fire, serve_condition, fired_parts, name_for_tracking, open_ready, mark_handled, serve_requirement, serve, begin_run, end_run}
use Rattle.rules.specs.Encoding.{Event, served, origins}
use Rattle.rules.specs.State.{State, set_opening, decided_true, Run, emit, emit_all}
use Rattle.rules.specs.Run.{line_taken, serve_task, serve_line, join_all, link_all, begun, run_once}
use Rattle.rules.specs.Limits.{Limits, above}
use Rattle.rules.proofs.ListLaws.{sum_append}
use Rattle.rules.proofs.Each.{unless_cases}
use Rattle.rules.proofs.Effects.{emit_leaves}

-- ---- a list and what was added at its end

pub record Prefix {A : Type 0} (xs ys : List A) : Type 0 where
  pub more : List A
  pub is : ys ≡ xs ++ more

pub whole : {A : Type 0} {xs : List A} → Prefix xs xs
whole {A} {xs} = record { more = []; is = sym (append-nil xs) }

pub longer : {A : Type 0} {xs ys zs : List A} → Prefix xs ys → Prefix ys zs → Prefix xs zs
longer {A} {xs} p q = record { more = p.more ++ q.more; is = q.is ∙ (ap (λ l. l ++ q.more) p.is ∙ append_assoc xs p.more q.more) }

pub ending : {A : Type 0} (xs ys : List A) → Prefix xs (xs ++ ys)
ending xs ys = record { more = ys; is = refl }

-- ---- the opening: waiting entries are added at the end, and tracked parts stay as they are until the run's end

pub record Waits (s s' : Opening) : Type 0 where
  pub waits : Prefix s.waiting s'.waiting
  pub tracked : s'.tracked ≡ s.tracked

still : {s : Opening} → Waits s s
still = record { waits = whole; tracked = refl }

then : {s s' s'' : Opening} → Waits s s' → Waits s' s'' → Waits s s''
then p q = record { waits = longer p.waits q.waits; tracked = q.tracked ∙ p.tracked }

each : {A : Type 0} (f : A → Opening → Opening) → ((x : A) (s : Opening) → Waits s (f x s)) → (xs : List A) (s : Opening) → Waits s (fold f xs s)
unfolding fold
each f h [] s = still
each f h (x ∷ xs) s = then (h x s) (each f h xs (f x s))

unless_waits : (b : Bool) (f : Opening → Opening) → ((s : Opening) → Waits s (f s)) → (s : Opening) → Waits s (unless b f s)
unfolding unless
unless_waits true f h s = still
unless_waits false f h s = h s

when_waits : (b : Bool) (f : Opening → Opening) → ((s : Opening) → Waits s (f s)) → (s : Opening) → Waits s (when b f s)
unfolding when
when_waits true f h s = h s
when_waits false f h s = still

queue_waits : (t : Task) (s : Opening) → Waits s (queue t s)
unfolding queue
queue_waits t s = record { waits = whole; tracked = refl }

open_owner_waits : (o : Owner) (s : Opening) → Waits s (open_owner o s)
unfolding open_owner queue
open_owner_waits o s = unless_waits _ _ (λ u. record { waits = whole; tracked = refl }) s

open_name_waits : (n : ℕ) (s : Opening) → Waits s (open_name n s)
unfolding open_name queue
open_name_waits n s = unless_waits _ _ (λ u. record { waits = whole; tracked = refl }) s

module _ (c : Catalogue) where
  open_names_waits : (rs : List ℕ) (s : Opening) → Waits s (open_names c rs s)
  unfolding open_names
  open_names_waits rs s = each (λ r. open_name (range_name c r)) (λ r. open_name_waits (range_name c r)) rs s

  owner_waits : (o : Owner) (s : Opening) → Waits s (serve_owner c o s)
  unfolding serve_owner
  owner_waits o s = unless_waits _ _ (λ u. then (open_names_waits (ranges_first c o) u) (each queue queue_waits (tasks_of c o) _)) s

  fire_waits : (q : ℕ) (is : List ℕ) (s : Opening) → Waits s (fire c q is s)
  unfolding fire
  fire_waits q [] s = still
  fire_waits q (i ∷ is) s = then (open_names_waits (ranges_of c q) s) (queue_waits (requirement q (i ∷ is)) _)

  naming_waits : (p : ℕ) (s : Opening) → Waits s (name_for_tracking c p s)
  unfolding name_for_tracking
  naming_waits p s = unless_waits _ _ (λ u. record { waits = whole; tracked = refl }) s

  ready_waits : (p : ℕ) (s : Opening) → Waits s (open_ready c p s)
  unfolding open_ready
  ready_waits p s = when_waits _ (open_owner (part p)) (open_owner_waits (part p)) s

  handled_waits : (q : ℕ) (is : List ℕ) (s : Opening) → Waits s (mark_handled q is s)
  unfolding mark_handled
  handled_waits q is s = record { waits = whole; tracked = refl }

  pub serve_waits : (f : ℕ → Bool) (t : Task) (s : Opening) → Waits s (serve c f t s)
  unfolding serve serve_name serve_condition serve_requirement
  serve_waits f (owner o) s = owner_waits o s
  serve_waits f (name n) s = when_waits _ _ (λ u. record { waits = whole; tracked = refl }) s
  serve_waits f (condition q) s = then (record { waits = ending s.waiting _; tracked = refl }) (fire_waits q _ _)
  serve_waits f (requirement q is) s =
      then (handled_waits q is s) (then (each (name_for_tracking c) naming_waits (candidates c (goal_at c q) ++ fired_parts c q is) _)
      (each (open_ready c) ready_waits (candidates c (goal_at c q)) _))
  serve_waits f (constraint k) s = still

  pub begin_waits : (s : Opening) → Waits s (begin_run c s)
  unfolding begin_run
  begin_waits s =
      then {s' = set_added [] (set_drawn [] s)} (record { waits = whole; tracked = refl })
      (then (each open_owner open_owner_waits s.added _) (each (λ (e : ℕ × ℕ). fire c e.0 (e.1 ∷ [])) (λ e. fire_waits e.0 (e.1 ∷ [])) s.drawn _))

-- ---- the state

pub record Grows (s s' : State) : Type 0 where
  pub variables : Prefix s.variables s'.variables
  pub clauses : Prefix s.clauses s'.clauses
  pub waiting : Prefix s.opening.waiting s'.opening.waiting

pub same : {s : State} → Grows s s
same = record { variables = whole; clauses = whole; waiting = whole }

pub and_then : {s s' s'' : State} → Grows s s' → Grows s' s'' → Grows s s''
and_then p q =
    record { variables = longer p.variables q.variables; clauses = longer p.clauses q.clauses; waiting = longer p.waiting q.waiting }

pub opening_grows : (o : Opening) (s : State) → Prefix s.opening.waiting o.waiting → Grows s (set_opening o s)
opening_grows o s w = record { variables = whole; clauses = whole; waiting = w }

pub with_variable_prefix : (o : Origin) (vs : List Origin) → Prefix vs (with_variable o vs)
unfolding with_variable snoc
with_variable_prefix o vs = unless_cases (Prefix vs) _ _ vs (λ e. whole) (λ e. ending vs (o ∷ []))

pub with_variables_prefix : (os vs : List Origin) → Prefix vs (with_variables os vs)
unfolding with_variables fold
with_variables_prefix [] vs = whole
with_variables_prefix (o ∷ os) vs = longer (with_variable_prefix o vs) (with_variables_prefix os (with_variable o vs))

module _ (c : Catalogue) (r : Run) where
  pub emit_grows : (e : Event) (s : State) → Grows s (emit c r e s)
  emit_grows e s =
      let p = emit_leaves c r e s in
      record {
        variables = rw p.variables (with_variables_prefix (origins c e) s.variables);
        clauses = rw p.clauses (ending s.clauses _);
        waiting = rw p.opening whole;
      }

  pub emits_grows : (es : List Event) (s : State) → Grows s (emit_all c r es s)
  unfolding emit_all fold
  emits_grows [] s = same
  emits_grows (e ∷ es) s = and_then (emit_grows e s) (emits_grows es (emit c r e s))

  pub serve_task_grows : (t : Task) (s : State) → Grows s (serve_task c r t s)
  unfolding serve_task
  serve_task_grows t s = and_then (opening_grows _ s (serve_waits c (decided_true s) t s.opening).waits) (emit_grows (served t) _)

  pub serve_line_grows : (fuel : ℕ) (ts : List Task) (s : State) → Grows s (serve_line c r fuel ts s)
  unfolding serve_line
  serve_line_grows zero ts s = same
  serve_line_grows (suc fuel) [] s = same
  serve_line_grows (suc fuel) (t ∷ ts) s =
      let s₁ = serve_task c r t s in
      and_then (serve_task_grows t s) (and_then {s' = line_taken s₁} (opening_grows _ s₁ whole) (serve_line_grows fuel (ts ++ s₁.opening.line) (line_taken s₁)))

  pub join_all_grows : (s : State) → Grows s (join_all c r s)
  unfolding join_all end_run
  join_all_grows s = and_then (opening_grows (end_run c s.opening) s whole) (emits_grows _ _)

  pub link_all_grows : (s : State) → Grows s (link_all c r s)
  unfolding link_all
  link_all_grows s = emits_grows _ s

pub run_once_grows : (c : Catalogue) (level : ℕ) (s : State) → Grows s (run_once c level s)
unfolding run_once begun
run_once_grows c level s =
    let r : Run = record { number = suc s.runs; level = level; before = length s.variables } in
    let s₁ = begun c s in
    let w = begin_waits c s.opening in
    and_then {s' = line_taken s₁} (record { variables = whole; clauses = whole; waiting = w.waits })
    (and_then (serve_line_grows c r _ s₁.opening.line (line_taken s₁)) (and_then (join_all_grows c r _) (link_all_grows c r _)))

-- ---- above a limit, and still above it

pub prefix_length : {A : Type 0} {xs ys : List A} → Prefix xs ys → length xs ≤ length ys
prefix_length {A} {xs} p = rw (p.is, length-append xs p.more) (omega arith)

prefix_sum : {xs ys : List Clause} → Prefix xs ys → sum (map condition_literals xs) ≤ sum (map condition_literals ys)
prefix_sum {xs} p = rw (p.is, sum_append condition_literals xs p.more) (omega arith)

pub more_than : (l m n : ℕ) → m ≤ n → ltb l m ≡ true → ltb l n ≡ true
more_than l m n h e = let a = ltb-true l m e in lt-ltb l n (omega arith)

pub either : (a a' b b' : Bool) → (a ≡ true → a' ≡ true) → (b ≡ true → b' ≡ true) → (a || b) ≡ true → (a' || b') ≡ true
either true a' b b' f g e = rw (f refl)
either false true b b' f g e = refl
either false false b b' f g e = g e

pub stays_above : (l : Limits) {s s' : State} → Grows s s' → above l s ≡ true → above l s' ≡ true
unfolding above
stays_above l g =
    either _ _ _ _ (more_than l.variables _ _ (prefix_length g.variables))
    (either _ _ _ _ (more_than l.clauses _ _ (prefix_length g.clauses))
    (either _ _ _ _ (more_than l.condition_literals _ _ (prefix_sum g.clauses))
    (more_than l.waiting _ _ (prefix_length g.waiting))))
