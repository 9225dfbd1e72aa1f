-- A run ends: `most_tasks` is fuel enough for the task line of every run of every job, and room enough for the line itself.
-- What is left to do is measured by weights: it falls with each task served, and is at most `most_tasks` when the run begins.
use mathlib.Core.Path.{◌≡◌, refl, ◌∙◌, ap}
use mathlib.Core.Bool.{Bool, true, false, ◌||◌, cond}
use mathlib.Core.List.Memᴰ
use mathlib.Core.List.{List, [], ◌∷◌, ◌++◌, map, Memᴰ}
use Prim.Native.Nat.{ℕ, zero, suc, ◌+◌, ◌*◌, ◌<◌, ◌≤◌, zero-le}
use native.Mathlib.Nat.{le_refl}
use native.Mathlib.Omega.{arith}
use lib.Dec.{eqb}
use lib.ListN.{length, length-map}
use borrow.Author.Tests.{eq-eqb}
use Rattle.rules.specs.Lists.{any, count, elem, snoc, fold, up_to, sum}
use Rattle.rules.specs.Catalogue.{Owner, root, part, Catalogue, constraint_at, range_name, owner_at, goal_at, same_owner}
use Rattle.rules.specs.Candidates.{candidates, requirements_of, constraints_of}
use Rattle.rules.specs.Conditions.{unconditional}
use Rattle.rules.specs.Opening.{Task, owner, name, condition, requirement, constraint, Opening, set_owners, set_names, queue, open_owner, open_name, open_names, ranges_of, ranges_first, task_by, tasks_of, serve_owner, serve_name, fire, serve_condition, fired_parts, name_for_tracking, open_ready, mark_handled, serve_requirement, serve, begin_run}
use Rattle.rules.specs.State.{State, decided_true, Run}
use Rattle.rules.specs.Run.{serve_line, begun, most_tasks, run_once}
use Rattle.rules.specs.Limits.{Limits}
use Rattle.rules.proofs.ListLaws.{All, all_every, up_to_member, length_up_to, up_to_once, count_none, count_map, any_snoc, when_keeps, unless_keeps, fold_keeps, fold_every, sum_append, sum_map, sum_both, sum_le, sum_falls, sum_constant, sum_owned}
use Rattle.rules.proofs.Reached.{Given, Reached}
use Rattle.rules.proofs.WellFormed.{OwnerGiven, WellFormed, well_formed}
use Rattle.rules.proofs.Line.{serve_task_opening, line_after, state_after, After, begins, serves, Served, done, next, served_after, first_line, first_state, run_from, run_end, run_once_is}
use Rattle.rules.proofs.Valid.{Entry, TaskGiven, ValidOpening, ValidPoint, valid, candidates_given, ranges_of_given, ranges_first_given, first_valid, point_valid}

-- ---- what is not yet in a list

module _ {A : Type 0} (same : A → A → Bool) (w : A → ℕ) where
  unlisted : List A → A → ℕ
  unlisted xs x = cond (any (same x) xs) 0 (w x)

  unlisted_le : (xs : List A) (x : A) → unlisted xs x ≤ w x
  unfolding unlisted
  unlisted_le xs x = go (any (same x) xs)
    where
      go : (b : Bool) → cond b 0 (w x) ≤ w x
      go true = zero-le
      go false = le_refl _

  -- to list one more takes its weight away
  unlisted_falls : (xs : List A) (y : A) → same y y ≡ true → any (same y) xs ≡ false → (all : List A) → Memᴰ y all
      → sum (map (unlisted (snoc xs y)) all) + w y ≤ sum (map (unlisted xs) all)
  unfolding unlisted
  unlisted_falls xs y s e all m = sum_falls (unlisted (snoc xs y)) (unlisted xs) less y (w y) (rw (any_snoc (same y) xs y, e, s) (omega arith)) all m
    where
      fewer : (a b : Bool) (k : ℕ) → cond (a || b) 0 k ≤ cond a 0 k
      fewer true b k = le_refl 0
      fewer false true k = zero-le
      fewer false false k = le_refl k

      less : (x : A) → unlisted (snoc xs y) x ≤ unlisted xs x
      less x = rw (any_snoc (same x) xs y) (fewer (any (same x) xs) (same x y) (w x))

module _ (c : Catalogue) where
  -- ---- the measure

  -- a requirement is one task, or two if it is conditional
  rule_weight : ℕ → ℕ
  rule_weight q = cond (unconditional c q) 1 2

  weight : Task → ℕ
  weight (owner o) = 1 + (sum (map rule_weight (requirements_of c o)) + length (constraints_of c o))
  weight (name n) = 1
  weight (condition q) = 2
  weight (requirement q is) = 1
  weight (constraint k) = 1

  every_owner : List Owner
  every_owner = root ∷ map part (up_to 0 (length c.parts))

  every_name : List ℕ
  every_name = up_to 0 (length c.names)

  -- the line's weight, that of the owners not opened, and the number of names not opened
  to_do : List Owner → List ℕ → List Task → ℕ
  to_do os ns ts =
      sum (map weight ts) + sum (map (unlisted same_owner (λ o. weight (owner o)) os) every_owner) + sum (map (unlisted eqb (λ _. 1) ns) every_name)

  abbrev todo : Opening → ℕ
  todo s = to_do s.owners s.names s.line

  -- ---- opening takes from the unopened what it gives to the line

  queue_todo : (t : Task) (s : Opening) → todo (queue t s) ≡ todo s + weight t
  unfolding queue snoc to_do sum
  queue_todo t s = omega (arith, sum_append weight s.line (t ∷ []))

  queues_todo : (ts : List Task) (s : Opening) → todo (fold queue ts s) ≡ todo s + sum (map weight ts)
  unfolding fold sum
  queues_todo [] s = omega arith
  queues_todo (t ∷ ts) s = omega (arith, queues_todo ts (queue t s), queue_todo t s)

  owner_listed : (o : Owner) → OwnerGiven c o → Memᴰ o every_owner
  unfolding every_owner
  owner_listed root h = Memᴰ.head refl
  owner_listed (part p) h = Memᴰ.tail (Memᴰ.map part (up_to_member (length c.parts) p h))

  pub owner_self : (o : Owner) → same_owner o o ≡ true
  owner_self root = refl
  owner_self (part p) = eq-eqb p p refl

  owner_taken : (o : Owner) (os : List Owner) (ns : List ℕ) (ts : List Task) → OwnerGiven c o → any (same_owner o) os ≡ false
      → to_do (snoc os o) ns ts + weight (owner o) ≤ to_do os ns ts
  unfolding to_do
  owner_taken o os ns ts h e = omega (arith, unlisted_falls same_owner (λ x. weight (owner x)) os o (owner_self o) e every_owner (owner_listed o h))

  open_owner_todo : (m : ℕ) (o : Owner) (s : Opening) → OwnerGiven c o → todo s ≤ m → todo (open_owner o s) ≤ m
  unfolding open_owner
  open_owner_todo m o s h b =
      let u = set_owners (snoc s.owners o) s in
      unless_keeps (λ v. todo v ≤ m) _ _ s b (λ e. omega (arith, queue_todo (owner o) u, owner_taken o s.owners s.names s.line h e))

  name_taken : (n : ℕ) (os : List Owner) (ns : List ℕ) (ts : List Task) → n < length c.names → elem n ns ≡ false
      → to_do os (snoc ns n) ts + 1 ≤ to_do os ns ts
  unfolding to_do every_name
  name_taken n os ns ts h e = omega (arith, unlisted_falls eqb (λ _. 1) ns n (eq-eqb n n refl) e every_name (up_to_member (length c.names) n h))

  open_name_todo : (m : ℕ) (n : ℕ) (s : Opening) → n < length c.names → todo s ≤ m → todo (open_name n s) ≤ m
  unfolding open_name weight
  open_name_todo m n s h b =
      let u = set_names (snoc s.names n) s in
      unless_keeps (λ v. todo v ≤ m) _ _ s b (λ e. omega (arith, queue_todo (name n) u, name_taken n s.owners s.names s.line h e))

module _ (c : Catalogue) (w : WellFormed c) where
  open_names_todo : (rs : List ℕ) (s : Opening) → All (λ r. r < length c.ranges) rs → todo c (open_names c rs s) ≤ todo c s
  unfolding open_names
  open_names_todo rs s h =
      let m = todo c s in
      fold_keeps (λ u. todo c u ≤ m) _ _ (λ r u l. open_name_todo c m (range_name c r) u (w.ranges r l).name) rs h s (le_refl _)

  fire_todo : (q : ℕ) (is : List ℕ) (s : Opening) → q < length c.requirements → todo c (fire c q is s) ≤ suc (todo c s)
  unfolding fire weight
  fire_todo q [] s h = omega arith
  fire_todo q (i ∷ is) s h =
      omega (arith, queue_todo c (requirement q (i ∷ is)) (open_names c (ranges_of c q) s), open_names_todo (ranges_of c q) s (ranges_of_given c w q h))

  -- ---- each task served leaves less to do

  task_weight : (q : ℕ) → weight c (task_by c (unconditional c q) q) ≡ rule_weight c q
  unfolding rule_weight
  task_weight q = go (unconditional c q)
    where
      go : (b : Bool) → weight c (task_by c b q) ≡ cond b 1 2
      go true = unfold task_by weight in refl
      go false = unfold task_by weight in refl

  -- an owner weighs one more than its tasks
  owner_weight : (o : Owner) → 1 + sum (map (weight c) (tasks_of c o)) ≡ weight c (owner o)
  unfolding tasks_of weight
  owner_weight o =
      let ks = sum_map (weight c) constraint (λ _. 1) (λ k. refl) (constraints_of c o) in
      rw (sum_append, sum_map (weight c) _ (rule_weight c) task_weight (requirements_of c o)) (omega (arith, sum_constant 1 (constraints_of c o)))

  serve_owner_todo : (o : Owner) (s : Opening) → suc (todo c (serve_owner c o s)) ≤ todo c s + weight c (owner o)
  unfolding serve_owner
  serve_owner_todo o s =
      let u = open_names c (ranges_first c o) s in
      let e = owner_weight o in
      unless_keeps (λ v. suc (todo c v) ≤ todo c s + weight c (owner o)) _ _ s (omega arith)
      (λ _. omega (arith, queues_todo c (tasks_of c o) u, open_names_todo (ranges_first c o) s (ranges_first_given c w o)))

  serve_name_todo : (n : ℕ) (s : Opening) → todo c (serve_name c n s) ≤ todo c s
  unfolding serve_name
  serve_name_todo n s = when_keeps (λ v. todo c v ≤ todo c s) _ _ s (le_refl _) (le_refl _)

  serve_condition_todo : (f : ℕ → Bool) (q : ℕ) (s : Opening) → q < length c.requirements → todo c (serve_condition c f q s) ≤ suc (todo c s)
  unfolding serve_condition
  serve_condition_todo f q s h = fire_todo q _ _ h

  serve_requirement_todo : (q : ℕ) (is : List ℕ) (s : Opening) → todo c (serve_requirement c q is s) ≤ todo c s
  unfolding serve_requirement
  serve_requirement_todo q is s =
      let ps = candidates c (goal_at c q) in
      fold_keeps (λ u. todo c u ≤ todo c s) _ (open_ready c) ready ps (candidates_given c (goal_at c q)) _
      (fold_every (λ u. todo c u ≤ todo c s) (name_for_tracking c) naming (ps ++ fired_parts c q is) _ handled)
    where
      ready : (p : ℕ) (u : Opening) → p < length c.parts → todo c u ≤ todo c s → todo c (open_ready c p u) ≤ todo c s
      ready p u h b = unfold open_ready in when_keeps (λ v. todo c v ≤ todo c s) _ _ u b (open_owner_todo c (todo c s) (part p) u h b)

      naming : (p : ℕ) (u : Opening) → todo c u ≤ todo c s → todo c (name_for_tracking c p u) ≤ todo c s
      naming p u b = unfold name_for_tracking in unless_keeps (λ v. todo c v ≤ todo c s) _ _ u b (λ _. b)

      handled : todo c (mark_handled q is s) ≤ todo c s
      handled = unfold mark_handled in le_refl _

  serve_todo : (f : ℕ → Bool) (t : Task) (s : Opening) → TaskGiven c t → suc (todo c (serve c f t s)) ≤ todo c s + weight c t
  unfolding serve weight
  serve_todo f (owner o) s h = serve_owner_todo o s
  serve_todo f (name n) s h = omega (arith, serve_name_todo n s)
  serve_todo f (condition q) s h = omega (arith, serve_condition_todo f q s h.0)
  serve_todo f (requirement q is) s h = omega (arith, serve_requirement_todo q is s)
  serve_todo f (constraint k) s h = omega arith

  -- ---- at most `most_tasks` is to do when a run begins

  -- steps that add at most one each
  fold_adds : {A : Type 0} (Q : A → Type 0) (f : A → Opening → Opening) → ((x : A) (s : Opening) → Q x → todo c (f x s) ≤ suc (todo c s))
      → (xs : List A) → All Q xs → (m : ℕ) (s : Opening) → todo c s ≤ m → todo c (fold f xs s) ≤ m + length xs
  unfolding fold
  fold_adds Q f h [] q m s b = omega arith
  fold_adds Q f h (x ∷ xs) q m s b = omega (arith, fold_adds Q f h xs q.1 (suc m) (f x s) (omega (arith, h x s q.0)))

  begin_todo : (s : Opening) → ValidOpening c s → todo c (begin_run c s) ≤ todo c s + length s.drawn
  unfolding begin_run
  begin_todo s v =
      fold_adds (Entry c) _ (λ e u h. fire_todo e.0 (e.1 ∷ []) u h.requirement) s.drawn v.drawn (todo c s) _
      (fold_keeps (λ u. todo c u ≤ todo c s) _ open_owner (open_owner_todo c (todo c s)) s.added v.added _ (le_refl _))

module _ (c : Catalogue) where
  owner_once : (o : Owner) → count (λ x. same_owner x o) (every_owner c) ≤ 1
  unfolding every_owner count
  owner_once root =
      let ps = up_to 0 (length c.parts) in
      omega (arith, count_map (λ x. same_owner x root) part ps, count_none (λ p. same_owner (part p) root) ps (all_every _ (λ p. refl) ps))
  owner_once (part p) =
      let ps = up_to 0 (length c.parts) in
      omega (arith, count_map (λ x. same_owner x (part p)) part ps, up_to_once p 0 (length c.parts))

  -- a requirement has one owner, so those of all owners together are no more than all
  requirements_owned : sum (map (λ o. sum (map (rule_weight c) (requirements_of c o))) (every_owner c)) ≤ 2 * length c.requirements
  unfolding requirements_of rule_weight
  requirements_owned =
      let qs = up_to 0 (length c.requirements) in
      let a = sum_owned _ (rule_weight c) (every_owner c) (λ q. owner_once (owner_at c q)) qs in
      let b = sum_le (rule_weight c) (λ _. 2) (λ q. at_most (unconditional c q)) qs in
      omega (arith, sum_constant 2 qs, length_up_to 0 (length c.requirements))
    where
      at_most : (b : Bool) → cond b 1 2 ≤ 2
      at_most true = omega arith
      at_most false = omega arith

  constraints_owned : sum (map (λ o. length (constraints_of c o)) (every_owner c)) ≤ length c.constraints
  unfolding constraints_of
  constraints_owned =
      let ks = up_to 0 (length c.constraints) in
      let a = sum_owned _ (λ _. 1) (every_owner c) (λ k. owner_once (constraint_at c k).owner) ks in
      let b = sum_le _ (λ o. sum (map (λ _. 1) (constraints_of c o))) ones (every_owner c) in
      omega (arith, sum_constant 1 ks, length_up_to 0 (length c.constraints))
    where
      ones : (o : Owner) → length (constraints_of c o) ≤ sum (map (λ _. 1) (constraints_of c o))
      ones o = omega (arith, sum_constant 1 (constraints_of c o))

  owners_weight : sum (map (λ o. weight c (owner o)) (every_owner c)) ≤ suc (length c.parts) + 2 * length c.requirements + length c.constraints
  unfolding weight
  owners_weight =
      let a = sum_both (λ _. 1) (λ o. sum (map (rule_weight c) (requirements_of c o)) + length (constraints_of c o)) (every_owner c) in
      let b = sum_both (λ o. sum (map (rule_weight c) (requirements_of c o))) (λ o. length (constraints_of c o)) (every_owner c) in
      omega (arith, sum_constant 1 (every_owner c), owners_many, requirements_owned, constraints_owned)
    where
      owners_many : length (every_owner c) ≡ suc (length c.parts)
      owners_many = unfold every_owner in ap suc (length-map (up_to 0 (length c.parts)) part ∙ length_up_to 0 (length c.parts))

  -- before a run begins nothing is in the line
  idle_todo : (s : Opening) → s.line ≡ [] → todo c s + length s.drawn ≤ most_tasks c s
  unfolding to_do most_tasks every_name sum
  idle_todo s e =
      let l : sum (map (weight c) s.line) ≡ 0 = ap (λ ts. sum (map (weight c) ts)) e in
      let os = sum_le _ (λ o. weight c (owner o)) (unlisted_le same_owner (λ o. weight c (owner o)) s.owners) (every_owner c) in
      let ns = sum_le _ (λ _. 1) (unlisted_le eqb (λ _. 1) s.names) (every_name c) in
      omega (arith, owners_weight, sum_constant 1 (every_name c), length_up_to 0 (length c.names))

-- ---- at every point of a run

module _ (c : Catalogue) where
  -- what is to do at a point
  abbrev left : List Task → State → ℕ
  left ts s = to_do c s.opening.owners s.opening.names ts

  -- u: the opening o with a task served
  falls_by : (t : Task) (ts : List Task) (o u : Opening) → o.line ≡ [] → suc (todo c u) ≤ todo c o + weight c t
      → to_do c u.owners u.names (ts ++ u.line) < to_do c o.owners o.names (t ∷ ts)
  unfolding to_do sum
  falls_by t ts o u e h =
      let l : sum (map (weight c) o.line) ≡ 0 = ap (λ us. sum (map (weight c) us)) e in
      omega (arith, sum_append (weight c) ts u.line)

  each_weighs : (ts : List Task) → length ts ≤ sum (map (weight c) ts)
  unfolding sum
  each_weighs [] = zero-le
  each_weighs (t ∷ ts) = omega (arith, some t, each_weighs ts)
    where
      some : (t : Task) → 1 ≤ weight c t
      some (owner o) = unfold weight in omega arith
      some (name n) = unfold weight in omega arith
      some (condition q) = unfold weight in omega arith
      some (requirement q is) = unfold weight in omega arith
      some (constraint k) = unfold weight in omega arith

module _ (c : Catalogue) (w : WellFormed c) (r : Run) where
  falls : (t : Task) (ts : List Task) (s : State) → ValidPoint c (t ∷ ts) s → left c (line_after c r t ts s) (state_after c r t s) < left c (t ∷ ts) s
  falls t ts s v =
      let o = s.opening in
      rw (serve_task_opening c r t s) (falls_by c t ts o (serve c (decided_true s) t o) v.taken (serve_todo c w (decided_true s) t o v.tasks.0))

  point_left : {ts₀ : List Task} {s₀ : State} → ValidPoint c ts₀ s₀ → {n : ℕ} {ts : List Task} {s : State} → After c r ts₀ s₀ n ts s
      → n + left c ts s ≤ left c ts₀ s₀
  point_left v begins = omega arith
  point_left v (serves {t = t} {ts = ts} {s = s} a) = omega (arith, point_left v a, falls t ts s (point_valid c w r v a))

-- ---- the theorems

-- A line can be served to its end in one way only: the same number of tasks, the same end.
pub one_end : {c : Catalogue} {r : Run} {m n : ℕ} {ts : List Task} {s a b : State} → Served c r m ts s a → Served c r n ts s b → (m ≡ n) × (a ≡ b)
one_end done done = (refl, refl)
one_end (next p) (next q) = let e = one_end p q in (ap suc e.0, e.1)

-- the line of the run that begins in s, served to its end
pub record RunEnds (c : Catalogue) (r : Run) (s end : State) : Type 0 where
  pub tasks : ℕ
  pub few : tasks ≤ most_tasks c s.opening
  pub served : Served c r tasks (first_line c s) (first_state c s) end

module _ {l : Limits} {c : Catalogue} {s : State} (g : Given c) (reached : Reached l c s) where
  module _ (r : Run) where
    -- At every point of a run the tasks served and those still in the line are together at most `most_tasks`: so many places are enough.
    pub room : {n : ℕ} {ts : List Task} {s' : State} → After c r (first_line c s) (first_state c s) n ts s' → n + length ts ≤ most_tasks c s.opening
    unfolding to_do begun
    room {n} {ts} a =
        let w = well_formed g in
        let v = valid g reached in
        let p = first_valid c w s v.opening in
        omega (arith, point_left c w r p a, each_weighs c ts, begin_todo c w s.opening v.opening, idle_todo c s.opening v.line_empty)

    served_from : (fuel : ℕ) {k : ℕ} {ts : List Task} {s' : State} → After c r (first_line c s) (first_state c s) k ts s'
        → most_tasks c s.opening ≤ k + fuel → (n : ℕ) × Served c r n ts s' (serve_line c r fuel ts s')
    unfolding serve_line
    served_from zero {ts = []} a h = (0, done)
    served_from zero {ts = t ∷ ts} a h = let no_such : ⊥ = omega (arith, room a) in absurd no_such
    served_from (suc fuel) {ts = []} a h = (0, done)
    served_from (suc fuel) {ts = t ∷ ts} a h = let p = served_from fuel (serves a) (omega arith) in (suc p.0, next p.1)

    -- The fuel `most_tasks` serves the line of every run to its end, in at most that many tasks.
    pub ends : RunEnds c r s (serve_line c r (most_tasks c s.opening) (first_line c s) (first_state c s))
    ends =
        let p = served_from (most_tasks c s.opening) begins (omega arith) in
        record { tasks = p.0; few = omega (arith, room (served_after c r begins p.1)); served = p.1 }

    -- More fuel gives the same end.
    pub more_fuel : (fuel : ℕ) → most_tasks c s.opening ≤ fuel
        → serve_line c r fuel (first_line c s) (first_state c s) ≡ serve_line c r (most_tasks c s.opening) (first_line c s) (first_state c s)
    more_fuel fuel h = (one_end (served_from fuel begins (omega arith)).1 ends.served).1

  -- So `run_once` is: the line served to its end, whatever that takes, and then the run's end.
  pub run_to_end : (level : ℕ) {n : ℕ} {end : State} → Served c (run_from level s) n (first_line c s) (first_state c s) end
      → run_once c level s ≡ run_end c (run_from level s) end
  run_to_end level p = run_once_is c level s ∙ ap (run_end c (run_from level s)) (one_end (ends (run_from level s)).served p).1
