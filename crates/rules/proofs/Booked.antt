-- Every step of a job keeps the books of the task line (proofs/Books.antt), whatever the catalogue and whatever is decided true.
-- So, when the line is worked off, no rule of an opened owner is lost, and no disjunct.
use mathlib.Core.Path.{◌≡◌, refl, sym, ◌∙◌, ap}
use mathlib.Core.Logic.{◌⊎◌, inl, inr, ⊎_elim}
use mathlib.Core.Bool.{Bool, true, false, not, true≢false}
use mathlib.Core.List.Memᴰ
use mathlib.Core.List.{List, [], ◌∷◌, ◌++◌, append-nil, append_assoc}
use Prim.Native.Nat.{ℕ}
use Rattle.rules.specs.Lists.{filter, snoc, fold}
use Rattle.rules.specs.Catalogue.{Owner, part, Catalogue, several_allowed, range_name, unknown_owner}
use Rattle.rules.specs.Candidates.{requirements_of, constraints_of}
use Rattle.rules.specs.Conditions.{indices, unconditional}
use Rattle.rules.specs.Opening.{Task, owner, name, condition, requirement, constraint, Opening, set_owners, set_names, set_several, set_waiting, set_drawn, set_added, set_named, set_tracked, set_line, unopened, queue, open_owner, open_name, mark_handled, add, open_names, ranges_of, ranges_first, task_by, tasks_of, serve_owner, serve_name, fire, serve_condition, name_for_tracking, open_ready, serve_requirement, serve, draw, begin_run, end_run}
use Rattle.rules.specs.Called.{◌∈◌}
use Rattle.rules.proofs.OwnerTasks.{requirement_owner, constraint_owner, task_rule, unconditional_task, condition_task, constraint_task}
use Rattle.rules.proofs.Books.{OfServed, RequirementFrom, ConditionFrom, ConstraintFrom, EntryFrom, Placed, waits, is_drawn_law, fires, CalledFor, Done, Books, fired_of_law, rules_queued, split}
use Rattle.rules.proofs.Membership.{◌⊆◌, ⊆-refl, in_left, in_right, at_end, in_either, before_or_end, filter_within, filter_either, map_in, entries, entries_out, when_either, unless_either, when_keeps, unless_keeps, fold_keeps, fold_through}

module _ (c : Catalogue) where
  -- `log`: the tasks served so far in the job; `ts`: those in the line
  pub record Booked (log ts : List Task) (o : Opening) : Type 0 where
    pub books : Books c log log (log ++ ts) o.drawn o

  -- when the line is worked off, everything queued is served
  pub all_served : {log : List Task} {o : Opening} → Booked log [] o → Books c log log log o.drawn o
  all_served {log} b = rw append-nil at b.books

  -- ---- what was called for, or done, stays so

  called_onward : {log log' : List Task} (o o' : Opening) → log ⊆ log' → o.owners ⊆ o'.owners → o.names ⊆ o'.names
      → (t : Task) → CalledFor c log o t → CalledFor c log' o' t
  called_onward {log} {log'} o o' up ws ns t f = go t f
    where
      served : {q : ℕ} → OfServed c log q → OfServed c log' q
      served f = record { owner_served = up _ f.owner_served; of_owner = f.of_owner }

      go : (t : Task) → CalledFor c log o t → CalledFor c log' o' t
      go (owner w) m = ws w m
      go (name n) m = ns n m
      go (condition q) f = record { of_served = served f.of_served; has_condition = f.has_condition }
      go (requirement q is) f = record { of_served = served f.of_served; indexed = f.indexed; none_fired = f.none_fired }
      go (constraint k) f = record { owner_served = up _ f.owner_served; of_owner = f.of_owner }

  record Onward (all all' : List Task) (drawn drawn' : List (ℕ × ℕ)) (o o' : Opening) : Type 0 where
    tasks : all ⊆ all'
    several : o.several ⊆ o'.several
    handled : o.handled ⊆ o'.handled
    fired : o.fired ⊆ o'.fired
    placed : (q i : ℕ) → Placed all o.waiting drawn q i → Placed all' o'.waiting drawn' q i

  done_onward : {all all' : List Task} {drawn drawn' : List (ℕ × ℕ)} {o o' : Opening} → Onward all all' drawn drawn' o o'
      → (t : Task) → Done c all drawn o t → Done c all' drawn' o' t
  done_onward g (owner w) d = λ e t m. g.tasks t (d e t m)
  done_onward g (name n) d = λ e. g.several n (d e)
  done_onward g (condition q) d = λ i m. g.placed q i (d i m)
  done_onward g (requirement q is) d = (g.handled q d.0, λ i m. g.fired (q, i) (d.1 i m))
  done_onward g (constraint k) d = tt

  -- ---- one change at a time

  -- a task is taken from the line
  taken : {done log log' all : List Task} {drawn : List (ℕ × ℕ)} {o : Opening} → log ⊆ log' → Books c done log all drawn o → Books c done log' all drawn o
  taken {o} up b = record {
    owner_queued = b.owner_queued;
    name_queued = b.name_queued;
    several_from = λ n m. let f = b.several_from n m in (up _ f.0, f.1);
    handled_from = λ q m. let f = b.handled_from q m in (f.0, up _ f.1);
    fired_from = λ q i m. let f = b.fired_from q i m in (f.0, up _ f.1, f.2);
    waiting_from = λ q i m. let f = b.waiting_from q i m in record { condition_served_law = up _ f.condition_served_law; indexed = f.indexed };
    drawn_from = λ q i m. let f = b.drawn_from q i m in record { condition_served_law = up _ f.condition_served_law; indexed = f.indexed };
    called_for = λ t m. called_onward o o up ⊆-refl ⊆-refl t (b.called_for t m);
    completed = b.completed;
  }

  -- its service is complete
  finished : {done log all : List Task} {drawn : List (ℕ × ℕ)} {o : Opening} (t : Task) → Done c all drawn o t
      → Books c done log all drawn o → Books c (done ++ (t ∷ [])) log all drawn o
  finished {done} {all} {drawn} {o} t d b = record {
    owner_queued = b.owner_queued;
    name_queued = b.name_queued;
    several_from = b.several_from;
    handled_from = b.handled_from;
    fired_from = b.fired_from;
    waiting_from = b.waiting_from;
    drawn_from = b.drawn_from;
    called_for = b.called_for;
    completed = λ u m. ⊎_elim (b.completed u) (λ (e : u ≡ t). rw e d) (before_or_end done m);
  }

  -- the lists that the books do not read change
  unread : {done log all : List Task} {drawn : List (ℕ × ℕ)} {o : Opening} {d : List (ℕ × ℕ)} {ws : List Owner} {ns ts : List ℕ} {l : List Task}
      → Books c done log all drawn o → Books c done log all drawn (set_drawn d (set_added ws (set_named ns (set_tracked ts (set_line l o)))))
  unread {o} {d} {ws} {ns} {ts} {l} b = let o' = set_drawn d (set_added ws (set_named ns (set_tracked ts (set_line l o)))) in record {
    owner_queued = b.owner_queued;
    name_queued = b.name_queued;
    several_from = b.several_from;
    handled_from = b.handled_from;
    fired_from = b.fired_from;
    waiting_from = b.waiting_from;
    drawn_from = b.drawn_from;
    called_for = λ t m. called_onward o o' ⊆-refl ⊆-refl ⊆-refl t (b.called_for t m);
    completed = λ t m. done_onward {o = o} {o' = o'} (record { tasks = ⊆-refl; several = ⊆-refl; handled = ⊆-refl; fired = ⊆-refl; placed = λ q i p. p }) t (b.completed t m);
  }

  -- of more owners, or names, only those that new tasks open
  record Extends {A : Type 0} (opens : A → Task) (new : List Task) (xs ys : List A) : Type 0 where
    kept : xs ⊆ ys
    fresh : (y : A) → y ∈ ys → (y ∈ xs) ⊎ (opens y ∈ new)

  none_more : {A : Type 0} {opens : A → Task} {new : List Task} {xs : List A} → Extends opens new xs xs
  none_more = record { kept = ⊆-refl; fresh = λ y m. inl m }

  one_more : {A : Type 0} (opens : A → Task) (xs : List A) (x : A) → Extends opens (opens x ∷ []) xs (snoc xs x)
  unfolding snoc
  one_more opens xs x = record { kept = λ y m. in_left _ m; fresh = λ y m. ⊎_elim inl (λ (e : y ≡ x). inr (Memᴰ.head (ap opens e))) (before_or_end xs m) }

  more_tasks : {done log all : List Task} {drawn : List (ℕ × ℕ)} {o : Opening} {ws : List Owner} {ns : List ℕ} {l : List Task} (new : List Task)
      → Extends owner new o.owners ws → Extends name new o.names ns → ((t : Task) → t ∈ new → CalledFor c log (set_owners ws (set_names ns o)) t)
      → Books c done log all drawn o → Books c done log (all ++ new) drawn (set_owners ws (set_names ns (set_line l o)))
  more_tasks {all} {o} {ws} {ns} {l} new owners names calls b = let o' = set_owners ws (set_names ns (set_line l o)) in record {
    owner_queued = λ w m. ⊎_elim (λ k. in_left new (b.owner_queued w k)) (λ k. in_right all k) (owners.fresh w m);
    name_queued = λ n m. ⊎_elim (λ k. in_left new (b.name_queued n k)) (λ k. in_right all k) (names.fresh n m);
    several_from = b.several_from;
    handled_from = b.handled_from;
    fired_from = b.fired_from;
    waiting_from = b.waiting_from;
    drawn_from = b.drawn_from;
    called_for = λ t m. ⊎_elim
        (λ k. called_onward o o' ⊆-refl owners.kept names.kept t (b.called_for t k))
        (λ k. called_onward (set_owners ws (set_names ns o)) o' ⊆-refl ⊆-refl ⊆-refl t (calls t k)) (in_either all m);
    completed = λ t m. done_onward {o = o} {o' = o'} (record { tasks = λ u k. in_left new k; several = ⊆-refl; handled = ⊆-refl; fired = ⊆-refl; placed = placed }) t
        (b.completed t m);
  }
    where
      placed : {ws ds : List (ℕ × ℕ)} (q i : ℕ) → Placed all ws ds q i → Placed (all ++ new) ws ds q i
      placed q i (waits m) = waits m
      placed q i (is_drawn_law m) = is_drawn_law m
      placed q i (fires m k) = fires (in_left new m) k

  -- entries wait and are drawn otherwise
  moved : {done log all : List Task} {drawn waiting' drawn' : List (ℕ × ℕ)} {o : Opening}
      → ((q i : ℕ) → (q, i) ∈ waiting' → EntryFrom c log q i) → ((q i : ℕ) → (q, i) ∈ drawn' → EntryFrom c log q i)
      → ((q i : ℕ) → Placed all o.waiting drawn q i → Placed all waiting' drawn' q i)
      → Books c done log all drawn o → Books c done log all drawn' (set_waiting waiting' o)
  moved {waiting' = ws} {o = o} waiting drawn placed b = let o' = set_waiting ws o in record {
    owner_queued = b.owner_queued;
    name_queued = b.name_queued;
    several_from = b.several_from;
    handled_from = b.handled_from;
    fired_from = b.fired_from;
    waiting_from = waiting;
    drawn_from = drawn;
    called_for = λ t k. called_onward o o' ⊆-refl ⊆-refl ⊆-refl t (b.called_for t k);
    completed = λ t k. done_onward {o = o} {o' = o'} (record { tasks = ⊆-refl; several = ⊆-refl; handled = ⊆-refl; fired = ⊆-refl; placed = placed }) t (b.completed t k);
  }

  -- a requirement's task is in the line: its disjuncts are drawn no longer
  task_queued : {done log all : List Task} {drawn : List (ℕ × ℕ)} {o : Opening} (q : ℕ) (is : List ℕ) → requirement q is ∈ all
      → Books c done log all (entries q is ++ drawn) o → Books c done log all drawn o
  task_queued {all} {drawn} q is m b = moved b.waiting_from (λ p i k. b.drawn_from p i (in_right (entries q is) k)) placed b
    where
      placed : {ws : List (ℕ × ℕ)} (p i : ℕ) → Placed all ws (entries q is ++ drawn) p i → Placed all ws drawn p i
      placed p i (waits k) = waits k
      placed p i (is_drawn_law k) = ⊎_elim (λ n. let x = entries_out q is n in fires (rw x.0 m) x.1) is_drawn_law (in_either (entries q is) k)
      placed p i (fires k n) = fires k n

  -- a condition's disjuncts wait, or are drawn
  entered : {done log all : List Task} {drawn : List (ℕ × ℕ)} {o : Opening} (q : ℕ) (stay hold : List ℕ)
      → condition q ∈ log → stay ⊆ indices c q → hold ⊆ indices c q
      → Books c done log all drawn o → Books c done log all (entries q hold ++ drawn) (set_waiting (o.waiting ++ entries q stay) o)
  entered {log} {all} {drawn} {o} q stay hold m stays holds b =
      moved
      (λ p i k. ⊎_elim (b.waiting_from p i) (new stay stays p i) (in_either o.waiting k))
      (λ p i k. ⊎_elim (new hold holds p i) (b.drawn_from p i) (in_either (entries q hold) k))
      placed b
    where
      new : (is : List ℕ) → is ⊆ indices c q → (p i : ℕ) → (p, i) ∈ entries q is → EntryFrom c log p i
      new is within p i k = let x = entries_out q is k in rw x.0 (record { condition_served_law = m; indexed = within i x.1 })

      placed : (p i : ℕ) → Placed all o.waiting drawn p i → Placed all (o.waiting ++ entries q stay) (entries q hold ++ drawn) p i
      placed p i (waits k) = waits (in_left _ k)
      placed p i (is_drawn_law k) = is_drawn_law (in_right (entries q hold) k)
      placed p i (fires k n) = fires k n

  -- a name that allows several is served
  noted : {done log all : List Task} {drawn : List (ℕ × ℕ)} {o : Opening} (n : ℕ) → name n ∈ log → several_allowed c n ≡ true
      → Books c done log all drawn o → Books c done log all drawn (set_several (snoc o.several n) o)
  unfolding snoc
  noted {o} n m e b = let o' = set_several (snoc o.several n) o in record {
    owner_queued = b.owner_queued;
    name_queued = b.name_queued;
    several_from = λ p k. ⊎_elim (b.several_from p) (λ (a : p ≡ n). rw a (m, e)) (before_or_end o.several k);
    handled_from = b.handled_from;
    fired_from = b.fired_from;
    waiting_from = b.waiting_from;
    drawn_from = b.drawn_from;
    called_for = λ t k. called_onward o o' ⊆-refl ⊆-refl ⊆-refl t (b.called_for t k);
    completed = λ t k. done_onward {o = o} {o' = o'} (record { tasks = ⊆-refl; several = λ p n. in_left _ n; handled = ⊆-refl; fired = ⊆-refl; placed = λ q i p. p }) t
        (b.completed t k);
  }

  -- a requirement is served
  marked : {done log all : List Task} {drawn : List (ℕ × ℕ)} {o : Opening} (q : ℕ) (is : List ℕ) → requirement q is ∈ log
      → Books c done log all drawn o → Books c done log all drawn (mark_handled q is o)
  unfolding mark_handled snoc
  marked {o} q is m b = let o' = mark_handled q is o in record {
    owner_queued = b.owner_queued;
    name_queued = b.name_queued;
    several_from = b.several_from;
    handled_from = λ p k. ⊎_elim (b.handled_from p) (λ (e : p ≡ q). (is, rw e m)) (before_or_end o.handled k);
    fired_from = λ p i k. ⊎_elim (b.fired_from p i) (λ n. let x = entries_out q is n in (is, rw x.0 m, x.1)) (in_either o.fired k);
    waiting_from = b.waiting_from;
    drawn_from = b.drawn_from;
    called_for = λ t k. called_onward o o' ⊆-refl ⊆-refl ⊆-refl t (b.called_for t k);
    completed = λ t k. done_onward {o = o} {o' = o'} (record { tasks = ⊆-refl; several = ⊆-refl; handled = λ p n. in_left _ n; fired = λ e n. in_left _ n; placed = λ q i p. p }) t
        (b.completed t k);
  }

  -- ---- rules that queue, while a task is served

  queues : (ts : List Task) (s : Opening) → fold queue ts s ≡ set_line (s.line ++ ts) s
  unfolding fold queue snoc
  queues [] s = ap (λ l. set_line l s) (sym (append-nil s.line))
  queues (t ∷ ts) s = rw (queues ts (queue t s)) (ap (λ l. set_line l s) (append_assoc s.line (t ∷ []) ts))

  -- `pre`: the log and the line, behind which rules queue; `es`: disjuncts that fire and are not yet queued
  module _ (done log pre : List Task) where
    abbrev Serving : List (ℕ × ℕ) → Opening → Type 0
    Serving es s = Books c done log (pre ++ s.line) (es ++ s.drawn) s

    module _ (es : List (ℕ × ℕ)) where
      queued : {ws : List Owner} {ns : List ℕ} (new : List Task) (s : Opening)
          → Extends owner new s.owners ws → Extends name new s.names ns → ((t : Task) → t ∈ new → CalledFor c log (set_owners ws (set_names ns s)) t)
          → Serving es s → Serving es (set_owners ws (set_names ns (set_line (s.line ++ new) s)))
      queued new s owners names calls b = rw (append_assoc pre s.line new) at (more_tasks {l = s.line ++ new} new owners names calls b)

      queue_serving : (t : Task) (s : Opening) → CalledFor c log s t → Serving es s → Serving es (queue t s)
      unfolding queue snoc
      queue_serving t s f b = queued (t ∷ []) s none_more none_more (λ u m. rw (Memᴰ.eq_of_singleton m) f) b

      open_owner_serving : (w : Owner) (s : Opening) → Serving es s → Serving es (open_owner w s)
      unfolding open_owner queue snoc
      open_owner_serving w s b =
          unless_keeps (Serving es) _ _ s
          (queued (owner w ∷ []) s (one_more owner s.owners w) none_more (λ u m. rw (Memᴰ.eq_of_singleton m) (at_end s.owners w))) b

      open_name_serving : (n : ℕ) (s : Opening) → Serving es s → Serving es (open_name n s)
      unfolding open_name queue snoc
      open_name_serving n s b =
          unless_keeps (Serving es) _ _ s
          (queued (name n ∷ []) s none_more (one_more name s.names n) (λ u m. rw (Memᴰ.eq_of_singleton m) (at_end s.names n))) b

      open_names_serving : (rs : List ℕ) (s : Opening) → Serving es s → Serving es (open_names c rs s)
      unfolding open_names
      open_names_serving rs s b = fold_keeps (Serving es) _ rs (λ r m. open_name_serving (range_name c r)) s b

      ready_serving : (p : ℕ) (s : Opening) → Serving es s → Serving es (open_ready c p s)
      unfolding open_ready
      ready_serving p s b = when_keeps (Serving es) _ _ s (open_owner_serving (part p) s) b

      naming_serving : (p : ℕ) (s : Opening) → Serving es s → Serving es (name_for_tracking c p s)
      unfolding name_for_tracking
      naming_serving p s b = unless_keeps (Serving es) _ _ s unread b

    -- what fires counts as drawn until its task is queued
    fire_serving : log ⊆ pre → (q : ℕ) (is : List ℕ) (es : List (ℕ × ℕ)) (s : Opening) → Serving (entries q is ++ es) s → Serving es (fire c q is s)
    unfolding fire queue snoc
    fire_serving within q [] es s b = b
    fire_serving within q (i ∷ is) es s b =
        let s₁ = open_names c (ranges_of c q) s in
        let js = entries q (i ∷ is) in
        let b₁ = open_names_serving (js ++ es) (ranges_of c q) s b in
        let b₂ = queue_serving (js ++ es) (requirement q (i ∷ is)) s₁ (calls s₁ b₁) b₁ in
        task_queued q (i ∷ is) (in_right pre (at_end s₁.line _)) (rw (append_assoc js es s₁.drawn) at b₂)
      where
        calls : (s : Opening) → Serving (entries q (i ∷ is) ++ es) s → RequirementFrom c log q (i ∷ is)
        calls s b =
            let entry : (j : ℕ) → j ∈ (i ∷ is) → EntryFrom c log q j = λ j m. b.drawn_from q j (in_left _ (in_left es (map_in (λ j. (q, j)) m))) in
            let from : ConditionFrom c log q = b.called_for (condition q) (in_left s.line (within _ (entry i (Memᴰ.head refl)).condition_served_law)) in
            record { of_served = from.of_served; indexed = λ j m. (entry j m).indexed; none_fired = λ e. absurd (true≢false (sym e ∙ from.has_condition)) }

  -- ---- each task, served

  module _ (log ts : List Task) where
    -- the log, with the task that is served
    abbrev now : Task → List Task
    now t = log ++ (t ∷ [])

    abbrev Taken : Task → Opening → Type 0
    Taken t s = Serving log (now t) (now t ++ ts) [] s

    abbrev Served : Task → Opening → Type 0
    Served t s = Serving (now t) (now t) (now t ++ ts) [] s

    own_task : (w : Owner) (o : Opening) → (t : Task) → t ∈ tasks_of c w → CalledFor c (now (owner w)) o t
    own_task w o = task_rule c w (CalledFor c (now (owner w)) o) (λ q m. rule q m (unconditional c q) refl) limit
      where
        limit : (k : ℕ) → k ∈ constraints_of c w → ConstraintFrom c (now (owner w)) k
        limit k m = let e = constraint_owner c w m in record { owner_served = rw e (at_end log (owner w)); of_owner = rw e m }

        of_w : (q : ℕ) → q ∈ requirements_of c w → OfServed c (now (owner w)) q
        of_w q m = let e = requirement_owner c w m in record { owner_served = rw e (at_end log (owner w)); of_owner = rw e m }

        rule : (q : ℕ) → q ∈ requirements_of c w → (b : Bool) → unconditional c q ≡ b → CalledFor c (now (owner w)) o (task_by c b q)
        rule q m true e = unfold task_by in record { of_served = of_w q m; indexed = λ i k. absurd (Memᴰ.not-nil k); none_fired = λ e. refl }
        rule q m false e = unfold task_by in record { of_served = of_w q m; has_condition = e }

    owner_served : (w : Owner) (s : Opening) → Taken (owner w) s → Served (owner w) (serve_owner c w s)
    unfolding serve_owner
    owner_served w s b =
        unless_either (Served (owner w)) _ _ s
        (λ e. finished (owner w) (λ known. absurd (true≢false (sym e ∙ known))) b)
        (λ e. let s₁ = open_names c (ranges_first c w) s in
        rw (queues (tasks_of c w) s₁)
        (finished (owner w) (λ known t m. in_right (now (owner w) ++ ts) (in_right s₁.line m))
        (queued log (now (owner w)) (now (owner w) ++ ts) [] (tasks_of c w) s₁ none_more none_more (own_task w s₁)
        (open_names_serving log (now (owner w)) (now (owner w) ++ ts) [] (ranges_first c w) s b))))

    name_served : (n : ℕ) (s : Opening) → Taken (name n) s → Served (name n) (serve_name c n s)
    unfolding serve_name snoc
    name_served n s b =
        when_either (Served (name n)) _ _ s
        (λ e. finished (name n) (λ k. at_end s.several n) (noted n (at_end log (name n)) e b))
        (λ e. finished (name n) (λ k. absurd (true≢false (sym k ∙ e))) b)

    condition_served_law : (f : ℕ → Bool) (q : ℕ) (s : Opening) → Taken (condition q) s → Served (condition q) (serve_condition c f q s)
    unfolding serve_condition
    condition_served_law f q s b =
        fire_serving (now (condition q)) (now (condition q)) (now (condition q) ++ ts) (λ u m. in_left ts m) q _ [] _
        (rw append-nil (finished (condition q) (placed _)
        (entered q _ _ (at_end log (condition q)) (filter_within _ (indices c q)) (filter_within _ (indices c q)) b)))
      where
        placed : (h : ℕ → Bool) {all : List Task} (i : ℕ) → i ∈ indices c q
            → Placed all (s.waiting ++ entries q (filter (λ j. not (h j)) (indices c q))) (entries q (filter h (indices c q)) ++ s.drawn) q i
        placed h i m =
            ⊎_elim
            (λ k. is_drawn_law (in_left s.drawn (map_in (λ j. (q, j)) k)))
            (λ k. waits (in_right s.waiting (map_in (λ j. (q, j)) k)))
            (filter_either h (indices c q) m)

    requirement_served : (q : ℕ) (is : List ℕ) (s : Opening) → Taken (requirement q is) s → Served (requirement q is) (serve_requirement c q is s)
    unfolding serve_requirement mark_handled snoc
    requirement_served q is s b =
        let t = requirement q is in
        fold_keeps (Served t) (open_ready c) _ (λ p m. ready_serving (now t) (now t) (now t ++ ts) [] p) _
        (fold_keeps (Served t) (name_for_tracking c) _ (λ p m. naming_serving (now t) (now t) (now t ++ ts) [] p) (mark_handled q is s)
        (finished t (at_end s.handled q, λ i m. in_right s.fired (map_in (λ i. (q, i)) m)) (marked q is (at_end log t) b)))

    task_served : (f : ℕ → Bool) (t : Task) (s : Opening) → Taken t s → Served t (serve c f t s)
    unfolding serve
    task_served f (owner w) s b = owner_served w s b
    task_served f (name n) s b = name_served n s b
    task_served f (condition q) s b = condition_served_law f q s b
    task_served f (requirement q is) s b = requirement_served q is s b
    task_served f (constraint k) s b = finished (constraint k) tt b

  -- ---- a run and the records of the sheet

  pub start_booked : Booked [] [] unopened
  start_booked = record {
    books = record {
      owner_queued = λ w m. none_in_law m;
      name_queued = λ n m. none_in_law m;
      several_from = λ n m. none_in_law m;
      handled_from = λ q m. none_in_law m;
      fired_from = λ q i m. none_in_law m;
      waiting_from = λ q i m. none_in_law m;
      drawn_from = λ q i m. none_in_law m;
      called_for = λ t m. none_in_law m;
      completed = λ t m. none_in_law m;
    };
  }
    where
      none_in_law : {A B : Type 0} {x : A} → x ∈ [] → B
      none_in_law m = absurd (Memᴰ.not-nil m)

  pub serve_booked : (f : ℕ → Bool) {log ts : List Task} {t : Task} {o : Opening} → Booked log (t ∷ ts) o → o.line ≡ []
      → Booked (log ++ (t ∷ [])) (ts ++ (serve c f t o).line) (set_line [] (serve c f t o))
  serve_booked f {log} {ts} {t} {o} b e =
      let b₁ : Books c log (log ++ (t ∷ [])) ((log ++ (t ∷ [])) ++ ts) o.drawn o =
      rw (append_assoc log (t ∷ []) ts) (taken (λ u m. in_left _ m) b.books) in
      let b₂ = task_served log ts f t o (rw (e, append-nil) (unread b₁)) in
      record { books = unread (rw (append_assoc (log ++ (t ∷ [])) ts (serve c f t o).line) at b₂) }

  pub begin_booked : {log : List Task} {o : Opening} → Booked log [] o → o.line ≡ [] → Booked log (begin_run c o).line (set_line [] (begin_run c o))
  unfolding begin_run
  begin_booked {log} {o} b e =
      let s₁ = set_added [] (set_drawn [] o) in
      let b₁ : Serving log log log o.drawn s₁ = rw (append-nil o.drawn, e) (unread b.books) in
      let b₂ = fold_keeps (Serving log log log o.drawn) open_owner o.added (λ w m. open_owner_serving log log log o.drawn w) s₁ b₁ in
      let b₃ = fold_through (Serving log log log) _ (λ e es. fire_serving log log log (λ t m. m) e.0 _ es) o.drawn _ b₂ in
      record { books = unread b₃ }

  pub end_booked : {log ts : List Task} {o : Opening} → Booked log ts o → Booked log ts (end_run c o)
  unfolding end_run
  end_booked b = record { books = unread b.books }

  pub add_booked : (w : Owner) {log ts : List Task} {o : Opening} → Booked log ts o → Booked log ts (add w o)
  unfolding add
  add_booked w b = record { books = unread b.books }

  pub draw_booked : (f : ℕ → Bool) (k : ℕ) {log ts : List Task} {o : Opening} → Booked log ts o → Booked log ts (draw c f k o)
  unfolding draw
  draw_booked f k {o} b =
      let bs = b.books in
      record {
        books = unread (moved
            (λ q i m. bs.waiting_from q i (filter_within _ o.waiting _ m))
            (λ q i m. ⊎_elim (bs.drawn_from q i) (λ n. bs.waiting_from q i (filter_within _ o.waiting _ n)) (in_either o.drawn m))
            (placed _) bs);
      }
    where
      placed : (f : ℕ × ℕ → Bool) {all : List Task} (q i : ℕ) → Placed all o.waiting o.drawn q i
          → Placed all (filter (λ (e : ℕ × ℕ). not (f e)) o.waiting) (o.drawn ++ filter f o.waiting) q i
      placed f q i (waits m) = ⊎_elim (λ n. is_drawn_law (in_right o.drawn n)) (λ n. waits n) (filter_either f o.waiting m)
      placed f q i (is_drawn_law m) = is_drawn_law (in_left _ m)
      placed f q i (fires m n) = fires m n

  -- ---- no rule of an opened owner is lost, when the line is worked off

  module _ {log : List Task} {o : Opening} (b : Booked log [] o) {w : Owner} (opened : w ∈ o.owners) (known : unknown_owner c w ≡ false) where
    rule_served : tasks_of c w ⊆ log
    rule_served = rules_queued c (all_served b) w ((all_served b).owner_queued w opened) known

    pub unconditional_served : (q : ℕ) → q ∈ requirements_of c w → unconditional c q ≡ true → requirement q [] ∈ log
    unconditional_served q m e = rule_served _ (unconditional_task c w m e)

    pub constraint_served : (k : ℕ) → k ∈ constraints_of c w → constraint k ∈ log
    constraint_served k m = rule_served _ (constraint_task c w m)

    -- a disjunct has fired, waits, or is drawn
    pub disjunct_kept_law : (q : ℕ) → q ∈ requirements_of c w → unconditional c q ≡ false → (i : ℕ) → i ∈ indices c q
        → ((q, i) ∈ o.fired) ⊎ (((q, i) ∈ o.waiting) ⊎ ((q, i) ∈ o.drawn))
    disjunct_kept_law q m e i k =
        elim (split c (all_served b) q (rule_served _ (condition_task c w m e)) i k) [
          | waits n ↦ inr (inl n)
          | is_drawn_law n ↦ inr (inr n)
          | fires {is = is} t n ↦ inl (fired_of_law c (all_served b) q is t i n)
        ]
