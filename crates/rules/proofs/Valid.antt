-- A reached state is valid, and so is every point of a run: each number in its opening names something that the catalogue gives.
use mathlib.Core.Path.{◌≡◌, refl, ◌∙◌, ap}
use mathlib.Core.Bool.{Bool, true, false, true≢false}
use mathlib.Core.List.{List, [], ◌∷◌, ◌++◌, map}
use mathlib.Core.Option.{Option, none, some}
use Prim.Native.Nat.{ℕ, ◌<◌}
use lib.ListN.{length}
use Rattle.rules.specs.Lists.{filter, concat_map, up_to}
use Rattle.rules.specs.Catalogue.{Owner, part, Goal, range, union, Catalogue, range_name, goal_at, condition_at}
use Rattle.rules.specs.Candidates.{parts_of, matching, non_matching, favoured_first, sorted, goal_ranges, candidates, requirements_of, constraints_of}
use Rattle.rules.specs.Conditions.{is_none, disjuncts_of, disjunct_at, indices, unconditional}
use Rattle.rules.specs.Records.{Command}
use Rattle.rules.specs.Items.{owner_of}
use Rattle.rules.specs.Opening.{Task, owner, name, condition, requirement, constraint, Opening, set_added, set_drawn, set_line, unopened, queue, open_owner, open_name, mark_handled, add, open_names, ranges_of, ranges_first, task_by, tasks_of, serve_owner, serve_name, fire, serve_condition, fired_parts, name_for_tracking, open_ready, serve_requirement, serve, draw, begin_run, joining, end_run}
use Rattle.rules.specs.State.{State, start, decided_true, Run}
use Rattle.rules.specs.Run.{serve_task, begun, most_tasks, run_once}
use Rattle.rules.specs.Limits.{Limits}
use Rattle.rules.specs.Sheet.{decide, command_refusals, carried_out}
use Rattle.rules.proofs.ListLaws.{All, all_append, all_snoc, all_weaken, filter_all, all_map, all_concat_map, every_concat_map, up_to_below, when_keeps, unless_keeps, fold_keeps}
use Rattle.rules.proofs.Reached.{Passed, tested, passes, Given, Reached, command}
use Rattle.rules.proofs.WellFormed.{OwnerGiven, GoalGiven, ConditionGiven, WellFormed, well_formed, owner_present}
use Rattle.rules.proofs.Line.{serve_task_opening, After, begins, serves, serve_line_after, first_line, first_state, run_from, run_end, run_end_opening_law, run_once_is}

-- ---- what an opening may name

module _ (c : Catalogue) where
  -- a disjunct of a conditional requirement, by record number and index
  pub record Entry (e : ℕ × ℕ) : Type 0 where
    pub requirement : e.0 < length c.requirements
    pub conditional : unconditional c e.0 ≡ false
    pub disjunct : e.1 < length (disjuncts_of c e.0)

  abbrev pub TaskGiven : Task → Type 0
  TaskGiven (owner o) = OwnerGiven c o
  TaskGiven (name n) = n < length c.names
  TaskGiven (condition q) = (q < length c.requirements) × (unconditional c q ≡ false)
  TaskGiven (requirement q is) = (q < length c.requirements) × All (λ i. Entry (q, i)) is
  TaskGiven (constraint k) = k < length c.constraints

  pub record ValidOpening (s : Opening) : Type 0 where
    pub owners : All (OwnerGiven c) s.owners
    pub names : All (λ n. n < length c.names) s.names
    pub several : All (λ n. n < length c.names) s.several
    pub handled : All (λ q. q < length c.requirements) s.handled
    pub fired : All Entry s.fired
    pub waiting : All Entry s.waiting
    pub drawn : All Entry s.drawn
    pub added : All (OwnerGiven c) s.added
    pub named : All (λ p. p < length c.parts) s.named
    pub tracked : All (λ p. p < length c.parts) s.tracked
    pub line : All TaskGiven s.line

  -- a point of a run: the state, and the tasks still in the line
  pub record ValidPoint (ts : List Task) (s : State) : Type 0 where
    pub opening : ValidOpening s.opening
    pub tasks : All TaskGiven ts
    pub taken : s.opening.line ≡ []

  -- a state between two records
  pub record Valid (s : State) : Type 0 where
    pub opening : ValidOpening s.opening
    pub line_empty : s.opening.line ≡ []
    pub named_empty : s.opening.named ≡ []

-- an entry's condition, and that it is given
pub entry_condition : {c : Catalogue} → WellFormed c → {e : ℕ × ℕ} → Entry c e → (k : ℕ) × (condition_at c e.0 ≡ some k) × (k < length c.conditions)
unfolding unconditional
entry_condition {c} w {e} h = go (condition_at c e.0) h.conditional (w.requirements e.0 h.requirement).condition
  where
    go : (o : Option ℕ) → is_none o ≡ false → ConditionGiven c o → (k : ℕ) × (o ≡ some k) × (k < length c.conditions)
    go none n g = absurd (true≢false n)
    go (some k) n g = (k, refl, g)

-- ---- the lists that follow from a catalogue name what it gives

module _ (c : Catalogue) where
  parts_of_given : (n : ℕ) → All (λ p. p < length c.parts) (parts_of c n)
  unfolding parts_of
  parts_of_given n = filter_all _ _ (up_to 0 (length c.parts)) (up_to_below (length c.parts))

  pub matching_given : (r : ℕ) → All (λ p. p < length c.parts) (matching c r)
  unfolding matching
  matching_given r = filter_all _ _ (parts_of c (range_name c r)) (parts_of_given (range_name c r))

  pub non_matching_given : (r : ℕ) → All (λ p. p < length c.parts) (non_matching c r)
  unfolding non_matching
  non_matching_given r = filter_all _ _ (parts_of c (range_name c r)) (parts_of_given (range_name c r))

  sorted_given : (r : ℕ) → All (λ p. p < length c.parts) (sorted c r)
  unfolding sorted favoured_first
  sorted_given r = all_append _ (filter _ (matching c r)) _ (filter_all _ _ (matching c r) (matching_given r)) (filter_all _ _ (matching c r) (matching_given r))

  pub candidates_given : (g : Goal) → All (λ p. p < length c.parts) (candidates c g)
  unfolding candidates
  candidates_given g = every_concat_map _ _ sorted_given _

  pub fired_parts_given : (q : ℕ) (is : List ℕ) → All (λ p. p < length c.parts) (fired_parts c q is)
  unfolding fired_parts
  fired_parts_given q is = every_concat_map _ _ (λ i. every_concat_map _ _ non_matching_given (disjunct_at c q i)) is

  pub requirements_of_given : (o : Owner) → All (λ q. q < length c.requirements) (requirements_of c o)
  unfolding requirements_of
  requirements_of_given o = filter_all _ _ (up_to 0 (length c.requirements)) (up_to_below (length c.requirements))

  pub constraints_of_given : (o : Owner) → All (λ k. k < length c.constraints) (constraints_of c o)
  unfolding constraints_of
  constraints_of_given o = filter_all _ _ (up_to 0 (length c.constraints)) (up_to_below (length c.constraints))

module _ (c : Catalogue) (w : WellFormed c) where
  goal_ranges_given : (g : Goal) → GoalGiven c g → All (λ r. r < length c.ranges) (goal_ranges c g)
  unfolding goal_ranges
  goal_ranges_given (range r) h = (h, tt)
  goal_ranges_given (union u) h = w.unions u h

  -- the ranges of requirement q's goal
  pub ranges_of_given : (q : ℕ) → q < length c.requirements → All (λ r. r < length c.ranges) (ranges_of c q)
  ranges_of_given q h = goal_ranges_given (goal_at c q) (w.requirements q h).goal

  pub ranges_first_given : (o : Owner) → All (λ r. r < length c.ranges) (ranges_first c o)
  unfolding ranges_first
  ranges_first_given o =
      let qs = requirements_of c o in
      let ks = constraints_of c o in
      all_append _ (concat_map (ranges_of c) (filter _ qs)) _
      (all_concat_map _ (ranges_of c) (filter _ qs) (all_weaken _ _ ranges_of_given (filter _ qs) (filter_all _ _ qs (requirements_of_given c o))))
      (all_map _ _ ks (all_weaken _ _ (λ k h. (w.constraints k h).range) ks (constraints_of_given c o)))

  task_given : (q : ℕ) → q < length c.requirements → TaskGiven c (task_by c (unconditional c q) q)
  unfolding task_by
  task_given q h = go (unconditional c q) refl
    where
      go : (b : Bool) → unconditional c q ≡ b → TaskGiven c (task_by c b q)
      go true e = (h, tt)
      go false e = (h, e)

  pub tasks_of_given : (o : Owner) → All (TaskGiven c) (tasks_of c o)
  unfolding tasks_of
  tasks_of_given o =
      all_append _ (map _ (requirements_of c o)) _
      (all_map _ _ (requirements_of c o) (all_weaken _ _ task_given (requirements_of c o) (requirements_of_given c o)))
      (all_map _ constraint (constraints_of c o) (constraints_of_given c o))

  indices_given : (q : ℕ) → q < length c.requirements → unconditional c q ≡ false → All (λ i. Entry c (q, i)) (indices c q)
  unfolding indices
  indices_given q h e =
      all_weaken _ _ (λ i l. record { requirement = h; conditional = e; disjunct = l }) (up_to 0 (length (disjuncts_of c q))) (up_to_below (length (disjuncts_of c q)))

  -- ---- each rule keeps an opening valid

  pub queue_valid : (t : Task) (s : Opening) → TaskGiven c t → ValidOpening c s → ValidOpening c (queue t s)
  unfolding queue
  queue_valid t s h v = record {
    owners = v.owners;
    names = v.names;
    several = v.several;
    handled = v.handled;
    fired = v.fired;
    waiting = v.waiting;
    drawn = v.drawn;
    added = v.added;
    named = v.named;
    tracked = v.tracked;
    line = all_snoc _ s.line t v.line h;
  }

  pub open_owner_valid : (o : Owner) (s : Opening) → OwnerGiven c o → ValidOpening c s → ValidOpening c (open_owner o s)
  unfolding open_owner
  open_owner_valid o s h v = unless_keeps (ValidOpening c) _ _ s v (λ _. queue_valid (owner o) _ h (record {
    owners = all_snoc _ s.owners o v.owners h;
    names = v.names;
    several = v.several;
    handled = v.handled;
    fired = v.fired;
    waiting = v.waiting;
    drawn = v.drawn;
    added = v.added;
    named = v.named;
    tracked = v.tracked;
    line = v.line;
  }))

  pub open_name_valid : (n : ℕ) (s : Opening) → n < length c.names → ValidOpening c s → ValidOpening c (open_name n s)
  unfolding open_name
  open_name_valid n s h v = unless_keeps (ValidOpening c) _ _ s v (λ _. queue_valid (name n) _ h (record {
    owners = v.owners;
    names = all_snoc _ s.names n v.names h;
    several = v.several;
    handled = v.handled;
    fired = v.fired;
    waiting = v.waiting;
    drawn = v.drawn;
    added = v.added;
    named = v.named;
    tracked = v.tracked;
    line = v.line;
  }))

  pub open_names_valid : (rs : List ℕ) (s : Opening) → All (λ r. r < length c.ranges) rs → ValidOpening c s → ValidOpening c (open_names c rs s)
  unfolding open_names
  open_names_valid rs s h v = fold_keeps (ValidOpening c) _ _ (λ r u l. open_name_valid (range_name c r) u (w.ranges r l).name) rs h s v

  pub fire_valid : (q : ℕ) (is : List ℕ) (s : Opening) → q < length c.requirements → All (λ i. Entry c (q, i)) is → ValidOpening c s
      → ValidOpening c (fire c q is s)
  unfolding fire
  fire_valid q [] s h es v = v
  fire_valid q (i ∷ is) s h es v = queue_valid (requirement q (i ∷ is)) _ (h, es) (open_names_valid (ranges_of c q) s (ranges_of_given q h) v)

  serve_owner_valid : (o : Owner) (s : Opening) → ValidOpening c s → ValidOpening c (serve_owner c o s)
  unfolding serve_owner
  serve_owner_valid o s v =
      unless_keeps (ValidOpening c) _ _ s v
      (λ _. fold_keeps (ValidOpening c) _ queue queue_valid (tasks_of c o) (tasks_of_given o) _ (open_names_valid (ranges_first c o) s (ranges_first_given o) v))

  serve_name_valid : (n : ℕ) (s : Opening) → n < length c.names → ValidOpening c s → ValidOpening c (serve_name c n s)
  unfolding serve_name
  serve_name_valid n s h v = when_keeps (ValidOpening c) _ _ s v (record {
    owners = v.owners;
    names = v.names;
    several = all_snoc _ s.several n v.several h;
    handled = v.handled;
    fired = v.fired;
    waiting = v.waiting;
    drawn = v.drawn;
    added = v.added;
    named = v.named;
    tracked = v.tracked;
    line = v.line;
  })

  serve_condition_valid : (f : ℕ → Bool) (q : ℕ) (s : Opening) → TaskGiven c (condition q) → ValidOpening c s → ValidOpening c (serve_condition c f q s)
  unfolding serve_condition
  serve_condition_valid f q s h v =
      let es = indices_given q h.0 h.1 in
      fire_valid q _ _ h.0 (filter_all _ _ (indices c q) es) (record {
        owners = v.owners;
        names = v.names;
        several = v.several;
        handled = v.handled;
        fired = v.fired;
        waiting = all_append _ s.waiting _ v.waiting (all_map _ _ (filter _ (indices c q)) (filter_all _ _ (indices c q) es));
        drawn = v.drawn;
        added = v.added;
        named = v.named;
        tracked = v.tracked;
        line = v.line;
      })

  pub mark_handled_valid : (q : ℕ) (is : List ℕ) (s : Opening) → TaskGiven c (requirement q is) → ValidOpening c s → ValidOpening c (mark_handled q is s)
  unfolding mark_handled
  mark_handled_valid q is s h v = record {
    owners = v.owners;
    names = v.names;
    several = v.several;
    handled = all_snoc _ s.handled q v.handled h.0;
    fired = all_append _ s.fired _ v.fired (all_map _ _ is h.1);
    waiting = v.waiting;
    drawn = v.drawn;
    added = v.added;
    named = v.named;
    tracked = v.tracked;
    line = v.line;
  }

  pub naming_valid : (p : ℕ) (s : Opening) → p < length c.parts → ValidOpening c s → ValidOpening c (name_for_tracking c p s)
  unfolding name_for_tracking
  naming_valid p s h v = unless_keeps (ValidOpening c) _ _ s v (λ _. record {
    owners = v.owners;
    names = v.names;
    several = v.several;
    handled = v.handled;
    fired = v.fired;
    waiting = v.waiting;
    drawn = v.drawn;
    added = v.added;
    named = all_snoc _ s.named p v.named h;
    tracked = v.tracked;
    line = v.line;
  })

  pub ready_valid : (p : ℕ) (s : Opening) → p < length c.parts → ValidOpening c s → ValidOpening c (open_ready c p s)
  unfolding open_ready
  ready_valid p s h v = when_keeps (ValidOpening c) _ _ s v (open_owner_valid (part p) s h v)

  serve_requirement_valid : (q : ℕ) (is : List ℕ) (s : Opening) → TaskGiven c (requirement q is) → ValidOpening c s → ValidOpening c (serve_requirement c q is s)
  unfolding serve_requirement
  serve_requirement_valid q is s h v =
      let ps = candidates c (goal_at c q) in
      let given = candidates_given c (goal_at c q) in
      fold_keeps (ValidOpening c) _ (open_ready c) ready_valid ps given _
      (fold_keeps (ValidOpening c) _ (name_for_tracking c) naming_valid (ps ++ fired_parts c q is) (all_append _ ps _ given (fired_parts_given c q is)) _
      (mark_handled_valid q is s h v))

  pub serve_valid : (f : ℕ → Bool) (t : Task) (s : Opening) → TaskGiven c t → ValidOpening c s → ValidOpening c (serve c f t s)
  unfolding serve
  serve_valid f (owner o) s h v = serve_owner_valid o s v
  serve_valid f (name n) s h v = serve_name_valid n s h v
  serve_valid f (condition q) s h v = serve_condition_valid f q s h v
  serve_valid f (requirement q is) s h v = serve_requirement_valid q is s h v
  serve_valid f (constraint k) s h v = v

  -- ---- the sheet's part, and a run's two ends

  add_valid : (o : Owner) (s : Opening) → OwnerGiven c o → ValidOpening c s → ValidOpening c (add o s)
  unfolding add
  add_valid o s h v = record {
    owners = v.owners;
    names = v.names;
    several = v.several;
    handled = v.handled;
    fired = v.fired;
    waiting = v.waiting;
    drawn = v.drawn;
    added = unless_keeps (All (OwnerGiven c)) _ _ s.added v.added (λ _. all_snoc _ s.added o v.added h);
    named = v.named;
    tracked = v.tracked;
    line = v.line;
  }

  draw_valid : (f : ℕ → Bool) (k : ℕ) (s : Opening) → ValidOpening c s → ValidOpening c (draw c f k s)
  unfolding draw
  draw_valid f k s v = record {
    owners = v.owners;
    names = v.names;
    several = v.several;
    handled = v.handled;
    fired = v.fired;
    waiting = filter_all _ _ s.waiting v.waiting;
    drawn = all_append _ s.drawn _ v.drawn (filter_all _ _ s.waiting v.waiting);
    added = v.added;
    named = v.named;
    tracked = v.tracked;
    line = v.line;
  }

  pub begin_valid : (s : Opening) → ValidOpening c s → ValidOpening c (begin_run c s)
  unfolding begin_run
  begin_valid s v =
      let u : ValidOpening c (set_added [] (set_drawn [] s)) = record {
        owners = v.owners;
        names = v.names;
        several = v.several;
        handled = v.handled;
        fired = v.fired;
        waiting = v.waiting;
        drawn = tt;
        added = tt;
        named = v.named;
        tracked = v.tracked;
        line = v.line;
      } in
      fold_keeps (ValidOpening c) _ _ (λ e u h. fire_valid e.0 (e.1 ∷ []) u h.requirement (h, tt)) s.drawn v.drawn _
      (fold_keeps (ValidOpening c) _ open_owner open_owner_valid s.added v.added _ u)

  pub taken_valid : (s : Opening) → ValidOpening c s → ValidOpening c (set_line [] s)
  taken_valid s v = record {
    owners = v.owners;
    names = v.names;
    several = v.several;
    handled = v.handled;
    fired = v.fired;
    waiting = v.waiting;
    drawn = v.drawn;
    added = v.added;
    named = v.named;
    tracked = v.tracked;
    line = tt;
  }

  joining_given : (s : Opening) → ValidOpening c s → All (λ p. p < length c.parts) (joining c s)
  unfolding joining
  joining_given s v = filter_all _ _ _ (every_concat_map _ _ (λ n. filter_all _ _ s.named v.named) _)

  end_valid : (s : Opening) → ValidOpening c s → ValidOpening c (end_run c s)
  unfolding end_run
  end_valid s v = record {
    owners = v.owners;
    names = v.names;
    several = v.several;
    handled = v.handled;
    fired = v.fired;
    waiting = v.waiting;
    drawn = v.drawn;
    added = v.added;
    named = tt;
    tracked = all_append _ s.tracked _ v.tracked (joining_given s v);
    line = v.line;
  }

  -- ---- every point of a run

  pub point_valid : (r : Run) {ts₀ : List Task} {s₀ : State} → ValidPoint c ts₀ s₀ → {n : ℕ} {ts : List Task} {s : State} → After c r ts₀ s₀ n ts s
      → ValidPoint c ts s
  point_valid r v begins = v
  point_valid r v (serves {t = t} {ts = ts} {s = s} a) =
      let u = point_valid r v a in
      let o = serve_valid (decided_true s) t s.opening u.tasks.0 u.opening in
      let o : ValidOpening c (serve_task c r t s).opening = rw (serve_task_opening c r t s) o in
      record { opening = taken_valid _ o; tasks = all_append _ ts _ u.tasks.1 o.line; taken = refl }

  pub first_valid : (s : State) → ValidOpening c s.opening → ValidPoint c (first_line c s) (first_state c s)
  unfolding begun
  first_valid s v = let o = begin_valid s.opening v in record { opening = taken_valid _ o; tasks = o.line; taken = refl }

  run_valid : (level : ℕ) (s : State) → Valid c s → Valid c (run_once c level s)
  run_valid level s v =
      let r = run_from level s in
      let a = serve_line_after c r (most_tasks c s.opening) begins in
      rw (run_once_is c level s) (ended_valid r (point_valid r (first_valid s v.opening) a.2))
    where
      ended_valid : (r : Run) {ts : List Task} {u : State} → ValidPoint c ts u → Valid c (run_end c r u)
      ended_valid r {ts} {u} p =
          let e = run_end_opening_law c r u in
          unfold end_run in record {
            opening = rw e (end_valid u.opening p.opening);
            line_empty = ap (λ (o : Opening). o.line) e ∙ p.taken;
            named_empty = ap (λ (o : Opening). o.named) e;
          }

  -- ---- each record, and so every reached state

  command_valid : (l : Limits) (o : Command) (s : State) → Passed (command_refusals l c o s) → Valid c s → Valid c (carried_out l c o s)
  unfolding carried_out command_refusals tested add draw decide
  command_valid l (Command.add o) s p v =
      let u = add_valid (owner_of o) s.opening (owner_present c o (passes p 0)) v.opening in
      record { opening = u; line_empty = v.line_empty; named_empty = v.named_empty }
  command_valid l (Command.draw k) s p v =
      record { opening = draw_valid (decided_true s) k s.opening v.opening; line_empty = v.line_empty; named_empty = v.named_empty }
  command_valid l (Command.run level) s p v = run_valid level s v
  command_valid l (Command.decide x value level) s p v =
      when_keeps (Valid c) _ _ s v (record { opening = v.opening; line_empty = v.line_empty; named_empty = v.named_empty })
  command_valid l (Command.undo level) s p v = record { opening = v.opening; line_empty = v.line_empty; named_empty = v.named_empty }

start_valid : (c : Catalogue) → Valid c start
start_valid c =
    let o : ValidOpening c unopened = record {
      owners = tt;
      names = tt;
      several = tt;
      handled = tt;
      fired = tt;
      waiting = tt;
      drawn = tt;
      added = tt;
      named = tt;
      tracked = tt;
      line = tt;
    } in
    record { opening = o; line_empty = refl; named_empty = refl }

pub valid : {l : Limits} {c : Catalogue} {s : State} → Given c → Reached l c s → Valid c s
valid {c = c} g Reached.begun = start_valid c
valid {l} {c} g (command {s = s} r o p) = command_valid c (well_formed g) l o s p (valid g r)
