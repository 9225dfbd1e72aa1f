-- No owner is opened or added twice, no name is opened twice, and none is served twice: so the lists of an opening are without repeats, between two
-- records and at every point of a run.
use mathlib.Core.Path.{◌≡◌, refl, sym, ◌∙◌, ap}
use mathlib.Core.Logic.{⊎_elim}
use mathlib.Core.Bool.{Bool, true, false, true≢false}
use mathlib.Core.List.Memᴰ
use mathlib.Core.List.{List, [], ◌∷◌, ◌++◌, map, append-nil, append_assoc}
use Prim.Native.Nat.{ℕ}
use Rattle.rules.specs.Lists.{any, snoc, concat_map}
use Rattle.rules.specs.Catalogue.{Owner, part, Catalogue, range_name, goal_at, same_owner, empty_catalogue}
use Rattle.rules.specs.Candidates.{candidates, requirements_of, constraints_of}
use Rattle.rules.specs.Records.{Command}
use Rattle.rules.specs.Items.{owner_of}
use Rattle.rules.specs.Opening.{Task, owner, name, condition, requirement, constraint, Opening, unopened, set_owners, set_names, set_line}
use Rattle.rules.specs.Opening.{queue, open_owner, open_name, mark_handled, add, open_names, ranges_of, ranges_first, task_by, tasks_of, serve_owner, serve_name, fire, serve_condition}
use Rattle.rules.specs.Opening.{fired_parts, name_for_tracking, open_ready, serve_requirement, serve, draw, begin_run, end_run}
use Rattle.rules.specs.Conditions.{unconditional}
use Rattle.rules.specs.State.{State, decided_true, Run}
use Rattle.rules.specs.Run.{serve_task, begun, run_once}
use Rattle.rules.specs.Limits.{Limits}
use Rattle.rules.specs.Sheet.{decide, carried_out}
use Rattle.rules.specs.Called.{◌∈◌}
use Rattle.rules.proofs.Membership.{◌⊆◌, in_left, in_right, in_either, any_in, not_elem, map_out, when_either, unless_either, fold_keeps, Once, empty, once, once_snoc}
use Rattle.rules.proofs.Reached.{Given, Reached, command}
use Rattle.rules.proofs.Line.{serve_task_opening, After, begins, serves, served_after, first_line, first_state, run_from, run_end_opening_law, run_once_is}
use Rattle.rules.proofs.Ends.{owner_self, ends}

-- ---- the names that are in a line of tasks, and so still to be served

unfoldable pub name_in : Task → List ℕ
name_in (owner w) = []
name_in (name n) = n ∷ []
name_in (condition q) = []
name_in (requirement q is) = []
name_in (constraint k) = []

unfoldable pub names_in : List Task → List ℕ
names_in ts = concat_map name_in ts

names_in_snoc : (ts us : List Task) (t : Task) → names_in (ts ++ snoc us t) ≡ names_in (ts ++ us) ++ name_in t
unfolding names_in concat_map snoc
names_in_snoc [] [] t = append-nil (name_in t)
names_in_snoc [] (u ∷ us) t = rw (names_in_snoc [] us t) (sym (append_assoc (name_in u) (names_in us) (name_in t)))
names_in_snoc (u ∷ ts) us t = rw (names_in_snoc ts us t) (sym (append_assoc (name_in u) (names_in (ts ++ us)) (name_in t)))

-- the names served with several allowed, then those to be served: in the line `ts`, or queued behind it
abbrev pub served_or_due : List Task → Opening → List ℕ
served_or_due ts o = o.several ++ names_in (ts ++ o.line)

queued_due : (t : Task) (ts : List Task) (o : Opening) → served_or_due ts (queue t o) ≡ served_or_due ts o ++ name_in t
unfolding queue
queued_due t ts o = rw (names_in_snoc ts o.line t) (sym (append_assoc o.several (names_in (ts ++ o.line)) (name_in t)))

pub record Unrepeated (ts : List Task) (o : Opening) : Type 0 where
  pub owners : Once o.owners
  pub names : Once o.names
  pub added : Once o.added
  pub due : Once (served_or_due ts o)
  pub opened : served_or_due ts o ⊆ o.names

-- ---- each rule keeps it

not_opened : (w : Owner) (ws : List Owner) → any (same_owner w) ws ≡ false → w ∈ ws → ⊥
not_opened w ws e m = true≢false (sym (any_in (same_owner w) ws m (owner_self empty_catalogue w)) ∙ e)

module _ (ts : List Task) where
  -- a task that is no name's
  pub queue_unrepeated : (t : Task) → name_in t ≡ [] → (o : Opening) → Unrepeated ts o → Unrepeated ts (queue t o)
  queue_unrepeated t e o p =
      let same : served_or_due ts (queue t o) ≡ served_or_due ts o = queued_due t ts o ∙ (ap (λ ns. served_or_due ts o ++ ns) e ∙ append-nil (served_or_due ts o)) in
      record {
        owners = unfold queue in p.owners;
        names = unfold queue in p.names;
        added = unfold queue in p.added;
        due = rw same p.due;
        opened = rw same (unfold queue in p.opened);
      }

  pub open_owner_unrepeated : (w : Owner) (o : Opening) → Unrepeated ts o → Unrepeated ts (open_owner w o)
  unfolding open_owner name_in
  open_owner_unrepeated w o p =
      unless_either (Unrepeated ts) _ _ o (λ e. p)
      (λ e. queue_unrepeated (owner w) refl (set_owners (snoc o.owners w) o)
      (record { owners = once_snoc p.owners (not_opened w o.owners e); names = p.names; added = p.added; due = p.due; opened = p.opened }))

  pub open_name_unrepeated : (n : ℕ) (o : Opening) → Unrepeated ts o → Unrepeated ts (open_name n o)
  unfolding open_name
  open_name_unrepeated n o p = unless_either (Unrepeated ts) _ _ o (λ e. p) (λ e. new (not_elem n o.names e))
    where
      new : (n ∈ o.names → ⊥) → Unrepeated ts (queue (name n) (set_names (snoc o.names n) o))
      new apart =
          let same : served_or_due ts (queue (name n) (set_names (snoc o.names n) o)) ≡ served_or_due ts o ++ (n ∷ []) =
          unfold name_in in queued_due (name n) ts (set_names (snoc o.names n) o) in
          record {
            owners = unfold queue in p.owners;
            names = unfold queue in once_snoc p.names apart;
            added = unfold queue in p.added;
            due = rw same (unfold snoc in once_snoc p.due (λ m. apart (p.opened n m)));
            opened = rw same (unfold queue snoc in λ x m. ⊎_elim (λ k. in_left (n ∷ []) (p.opened x k)) (λ k. in_right o.names k) (in_either (served_or_due ts o) m));
          }

  -- a step that leaves these lists alone
  pub naming_unrepeated : (c : Catalogue) (p : ℕ) (o : Opening) → Unrepeated ts o → Unrepeated ts (name_for_tracking c p o)
  unfolding name_for_tracking
  naming_unrepeated c p o h =
      unless_either (Unrepeated ts) _ _ o (λ e. h) (λ e. record { owners = h.owners; names = h.names; added = h.added; due = h.due; opened = h.opened })

  module _ (c : Catalogue) where
    pub ready_unrepeated : (p : ℕ) (o : Opening) → Unrepeated ts o → Unrepeated ts (open_ready c p o)
    unfolding open_ready
    ready_unrepeated p o h = when_either (Unrepeated ts) _ _ o (λ e. open_owner_unrepeated (part p) o h) (λ e. h)

    pub open_names_unrepeated : (rs : List ℕ) (o : Opening) → Unrepeated ts o → Unrepeated ts (open_names c rs o)
    unfolding open_names
    open_names_unrepeated rs o h = fold_keeps (Unrepeated ts) _ rs (λ r m. open_name_unrepeated (range_name c r)) o h

    pub fire_unrepeated : (q : ℕ) (is : List ℕ) (o : Opening) → Unrepeated ts o → Unrepeated ts (fire c q is o)
    unfolding fire name_in
    fire_unrepeated q [] o h = h
    fire_unrepeated q (i ∷ is) o h = queue_unrepeated (requirement q (i ∷ is)) refl _ (open_names_unrepeated (ranges_of c q) o h)

    unconditional_unnamed : (b : Bool) (q : ℕ) → name_in (task_by c b q) ≡ []
    unfolding task_by name_in
    unconditional_unnamed true q = refl
    unconditional_unnamed false q = refl

    constraint_unnamed : (k : ℕ) → name_in (constraint k) ≡ []
    unfolding name_in
    constraint_unnamed k = refl

    own_tasks : (w : Owner) (t : Task) → t ∈ tasks_of c w → name_in t ≡ []
    unfolding tasks_of
    own_tasks w t m =
        ⊎_elim (λ k. let x = map_out _ (requirements_of c w) k in rw x.2 (unconditional_unnamed (unconditional c x.0) x.0))
        (λ k. let x = map_out constraint (constraints_of c w) k in rw x.2 (constraint_unnamed x.0)) (in_either (map _ (requirements_of c w)) m)

    owner_unrepeated : (w : Owner) (o : Opening) → Unrepeated ts o → Unrepeated ts (serve_owner c w o)
    unfolding serve_owner
    owner_unrepeated w o h =
        unless_either (Unrepeated ts) _ _ o (λ e. h)
        (λ e. fold_keeps (Unrepeated ts) queue (tasks_of c w) (λ t m. queue_unrepeated t (own_tasks w t m)) _ (open_names_unrepeated (ranges_first c w) o h))

    requirement_unrepeated : (q : ℕ) (is : List ℕ) (o : Opening) → Unrepeated ts o → Unrepeated ts (serve_requirement c q is o)
    unfolding serve_requirement mark_handled
    requirement_unrepeated q is o h =
        let ps = candidates c (goal_at c q) in
        fold_keeps (Unrepeated ts) (open_ready c) ps (λ p m. ready_unrepeated p) _
        (fold_keeps (Unrepeated ts) (name_for_tracking c) (ps ++ fired_parts c q is) (λ p m. naming_unrepeated c p) _
        (record { owners = h.owners; names = h.names; added = h.added; due = h.due; opened = h.opened }))

not_name : (t : Task) (ts : List Task) (o : Opening) → name_in t ≡ [] → Unrepeated (t ∷ ts) o → Unrepeated ts o
not_name t ts o e h =
    let same : served_or_due (t ∷ ts) o ≡ served_or_due ts o = unfold names_in concat_map in ap (λ ns. o.several ++ (ns ++ names_in (ts ++ o.line))) e in
    record { owners = h.owners; names = h.names; added = h.added; due = rw same at h.due; opened = rw same at h.opened }

once_without : {A : Type 0} (xs : List A) (y : A) (ys : List A) → Once (xs ++ (y ∷ ys)) → Once (xs ++ ys)
once_without [] y ys (once n p) = p
once_without (x ∷ xs) y ys (once n p) =
    once (λ m. n (⊎_elim (in_left (y ∷ ys)) (λ k. in_right xs (Memᴰ.tail k)) (in_either xs m))) (once_without xs y ys p)

module _ (c : Catalogue) where
  -- a name that is served goes from those due to those served, or is due no more
  serve_name_unrepeated : (n : ℕ) (ts : List Task) (o : Opening) → Unrepeated (name n ∷ ts) o → Unrepeated ts (serve_name c n o)
  unfolding serve_name names_in concat_map name_in
  serve_name_unrepeated n ts o h =
      when_either (Unrepeated ts) _ _ o
      (λ e. record { owners = h.owners; names = h.names; added = h.added; due = rw moved h.due; opened = rw moved h.opened })
      (λ e. record {
        owners = h.owners;
        names = h.names;
        added = h.added;
        due = once_without o.several n (names_in (ts ++ o.line)) h.due;
        opened = λ x m. h.opened x (⊎_elim (in_left _) (λ k. in_right o.several (Memᴰ.tail k)) (in_either o.several m));
      })
    where
      moved : snoc o.several n ++ names_in (ts ++ o.line) ≡ o.several ++ (n ∷ names_in (ts ++ o.line))
      moved = unfold snoc in append_assoc o.several (n ∷ []) (names_in (ts ++ o.line))

  -- the line's first task is served
  pub serve_unrepeated : (f : ℕ → Bool) (t : Task) (ts : List Task) (o : Opening) → Unrepeated (t ∷ ts) o → Unrepeated ts (serve c f t o)
  unfolding serve serve_condition
  serve_unrepeated f (owner w) ts o h = owner_unrepeated ts c w o (not_name (owner w) ts o (unfold name_in in refl) h)
  serve_unrepeated f (name n) ts o h = serve_name_unrepeated n ts o h
  serve_unrepeated f (condition q) ts o h =
      let p = not_name (condition q) ts o (unfold name_in in refl) h in
      fire_unrepeated ts c q _ _ (record { owners = p.owners; names = p.names; added = p.added; due = p.due; opened = p.opened })
  serve_unrepeated f (requirement q is) ts o h = requirement_unrepeated ts c q is o (not_name (requirement q is) ts o (unfold name_in in refl) h)
  serve_unrepeated f (constraint k) ts o h = not_name (constraint k) ts o (unfold name_in in refl) h

  -- what was queued goes into the line
  pub taken_unrepeated : (ts : List Task) (o : Opening) → Unrepeated ts o → Unrepeated (ts ++ o.line) (set_line [] o)
  taken_unrepeated ts o h =
      let same : served_or_due (ts ++ o.line) (set_line [] o) ≡ served_or_due ts o = ap (λ us. o.several ++ names_in us) (append-nil (ts ++ o.line)) in
      record { owners = h.owners; names = h.names; added = h.added; due = rw same h.due; opened = rw same h.opened }

  pub begin_unrepeated : (ts : List Task) (o : Opening) → Unrepeated ts o → Unrepeated ts (begin_run c o)
  unfolding begin_run
  begin_unrepeated ts o h =
      fold_keeps (Unrepeated ts) _ o.drawn (λ e m. fire_unrepeated ts c e.0 (e.1 ∷ [])) _
      (fold_keeps (Unrepeated ts) open_owner o.added (λ w m. open_owner_unrepeated ts w) _
      (record { owners = h.owners; names = h.names; added = empty; due = h.due; opened = h.opened }))

  end_unrepeated : (ts : List Task) (o : Opening) → Unrepeated ts o → Unrepeated ts (end_run c o)
  unfolding end_run
  end_unrepeated ts o h = record { owners = h.owners; names = h.names; added = h.added; due = h.due; opened = h.opened }

  draw_unrepeated : (f : ℕ → Bool) (k : ℕ) (ts : List Task) (o : Opening) → Unrepeated ts o → Unrepeated ts (draw c f k o)
  unfolding draw
  draw_unrepeated f k ts o h = record { owners = h.owners; names = h.names; added = h.added; due = h.due; opened = h.opened }

  -- ---- every point of a run

  pub point_unrepeated : (r : Run) {ts₀ : List Task} {s₀ : State} → Unrepeated ts₀ s₀.opening → {n : ℕ} {ts : List Task} {s : State} → After c r ts₀ s₀ n ts s
      → Unrepeated ts s.opening
  point_unrepeated r h begins = h
  point_unrepeated r h (serves {t = t} {ts = ts} {s = s} a) =
      let u : Unrepeated ts (serve_task c r t s).opening =
      rw (serve_task_opening c r t s) (serve_unrepeated (decided_true s) t ts s.opening (point_unrepeated r h a)) in
      taken_unrepeated ts _ u

  pub first_unrepeated : (s : State) → Unrepeated [] s.opening → Unrepeated (first_line c s) (first_state c s).opening
  unfolding begun
  first_unrepeated s h = taken_unrepeated [] _ (begin_unrepeated [] s.opening h)

add_unrepeated : (w : Owner) (ts : List Task) (o : Opening) → Unrepeated ts o → Unrepeated ts (add w o)
unfolding add
add_unrepeated w ts o h = record {
  owners = h.owners;
  names = h.names;
  added = unless_either Once _ _ o.added (λ e. h.added) (λ e. once_snoc h.added (not_opened w o.added e));
  due = h.due;
  opened = h.opened;
}

start_unrepeated : Unrepeated [] unopened
unfolding names_in concat_map
start_unrepeated = record { owners = empty; names = empty; added = empty; due = empty; opened = λ x m. absurd (Memᴰ.not-nil m) }

-- ---- every reached state, and every point of a run from one

module _ {l : Limits} {c : Catalogue} (g : Given c) where
  run_unrepeated : (level : ℕ) {s : State} → Reached l c s → Unrepeated [] s.opening → Unrepeated [] (run_once c level s).opening
  run_unrepeated level {s} r h =
      let run = run_from level s in
      let a = served_after c run begins (ends g r run).served in
      rw (run_once_is c level s, run_end_opening_law c run _) (end_unrepeated c [] _ (point_unrepeated c run (first_unrepeated c s h) a))

  pub unrepeated : {s : State} → Reached l c s → Unrepeated [] s.opening
  unfolding carried_out decide
  unrepeated Reached.begun = start_unrepeated
  unrepeated (command {s = s} r (Command.add o) p) = add_unrepeated (owner_of o) [] s.opening (unrepeated r)
  unrepeated (command {s = s} r (Command.draw k) p) = draw_unrepeated c (decided_true s) k [] s.opening (unrepeated r)
  unrepeated (command r (Command.run level) p) = run_unrepeated level r (unrepeated r)
  unrepeated (command {s = s} r (Command.decide x value level) p) =
      let h = unrepeated r in
      when_either (λ (u : State). Unrepeated [] u.opening) _ _ s (λ e. h) (λ e. h)
  unrepeated (command r (Command.undo level) p) = unrepeated r

  pub unrepeated_at : {s : State} → Reached l c s → (r : Run) {n : ℕ} {ts : List Task} {u : State} → After c r (first_line c s) (first_state c s) n ts u
      → Unrepeated ts u.opening
  unrepeated_at {s} h r a = point_unrepeated c r (first_unrepeated c s (unrepeated h)) a
