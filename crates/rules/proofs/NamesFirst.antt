-- 01, "A known owner's unconditional requirements and its constraints open their names first. A fired or drawn requirement opens its
-- names before it is handled": in the task line the names of a requirement's goal, and of a constraint's range, stand before it.
use mathlib.Core.Path.{◌≡◌, refl, ap}
use mathlib.Core.Logic.{⊎_elim}
use mathlib.Core.Bool.{Bool, true, false}
use mathlib.Core.List.Memᴰ
use mathlib.Core.List.{List, [], ◌∷◌, ◌++◌, append-nil, append_assoc}
use Prim.Native.Nat.{ℕ}
use borrow.Author.Tests.{eqb-true}
use Rattle.rules.specs.Lists.{snoc, fold}
use Rattle.rules.specs.Catalogue.{Owner, part, Catalogue, several_allowed, name_of, range_name, goal_at}
use Rattle.rules.specs.Candidates.{parts_of, matching, favoured_first, sorted, candidates, requirements_of}
use Rattle.rules.specs.Conditions.{unconditional}
use Rattle.rules.specs.Opening.{Task, owner, name, condition, requirement, constraint, Opening, set_line, unopened, queue, open_owner, open_name, mark_handled, add, open_names, ranges_of, ranges_first, task_by, tasks_of, serve_owner, serve_name, fire, serve_condition, name_for_tracking, open_ready, serve_requirement, serve, draw, begin_run, end_run}
use Rattle.rules.specs.Called.{◌∈◌, constraint_range}
use Rattle.rules.proofs.Membership.{◌⊆◌, in_left, in_right, at_end, in_either, before_or_end, filter_out, filter_within, elem_out, concat_map_out, when_keeps, unless_keeps, unless_either, fold_keeps, fold_gives}
use Rattle.rules.proofs.Books.{several_of}
use Rattle.rules.proofs.Booked.{Booked}
use Rattle.rules.proofs.OwnerTasks.{task_rule, requirement_first, constraint_first}

module _ (c : Catalogue) where
  -- what must stand before a task
  abbrev pub Ready : List Task → Task → Type 0
  Ready before (owner w) = Unit {0}
  Ready before (name n) = Unit {0}
  Ready before (condition q) = Unit {0}
  Ready before (requirement q is) = (r : ℕ) → r ∈ ranges_of c q → name (range_name c r) ∈ before
  Ready before (constraint k) = name (range_name c (constraint_range c k)) ∈ before

  -- a line, behind the tasks served before
  pub data NamesFirst : List Task → List Task → Type 0 where
    end : {before : List Task} → NamesFirst before []
    next : {before ts : List Task} {t : Task} → Ready before t → NamesFirst (before ++ (t ∷ [])) ts → NamesFirst before (t ∷ ts)

  ready_later : {before before' : List Task} → before ⊆ before' → (t : Task) → Ready before t → Ready before' t
  ready_later up (owner w) h = tt
  ready_later up (name n) h = tt
  ready_later up (condition q) h = tt
  ready_later up (requirement q is) h = λ r m. up _ (h r m)
  ready_later up (constraint k) h = up _ h

  behind : {before ts us : List Task} → NamesFirst before ts → NamesFirst (before ++ ts) us → NamesFirst before (ts ++ us)
  behind end l = rw append-nil at l
  behind {before} {us} (next {ts = ts} {t = t} h k) l = next h (behind {us = us} k (rw (append_assoc before (t ∷ []) ts) l))

  -- a line, the tasks before it, and the names opened
  pub record Lined (before : List Task) (names : List ℕ) (line : List Task) : Type 0 where
    pub in_order : NamesFirst before line
    pub queued : (n : ℕ) → n ∈ names → name n ∈ (before ++ line)

  -- ---- rules that queue; `before`: the tasks served and the line

  module _ (before : List Task) where
    abbrev Queues : Opening → Type 0
    Queues s = Lined before s.names s.line

    queue_lined : (t : Task) (s : Opening) → Ready (before ++ s.line) t → Queues s → Queues (queue t s)
    unfolding queue snoc
    queue_lined t s h l = record {
      in_order = behind l.in_order (next h end);
      queued = λ n m. rw (append_assoc before s.line (t ∷ [])) at (in_left (t ∷ []) (l.queued n m));
    }

    open_owner_lined : (w : Owner) (s : Opening) → Queues s → Queues (open_owner w s)
    unfolding open_owner
    open_owner_lined w s l = unless_keeps Queues _ _ s (queue_lined (owner w) _ tt) l

    open_name_lined : (n : ℕ) (s : Opening) → Queues s → Queues (open_name n s)
    unfolding open_name queue snoc
    open_name_lined n s l = unless_keeps Queues _ _ s opened l
      where
        opened : Queues s → Lined before (s.names ++ (n ∷ [])) (s.line ++ (name n ∷ []))
        opened l = record {
          in_order = behind l.in_order (next tt end);
          queued = λ m k. rw (append_assoc before s.line (name n ∷ [])) at (⊎_elim
              (λ i. in_left (name n ∷ []) (l.queued m i))
              (λ (e : m ≡ n). in_right (before ++ s.line) (Memᴰ.head (ap name e)))
              (before_or_end s.names k));
        }

    open_names_lined : (rs : List ℕ) (s : Opening) → Queues s → Queues (open_names c rs s)
    unfolding open_names
    open_names_lined rs s l = fold_keeps Queues _ rs (λ r m. open_name_lined (range_name c r)) s l

    queues_lined : (ts : List Task) (s : Opening) → ((t : Task) → t ∈ ts → Ready (before ++ s.line) t) → Queues s → Queues (fold queue ts s)
    unfolding queue snoc
    queues_lined ts s h l =
        (fold_keeps (λ (u : Opening). Queues u × ((t : Task) → t ∈ ts → Ready (before ++ u.line) t)) queue ts
        (λ t m u p. (queue_lined t u (p.1 t m) p.0, λ v k. later u t v (p.1 v k))) s (l, h)).0
      where
        later : (u : Opening) (t v : Task) → Ready (before ++ u.line) v → Ready (before ++ (u.line ++ (t ∷ []))) v
        later u t v r = ready_later (λ x m. rw (append_assoc before u.line (t ∷ [])) at (in_left (t ∷ []) m)) v r

  -- ---- names are opened

  open_name_opens : (n : ℕ) (s : Opening) → n ∈ (open_name n s).names
  unfolding open_name queue snoc
  open_name_opens n s = unless_either (λ (u : Opening). n ∈ u.names) _ _ s (λ e. elem_out n s.names e) (λ e. at_end s.names n)

  open_name_still : (m n : ℕ) (s : Opening) → n ∈ s.names → n ∈ (open_name m s).names
  unfolding open_name queue snoc
  open_name_still m n s k = unless_keeps (λ (u : Opening). n ∈ u.names) _ _ s (λ i. in_left _ i) k

  pub open_names_opens : (rs : List ℕ) (s : Opening) {r : ℕ} → r ∈ rs → range_name c r ∈ (open_names c rs s).names
  unfolding open_names
  open_names_opens rs s {r} m =
      fold_gives (λ (u : Opening). range_name c r ∈ u.names) _ rs m (open_name_opens (range_name c r)) (λ q. open_name_still (range_name c q) (range_name c r)) s

  module _ (before : List Task) where
    fire_lined : (q : ℕ) (is : List ℕ) (s : Opening) → Queues before s → Queues before (fire c q is s)
    unfolding fire
    fire_lined q [] s l = l
    fire_lined q (i ∷ is) s l =
        let l₁ = open_names_lined before (ranges_of c q) s l in
        queue_lined before (requirement q (i ∷ is)) _ (λ r m. l₁.queued _ (open_names_opens (ranges_of c q) s m)) l₁

    owner_lined : (w : Owner) (s : Opening) → Queues before s → Queues before (serve_owner c w s)
    unfolding serve_owner
    owner_lined w s l =
        unless_keeps (Queues before) _ _ s
        (λ l. let s₁ = open_names c (ranges_first c w) s in
        let l₁ = open_names_lined before (ranges_first c w) s l in
        let first : (r : ℕ) → r ∈ ranges_first c w → name (range_name c r) ∈ (before ++ s₁.line) =
        λ r m. l₁.queued _ (open_names_opens (ranges_first c w) s m) in
        queues_lined before (tasks_of c w) s₁
        (task_rule c w (Ready (before ++ s₁.line)) (λ q m. ready m (unconditional c q) refl first) (λ k m. first _ (constraint_first c w m))) l₁) l
      where
        ready : {q : ℕ} {ts : List Task} → q ∈ requirements_of c w → (b : Bool) → unconditional c q ≡ b
            → ((r : ℕ) → r ∈ ranges_first c w → name (range_name c r) ∈ ts) → Ready ts (task_by c b q)
        ready m true e first = unfold task_by in λ r k. first r (requirement_first c w m e k)
        ready m false e first = unfold task_by in tt

    serve_lined : (f : ℕ → Bool) (t : Task) (s : Opening) → Queues before s → Queues before (serve c f t s)
    unfolding serve serve_name serve_condition serve_requirement mark_handled name_for_tracking open_ready
    serve_lined f (owner w) s l = owner_lined w s l
    serve_lined f (name n) s l = when_keeps (Queues before) _ _ s (λ l. l) l
    serve_lined f (condition q) s l = fire_lined q _ _ l
    serve_lined f (requirement q is) s l =
        fold_keeps (Queues before) _ _ (λ p m s. when_keeps (Queues before) _ _ s (open_owner_lined before (part p) s)) _
        (fold_keeps (Queues before) _ _ (λ p m s. unless_keeps (Queues before) _ _ s (λ l. l)) _ l)
    serve_lined f (constraint k) s l = l

  -- ---- the line of a run

  abbrev pub InOrder : List Task → List Task → Opening → Type 0
  InOrder log ts o = Lined log o.names ts

  pub start_in_order : InOrder [] [] unopened
  start_in_order = record { in_order = end; queued = λ n m. absurd (Memᴰ.not-nil m) }

  pub serve_in_order : (f : ℕ → Bool) {log ts : List Task} {t : Task} (o : Opening) → InOrder log (t ∷ ts) o → o.line ≡ []
      → InOrder (log ++ (t ∷ [])) (ts ++ (serve c f t o).line) (set_line [] (serve c f t o))
  serve_in_order f {log} {ts} {t} o l e = go l.in_order
    where
      go : NamesFirst log (t ∷ ts) → InOrder (log ++ (t ∷ [])) (ts ++ (serve c f t o).line) (set_line [] (serve c f t o))
      go (next h k) =
          let start : Queues ((log ++ (t ∷ [])) ++ ts) o =
          rw e (record { in_order = end; queued = λ n m. rw (append-nil, append_assoc log (t ∷ []) ts) (l.queued n m) }) in
          let l₁ = serve_lined ((log ++ (t ∷ [])) ++ ts) f t o start in
          record { in_order = behind k l₁.in_order; queued = λ n m. rw (append_assoc (log ++ (t ∷ [])) ts (serve c f t o).line) at (l₁.queued n m) }

  pub begin_in_order : {log : List Task} (o : Opening) → InOrder log [] o → o.line ≡ [] → InOrder log (begin_run c o).line (set_line [] (begin_run c o))
  unfolding begin_run
  begin_in_order {log} o l e =
      fold_keeps (Queues log) _ o.drawn (λ d m. fire_lined log d.0 _) _
      (fold_keeps (Queues log) open_owner o.added (λ w m. open_owner_lined log w) _ (rw e l))

  pub end_in_order : {log ts : List Task} (o : Opening) → InOrder log ts o → InOrder log ts (end_run c o)
  unfolding end_run
  end_in_order o l = l

  pub add_in_order : (w : Owner) {log ts : List Task} (o : Opening) → InOrder log ts o → InOrder log ts (add w o)
  unfolding add
  add_in_order w o l = l

  pub draw_in_order : (f : ℕ → Bool) (k : ℕ) {log ts : List Task} (o : Opening) → InOrder log ts o → InOrder log ts (draw c f k o)
  unfolding draw
  draw_in_order f k o l = l

  -- when a task's turn comes, the names that it needs are served
  pub names_served : {log ts : List Task} {t : Task} (o : Opening) → InOrder log (t ∷ ts) o → Ready log t
  names_served {log} {ts} {t} o l = go l.in_order
    where
      go : NamesFirst log (t ∷ ts) → Ready log t
      go (next h k) = h

  -- ---- a candidate of a name that allows several

  sorted_name : (r : ℕ) {p : ℕ} → p ∈ sorted c r → name_of c p ≡ range_name c r
  unfolding sorted favoured_first matching parts_of
  sorted_name r {p} m = matching_name (⊎_elim (filter_within _ (matching c r) p) (filter_within _ (matching c r) p) (in_either _ m))
    where
      matching_name : p ∈ matching c r → name_of c p ≡ range_name c r
      matching_name m = eqb-true (name_of c p) (range_name c r) (filter_out _ _ (filter_within _ _ p m)).1

  candidate_name : (q : ℕ) {p : ℕ} → p ∈ candidates c (goal_at c q) → (r : ℕ) × (r ∈ ranges_of c q) × (name_of c p ≡ range_name c r)
  unfolding candidates
  candidate_name q m = let x = concat_map_out (sorted c) (ranges_of c q) m in (x.0, x.1, sorted_name x.0 x.2)

  -- it is known as such when the requirement is served, and so it is not named for tracking
  pub several_known : {log ts : List Task} {q : ℕ} {is : List ℕ} {o : Opening} → Booked c log (requirement q is ∷ ts) o → InOrder log (requirement q is ∷ ts) o
      → (p : ℕ) → p ∈ candidates c (goal_at c q) → several_allowed c (name_of c p) ≡ true → name_of c p ∈ o.several
  several_known {q} {o} b l p m e =
      let x = candidate_name q m in
      rw x.2 (several_of c b.books _ (names_served o l x.0 x.1) (rw x.2 at e))
