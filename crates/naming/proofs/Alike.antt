-- Alike states stay alike: no task asks which parts the run has named but to name another, and at the run's end the same parts join.
use mathlib.Core.Path.{◌≡◌, refl, sym, ◌∙◌, ap, fun_ext}
use mathlib.Core.Bool.{Bool, true, false, not, ◌&&◌, ◌||◌, cond}
use mathlib.Core.List.{List, [], ◌∷◌, ◌++◌, map, append-nil}
use Prim.Native.Nat.{ℕ}
use lib.Dec.{eqb}
use Rattle.rules.specs.Lists.{filter, elem, snoc, fold, unless, concat_map, distinct}
use Rattle.rules.specs.Catalogue.{Owner, part, Catalogue, name_of, range_name, goal_at}
use Rattle.rules.specs.Candidates.{candidates}
use Rattle.rules.specs.Opening.{Task, owner, name, condition, requirement, constraint, Opening, set_named, joining, end_run}
use Rattle.rules.specs.Opening.{queue, open_owner, open_name, mark_handled, open_names, ranges_of, ranges_first, tasks_of, serve_owner, serve_name, fire, serve_condition}
use Rattle.rules.specs.Opening.{fired_parts, name_for_tracking, open_ready, serve_requirement, serve}
use Rattle.rules.specs.Variables.{Origin}
use Rattle.rules.specs.Encoding.{Event, served}
use Rattle.rules.specs.Clause.{Clause}
use Rattle.rules.specs.State.{State, set_opening, decided_true, Run, emit}
use Rattle.rules.specs.Run.{serve_task, join_all}
use Rattle.rules.specs.Limits.{above}
use Rattle.rules.proofs.Bools.{by_cases}
use Rattle.rules.proofs.ListLaws.{map_snoc}
use Rattle.rules.proofs.MemberLaws.{filter_append, filter_pass, filter_stop, filter_both}
use Rattle.rules.proofs.Membership.{filter_in, filter_out, elem_in, elem_out, elem_not, not_elem, map_in, when_either, unless_either, distinct_in}
use Rattle.rules.proofs.DistinctEnough.{passed_over}
use Rattle.rules.proofs.Grows.{serve_waits}
use Rattle.rules.proofs.Capped.{add_variable}
use Rattle.rules.proofs.ClauseByClause.{add_clause, effect_changed, effects_changed}
use Rattle.rules.proofs.Forgotten.{when_commutes, unless_commutes, fold_commutes}
use Rattle.index.proofs.Unions.{distinct_snoc}
use Rattle.state.specs.declared.Limits.{Limits}
use Rattle.encoder.specs.Did.{on_opening, beyond}
use Rattle.naming.specs.Alike.{names_in, untracked, Alike, AlikeIn}

-- ---- openings

module _ {c : Catalogue} where
  pub alike_same : {o : Opening} → Alike c o o
  alike_same = record { rest = refl; names = refl; joining = refl }

  pub tracked_same : {o o' : Opening} → Alike c o o' → o'.tracked ≡ o.tracked
  tracked_same p = ap (λ (x : Opening). x.tracked) p.rest

  pub alike_then : {o o' o'' : Opening} → Alike c o o' → Alike c o' o'' → Alike c o o''
  alike_then {o'' = o''} p q =
      record {
        rest = q.rest ∙ ap (set_named o''.named) p.rest;
        names = q.names ∙ p.names;
        joining = rw (tracked_same p) at q.joining ∙ p.joining;
      }

  pub alike_fold : {A : Type 0} (f : A → Opening → Opening) → ((x : A) (o o' : Opening) → Alike c o o' → Alike c (f x o) (f x o'))
      → (xs : List A) {o o' : Opening} → Alike c o o' → Alike c (fold f xs o) (fold f xs o')
  unfolding fold
  alike_fold f h [] p = p
  alike_fold f h (x ∷ xs) {o} {o'} p = alike_fold f h xs (h x o o' p)

-- a step that neither asks nor changes what is named or tracked
module _ (f : Opening → Opening) (h : (x : List ℕ) (o : Opening) → f (set_named x o) ≡ set_named x (f o)) (k : (o : Opening) → (f o).tracked ≡ o.tracked) where
  named_kept : (o : Opening) → (f o).named ≡ o.named
  named_kept o = ap (λ (x : Opening). x.named) (h o.named o)

  pub alike_step : {c : Catalogue} {o o' : Opening} → Alike c o o' → Alike c (f o) (f o')
  alike_step {o = o} {o' = o'} p =
      record {
        rest = ap f p.rest ∙ (h o'.named o ∙ ap (λ x. set_named x (f o)) (sym (named_kept o')));
        names = rw (named_kept o', named_kept o) p.names;
        joining = rw (k o, named_kept o', named_kept o) p.joining;
      }

-- ---- a part is named for tracking

-- one number more, unless it is there
abbrev pub see : ℕ → List ℕ → List ℕ
see x seen = cond (elem x seen) seen (snoc seen x)

-- it writes `named`
pub tracking_is : (c : Catalogue) (p : ℕ) (o : Opening) → name_for_tracking c p o ≡ set_named (unless (passed_over c p o) (λ ps. snoc ps p) o.named) o
unfolding name_for_tracking
tracking_is c p o = go (passed_over c p o)
  where
    go : (b : Bool) → unless b (λ (u : Opening). set_named (snoc u.named p) u) o ≡ set_named (unless b (λ ps. snoc ps p) o.named) o
    go true = unfold unless in refl
    go false = unfold unless in refl

module _ (c : Catalogue) (p : ℕ) where
  -- what is named then, `several`: its name was served with several allowed
  abbrev pub added : Bool → List ℕ → List ℕ
  added several ps = unless (several || elem p ps) (λ qs. snoc qs p) ps

  pub names_added : (ps : List ℕ) → names_in c (added false ps) ≡ see (name_of c p) (names_in c ps)
  unfolding names_in
  names_added ps =
      by_cases (elem p ps)
      (λ e. rw (e, elem_in (distinct (map (name_of c) ps)) (distinct_in (map (name_of c) ps) (name_of c p) (map_in (name_of c) (elem_out p ps e)))) (unfold unless in refl))
      (λ e. rw e (unfold unless in rw (map_snoc (name_of c) ps p) (distinct_snoc (map (name_of c) ps) (name_of c p))))

  module _ (ts : List ℕ) where
    end_tracked : (ps : List ℕ) → elem p ts ≡ true → untracked ts (snoc ps p) ≡ untracked ts ps
    unfolding untracked snoc
    end_tracked ps e = rw (filter_append (λ x. not (elem x ts)) ps (p ∷ []), filter_stop (λ x. not (elem x ts)) p (rw e)) (append-nil _)

    end_untracked : (ps : List ℕ) → elem p ts ≡ false → untracked ts (snoc ps p) ≡ snoc (untracked ts ps) p
    unfolding untracked snoc
    end_untracked ps e = rw (filter_append (λ x. not (elem x ts)) ps (p ∷ []), filter_pass (λ x. not (elem x ts)) p (rw e))

    pub there : (ps : List ℕ) → elem p ts ≡ false → elem p ps ≡ true → elem p (untracked ts ps) ≡ true
    unfolding untracked
    there ps e h = elem_in _ (filter_in (λ x. not (elem x ts)) ps (elem_out p ps h) (rw e))

    not_there : (ps : List ℕ) → elem p ps ≡ false → elem p (untracked ts ps) ≡ false
    unfolding untracked
    not_there ps h = elem_not p _ (λ m. not_elem p ps h (filter_out (λ x. not (elem x ts)) ps m).0)

    pub untracked_added : (ps : List ℕ) → untracked ts (added false ps) ≡ cond (elem p ts) (untracked ts ps) (see p (untracked ts ps))
    untracked_added ps =
        by_cases (elem p ts)
        (λ e. by_cases (elem p ps) (λ h. rw (e, h) (unfold unless in refl)) (λ h. rw (e, h) (unfold unless in end_tracked ps e)))
        (λ e. by_cases (elem p ps) (λ h. rw (e, there ps e h, h) (unfold unless in refl)) (λ h. rw (e, not_there ps h, h) (unfold unless in end_untracked ps e)))

  pub tracking_alike : {o o' : Opening} → Alike c o o' → Alike c (name_for_tracking c p o) (name_for_tracking c p o')
  tracking_alike {o} {o'} a = rw (tracking_is c p o, tracking_is c p o', a.rest) (go (elem (name_of c p) o.several) o'.named a.names a.joining)
    where
      go : (b : Bool) (x : List ℕ) → names_in c x ≡ names_in c o.named → untracked o.tracked x ≡ untracked o.tracked o.named
          → Alike c (set_named (added b o.named) o) (set_named (added b x) o)
      go true x e h = unfold unless in record { rest = refl; names = e; joining = h }
      go false x e h =
          record {
            rest = refl;
            names = rw (names_added x, names_added o.named, e);
            joining = rw (untracked_added o.tracked x, untracked_added o.tracked o.named, h);
          }

-- ---- a task that is served

module _ (x : List ℕ) where
  abbrev naming : Opening → Opening
  naming o = set_named x o

  queue_naming : (t : Task) (o : Opening) → queue t (naming o) ≡ naming (queue t o)
  unfolding queue
  queue_naming t o = refl

  open_owner_naming : (w : Owner) (o : Opening) → open_owner w (naming o) ≡ naming (open_owner w o)
  unfolding open_owner queue
  open_owner_naming w o = unless_commutes naming _ _ (λ u. refl) o

  open_name_naming : (n : ℕ) (o : Opening) → open_name n (naming o) ≡ naming (open_name n o)
  unfolding open_name queue
  open_name_naming n o = unless_commutes naming _ _ (λ u. refl) o

  module _ (c : Catalogue) where
    open_names_naming : (rs : List ℕ) (o : Opening) → open_names c rs (naming o) ≡ naming (open_names c rs o)
    unfolding open_names
    open_names_naming rs o = fold_commutes naming _ (λ r. open_name_naming (range_name c r)) rs o

    fire_naming : (q : ℕ) (is : List ℕ) (o : Opening) → fire c q is (naming o) ≡ naming (fire c q is o)
    unfolding fire
    fire_naming q [] o = refl
    fire_naming q (i ∷ is) o =
        ap (queue (requirement q (i ∷ is))) (open_names_naming (ranges_of c q) o) ∙ queue_naming (requirement q (i ∷ is)) (open_names c (ranges_of c q) o)

    owner_naming : (w : Owner) (o : Opening) → serve_owner c w (naming o) ≡ naming (serve_owner c w o)
    unfolding serve_owner
    owner_naming w o =
        unless_commutes naming _ _
        (λ u. ap (fold queue (tasks_of c w)) (open_names_naming (ranges_first c w) u)
        ∙ fold_commutes naming queue queue_naming (tasks_of c w) (open_names c (ranges_first c w) u)) o

    ready_naming : (p : ℕ) (o : Opening) → open_ready c p (naming o) ≡ naming (open_ready c p o)
    unfolding open_ready
    ready_naming p o = when_commutes naming _ (open_owner (part p)) (open_owner_naming (part p)) o

module _ (c : Catalogue) where
  ready_tracked : (p : ℕ) (o : Opening) → (open_ready c p o).tracked ≡ o.tracked
  unfolding open_ready open_owner queue
  ready_tracked p o = when_either (λ (u : Opening). u.tracked ≡ o.tracked) _ _ o (λ _. unless_either (λ (u : Opening). u.tracked ≡ o.tracked) _ _ o (λ _. refl) (λ _. refl)) (λ _. refl)

  pub ready_alike : (p : ℕ) {o o' : Opening} → Alike c o o' → Alike c (open_ready c p o) (open_ready c p o')
  ready_alike p a = alike_step (open_ready c p) (λ x. ready_naming x c p) (ready_tracked p) a

  pub trackings_alike : (ps : List ℕ) {o o' : Opening} → Alike c o o' → Alike c (fold (name_for_tracking c) ps o) (fold (name_for_tracking c) ps o')
  trackings_alike ps a = alike_fold (name_for_tracking c) (λ p o o'. tracking_alike c p) ps a

  requirement_alike : (q : ℕ) (is : List ℕ) {o o' : Opening} → Alike c o o' → Alike c (serve_requirement c q is o) (serve_requirement c q is o')
  unfolding serve_requirement
  requirement_alike q is a =
      let ps = candidates c (goal_at c q) in
      alike_fold (open_ready c) (λ p o o'. ready_alike p) ps
      (trackings_alike (ps ++ fired_parts c q is) (alike_step (mark_handled q is) (λ x o. unfold mark_handled in refl) (λ o. unfold mark_handled in refl) a))

  pub serve_alike : (f : ℕ → Bool) (t : Task) {o o' : Opening} → Alike c o o' → Alike c (serve c f t o) (serve c f t o')
  serve_alike f (owner w) a = alike_step (serve c f (owner w)) (λ x o. unfold serve in owner_naming x c w o) (λ o. (serve_waits c f (owner w) o).tracked) a
  serve_alike f (name n) a =
      alike_step (serve c f (name n)) (λ x o. unfold serve serve_name in when_commutes (naming x) _ _ (λ u. refl) o) (λ o. (serve_waits c f (name n) o).tracked) a
  serve_alike f (condition q) a =
      alike_step (serve c f (condition q)) (λ x o. unfold serve serve_condition in fire_naming x c q _ _) (λ o. (serve_waits c f (condition q) o).tracked) a
  serve_alike f (requirement q is) a = unfold serve in requirement_alike q is a
  serve_alike f (constraint k) a = unfold serve in a

-- ---- states

module _ {c : Catalogue} where
  pub in_same : {s : State} → AlikeIn c s s
  in_same = record { rest = refl; opening = alike_same }

  pub in_then : {s s' s'' : State} → AlikeIn c s s' → AlikeIn c s' s'' → AlikeIn c s s''
  in_then {s'' = s''} p q = record { rest = q.rest ∙ ap (set_opening s''.opening) p.rest; opening = alike_then p.opening q.opening }

  -- a step of the opening
  pub in_opening : (f : Opening → Opening) → ((o o' : Opening) → Alike c o o' → Alike c (f o) (f o')) → {s s' : State} → AlikeIn c s s' → AlikeIn c (on_opening f s) (on_opening f s')
  unfolding on_opening
  in_opening f h {s} {s'} p = record { rest = ap (set_opening (f s'.opening)) p.rest; opening = h s.opening s'.opening p.opening }

  pub in_fold : {A : Type 0} (f : A → State → State) → ((x : A) (s s' : State) → AlikeIn c s s' → AlikeIn c (f x s) (f x s'))
      → (xs : List A) {s s' : State} → AlikeIn c s s' → AlikeIn c (fold f xs s) (fold f xs s')
  unfolding fold
  in_fold f h [] p = p
  in_fold f h (x ∷ xs) {s} {s'} p = in_fold f h xs (h x s s' p)

-- a step that leaves the opening alone, whatever it is
module _ (f : State → State) (h : (o : Opening) (s : State) → f (set_opening o s) ≡ set_opening o (f s)) where
  pub opening_kept : (s : State) → (f s).opening ≡ s.opening
  opening_kept s = ap (λ (x : State). x.opening) (h s.opening s)

  pub in_step : {c : Catalogue} {s s' : State} → AlikeIn c s s' → AlikeIn c (f s) (f s')
  in_step {s = s} {s' = s'} p =
      record {
        rest = ap f p.rest ∙ (h s'.opening s ∙ ap (λ o. set_opening o (f s)) (sym (opening_kept s')));
        opening = rw (opening_kept s, opening_kept s') p.opening;
      }

pub variable_alone : (v : Origin) (o : Opening) (s : State) → add_variable v (set_opening o s) ≡ set_opening o (add_variable v s)
unfolding add_variable
variable_alone v o s = refl

pub clause_alone : (r : Run) (k : Clause) (o : Opening) (s : State) → add_clause r k (set_opening o s) ≡ set_opening o (add_clause r k s)
unfolding add_clause
clause_alone r k o s = effect_changed (λ _. o) (λ ks. ks) r _ k _

module _ (c : Catalogue) (r : Run) where
  emit_alone : (e : Event) (o : Opening) (s : State) → emit c r e (set_opening o s) ≡ set_opening o (emit c r e s)
  unfolding emit
  emit_alone e o s = effects_changed (λ _. o) (λ ks. ks) r _ _ _

  -- ALIKE STATES STAY ALIKE
  pub served_alike : (t : Task) {s s' : State} → AlikeIn c s s' → AlikeIn c (serve_task c r t s) (serve_task c r t s')
  unfolding serve_task
  served_alike t {s} {s'} p = in_step (emit c r (served t)) (emit_alone (served t)) tasked
    where
      same_truth : decided_true s' ≡ decided_true s
      same_truth = unfold decided_true in ap (λ (u : State). decided_true (set_opening s.opening u)) p.rest

      tasked : AlikeIn c (set_opening (serve c (decided_true s) t s.opening) s) (set_opening (serve c (decided_true s') t s'.opening) s')
      tasked =
          rw same_truth
          (record { rest = ap (set_opening (serve c (decided_true s) t s'.opening)) p.rest; opening = serve_alike c (decided_true s) t p.opening })

-- ---- the end of a run

filter_lists : {A : Type 0} (f : ℕ → Bool) (g : A → List ℕ) (xs : List A) → filter f (concat_map g xs) ≡ concat_map (λ x. filter f (g x)) xs
unfolding concat_map
filter_lists f g [] = unfold filter in refl
filter_lists f g (x ∷ xs) = filter_append f (g x) (concat_map g xs) ∙ ap (λ ys. filter f (g x) ++ ys) (filter_lists f g xs)

filter_swap : (f g : ℕ → Bool) (xs : List ℕ) → filter f (filter g xs) ≡ filter g (filter f xs)
filter_swap f g xs = filter_both f g xs ∙ (ap (λ h. filter h xs) (fun_ext (λ x. and_swap (g x) (f x))) ∙ sym (filter_both g f xs))
  where
    and_swap : (a b : Bool) → (a && b) ≡ (b && a)
    and_swap true true = refl
    and_swap true false = refl
    and_swap false true = refl
    and_swap false false = refl

module _ (c : Catalogue) where
  -- what joins follows from the names that are named and the parts that are not tracked
  joining_is : (o : Opening) → joining c o ≡ concat_map (λ n. filter (λ p. eqb (name_of c p) n) (untracked o.tracked o.named)) (names_in c o.named)
  unfolding joining untracked names_in
  joining_is o =
      let ns = distinct (map (name_of c) o.named) in
      filter_lists (λ p. not (elem p o.tracked)) (λ n. filter (λ p. eqb (name_of c p) n) o.named) ns
      ∙ ap (λ (g : ℕ → List ℕ). concat_map g ns) (fun_ext (λ n. filter_swap (λ p. not (elem p o.tracked)) (λ p. eqb (name_of c p) n) o.named))

  joining_same : {o o' : Opening} → Alike c o o' → joining c o' ≡ joining c o
  joining_same {o} {o'} a = joining_is o' ∙ (rw (ap (λ (x : Opening). x.tracked) a.rest, a.names, a.joining) (sym (joining_is o)))

  pub join_all_same : (r : Run) {s s' : State} → AlikeIn c s s' → join_all c r s' ≡ join_all c r s
  join_all_same r {s} {s'} p =
      ap (join_all c r) (p.rest ∙ ap (λ o. set_opening o s) p.opening.rest)
      ∙ go s'.opening.named (rw p.opening.rest at (joining_same p.opening))
    where
      go : (x : List ℕ) → joining c (set_named x s.opening) ≡ joining c s.opening → join_all c r (set_opening (set_named x s.opening) s) ≡ join_all c r s
      go x e = unfold join_all end_run in rw e

-- what is counted is the same
pub beyond_same : (l : Limits) (room : ℕ) {c : Catalogue} {s s' : State} → AlikeIn c s s' → beyond l room s' ≡ beyond l room s
unfolding beyond above
beyond_same l room {s = s} p = ap (beyond l room) (p.rest ∙ ap (λ o. set_opening o s) p.opening.rest)
