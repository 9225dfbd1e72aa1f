-- Growing steps with a test after each, which stop at the first excess of a limit, end as the steps without tests do: full where those end above a
-- limit, and otherwise in the same state (READINGS.md, 22). The steps are those of an event and of an opening.
use mathlib.Core.Path.{◌≡◌, refl, sym, ◌∙◌}
use mathlib.Core.Bool.{Bool, true, false, not, ◌||◌, true≢false}
use mathlib.Core.List.{List, [], ◌∷◌, ◌++◌, map, append-nil, append_assoc}
use Prim.Native.Nat.{ℕ, suc, ◌+◌}
use native.Mathlib.Omega.{arith}
use lib.Dec.{ltb}
use lib.ListN.{length}
use Rattle.rules.specs.Lists.{filter, snoc, fold, sum}
use Rattle.rules.specs.Clause.{Clause, condition_literals}
use Rattle.rules.specs.Catalogue.{Owner, part, Catalogue, range_name, goal_at}
use Rattle.rules.specs.Variables.{Origin, with_variable, with_variables}
use Rattle.rules.specs.Candidates.{candidates}
use Rattle.rules.specs.Conditions.{indices}
use Rattle.rules.specs.Opening.{owner, name, condition, constraint, tasks_of, ranges_first, serve_owner, serve_name, serve_condition, entry_holds, mark_handled, fired_parts, name_for_tracking, open_ready, serve_requirement, serve}
use Rattle.rules.specs.Opening.{Task, requirement, Opening, set_waiting, queue, open_owner, open_name, open_names, ranges_of, fire, begin_run}
use Rattle.rules.specs.Encoding.{Event, origins, clauses}
use Rattle.rules.specs.State.{State, set_opening, set_variables, set_clauses, Run, emit}
use Rattle.rules.specs.Limits.{Limits, above}
use Rattle.rules.proofs.Bools.{by_cases, or_none}
use Rattle.rules.proofs.ListLaws.{length_snoc, sum_append, when_keeps, unless_keeps, fold_every}
use Rattle.rules.proofs.Effects.{Leaves, effect_is, effect_leaves, variables_after}
use Rattle.rules.proofs.Grows.{whole, ending, Grows, opening_grows, with_variable_prefix, stays_above}
use Rattle.rules.proofs.ClauseByClause.{add_clause, emit_one_by_one}

-- ---- a state, or no state where it is above a limit

pub data Capped : Type 0 where
  full : Capped
  within : State → Capped

unfoldable pub capped_by : Bool → State → Capped
capped_by true s = full
capped_by false s = within s

unfoldable pub capped : Limits → State → Capped
capped l s = capped_by (above l s) s

-- full stays full
unfoldable pub afterwards : Capped → (State → Capped) → Capped
afterwards full f = full
afterwards (within s) f = f s

module _ (l : Limits) where
  pub is_full_law : (s : State) → above l s ≡ true → capped l s ≡ full
  unfolding capped capped_by
  is_full_law s e = rw e

  pub is_within : (s : State) → above l s ≡ false → capped l s ≡ within s
  unfolding capped capped_by
  is_within s e = rw e

  pub of_full : (s : State) → capped l s ≡ full → above l s ≡ true
  unfolding capped
  of_full s e = go (above l s) e
    where
      go : (b : Bool) → capped_by b s ≡ full → b ≡ true
      go true e = refl
      go false e = unfold capped_by in cc

  pub stays_full : {s s' : State} → Grows s s' → capped l s ≡ full → capped l s' ≡ full
  stays_full {s} {s'} g e = is_full_law s' (stays_above l g (of_full s e))

  -- a growing step, of which f gives the end where it is tried
  pub staged : (s : State) (g : State → State) (f : State → Capped) → Grows s (g s) → ((u : State) → above l u ≡ false → f u ≡ capped l (g u))
      → afterwards (capped l s) f ≡ capped l (g s)
  unfolding afterwards
  staged s g f h k = by_cases (above l s) (λ e. rw (is_full_law s e) (sym (is_full_law (g s) (stays_above l h e)))) (λ e. rw (is_within s e) (k s e))

  -- a test before a growing step changes nothing
  pub then_capped : (s : State) (g : State → State) → Grows s (g s) → capped l (g s) ≡ afterwards (capped l s) (λ u. capped l (g u))
  then_capped s g h = sym (staged s g (λ u. capped l (g u)) h (λ u e. refl))

  -- a step, if the state is not full, and the test after it
  abbrev pub step_capped : {A : Type 0} → (A → State → State) → A → Capped → Capped
  step_capped f x u = afterwards u (λ s. capped l (f x s))

  -- growing steps, each with the test after it
  pub fold_capped : {A : Type 0} (f : A → State → State) → ((x : A) (s : State) → Grows s (f x s)) → (xs : List A) (s : State)
      → fold (step_capped f) xs (capped l s) ≡ capped l (fold f xs s)
  unfolding fold
  fold_capped f h [] s = refl
  fold_capped f h (x ∷ xs) s = rw (← then_capped s (f x) (h x s)) (fold_capped f h xs (f x s))

-- ---- the steps of an event: a variable, a clause

unfoldable pub add_variable : Origin → State → State
add_variable o s = set_variables (with_variable o s.variables) s

pub add_variable_grows : (o : Origin) (s : State) → Grows s (add_variable o s)
unfolding add_variable
add_variable_grows o s = record { variables = with_variable_prefix o s.variables; clauses = whole; waiting = whole }

pub add_variables_is : (os : List Origin) (s : State) → fold add_variable os s ≡ set_variables (with_variables os s.variables) s
unfolding fold with_variables add_variable
add_variables_is [] s = refl
add_variables_is (o ∷ os) s = add_variables_is os (add_variable o s)

module _ (r : Run) (k : Clause) (s : State) where
  add_clause_leaves : Leaves (set_clauses (snoc s.clauses k) s) (add_clause r k s)
  unfolding add_clause
  add_clause_leaves = effect_leaves (effect_is r (length s.clauses) k _)

  pub add_clause_grows : Grows s (add_clause r k s)
  unfolding snoc
  add_clause_grows =
      let p = add_clause_leaves in
      record { variables = rw p.variables whole; clauses = rw p.clauses (ending s.clauses (k ∷ [])); waiting = rw p.opening whole }

-- an event, with a test after each variable and each clause
pub emit_capped : (l : Limits) (c : Catalogue) (r : Run) (e : Event) (s : State)
    → fold (step_capped l (add_clause r)) (clauses c s.variables (variables_after c e s) r.before e) (fold (step_capped l add_variable) (origins c e) (capped l s))
    ≡ capped l (emit c r e s)
emit_capped l c r e s =
    rw (fold_capped l add_variable add_variable_grows (origins c e) s, add_variables_is (origins c e) s, emit_one_by_one c r e s)
    (fold_capped l (add_clause r) (add_clause_grows r) (clauses c s.variables (variables_after c e s) r.before e) (set_variables (variables_after c e s) s))

-- ---- the steps of an opening: only a waiting entry can exceed a limit

unfoldable pub add_waiting : ℕ × ℕ → State → State
add_waiting e s = set_opening (set_waiting (snoc s.opening.waiting e) s.opening) s

pub add_waiting_grows : (e : ℕ × ℕ) (s : State) → Grows s (add_waiting e s)
unfolding add_waiting snoc
add_waiting_grows e s = opening_grows _ s (ending s.opening.waiting (e ∷ []))

pub add_waitings_is : (es : List (ℕ × ℕ)) (s : State) → fold add_waiting es s ≡ set_opening (set_waiting (s.opening.waiting ++ es) s.opening) s
unfolding fold add_waiting snoc
add_waitings_is [] s = rw (append-nil s.opening.waiting)
add_waitings_is (e ∷ es) s = add_waitings_is es (add_waiting e s) ∙ rw (append_assoc s.opening.waiting (e ∷ []) es)

pub same_waiting : (l : Limits) (o : Opening) (s : State) → o.waiting ≡ s.opening.waiting → above l (set_opening o s) ≡ above l s
unfolding above
same_waiting l o s e = rw e

module _ (ws : List (ℕ × ℕ)) where
  abbrev Waiting : Opening → Type 0
  Waiting o = o.waiting ≡ ws

  pub queue_waiting : (t : Task) (o : Opening) → o.waiting ≡ ws → (queue t o).waiting ≡ ws
  unfolding queue
  queue_waiting t o e = e

  pub open_owner_waiting : (w : Owner) (o : Opening) → o.waiting ≡ ws → (open_owner w o).waiting ≡ ws
  unfolding open_owner queue
  open_owner_waiting w o e = unless_keeps Waiting _ _ o e (λ _. e)

  pub open_name_waiting : (n : ℕ) (o : Opening) → o.waiting ≡ ws → (open_name n o).waiting ≡ ws
  unfolding open_name queue
  open_name_waiting n o e = unless_keeps Waiting _ _ o e (λ _. e)

  module _ (c : Catalogue) where
    pub open_names_waiting : (rs : List ℕ) (o : Opening) → o.waiting ≡ ws → (open_names c rs o).waiting ≡ ws
    unfolding open_names
    open_names_waiting rs o e = fold_every Waiting _ (λ r. open_name_waiting (range_name c r)) rs o e

    pub fire_waiting : (q : ℕ) (is : List ℕ) (o : Opening) → o.waiting ≡ ws → (fire c q is o).waiting ≡ ws
    unfolding fire
    fire_waiting q [] o e = e
    fire_waiting q (i ∷ is) o e = queue_waiting (requirement q (i ∷ is)) _ (open_names_waiting (ranges_of c q) o e)

    pub begin_waiting : (o : Opening) → o.waiting ≡ ws → (begin_run c o).waiting ≡ ws
    unfolding begin_run
    begin_waiting o e = fold_every Waiting _ (λ x. fire_waiting x.0 (x.1 ∷ [])) o.drawn _ (fold_every Waiting open_owner open_owner_waiting o.added _ e)

-- the entries that a task makes wait
unfoldable pub new_waiting : Catalogue → (ℕ → Bool) → Task → List (ℕ × ℕ)
new_waiting c f (owner w) = []
new_waiting c f (name n) = []
new_waiting c f (condition q) = map (λ i. (q, i)) (filter (λ i. not (entry_holds c f q i)) (indices c q))
new_waiting c f (requirement q is) = []
new_waiting c f (constraint k) = []

module _ (c : Catalogue) (ws : List (ℕ × ℕ)) where
  owner_waiting : (w : Owner) (o : Opening) → o.waiting ≡ ws → (serve_owner c w o).waiting ≡ ws
  unfolding serve_owner
  owner_waiting w o e =
      unless_keeps (Waiting ws) _ _ o e
      (λ _. fold_every (Waiting ws) queue (queue_waiting ws) (tasks_of c w) _ (open_names_waiting ws c (ranges_first c w) o e))

  naming_waiting : (p : ℕ) (o : Opening) → o.waiting ≡ ws → (name_for_tracking c p o).waiting ≡ ws
  unfolding name_for_tracking
  naming_waiting p o e = unless_keeps (Waiting ws) _ _ o e (λ _. e)

  ready_waiting : (p : ℕ) (o : Opening) → o.waiting ≡ ws → (open_ready c p o).waiting ≡ ws
  unfolding open_ready
  ready_waiting p o e = when_keeps (Waiting ws) _ _ o e (open_owner_waiting ws (part p) o e)

  requirement_waiting : (q : ℕ) (is : List ℕ) (o : Opening) → o.waiting ≡ ws → (serve_requirement c q is o).waiting ≡ ws
  unfolding serve_requirement mark_handled
  requirement_waiting q is o e =
      let ps = candidates c (goal_at c q) in
      fold_every (Waiting ws) (open_ready c) ready_waiting ps _ (fold_every (Waiting ws) (name_for_tracking c) naming_waiting (ps ++ fired_parts c q is) _ e)

pub serve_waiting : (c : Catalogue) (f : ℕ → Bool) (t : Task) (o : Opening) → (serve c f t o).waiting ≡ o.waiting ++ new_waiting c f t
unfolding serve serve_name serve_condition new_waiting
serve_waiting c f (owner w) o = owner_waiting c o.waiting w o refl ∙ sym (append-nil o.waiting)
serve_waiting c f (name n) o = when_keeps (Waiting o.waiting) _ _ o refl refl ∙ sym (append-nil o.waiting)
serve_waiting c f (condition q) o = fire_waiting _ c q _ _ refl
serve_waiting c f (requirement q is) o = requirement_waiting c o.waiting q is o refl ∙ sym (append-nil o.waiting)
serve_waiting c f (constraint k) o = sym (append-nil o.waiting)

-- only those can take a served task above a limit, before its event
pub serve_above : (l : Limits) (c : Catalogue) (f : ℕ → Bool) (t : Task) (s : State)
    → above l (set_opening (serve c f t s.opening) s) ≡ above l (fold add_waiting (new_waiting c f t) s)
unfolding above
serve_above l c f t s = rw (add_waitings_is (new_waiting c f t) s, serve_waiting c f t s.opening)

-- ---- which limit a step can exceed: the others need no test

none_of : (a b d e : Bool) → (a || (b || (d || e))) ≡ false → (a ≡ false) × (b ≡ false) × (d ≡ false) × (e ≡ false)
none_of true b d e h = absurd (true≢false h)
none_of false true d e h = absurd (true≢false h)
none_of false false true e h = absurd (true≢false h)
none_of false false false e h = (refl, refl, refl, h)

module _ (l : Limits) (s : State) (e : above l s ≡ false) where
  kept : (ltb l.variables (length s.variables) ≡ false) × (ltb l.clauses (length s.clauses) ≡ false)
      × (ltb l.condition_literals (sum (map condition_literals s.clauses)) ≡ false) × (ltb l.waiting (length s.opening.waiting) ≡ false)
  kept = none_of _ _ _ _ (unfold above in e)

  pub only_variables : (vs : List Origin) → above l (set_variables vs s) ≡ ltb l.variables (length vs)
  unfolding above
  only_variables vs = rw (kept.1, kept.2, kept.3) (or_none _)

  pub only_waiting : (o : Opening) → above l (set_opening o s) ≡ ltb l.waiting (length o.waiting)
  unfolding above
  only_waiting o = rw (kept.0, kept.1, kept.2)

  pub only_clauses : (r : Run) (k : Clause) → above l (add_clause r k s)
      ≡ (ltb l.clauses (suc (length s.clauses)) || ltb l.condition_literals (sum (map condition_literals s.clauses) + condition_literals k))
  unfolding above
  only_clauses r k =
      let p = add_clause_leaves r k s in
      rw (p.variables, p.clauses, p.opening, length_snoc s.clauses k, literals_more, kept.0, kept.3, or_none _)
    where
      literals_more : sum (map condition_literals (snoc s.clauses k)) ≡ sum (map condition_literals s.clauses) + condition_literals k
      literals_more = unfold snoc sum in omega (arith, sum_append condition_literals s.clauses (k ∷ []))
