-- A requirement handled in the code's steps, part by part and range by range, is its task served: variables, tracking and opening are steps on
-- different components, so they may be taken one after another; repeats of a range do nothing more; and clauses leave the variables alone.
use mathlib.Core.Path.{◌≡◌, refl, sym, ◌∙◌, ap}
use mathlib.Core.Logic.{⊎_elim}
use mathlib.Core.Bool.{Bool, true, false, not}
use mathlib.Core.List.Memᴰ
use mathlib.Core.List.{List, [], ◌∷◌, ◌++◌, map, append-nil}
use mathlib.Core.Option.{Option, none, some}
use Prim.Native.Nat.{ℕ}
use lib.Dec.{ltb}
use lib.ListN.{length}
use Rattle.rules.specs.Lists.{fold, any, when, unless, snoc, list_if, concat_map, distinct}
use Rattle.rules.specs.Clause.{Clause, requires, gated, any_gate}
use Rattle.rules.specs.Catalogue.{Owner, root, part, Goal, Catalogue, range_name, owner_at, goal_at, condition_at, same_owner}
use Rattle.rules.specs.Candidates.{sorted, non_matching, goal_ranges, candidates}
use Rattle.rules.specs.Conditions.{disjuncts_if, disjuncts_of, disjunct_at}
use Rattle.rules.specs.Variables.{Origin, chosen, gate, known, variable_of, with_variable, with_variables, part_origin, part_variable}
use Rattle.rules.specs.Opening.{requirement, owner, Opening, set_owners, set_handled, set_fired, set_line}
use Rattle.rules.specs.Opening.{queue, open_owner, fired_parts, name_for_tracking, open_ready, serve_requirement, serve}
use Rattle.rules.specs.Encoding.{Shape, direct, through_gate, on_firing, shape_by, shape, shape_of}
use Rattle.rules.specs.Encoding.{range_origins, disjunct_origins, disjunct_literals, shape_origins, task_origins, requirement_clauses, task_clauses, served, origins, clauses}
use Rattle.rules.specs.State.{State, set_opening, set_variables, Run, emit}
use Rattle.rules.specs.Run.{serve_task}
use Rattle.rules.specs.Called.{◌∈◌}
use Rattle.rules.proofs.Member.{not_one}
use Rattle.rules.proofs.Membership.{map_out}
use Rattle.rules.proofs.Grows.{with_variables_prefix}
use Rattle.rules.proofs.Places.{keeps_variable}
use Rattle.rules.proofs.Known.{known_or_named}
use Rattle.rules.proofs.Capped.{add_variable}
use Rattle.rules.proofs.ClauseByClause.{add_clause, emit_one_by_one}
use Rattle.rules.proofs.DistinctEnough.{fold_append, fold_map, fold_concat_map, candidates_enough, variables_once, tracking_once, ready_once}
use Rattle.rules.proofs.Forgotten.{erased, fold_commutes, when_commutes, handle_alone, requirement_erased, emit_forgets}
use Rattle.rules.proofs.Bools.{same_test}
use Rattle.encoder.specs.Did.{on_opening}
use Rattle.encoder.proofs.Widening.{add_clause_variables}
use Rattle.parts.specs.declared.Naming.TheVariants.{Candidate}
use Rattle.parts.specs.Parts.{naming_of}
use Rattle.owners.specs.Owners.{serving}
use Rattle.naming.specs.Naming.{name_candidates, name_parts, name_range, name_disjuncts}
use Rattle.naming.proofs.Alike.{tracking_is}
use Rattle.handling.specs.Handling.{add_direct, add_gate, add_through_gate, add_fired, add_all_fired, add_by, handled}

-- ---- a step on the opening and one on the variables

-- both at once
abbrev pub acted : (Opening → Opening) → (List Origin → List Origin) → State → State
acted f g s = set_variables (g s.variables) (set_opening (f s.opening) s)

-- steps that each do one thing to the opening and one to the variables
pub fold_acted : {A : Type 0} (f : A → Opening → Opening) (g : A → List Origin → List Origin) (xs : List A) (s : State)
    → fold (λ x. acted (f x) (g x)) xs s ≡ acted (fold f xs) (fold g xs) s
unfolding fold
fold_acted f g [] s = refl
fold_acted f g (x ∷ xs) s = fold_acted f g xs (acted (f x) (g x) s)

-- two steps for each element, of which any two commute: first the one for all, then the other
pub fold_both : {A S : Type 0} (f g : A → S → S) → ((x y : A) (s : S) → g y (f x s) ≡ f x (g y s))
    → (xs : List A) (s : S) → fold (λ x u. f x (g x u)) xs s ≡ fold f xs (fold g xs s)
unfolding fold
fold_both f g h [] s = refl
fold_both f g h (x ∷ xs) s = fold_both f g h xs (f x (g x s)) ∙ ap (fold f xs) (fold_commutes (f x) g (λ y. h x y) xs (g x s))

-- steps of which any two commute: the order of two folds is free
pub fold_swap : {A B S : Type 0} (f : A → S → S) (g : B → S → S) → ((x : A) (y : B) (s : S) → g y (f x s) ≡ f x (g y s))
    → (xs : List A) (ys : List B) (s : S) → fold g ys (fold f xs s) ≡ fold f xs (fold g ys s)
unfolding fold
fold_swap f g h [] ys s = refl
fold_swap f g h (x ∷ xs) ys s = fold_swap f g h xs ys (f x s) ∙ ap (fold f xs) (fold_commutes (f x) g (λ y. h x y) ys s)

-- a step that is, for each element, a fold of f on the opening and the naming of origins
pub fold_lists : {A B : Type 0} (F : A → State → State) (f : B → Opening → Opening) (ps : A → List B) (os : A → List Origin)
    → ((x : A) (s : State) → F x s ≡ acted (fold f (ps x)) (with_variables (os x)) s)
    → (xs : List A) (s : State) → fold F xs s ≡ acted (fold f (concat_map ps xs)) (with_variables (concat_map os xs)) s
unfolding fold concat_map with_variables
fold_lists F f ps os h [] s = refl
fold_lists F f ps os h (x ∷ xs) s =
    fold_lists F f ps os h xs (F x s)
    ∙ (ap (acted (fold f (concat_map ps xs)) (with_variables (concat_map os xs))) (h x s)
    ∙ rw (fold_append f (ps x) (concat_map ps xs) s.opening, fold_append with_variable (os x) (concat_map os xs) s.variables))

-- ---- naming for tracking and opening what is ready commute

-- the first writes `named` (`tracking_is`), the other `owners` and `line`
abbrev is_opened : Owner → Opening → Bool
is_opened w o = any (same_owner w) o.owners

opening_is : (w : Owner) (o : Opening) → open_owner w o
    ≡ set_line (unless (is_opened w o) (λ ts. snoc ts (owner w)) o.line) (set_owners (unless (is_opened w o) (λ ws. snoc ws w) o.owners) o)
unfolding open_owner queue
opening_is w o = go (is_opened w o)
  where
    go : (b : Bool) → unless b (λ (u : Opening). queue (owner w) (set_owners (snoc u.owners w) u)) o
        ≡ set_line (unless b (λ ts. snoc ts (owner w)) o.line) (set_owners (unless b (λ ws. snoc ws w) o.owners) o)
    go true = unfold unless in refl
    go false = unfold unless queue in refl

pub tracking_opening : (c : Catalogue) (w : Owner) (p : ℕ) (o : Opening) → open_owner w (name_for_tracking c p o) ≡ name_for_tracking c p (open_owner w o)
tracking_opening c w p o =
    ap (open_owner w) (tracking_is c p o) ∙ (opening_is w _ ∙ sym (ap (name_for_tracking c p) (opening_is w o) ∙ tracking_is c p _))

pub tracking_ready : (c : Catalogue) (x y : ℕ) (o : Opening) → name_for_tracking c y (open_ready c x o) ≡ open_ready c x (name_for_tracking c y o)
unfolding open_ready
tracking_ready c x y o = sym (when_commutes (name_for_tracking c y) _ (open_owner (part x)) (λ u. tracking_opening c (part x) y u) o)

-- ---- naming a requirement's candidates

-- one candidate after another: its variable, tracking, opening
pub naming_is : (c : Catalogue) (ps : List ℕ) (s : State)
    → fold (naming_of c Candidate) ps s
    ≡ acted (λ o. fold (open_ready c) ps (fold (name_for_tracking c) ps o)) (with_variables (map part_origin ps)) s
unfolding naming_of on_opening add_variable with_variables
naming_is c ps s =
    fold_acted (λ p o. open_ready c p (name_for_tracking c p o)) (λ p. with_variable (part_origin p)) ps s
    ∙ rw (fold_both (open_ready c) (name_for_tracking c) (tracking_ready c) ps s.opening, fold_map with_variable part_origin ps s.variables)

-- those of the distinct ranges are enough
pub candidates_named : (c : Catalogue) (g : Goal) (s : State)
    → fold (λ x. fold (naming_of c Candidate) (sorted c x)) (distinct (goal_ranges c g)) s
    ≡ acted (λ o. fold (open_ready c) (candidates c g) (fold (name_for_tracking c) (candidates c g) o)) (with_variables (map part_origin (candidates c g))) s
candidates_named c g s =
    let ds = concat_map (sorted c) (distinct (goal_ranges c g)) in
    sym (fold_concat_map (naming_of c Candidate) (sorted c) (distinct (goal_ranges c g)) s)
    ∙ (naming_is c ds s
    ∙ rw (
      candidates_enough c g (tracking_once c) s.opening,
      candidates_enough c g (ready_once c) (fold (name_for_tracking c) ds s.opening),
      variables_enough s.variables,
    ))
  where
    variables_enough : (vs : List Origin)
        → with_variables (map part_origin (candidates c g)) vs ≡ with_variables (map part_origin (concat_map (sorted c) (distinct (goal_ranges c g)))) vs
    variables_enough vs = unfold with_variables in
        (fold_map with_variable part_origin (candidates c g) vs
        ∙ (candidates_enough c g (variables_once part_origin) vs ∙ sym (fold_map with_variable part_origin (concat_map (sorted c) (distinct (goal_ranges c g))) vs)))

-- ---- naming what the fired disjuncts name

-- parts of a range that has some; of one without, one-of-name
pub parts_named : (c : Catalogue) (n : ℕ) (ps : List ℕ) (s : State)
    → name_parts c n ps s ≡ acted (fold (name_for_tracking c) ps) (with_variables (range_origins n ps)) s
unfolding name_parts range_origins naming_of on_opening add_variable with_variables fold
parts_named c n [] s = refl
parts_named c n (p ∷ ps) s =
    fold_acted (name_for_tracking c) (λ x. with_variable (part_origin x)) (p ∷ ps) s ∙ rw (fold_map with_variable part_origin (p ∷ ps) s.variables)

-- a disjunct's ranges
pub ranges_named : (c : Catalogue) (d : List ℕ) (s : State)
    → fold (name_range c) d s ≡ acted (fold (name_for_tracking c) (concat_map (non_matching c) d)) (with_variables (disjunct_origins c d)) s
unfolding name_range disjunct_origins
ranges_named c d s =
    fold_lists (name_range c) (name_for_tracking c) (non_matching c) (λ x. range_origins (range_name c x) (non_matching c x))
    (λ x u. parts_named c (range_name c x) (non_matching c x) u) d s

-- all the fired disjuncts
pub disjuncts_named : (c : Catalogue) (q : ℕ) (is : List ℕ) (s : State)
    → name_disjuncts c q is s
    ≡ acted (fold (name_for_tracking c) (fired_parts c q is)) (with_variables (concat_map (λ i. disjunct_origins c (disjunct_at c q i)) is)) s
unfolding name_disjuncts fired_parts
disjuncts_named c q is s =
    fold_lists (λ i. fold (name_range c) (disjunct_at c q i)) (name_for_tracking c) (λ i. concat_map (non_matching c) (disjunct_at c q i))
    (λ i. disjunct_origins c (disjunct_at c q i)) (λ i u. ranges_named c (disjunct_at c q i) u) is s

-- ---- the clauses

-- clauses that are each made from the present variables may be made from those at the start
pub clauses_same : {A : Type 0} (r : Run) (K : List Origin → A → Clause) (xs : List A) (s : State)
    → fold (λ x (u : State). add_clause r (K u.variables x) u) xs s ≡ fold (add_clause r) (map (K s.variables) xs) s
unfolding fold
clauses_same r K [] s = refl
clauses_same r K (x ∷ xs) s =
    let u = add_clause r (K s.variables x) s in
    clauses_same r K xs u ∙ ap (λ vs. fold (add_clause r) (map (K vs) xs) u) (add_clause_variables r (K s.variables x) s)

-- ---- a gate

-- naming chosen parts makes no gate known
pub gate_asked : (o : Owner) (ps : List ℕ) (g : Goal) (vs : List Origin)
    → known (with_variables (chosen o ∷ map part_origin ps) vs) (gate g) ≡ known vs (gate g)
gate_asked o ps g vs =
    let os = chosen o ∷ map part_origin ps in
    same_test _ _ (λ e. ⊎_elim (λ k. k) (λ m. absurd (no_gate m)) (known_or_named os vs (gate g) e))
    (λ e. (keeps_variable (with_variables_prefix os vs) (gate g) e).0)
  where
    differs : (w : Owner) → gate g ≡ chosen w → ⊥
    differs w e = let z : ◌≡◌ {A = ℕ} 0 1 = cc in not_one z

    no_gate : gate g ∈ (chosen o ∷ map part_origin ps) → ⊥
    no_gate (Memᴰ.head e) = differs o e
    no_gate (Memᴰ.tail m) = let p = map_out part_origin ps m in differs (part p.0) p.2

-- ---- a requirement without a condition fires nothing

module _ (c : Catalogue) (q : ℕ) where
  pub none_fired : (is : List ℕ) → condition_at c q ≡ none → fired_parts c q is ≡ []
  unfolding fired_parts concat_map
  none_fired [] e = refl
  none_fired (i ∷ is) e = rw (no_ranges i, concat_map) (none_fired is e)
    where
      no_ranges : (i : ℕ) → disjunct_at c q i ≡ []
      no_ranges i = unfold disjunct_at disjuncts_of disjuncts_if in rw e

  -- what is asked of a shape: only one with a condition has fired parts
  abbrev Unfired : Shape → List ℕ → Type 0
  Unfired direct is = fired_parts c q is ≡ []
  Unfired through_gate is = fired_parts c q is ≡ []
  Unfired on_firing is = Unit {0}

  unfired : (is : List ℕ) → Unfired (shape_of c q) is
  unfired is = go (condition_at c q) (owner_at c q) refl
    where
      few_or_many : (b : Bool) → condition_at c q ≡ none → Unfired (shape_by b) is
      few_or_many true e = unfold shape_by in none_fired is e
      few_or_many false e = unfold shape_by in none_fired is e

      go : (k : Option ℕ) (o : Owner) → condition_at c q ≡ k → Unfired (shape k o (length (candidates c (goal_at c q)))) is
      go none root e = unfold shape in none_fired is e
      go none (part p) e = unfold shape in few_or_many (ltb (length (candidates c (goal_at c q))) 4) e
      go (some k) o e = unfold shape in tt

-- ---- the clauses by shape

module _ (c : Catalogue) (r : Run) (q : ℕ) where
  -- after the owner's variable and the candidates
  abbrev pub candidates_done : State → State
  candidates_done s =
      let ps = candidates c (goal_at c q) in
      acted (λ o. fold (open_ready c) ps (fold (name_for_tracking c) ps o)) (with_variables (map part_origin ps)) (add_variable (chosen (owner_at c q)) s)

  -- the variables after the task's event, were the requirement of this shape
  abbrev pub variables_by : Shape → List ℕ → List Origin → List Origin
  variables_by h is vs = with_variables (chosen (owner_at c q) ∷ (map part_origin (candidates c (goal_at c q)) ++ shape_origins c h q is)) vs

  -- the state before the clauses
  abbrev pub named_by : Shape → List ℕ → State → State
  named_by h is s = set_variables (variables_by h is s.variables) (set_opening (handle_alone c q is s.opening) s)

  abbrev pub clauses_by : Shape → List ℕ → State → List Clause
  clauses_by h is s = requirement_clauses c s.variables (variables_by h is s.variables) h (owner_at c q) (goal_at c q) q is

  pub direct_added : (is : List ℕ) (s : State) → fired_parts c q is ≡ []
      → add_direct c r q (candidates_done s) ≡ fold (add_clause r) (clauses_by direct is s) (named_by direct is s)
  unfolding add_direct add_variable requirement_clauses shape_origins with_variables fold handle_alone
  direct_added is s e =
      let ps = candidates c (goal_at c q) in
      rw (e, append-nil ps, append-nil (map part_origin ps))

  -- a gate's clauses, its variable being known
  gate_added : (new : Bool) (s : State)
      → (let b = add_gate c r q new s in
      add_clause r (any_gate (variable_of b.variables (gate (goal_at c q))) (variable_of b.variables (chosen (owner_at c q)))) b)
      ≡ fold (add_clause r)
      (list_if new (gated (variable_of s.variables (gate (goal_at c q))) (map (part_variable s.variables) (candidates c (goal_at c q))) ∷ [])
      ++ (any_gate (variable_of s.variables (gate (goal_at c q))) (variable_of s.variables (chosen (owner_at c q))) ∷ [])) s
  unfolding add_gate when list_if fold
  gate_added true s =
      let k = gated (variable_of s.variables (gate (goal_at c q))) (map (part_variable s.variables) (candidates c (goal_at c q))) in
      let u = add_clause r k s in
      ap (λ vs. add_clause r (any_gate (variable_of vs (gate (goal_at c q))) (variable_of vs (chosen (owner_at c q)))) u) (add_clause_variables r k s)
  gate_added false s = refl

  pub gate_named : (is : List ℕ) (s : State) → fired_parts c q is ≡ [] → add_variable (gate (goal_at c q)) (candidates_done s) ≡ named_by through_gate is s
  unfolding add_variable shape_origins with_variables fold handle_alone
  gate_named is s e =
      let ps = candidates c (goal_at c q) in
      rw (e, append-nil ps, fold_append with_variable (map part_origin ps) (gate (goal_at c q) ∷ []) (with_variable (chosen (owner_at c q)) s.variables))

  pub through_gate_added : (is : List ℕ) (s : State) → fired_parts c q is ≡ []
      → add_through_gate c r q (candidates_done s) ≡ fold (add_clause r) (clauses_by through_gate is s) (named_by through_gate is s)
  unfolding add_through_gate requirement_clauses
  through_gate_added is s e =
      gate_added (not (known (candidates_done s).variables (gate (goal_at c q)))) (add_variable (gate (goal_at c q)) (candidates_done s))
      ∙ rw (gate_named is s e, asked)
    where
      asked : known (candidates_done s).variables (gate (goal_at c q)) ≡ known s.variables (gate (goal_at c q))
      asked = unfold add_variable with_variables fold in gate_asked (owner_at c q) (candidates c (goal_at c q)) (goal_at c q) s.variables

  -- naming the fired disjuncts' origins after opening the candidates or before comes to the same
  pub fired_named : (is : List ℕ) (s : State) → name_disjuncts c q is (candidates_done s) ≡ named_by on_firing is s
  unfolding fold with_variables add_variable handle_alone
  fired_named is s =
      let ps = candidates c (goal_at c q) in
      let o = fold (name_for_tracking c) ps s.opening in
      disjuncts_named c q is (candidates_done s)
      ∙ rw (
        fold_swap (open_ready c) (name_for_tracking c) (tracking_ready c) ps (fired_parts c q is) o,
        ← fold_append (name_for_tracking c) ps (fired_parts c q is) s.opening,
      ) (unfold handle_alone in rw later)
    where
      later : with_variables (concat_map (λ i. disjunct_origins c (disjunct_at c q i)) is) (candidates_done s).variables ≡ variables_by on_firing is s.variables
      later = unfold add_variable shape_origins with_variables fold in
          sym (fold_append with_variable (map part_origin (candidates c (goal_at c q))) (concat_map (λ i. disjunct_origins c (disjunct_at c q i)) is)
          (with_variable (chosen (owner_at c q)) s.variables))

  pub fired_added : (is : List ℕ) (s : State)
      → add_all_fired c r q is (name_disjuncts c q is (candidates_done s)) ≡ fold (add_clause r) (clauses_by on_firing is s) (named_by on_firing is s)
  unfolding add_all_fired add_fired requirement_clauses
  fired_added is s =
      ap (add_all_fired c r q is) (fired_named is s)
      ∙ clauses_same r
      (λ vs i. requires (variable_of vs (chosen (owner_at c q))) (disjunct_literals c vs (disjunct_at c q i)) (map (part_variable vs) (candidates c (goal_at c q))))
      is (named_by on_firing is s)

  pub added_by : (h : Shape) (is : List ℕ) (s : State) → Unfired c q h is
      → add_by c r q h is (candidates_done s) ≡ fold (add_clause r) (clauses_by h is s) (named_by h is s)
  unfolding add_by
  added_by direct is s e = direct_added is s e
  added_by through_gate is s e = through_gate_added is s e
  added_by on_firing is s e = fired_added is s

  -- ---- the whole

  erased_same : (o : Opening) → o.handled ≡ [] → o.fired ≡ [] → erased o ≡ o
  erased_same o = go o.handled o.fired
    where
      go : (hs : List ℕ) (fs : List (ℕ × ℕ)) → hs ≡ [] → fs ≡ [] → erased o ≡ set_handled hs (set_fired fs o)
      go hs fs e f = rw (e, f)

  -- the task, clause by clause
  pub served_is : (is : List ℕ) (s : State) → s.opening.handled ≡ [] → s.opening.fired ≡ []
      → serving c r (requirement q is) s ≡ fold (add_clause r) (clauses_by (shape_of c q) is s) (named_by (shape_of c q) is s)
  unfolding serving serve_task serve clauses task_clauses origins task_origins
  served_is is s e f =
      let k = served (requirement q is) in
      let at : Opening → State = λ o. emit c r k (set_opening o s) in
      sym (emit_forgets c r k (set_opening (serve_requirement c q is s.opening) s))
      ∙ (ap at (requirement_erased c q is s.opening)
      ∙ (ap (λ o. at (handle_alone c q is o)) (erased_same s.opening e f) ∙ emit_one_by_one c r k (set_opening (handle_alone c q is s.opening) s)))

  -- A REQUIREMENT HANDLED IS ITS TASK SERVED
  pub handled_served : (is : List ℕ) (s : State) → s.opening.handled ≡ [] → s.opening.fired ≡ []
      → handled c r q false is s ≡ serving c r (requirement q is) s
  unfolding handled name_candidates
  handled_served is s e f =
      ap (add_by c r q (shape_of c q) is) (candidates_named c (goal_at c q) (add_variable (chosen (owner_at c q)) s))
      ∙ (added_by (shape_of c q) is s (unfired c q is) ∙ sym (served_is is s e f))
