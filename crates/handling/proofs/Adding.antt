-- The clauses of a requirement, by its shape.
use mathlib.Core.Path.{◌≡◌, refl, sym, ◌∙◌}
use mathlib.Core.Bool.{Bool, true, false, not, false≢true, true≢false}
use mathlib.Core.List.{List, [], ◌++◌, map}
use Prim.Native.Nat.{ℕ, ◌+◌, ◌-◌, ◌<◌, ◌≤◌}
use native.Mathlib.Omega.{arith}
use lib.ListN.{length}
use Rattle.std.specs.Prelude.{Option, Some, None, is_some}
use Rattle.rules.specs.Lists.{when}
use Rattle.rules.specs.Literal.{Literal, pos}
use Rattle.rules.specs.Clause.{requires, any_gate}
use Rattle.rules.specs.Catalogue.{Goal, Catalogue, owner_at, goal_at}
use Rattle.rules.specs.Candidates.{candidates}
use Rattle.rules.specs.Conditions.{disjunct_at}
use Rattle.rules.specs.Decisions.{all_false}
use Rattle.rules.specs.Variables.{Origin, chosen, gate, known, variable_of, part_variable}
use Rattle.rules.specs.Encoding.{disjunct_literals}
use Rattle.rules.specs.State.{State}
use Rattle.rules.specs.State as rules
use Rattle.rules.proofs.Places.{with_variable_known}
use Rattle.rules.proofs.Capped.{add_variable}
use Rattle.rules.proofs.ClauseByClause.{add_clause}
use Rattle.variable_map.specs.Mapping.{found}
use Rattle.variable_map.proofs.Places.{found_known, found_none}
use Rattle.encoder.specs.declared.Run.{Run}
use Rattle.encoder.specs.declared.State as encoder
use Rattle.encoder.specs.Held.{run_of, Reading, literals_in, state_of}
use Rattle.encoder.specs.Clauses.{candidate_variables}
use Rattle.encoder.specs.Did.{Widens, filled, is_full}
use Rattle.encoder.specs.Does.{StateDoes, PlainDoes, ClausesDoes, IsGoodWith, regions_of, variables_of, decisions_of}
use Rattle.encoder.proofs.Did.{widens_then, did_as, did_stop}
use Rattle.encoder.proofs.Widening.{add_clause_widens, add_clause_variables}
use Rattle.encoder.proofs.Steps.{variables_after_law}
use Rattle.encoder.proofs.Does.{at_catalogue, clauses_do_then, state_then_clauses_do, state_does_clauses, clauses_do_none}
use Rattle.storing.specs.Adding.{Adds, AddsRequires, AddsGated}
use Rattle.storing.proofs.Adding.{adds_do}
use Rattle.storing.proofs.Added.{requires_over}
use Rattle.condition_literals.specs.Literals.{Found, Named, StatePushes}
use Rattle.handling.specs.Handling.{add_direct, add_gate, add_through_gate, add_fired}
use Rattle.handling.proofs.Widening.{direct_widens, gate_widens, through_gate_widens, fired_widens}
use Rattle.condition_literals.proofs.Pushing.{pushed_count, pushes_are, pushes_variables, pushes_do}

none_first : (w : List ℕ) (a : ℕ) → literals_in w a 0 ≡ []
unfolding literals_in
none_first w a = refl

-- ---- steps of the state and the clauses

module _ {c : Catalogue} {F G : Reading → State → State} {x x' : encoder.State} {cl cl' : List ℕ} (d : ClausesDoes c F x cl x' cl') (w : (v : Reading) (s : State) → Widens s (G v s)) where
  -- the same by another name
  pub clauses_do_as : ((wt : List ℕ) → IsGoodWith c x cl wt → is_full x.used ≡ false → (v : Reading)
      → F v (state_of c x.limits v x.used (regions_of x) cl wt) ≡ G v (state_of c x.limits v x.used (regions_of x) cl wt)) → ClausesDoes c G x cl x' cl'
  clauses_do_as h = record { limits = d.limits; area = d.area; did = record { is = λ wt. did_as (d.did.is wt) w (h wt) } }

  -- the next step is not taken where it is full
  pub clauses_do_stop : is_full x'.used ≡ true → ClausesDoes c (λ v s. G v (F v s)) x cl x' cl'
  clauses_do_stop f = record { limits = d.limits; area = d.area; did = record { is = λ wt. did_stop (d.did.is wt) f w } }

-- the variables are those of F
pub variables_with : {c : Catalogue} {F : Reading → State → State} {x x' : encoder.State} {cl : List ℕ} → StateDoes c F x x' → IsGoodWith c x cl [] → is_full x'.used ≡ false
    → (v : Reading) → variables_of x' ≡ (F v (state_of c x.limits v x.used (regions_of x) cl [])).variables
variables_with {cl = cl} d g e v = rw d.limits (variables_after_law (d.did.is cl []) g e v)

-- ---- an owner's requires

module _ {c : Catalogue} {r : Run} {q : ℕ} {x x' : encoder.State} {cl cl' : List ℕ} {o : ℕ} {goal : Goal} {all : Bool}
    (g : goal ≡ goal_at c q) (h : Named c q (variables_of x)) where
  requires_do : {count : ℕ} (ks : List Literal) → length ks ≡ count → (x.used.literals + count ≤ x.limits.literals → literals_in (regions_of x 19) x.used.literals count ≡ ks)
      → (x.used.literals + count ≤ x.limits.literals → all ≡ all_false (decisions_of x) (ks ++ map pos (map (part_variable (variables_of x)) (candidates c (goal_at c q)))))
      → AddsRequires r o count goal all x cl x' cl'
      → ClausesDoes c (λ v s. add_clause (run_of r) (requires o ks (map (part_variable s.variables) (candidates c (goal_at c q)))) s) x cl x' cl'
  unfolding candidate_variables
  requires_do ks e i a d =
      record {
        limits = d.limits;
        area = d.area;
        did = record { is = λ wt. did_as (d.is c wt ks e (rw g h.candidates) i (λ p. rw g (a p))) (λ v s. add_clause_widens _ _ s) (λ _ _ v. rw g) };
      }

  pub direct_added : Found x.limits (variables_of x) (chosen (owner_at c q)) o
      → all ≡ all_false (decisions_of x) (literals_in (regions_of x 19) x.used.literals 0 ++ map pos (map (part_variable (variables_of x)) (candidates c (goal_at c q))))
      → AddsRequires r o 0 goal all x cl x' cl' → ClausesDoes c (λ v. add_direct c (run_of r) q) x cl x' cl'
  direct_added f a d =
      clauses_do_as
      (requires_do [] refl (λ _. none_first (regions_of x 19) x.used.literals) (λ _. rw (none_first (regions_of x 19) x.used.literals) at a) d)
      (λ v s. direct_widens c (run_of r) q s) (λ wt _ _ v. unfold add_direct state_of in rw (← f.is))

-- ---- of a fired disjunct, its literals being pushed

module _ {c : Catalogue} {q : ℕ} {x x₁ : encoder.State} (i : ℕ) {count : ℕ}
    (h : Named c q (variables_of x)) (p : StatePushes x 0 (disjunct_literals c (variables_of x) (disjunct_at c q i)) count x₁) where
  abbrev ks : List Literal
  ks = disjunct_literals c (variables_of x) (disjunct_at c q i)

  pub fired_named : Named c q (variables_of x₁)
  fired_named = rw (pushes_variables p) h

  fired_do : (r : Run) {x' : encoder.State} {cl cl' : List ℕ} {o : ℕ} {goal : Goal} {all : Bool} → goal ≡ goal_at c q → o ≡ variable_of (variables_of x) (chosen (owner_at c q))
      → (x₁.used.literals + count ≤ x₁.limits.literals
      → all ≡ all_false (decisions_of x₁) (ks ++ map pos (map (part_variable (variables_of x₁)) (candidates c (goal_at c q)))))
      → AddsRequires r o count goal all x₁ cl x' cl' → ClausesDoes c (λ v. add_fired c (run_of r) q i) x cl x' cl'
  fired_do r g o a d =
      clauses_do_as (state_then_clauses_do (pushes_do p) (requires_do g fired_named ks (sym (pushed_count p.pushes)) (pushes_are p) a d))
      (λ v s. fired_widens c (run_of r) q i s) (λ wt _ _ v. unfold add_fired state_of in rw (← o))

  pub fired_added : (r : Run) {x' : encoder.State} {cl cl' : List ℕ} {o : ℕ} {goal : Goal} {all : Bool} → goal ≡ goal_at c q
      → Found x₁.limits (variables_of x₁) (chosen (owner_at c q)) o → x₁.used.literals ≤ x₁.limits.literals → count ≤ x₁.limits.literals - x₁.used.literals
      → all ≡ all_false (decisions_of x₁) (literals_in (regions_of x₁ 19) x₁.used.literals count ++ map pos (map (part_variable (variables_of x₁)) (candidates c (goal_at c q))))
      → AddsRequires r o count goal all x₁ cl x' cl' → ClausesDoes c (λ v. add_fired c (run_of r) q i) x cl x' cl'
  fired_added r g f u b a d =
      let room : x₁.used.literals + count ≤ x₁.limits.literals = omega arith in
      fired_do r g (rw (pushes_variables p) at f.is) (λ _. rw (pushes_are p room) at a) d

  pub fired_over : (r : Run) {x' : encoder.State} {cl : List ℕ} → x'.limits ≡ x₁.limits → x'.area ≡ x₁.area → x₁.used.literals ≤ x₁.limits.literals
      → x₁.limits.literals - x₁.used.literals < count → x'.used ≡ filled x₁.used → ClausesDoes c (λ v. add_fired c (run_of r) q i) x cl x' cl
  fired_over r y z u b e =
      let more : x₁.limits.literals < x₁.used.literals + count = omega arith in
      fired_do r {o = variable_of (variables_of x) (chosen (owner_at c q))} {goal = goal_at c q} {all = false}
      refl refl (λ room. let no : ⊥ = omega arith in absurd no) (requires_over y z more e)

-- ---- a gate's own

module _ {c : Catalogue} (r : Run) (q : ℕ) {new : Bool} {x : encoder.State} {cl : List ℕ} where
  pub gate_old : new ≡ false → ClausesDoes c (λ v. add_gate c (run_of r) q new) x cl x cl
  gate_old e = clauses_do_none (λ v s. unfold add_gate when in rw e)

  pub gate_added : {x' : encoder.State} {cl' : List ℕ} {y : ℕ} {goal : Goal} {all : Bool} → new ≡ true → goal ≡ goal_at c q
      → Named c q (variables_of x) → Found x.limits (variables_of x) (gate (goal_at c q)) y
      → all ≡ all_false (decisions_of x) (literals_in (regions_of x 19) x.used.literals 0 ++ map pos (map (part_variable (variables_of x)) (candidates c (goal_at c q))))
      → AddsGated r y goal all x cl x' cl' → ClausesDoes c (λ v. add_gate c (run_of r) q new) x cl x' cl'
  unfolding candidate_variables
  gate_added e g h o a d =
      record {
        limits = d.limits;
        area = d.area;
        did = record {
          is = λ wt. did_as (d.is c wt (rw g h.candidates) (rw g (rw (none_first (regions_of x 19) x.used.literals) at a)))
              (λ v s. gate_widens c (run_of r) q new s) (λ _ _ v. unfold add_gate state_of when in rw (e, g, ← o.is));
        };
      }

-- ---- through a gate

module _ (c : Catalogue) (r : rules.Run) (q : ℕ) where
  gate_variables : (new : Bool) (s : State) → (add_gate c r q new s).variables ≡ s.variables
  unfolding add_gate when
  gate_variables true s = add_clause_variables r _ s
  gate_variables false s = refl

  -- the gate having its variable
  unfoldable after_gate : Bool → State → State
  after_gate new s =
      let b = add_gate c r q new s in
      add_clause r (any_gate (variable_of b.variables (gate (goal_at c q))) (variable_of b.variables (chosen (owner_at c q)))) b

  after_widens : (new : Bool) (s : State) → Widens s (after_gate new s)
  unfolding after_gate
  after_widens new s = widens_then (gate_widens c r q new s) (add_clause_widens r _ _)

  after_is : (new : Bool) (s : State) (y x : ℕ) → y ≡ variable_of s.variables (gate (goal_at c q)) → x ≡ variable_of s.variables (chosen (owner_at c q))
      → add_clause r (any_gate y x) (add_gate c r q new s) ≡ after_gate new s
  unfolding after_gate
  after_is new s y x e f = rw (gate_variables new s, ← e, ← f)

  through_is : (s : State) (new : Bool) → new ≡ not (known s.variables (gate (goal_at c q))) → after_gate new (add_variable (gate (goal_at c q)) s) ≡ add_through_gate c r q s
  unfolding after_gate add_through_gate
  through_is s new e = rw e

-- it is new where it has no variable
new_by : (vs : List Origin) (o : Origin) (r : Option ℕ) (b : Bool) → is_some r ≡ not b → r ≡ found vs o → b ≡ not (known vs o)
new_by vs o None b h e = rw (found_none vs o None e refl) (go b h)
  where
    go : (b : Bool) → false ≡ not b → b ≡ true
    go true z = refl
    go false z = absurd (false≢true z)
new_by vs o (Some x) b h e = rw (found_known vs o (Some x) e x refl).0 (go b h)
  where
    go : (b : Bool) → true ≡ not b → b ≡ false
    go true z = absurd (true≢false z)
    go false z = refl

pub new_gate : (vs : List Origin) (o o' : Origin) (r : Option ℕ) (b : Bool) → o ≡ o' → is_some r ≡ not b → r ≡ found vs o → b ≡ not (known vs o')
new_gate vs o o' r b i h e = rw i at (new_by vs o r b h e)

-- named, it has one
pub gate_known : {c : Catalogue} (q : ℕ) {x x₁ : encoder.State} {cl : List ℕ} (w : Origin) → w ≡ gate (goal_at c q)
    → PlainDoes (λ c v. add_variable w) x x₁ → IsGoodWith c x cl [] → is_full x₁.used ≡ false → known (variables_of x₁) (gate (goal_at c q)) ≡ true
gate_known {c} q w i d g f =
    let v : Reading = record { truth = λ p. false; drawn = [] } in
    rw (variables_with (at_catalogue {c = c} d) g f v, ← i) (unfold add_variable in with_variable_known w _)

module _ (c : Catalogue) (r : Run) (q : ℕ) {new : Bool} {x x₁ : encoder.State} (cl : List ℕ) (w : Origin)
    (e : new ≡ not (known (variables_of x) (gate (goal_at c q)))) (i : w ≡ gate (goal_at c q)) (d : PlainDoes (λ c v. add_variable w) x x₁) where
  opened : ClausesDoes c (λ v. add_variable (gate (goal_at c q))) x cl x₁ cl
  opened = rw i at (state_does_clauses {cl = cl} (at_catalogue {c = c} d))

  through : (v : Reading) (wt : List ℕ) → after_gate c (run_of r) q new (add_variable (gate (goal_at c q)) (state_of c x.limits v x.used (regions_of x) cl wt))
      ≡ add_through_gate c (run_of r) q (state_of c x.limits v x.used (regions_of x) cl wt)
  through v wt = through_is c (run_of r) q (state_of c x.limits v x.used (regions_of x) cl wt) new (unfold state_of in e)

  pub through_full : is_full x₁.used ≡ true → ClausesDoes c (λ v. add_through_gate c (run_of r) q) x cl x₁ cl
  through_full f =
      clauses_do_as (clauses_do_stop {G = λ v. after_gate c (run_of r) q new} opened (λ v s. after_widens c (run_of r) q new s) f)
      (λ v s. through_gate_widens c (run_of r) q s) (λ wt _ _ v. through v wt)

  pub through_added : {x₂ x₃ : encoder.State} {cl₂ cl₃ : List ℕ} {y o : ℕ} → is_full x₁.used ≡ false
      → Found x₁.limits (variables_of x₁) (gate (goal_at c q)) y → Found x₁.limits (variables_of x₁) (chosen (owner_at c q)) o
      → ClausesDoes c (λ v. add_gate c (run_of r) q new) x₁ cl x₂ cl₂ → Adds r (any_gate y o) x₂ cl₂ x₃ cl₃
      → ClausesDoes c (λ v. add_through_gate c (run_of r) q) x cl x₃ cl₃
  through_added {y = y} {o = o} f p k a b =
      clauses_do_as (clauses_do_then opened (clauses_do_then a (adds_do b))) (λ v s. through_gate_widens c (run_of r) q s)
      (λ wt g _ v. let vs = variables_law wt g v in
      after_is c (run_of r) q new (add_variable (gate (goal_at c q)) (state_of c x.limits v x.used (regions_of x) cl wt)) y o (rw vs at p.is) (rw vs at k.is) ∙ through v wt)
    where
      variables_law : (wt : List ℕ) → IsGoodWith c x cl wt → (v : Reading)
          → variables_of x₁ ≡ (add_variable (gate (goal_at c q)) (state_of c x.limits v x.used (regions_of x) cl wt)).variables
      variables_law wt g v = rw opened.limits (variables_after_law (opened.did.is wt) g f v)
