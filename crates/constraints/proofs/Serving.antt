-- A constraint's task: what its steps do together.
use mathlib.Core.Path.{◌≡◌, refl, sym, ◌∙◌, ap}
use mathlib.Core.Bool.{Bool, true, false, not}
use mathlib.Core.List.{List, [], ◌∷◌, ◌++◌, map}
use Prim.Native.Nat.{ℕ, ◌<◌, ◌≤◌}
use native.Mathlib.Omega.{arith}
use lib.ListN.{length, get_or}
use borrow.Author.Tests.{lt-ltb, le-ltb}
use Rattle.rules.specs.Lists.{fold, when, list_if}
use Rattle.rules.specs.Clause.{Clause, constrains, aux_out, aux_owner}
use Rattle.rules.specs.Catalogue.{Owner, root, part, Catalogue, no_constraint, constraint_at}
use Rattle.rules.specs.Candidates.{non_matching}
use Rattle.rules.specs.Variables.{Origin, chosen, violation, key, same_key, same_origin, known, variable_of, with_variable, with_variables, part_origin, part_variable}
use Rattle.rules.specs.Opening.{constraint, serve}
use Rattle.rules.specs.Encoding.{few, served, constraint_origins, task_origins, origins, constraint_clauses, task_clauses, clauses}
use Rattle.rules.specs.State.{State, Run, set_variables, emit}
use Rattle.rules.specs.Run.{serve_task}
use Rattle.rules.proofs.Each.{unless_cases}
use Rattle.rules.proofs.DistinctEnough.{fold_append}
use Rattle.rules.proofs.ClauseByClause.{add_clause, emit_one_by_one}
use Rattle.rules.proofs.Capped.{add_variable}
use Rattle.rules.proofs.Bools.{or_none}
use Rattle.requirement.specs.Requirements.{owner_is}
use Rattle.tables.specs.declared.Counts.{Counts}
use Rattle.tables.specs.declared.Constraint as code
use Rattle.tables.specs.Tables.{tables, constraint_is}
use Rattle.cache.specs.Areas.{catalogue}
use Rattle.cache.specs.Lists.{Counted}
use Rattle.variable_map.specs.declared.Origin as variable_map
use Rattle.variable_map.specs.Mapping.{origin_of}
use Rattle.variable_map.proofs.Places.{known_after}
use Rattle.encoder.specs.declared.State as encoder
use Rattle.encoder.specs.Does.{PlainDoes, ClausesDoes}
use Rattle.encoder.proofs.Does.{at_catalogue, clauses_do_none, state_then_clauses_do}
use Rattle.parts.specs.declared.Naming.TheVariants.{Variable}
use Rattle.parts.specs.declared.Adding.TheVariants.{Constrains, AuxOut}
use Rattle.parts.specs.Parts.{naming_of, clause_for, adding_of}
use Rattle.parts.proofs.Clauses.{adds_are}
use Rattle.parts.proofs.Serving.{names_are, task_served}
use Rattle.owners.specs.Owners.{serving}
use Rattle.constraints.specs.Constraints.{constrain_few, add_violation, constrain_many}
use Rattle.constraints.proofs.Owners.{range_at, owner_at_law}

-- ---- by how many parts do not match

pub is_few : (c : Catalogue) (r : ℕ) {x : ℕ} → Counted x (non_matching c r) → x < 4 → few (non_matching c r) ≡ true
unfolding few
is_few c r k h = lt-ltb (length (non_matching c r)) 4 (omega (arith, k.is))

pub is_many : (c : Catalogue) (r : ℕ) {x : ℕ} → Counted x (non_matching c r) → 4 ≤ x → few (non_matching c r) ≡ false
unfolding few
is_many c r k h = le-ltb (length (non_matching c r)) 4 (omega (arith, k.is))

-- ---- where every part matches

module _ (c : Catalogue) (run : Run) (o : Owner) (r : ℕ) where
  nothing : non_matching c r ≡ [] → (s : State) → s ≡ constrain_few c run o r s
  unfolding constrain_few fold
  nothing e s = rw e

  pub none_constrained : {x : ℕ} {z : encoder.State} {cl : List ℕ} → Counted x (non_matching c r) → x ≡ 0 → ClausesDoes c (λ v. constrain_few c run o r) z cl z cl
  none_constrained k h = clauses_do_none (λ v s. nothing (none_of (non_matching c r) (omega (arith, k.is))) s)
    where
      none_of : (xs : List ℕ) → length xs ≡ 0 → xs ≡ []
      none_of [] e = refl
      none_of (x ∷ xs) e = (let no : ⊥ = omega arith in absurd no)

-- ---- the owner is no violation

apart : (r : ℕ) (o : Owner) → same_origin (violation r) (chosen o) ≡ false
unfolding key same_key
apart r root = refl
apart r (part p) = refl

same_violation : (vs : List Origin) (o : Owner) (r : ℕ) → known (with_variable (chosen o) vs) (violation r) ≡ known vs (violation r)
unfolding with_variable
same_violation vs o r =
    unless_cases (λ (us : List Origin). known us (violation r) ≡ known vs (violation r)) _ _ vs (λ e. refl)
    (λ e. rw (known_after vs (chosen o) (violation r), apart r o) (or_none (known vs (violation r))))

-- ---- all together

module _ (c : Catalogue) (run : Run) (i : ℕ) where
  abbrev o : Owner
  o = (constraint_at c i).owner

  abbrev r : ℕ
  r = (constraint_at c i).range

  abbrev nm : List ℕ
  nm = non_matching c r

  abbrev few_variables : State → List Origin
  few_variables s = with_variables (map part_origin nm) (with_variable (chosen o) s.variables)

  abbrev many_variables : State → List Origin
  many_variables s = with_variables (map part_origin nm) (with_variable (violation r) (with_variable (chosen o) s.variables))

  abbrev few_clauses : List Origin → List Clause
  few_clauses vs = map (λ p. constrains (variable_of vs (chosen o)) (part_variable vs p)) nm

  abbrev many_clauses : Bool → List Origin → List Clause
  many_clauses new vs =
      list_if new (map (λ p. aux_out (part_variable vs p) (variable_of vs (violation r))) nm) ++ (aux_owner (variable_of vs (chosen o)) (variable_of vs (violation r)) ∷ [])

  -- the event
  few_emitted : few nm ≡ true → (s : State) → emit c run (served (constraint i)) s ≡ fold (add_clause run) (few_clauses (few_variables s)) (set_variables (few_variables s) s)
  unfolding origins task_origins constraint_origins clauses task_clauses constraint_clauses with_variables fold
  few_emitted e s = emit_one_by_one c run (served (constraint i)) s ∙ rw e

  many_emitted : few nm ≡ false → (s : State)
      → emit c run (served (constraint i)) s ≡ fold (add_clause run) (many_clauses (not (known s.variables (violation r))) (many_variables s)) (set_variables (many_variables s) s)
  unfolding origins task_origins constraint_origins clauses task_clauses constraint_clauses with_variables fold
  many_emitted e s = emit_one_by_one c run (served (constraint i)) s ∙ rw e

  -- the variables
  few_named : (s : State) → fold (naming_of c Variable) nm (add_variable (chosen o) s) ≡ set_variables (few_variables s) s
  unfolding add_variable
  few_named s = names_are c nm (add_variable (chosen o) s)

  many_named : (s : State) → fold (naming_of c Variable) nm (add_variable (violation r) (add_variable (chosen o) s)) ≡ set_variables (many_variables s) s
  unfolding add_variable
  many_named s = names_are c nm (add_variable (violation r) (add_variable (chosen o) s))

  -- the clauses
  few_added : (vs : List Origin) (s : State)
      → fold (adding_of run (Constrains (variable_of vs (chosen o)))) nm (set_variables vs s) ≡ fold (add_clause run) (few_clauses vs) (set_variables vs s)
  unfolding clause_for
  few_added vs s = adds_are run (Constrains (variable_of vs (chosen o))) nm vs (set_variables vs s) refl

  many_added : (new : Bool) (vs : List Origin) (s : State) → add_violation c run o r new (set_variables vs s) ≡ fold (add_clause run) (many_clauses new vs) (set_variables vs s)
  unfolding add_violation when list_if fold clause_for
  many_added true vs s =
      let last : Clause = aux_owner (variable_of vs (chosen o)) (variable_of vs (violation r)) in
      ap (add_clause run last) (adds_are run (AuxOut (variable_of vs (violation r))) nm vs (set_variables vs s) refl)
      ∙ sym (fold_append (add_clause run) (map (λ p. aux_out (part_variable vs p) (variable_of vs (violation r))) nm) (last ∷ []) (set_variables vs s))
  many_added false vs s = refl

  few_serves : few nm ≡ true → (s : State) → constrain_few c run o r (add_variable (chosen o) s) ≡ serve_task c run (constraint i) s
  unfolding constrain_few serve_task serve
  few_serves e s =
      ap (λ (a : State). fold (adding_of run (Constrains (variable_of a.variables (chosen o)))) nm a) (few_named s)
      ∙ (few_added (few_variables s) s ∙ sym (few_emitted e s))

  many_serves : few nm ≡ false → (s : State) → constrain_many c run o r (add_variable (chosen o) s) ≡ serve_task c run (constraint i) s
  unfolding constrain_many serve_task serve
  many_serves e s =
      ap (add_violation c run o r (not (known (add_variable (chosen o) s).variables (violation r)))) (many_named s)
      ∙ (many_added (not (known (add_variable (chosen o) s).variables (violation r))) (many_variables s) s
      ∙ (ap (λ (b : Bool). fold (add_clause run) (many_clauses (not b) (many_variables s)) (set_variables (many_variables s) s)) (same_new s) ∙ sym (many_emitted e s)))
    where
      same_new : (s : State) → known (add_variable (chosen o) s).variables (violation r) ≡ known s.variables (violation r)
      same_new s = unfold add_variable in same_violation s.variables o r

-- ---- for the code: the owner has got its variable

module _ (k : Counts) (m u t : List ℕ) (i : ℕ) (it : code.Constraint) (e : constraint_is it ≡ get_or (tables k t).constraints i no_constraint)
    (w : variable_map.Origin) (g : origin_of w ≡ chosen (owner_is it.owner)) (run : Run)
    {x x' x'' : encoder.State} {cl cl' : List ℕ} (d : PlainDoes (λ c v. add_variable (origin_of w)) x x') {y : ℕ}
    (a : Counted y (non_matching (catalogue k m u t) it.range)) where
  pub few_served : y < 4 → ClausesDoes (catalogue k m u t) (λ v. constrain_few (catalogue k m u t) run (owner_is it.owner) it.range) x' cl x'' cl'
      → ClausesDoes (catalogue k m u t) (λ v. serving (catalogue k m u t) run (constraint i)) x cl x'' cl'
  unfolding serving
  few_served h b =
      let held : Catalogue = catalogue k m u t in
      let q : few (non_matching held (constraint_at held i).range) ≡ true = rw (range_at k m u t i it e) (is_few held it.range a h) in
      task_served held run (constraint i) (λ p z. unfold serve in refl) (state_then_clauses_do (at_catalogue d) b)
      (λ v s. rw (g, ← owner_at_law k m u t i it e, ← range_at k m u t i it e) (few_serves held run i q s))

  pub many_served : 4 ≤ y → ClausesDoes (catalogue k m u t) (λ v. constrain_many (catalogue k m u t) run (owner_is it.owner) it.range) x' cl x'' cl'
      → ClausesDoes (catalogue k m u t) (λ v. serving (catalogue k m u t) run (constraint i)) x cl x'' cl'
  unfolding serving
  many_served h b =
      let held : Catalogue = catalogue k m u t in
      let q : few (non_matching held (constraint_at held i).range) ≡ false = rw (range_at k m u t i it e) (is_many held it.range a h) in
      task_served held run (constraint i) (λ p z. unfold serve in refl) (state_then_clauses_do (at_catalogue d) b)
      (λ v s. rw (g, ← owner_at_law k m u t i it e, ← range_at k m u t i it e) (many_serves held run i q s))
