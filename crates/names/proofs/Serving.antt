-- A name's task: what its steps do together.
use mathlib.Core.Path.{◌≡◌, refl, sym, ◌∙◌, ap}
use mathlib.Core.Bool.{Bool, true, false}
use mathlib.Core.List.{List, ◌++◌, map, append_assoc}
use Prim.Native.Nat.{ℕ}
use lib.ListN.{get_or}
use Rattle.rules.specs.Lists.{fold, when}
use Rattle.rules.specs.Clause.{lock, excluded, exclusion}
use Rattle.rules.specs.Catalogue.{Catalogue}
use Rattle.rules.specs.Candidates.{locked_part, locked_out, excluded_parts}
use Rattle.rules.specs.Variables.{Origin, part_origin, part_variable, with_variables}
use Rattle.rules.specs.Opening.{name, Opening, serve_name, serve}
use Rattle.rules.specs.Encoding.{served, task_origins, origins, task_clauses, clauses}
use Rattle.rules.specs.State.{State, Run, set_variables, set_opening}
use Rattle.rules.specs.Run.{serve_task}
use Rattle.rules.proofs.Each.{each_right}
use Rattle.rules.proofs.DistinctEnough.{fold_append}
use Rattle.rules.proofs.ClauseByClause.{add_clause, emit_one_by_one}
use Rattle.rules.proofs.Forgotten.{when_commutes, erased}
use Rattle.tables.specs.declared.Counts.{Counts}
use Rattle.tables.specs.Tables.{tables}
use Rattle.cache.specs.Areas.{catalogue}
use Rattle.cache.proofs.Laws.{several_held}
use Rattle.encoder.specs.declared.State as encoder
use Rattle.encoder.specs.Did.{on_opening, with_several}
use Rattle.encoder.specs.Does.{StateDoes, PlainDoes, ClausesDoes, IsGood}
use Rattle.encoder.specs.Held.{KnownUnlessFull}
use Rattle.encoder.proofs.Does.{does_same, does_then, does_none, at_catalogue, good_then, known_then, clauses_do_same, clauses_do_then, state_then_clauses_do}
use Rattle.parts.specs.declared.Parts.TheVariants.{Excluded}
use Rattle.parts.specs.declared.Naming.TheVariants.{Variable}
use Rattle.parts.specs.declared.Adding.TheVariants as Adding
use Rattle.parts.specs.Parts.{parts_for, naming_of, clause_for, adding_of}
use Rattle.parts.proofs.Selecting.{excluded_parts_law}
use Rattle.parts.proofs.Names.{named_known}
use Rattle.parts.proofs.Clauses.{adds_are, adds_leave}
use Rattle.parts.proofs.Serving.{names_are, task_served}
use Rattle.owners.specs.Owners.{serving}
use Rattle.names.specs.Names.{name_parts, NamesParts, add_clauses}

-- ---- several allowed

module _ (k : Counts) (m u t : List ℕ) (n : ℕ) {x : encoder.State} {b : Bool} (e : b ≡ get_or (tables k t).names n false) where
  pub several_served_law : {x' : encoder.State} → b ≡ true → PlainDoes (λ c v. on_opening (with_several n)) x x'
      → StateDoes (catalogue k m u t) (λ v. on_opening (serve_name (catalogue k m u t) n)) x x'
  several_served_law i d = does_same (at_catalogue d) (λ v s. unfold on_opening with_several serve_name when in rw (several_held k m u t n, ← e, i))

  pub several_not : b ≡ false → StateDoes (catalogue k m u t) (λ v. on_opening (serve_name (catalogue k m u t) n)) x x
  several_not i = does_none (λ v s. unfold on_opening serve_name when in rw (several_held k m u t n, ← e, i))

-- ---- the clauses

module _ {c : Catalogue} (r : Run) (n : ℕ) {x x' x'' : encoder.State} {cl cl' cl'' : List ℕ} where
  pub clauses_added : ClausesDoes c (λ v. fold (adding_of r Adding.Lock) (locked_out c n)) x cl x' cl'
      → ClausesDoes c (λ v. fold (adding_of r Adding.Excluded) (parts_for c (Excluded n))) x' cl' x'' cl''
      → ClausesDoes c (λ v. add_clauses c r n) x cl x'' cl''
  clauses_added d g = clauses_do_same (clauses_do_then d g) (λ v s. unfold add_clauses in rw (excluded_parts_law c n))

pub excluded_known : (c : Catalogue) (n : ℕ) {full : Bool} {vs : List Origin} → KnownUnlessFull full vs (excluded_parts c n) → KnownUnlessFull full vs (parts_for c (Excluded n))
excluded_known c n a = rw (excluded_parts_law c n) a

-- ---- all together

module _ (c : Catalogue) (r : Run) (n : ℕ) where
  abbrev lp : List ℕ
  lp = locked_part c n

  abbrev lo : List ℕ
  lo = locked_out c n

  abbrev ex : List ℕ
  ex = excluded_parts c n

  -- every part gets its variable, in this order
  all_named : (s : State) → fold (naming_of c Variable) ex (fold (naming_of c Variable) (lp ++ lo) s)
      ≡ set_variables (with_variables (map part_origin (lp ++ (lo ++ ex))) s.variables) s
  all_named s =
      sym (fold_append (naming_of c Variable) (lp ++ lo) ex s)
      ∙ (ap (λ (ps : List ℕ). fold (naming_of c Variable) ps s) (append_assoc lp lo ex) ∙ names_are c (lp ++ (lo ++ ex)) s)

  -- then every clause is added
  all_added : (vs : List Origin) (s : State) → s.variables ≡ vs
      → fold (adding_of r Adding.Excluded) ex (fold (adding_of r Adding.Lock) lo s)
      ≡ fold (add_clause r) (map (λ p. lock (part_variable vs p)) lo ++ map (λ p. excluded (part_variable vs p) p exclusion) ex) s
  all_added vs s e =
      let u = fold (adding_of r Adding.Lock) lo s in
      adds_are r Adding.Excluded ex vs u (adds_leave r Adding.Lock lo s ∙ e)
      ∙ (ap (fold (add_clause r) (map (λ p. clause_for Adding.Excluded (part_variable vs p) p) ex)) (adds_are r Adding.Lock lo vs s e)
      ∙ (sym (fold_append (add_clause r) (map (λ p. clause_for Adding.Lock (part_variable vs p) p) lo) (map (λ p. clause_for Adding.Excluded (part_variable vs p) p) ex) s)
      ∙ unfold clause_for in refl))

  steps_serve : (s : State) → add_clauses c r n (name_parts c n s) ≡ serve_task c r (name n) s
  unfolding add_clauses name_parts serve_task serve on_opening origins task_origins clauses task_clauses
  steps_serve s =
      let u : State = set_opening (serve_name c n s.opening) s in
      let vs : List Origin = with_variables (map part_origin (lp ++ (lo ++ ex))) s.variables in
      ap (λ (w : State). fold (adding_of r Adding.Excluded) ex (fold (adding_of r Adding.Lock) lo w)) (all_named u)
      ∙ (all_added vs (set_variables vs u) refl ∙ sym (emit_one_by_one c r (served (name n)) u))

  name_erased : (f : ℕ → Bool) (o : Opening) → serve c f (name n) (erased o) ≡ erased (serve c f (name n) o)
  unfolding serve serve_name
  name_erased f o = when_commutes erased _ _ (λ u. refl) o

pub name_served : {c : Catalogue} (r : Run) (n : ℕ) {x x' x'' : encoder.State} {cl cl' : List ℕ}
    → NamesParts c n x x' → ClausesDoes c (λ v. add_clauses c r n) x' cl x'' cl' → ClausesDoes c (λ v. serving c r (name n)) x cl x'' cl'
unfolding serving
name_served {c} r n d g = task_served c r (name n) (name_erased c r n) (state_then_clauses_do d.does g) (λ v s. steps_serve c r n s)

-- ---- the parts are named

module _ {c : Catalogue} (n : ℕ) {x₀ x₁ x₂ x₃ : encoder.State} (g₀ : IsGood c x₀)
    (d₁ : StateDoes c (λ v. on_opening (serve_name c n)) x₀ x₁)
    (d₂ : StateDoes c (λ v. fold (naming_of c Variable) (locked_part c n ++ locked_out c n)) x₁ x₂)
    (d₃ : StateDoes c (λ v. fold (naming_of c Variable) (parts_for c (Excluded n))) x₂ x₃) where
  pub parts_named : NamesParts c n x₀ x₃
  parts_named =
      let g₁ = good_then d₁ g₀ in
      let g₂ = good_then d₂ g₁ in
      let k = named_known Variable d₂ g₁ in
      record {
        does = does_same (does_then (does_then d₁ d₂) d₃) (λ v s. unfold name_parts in rw (excluded_parts_law c n));
        locked = known_then d₃ g₂ (record { known = λ e. record { known = each_right (locked_part c n) (k.known e).known } });
        excluded = rw (excluded_parts_law c n) at (named_known Variable d₃ g₂);
      }
