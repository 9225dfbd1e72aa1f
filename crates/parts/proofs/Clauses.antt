-- A clause is added for a part that has a variable, or for each of these parts.
use mathlib.Core.Path.{◌≡◌, refl, ◌∙◌, ap}
use mathlib.Core.Bool.{Bool, true, false}
use mathlib.Core.List.{List, [], ◌∷◌, map}
use Prim.Native.Nat.{ℕ, ◌+◌, ◌<◌, ◌≤◌}
use native.Mathlib.Omega.{arith}
use lib.ListN.{length}
use Rattle.rules.specs.Lists.{filter, fold, when, up_to}
use Rattle.rules.specs.Clause.{Clause, excluded, constrains, aux_out, lock}
use Rattle.rules.specs.Catalogue.{Catalogue}
use Rattle.rules.specs.Variables.{Origin, known, part_origin, part_variable}
use Rattle.rules.specs.State.{State}
use Rattle.rules.specs.State as rules
use Rattle.rules.proofs.Each.{Each, each_out}
use Rattle.rules.proofs.ListLaws.{up_to_member}
use Rattle.rules.proofs.MemberLaws.{in_filter}
use Rattle.rules.proofs.ClauseByClause.{add_clause}
use Rattle.tables.specs.declared.Counts.{Counts}
use Rattle.cache.specs.Areas.{catalogue}
use Rattle.cache.proofs.Laws.{parts_held}
use Rattle.state.specs.declared.Limits.{Limits}
use Rattle.encoder.specs.declared.Run.{Run}
use Rattle.encoder.specs.declared.State as encoder
use Rattle.encoder.specs.Held.{run_of, state_of, KnownUnlessFull}
use Rattle.encoder.specs.Did.{Looked, is_full}
use Rattle.encoder.specs.Does.{ClausesDoes, IsGoodWith, variables_of}
use Rattle.encoder.proofs.Did.{did_as}
use Rattle.encoder.proofs.Widening.{add_clause_widens, add_clause_variables}
use Rattle.encoder.proofs.Does.{clauses_do_same, clauses_do_none, clauses_do_then, good_with_later, known_clauses_then}
use Rattle.storing.specs.Adding.{reason_for, Adds}
use Rattle.index.specs.Chains.{Skips}
use Rattle.index.proofs.Walking.{walk}
use Rattle.parts.specs.declared.Parts.{Parts}
use Rattle.parts.specs.declared.Adding.{Adding}
use Rattle.parts.specs.Parts.{selected_of, parts_for, clause_for, adding_of, CanAdd}
use Rattle.parts.proofs.Lists.{fold_none, fold_more}

-- ---- one part

module _ (s : encoder.State) {x p : ℕ} (k : Looked (variables_of s) (part_origin p) x) (h : KnownUnlessFull (is_full s.used) (variables_of s) (p ∷ [])) where
  its_variable : is_full s.used ≡ false → x ≡ part_variable (variables_of s) p
  its_variable f = first (h.known f).known
    where
      first : Each (λ q. known (variables_of s) (part_origin q) ≡ true) (p ∷ []) → x ≡ part_variable (variables_of s) p
      first (Each.cons q qs) = k.is q

  module _ {c : Catalogue} {r : Run} {s' : encoder.State} {cl cl' : List ℕ} (a : Adding) where
    added : {i : Clause} → Adds r i s cl s' cl' → i ≡ clause_for a x p → ClausesDoes c (λ v. adding_of (run_of r) a p) s cl s' cl'
    added d q =
        record {
          limits = d.limits;
          area = d.area;
          did = record { is = λ wt. did_as (d.is c wt) (λ v u. unfold adding_of in add_clause_widens _ _ u) (λ _ f v. unfold adding_of state_of in rw (q, its_variable f)) };
        }

    pub lock_added : a ≡ Adding.Lock → Adds r (lock x) s cl s' cl' → ClausesDoes c (λ v. adding_of (run_of r) a p) s cl s' cl'
    lock_added i d = added d (unfold clause_for in rw i)

    pub excluded_added : a ≡ Adding.Excluded → Adds r (excluded x p (reason_for false)) s cl s' cl' → ClausesDoes c (λ v. adding_of (run_of r) a p) s cl s' cl'
    excluded_added i d = added d (unfold clause_for reason_for in rw i)

    pub constrains_added : {y : ℕ} → a ≡ Adding.Constrains y → Adds r (constrains y x) s cl s' cl' → ClausesDoes c (λ v. adding_of (run_of r) a p) s cl s' cl'
    constrains_added i d = added d (unfold clause_for in rw i)

    pub aux_out_added : {y : ℕ} → a ≡ Adding.AuxOut y → Adds r (aux_out x y) s cl s' cl' → ClausesDoes c (λ v. adding_of (run_of r) a p) s cl s' cl'
    aux_out_added i d = added d (unfold clause_for in rw i)

pub selected_known : (k : Counts) (m u t : List ℕ) (which : Parts) {p : ℕ} {b full : Bool} {vs : List Origin}
    → KnownUnlessFull full vs (parts_for (catalogue k m u t) which) → p < k.parts → b ≡ selected_of (catalogue k m u t) which p → b ≡ true → KnownUnlessFull full vs (p ∷ [])
unfolding parts_for
selected_known k m u t which {p} a h e i =
    let c = catalogue k m u t in
    let i = in_filter (selected_of c which) (up_to 0 (length c.parts)) (up_to_member (length c.parts) p (rw parts_held h)) (rw (← e) i) in
    record { known = λ f. record { known = Each.cons (each_out (a.known f).known i) Each.nil } }

module _ {c : Catalogue} (r : rules.Run) {x : encoder.State} {cl : List ℕ} (which : Parts) (a : Adding) (p : ℕ) {b : Bool} (e : b ≡ selected_of c which p) where
  pub adding_selected : {x' : encoder.State} {cl' : List ℕ} → b ≡ true → ClausesDoes c (λ v. adding_of r a p) x cl x' cl'
      → ClausesDoes c (λ v. when (selected_of c which p) (adding_of r a p)) x cl x' cl'
  adding_selected i d = clauses_do_same d (λ v s. unfold when in rw (← e, i))

  pub adding_other : b ≡ false → ClausesDoes c (λ v. when (selected_of c which p) (adding_of r a p)) x cl x cl
  adding_other i = clauses_do_none (λ v s. unfold when in rw (← e, i))

-- ---- each of these

-- those below p have their clauses
pub record AddedSoFar (c : Catalogue) (r : rules.Run) (which : Parts) (a : Adding) (count : ℕ) (x₀ : encoder.State) (cl₀ : List ℕ) (x : encoder.State) (cl : List ℕ) (p : ℕ) : Type 0 where
  pub within : p ≤ count
  pub same_clauses : length cl ≡ length cl₀
  pub good : IsGoodWith c x cl []
  pub known : KnownUnlessFull (is_full x.used) (variables_of x) (parts_for c which)
  pub does : ClausesDoes c (λ v. fold (adding_of r a) (filter (selected_of c which) (up_to 0 p))) x₀ cl₀ x cl

-- a clause can be added still
pub still_can : {l l' : Limits} {r : Run} {a : Adding} → l' ≡ l → CanAdd l r a → CanAdd l' r a
still_can e h = rw e h

module _ {c : Catalogue} {r : rules.Run} {which : Parts} {a : Adding} {count : ℕ} {x₀ : encoder.State} {cl₀ : List ℕ} where
  adding_start : IsGoodWith c x₀ cl₀ [] → KnownUnlessFull (is_full x₀.used) (variables_of x₀) (parts_for c which) → AddedSoFar c r which a count x₀ cl₀ x₀ cl₀ 0
  adding_start g h =
      record {
        within = omega arith;
        same_clauses = refl;
        good = g;
        known = h;
        does = clauses_do_none (λ v s. fold_none (selected_of c which) (adding_of r a) s);
      }

  adding_step : {x x' : encoder.State} {cl cl' : List ℕ} {p : ℕ} → AddedSoFar c r which a count x₀ cl₀ x cl p → p < count → length cl' ≡ length cl
      → ClausesDoes c (λ v. when (selected_of c which p) (adding_of r a p)) x cl x' cl' → AddedSoFar c r which a count x₀ cl₀ x' cl' (p + 1)
  adding_step {p = p} y h j d =
      record {
        within = omega arith;
        same_clauses = j ∙ y.same_clauses;
        good = good_with_later d y.good;
        known = known_clauses_then d y.good y.known;
        does = clauses_do_same (clauses_do_then y.does d) (λ v s. fold_more (selected_of c which) (adding_of r a) p s);
      }

  adding_on : {x : encoder.State} {cl : List ℕ} {p q : ℕ} → Skips count (selected_of c which) p q → AddedSoFar c r which a count x₀ cl₀ x cl p → AddedSoFar c r which a count x₀ cl₀ x cl q
  adding_on {x} {cl} z y = walk (AddedSoFar c r which a count x₀ cl₀ x cl) (λ i h e y. adding_step y h refl (adding_other r which a i refl e)) z y

  pub adding_first : {q : ℕ} → IsGoodWith c x₀ cl₀ [] → KnownUnlessFull (is_full x₀.used) (variables_of x₀) (parts_for c which)
      → Skips count (selected_of c which) 0 q → AddedSoFar c r which a count x₀ cl₀ x₀ cl₀ q
  adding_first g h z = adding_on z (adding_start g h)

  pub adding_next : {x x' : encoder.State} {cl cl' : List ℕ} {p q : ℕ} → AddedSoFar c r which a count x₀ cl₀ x cl p → p < count → length cl' ≡ length cl
      → ClausesDoes c (λ v. when (selected_of c which p) (adding_of r a p)) x cl x' cl' → Skips count (selected_of c which) (p + 1) q
      → AddedSoFar c r which a count x₀ cl₀ x' cl' q
  adding_next y h j d z = adding_on z (adding_step y h j d)

pub adding_end : (k : Counts) (m u t : List ℕ) {r : rules.Run} {which : Parts} {a : Adding} {x₀ x : encoder.State} {cl₀ cl : List ℕ} {p : ℕ}
    → AddedSoFar (catalogue k m u t) r which a k.parts x₀ cl₀ x cl p → k.parts ≤ p
    → ClausesDoes (catalogue k m u t) (λ v. fold (adding_of r a) (parts_for (catalogue k m u t) which)) x₀ cl₀ x cl
unfolding parts_for
adding_end k m u t {p = p} y h =
    let e : p ≡ k.parts = omega (arith, y.within) in
    rw parts_held (rw e at y.does)

-- ---- for callers: with all variables there, these are the clauses of the parts one after another

module _ (r : rules.Run) where
  pub adds_are : (a : Adding) (ps : List ℕ) (vs : List Origin) (s : State) → s.variables ≡ vs
      → fold (adding_of r a) ps s ≡ fold (add_clause r) (map (λ p. clause_for a (part_variable vs p) p) ps) s
  unfolding fold adding_of
  adds_are a [] vs s e = refl
  adds_are a (p ∷ ps) vs s e =
      ap (λ (us : List Origin). fold (adding_of r a) ps (add_clause r (clause_for a (part_variable us p) p) s)) e ∙ (adds_are a ps vs (add_clause r (clause_for a (part_variable vs p) p) s) (add_clause_variables r _ s ∙ e))

  pub adds_leave : (a : Adding) (ps : List ℕ) (s : State) → (fold (adding_of r a) ps s).variables ≡ s.variables
  unfolding fold adding_of
  adds_leave a [] s = refl
  adds_leave a (p ∷ ps) s = adds_leave a ps (adding_of r a p s) ∙ add_clause_variables r _ s
