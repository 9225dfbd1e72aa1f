-- Which clauses assert a variable false, and the line of one that does.
use mathlib.Core.Path.{◌≡◌, refl, ◌∙◌}
use mathlib.Core.Bool.{Bool, true, false, ◌&&◌, cond}
use mathlib.Core.List.{List, [], ◌∷◌, append-nil}
use Prim.Native.Nat.{ℕ, ◌+◌, ◌<◌, ◌≤◌, min}
use native.Mathlib.Decide.{ℕ_discrete}
use native.Mathlib.Omega.{arith}
use lib.Dec.{eqb}
use lib.ListN.{length, get_or, drop, length-map, length-drop}
use lib.Seq.{length-take-le}
use borrow.Author.Tests.{ne_eqb}
use Rattle.std.specs.Prelude.{Option, Some, None}
use Rattle.std.specs.Bool.{then_some}
use Rattle.rules.specs.Lists.{concat_map}
use Rattle.rules.specs.Literal.{Literal}
use Rattle.rules.specs.Clause.{install, owner_alone, asserted}
use Rattle.rules.specs.Catalogue.{Catalogue}
use Rattle.rules.specs.Candidates.{candidates}
use Rattle.rules.specs.Variables.{Origin, part_variable}
use Rattle.rules.specs.Listing.{ascii, decimal, line}
use Rattle.text.specs.declared.Writer.{Writer}
use Rattle.text.specs.Writing.{Writes}
use Rattle.text.proofs.Writing.{nothing}
use Rattle.requirement.specs.declared.Requirement.{Requirement}
use Rattle.requirement.specs.Requirements.{goal_of}
use Rattle.regions.specs.Regions.{size_of}
use Rattle.state.specs.declared.Limits.{Limits}
use Rattle.state.specs.Layout.{sizes, held, Fits}
use Rattle.state.proofs.Changed.{length_held}
use Rattle.variable_map.specs.Mapping.{variables}
use Rattle.solver.specs.declared.Clause.{Clause}
use Rattle.solver.specs.declared.Clause.TheVariants.{Install, Requires, Gated, Excluded, Unknown, Constrains, Forbid, AuxOut, AuxOwner, Lock, AnyGate, AnyOne}
use Rattle.solver.specs.declared.Stored.{Stored}
use Rattle.solver.specs.Clauses.{Says}
use Rattle.solver.specs.Rows.{no_row, row_of, rows}
use Rattle.encoder.specs.declared.Counters.{Counters}
use Rattle.encoder.specs.Clauses.{candidate_variables, clause_is}
use Rattle.encoder.specs.Held.{literals_in}
use Rattle.encoder.proofs.Clauses.{says_clause}
use Rattle.line_fields.specs.Listed.{assertion_text, clauses_of, GoodRows}
use Rattle.clause_lines.specs.Asserted.{asserted_by}
use Rattle.clause_lines.proofs.Clauses.{clause_at, row_sound, stored_within}

-- a count up to 1
pub none_counted : (n m : ℕ) → n ≡ min m 1 → eqb n 0 ≡ eqb m 0
none_counted n m e = elim (ℕ_discrete m 0) [
  | yes z ↦ let q : n ≡ m = omega arith in rw q
  | no z ↦ rw (ne_eqb n 0 (λ q. omega arith), ne_eqb m 0 z)
]

-- ---- an owner's clause

module _ (c : Catalogue) {k : Clause} (o start count : ℕ) (g : Requirement) (e : k ≡ Requires o start count g) where
  pub literals_assert : (count ≡ 0 → ⊥) → None ≡ asserted_by c k
  unfolding asserted_by
  literals_assert d = rw (e, ne_eqb count 0 d)

  pub alone_asserts : {b : Bool} {r : Option ℕ} → count ≡ 0 → b ≡ eqb (length (candidates c (goal_of g))) 0 → r ≡ then_some b o → r ≡ asserted_by c k
  unfolding asserted_by
  alone_asserts d f h = rw (e, d, ← f) h

-- ---- what a clause asserts

alone_is : (x : ℕ) (ks : List Literal) (ps : List ℕ) → owner_alone x ks ps ≡ cond (eqb (length ks) 0 && eqb (length ps) 0) (x ∷ []) []
unfolding owner_alone
alone_is x [] [] = refl
alone_is x [] (p ∷ ps) = rw (ne_eqb (length (p ∷ ps)) 0 (λ z. omega arith))
alone_is x (k ∷ ks) ps = rw (ne_eqb (length (k ∷ ks)) 0 (λ z. omega arith))

-- none or one
abbrev as_list : Option ℕ → List ℕ
as_list None = []
as_list (Some x) = x ∷ []

as_list_if : (b : Bool) (x : ℕ) → cond b (x ∷ []) [] ≡ as_list (then_some b x)
as_list_if true x = refl
as_list_if false x = refl

module _ (c : Catalogue) (vs : List Origin) (w : List ℕ) where
  literals_counted : (start count : ℕ) → start + count ≤ length w → length (literals_in w start count) ≡ count
  unfolding literals_in
  literals_counted start count h = rw length-map (length-take-le count (drop start w) (rw length-drop (omega arith)))

  variables_counted : (g : Requirement) → length (candidate_variables c vs (goal_of g)) ≡ length (candidates c (goal_of g))
  unfolding candidate_variables
  variables_counted g = length-map (candidates c (goal_of g)) (part_variable vs)

  asserted_is : (k : Clause) → ((o start count : ℕ) (g : Requirement) → k ≡ Requires o start count g → start + count ≤ length w)
      → asserted (clause_is c vs w k) ≡ as_list (asserted_by c k)
  unfolding asserted clause_is asserted_by
  asserted_is Install h = refl
  asserted_is (Requires o start count g) h =
      alone_is o (literals_in w start count) (candidate_variables c vs (goal_of g))
      ∙ rw (literals_counted start count (h o start count g refl), variables_counted g) (as_list_if (eqb count 0 && eqb (length (candidates c (goal_of g))) 0) o)
  asserted_is (Gated x g) h = refl
  asserted_is (Excluded x p) h = refl
  asserted_is (Unknown x p) h = refl
  asserted_is (Constrains o x) h = refl
  asserted_is (Forbid x l) h = refl
  asserted_is (AuxOut x v) h = refl
  asserted_is (AuxOwner o v) h = refl
  asserted_is (Lock x) h = refl
  asserted_is (AnyGate g o) h = refl
  asserted_is (AnyOne y x) h = refl

-- ---- its line

module _ (c : Catalogue) (l : Limits) (n : Counters) (b cl : List ℕ) (i : ℕ) (f : Fits l (length b)) (g : GoodRows c l n (held l b) cl) (h : i < n.clauses)
    (x : Stored) (e : row_of x ≡ get_or (rows n.clauses cl) i no_row) (k : Clause) (s : Says k (row_of x)) {y : Option ℕ} (d : y ≡ asserted_by c k) where
  here : asserted (get_or (clauses_of c n (held l b) cl) i install) ≡ as_list y
  here =
      let long : length (held l b 19) ≡ l.literals = length_held l b 19 f ∙ unfold size_of sizes in refl in
      rw (clause_at c n (held l b) cl i x e, says_clause c (variables n.variables (held l b)) (held l b 19) k (row_of x) s, d)
      (asserted_is c (variables n.variables (held l b)) (held l b 19) k
      (λ o start count q z. omega (arith, stored_within (row_sound c n (held l b) cl i x e l g h) s o start count q z l.literals g.literals)))

  pub assertion_some : {w w1 : Writer} (v : ℕ) → y ≡ Some v → Writes w w1 (line ((110 ∷ []) ∷ decimal v ∷ decimal i ∷ []))
      → Writes w w1 (assertion_text (clauses_of c n (held l b) cl) i)
  unfolding assertion_text concat_map ascii
  assertion_some v q z = rw (here, q, concat_map, append-nil) z

  pub assertion_none : (w : Writer) → y ≡ None → Writes w w (assertion_text (clauses_of c n (held l b) cl) i)
  unfolding assertion_text concat_map
  assertion_none w q = rw (here, q, concat_map) (nothing w)
