-- Lines: a law for each way out of a function that prints one.
use mathlib.Core.Path.{◌≡◌, sym, ◌∙◌}
use Rattle.std.specs.Prelude as code
use Rattle.std.specs.Prelude.{None, Some}
use native.Mathlib.Decide.{ℕ_discrete}
use mathlib.Core.List.{List, [], ◌∷◌, append-nil}
use Prim.Native.Nat.{ℕ}
use lib.ListN.{get_or}
use borrow.Author.Tests.{ne_eqb}
use Rattle.rules.specs.Lists.{concat_map}
use Rattle.rules.specs.Catalogue.{root}
use Rattle.rules.specs.Decisions as decisions
use Rattle.rules.specs.Variables as variables
use Rattle.rules.specs.Listing.{ascii, decimal, line, owner_field, origin_fields, decision_line}
use Rattle.text.specs.Text.{fields}
use Rattle.text.specs.declared.Writer.{Writer}
use Rattle.text.specs.Writing.{Writes}
use Rattle.text.proofs.Writing.{nothing, fields_one, fields_first, line_is}
use Rattle.variable_map.specs.declared.Origin.{Origin}
use Rattle.variable_map.specs.Mapping.{origin_of}
use Rattle.decision_tracker.specs.declared.Decision.{Decision}
use Rattle.decision_tracker.specs.Tracking.{no_decision, decision_of}
use Rattle.requirement.specs.declared.Owner.{Owner}
use Rattle.requirement.specs.Requirements.{owner_is}
use Rattle.marked.specs.Marked.{owner_of}
use Rattle.solver.specs.declared.Stored.{Stored}
use Rattle.solver.specs.Rows.{Row, no_row, row_of}
use Rattle.solver.specs.Clauses.{run_by}
use Rattle.encoder.specs.Held.{conflict_if}
use Rattle.line_fields.specs.Listed.{decision_fields, variable_text, owner_text, name_text, conflict_lines, conflict_text, decision_text}
use Rattle.line_fields.proofs.Fields.{two_fields}

-- ---- a letter, fields and a line feed

module _ {w w1 w2 w3 : Writer} where
  pub owner_line : (o : Owner) (x : ℕ) (os : List ℕ) (i : ℕ) → owner_is o ≡ owner_of x → x ≡ get_or os i 0 → Writes w w1 (111 ∷ [])
      → Writes w1 w2 (fields (owner_field (owner_is o) ∷ [])) → Writes w2 w3 (10 ∷ []) → Writes w w3 (owner_text os i)
  unfolding owner_text ascii
  owner_line o x os i d e u v y = rw (← e, ← d) (line_is _ u v y)

  pub name_line : (x : ℕ) (ns : List ℕ) (i : ℕ) → x ≡ get_or ns i 0 → Writes w w1 (112 ∷ []) → Writes w1 w2 (32 ∷ decimal x) → Writes w2 w3 (10 ∷ [])
      → Writes w w3 (name_text ns i)
  unfolding name_text ascii
  name_line x ns i e u v y = rw (← e) (line_is _ u (fields_one v) y)

  pub decision_line_law : (d : Decision) (ds : List decisions.Decision) (i : ℕ) → decision_of d ≡ get_or ds i no_decision → Writes w w1 (100 ∷ [])
      → Writes w1 w2 (fields (decision_fields (decision_of d))) → Writes w2 w3 (10 ∷ []) → Writes w w3 (decision_text ds i)
  unfolding decision_text decision_line decision_fields ascii
  decision_line_law d ds i e u v y = rw (← e) (line_is _ u v y)

  module _ {w4 : Writer} where
    pub pair_line : (letter x y : ℕ) → Writes w w1 (letter ∷ []) → Writes w1 w2 (32 ∷ decimal x) → Writes w2 w3 (32 ∷ decimal y)
        → Writes w3 w4 (10 ∷ []) → Writes w w4 (line ((letter ∷ []) ∷ decimal x ∷ decimal y ∷ []))
    pair_line letter x y t u v z = line_is _ t (two_fields u v) z

    pub variable_line : (x : Origin) (vs : List variables.Origin) (i : ℕ) → origin_of x ≡ get_or vs i (variables.chosen root) → Writes w w1 (118 ∷ [])
        → Writes w1 w2 (32 ∷ decimal i) → Writes w2 w3 (fields (origin_fields (origin_of x))) → Writes w3 w4 (10 ∷ [])
        → Writes w w4 (variable_text vs i)
    unfolding variable_text ascii
    variable_line x vs i e t u v y = rw (← e) (line_is _ t (fields_first _ u v) y)

-- ---- a conflict

run_here : (x y : ℕ) → run_by x ≡ Some y → (x ≡ y) × (x ≡ 0 → ⊥)
run_here x y e = elim (ℕ_discrete x 0) [
  | yes z ↦ let q : None ≡ Some y = rw z at e in let no : ⊥ = cc in absurd no
  | no d ↦ let q : Some x ≡ Some y = rw (ne_eqb x 0 d) at e in (cc, d)
]

no_run : (x : ℕ) → run_by x ≡ None → x ≡ 0
no_run x e = elim (ℕ_discrete x 0) [
  | yes z ↦ z
  | no d ↦ let q : Some x ≡ None = rw (ne_eqb x 0 d) at e in let no : ⊥ = cc in absurd no
]

module _ {w : Writer} (x : Stored) (rs : List Row) (i : ℕ) (e : row_of x ≡ get_or rs i no_row) {r : code.Option ℕ} (f : r ≡ run_by x.conflict) where
  pub conflict_none : r ≡ None → Writes w w (conflict_text rs i)
  unfolding conflict_text conflict_lines conflict_if concat_map row_of
  conflict_none h = rw (← e, no_run x.conflict (sym f ∙ h)) (nothing w)

  pub conflict_some : {w1 : Writer} (y : ℕ) → r ≡ Some y → Writes w w1 (line ((120 ∷ []) ∷ decimal y ∷ decimal i ∷ [])) → Writes w w1 (conflict_text rs i)
  unfolding conflict_text conflict_lines conflict_if concat_map row_of ascii
  conflict_some y h g =
      let q = run_here x.conflict y (sym f ∙ h) in
      rw (← e, ne_eqb x.conflict 0 q.1, append-nil, q.0) g
