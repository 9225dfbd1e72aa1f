-- Clauses by their rows: a row that was written says its clause, and one that is read says the same as the clause that it is read as.
use mathlib.Core.Path.{◌≡◌, refl, sym, ◌∙◌, ap}
use mathlib.Core.Bool.{true}
use mathlib.Core.List.{List}
use Prim.Native.Nat.{ℕ, ◌+◌, ◌≤◌}
use native.Mathlib.Decide.{ℕ_discrete}
use native.Mathlib.Omega.{arith}
use lib.Dec.{eqb}
use borrow.Author.Tests.{ne_eqb}
use Rattle.rules.specs.Catalogue.{Catalogue}
use Rattle.rules.specs.Variables.{Origin, known, part_origin}
use Rattle.rules.specs.Candidates.{candidates}
use Rattle.rules.proofs.Each.{Each}
use Rattle.requirement.specs.declared.Requirement.{Requirement}
use Rattle.rules.proofs.Bools.{by_cases}
use Rattle.rules.specs.Items as items
use Rattle.requirement.specs.Requirements.{goal_of, form_of, number_of}
use Rattle.requirement.proofs.Laws.{goal_from_parts}
use Rattle.clause.specs.Literals.{literal_of}
use Rattle.solver.specs.declared.Clause.{Clause}
use Rattle.solver.specs.declared.Clause.TheVariants as clauses
use Rattle.solver.specs.Rows.{Row}
use Rattle.solver.specs.Clauses.{goal_row, clause_row, plain, Says}
use Rattle.encoder.specs.Held.{literal_in, goal_variables, clause_in, Sound}
use Rattle.encoder.specs.Clauses.{candidate_variables, clause_is}

module _ (c : Catalogue) (vs : List Origin) (w : List ℕ) where
  -- the row of a clause
  pub clause_row_is : (k : Clause) (i : ℕ) → clause_in c vs w (clause_row k i) ≡ clause_is c vs w k
  unfolding clause_in clause_row clause_is goal_variables candidate_variables literal_in literal_of
  clause_row_is clauses.Install i = refl
  clause_row_is (clauses.Requires o s n g) i = rw (goal_from_parts (goal_of g))
  clause_row_is (clauses.Gated x g) i = rw (goal_from_parts (goal_of g))
  clause_row_is (clauses.Excluded x p) i = refl
  clause_row_is (clauses.Unknown x p) i = refl
  clause_row_is (clauses.Constrains o x) i = refl
  clause_row_is (clauses.Forbid x h) i = refl
  clause_row_is (clauses.AuxOut x v) i = refl
  clause_row_is (clauses.AuxOwner o v) i = refl
  clause_row_is (clauses.Lock x) i = refl
  clause_row_is (clauses.AnyGate g o) i = refl
  clause_row_is (clauses.AnyOne y x) i = refl

  -- a row without what its kind has no use for
  plain_is : (r : Row) → clause_in c vs w (plain r) ≡ clause_in c vs w r
  unfolding clause_in plain goal_variables
  plain_is r =
      by_cases (eqb r.kind 0) (λ q. rw q) (λ q0.
      by_cases (eqb r.kind 1) (λ q. rw (q0, q, goal_from_parts)) (λ q1.
      by_cases (eqb r.kind 2) (λ q. rw (q0, q1, q, goal_from_parts)) (λ q2.
      by_cases (eqb r.kind 3) (λ q. rw (q0, q1, q2, q)) (λ q3.
      by_cases (eqb r.kind 4) (λ q. rw (q0, q1, q2, q3, q)) (λ q4.
      by_cases (eqb r.kind 5) (λ q. rw (q0, q1, q2, q3, q4, q)) (λ q5.
      by_cases (eqb r.kind 6) (λ q. rw (q0, q1, q2, q3, q4, q5, q)) (λ q6.
      by_cases (eqb r.kind 7) (λ q. rw (q0, q1, q2, q3, q4, q5, q6, q)) (λ q7.
      by_cases (eqb r.kind 8) (λ q. rw (q0, q1, q2, q3, q4, q5, q6, q7, q)) (λ q8.
      by_cases (eqb r.kind 9) (λ q. rw (q0, q1, q2, q3, q4, q5, q6, q7, q8, q)) (λ q9.
      by_cases (eqb r.kind 10) (λ q. rw (q0, q1, q2, q3, q4, q5, q6, q7, q8, q9, q)) (λ q10. rw (q0, q1, q2, q3, q4, q5, q6, q7, q8, q9, q10))))))))))))

  -- a row that was read as a clause
  pub says_clause : (k : Clause) (r : Row) → Says k r → clause_in c vs w r ≡ clause_is c vs w k
  says_clause k r s = sym (plain_is r) ∙ (ap (clause_in c vs w) (sym s.is) ∙ clause_row_is k r.conflict)

-- ---- what holds of a row

module _ (r : Row) where
  plain_kind : (r.kind ≡ 1 → ⊥) → (r.kind ≡ 2 → ⊥) → ((plain r).kind ≡ 1 → ⊥) × ((plain r).kind ≡ 2 → ⊥)
  unfolding plain
  plain_kind a b =
      let q1 = ne_eqb r.kind 1 a in
      let q2 = ne_eqb r.kind 2 b in
      by_cases (eqb r.kind 0) (λ q. rw q (λ e. omega arith, λ e. omega arith)) (λ q0.
      by_cases (eqb r.kind 3) (λ q. rw (q0, q1, q2, q) (λ e. omega arith, λ e. omega arith)) (λ q3.
      by_cases (eqb r.kind 4) (λ q. rw (q0, q1, q2, q3, q) (λ e. omega arith, λ e. omega arith)) (λ q4.
      by_cases (eqb r.kind 5) (λ q. rw (q0, q1, q2, q3, q4, q) (λ e. omega arith, λ e. omega arith)) (λ q5.
      by_cases (eqb r.kind 6) (λ q. rw (q0, q1, q2, q3, q4, q5, q) (λ e. omega arith, λ e. omega arith)) (λ q6.
      by_cases (eqb r.kind 7) (λ q. rw (q0, q1, q2, q3, q4, q5, q6, q) (λ e. omega arith, λ e. omega arith)) (λ q7.
      by_cases (eqb r.kind 8) (λ q. rw (q0, q1, q2, q3, q4, q5, q6, q7, q) (λ e. omega arith, λ e. omega arith)) (λ q8.
      by_cases (eqb r.kind 9) (λ q. rw (q0, q1, q2, q3, q4, q5, q6, q7, q8, q) (λ e. omega arith, λ e. omega arith)) (λ q9.
      by_cases (eqb r.kind 10) (λ q. rw (q0, q1, q2, q3, q4, q5, q6, q7, q8, q9, q) (λ e. omega arith, λ e. omega arith)) (λ q10. rw (q0, q1, q2, q3, q4, q5, q6, q7, q8, q9, q10) (λ e. omega arith, λ e. omega arith))))))))))

  -- the rows that have a goal
  plain_requires : r.kind ≡ 1 → plain r ≡ goal_row 1 r.first r.start r.count (form_of (items.goal_of r.form r.number)) (number_of (items.goal_of r.form r.number)) r.conflict
  unfolding plain
  plain_requires q = rw q

  plain_gated : r.kind ≡ 2 → plain r ≡ goal_row 2 r.first 0 0 (form_of (items.goal_of r.form r.number)) (number_of (items.goal_of r.form r.number)) r.conflict
  unfolding plain
  plain_gated q = rw q

  module _ {c : Catalogue} {vs : List Origin} {m : ℕ} (s : Sound c vs m r) where
    plain_sound : Sound c vs m (plain r)
    plain_sound = elim (ℕ_discrete r.kind 1) [
      | yes a ↦ rw (plain_requires a)
          (record { stored = λ _. s.stored a; named = λ _. rw goal_from_parts (s.named a); gated = λ e. let no : ⊥ = omega arith in absurd no })
      | no a ↦ elim (ℕ_discrete r.kind 2) [
        | yes b ↦ rw (plain_gated b)
            (record { stored = λ e. let no : ⊥ = omega arith in absurd no; named = λ e. let no : ⊥ = omega arith in absurd no; gated = λ _. rw goal_from_parts (s.gated b) })
        | no b ↦ let k = plain_kind a b in record { stored = λ e. absurd (k.0 e); named = λ e. absurd (k.0 e); gated = λ e. absurd (k.1 e) }
      ]
    ]

    -- a row that was read as a clause
    pub says_sound : (k : Clause) → Says k r → Sound c vs m (clause_row k r.conflict)
    says_sound k e = rw e.is plain_sound

-- its condition literals, and its goal's candidates
module _ {c : Catalogue} {vs : List Origin} {m : ℕ} (g : Requirement) where
  pub requires_sound : (o s n i : ℕ) → Sound c vs m (clause_row (clauses.Requires o s n g) i) → (s + n ≤ m) × Each (λ p. known vs (part_origin p) ≡ true) (candidates c (goal_of g))
  unfolding clause_row
  requires_sound o s n i h = (h.stored refl, rw goal_from_parts at (h.named refl))

  pub gated_sound : (x i : ℕ) → Sound c vs m (clause_row (clauses.Gated x g) i) → Each (λ p. known vs (part_origin p) ≡ true) (candidates c (goal_of g))
  unfolding clause_row
  gated_sound x i h = rw goal_from_parts at (h.gated refl)
