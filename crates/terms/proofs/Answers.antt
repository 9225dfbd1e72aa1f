-- The answers against the definitions.
use mathlib.Core.Path.{◌≡◌, refl, sym, ◌∙◌, ap}
use Prim.Native.Nat.{ℕ}
use native.Mathlib.Omega.{arith}
use borrow.Author.Tests.{ne_eqb}
use Rattle.rules.specs.Refusals.{number_and_place}
use Rattle.rules.specs.Refusals as refusals
use Rattle.rules.specs.Job.{accepts, refuses}
use Rattle.refusal.specs.declared.Refusal.{Refusal}
use Rattle.refusal.specs.Refusing.{refusal_of}
use Rattle.terms.specs.Answers.{numbers_of, answer_by, answer_of, Gives}

pub gives_accepts : (l v c : ℕ) → Gives (record { number = 0; place = 0; length = l; variables = v; clauses = c }) (accepts l v c)
unfolding numbers_of answer_of answer_by
gives_accepts l v c = record { is = refl; means = refl }

-- no refusal has the number 0
numbered : (n at : ℕ) (f : refusals.Refusal) → (number_and_place n at f).0 ≡ 0 → ⊥
unfolding number_and_place
numbered n at refusals.Refusal.unfit e = omega arith
numbered n at refusals.Refusal.overlong e = omega arith
numbered n at refusals.Refusal.unknown_kind e = omega arith
numbered n at refusals.Refusal.out_of_place e = omega arith
numbered n at refusals.Refusal.cut_short e = omega arith
numbered n at (refusals.Refusal.too_many t) e = omega arith
numbered n at (refusals.Refusal.missing t b) e = omega arith
numbered n at (refusals.Refusal.missing_variable b) e = omega arith
numbered n at (refusals.Refusal.contradicts w) e = omega arith
numbered n at refusals.Refusal.disjuncts_over e = omega arith
numbered n at refusals.Refusal.ranges_over e = omega arith
numbered n at refusals.Refusal.level_low e = omega arith
numbered n at refusals.Refusal.decided_against e = omega arith
numbered n at refusals.Refusal.run_full e = omega arith
numbered n at refusals.Refusal.not_run e = omega arith
numbered n at refusals.Refusal.listing_full e = omega arith

pub gives_refused : (n at number place : ℕ) (f : Refusal) → (number, place) ≡ number_and_place n at (refusal_of f)
    → Gives (record { number = number; place = place; length = 0; variables = 0; clauses = 0 })
    (refuses (number_and_place n at (refusal_of f)).0 (number_and_place n at (refusal_of f)).1)
unfolding numbers_of answer_of answer_by
gives_refused n at number place f e =
    let z : number ≡ 0 → ⊥ = λ q. numbered n at (refusal_of f) (ap (λ (x : ℕ × ℕ). x.0) (sym e) ∙ q) in
    record { is = rw (← e); means = rw (← e, ne_eqb number 0 z) }
