-- A literal held against the decisions: it is undecided where no decision is about its variable, and a decision at the end makes a variable
-- true only if it is about that variable and has the value true.
use mathlib.Core.Path.{◌≡◌, refl, sym, ◌∙◌, ap}
use mathlib.Core.Logic.{◌≢◌}
use mathlib.Core.Bool.{Bool, true, false, false≢true}
use mathlib.Core.List.{List, [], ◌∷◌, ◌++◌}
use Prim.Native.Nat.{ℕ}
use native.Mathlib.Decide.{ℕ_discrete}
use borrow.Author.Tests.{eq-eqb, ne_eqb}
use Rattle.rules.specs.Truth.{same}
use Rattle.rules.specs.Lists.{snoc}
use Rattle.rules.specs.Literal.{Literal, pos}
use Rattle.rules.specs.Decisions.{Decision, undecided, decided_as, evaluate, is_satisfied, is_undecided, is_true}
use Rattle.rules.proofs.Each.{Each}

-- no decision is about this variable
abbrev pub Undecided : List Decision → ℕ → Type 0
Undecided ds x = Each (λ (d : Decision). d.variable ≢ x) ds

-- the first decision about the variable counts
evaluate_first : (d : Decision) (ds : List Decision) (l : Literal) → l.variable ≡ d.variable
    → evaluate (d ∷ ds) l ≡ decided_as (same l.positive d.value) d.level
unfolding evaluate
evaluate_first d ds l e = rw (eq-eqb, evaluate)

evaluate_past : (d : Decision) (ds : List Decision) (l : Literal) → (l.variable ≡ d.variable → ⊥) → evaluate (d ∷ ds) l ≡ evaluate ds l
unfolding evaluate
evaluate_past d ds l n = rw (ne_eqb, evaluate)

decided : (b : Bool) (level : ℕ) → is_undecided (decided_as b level) ≡ false
unfolding decided_as
decided true level = refl
decided false level = refl

pub undecided_out : (ds : List Decision) (l : Literal) → is_undecided (evaluate ds l) ≡ true → Undecided ds l.variable
undecided_out [] l e = Each.nil
undecided_out (d ∷ ds) l e = go (ℕ_discrete l.variable d.variable) (undecided_out ds l)
  where
    go : Dec (l.variable ≡ d.variable) → (is_undecided (evaluate ds l) ≡ true → Undecided ds l.variable) → Undecided (d ∷ ds) l.variable
    go (yes q) h = absurd (false≢true (sym (decided _ _) ∙ (ap is_undecided (sym (evaluate_first d ds l q)) ∙ e)))
    go (no n) h = Each.cons (λ q. n (sym q)) (h (rw (evaluate_past d ds l n) at e))

pub undecided_in : (ds : List Decision) (l : Literal) → Undecided ds l.variable → evaluate ds l ≡ undecided
undecided_in [] l Each.nil = unfold evaluate in refl
undecided_in (d ∷ ds) l (Each.cons n ns) = evaluate_past d ds l (λ q. n (sym q)) ∙ undecided_in ds l ns

pub not_true : {ds : List Decision} {x : ℕ} → Undecided ds x → is_true ds x ≡ false
unfolding is_true
not_true {ds} {x} n = ap is_satisfied (undecided_in ds (pos x) n)

-- what a decision at the end changes: nothing but its own variable, and that only to true
pub true_after : (ds : List Decision) (d : Decision) (x : ℕ) → (d.value ≡ true → d.variable ≢ x) → is_true (snoc ds d) x ≡ is_true ds x
unfolding is_true snoc
true_after [] d x h = go (ℕ_discrete x d.variable)
  where
    as_false : (b : Bool) → (b ≡ true → ⊥) → is_satisfied (decided_as (same true b) d.level) ≡ false
    as_false true n = absurd (n refl)
    as_false false n = unfold decided_as in refl

    go : Dec (x ≡ d.variable) → is_satisfied (evaluate (d ∷ []) (pos x)) ≡ is_satisfied (evaluate [] (pos x))
    go (yes q) = ap is_satisfied (evaluate_first d [] (pos x) q) ∙ unfold evaluate in as_false d.value (λ t. h t (sym q))
    go (no n) = ap is_satisfied (evaluate_past d [] (pos x) n)
true_after (e ∷ ds) d x h = go (ℕ_discrete x e.variable) (true_after ds d x h)
  where
    go : Dec (x ≡ e.variable) → is_satisfied (evaluate (ds ++ (d ∷ [])) (pos x)) ≡ is_satisfied (evaluate ds (pos x))
        → is_satisfied (evaluate (e ∷ (ds ++ (d ∷ []))) (pos x)) ≡ is_satisfied (evaluate (e ∷ ds) (pos x))
    go (yes q) k = rw (evaluate_first e (ds ++ (d ∷ [])) (pos x) q, evaluate_first e ds (pos x) q)
    go (no n) k = rw (evaluate_past e (ds ++ (d ∷ [])) (pos x) n, evaluate_past e ds (pos x) n) k
