-- Values of variables and literals: what one decision more changes, and a literal's value from its variable's.
use mathlib.Core.Path.{◌≡◌, refl, sym, ◌∙◌}
use mathlib.Core.Bool.{Bool, true, false}
use mathlib.Core.List.{List, [], ◌∷◌}
use Prim.Native.Nat.{ℕ}
use lib.Dec.{eqb}
use borrow.Author.Tests.{eq-eqb, ne_eqb}
use Rattle.rules.specs.Truth.{same}
use Rattle.rules.specs.Lists.{snoc}
use Rattle.rules.specs.Literal.{Literal, pos}
use Rattle.rules.specs.Decisions.{Decision, Evaluation, undecided, satisfied, falsified, decided_as, evaluate, is_undecided, is_falsified, is_satisfied, is_true, is_false}
use Rattle.rules.proofs.Bools.{by_cases}
use Rattle.rules.proofs.Each.{Each}
use Rattle.rules.proofs.Evaluation.{Undecided}
use mathlib.Core.Bool.{beq}
use Rattle.std.specs.Prelude.{Option, None, Some}
use Rattle.std.specs.Option.{option_eq}
use Rattle.clause.specs.Literals.{held}
use Rattle.decision_tracker.specs.Tracking.{seen, says_undecided, says_false, says_true}

-- ---- one decision more

pub evaluate_other : (ds : List Decision) (d : Decision) (l : Literal) → (l.variable ≡ d.variable → ⊥) → evaluate (snoc ds d) l ≡ evaluate ds l
unfolding evaluate snoc
evaluate_other [] d l n = rw (ne_eqb l.variable d.variable n, evaluate)
evaluate_other (e ∷ ds) d l n =
    by_cases (eqb l.variable e.variable) (λ q. rw (q, evaluate)) (λ q. rw (q, evaluate) (evaluate_other ds d l n))

pub evaluate_new : (d : Decision) (l : Literal) {ds : List Decision} → Undecided ds l.variable → l.variable ≡ d.variable
    → evaluate (snoc ds d) l ≡ decided_as (same l.positive d.value) d.level
unfolding evaluate snoc
evaluate_new d l Each.nil e = rw (eq-eqb l.variable d.variable e, evaluate)
evaluate_new d l (Each.cons {x} n ns) e = rw (ne_eqb l.variable x.variable (λ q. n (sym q)), evaluate) (evaluate_new d l ns e)

-- ---- without the level

pub seen_decided : (b : Bool) (k : ℕ) → seen (decided_as b k) ≡ Some b
unfolding seen decided_as
seen_decided true k = refl
seen_decided false k = refl

held_value : (l : Literal) (b : Bool) → held l (Some b) ≡ Some (same l.positive b)
unfolding held
held_value l true = refl
held_value l false = refl

-- a literal has its variable's value, or the opposite one
pub literal_value : (ds : List Decision) (l : Literal) → held l (seen (evaluate ds (pos l.variable))) ≡ seen (evaluate ds l)
unfolding evaluate
literal_value [] l = unfold seen held in refl
literal_value (d ∷ ds) l =
    by_cases (eqb l.variable d.variable)
    (λ q. rw (q, evaluate, seen_decided d.value d.level, seen_decided (same l.positive d.value) d.level) (held_value l d.value))
    (λ q. rw (q, evaluate) (literal_value ds l))

-- ---- for callers: the tests on an evaluation, by the value that was read

pub undecided_seen : (e : Evaluation) → is_undecided e ≡ says_undecided (seen e)
unfolding seen
undecided_seen undecided = refl
undecided_seen (satisfied k) = refl
undecided_seen (falsified k) = refl

pub falsified_seen : (e : Evaluation) → is_falsified e ≡ says_false (seen e)
unfolding seen
falsified_seen undecided = refl
falsified_seen (satisfied k) = refl
falsified_seen (falsified k) = refl

pub satisfied_seen : (e : Evaluation) → is_satisfied e ≡ says_true (seen e)
unfolding seen
satisfied_seen undecided = refl
satisfied_seen (satisfied k) = refl
satisfied_seen (falsified k) = refl

pub reads_undecided : (ds : List Decision) (l : Literal) (v : Option Bool) → v ≡ seen (evaluate ds l) → v ≡ None → is_undecided (evaluate ds l) ≡ true
reads_undecided ds l v e q = undecided_seen (evaluate ds l) ∙ rw (← e, q)

-- ---- what the code answers of a variable or a literal

module _ (ds : List Decision) (k : Literal) {v : Option Bool} (e : v ≡ seen (evaluate ds k)) where
  pub falsified_undecided : v ≡ None → false ≡ is_falsified (evaluate ds k)
  falsified_undecided q = rw (falsified_seen, ← e, q)

  pub falsified_false : v ≡ Some false → true ≡ is_falsified (evaluate ds k)
  falsified_false q = rw (falsified_seen, ← e, q)

  pub falsified_true : v ≡ Some true → false ≡ is_falsified (evaluate ds k)
  falsified_true q = rw (falsified_seen, ← e, q)

-- by a comparison with a value
eq_true : (v : Option Bool) → option_eq beq v (Some true) ≡ says_true v
eq_true None = refl
eq_true (Some true) = refl
eq_true (Some false) = refl

eq_false : (v : Option Bool) → option_eq beq v (Some false) ≡ says_false v
eq_false None = refl
eq_false (Some true) = refl
eq_false (Some false) = refl

pub falsified_is : (ds : List Decision) (k : Literal) (v : Option Bool) (b : Bool) → v ≡ seen (evaluate ds k) → b ≡ option_eq beq v (Some false) → b ≡ is_falsified (evaluate ds k)
falsified_is ds k v b e q = rw (falsified_seen, ← e, ← eq_false v) q

pub true_is : (ds : List Decision) (x : ℕ) (v : Option Bool) (b : Bool) → v ≡ seen (evaluate ds (pos x)) → b ≡ option_eq beq v (Some true) → b ≡ is_true ds x
unfolding is_true
true_is ds x v b e q = rw (satisfied_seen, ← e, ← eq_true v) q

pub false_is : (ds : List Decision) (x : ℕ) (v : Option Bool) (b : Bool) → v ≡ seen (evaluate ds (pos x)) → b ≡ option_eq beq v (Some false) → b ≡ is_false ds x
unfolding is_false
false_is ds x v b e q = falsified_is ds (pos x) v b e q
