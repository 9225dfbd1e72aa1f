-- Lists whose last element is taken away or added; and that distinct numbers below n are at most n.
use mathlib.Core.Path.{◌≡◌, refl, sym, ◌∙◌, ap}
use mathlib.Core.Logic.{◌≢◌}
use mathlib.Core.Bool.{Bool, true, false, not}
use mathlib.Core.List.{List, [], ◌∷◌}
use Prim.Native.Nat.{ℕ, zero, suc, ◌<◌, ◌≤◌}
use native.Mathlib.Nat.{not-suc-le-zero}
use native.Mathlib.Decide.{ℕ_discrete}
use native.Mathlib.Omega.{arith}
use lib.Dec.{eqb}
use lib.ListN.{length}
use borrow.Author.Tests.{eq-eqb, ne_eqb, eqb-false}
use Rattle.rules.specs.Lists.{filter, snoc}
use Rattle.rules.proofs.Bools.{by_cases}
use Rattle.rules.proofs.Each.{Each, each_left, each_imp, each_filter, each_passes, Pairwise, pairwise_filter}

module _ {A : Type 0} where
  pub filter_all : (f : A → Bool) {xs : List A} → Each (λ x. f x ≡ true) xs → filter f xs ≡ xs
  unfolding filter
  filter_all f Each.nil = refl
  filter_all f (Each.cons {x} e es) = rw (e, filter) (ap (λ (l : List A). x ∷ l) (filter_all f es))

  pub filter_last : (f : A → Bool) (xs : List A) (x : A) → f x ≡ false → filter f (snoc xs x) ≡ filter f xs
  unfolding filter snoc
  filter_last f [] x e = rw (e, filter)
  filter_last f (y ∷ xs) x e =
      by_cases (f y) (λ q. rw (q, filter) (ap (λ (l : List A). y ∷ l) (filter_last f xs x e))) (λ q. rw (q, filter) (filter_last f xs x e))

  pub each_first : {P : A → Type 0} (xs : List A) (x : A) → Each P (snoc xs x) → Each P xs
  unfolding snoc
  each_first {P} xs x es = each_left xs (x ∷ []) es

  pub each_last : {P : A → Type 0} (xs : List A) (x : A) → Each P (snoc xs x) → P x
  unfolding snoc
  each_last {P} [] x (Each.cons p ps) = p
  each_last {P} (y ∷ xs) x (Each.cons p ps) = each_last {P = P} xs x ps

  module _ {R : A → A → Type 0} where
    pub pairwise_first : (xs : List A) (x : A) → Pairwise R (snoc xs x) → Pairwise R xs
    unfolding snoc
    pairwise_first [] x ps = Pairwise.nil
    pairwise_first (y ∷ xs) x (Pairwise.cons q qs) = Pairwise.cons (each_first xs x q) (pairwise_first xs x qs)

    pub pairwise_last : (xs : List A) (x : A) → Pairwise R (snoc xs x) → Each (λ y. R y x) xs
    unfolding snoc
    pairwise_last [] x ps = Each.nil
    pairwise_last (y ∷ xs) x (Pairwise.cons q qs) = Each.cons (each_last {P = R y} xs x q) (pairwise_last xs x qs)

-- ---- distinct numbers

abbrev other : ℕ → ℕ → Bool
other n x = not (eqb x n)

is_other : (n x : ℕ) → (x ≡ n → ⊥) → other n x ≡ true
is_other n x h = rw (ne_eqb x n h)

-- at most one is n
one_less : (n : ℕ) {xs : List ℕ} → Pairwise (λ x y. x ≢ y) xs → length xs ≤ suc (length (filter (other n) xs))
unfolding filter
one_less n Pairwise.nil = omega arith
one_less n (Pairwise.cons {x} {xs} q qs) = go (ℕ_discrete x n) (one_less n qs)
  where
    go : Dec (x ≡ n) → length xs ≤ suc (length (filter (other n) xs)) → length (x ∷ xs) ≤ suc (length (filter (other n) (x ∷ xs)))
    go (yes e) h =
        let all : filter (other n) xs ≡ xs = filter_all (other n) (each_imp (λ y d. is_other n y (λ z. d (e ∙ sym z))) q) in
        rw (eq-eqb x n e, filter, all) (omega arith)
    go (no d) h = rw (ne_eqb x n d, filter) (omega arith)

pub few : (n : ℕ) (xs : List ℕ) → Each (λ x. x < n) xs → Pairwise (λ x y. x ≢ y) xs → length xs ≤ n
few zero [] es ps = omega arith
few zero (x ∷ xs) (Each.cons e es) ps = absurd (not-suc-le-zero e)
few (suc n) xs es ps =
    let ys = filter (other n) xs in
    let h : length ys ≤ n = few n ys (below (each_filter (other n) es) (each_passes (other n) xs)) (pairwise_filter (other n) ps) in
    omega (arith, one_less n ps)
  where
    below : {ys : List ℕ} → Each (λ x. x < suc n) ys → Each (λ x. other n x ≡ true) ys → Each (λ x. x < n) ys
    below Each.nil Each.nil = Each.nil
    below (Each.cons {x} e es) (Each.cons o os) = Each.cons (go x e o) (below es os)
      where
        not_not : (b : Bool) → not b ≡ true → b ≡ false
        not_not true q = sym q
        not_not false q = refl

        go : (x : ℕ) → x < suc n → other n x ≡ true → x < n
        go x e o = let d = eqb-false x n (not_not (eqb x n) o) in omega (arith, d)
