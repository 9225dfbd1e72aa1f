-- Variables: a known origin stands at its variable, keeps it when the list grows, and every origin that is named is known. The root stands
-- first, and no origin stands twice.
use mathlib.Core.Path.{◌≡◌, refl, sym, ◌∙◌, ap}
use mathlib.Core.Logic.{◌≢◌}
use mathlib.Core.Bool.{Bool, true, false, cond, false≢true}
use mathlib.Core.List.{List, [], ◌∷◌, ◌++◌, Memᴰ}
use Prim.Native.Nat.{ℕ, zero, suc, ◌<◌, ◌≤◌, zero-le, suc-le-suc}
use native.Mathlib.Nat.{le_of_suc-le-suc, not-suc-le-zero}
use native.Mathlib.Decide.{dec_lt}
use native.Mathlib.Omega.{arith}
use lib.Dec.{eqb}
use lib.ListN.{length, get_or}
use borrow.Author.Tests.{eqb-true, eq-eqb}
use Rattle.rules.specs.Lists.{any, index_of, snoc, fold}
use Rattle.rules.specs.Catalogue.{root, part, range, union}
use Rattle.rules.specs.Variables.{Origin, chosen, forbid, one, violation, gate, key, same_key, same_origin, known, variable_of, with_variable, with_variables}
use Rattle.rules.proofs.Bools.{by_cases, and_left, and_right, and_both, or_right}
use Rattle.rules.proofs.Each.{Each, each_imp, each_fails, Pairwise, pairwise_snoc, pairwise_at, unless_cases}
use Rattle.rules.proofs.Grows.{Prefix, whole, with_variables_prefix}

-- ---- origins with the same key are the same

unkey : ℕ × ℕ × ℕ → Origin
unkey k =
    cond (eqb k.0 0) (chosen root)
    (cond (eqb k.0 1) (chosen (part k.1))
    (cond (eqb k.0 2) (forbid k.1 k.2)
    (cond (eqb k.0 3) (one k.1) (cond (eqb k.0 4) (violation k.1) (cond (eqb k.0 5) (gate (range k.1)) (gate (union k.1)))))))

unkey_key : (o : Origin) → unkey (key o) ≡ o
unfolding unkey key
unkey_key (chosen root) = refl
unkey_key (chosen (part p)) = refl
unkey_key (forbid n j) = refl
unkey_key (one n) = refl
unkey_key (violation r) = refl
unkey_key (gate (range r)) = refl
unkey_key (gate (union u)) = refl

key_same : (a b : ℕ × ℕ × ℕ) → same_key a b ≡ true → a ≡ b
unfolding same_key
key_same a b e =
    let p = eqb-true a.0 b.0 (and_left (eqb a.0 b.0) _ e) in
    let e' = and_right (eqb a.0 b.0) _ e in
    let q = eqb-true a.1 b.1 (and_left (eqb a.1 b.1) _ e') in
    let r = eqb-true a.2 b.2 (and_right (eqb a.1 b.1) _ e') in
    triple a.0 b.0 a.1 b.1 a.2 b.2 p q r
  where
    triple : (x x' y y' z z' : ℕ) → x ≡ x' → y ≡ y' → z ≡ z' → ◌≡◌ {A = ℕ × ℕ × ℕ} (x, y, z) (x', y', z')
    triple x x' y y' z z' p q r = rw (p, q, r)

pub origin_same : (a b : Origin) → same_origin a b ≡ true → a ≡ b
origin_same a b e = sym (unkey_key a) ∙ (ap unkey (key_same (key a) (key b) e) ∙ unkey_key b)

pub origin_self : (a : Origin) → same_origin a a ≡ true
unfolding same_key
origin_self a =
    let k = key a in
    and_both (eqb k.0 k.0) _ (eq-eqb k.0 k.0 refl) (and_both (eqb k.1 k.1) _ (eq-eqb k.1 k.1 refl) (eq-eqb k.2 k.2 refl))

-- ---- a known origin stands at its variable

pub stands : (vs : List Origin) (o d : Origin) → known vs o ≡ true → (variable_of vs o < length vs) × (get_or vs (variable_of vs o) d ≡ o)
unfolding known variable_of any index_of
stands [] o d e = absurd (false≢true e)
stands (v ∷ vs) o d e =
    by_cases (same_origin o v) (λ q. rw (q, index_of) (suc-le-suc zero-le, sym (origin_same o v q)))
    (λ q. let p = stands vs o d (rw q at e) in rw (q, index_of) (suc-le-suc p.0, p.1))

-- what stands in the list is known
pub at_known : (vs : List Origin) (i : ℕ) (d : Origin) → i < length vs → known vs (get_or vs i d) ≡ true
unfolding known any
at_known [] i d l = absurd (not-suc-le-zero l)
at_known (v ∷ vs) zero d l = rw (origin_self v)
at_known (v ∷ vs) (suc i) d l = or_right (same_origin (get_or vs i d) v) _ (at_known vs i d (le_of_suc-le-suc l))

-- ---- and keeps it

known_more : (vs ws : List Origin) (o : Origin) → known vs o ≡ true → (known (vs ++ ws) o ≡ true) × (variable_of (vs ++ ws) o ≡ variable_of vs o)
unfolding known variable_of any index_of
known_more [] ws o e = absurd (false≢true e)
known_more (v ∷ vs) ws o e =
    by_cases (same_origin o v) (λ q. rw (q, index_of) (refl, refl))
    (λ q. let p = known_more vs ws o (rw q at e) in rw (q, index_of) (p.0, ap suc p.1))

pub keeps_variable : {vs ws : List Origin} → Prefix vs ws → (o : Origin) → known vs o ≡ true → (known ws o ≡ true) × (variable_of ws o ≡ variable_of vs o)
keeps_variable {vs} {ws} p o e = let q = known_more vs p.more o e in rw p.is q

-- ---- an origin without a variable has the number of none, and one that it gets later is beyond those before

past : {A : Type 0} (f : A → Bool) {xs : List A} (ys : List A) → Each (λ x. f x ≡ false) xs → length xs ≤ index_of f (xs ++ ys)
unfolding index_of
past f ys Each.nil = zero-le
past f ys (Each.cons e es) = rw (e, index_of) (suc-le-suc (past f ys es))

pub unknown_beyond : {vs ws : List Origin} → Prefix vs ws → (o : Origin) → known vs o ≡ false → length vs ≤ variable_of ws o
unfolding known variable_of
unknown_beyond {vs} p o e = rw p.is (past (same_origin o) p.more (each_fails (same_origin o) vs e))

pub below_known : (vs : List Origin) (o : Origin) → variable_of vs o < length vs → known vs o ≡ true
below_known vs o l = by_cases (known vs o) (λ e. e) (λ e. let h = unknown_beyond whole o e in let no : ⊥ = omega arith in absurd no)

-- ---- what is named is known

end_known : (o : Origin) (us : List Origin) → known (us ++ (o ∷ [])) o ≡ true
unfolding known any
end_known o [] = rw (origin_self o)
end_known o (u ∷ us) = or_right (same_origin o u) _ (end_known o us)

pub with_variable_known : (o : Origin) (vs : List Origin) → known (with_variable o vs) o ≡ true
unfolding with_variable snoc
with_variable_known o vs = unless_cases (λ us. known us o ≡ true) _ _ vs (λ e. e) (λ e. end_known o vs)

pub with_variables_known : (os vs : List Origin) (o : Origin) → Memᴰ o os → known (with_variables os vs) o ≡ true
unfolding with_variables fold
with_variables_known [] vs o m = elim m [ ]
with_variables_known (p ∷ os) vs o (Memᴰ.head q) = (keeps_variable (with_variables_prefix os (with_variable p vs)) o (rw q (with_variable_known p vs))).0
with_variables_known (p ∷ os) vs o (Memᴰ.tail m) = with_variables_known os (with_variable p vs) o m

-- ---- no origin stands twice

-- "Variable 0 is the root"
pub record Distinct (vs : List Origin) : Type 0 where
  pub rest : List Origin
  pub root_first : vs ≡ chosen root ∷ rest
  pub once : Pairwise (λ a b. a ≢ b) vs

unknown_differs : (vs : List Origin) (o : Origin) → known vs o ≡ false → Each (λ a. a ≢ o) vs
unfolding known
unknown_differs vs o e = each_imp (λ a n q. false≢true (sym n ∙ ap (same_origin o) q ∙ origin_self o)) (each_fails _ vs e)

pub with_variable_distinct : (o : Origin) {vs : List Origin} → Distinct vs → Distinct (with_variable o vs)
unfolding with_variable
with_variable_distinct o {vs} d = unless_cases Distinct _ _ vs (λ e. d) more
  where
    more : known vs o ≡ false → Distinct (snoc vs o)
    more e =
        let first : snoc vs o ≡ chosen root ∷ snoc d.rest o = unfold snoc in ap (λ us. us ++ (o ∷ [])) d.root_first in
        record { rest = snoc d.rest o; root_first = first; once = pairwise_snoc d.once (unknown_differs vs o e) }

pub with_variables_distinct : (os : List Origin) {vs : List Origin} → Distinct vs → Distinct (with_variables os vs)
unfolding with_variables fold
with_variables_distinct [] d = d
with_variables_distinct (o ∷ os) d = with_variables_distinct os (with_variable_distinct o d)

module _ {vs : List Origin} (v : Distinct vs) (d : Origin) where
  pub root_at : get_or vs 0 d ≡ chosen root
  root_at = rw v.root_first

  pub distinct_at : (i j : ℕ) → i < length vs → j < length vs → get_or vs i d ≡ get_or vs j d → i ≡ j
  distinct_at i j li lj e = go (dec_lt i j) (dec_lt j i)
    where
      go : Dec (i < j) → Dec (j < i) → i ≡ j
      go (yes h) q = absurd (pairwise_at v.once i j d h lj e)
      go (no n) (yes h) = absurd (pairwise_at v.once j i d h li (sym e))
      go (no n) (no m) = omega arith

  pub root_only : (i : ℕ) → i < length vs → get_or vs i d ≡ chosen root → i ≡ 0
  root_only i l e = distinct_at i 0 l (omega arith) (e ∙ sym root_at)

  -- what stands at i has the variable i
  pub variable_at_law : (i : ℕ) → i < length vs → variable_of vs (get_or vs i d) ≡ i
  variable_at_law i l = let p = stands vs (get_or vs i d) d (at_known vs i d l) in distinct_at (variable_of vs (get_or vs i d)) i p.0 l p.1

-- two known origins with one variable are the same
pub variable_same : (vs : List Origin) (a b : Origin) → known vs a ≡ true → known vs b ≡ true → variable_of vs a ≡ variable_of vs b → a ≡ b
variable_same vs a b p q e = sym (stands vs a a p).1 ∙ (ap (λ i. get_or vs i a) e ∙ (stands vs b a q).1)
