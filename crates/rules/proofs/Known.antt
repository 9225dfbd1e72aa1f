-- Which origins have a variable: those of the list, and after some are named, these too. A number below the older list's length is an older variable.
use mathlib.Core.Path.{◌≡◌, refl}
use mathlib.Core.Logic.{◌⊎◌, inl, inr, ⊎_elim}
use mathlib.Core.Bool.{Bool, true, false, ◌||◌, false≢true}
use mathlib.Core.List.Memᴰ
use mathlib.Core.List.{List, [], ◌∷◌, ◌++◌}
use Prim.Native.Nat.{suc, ◌<◌}
use native.Mathlib.Nat.{le_of_suc-le-suc, not-suc-le-zero}
use lib.ListN.{length}
use Rattle.rules.specs.Lists.{any, index_of, snoc, unless, fold}
use Rattle.rules.specs.Variables.{Origin, same_origin, known, variable_of, with_variable, with_variables}
use Rattle.rules.specs.Called.{◌∈◌}
use Rattle.rules.proofs.Grows.{Prefix}
use Rattle.rules.proofs.Places.{origin_same, origin_self}

-- ---- known is in the list

pub in_known : {x : Origin} (vs : List Origin) → x ∈ vs → known vs x ≡ true
unfolding known any
in_known [] m = elim m [ ]
in_known {x} (v ∷ vs) (Memᴰ.head q) = rw (← q, origin_self x)
in_known {x} (v ∷ vs) (Memᴰ.tail m) = or_right (same_origin x v) (in_known vs m)
  where
    or_right : (b : Bool) → any (same_origin x) vs ≡ true → (b || any (same_origin x) vs) ≡ true
    or_right true h = refl
    or_right false h = h

pub of_known : {x : Origin} (vs : List Origin) → known vs x ≡ true → x ∈ vs
unfolding known any
of_known [] e = absurd (false≢true e)
of_known {x} (v ∷ vs) e = go (same_origin x v) refl e (of_known vs)
  where
    go : (b : Bool) → same_origin x v ≡ b → (b || any (same_origin x) vs) ≡ true → (any (same_origin x) vs ≡ true → x ∈ vs) → x ∈ (v ∷ vs)
    go true q e h = Memᴰ.head (origin_same x v q)
    go false q e h = Memᴰ.tail (h e)

-- ---- after naming

pub known_again : (o : Origin) (vs : List Origin) → known vs o ≡ true → with_variable o vs ≡ vs
unfolding with_variable unless
known_again o vs e = rw e

pub unchanged : (os vs : List Origin) → ((x : Origin) → x ∈ os → known vs x ≡ true) → with_variables os vs ≡ vs
unfolding with_variables fold
unchanged [] vs h = refl
unchanged (o ∷ os) vs h = rw (known_again o vs (h o (Memᴰ.head refl))) (unchanged os vs (λ x m. h x (Memᴰ.tail m)))

of_with_variable : {x : Origin} (o : Origin) (vs : List Origin) → x ∈ with_variable o vs → (x ∈ vs) ⊎ (x ≡ o)
unfolding with_variable snoc
of_with_variable {x} o vs = go (known vs o)
  where
    go : (b : Bool) → x ∈ unless b (λ us. us ++ (o ∷ [])) vs → (x ∈ vs) ⊎ (x ≡ o)
    go true m = inl (unfold unless in m)
    go false m = ⊎_elim inl (λ n. inr (Memᴰ.eq_of_singleton n)) (Memᴰ.append_cases vs (unfold unless in m))

of_with_variables : {x : Origin} (os vs : List Origin) → x ∈ with_variables os vs → (x ∈ vs) ⊎ (x ∈ os)
unfolding with_variables fold
of_with_variables [] vs m = inl m
of_with_variables (o ∷ os) vs m =
    ⊎_elim (λ n. ⊎_elim inl (λ q. inr (Memᴰ.head q)) (of_with_variable o vs n)) (λ n. inr (Memᴰ.tail n)) (of_with_variables os (with_variable o vs) m)

pub known_or_named : (os vs : List Origin) (x : Origin) → known (with_variables os vs) x ≡ true → (known vs x ≡ true) ⊎ (x ∈ os)
known_or_named os vs x e = ⊎_elim (λ m. inl (in_known vs m)) inr (of_with_variables os vs (of_known (with_variables os vs) e))

-- ---- older variables

among : (f : Origin → Bool) (vs ws : List Origin) → index_of f (vs ++ ws) < length vs → any f vs ≡ true
unfolding any index_of
among f [] ws l = absurd (not-suc-le-zero l)
among f (v ∷ vs) ws l = go (f v) l (among f vs ws)
  where
    go : (b : Bool) → elim b [ true ↦ 0 | false ↦ suc (index_of f (vs ++ ws)) ] < suc (length vs) → (index_of f (vs ++ ws) < length vs → any f vs ≡ true)
        → (b || any f vs) ≡ true
    go true l h = refl
    go false l h = h (le_of_suc-le-suc l)

pub below_known : {vs ws : List Origin} → Prefix vs ws → (x : Origin) → variable_of ws x < length vs → known vs x ≡ true
unfolding known variable_of
below_known {vs} p x l = among (same_origin x) vs p.more (rw p.is at l)
