-- Owners by number: a list of numbers, read as owners, has an owner where the numbers have its number.
use mathlib.Core.Path.{◌≡◌, refl, sym, ◌∙◌, ap}
use mathlib.Core.Bool.{Bool, true, false}
use mathlib.Core.List.{List, [], ◌∷◌, map}
use Prim.Native.Nat.{ℕ, ◌<◌}
use native.Mathlib.Omega.{arith}
use lib.Dec.{eqb}
use borrow.Author.Tests.{eqb-true, eqb-false, eq-eqb, ne_eqb}
use Rattle.rules.specs.Lists.{any, elem, snoc}
use Rattle.rules.specs.Catalogue.{Owner, root, part, same_owner}
use Rattle.marked.specs.Marked.{listed, is_marked, Marked, owner_by, owner_of}
use Rattle.marked.proofs.Laws.{marked_is}

-- ---- one owner

pub root_is : owner_of 1024 ≡ root
unfolding owner_of owner_by
root_is = refl

pub part_is : (p : ℕ) → p < 1024 → owner_of p ≡ part p
unfolding owner_of owner_by
part_is p h = rw (ne_eqb p 1024 (λ e. omega arith))

same_by : (a b : Bool) (x y : ℕ) → eqb x 1024 ≡ a → eqb y 1024 ≡ b → same_owner (owner_by a x) (owner_by b y) ≡ eqb x y
unfolding owner_by
same_by true true x y p q = sym (eq-eqb x y (eqb-true x 1024 p ∙ sym (eqb-true y 1024 q)))
same_by true false x y p q = sym (ne_eqb x y (λ e. eqb-false y 1024 q (sym e ∙ eqb-true x 1024 p)))
same_by false true x y p q = sym (ne_eqb x y (λ e. eqb-false x 1024 p (e ∙ eqb-true y 1024 q)))
same_by false false x y p q = refl

pub same_number : (x y : ℕ) → same_owner (owner_of x) (owner_of y) ≡ eqb x y
unfolding owner_of
same_number x y = same_by (eqb x 1024) (eqb y 1024) x y refl refl

-- ---- lists of owners

pub owners_any : (x : ℕ) (xs : List ℕ) → any (same_owner (owner_of x)) (map owner_of xs) ≡ elem x xs
unfolding any
owners_any x [] = refl
owners_any x (y ∷ xs) = rw (same_number x y, owners_any x xs)

pub owners_snoc : (xs : List ℕ) (x : ℕ) → map owner_of (snoc xs x) ≡ snoc (map owner_of xs) (owner_of x)
unfolding snoc
owners_snoc [] x = refl
owners_snoc (y ∷ xs) x = ap (λ (os : List Owner). owner_of y ∷ os) (unfold snoc in owners_snoc xs x)

-- a caller that has asked `contains`
pub owner_after : {r m n : ℕ} {st : ℕ → List ℕ} (x : ℕ) (b : Bool) → Marked r m n st → b ≡ is_marked m x st
    → b ≡ any (same_owner (owner_of x)) (map owner_of (listed n r st))
owner_after {r} {m} {n} {st} x b k e = e ∙ (marked_is k x ∙ sym (owners_any x (listed n r st)))
