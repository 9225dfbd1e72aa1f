-- The tracked parts of a name: they keep their places when a part joins, and a part joins the list of its own name only.
use mathlib.Core.Path.{◌≡◌, refl, ◌∙◌, ap}
use mathlib.Core.Logic.{◌⊎◌, inl, inr}
use mathlib.Core.Bool.{Bool, true, false}
use mathlib.Core.List.{List, [], ◌∷◌, ◌++◌, append-nil}
use Prim.Native.Nat.{ℕ, ◌<◌, ◌≤◌}
use native.Mathlib.Omega.{arith}
use lib.Dec.{eqb}
use lib.ListN.{length, get_or, length-append, get_or-append}
use borrow.Author.Tests.{eqb-true, eq-eqb}
use Rattle.rules.specs.Catalogue.{Catalogue, name_of}
use Rattle.rules.specs.Opening.{tracked_of}
use Rattle.rules.specs.Called.{◌∈◌}
use Rattle.rules.proofs.MemberLaws.{in_filter, of_filter, filter_append, filter_pass, filter_stop, at_place}

module _ (c : Catalogue) where
  pub of_tracked_of : {p : ℕ} (n : ℕ) (ps : List ℕ) → p ∈ tracked_of c n ps → (p ∈ ps) × (name_of c p ≡ n)
  unfolding tracked_of
  of_tracked_of {p} n ps m = let r = of_filter _ ps m in (r.0, eqb-true (name_of c p) n r.1)

  pub in_tracked_of : {p : ℕ} (n : ℕ) (ps : List ℕ) → p ∈ ps → name_of c p ≡ n → p ∈ tracked_of c n ps
  unfolding tracked_of
  in_tracked_of {p} n ps m e = in_filter _ ps m (eq-eqb (name_of c p) n e)

  -- the part at a place of its name's list
  pub tracked_place : (n : ℕ) (ps : List ℕ) (i : ℕ) → i < length (tracked_of c n ps) → get_or (tracked_of c n ps) i 0 ∈ ps
  tracked_place n ps i l = (of_tracked_of n ps (at_place (tracked_of c n ps) 0 i l)).0

  tracked_of_append : (n : ℕ) (ps qs : List ℕ) → tracked_of c n (ps ++ qs) ≡ tracked_of c n ps ++ tracked_of c n qs
  unfolding tracked_of
  tracked_of_append n ps qs = filter_append _ ps qs

  pub more_tracked : (n : ℕ) (ps qs : List ℕ) → length (tracked_of c n ps) ≤ length (tracked_of c n (ps ++ qs))
  more_tracked n ps qs = rw (tracked_of_append n ps qs, length-append (tracked_of c n ps) (tracked_of c n qs)) (omega arith)

  -- "part i" stays part i
  pub same_place : (n : ℕ) (ps qs : List ℕ) (i : ℕ) → i < length (tracked_of c n ps) → get_or (tracked_of c n (ps ++ qs)) i 0 ≡ get_or (tracked_of c n ps) i 0
  same_place n ps qs i l = rw (tracked_of_append n ps qs) (get_or-append (tracked_of c n ps) (tracked_of c n qs) 0 i l)

  pub own_name : (ps : List ℕ) (p : ℕ) → tracked_of c (name_of c p) (ps ++ (p ∷ [])) ≡ tracked_of c (name_of c p) ps ++ (p ∷ [])
  unfolding tracked_of
  own_name ps p = filter_append _ ps (p ∷ []) ∙ ap (λ l. tracked_of c (name_of c p) ps ++ l) (filter_pass _ p (eq-eqb (name_of c p) (name_of c p) refl))

  -- the parts of any other name stay as they are
  pub other_name : (n : ℕ) (ps : List ℕ) (p : ℕ) → (name_of c p ≡ n) ⊎ (tracked_of c n (ps ++ (p ∷ [])) ≡ tracked_of c n ps)
  unfolding tracked_of
  other_name n ps p = go (eqb (name_of c p) n) refl
    where
      go : (b : Bool) → eqb (name_of c p) n ≡ b → (name_of c p ≡ n) ⊎ (tracked_of c n (ps ++ (p ∷ [])) ≡ tracked_of c n ps)
      go true e = inl (eqb-true (name_of c p) n e)
      go false e = inr (filter_append _ ps (p ∷ []) ∙ (ap (λ l. tracked_of c n ps ++ l) (filter_stop _ p e) ∙ append-nil (tracked_of c n ps)))
