-- A pass over the first numbers: what is done with those that are selected.
use mathlib.Core.Path.{◌≡◌, refl, sym}
use mathlib.Core.Bool.{Bool, true, false}
use mathlib.Core.List.{[], ◌∷◌}
use Prim.Native.Nat.{ℕ, ◌+◌}
use Rattle.rules.specs.Lists.{filter, fold, when, up_to}
use Rattle.rules.proofs.MemberLaws.{filter_append}
use Rattle.rules.proofs.DistinctEnough.{fold_append}
use Rattle.rules.proofs.ListLaws.{up_to_last}

module _ {S : Type 0} (f : ℕ → Bool) (g : ℕ → S → S) where
  one : (p : ℕ) (s : S) → fold g (filter f (p ∷ [])) s ≡ when (f p) (g p) s
  unfolding filter fold when
  one p s = go (f p)
    where
      go : (b : Bool) → fold g (elim b [ true ↦ p ∷ [] | false ↦ [] ]) s ≡ when b (g p) s
      go true = refl
      go false = refl

  pub fold_none : (s : S) → s ≡ fold g (filter f (up_to 0 0)) s
  unfolding up_to filter fold
  fold_none s = refl

  pub fold_more : (p : ℕ) (s : S) → when (f p) (g p) (fold g (filter f (up_to 0 p)) s) ≡ fold g (filter f (up_to 0 (p + 1))) s
  fold_more p s =
      sym (rw (up_to_last p, filter_append f (up_to 0 p) (p ∷ []), fold_append g (filter f (up_to 0 p)) (filter f (p ∷ [])) s) (one p (fold g (filter f (up_to 0 p)) s)))
