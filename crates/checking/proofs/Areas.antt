-- Areas that were cleared.
use mathlib.Core.Path.{◌≡◌, refl, sym, ◌∙◌, ap}
use mathlib.Core.List.{List, [], ◌∷◌}
use Prim.Native.Nat.{ℕ}
use lib.ListN.{length, replicate}
use Rattle.rules.specs.Job.{work_area}
use Rattle.checking.specs.Areas.{Zeroed}

zeros : (xs : List ℕ) → replicate (length xs) 0 ≡ work_area xs
unfolding work_area
zeros [] = refl
zeros (x ∷ xs) = ap (λ (l : List ℕ). 0 ∷ l) (zeros xs)

pub cleared : (xs ys : List ℕ) → ys ≡ replicate (length xs) 0 → Zeroed xs ys
cleared xs ys e = record { is = e ∙ zeros xs }

-- an area that has changed since, but not in length
pub still_zeroed : {xs ys zs : List ℕ} → Zeroed ys zs → length ys ≡ length xs → Zeroed xs zs
still_zeroed {xs} {ys} z e = record { is = z.is ∙ sym (zeros ys) ∙ ap (λ (n : ℕ). replicate n 0) e ∙ zeros xs }
