-- How long the regions of fixed size and the task line are; a store changes no length, and a stored 0 is read back wherever it was to go.
use mathlib.Core.Path.{◌≡◌, refl, sym, ◌∙◌}
use mathlib.Core.Bool.{Bool, true, false, cond}
use mathlib.Core.List.{List}
use Prim.Native.Nat.{ℕ, ◌+◌, ◌<◌}
use lib.Dec.{eqb}
use native.Mathlib.Decide.{dec_lt}
use native.Mathlib.Omega.{arith}
use lib.ListN.{length, get_or, set, length-set, get_or-eq_default}
use lib.Seq.{get_or-set_same}
use Rattle.regions.specs.Regions.{size_of, stored}
use Rattle.state.specs.declared.Limits.{Limits}
use Rattle.state.specs.Layout.{sizes, held, Fits}
use Rattle.state.proofs.Laws.{fixed, size_fixed}
use Rattle.state.proofs.Changed.{length_held}

module _ (l : Limits) (bytes : List ℕ) where
  -- of regions 0 to 15: computes at a region's number
  pub length_fixed : (j : ℕ) → j < 16 → Fits l (length bytes) → length (held l bytes j) ≡ get_or fixed j 0
  length_fixed j h f = length_held l bytes j f ∙ sym (size_fixed l j h)

  pub length_line : Fits l (length bytes) → length (held l bytes 20) ≡ 3649 + l.waiting
  length_line f = length_held l bytes 20 f ∙ unfold size_of sizes in refl

pub length_stored : (st : ℕ → List ℕ) (j i v k : ℕ) → length (stored st j i v k) ≡ length (st k)
unfolding stored
length_stored st j i v k = go (eqb k j)
  where
    go : (b : Bool) → length (cond b (set (st k) i v) (st k)) ≡ length (st k)
    go true = length-set (st k) i v
    go false = refl

pub zero_stored : (xs : List ℕ) (x : ℕ) → get_or (set xs x 0) x 0 ≡ 0
zero_stored xs x = elim (dec_lt x (length xs)) [
  | yes h ↦ get_or-set_same xs x 0 0 h
  | no h ↦ get_or-eq_default (set xs x 0) 0 (rw length-set (omega arith))
]

-- an area keeps its length
pub fits_same : {l : Limits} {a b : ℕ} → b ≡ a → Fits l a → Fits l b
fits_same e f = rw e f
