-- The sizes that are fixed, and what lies between two regions' starts; a number read or stored is one of the region that was asked for.
use mathlib.Core.Path.{◌≡◌, refl}
use mathlib.Core.List.{List, [], ◌∷◌}
use Prim.Native.Nat.{ℕ, ◌<◌, ◌≤◌}
use native.Mathlib.Omega.{arith}
use lib.Dec.{eqb}
use lib.ListN.{get_or}
use borrow.Author.Tests.{eqb-true}
use Rattle.rules.specs.Lists.{up_to}
use Rattle.rules.specs.Compute.{computing}
use Rattle.rules.proofs.Member.{all_out, up_to_in}
use Rattle.words.specs.Words.{words}
use Rattle.regions.specs.Regions.{start_of, size_of, part, set_in, regions, stored}
use Rattle.regions.proofs.Laws.{follows, store_in}
use Rattle.state.specs.declared.Limits.{Limits}
use Rattle.state.specs.Layout.{sizes, held}

abbrev pub fixed : List ℕ
fixed = 2881 ∷ 1025 ∷ 1025 ∷ 64 ∷ 64 ∷ 64 ∷ 1025 ∷ 1025 ∷ 1024 ∷ 1024 ∷ 1024 ∷ 1024 ∷ 64 ∷ 4096 ∷ 1024 ∷ 512 ∷ []

module _ (l : Limits) where
  pub size_fixed : (j : ℕ) → j < 16 → get_or fixed j 0 ≡ size_of (sizes l) j
  size_fixed j h =
      eqb-true (get_or fixed j 0) (size_of (sizes l) j)
      (all_out (λ n. eqb (get_or fixed n 0) (size_of (sizes l) n)) (up_to 0 16) (unfold computing size_of sizes in refl) j (up_to_in 0 16 j (omega arith) (omega arith)))

  -- from one region's start to a later one's
  pub span_rises : (i j a b : ℕ) → i < j → a ≡ start_of (sizes l) i → b ≡ start_of (sizes l) j → a ≤ b
  span_rises i j a b h e d = omega (arith, follows (sizes l) i j h)

  -- ---- reading and storing

  pub got : (bytes : List ℕ) (j i a b r : ℕ) → a ≡ start_of (sizes l) j → b ≡ size_of (sizes l) j → r ≡ get_or (part a b (words bytes)) i 0
      → r ≡ get_or (held l bytes j) i 0
  unfolding held regions
  got bytes j i a b r e d q = rw (← e, ← d) q

  pub put_in_region : (bytes bytes' : List ℕ) (j i v a b : ℕ) → a ≡ start_of (sizes l) j → b ≡ size_of (sizes l) j
      → words bytes' ≡ set_in (words bytes) a b i v → held l bytes' ≡ stored (held l bytes) j i v
  unfolding held
  put_in_region bytes bytes' j i v a b e d q = store_in (sizes l) bytes bytes' j i v (rw (e, d) at q)
