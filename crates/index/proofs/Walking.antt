-- What stays true past a number that does not matter stays true on a walk that skips such numbers.
use mathlib.Core.Path.{◌≡◌}
use mathlib.Core.Bool.{Bool, false}
use mathlib.Core.List.{List}
use Prim.Native.Nat.{ℕ, zero, suc, ◌+◌, ◌-◌, ◌<◌, ◌≤◌}
use native.Mathlib.Omega.{arith}
use lib.ListN.{get_or}
use Rattle.tables.specs.declared.Counts.{Counts}
use Rattle.unions.specs.Unions.{Row, no_row}
use Rattle.index.specs.Chains.{Skips}
use Rattle.index.specs.Members.{Idle, Passes}

module _ (n : ℕ) (Q P : ℕ → Type 0) (past : (i : ℕ) → i < n → Q i → P i → P (i + 1)) where
  all_passed : (a d : ℕ) → a + d ≤ n → ((i : ℕ) → a ≤ i → i < a + d → Q i) → P a → P (a + d)
  all_passed a zero l h x = let e : a + 0 ≡ a = omega arith in rw e x
  all_passed a (suc d) l h x =
      let e : a + suc d ≡ (a + d) + 1 = omega arith in
      rw e (past (a + d) (omega arith) (h (a + d) (omega arith) (omega arith)) (all_passed a d (omega arith) (λ i y z. h i y (omega arith)) x))

  -- from p to x
  onward : (p x : ℕ) → p ≤ x → x ≤ n → ((i : ℕ) → p ≤ i → i < x → Q i) → P p → P x
  onward p x a b h y =
      let e : p + (x - p) ≡ x = omega arith in
      rw e at (all_passed p (x - p) (omega arith) (λ i y z. h i y (omega arith)) y)

-- past what is not selected
pub walk : {n : ℕ} {f : ℕ → Bool} {p x : ℕ} (P : ℕ → Type 0) → ((i : ℕ) → i < n → f i ≡ false → P i → P (i + 1)) → Skips n f p x → P p → P x
walk {n} {f} {p} {x} P past k y = onward n (λ i. f i ≡ false) P past p x k.onward k.inside k.none y

-- past rows of other unions, and idle rows of this one
pub walk_union : {k : Counts} {rs : List Row} {u p x : ℕ} (P : ℕ → Type 0)
    → ((i : ℕ) → i < k.members → ((get_or rs i no_row).union ≡ u → Idle rs u i) → P i → P (i + 1)) → Passes k rs u p x → P p → P x
walk_union {k} {rs} {u} {p} {x} P past d y =
    onward k.members (λ i. (get_or rs i no_row).union ≡ u → Idle rs u i) P past p x d.onward d.at.most d.idle y
