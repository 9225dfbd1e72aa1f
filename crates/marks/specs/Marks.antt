-- Marks: part p is a member of range r where bit p % 8 of byte 128 r + p / 8 is set.
use Rattle.std.specs.Prelude.{◌≡◌, Bool, false, not, ◌&&◌, ◌||◌, List, ℕ, ◌+◌, ◌*◌, ◌/◌, ◌%◌, ◌<◌, ◌≤◌, eqb, ltb, get_or}
use Rattle.rules.specs.AtMostOne.{bit}

unfoldable pub is_marked : List ℕ → ℕ → ℕ → Bool
is_marked m r p = ltb p 1024 && bit (p % 8) (get_or m (r * 128 + p / 8) 0)

-- a byte with bit j set, and every other bit as it was
pub record WithBit (j x y : ℕ) : Type 0 where
  pub is : (k : ℕ) → bit k y ≡ (eqb k j || bit k x)

-- one member more, and nothing else changed
pub record Marked (m m' : List ℕ) (r p : ℕ) : Type 0 where
  pub is : (s q : ℕ) → is_marked m' s q ≡ ((eqb s r && eqb q p) || is_marked m s q)

-- range r has none, and nothing else changed
pub record Cleared (m m' : List ℕ) (r : ℕ) : Type 0 where
  pub is : (s q : ℕ) → is_marked m' s q ≡ (not (eqb s r) && is_marked m s q)

-- x is the first member of range r from `from` on, of the parts below `to`; or `to`
pub record NextMember (m : List ℕ) (r from to x : ℕ) : Type 0 where
  pub onward : from ≤ x
  pub inside : x ≤ to
  pub none : (q : ℕ) → from ≤ q → q < x → is_marked m r q ≡ false

-- no part from x on, of those below `to`, is a member of range r
pub record EndOfMembers (m : List ℕ) (r to x : ℕ) : Type 0 where
  pub inside : x ≤ to
  pub none : (q : ℕ) → x ≤ q → q < to → is_marked m r q ≡ false
