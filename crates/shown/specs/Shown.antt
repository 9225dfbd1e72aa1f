-- What it is to have left bytes at the start of a lent area.
use Rattle.std.specs.Prelude.{◌≡◌, List, ℕ, ◌≤◌, length, take}

-- the first n bytes of the area are bs
pub record Holds (bs : List ℕ) (n : ℕ) (area : List ℕ) : Type 0 where
  pub within : n ≤ length area
  pub is : take n area ≡ bs
