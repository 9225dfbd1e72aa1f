-- Areas that are zero over their whole lent length, and areas that hold any catalogue.
use Rattle.std.specs.Prelude.{◌≡◌, List, ℕ, ◌≤◌, length}
use Rattle.rules.specs.Job.{work_area}

pub record Zeroed (before after : List ℕ) : Type 0 where
  pub is : after ≡ work_area before

-- areas that hold any catalogue
pub record Long (m u t : List ℕ) : Type 0 where
  pub marks : 65536 ≤ length m
  pub unions : 52428 ≤ length u
  pub tables : 50696 ≤ length t
