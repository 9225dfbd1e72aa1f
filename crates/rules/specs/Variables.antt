-- Variables are numbered by their place in a list of origins. 01: "Variable 0 is the root".
use Rattle.std.specs.Prelude.{Bool, ◌&&◌, List, ℕ, eqb}
use Rattle.rules.specs.Lists.{any, index_of, snoc, unless, fold}
use Rattle.rules.specs.Catalogue.{Owner, root, part, Goal, range, union}

pub data Origin : Type 0 where
  chosen : Owner → Origin  -- the root or a part
  forbid : (name bit : ℕ) → Origin
  one : (name : ℕ) → Origin
  violation : (range : ℕ) → Origin
  gate : Goal → Origin

unfoldable pub key : Origin → ℕ × ℕ × ℕ
key (chosen root) = (0, 0, 0)
key (chosen (part p)) = (1, p, 0)
key (forbid n j) = (2, n, j)
key (one n) = (3, n, 0)
key (violation r) = (4, r, 0)
key (gate (range r)) = (5, r, 0)
key (gate (union u)) = (6, u, 0)

unfoldable pub same_key : ℕ × ℕ × ℕ → ℕ × ℕ × ℕ → Bool
same_key a b = eqb a.0 b.0 && (eqb a.1 b.1 && eqb a.2 b.2)

abbrev pub same_origin : Origin → Origin → Bool
same_origin a b = same_key (key a) (key b)

unfoldable pub known : List Origin → Origin → Bool
known vs o = any (same_origin o) vs

unfoldable pub variable_of : List Origin → Origin → ℕ
variable_of vs o = index_of (same_origin o) vs

-- an origin gets its variable when first named
unfoldable pub with_variable : Origin → List Origin → List Origin
with_variable o vs = unless (known vs o) (λ us. snoc us o) vs

unfoldable pub with_variables : List Origin → List Origin → List Origin
with_variables os vs = fold with_variable os vs

abbrev pub part_origin : ℕ → Origin
part_origin p = chosen (part p)

abbrev pub part_variable : List Origin → ℕ → ℕ
part_variable vs p = variable_of vs (part_origin p)
