-- What a literal's number and a decision's value stand for in the definitions.
use Rattle.std.specs.Prelude.{Bool, Option, option_map, ℕ, ◌/◌, ◌%◌, eqb}
use Rattle.rules.specs.Truth.{same}
use Rattle.rules.specs.Literal as rules
use Rattle.clause.specs.declared.Literal.{Literal}

unfoldable pub signed : ℕ → Bool → rules.Literal
signed x b = record { variable = x; positive = b }

unfoldable pub literal_of : Literal → rules.Literal
literal_of l = signed (l.code / 2) (eqb (l.code % 2) 0)

-- a literal whose variable has this value, if it has one
unfoldable pub held : rules.Literal → Option Bool → Option Bool
held l v = option_map (same l.positive) v
