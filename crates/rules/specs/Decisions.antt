-- Decisions, oldest first.
use Rattle.std.specs.Prelude.{Bool, true, false, ◌&&◌, List, [], ◌∷◌, ℕ, eqb, leb}
use Rattle.std.proofs.Math.Option.{Option}
use Rattle.rules.specs.Lists.{filter, all}
use Rattle.rules.specs.Literal.{Literal, pos}
use Rattle.rules.specs.Truth.{same}

pub record Decision : Type 0 where
  pub variable : ℕ
  pub value : Bool
  pub level : ℕ
  pub clause : Option ℕ  -- none: the sheet's

-- a literal held against the decisions; a decided one has the decision's level
pub data Evaluation : Type 0 where
  undecided : Evaluation
  satisfied : ℕ → Evaluation
  falsified : ℕ → Evaluation

unfoldable pub decided_as : Bool → ℕ → Evaluation
decided_as true level = satisfied level
decided_as false level = falsified level

unfoldable pub evaluate : List Decision → Literal → Evaluation
evaluate [] l = undecided
evaluate (d ∷ ds) l = elim (eqb l.variable d.variable) [ true ↦ decided_as (same l.positive d.value) d.level | false ↦ evaluate ds l ]

abbrev pub is_satisfied : Evaluation → Bool
is_satisfied undecided = false
is_satisfied (satisfied k) = true
is_satisfied (falsified k) = false

abbrev pub is_falsified : Evaluation → Bool
is_falsified undecided = false
is_falsified (satisfied k) = false
is_falsified (falsified k) = true

abbrev pub is_undecided : Evaluation → Bool
is_undecided undecided = true
is_undecided (satisfied k) = false
is_undecided (falsified k) = false

module _ (ds : List Decision) where
  unfoldable pub is_true : ℕ → Bool
  is_true x = is_satisfied (evaluate ds (pos x))

  unfoldable pub is_false : ℕ → Bool
  is_false x = is_falsified (evaluate ds (pos x))

  -- there are literals, and all are decided false
  unfoldable pub all_false : List Literal → Bool
  all_false [] = false
  all_false (l ∷ ls) = is_falsified (evaluate ds l) && all (λ (k : Literal). is_falsified (evaluate ds k)) ls

unfoldable pub last_level : List Decision → ℕ
last_level [] = 0
last_level (d ∷ []) = d.level
last_level (d ∷ e ∷ ds) = last_level (e ∷ ds)

-- "Undo removes decisions above its level"
unfoldable pub up_to_level : ℕ → List Decision → List Decision
up_to_level l ds = filter (λ (d : Decision). leb d.level l) ds
