-- Owners, conditions and joined conditions that a record names.
use Rattle.std.specs.Prelude.{◌≡◌, Bool, false, List, ℕ, ◌<◌, ◌≤◌, leb, get_or, Option, Some, None, Result, MatchResult}
use Rattle.rules.specs.Catalogue.{Part, no_part}
use Rattle.rules.specs.Catalogue as rules
use Rattle.rules.specs.Items.{operator_of}
use Rattle.refusal.specs.declared.Refusal.{Refusal}
use Rattle.refusal.specs.declared.Contradiction.{Contradiction}
use Rattle.requirement.specs.declared.Owner.{Owner}
use Rattle.tables.specs.declared.Condition.{Condition}
use Rattle.tables.specs.Tables.{condition_is}

-- a part that is not one of this many; the root is always there
abbrev pub past : ℕ → Owner → Bool
past count Owner.Root = false
past count (Owner.Part p) = leb count p

-- a condition that is not one of this many
abbrev pub past_condition : ℕ → Option ℕ → Bool
past_condition count None = false
past_condition count (Some k) = leb count k

-- an owner whose dependencies are unknown
abbrev pub unknown_in : List Part → Owner → Bool
unknown_in ps Owner.Root = false
unknown_in ps (Owner.Part p) = (get_or ps p no_part).unknown

-- the condition of an operator and two halves, or that there is no such operator
abbrev pub Joined : (operator left right : ℕ) → Result Condition Refusal → Type 0
Joined o l r result =
    MatchResult result
    (λ c. (o ≤ 1) × (condition_is c ≡ rules.joined (operator_of o) l r))
    (λ f. (1 < o) × (f ≡ Refusal.Contradicts Contradiction.OtherOperator))
