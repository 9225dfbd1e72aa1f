-- The distinct ranges of a goal as the list at hand, and what is decided of parts.
use Rattle.std.specs.Prelude.{◌≡◌, Bool, false, ◌&&◌, cond, List, [], ◌∷◌, ℕ, ltb, length, get_or}
use Rattle.rules.specs.Lists.{elem, snoc}
use Rattle.rules.specs.Variables.{Origin, chosen, forbid, one, violation, gate, known, part_origin, part_variable}
use Rattle.rules.specs.Decisions.{Decision, is_true, is_false}
use Rattle.rules.specs.Catalogue.{root, part, Catalogue}
use Rattle.rules.proofs.Each.{Each}
use Rattle.rules.proofs.Valid.{Entry}
use Rattle.cache.specs.declared.Choice.TheVariants.{Matching}
use Rattle.cache.specs.Lists as cache
use Rattle.state.specs.Changed.{Changed}
use Rattle.state.specs.Layout.{held}
use Rattle.marked.specs.Marked.{listed, Marked, Emptied}
use Rattle.encoder.specs.declared.State.{State}
use Rattle.encoder.specs.Does.{regions_of, variables_of, decisions_of}
use Rattle.encoder.specs.declared.Assignment.{Assignment}
use Rattle.encoder.specs.Assignments.{variables_in, decisions_in}

-- one number more, unless it is there: a step of `distinct`
unfoldable pub noted : ℕ → List ℕ → List ℕ
noted x xs = cond (elem x xs) xs (snoc xs x)

-- the list at hand has r numbers now, those before and x
pub record Notes (x m : ℕ) (st : ℕ → List ℕ) (r : ℕ) (st' : ℕ → List ℕ) : Type 0 where
  pub marked : Marked 14 15 r st'
  pub is : listed r 14 st' ≡ noted x (listed m 14 st)
  pub others : Changed (14 ∷ 15 ∷ []) st st'

-- the list at hand is xs
pub record Gathers (xs : List ℕ) (st : ℕ → List ℕ) (r : ℕ) (st' : ℕ → List ℕ) : Type 0 where
  pub marked : Marked 14 15 r st'
  pub is : listed r 14 st' ≡ xs
  pub others : Changed (14 ∷ 15 ∷ []) st st'

-- of a state its area alone was written
pub record Written (x x' : State) : Type 0 where
  pub limits : x'.limits ≡ x.limits
  pub area : x'.area.ghost_name ≡ x.area.ghost_name
  pub used : x'.used ≡ x.used

-- the same three of a state
pub record HandNotes (a m : ℕ) (x : State) (r : ℕ) (x' : State) : Type 0 where
  pub written : Written x x'
  pub notes : Notes a m (regions_of x) r (held x.limits x'.area.now)

pub record HandGathers (xs : List ℕ) (x : State) (r : ℕ) (x' : State) : Type 0 where
  pub written : Written x x'
  pub gathers : Gathers xs (regions_of x) r (held x.limits x'.area.now)

pub record HandReleased (x x' : State) : Type 0 where
  pub written : Written x x'
  pub emptied : Emptied 14 15 (regions_of x) (held x.limits x'.area.now)

-- part p has a variable that is decided true: the rules' `decided_true` of a state with these variables and decisions
unfoldable pub true_of : List Origin → List Decision → ℕ → Bool
true_of vs ds p = known vs (part_origin p) && is_true ds (part_variable vs p)

-- that of a state
abbrev pub truth_of : State → ℕ → Bool
truth_of x = true_of (variables_of x) (decisions_of x)

-- that of an assignment
abbrev pub truth_in : Assignment → ℕ → Bool
truth_in a = true_of (variables_in a) (decisions_in a)

-- its variable is decided false
unfoldable pub false_of : List Origin → List Decision → ℕ → Bool
false_of vs ds p = is_false ds (part_variable vs p)

-- ---- by the decisions

-- the origin is a part's that passes
unfoldable pub of_part : (ℕ → Bool) → Origin → Bool
of_part f (chosen root) = false
of_part f (chosen (part p)) = f p
of_part f (forbid n j) = false
of_part f (one n) = false
of_part f (violation r) = false
of_part f (gate g) = false

-- p is a matching part of range r that is decided true
unfoldable pub true_match : Catalogue → List Origin → List Decision → ℕ → ℕ → Bool
true_match c vs ds r p = ltb p (length c.parts) && (cache.chosen c r Matching p && true_of vs ds p)

-- the decision makes the variable of such a part true
unfoldable pub decides_for : Catalogue → List Origin → List Decision → ℕ → Decision → Bool
decides_for c vs ds r d = d.value && of_part (true_match c vs ds r) (get_or vs d.variable (chosen root))

-- each of these entries is a disjunct of a requirement
pub record AllGiven (c : Catalogue) (es : List (ℕ × ℕ)) : Type 0 where
  pub given : Each (Entry c) es
