-- Variables in the state area: region 16 has a row of three numbers for each, region 0 a slot for each origin that a catalogue can give.
use Rattle.std.specs.Prelude.{◌≡◌, Bool, true, false, ◌&&◌, cond, Option, None, Some, List, [], ◌∷◌, map, ℕ, ◌+◌, ◌*◌, ◌<◌, ◌≤◌, eqb, ltb, get_or}
use Rattle.rules.specs.Lists.{snoc, up_to}
use Rattle.rules.specs.Catalogue.{root, part, range, union}
use Rattle.rules.specs.Variables.{Origin, chosen, forbid, one, violation, gate, known, variable_of, with_variable, part_origin}
use Rattle.rules.proofs.Each.{Each}
use Rattle.state.specs.declared.Limits.{Limits}
use Rattle.state.specs.Changed.{Changed}
use Rattle.requirement.specs.Requirements.{goal_of}
use Rattle.variable_map.specs.declared.Origin as code
use Rattle.variable_map.specs.declared.Origin.TheVariants.{Root, Part, Forbid, One, Violation, Gate}
use Rattle.variable_map.specs.declared.Named.{Named}

-- ---- origins

abbrev pub origin_of : code.Origin → Origin
origin_of Root = chosen root
origin_of (Part p) = chosen (part p)
origin_of (Forbid n j) = forbid n j
origin_of (One n) = one n
origin_of (Violation r) = violation r
origin_of (Gate q) = gate (goal_of q)

-- as a row has it
unfoldable pub origin_by : (kind number bit : ℕ) → Origin
origin_by kind number bit =
    cond (eqb kind 0) (chosen root)
    (cond (eqb kind 1) (chosen (part number))
    (cond (eqb kind 2) (forbid number bit)
    (cond (eqb kind 3) (one number)
    (cond (eqb kind 4) (violation number)
    (cond (eqb kind 5) (gate (range number)) (gate (union number)))))))

-- its numbers are below the ceilings
unfoldable pub in_tables : Origin → Bool
in_tables (chosen root) = true
in_tables (chosen (part p)) = ltb p 1024
in_tables (forbid n j) = ltb n 64 && ltb j 10
in_tables (one n) = ltb n 64
in_tables (violation r) = ltb r 512
in_tables (gate (range r)) = ltb r 512
in_tables (gate (union u)) = ltb u 128

unfoldable pub slot_of : Origin → ℕ
slot_of (chosen root) = 0
slot_of (chosen (part p)) = 1 + p
slot_of (forbid n j) = 2241 + 10 * n + j
slot_of (one n) = 1025 + n
slot_of (violation r) = 1089 + r
slot_of (gate (range r)) = 1601 + r
slot_of (gate (union u)) = 2113 + u

-- ---- the variables

unfoldable pub origin_in : List ℕ → ℕ → Origin
origin_in w i = origin_by (get_or w (3 * i) 0) (get_or w (3 * i + 1) 0) (get_or w (3 * i + 2) 0)

unfoldable pub variables : ℕ → (ℕ → List ℕ) → List Origin
variables n st = map (origin_in (st 16)) (up_to 0 n)

-- the variable of an origin and one more, or 0
unfoldable pub place : List Origin → Origin → ℕ
place vs o = cond (known vs o) (variable_of vs o + 1) 0

-- the variable of an origin, if it has one
unfoldable pub found : List Origin → Origin → Option ℕ
found vs o = cond (known vs o) (Some (variable_of vs o)) None

-- there are n variables, and each origin's slot has its place
pub record Mapped (l : Limits) (n : ℕ) (st : ℕ → List ℕ) : Type 0 where
  pub room : n ≤ l.variables
  pub slots : (o : Origin) → in_tables o ≡ true → get_or (st 0) (slot_of o) 0 ≡ place (variables n st) o

-- o can get the next variable
pub record Free (l : Limits) (n : ℕ) (o : Origin) (st : ℕ → List ℕ) : Type 0 where
  pub mapped : Mapped l n st
  pub room : n < l.variables
  pub fits : in_tables o ≡ true
  pub unknown : known (variables n st) o ≡ false

-- o's row follows the n rows
pub record Rowed (n : ℕ) (o : Origin) (st st' : ℕ → List ℕ) : Type 0 where
  pub is : variables (n + 1) st' ≡ snoc (variables n st) o
  pub rest : Changed (16 ∷ []) st st'

-- the n variables are now vs, and nothing but regions 0 and 16 has changed
pub record Grown (l : Limits) (n : ℕ) (vs : List Origin) (st st' : ℕ → List ℕ) : Type 0 where
  pub mapped : Mapped l n st'
  pub is : variables n st' ≡ vs
  pub rest : Changed (0 ∷ 16 ∷ []) st st'

-- o, named among n variables: now there are `count`, and x is its variable
pub record Made (l : Limits) (n : ℕ) (o : Origin) (count x : ℕ) (st st' : ℕ → List ℕ) : Type 0 where
  pub grown : Grown l count (with_variable o (variables n st)) st st'
  pub variable : x ≡ variable_of (with_variable o (variables n st)) o
  pub below : x < count

-- there was no room for o
pub record Lacking (l : Limits) (n : ℕ) (o : Origin) (st st' : ℕ → List ℕ) : Type 0 where
  pub unknown : known (variables n st) o ≡ false
  pub full : n ≡ l.variables
  pub same : st' ≡ st

pub record Naming (l : Limits) (n : ℕ) (o : Origin) (st st' : ℕ → List ℕ) (r : Option Named) : Type 0 where
  pub made : (m : Named) → r ≡ Some m → Made l n o m.count m.variable st st'
  pub lacking : r ≡ None → Lacking l n o st st'

-- each of these parts has a variable
pub record AllKnown (vs : List Origin) (ps : List ℕ) : Type 0 where
  pub known : Each (λ p. known vs (part_origin p) ≡ true) ps
