-- A reader of listings, from 01's account of them alone: "One space parts fields, a line feed ends lines"; "`v` variable, origin (root, part, ..) and number;
-- `c` clause, word, signed variables". And demand 3 as it reads over a listing's bytes.
use Rattle.std.specs.Prelude.{◌≡◌, ◌↔◌, ◌-◌, Bool, true, false, ◌&&◌, List, [], ◌∷◌, ◌++◌, ℕ, ◌+◌, ◌*◌, ◌<◌, eqb, length, get_or, drop}
use Rattle.std.proofs.Math.Option.{Option, none, some}
use Rattle.rules.specs.Lists.{list_if, concat_map, fold}
use Rattle.rules.specs.Literal.{Literal, pos, neg}
use Rattle.rules.specs.Truth.{Values, all_true}
use Rattle.rules.specs.Catalogue.{Owner, root, part, Catalogue}
use Rattle.rules.specs.Variables.{Origin, chosen, forbid, one, violation, gate}
use Rattle.rules.specs.State.{State}
use Rattle.rules.specs.Limits.{Terms}
use Rattle.rules.specs.Listing.{ascii, listing}
use Rattle.rules.specs.Job.{accepted, outcome}
use Rattle.rules.specs.Keeps.{Parts, Keeps}

-- ---- lines and fields

-- the runs of bytes between those that equal d
unfoldable pub join_first : ℕ → List (List ℕ) → List (List ℕ)
join_first b [] = (b ∷ []) ∷ []
join_first b (r ∷ rs) = (b ∷ r) ∷ rs

unfoldable pub runs_between : ℕ → List ℕ → List (List ℕ)
runs_between d [] = [] ∷ []
runs_between d (b ∷ bs) = elim (eqb b d) [ true ↦ [] ∷ runs_between d bs | false ↦ join_first b (runs_between d bs) ]

-- what is read of each line's fields, line after line
unfoldable pub lines_read : {A : Type 0} → (List (List ℕ) → List A) → List ℕ → List A
lines_read reader bytes = concat_map (λ l. reader (runs_between 32 l)) (runs_between 10 bytes)

unfoldable pub number_read : List ℕ → ℕ
number_read ds = fold (λ d n. 10 * n + (d - 48)) ds 0

unfoldable pub is_letter : ℕ → List ℕ → Bool
is_letter c [] = false
is_letter c (b ∷ []) = eqb b c
is_letter c (b ∷ b' ∷ bs) = false

unfoldable pub is_word : List ℕ → List ℕ → Bool
is_word [] [] = true
is_word [] (b ∷ bs) = false
is_word (c ∷ cs) [] = false
is_word (c ∷ cs) (b ∷ bs) = eqb b c && is_word cs bs

-- ---- clauses

-- a field that begins with a sign is a literal; no other is
unfoldable pub literal_read : List ℕ → List Literal
literal_read [] = []
literal_read (b ∷ ds) = list_if (eqb b 43) (pos (number_read ds) ∷ []) ++ list_if (eqb b 45) (neg (number_read ds) ∷ [])

-- of a line with the first field c, the literals among its fields
unfoldable pub clause_read : List (List ℕ) → List (List Literal)
clause_read [] = []
clause_read (f ∷ fs) = list_if (is_letter 99 f) (concat_map literal_read fs ∷ [])

unfoldable pub clauses_read : List ℕ → List (List Literal)
clauses_read bytes = lines_read clause_read bytes

-- ---- variables

-- the root or the part that an origin names; none for a helper's
unfoldable pub origin_read : List (List ℕ) → Option Owner
origin_read [] = none
origin_read (w ∷ fs) =
    elim (is_word (ascii "root") w) [ true ↦ some root | false ↦ elim (is_word (ascii "part") w) [ true ↦ some (part (number_read (get_or fs 0 []))) | false ↦ none ] ]

-- of a line with the first field v, what follows the variable's number
unfoldable pub variable_read : List (List ℕ) → List (Option Owner)
variable_read [] = []
variable_read (f ∷ fs) = list_if (is_letter 118 f) (origin_read (drop 1 fs) ∷ [])

unfoldable pub variables_read : List ℕ → List (Option Owner)
variables_read bytes = lines_read variable_read bytes

-- and what is to be read of a variable with this origin
abbrev pub chosen_of : Origin → Option Owner
chosen_of (chosen o) = some o
chosen_of (forbid n j) = none
chosen_of (one n) = none
chosen_of (violation r) = none
chosen_of (gate g) = none

-- of a line with the first field v, the variable's number
unfoldable pub variable_number : List (List ℕ) → List ℕ
variable_number [] = []
variable_number (f ∷ fs) = list_if (is_letter 118 f) (number_read (get_or fs 0 []) ∷ [])

unfoldable pub numbers_read : List ℕ → List ℕ
numbers_read bytes = lines_read variable_number bytes

-- ---- demand 3 over a listing's bytes

-- the root true, parts as P, helpers as they like
abbrev pub AgreesRead : Parts → Option Owner → Bool → Type 0
AgreesRead P (some root) b = b ≡ true
AgreesRead P (some (part p)) b = b ≡ P p
AgreesRead P none b = Unit {0}

-- the variables that the bytes list have values that agree with P and make every clause that they list true
abbrev pub SatisfiableRead : List ℕ → Parts → Type 0
SatisfiableRead bytes P =
    (v : Values)
    × ((x : ℕ) → x < length (variables_read bytes) → AgreesRead P (get_or (variables_read bytes) x (some root)) (v x))
    × (all_true v (clauses_read bytes) ≡ true)

-- for every job that is accepted and every set of parts
abbrev pub Demand3Read : Type 0
Demand3Read =
    (t : Terms) (job : List ℕ) (c : Catalogue) (s : State) → outcome t job ≡ accepted c s
    → (P : Parts) → SatisfiableRead (listing c s) P ↔ Keeps c s.opening P
