-- 01, the table of refusals: what is wrong, and the one definition that gives its number and place.
use Rattle.std.specs.Prelude.{Bool, true, false, List, [], ◌∷◌, ℕ}

-- what a catalogue gives by number
pub data Thing : Type 0 where
  name part range union condition requirement constraint : Thing

pub data Contradiction : Type 0 where
  other_bits second_locked second_favoured part_of_another_name member_twice : Contradiction
  other_operator other_form owner_unknown other_value : Contradiction

pub data Refusal : Type 0 where
  unfit : Refusal  -- a work area is too short, or a limit is 0 or above its ceiling
  overlong : Refusal  -- the job is over 65,536 bytes
  unknown_kind : Refusal  -- the kind is not in the table
  out_of_place : Refusal  -- a catalogue kind follows a sheet kind
  cut_short : Refusal  -- the body has too few bytes
  too_many : Thing → Refusal  -- a catalogue count passes its ceiling
  missing : Thing → ℕ → Refusal  -- nothing given earlier has the number at this byte of the record
  missing_variable : ℕ → Refusal  -- no variable has the number at this byte of the record
  contradicts : Contradiction → Refusal  -- 01's record table, third column
  disjuncts_over ranges_over : Refusal  -- a condition has over 64 disjuncts; one with over 16 ranges
  level_low : Refusal  -- a level is 0 or below the last decision's
  decided_against : Refusal
  run_full : Refusal  -- a run would end above a limit
  not_run : Refusal  -- added owners or drawn entries are left
  listing_full : Refusal  -- the listing doesn't fit

-- number and place, in a job of this length, for the record at this byte
unfoldable pub number_and_place : ℕ → ℕ → Refusal → ℕ × ℕ
number_and_place length at unfit = (7, 0)
number_and_place length at overlong = (3, 0)
number_and_place length at unknown_kind = (2, at)
number_and_place length at out_of_place = (2, at)
number_and_place length at cut_short = (1, at)
number_and_place length at (too_many t) = (3, at)
number_and_place length at (missing t byte) = (4, at)
number_and_place length at (missing_variable byte) = (4, at)
number_and_place length at (contradicts w) = (5, at)
number_and_place length at disjuncts_over = (6, at)
number_and_place length at ranges_over = (6, at)
number_and_place length at level_low = (9, at)
number_and_place length at decided_against = (8, at)
number_and_place length at run_full = (10, at)
number_and_place length at not_run = (11, length)
number_and_place length at listing_full = (10, length)

-- A rule's refusals are a list in 01's order, each with its test; the first that holds is told.
infix 4 ◌if◌
abbrev pub ◌if◌ : Refusal → Bool → Refusal × Bool
f if b = (f, b)

-- what comes of a step
pub data Result (A : Type 0) : Type 0 where
  ok : A → Result A
  refuse : Refusal → Result A

module _ {A : Type 0} where
  unfoldable pub unless_any : List (Refusal × Bool) → A → Result A
  unless_any [] x = ok x
  unless_any (t ∷ ts) x = elim t.1 [ true ↦ refuse t.0 | false ↦ unless_any ts x ]
