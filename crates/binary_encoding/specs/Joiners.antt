-- Names of which some part joins, by flags.
use Rattle.std.specs.Prelude.{◌≡◌, Bool, true, false, List, map, ℕ, ◌<◌, get_or}
use Rattle.rules.specs.Lists.{filter, distinct}
use Rattle.tables.specs.declared.Counts.{Counts}
use Rattle.marked.specs.Marked.{listed, is_marked}
use Rattle.encoder.specs.declared.State.{State}
use Rattle.goals.specs.Goals.{HandNotes}
use Rattle.tracking.specs.Joining.{part_name}

unfoldable pub flagged : List Bool → (name : ℕ) → Bool
flagged flags n = get_or flags n false

-- the name of part p is flagged, if p is not tracked
pub record NotesJoiner (k : Counts) (t : List ℕ) (st : ℕ → List ℕ) (p : ℕ) (flags flags' : List Bool) : Type 0 where
  pub still : (n : ℕ) → flagged flags n ≡ true → flagged flags' n ≡ true
  pub new : is_marked 11 p st ≡ false → flagged flags' (part_name k t p) ≡ true

-- so are the names of the first i of the named parts
pub record JoinersNoted (k : Counts) (t : List ℕ) (named : ℕ) (st : ℕ → List ℕ) (i : ℕ) (flags : List Bool) : Type 0 where
  pub is : (j : ℕ) → j < i → is_marked 11 (get_or (listed named 8 st) j 0) st ≡ false → flagged flags (part_name k t (get_or (listed named 8 st) j 0)) ≡ true

-- a is noted, or nothing is done
pub record NotesIf (b : Bool) (a m : ℕ) (x : State) (r : ℕ) (x' : State) : Type 0 where
  pub noted : b ≡ true → HandNotes a m x r x'
  pub same : b ≡ false → r ≡ m
  pub kept : b ≡ false → x' ≡ x

-- the flagged names of these parts, each once
unfoldable pub flagged_names : Counts → (t : List ℕ) (flags : List Bool) → List ℕ → List ℕ
flagged_names k t flags ps = distinct (filter (flagged flags) (map (part_name k t) ps))
