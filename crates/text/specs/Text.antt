-- What it is to have written bytes into an area with so much room, and a line's fields behind its first.
use Rattle.std.specs.Prelude.{◌≡◌, Bool, List, ◌∷◌, ℕ, suc, ◌+◌, ◌-◌, ◌<◌, length, take, drop}
use Rattle.std.proofs.lemmas.List.Edits.{sets}
use Rattle.rules.specs.Lists.{concat_map}
use Rattle.rules.specs.Literal.{Literal}

-- what the length of every lent area is
abbrev pub Addressable : ℕ → Type 0
Addressable room = room < 9223372036854775808

-- From place `at` on, bs were written into o, as far as they lie before `room` and within o. The place moved on by their number, but not beyond room + 1.
-- A data type and not a record, and the places first: `search` then tells the calls of a function apart at once.
pub data Wrote (at r : ℕ) (bs : List ℕ) (room : ℕ) (o o' : List ℕ) : Type 0 where
  wrote : (next : r ≡ at + length (take (suc room - at) bs)) (is : o' ≡ sets o at (take (room - at) bs)) → Wrote at r bs room o o'

-- fields behind the first, each behind a space
unfoldable pub fields : List (List ℕ) → List ℕ
fields fs = concat_map (λ f. 32 ∷ f) fs

abbrev pub literal_of : ℕ → Bool → Literal
literal_of x b = record { variable = x; positive = b }

-- o with the n bytes from `begin` on once more at place `at`
unfoldable pub copied : List ℕ → ℕ → ℕ → ℕ → List ℕ
copied o begin n at = sets o at (take n (drop begin o))
