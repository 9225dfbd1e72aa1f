-- What a writer does.
use Rattle.std.specs.Prelude.{◌≡◌, Bool, true, false, List, [], ℕ, ◌+◌, ◌<◌, ◌≤◌, length, get_or}
use Rattle.text.specs.Text.{Wrote}
use Rattle.text.specs.declared.Writer.{Writer}

-- w wrote bs and is w' now: its area is the same one, with as much room.
-- A data type, as `Wrote` is, and the writers first, for the sake of `search`.
pub data Writes (w w' : Writer) (bs : List ℕ) : Type 0 where
  writes : (room : w'.room ≡ w.room) (same_reference : w'.out.ghost_name ≡ w.out.ghost_name) → Wrote w.at w'.at bs w.room w.out.now w'.out.now → Writes w w' bs

-- before w's place, as far as its area reaches, stand the n bytes bs, from `begin` on
pub record Stands (bs : List ℕ) (w : Writer) (begin n : ℕ) : Type 0 where
  pub counted : n ≡ length bs
  pub before : begin + n ≤ w.at
  pub bytes : (i : ℕ) → i < n → begin + i < length w.out.now → get_or w.out.now (begin + i) 0 ≡ get_or bs i 0

-- w wrote the n bytes from `begin` on once more; or nothing, since they do not fit
pub record Repeats (w w' : Writer) (begin n : ℕ) (r : Bool) : Type 0 where
  pub again : r ≡ true → (bs : List ℕ) → Stands bs w begin n → Writes w w' bs
  pub full : r ≡ false → w.room < w.at + n
  pub nothing : r ≡ false → Writes w w' []
