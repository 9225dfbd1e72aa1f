-- The task line: numbers in region 20, of which those from `head` to `tail` wait to be served.
use Rattle.std.specs.Prelude.{◌≡◌, List, [], ◌∷◌, ℕ, ◌+◌, ◌≤◌, length, get_or, take, drop}
use Rattle.rules.specs.Lists.{snoc}
use Rattle.state.specs.Changed.{Changed}

unfoldable pub queued : (head tail : ℕ) → (ℕ → List ℕ) → List ℕ
queued head tail st = drop head (take tail (st 20))

unfoldable pub line_at : ℕ → (ℕ → List ℕ) → ℕ
line_at head st = get_or (st 20) head 0

-- x waits behind the others, wherever these begin
pub record Queued (tail x : ℕ) (st : ℕ → List ℕ) (tail' : ℕ) (st' : ℕ → List ℕ) : Type 0 where
  pub count : tail' ≡ tail + 1
  pub size : length (st' 20) ≡ length (st 20)
  pub line : (head : ℕ) → head ≤ tail → queued head tail' st' ≡ snoc (queued head tail st) x
  pub before : (head : ℕ) → head ≤ tail → take head (st' 20) ≡ take head (st 20)
  pub others : Changed (20 ∷ []) st st'
