-- The waiting area: the entries that wait and those that were drawn, each a requirement and the index of one of its disjuncts, in order.
use Rattle.std.specs.Prelude.{◌≡◌, List, map, ℕ, ◌+◌, ◌*◌, ◌≤◌, get_or}
use Rattle.rules.specs.Lists.{snoc, up_to}
use Rattle.words.specs.Words.{words}
use Rattle.state.specs.declared.Limits.{Limits}
use Rattle.entries.specs.declared.Entry.{Entry}

abbrev pub no_entry : ℕ × ℕ
no_entry = (0, 0)

unfoldable pub entry_of : Entry → ℕ × ℕ
entry_of e = (e.requirement, e.disjunct)

-- an area of this many bytes is long enough for the limit of waiting entries, twice
pub record Long (l : Limits) (bytes : ℕ) : Type 0 where
  pub waiting : l.waiting ≤ 2048
  pub long : 8 * l.waiting ≤ bytes

-- ---- how they lie in the area: rows of two numbers, the drawn ones behind the room for those that wait

unfoldable pub row_at_index : List ℕ → ℕ → ℕ × ℕ
row_at_index bytes i = (get_or (words bytes) (2 * i) 0, get_or (words bytes) (2 * i + 1) 0)

pub record RowSet (at : ℕ) (x : ℕ × ℕ) (b b' : List ℕ) : Type 0 where
  pub there : row_at_index b' at ≡ x
  pub others : (i : ℕ) → (i ≡ at → ⊥) → row_at_index b' i ≡ row_at_index b i

-- ---- the first n that wait, and the first n that were drawn

unfoldable pub waiting_in : Limits → ℕ → List ℕ → List (ℕ × ℕ)
waiting_in l n bytes = map (λ i. row_at_index bytes i) (up_to 0 n)

unfoldable pub drawn_in : Limits → ℕ → List ℕ → List (ℕ × ℕ)
drawn_in l n bytes = map (λ i. row_at_index bytes (l.waiting + i)) (up_to 0 n)

-- one more waits; what stands behind it is as it was
pub record PushedWaiting (l : Limits) (n : ℕ) (x : ℕ × ℕ) (b : List ℕ) (n' : ℕ) (b' : List ℕ) : Type 0 where
  pub count : n' ≡ n + 1
  pub waiting : waiting_in l n' b' ≡ snoc (waiting_in l n b) x
  pub drawn : (k : ℕ) → drawn_in l k b' ≡ drawn_in l k b

-- one more is drawn
pub record PushedDrawn (l : Limits) (n : ℕ) (x : ℕ × ℕ) (b : List ℕ) (n' : ℕ) (b' : List ℕ) : Type 0 where
  pub count : n' ≡ n + 1
  pub drawn : drawn_in l n' b' ≡ snoc (drawn_in l n b) x
  pub waiting : (k : ℕ) → k ≤ l.waiting → waiting_in l k b' ≡ waiting_in l k b
