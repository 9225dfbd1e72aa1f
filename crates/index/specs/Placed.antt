-- Where a chain's numbers stand: apart from each other, within the area, and none of its heads and links read in a table.
use Rattle.std.specs.Prelude.{◌≡◌, List, ℕ, ◌<◌, ◌≤◌, length, set}
use Rattle.words.specs.Words.{words}
use Rattle.tables.specs.declared.Counts.{Counts}
use Rattle.tables.specs.Tables.{tables_in, Laid}
use Rattle.index.specs.Chains.{Chain}

-- of n rows and `most` keys the places of keys, heads and links lie apart, heads and links within so many numbers
pub record Apart (h : Chain) (n most size : ℕ) : Type 0 where
  pub heads_in : (x : ℕ) → x < most → h.head_at x < size
  pub links_in : (i : ℕ) → i < n → h.link_at i < size
  pub heads : (x y : ℕ) → x < most → y < most → h.head_at x ≡ h.head_at y → x ≡ y
  pub links : (i j : ℕ) → i < n → j < n → h.link_at i ≡ h.link_at j → i ≡ j
  pub head_link : (x i : ℕ) → x < most → i < n → h.head_at x ≡ h.link_at i → ⊥
  pub key_head : (i x : ℕ) → i < n → x < most → h.key_at i ≡ h.head_at x → ⊥
  pub key_link : (i j : ℕ) → i < n → j < n → h.key_at i ≡ h.link_at j → ⊥

-- the same of a catalogue's things in its area, where keys lie within too
pub record Placed (h : Chain) (k : Counts) (n most size : ℕ) : Type 0 where
  pub few : n ≤ 1024
  pub low : most ≤ 1025
  pub apart : Apart h n most size
  pub keys_in : (i : ℕ) → i < n → h.key_at i < size
  pub head_free : (x v : ℕ) (w : List ℕ) → x < most → tables_in k (set w (h.head_at x) v) ≡ tables_in k w
  pub link_free : (i v : ℕ) (w : List ℕ) → i < n → tables_in k (set w (h.link_at i) v) ≡ tables_in k w

-- wherever the tables are laid out
pub record PlacedIn (h : Chain) (rows keys : Counts → ℕ) : Type 0 where
  pub at : (k : Counts) (t : List ℕ) → Laid k (length t) → Placed h k (rows k) (keys k) (length (words t))
