-- Chains of the members of unions: for each union its first row, and for each row the next one of its union. Rows that cannot matter are passed over.
use Rattle.std.specs.Prelude.{◌≡◌, Bool, true, List, ℕ, ◌+◌, ◌*◌, ◌<◌, ◌≤◌, eqb, length, get_or}
use Rattle.rules.specs.Lists.{count}
use Rattle.words.specs.Words.{words}
use Rattle.tables.specs.declared.Counts.{Counts}
use Rattle.tables.specs.Tables.{tables}
use Rattle.unions.specs.Unions.{Row, no_row, rows, before}
use Rattle.index.specs.Chains.{Chain, Only, Chains}

-- how often x stands in a list
unfoldable pub times : ℕ → List ℕ → ℕ
times x xs = count (eqb x) xs

-- four earlier rows of union u have the range of row i: it adds no range, and nobody counts candidates beyond four
pub record Idle (rs : List Row) (u i : ℕ) : Type 0 where
  pub often : 4 ≤ times (get_or rs i no_row).range (before u i rs)

-- place i of n rows: a row of union u, or their end
pub record At (n : ℕ) (rs : List Row) (u i : ℕ) : Type 0 where
  pub most : i ≤ n
  pub here : i < n → (get_or rs i no_row).union ≡ u

-- r is such a place, and of the union's rows from `from` on those before it are idle
pub record Passes (k : Counts) (rs : List Row) (u from r : ℕ) : Type 0 where
  pub onward : from ≤ r
  pub at : At k.members rs u r
  pub idle : (i : ℕ) → from ≤ i → i < r → (get_or rs i no_row).union ≡ u → Idle rs u i

-- the rows from `from` on are linked: the next of each stands in the members' words v
pub record Links (k : Counts) (rs : List Row) (from : ℕ) (v : List ℕ) : Type 0 where
  pub next : (i : ℕ) → from ≤ i → i < k.members → Passes k rs (get_or rs i no_row).union (i + 1) (get_or v (2 * i + 1) 0)

-- the same, and the first of each union stands in the tables' words w
pub record Threaded (k : Counts) (rs : List Row) (from : ℕ) (w v : List ℕ) : Type 0 where
  pub heads : (u : ℕ) → u < k.unions → Passes k rs u from (get_or w (11652 + 3 * u) 0)
  pub links : Links k rs from v

-- x is the union of row i, and given
pub record UnionOf (k : Counts) (rs : List Row) (i x : ℕ) : Type 0 where
  pub is : x ≡ (get_or rs i no_row).union
  pub low : x < k.unions

-- r is the range of row i, below the ceiling of ranges
pub record RangeOf (rs : List Row) (i r : ℕ) : Type 0 where
  pub is : r ≡ (get_or rs i no_row).range
  pub low : r < 512

-- if b is true, rows i and j are the same
pub record SameRow (rs : List Row) (i j : ℕ) (b : Bool) : Type 0 where
  pub same : b ≡ true → get_or rs i no_row ≡ get_or rs j no_row

-- if b is true, row i is idle in its union
pub record Repeated (rs : List Row) (i : ℕ) (b : Bool) : Type 0 where
  pub idle : b ≡ true → Idle rs (get_or rs i no_row).union i

-- ---- steps on the way

-- the places of the unions' first rows: no chain through the tables, but its heads
abbrev pub union_heads : Chain
union_heads = record { key_at = λ u. 11652 + 3 * u; head_at = λ u. 11652 + 3 * u; link_at = λ u. 11652 + 3 * u + 1; row = λ u. u }

-- nothing but these has changed, and the tables are as they were
pub record HeadsOnly (k : Counts) (t t' : List ℕ) : Type 0 where
  pub same : tables k t' ≡ tables k t
  pub only : Only union_heads 0 k.unions (words t) (words t')

-- the unions below x have no row yet
pub record Unlinked (k : Counts) (x : ℕ) (t t' : List ℕ) : Type 0 where
  pub heads : HeadsOnly k t t'
  pub set : (u : ℕ) → u < x → get_or (words t') (11652 + 3 * u) 0 ≡ k.members

-- the rows are as they were, and those from `from` on are linked
pub record Threading (k : Counts) (from : ℕ) (u t u' t' : List ℕ) : Type 0 where
  pub heads : HeadsOnly k t t'
  pub kept : rows k.members u' ≡ rows k.members u
  pub threaded : Threaded k (rows k.members u) from (words t') (words u')

-- only links have changed, and all rows are linked
pub record Relinked (k : Counts) (u u' : List ℕ) : Type 0 where
  pub kept : rows k.members u' ≡ rows k.members u
  pub links : Links k (rows k.members u) 0 (words u')

-- of the rows of its union before place i, row `last` being one of the union, each range has at least as many as `seen` says
pub record Seen (rs : List Row) (last i : ℕ) (seen : List ℕ) : Type 0 where
  pub long : length seen ≡ 512
  pub often : (r : ℕ) → r < 512 → get_or seen r 0 ≤ times r (before (get_or rs last no_row).union i rs)

-- the links have changed, and the row behind row `last` is at place i
pub record Shortened (k : Counts) (u : List ℕ) (last i : ℕ) (u' seen : List ℕ) : Type 0 where
  pub relinked : Relinked k u u'
  pub low : last < k.members
  pub next : get_or (words u') (2 * last + 1) 0 ≡ i
  pub often : Seen (rows k.members u) last i seen

-- the same, and the row behind row `last` is behind row i
pub record Passed (k : Counts) (u : List ℕ) (i last : ℕ) (u' seen : List ℕ) : Type 0 where
  pub relinked : Relinked k u u'
  pub low : last < k.members
  pub more : i < get_or (words u') (2 * last + 1) 0
  pub often : Seen (rows k.members u) last (i + 1) seen

-- the tables and the members of unions with their chains
pub record Built (k : Counts) (m u t u' t' : List ℕ) : Type 0 where
  pub same : tables k t' ≡ tables k t
  pub kept : rows k.members u' ≡ rows k.members u
  pub chains : Chains k m t'
  pub members : Threaded k (rows k.members u) 0 (words t') (words u')
