-- Chains through the rows of the catalogue's tables: for each key the first row that has it, and for each row the next one with the same key.
use Rattle.std.specs.Prelude.{◌≡◌, Bool, true, false, not, cond, ◌&&◌, List, ℕ, ◌+◌, ◌*◌, ◌<◌, ◌≤◌, eqb, get_or, set}
use Rattle.rules.specs.Catalogue.{Owner, root, part, no_part}
use Rattle.words.specs.Words.{words}
use Rattle.marks.specs.Marks.{is_marked, NextMember, EndOfMembers}
use Rattle.tables.specs.declared.Counts.{Counts}
use Rattle.tables.specs.Tables.{Tables, tables}

-- r is the first number from `from` on whose key is x, of those below n; or n
pub record First (n : ℕ) (key : ℕ → ℕ) (x from r : ℕ) : Type 0 where
  pub onward : from ≤ r
  pub inside : r ≤ n
  pub none : (i : ℕ) → from ≤ i → i < r → key i ≡ x → ⊥

-- from `from` on nothing is selected before r; r is at most n
pub record Skips (n : ℕ) (selected : ℕ → Bool) (from r : ℕ) : Type 0 where
  pub onward : from ≤ r
  pub inside : r ≤ n
  pub none : (i : ℕ) → from ≤ i → i < r → selected i ≡ false

-- where the key of a row stands, the first row of a key, and the row behind a row; `row` makes a key of the number that stands there
pub record Chain : Type 0 where
  pub key_at : ℕ → ℕ
  pub head_at : ℕ → ℕ
  pub link_at : ℕ → ℕ
  pub row : ℕ → ℕ

-- an owner by its row: the root's is the first, then each part's
unfoldable pub owner_row : ℕ → ℕ
owner_row o = cond (eqb o 65535) 0 (o + 1)

-- the same of an owner as the definitions have it
unfoldable pub row_of : Owner → ℕ
row_of root = 0
row_of (part p) = p + 1

abbrev pub parts_by_name : Chain
parts_by_name = record { key_at = λ p. 384 + 5 * p; head_at = λ x. 6 * x + 3; link_at = λ p. 384 + 5 * p + 4; row = λ x. x }

abbrev pub requirements_by_owner : Chain
requirements_by_owner = record { key_at = λ q. 13572 + 6 * q; head_at = λ x. 5504 + 4 * x; link_at = λ q. 13572 + 6 * q + 4; row = owner_row }

abbrev pub constraints_by_owner : Chain
constraints_by_owner = record { key_at = λ i. 19716 + 3 * i; head_at = λ x. 5504 + 4 * x + 2; link_at = λ i. 19716 + 3 * i + 2; row = owner_row }

unfoldable pub key_of : Chain → List ℕ → ℕ → ℕ
key_of h w i = h.row (get_or w (h.key_at i) 0)

-- of n rows with keys below `most`, those from `from` on are linked
pub record Linked (h : Chain) (n most from : ℕ) (w : List ℕ) : Type 0 where
  pub heads : (x : ℕ) → x < most → First n (key_of h w) x from (get_or w (h.head_at x) 0)
  pub links : (i : ℕ) → from ≤ i → i < n → First n (key_of h w) (key_of h w i) (i + 1) (get_or w (h.link_at i) 0)

-- every key is below `most`
pub record Keyed (h : Chain) (n most : ℕ) (w : List ℕ) : Type 0 where
  pub low : (i : ℕ) → i < n → key_of h w i < most

-- x is the key of row i, below `most`
pub record Key (h : Chain) (most : ℕ) (w : List ℕ) (i x : ℕ) : Type 0 where
  pub is : x ≡ key_of h w i
  pub low : x < most

-- nothing but heads and links of the chain has changed
pub record Only (h : Chain) (n most : ℕ) (w w' : List ℕ) : Type 0 where
  pub others : (a : ℕ) → ((x : ℕ) → x < most → a ≡ h.head_at x → ⊥) → ((i : ℕ) → i < n → a ≡ h.link_at i → ⊥) → get_or w' a 0 ≡ get_or w a 0

-- of a range the first member and the end of its members: no chain, but its places too are those of heads and links
abbrev pub range_bounds : Chain
range_bounds = record { key_at = λ r. 9604 + 4 * r; head_at = λ r. 9604 + 4 * r + 2; link_at = λ r. 9604 + 4 * r + 3; row = λ x. x }

-- they stand there for the ranges below x
pub record Bounded (k : Counts) (m : List ℕ) (x : ℕ) (w : List ℕ) : Type 0 where
  pub firsts : (r : ℕ) → r < x → NextMember m r 0 k.parts (get_or w (9604 + 4 * r + 2) 0)
  pub ends : (r : ℕ) → r < x → EndOfMembers m r k.parts (get_or w (9604 + 4 * r + 3) 0)

-- of a name bounds of its favoured parts, the second behind them: their places are those of heads and links too
abbrev pub favoured_bounds : Chain
favoured_bounds = record { key_at = λ x. 6 * x; head_at = λ x. 6 * x + 4; link_at = λ x. 6 * x + 5; row = λ x. x }

unfoldable pub is_favoured : Counts → (t : List ℕ) → ℕ → Bool
is_favoured k t p = (get_or (tables k t).parts p no_part).favoured

-- the favoured parts from `from` on lie within the bounds of their names
pub record Favoured (k : Counts) (from : ℕ) (t : List ℕ) : Type 0 where
  pub above : (x p : ℕ) → x < k.names → from ≤ p → p < k.parts → key_of parts_by_name (words t) p ≡ x → is_favoured k t p ≡ true → get_or (words t) (6 * x + 4) 0 ≤ p
  pub below : (x p : ℕ) → x < k.names → from ≤ p → p < k.parts → key_of parts_by_name (words t) p ≡ x → is_favoured k t p ≡ true → p < get_or (words t) (6 * x + 5) 0

-- all of them do: closed, so that a search does not look through it
pub data FavouredBounded (k : Counts) (t : List ℕ) : Type 0 where
  bounded : Favoured k 0 t → FavouredBounded k t

-- part p is one of the name of range r, and no member
unfoldable pub is_non_matching : Tables → (marks : List ℕ) → ℕ → ℕ → Bool
is_non_matching t m r p = eqb (get_or t.parts p no_part).name (get_or t.ranges r 0) && not (is_marked m r p)

-- x is the first of them, of n parts; or n
pub record FirstNonMatching (n : ℕ) (t : Tables) (m : List ℕ) (r x : ℕ) : Type 0 where
  pub skips : Skips n (is_non_matching t m r) 0 x
  pub here : x < n → is_non_matching t m r x ≡ true

-- its place in the range's row: a head without links
abbrev pub non_matching_heads : Chain
non_matching_heads = record { key_at = λ r. 9604 + 4 * r; head_at = λ r. 9604 + 4 * r + 1; link_at = λ r. 9604 + 4 * r + 1; row = λ x. x }

-- it stands there for the ranges below x
pub record Noted (k : Counts) (m : List ℕ) (x : ℕ) (t : List ℕ) : Type 0 where
  pub firsts : (r : ℕ) → r < x → FirstNonMatching k.parts (tables k t) m r (get_or (words t) (9604 + 4 * r + 1) 0)

-- for all of them: closed too
pub data NonMatchingNoted (k : Counts) (m t : List ℕ) : Type 0 where
  noted : Noted k m k.ranges t → NonMatchingNoted k m t

-- the chains by name and by owner lead through all rows, the members of every range and the favoured parts of every name are bounded,
-- and the first non-matching part of every range is known
pub record Chains (k : Counts) (m t : List ℕ) : Type 0 where
  pub parts : Linked parts_by_name k.parts k.names 0 (words t)
  pub requirements : Linked requirements_by_owner k.requirements (k.parts + 1) 0 (words t)
  pub constraints : Linked constraints_by_owner k.constraints (k.parts + 1) 0 (words t)
  pub ranges : Bounded k m k.ranges (words t)
  pub favoured : FavouredBounded k t
  pub non_matching_law : NonMatchingNoted k m t

-- names of parts and owners are given
pub record Keys (k : Counts) (t : List ℕ) : Type 0 where
  pub parts : Keyed parts_by_name k.parts k.names (words t)
  pub requirements : Keyed requirements_by_owner k.requirements (k.parts + 1) (words t)
  pub constraints : Keyed constraints_by_owner k.constraints (k.parts + 1) (words t)

-- a step on the way: the tables are as they were, and of this chain the rows from `from` on are linked
pub record Linking (h : Chain) (k : Counts) (n most from : ℕ) (t t' : List ℕ) : Type 0 where
  pub same : tables k t' ≡ tables k t
  pub only : Only h n most (words t) (words t')
  pub linked : Linked h n most from (words t')

-- the same of the heads alone, of which those below x are set
pub record Heading (h : Chain) (k : Counts) (n most x : ℕ) (t t' : List ℕ) : Type 0 where
  pub same : tables k t' ≡ tables k t
  pub only : Only h n most (words t) (words t')
  pub set : (y : ℕ) → y < x → get_or (words t') (h.head_at y) 0 ≡ n

-- the bounds of range r were stored
pub data BoundSet (k : Counts) (m : List ℕ) (r : ℕ) (w w' : List ℕ) : Type 0 where
  bound_set : (first end : ℕ) → NextMember m r 0 k.parts first → EndOfMembers m r k.parts end
      → w' ≡ set (set w (9604 + 4 * r + 2) first) (9604 + 4 * r + 3) end → BoundSet k m r w w'

-- the same of the ranges below x
pub record Bounding (k : Counts) (m : List ℕ) (x : ℕ) (t t' : List ℕ) : Type 0 where
  pub same : tables k t' ≡ tables k t
  pub only : Only range_bounds k.ranges k.ranges (words t) (words t')
  pub bounded : Bounded k m x (words t')

-- the same of the favoured parts from `from` on
pub record Favouring (k : Counts) (from : ℕ) (t t' : List ℕ) : Type 0 where
  pub same : tables k t' ≡ tables k t
  pub only : Only favoured_bounds k.names k.names (words t) (words t')
  pub favoured : Favoured k from t'

-- the same of the first non-matching parts of the ranges below x
pub record Noting (k : Counts) (m : List ℕ) (x : ℕ) (t t' : List ℕ) : Type 0 where
  pub same : tables k t' ≡ tables k t
  pub only : Only non_matching_heads 0 k.ranges (words t) (words t')
  pub noted : Noted k m x t'

-- the tables with their chains
pub record Chained (k : Counts) (m t t' : List ℕ) : Type 0 where
  pub same : tables k t' ≡ tables k t
  pub chains : Chains k m t'

-- ---- a walk along a selection

-- part p is a favoured one of this name
unfoldable pub favoured_of : Counts → (t : List ℕ) (name : ℕ) → ℕ → Bool
favoured_of k t name p = eqb (key_of parts_by_name (words t) p) name && is_favoured k t p
