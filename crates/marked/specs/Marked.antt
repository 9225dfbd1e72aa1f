-- A list with marks: the first n numbers of one region, each once, and a region that has 1 at each number of the list and 0 elsewhere.
use Rattle.std.specs.Prelude.{◌≡◌, Bool, true, false, cond, List, [], ◌∷◌, ℕ, ◌+◌, ◌<◌, ◌≤◌, eqb, length, get_or, take}
use Rattle.rules.specs.Lists.{elem, snoc}
use Rattle.rules.specs.Catalogue.{Owner, root, part}
use Rattle.rules.proofs.Membership.{Once}
use Rattle.state.specs.Changed.{Changed}
use Rattle.marked.specs.declared.MarkedList.{MarkedList}
use Rattle.marked.specs.declared.MarkedList.TheVariants.{Owners, Names, Added, Named, Tracked, Candidates}

-- the regions of a list and of its marks
abbrev pub list_of : MarkedList → ℕ
list_of Owners = 1
list_of Names = 3
list_of Added = 6
list_of Named = 8
list_of Tracked = 10
list_of Candidates = 14

abbrev pub marks_of : MarkedList → ℕ
marks_of Owners = 2
marks_of Names = 4
marks_of Added = 7
marks_of Named = 9
marks_of Tracked = 11
marks_of Candidates = 15

-- the first n numbers of region r
unfoldable pub listed : (n r : ℕ) → (ℕ → List ℕ) → List ℕ
listed n r st = take n (st r)

-- has number x a mark in region m?
unfoldable pub is_marked : (m x : ℕ) → (ℕ → List ℕ) → Bool
is_marked m x st = eqb (get_or (st m) x 0) 1

-- n numbers are listed in region r, with their marks in region m
pub record Marked (r m n : ℕ) (st : ℕ → List ℕ) : Type 0 where
  pub apart : r ≡ m → ⊥
  pub short : length (st r) ≤ 1025
  pub room : length (st m) ≤ length (st r)  -- room for every number that can have a mark
  pub most : n ≤ length (st r)
  pub once : Once (listed n r st)
  pub marks : (x : ℕ) → get_or (st m) x 0 ≡ cond (elem x (listed n r st)) 1 0

-- x can be listed
pub record Free (r m n x : ℕ) (st : ℕ → List ℕ) : Type 0 where
  pub marked : Marked r m n st
  pub low : x < length (st m)
  pub new : elem x (listed n r st) ≡ false

-- x is listed behind the others
pub record Pushed (r m n x : ℕ) (st : ℕ → List ℕ) (n' : ℕ) (st' : ℕ → List ℕ) : Type 0 where
  pub count : n' ≡ n + 1
  pub list : listed n' r st' ≡ snoc (listed n r st) x
  pub marked : Marked r m n' st'
  pub others : Changed (r ∷ m ∷ []) st st'

-- nothing is listed
pub record Emptied (r m : ℕ) (st st' : ℕ → List ℕ) : Type 0 where
  pub marked : Marked r m 0 st'
  pub others : Changed (r ∷ m ∷ []) st st'

-- ---- owners by number: a part's number, and 1,024 for the root

unfoldable pub owner_by : Bool → ℕ → Owner
owner_by true o = root
owner_by false o = part o

unfoldable pub owner_of : ℕ → Owner
owner_of o = owner_by (eqb o 1024) o

unfoldable pub number_of : Owner → ℕ
number_of root = 1024
number_of (part p) = p
