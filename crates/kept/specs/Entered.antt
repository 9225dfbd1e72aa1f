-- What an item's answer stands for, and what holds after it.
use Rattle.std.specs.Prelude.{◌≡◌, ℕ, ◌+◌, Result, Ok, Err}
use Rattle.rules.specs.Catalogue.{Catalogue}
use Rattle.rules.specs.Refusals as refusals
use Rattle.rules.specs.Records.{Item}
use Rattle.rules.specs.Items.{add_item}
use Rattle.refusal.specs.declared.Refusal.{Refusal}
use Rattle.refusal.specs.Refusing.{refusal_of}

-- the rows of union members that an item takes
unfoldable pub rows_of : Item → ℕ
rows_of (Item.name f) = 0
rows_of (Item.part n f u e) = 0
rows_of (Item.range n) = 0
rows_of (Item.member r p) = 0
rows_of Item.union = 0
rows_of (Item.union_member u r) = 1
rows_of (Item.leaf r) = 0
rows_of (Item.joined o l r) = 0
rows_of (Item.requirement o f n c) = 0
rows_of (Item.constraint o r) = 0

-- none if it is refused
unfoldable pub rows_taken : Item → Result (Unit {0}) Refusal → ℕ
rows_taken e (Ok x) = rows_of e
rows_taken e (Err f) = 0

unfoldable pub answered : Result (Unit {0}) Refusal → Catalogue → refusals.Result Catalogue
answered (Ok x) c = refusals.ok c
answered (Err f) c = refusals.refuse (refusal_of f)

-- item e, of the catalogue c, which has n union members: the answer, and the catalogue and the members after it
pub record Entered (c : Catalogue) (n : ℕ) (e : Item) (r : Result (Unit {0}) Refusal) (c' : Catalogue) (n' : ℕ) : Type 0 where
  pub is : answered r c' ≡ add_item c e
  pub members : n' ≡ n + rows_taken e r
