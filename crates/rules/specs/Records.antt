-- 01, Records: "One byte of kind, then a body whose length the kind fixes".
use Rattle.std.specs.Prelude.{Bool, true, false, not, ◌&&◌, List, [], ◌∷◌, ℕ, eqb, ltb, leb, length, take}
use Rattle.std.proofs.Math.Option.{Option, none, some}
use Rattle.rules.specs.Bytes.{byte_at, word_at}
use Rattle.rules.specs.Refusals.{unknown_kind, out_of_place, cut_short, Result, ok, refuse}

pub data Kind : Type 0 where
  name part range member union union_member leaf joined requirement constraint : Kind
  add draw run decide undo : Kind

-- each kind's number and the length of its body
abbrev pub kinds : List (ℕ × Kind × ℕ)
kinds =
    (1, Kind.name, 1) ∷ (2, Kind.part, 7) ∷ (3, Kind.range, 2) ∷ (4, Kind.member, 4) ∷ (5, Kind.union, 0) ∷ (6, Kind.union_member, 4)
    ∷ (7, Kind.leaf, 2) ∷ (8, Kind.joined, 5) ∷ (9, Kind.requirement, 7) ∷ (10, Kind.constraint, 4)
    ∷ (32, Kind.add, 2) ∷ (33, Kind.draw, 2) ∷ (34, Kind.run, 2) ∷ (35, Kind.decide, 5) ∷ (36, Kind.undo, 2) ∷ []

unfoldable pub look_up : ℕ → List (ℕ × Kind × ℕ) → Option (Kind × ℕ)
look_up b [] = none
look_up b (e ∷ es) = elim (eqb b e.0) [ true ↦ some (e.1, e.2) | false ↦ look_up b es ]

unfoldable pub kind_of : ℕ → Option (Kind × ℕ)
kind_of b = look_up b kinds

-- sheet kinds are those from 32
unfoldable pub of_sheet : ℕ → Bool
of_sheet b = leb 32 b

-- a record with the numbers of its body, in their order
pub data Item : Type 0 where
  name : (flags : ℕ) → Item
  part : (name flags unknown_reason exclusion_reason : ℕ) → Item
  range : (name : ℕ) → Item
  member : (range part : ℕ) → Item
  union : Item
  union_member : (union range : ℕ) → Item
  leaf : (range : ℕ) → Item
  joined : (operator left right : ℕ) → Item
  requirement : (owner form number condition : ℕ) → Item
  constraint : (owner range : ℕ) → Item

pub data Command : Type 0 where
  add : (owner : ℕ) → Command
  draw : (condition : ℕ) → Command
  run : (level : ℕ) → Command
  decide : (variable value level : ℕ) → Command
  undo : (level : ℕ) → Command

pub data Record : Type 0 where
  catalogue : Item → Record
  sheet : Command → Record

unfoldable pub record_of : Kind → List ℕ → Record
record_of Kind.name b = catalogue (Item.name (byte_at b 0))
record_of Kind.part b = catalogue (Item.part (word_at b 0) (byte_at b 2) (word_at b 3) (word_at b 5))
record_of Kind.range b = catalogue (Item.range (word_at b 0))
record_of Kind.member b = catalogue (Item.member (word_at b 0) (word_at b 2))
record_of Kind.union b = catalogue Item.union
record_of Kind.union_member b = catalogue (Item.union_member (word_at b 0) (word_at b 2))
record_of Kind.leaf b = catalogue (Item.leaf (word_at b 0))
record_of Kind.joined b = catalogue (Item.joined (byte_at b 0) (word_at b 1) (word_at b 3))
record_of Kind.requirement b = catalogue (Item.requirement (word_at b 0) (byte_at b 2) (word_at b 3) (word_at b 5))
record_of Kind.constraint b = catalogue (Item.constraint (word_at b 0) (word_at b 2))
record_of Kind.add b = sheet (Command.add (word_at b 0))
record_of Kind.draw b = sheet (Command.draw (word_at b 0))
record_of Kind.run b = sheet (Command.run (word_at b 0))
record_of Kind.decide b = sheet (Command.decide (word_at b 0) (byte_at b 2) (word_at b 3))
record_of Kind.undo b = sheet (Command.undo (word_at b 0))

-- refusal 2, then 1. `begun`: a sheet record has stood before; `rest`: what follows the kind
unfoldable pub read_body : (short : Bool) → Kind → List ℕ → Result Record
read_body true k body = refuse cut_short
read_body false k body = ok (record_of k body)

unfoldable pub read_kind : (misplaced : Bool) → Option (Kind × ℕ) → List ℕ → Result Record
read_kind misplaced none rest = refuse unknown_kind
read_kind true (some k) rest = refuse out_of_place
read_kind false (some k) rest = read_body (ltb (length rest) k.1) k.0 (take k.1 rest)

unfoldable pub read : (begun : Bool) → ℕ → List ℕ → Result Record
read begun b rest = read_kind (begun && not (of_sheet b)) (kind_of b) rest
