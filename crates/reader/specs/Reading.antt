-- What the reader's enums stand for in the definitions, and what stands at a place of a job.
use Rattle.std.specs.Prelude.{◌≡◌, List, ℕ, ◌+◌, get_or, take, Result, Ok, Err}
use Rattle.std.proofs.Math.Option.{Option, none, some}
use Rattle.rules.specs.Bytes.{byte_at, word_at}
use Rattle.rules.specs.Refusals as refusals
use Rattle.rules.specs.Records.{kind_of}
use Rattle.rules.specs.Records as rules
use Rattle.rules.specs.Job.{body_of}
use Rattle.refusal.specs.declared.Refusal.{Refusal}
use Rattle.refusal.specs.Refusing.{refusal_of}
use Rattle.reader.specs.declared.ItemKind.{ItemKind}
use Rattle.reader.specs.declared.CommandKind.{CommandKind}
use Rattle.reader.specs.Naming.{kind_in, item_length, length_of}
use Rattle.reader.specs.declared.Kind.{Kind}
use Rattle.reader.specs.declared.Command.{Command}
use Rattle.reader.specs.declared.Command.TheVariants.{Add, Draw, Run, Decide, Undo}
use Rattle.reader.specs.declared.Record.{Record}

unfoldable pub command_of : Command → rules.Command
command_of (Add o) = rules.Command.add o
command_of (Draw k) = rules.Command.draw k
command_of (Run l) = rules.Command.run l
command_of (Decide x v l) = rules.Command.decide x v l
command_of (Undo l) = rules.Command.undo l

-- ---- kinds

-- the kind that has the number n, or that none has
abbrev pub Named : ℕ → Result Kind Refusal → Type 0
Named n (Ok k) = kind_of n ≡ some (kind_in k, length_of k)
Named n (Err f) = (kind_of n ≡ none) × (f ≡ Refusal.UnknownKind)

-- ---- bodies

unfoldable pub item_read : ItemKind → List ℕ → rules.Item
item_read ItemKind.Name b = rules.Item.name (byte_at b 0)
item_read ItemKind.Part b = rules.Item.part (word_at b 0) (byte_at b 2) (word_at b 3) (word_at b 5)
item_read ItemKind.Range b = rules.Item.range (word_at b 0)
item_read ItemKind.Member b = rules.Item.member (word_at b 0) (word_at b 2)
item_read ItemKind.Union b = rules.Item.union
item_read ItemKind.UnionMember b = rules.Item.union_member (word_at b 0) (word_at b 2)
item_read ItemKind.Leaf b = rules.Item.leaf (word_at b 0)
item_read ItemKind.Joined b = rules.Item.joined (byte_at b 0) (word_at b 1) (word_at b 3)
item_read ItemKind.Requirement b = rules.Item.requirement (word_at b 0) (byte_at b 2) (word_at b 3) (word_at b 5)
item_read ItemKind.Constraint b = rules.Item.constraint (word_at b 0) (word_at b 2)

unfoldable pub command_read : CommandKind → List ℕ → rules.Command
command_read CommandKind.Add b = rules.Command.add (word_at b 0)
command_read CommandKind.Draw b = rules.Command.draw (word_at b 0)
command_read CommandKind.Run b = rules.Command.run (word_at b 0)
command_read CommandKind.Decide b = rules.Command.decide (word_at b 0) (byte_at b 2) (word_at b 3)
command_read CommandKind.Undo b = rules.Command.undo (word_at b 0)

-- the length of a body of this kind; 99 where there is no kind
unfoldable pub length_in : Option (rules.Kind × ℕ) → ℕ
length_in none = 99
length_in (some k) = k.1

-- by the number of the kind
abbrev pub body_length : ℕ → ℕ
body_length n = length_in (kind_of n)

-- ---- records

-- the position behind the record at a position of a job
abbrev pub next_of : List ℕ → ℕ → ℕ
next_of job at = at + 1 + body_of (kind_of (get_or job at 0))

-- a record, in front of `rest`
unfoldable pub record_in : List ℕ → Record → rules.Record
record_in rest (Record.Item k) = rules.catalogue (item_read k (take (item_length k) rest))
record_in rest (Record.Sheet c) = rules.sheet (command_of c)

unfoldable pub result_of : List ℕ → Result (Record × ℕ) Refusal → refusals.Result rules.Record
result_of rest (Ok x) = refusals.ok (record_in rest x.0)
result_of rest (Err f) = refusals.refuse (refusal_of f)
