-- Kinds by their numbers, and the lengths of their bodies.
use Rattle.std.specs.Prelude.{◌≡◌, ℕ, ◌<◌, ◌≤◌, Option, Some, None}
use Rattle.std.proofs.Math.Option.{some}
use Rattle.rules.specs.Records.{kind_of}
use Rattle.rules.specs.Records as rules
use Rattle.reader.specs.declared.ItemKind.{ItemKind}
use Rattle.reader.specs.declared.CommandKind.{CommandKind}
use Rattle.reader.specs.declared.Kind.{Kind}

abbrev pub kind_in : Kind → rules.Kind
kind_in (Kind.Item ItemKind.Name) = rules.Kind.name
kind_in (Kind.Item ItemKind.Part) = rules.Kind.part
kind_in (Kind.Item ItemKind.Range) = rules.Kind.range
kind_in (Kind.Item ItemKind.Member) = rules.Kind.member
kind_in (Kind.Item ItemKind.Union) = rules.Kind.union
kind_in (Kind.Item ItemKind.UnionMember) = rules.Kind.union_member
kind_in (Kind.Item ItemKind.Leaf) = rules.Kind.leaf
kind_in (Kind.Item ItemKind.Joined) = rules.Kind.joined
kind_in (Kind.Item ItemKind.Requirement) = rules.Kind.requirement
kind_in (Kind.Item ItemKind.Constraint) = rules.Kind.constraint
kind_in (Kind.Command CommandKind.Add) = rules.Kind.add
kind_in (Kind.Command CommandKind.Draw) = rules.Kind.draw
kind_in (Kind.Command CommandKind.Run) = rules.Kind.run
kind_in (Kind.Command CommandKind.Decide) = rules.Kind.decide
kind_in (Kind.Command CommandKind.Undo) = rules.Kind.undo

abbrev pub item_length : ItemKind → ℕ
item_length ItemKind.Name = 1
item_length ItemKind.Part = 7
item_length ItemKind.Range = 2
item_length ItemKind.Member = 4
item_length ItemKind.Union = 0
item_length ItemKind.UnionMember = 4
item_length ItemKind.Leaf = 2
item_length ItemKind.Joined = 5
item_length ItemKind.Requirement = 7
item_length ItemKind.Constraint = 4

abbrev pub command_length : CommandKind → ℕ
command_length CommandKind.Add = 2
command_length CommandKind.Draw = 2
command_length CommandKind.Run = 2
command_length CommandKind.Decide = 5
command_length CommandKind.Undo = 2

abbrev pub length_of : Kind → ℕ
length_of (Kind.Item k) = item_length k
length_of (Kind.Command k) = command_length k

-- the kind of an item that has the number n, or n is not one of the ten numbers of items
abbrev pub ItemNamed : ℕ → Option ItemKind → Type 0
ItemNamed n (Some k) = kind_of n ≡ some (kind_in (Kind.Item k), item_length k)
ItemNamed n None = 0 < n → 10 < n

-- the kind of a command that has the number n, or n is not one of the five numbers of commands
abbrev pub CommandNamed : ℕ → Option CommandKind → Type 0
CommandNamed n (Some k) = kind_of n ≡ some (kind_in (Kind.Command k), command_length k)
CommandNamed n None = 32 ≤ n → 36 < n
