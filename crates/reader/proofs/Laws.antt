-- The reader against the definitions.
use mathlib.Core.Path.{◌≡◌, refl, sym, ◌∙◌, ap}
use mathlib.Core.Bool.{Bool, true, false, not, ◌&&◌}
use mathlib.Core.List.{List}
use mathlib.Core.Option.{Option, none, some}
use Prim.Native.Nat.{ℕ, ◌+◌, ◌<◌, ◌≤◌}
use native.Mathlib.Omega.{arith}
use lib.Dec.{eqb}
use lib.ListN.{length, get_or, take, drop, length-drop}
use borrow.Author.Tests.{lt-ltb, le-ltb, eqb-true}
use Rattle.std.specs.Prelude.{Ok, Err}
use Rattle.rules.specs.Compute.{computing}
use Rattle.rules.proofs.KindTable.{looked_up}
use Rattle.rules.specs.Refusals.{ok}
use Rattle.rules.specs.Records.{Kind, kinds, kind_of, of_sheet, record_of, read_body, read_kind, read}
use Rattle.rules.specs.Records as rules
use Rattle.refusal.specs.declared.Refusal.{Refusal}
use Rattle.refusal.specs.declared.Refusal.TheVariants.{OutOfPlace, CutShort}
use Rattle.refusal.specs.Refusing.{refusal_of}
use Rattle.reader.specs.declared.ItemKind.{ItemKind}
use Rattle.reader.specs.declared.CommandKind.{CommandKind}
use Rattle.reader.specs.declared.Kind as code
use Rattle.reader.specs.declared.Command.{Command}
use Rattle.reader.specs.declared.Record.{Record}
use Rattle.reader.specs.Naming.{kind_in, item_length, command_length, length_of}
use Rattle.reader.specs.Reading.{Named, item_read, command_read, command_of, record_in, result_of}

-- ---- kinds, by their numbers

number_of : Kind → ℕ
number_of Kind.name = 1
number_of Kind.part = 2
number_of Kind.range = 3
number_of Kind.member = 4
number_of Kind.union = 5
number_of Kind.union_member = 6
number_of Kind.leaf = 7
number_of Kind.joined = 8
number_of Kind.requirement = 9
number_of Kind.constraint = 10
number_of Kind.add = 32
number_of Kind.draw = 33
number_of Kind.run = 34
number_of Kind.decide = 35
number_of Kind.undo = 36

number_is : (n : ℕ) (x : Kind × ℕ) → kind_of n ≡ some x → n ≡ number_of x.0
unfolding kind_of
number_is n x e =
    eqb-true n (number_of x.0) (looked_up (λ (r : ℕ × Kind × ℕ). eqb r.0 (number_of r.1)) n kinds x (unfold computing number_of in refl) e)

item_numbers : (k : ItemKind) → of_sheet (number_of (kind_in (code.Kind.Item k))) ≡ false
unfolding of_sheet number_of
item_numbers ItemKind.Name = refl
item_numbers ItemKind.Part = refl
item_numbers ItemKind.Range = refl
item_numbers ItemKind.Member = refl
item_numbers ItemKind.Union = refl
item_numbers ItemKind.UnionMember = refl
item_numbers ItemKind.Leaf = refl
item_numbers ItemKind.Joined = refl
item_numbers ItemKind.Requirement = refl
item_numbers ItemKind.Constraint = refl

command_numbers : (k : CommandKind) → of_sheet (number_of (kind_in (code.Kind.Command k))) ≡ true
unfolding of_sheet number_of
command_numbers CommandKind.Add = refl
command_numbers CommandKind.Draw = refl
command_numbers CommandKind.Run = refl
command_numbers CommandKind.Decide = refl
command_numbers CommandKind.Undo = refl

pub item_number : (n : ℕ) (k : ItemKind) → Named n (Ok (code.Kind.Item k)) → of_sheet n ≡ false
item_number n k e = ap of_sheet (number_is n (kind_in (code.Kind.Item k), item_length k) e) ∙ item_numbers k

pub command_number : (n : ℕ) (k : CommandKind) → Named n (Ok (code.Kind.Command k)) → of_sheet n ≡ true
command_number n k e = ap of_sheet (number_is n (kind_in (code.Kind.Command k), command_length k) e) ∙ command_numbers k

item_record : (k : ItemKind) (b : List ℕ) → record_of (kind_in (code.Kind.Item k)) b ≡ rules.catalogue (item_read k b)
unfolding record_of item_read
item_record ItemKind.Name b = refl
item_record ItemKind.Part b = refl
item_record ItemKind.Range b = refl
item_record ItemKind.Member b = refl
item_record ItemKind.Union b = refl
item_record ItemKind.UnionMember b = refl
item_record ItemKind.Leaf b = refl
item_record ItemKind.Joined b = refl
item_record ItemKind.Requirement b = refl
item_record ItemKind.Constraint b = refl

command_record : (k : CommandKind) (b : List ℕ) → record_of (kind_in (code.Kind.Command k)) b ≡ rules.sheet (command_read k b)
unfolding record_of command_read
command_record CommandKind.Add b = refl
command_record CommandKind.Draw b = refl
command_record CommandKind.Run b = refl
command_record CommandKind.Decide b = refl
command_record CommandKind.Undo b = refl

-- a number that is none of the fifteen
pub no_kind : (n : ℕ) → (0 < n → 10 < n) → (32 ≤ n → 36 < n) → kind_of n ≡ none
unfolding number_of
no_kind n g h = go (kind_of n) refl
  where
    past_items : 0 < n → n ≤ 10 → ⊥
    past_items a b = let c : 10 < n = g a in omega arith

    past_commands : 32 ≤ n → n ≤ 36 → ⊥
    past_commands a b = let c : 36 < n = h a in omega arith

    fails : (k : Kind) → n ≡ number_of k → ⊥
    fails Kind.name e = past_items (omega arith) (omega arith)
    fails Kind.part e = past_items (omega arith) (omega arith)
    fails Kind.range e = past_items (omega arith) (omega arith)
    fails Kind.member e = past_items (omega arith) (omega arith)
    fails Kind.union e = past_items (omega arith) (omega arith)
    fails Kind.union_member e = past_items (omega arith) (omega arith)
    fails Kind.leaf e = past_items (omega arith) (omega arith)
    fails Kind.joined e = past_items (omega arith) (omega arith)
    fails Kind.requirement e = past_items (omega arith) (omega arith)
    fails Kind.constraint e = past_items (omega arith) (omega arith)
    fails Kind.add e = past_commands (omega arith) (omega arith)
    fails Kind.draw e = past_commands (omega arith) (omega arith)
    fails Kind.run e = past_commands (omega arith) (omega arith)
    fails Kind.decide e = past_commands (omega arith) (omega arith)
    fails Kind.undo e = past_commands (omega arith) (omega arith)

    go : (o : Option (Kind × ℕ)) → kind_of n ≡ o → kind_of n ≡ none
    go none e = e
    go (some x) e = absurd (fails x.0 (number_is n x e))

-- ---- the record at a place

module _ (begun : Bool) (job : List ℕ) (at : ℕ) where
  abbrev rest : List ℕ
  rest = drop (at + 1) job

  abbrev this : ℕ
  this = get_or job at 0

  pub at_unknown : (f : Refusal) → Named this (Err f) → result_of rest (Err f) ≡ read begun this rest
  unfolding result_of refusal_of read read_kind
  at_unknown f h = rw (h.0, h.1)

  pub at_misplaced : (k : ItemKind) → Named this (Ok (code.Kind.Item k)) → begun ≡ true → result_of rest (Err OutOfPlace) ≡ read begun this rest
  unfolding result_of refusal_of read read_kind
  at_misplaced k e h = rw (h, item_number this k e, e)

  pub item_placed : (k : ItemKind) → begun ≡ false → (begun && not (of_sheet this)) ≡ false
  item_placed k h = rw h

  pub command_placed : (k : CommandKind) → Named this (Ok (code.Kind.Command k)) → (begun && not (of_sheet this)) ≡ false
  command_placed k e = rw (command_number this k e) (none_of begun)
    where
      none_of : (b : Bool) → (b && false) ≡ false
      none_of true = refl
      none_of false = refl

  pub at_short : (k : code.Kind) (f : Refusal) → Named this (Ok k) → (begun && not (of_sheet this)) ≡ false → (f ≡ CutShort) × (length job < at + 1 + length_of k) → at < length job
      → result_of rest (Err f) ≡ read begun this rest
  unfolding result_of refusal_of read read_kind read_body
  at_short k f e p h i =
      let l : length rest < length_of k = rw length-drop (omega (arith, h.1)) in
      rw (h.0, p, e, lt-ltb _ _ l)

  pub item_short : (k : ItemKind) (f : Refusal) → Named this (Ok (code.Kind.Item k)) → begun ≡ false → (f ≡ CutShort) × (length job < at + 1 + item_length k) → at < length job
      → result_of rest (Err f) ≡ read begun this rest
  item_short k f e p h i = at_short (code.Kind.Item k) f e (rw p) h i

  pub command_short : (k : CommandKind) (f : Refusal) → Named this (Ok (code.Kind.Command k)) → (f ≡ CutShort) × (length job < at + 1 + command_length k) → at < length job
      → result_of rest (Err f) ≡ read begun this rest
  command_short k f e h i = at_short (code.Kind.Command k) f e (command_placed k e) h i

  whole : (k : code.Kind) → Named this (Ok k) → (begun && not (of_sheet this)) ≡ false → at + 1 + length_of k ≤ length job → read begun this rest ≡ ok (record_of (kind_in k) (take (length_of k) rest))
  unfolding read read_kind read_body
  whole k e p h =
      let l : length_of k ≤ length rest = rw length-drop (omega arith) in
      rw (p, e, le-ltb _ _ l)

  pub at_item : (k : ItemKind) (next : ℕ) → Named this (Ok (code.Kind.Item k)) → begun ≡ false → (next ≡ at + 1 + item_length k) × (next ≤ length job)
      → result_of rest (Ok (Record.Item k, next)) ≡ read begun this rest
  unfolding result_of record_in
  at_item k next e p h = ap ok (sym (item_record k (take (item_length k) rest))) ∙ sym (whole (code.Kind.Item k) e (item_placed k p) (omega (arith, h.0, h.1)))

  pub at_command : (k : CommandKind) (c : Command) (next : ℕ) → Named this (Ok (code.Kind.Command k)) → command_of c ≡ command_read k (take (command_length k) rest) → (next ≡ at + 1 + command_length k) × (next ≤ length job)
      → result_of rest (Ok (Record.Sheet c, next)) ≡ read begun this rest
  unfolding result_of record_in
  at_command k c next e w h = rw w (ap ok (sym (command_record k (take (command_length k) rest))) ∙ sym (whole (code.Kind.Command k) e (command_placed k e) (omega (arith, h.0, h.1))))
