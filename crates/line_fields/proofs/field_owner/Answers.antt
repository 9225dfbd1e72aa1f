-- `line_fields::field_owner` prints an owner, root or a part's number.
use borrow.Author.Rules.{rules}
use Rattle.line_fields.proofs.Fields.{owner_root, owner_part}
use Rattle.line_fields.proofs.field_owner.Goals as goal

pub returns-in-Root : goal.returns-in-Root
returns-in-Root c = search (rules, owner_root)

pub returns-in-Part : goal.returns-in-Part
returns-in-Part c = search (rules, owner_part)
