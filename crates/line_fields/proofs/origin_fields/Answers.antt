-- `line_fields::origin_fields` prints an origin.
use borrow.Author.Rules.{rules}
use Rattle.line_fields.proofs.Fields.{origin_root, origin_part, origin_forbid, origin_one, origin_violation, origin_gate}
use Rattle.line_fields.proofs.origin_fields.Goals as goal

pub returns-in-Root : goal.returns-in-Root
returns-in-Root c = search (rules, origin_root)

pub returns-in-Part : goal.returns-in-Part
returns-in-Part c = search (rules, origin_part)

pub returns-in-Forbid : goal.returns-in-Forbid
returns-in-Forbid c = search (rules, origin_forbid)

pub returns-in-One : goal.returns-in-One
returns-in-One c = search (rules, origin_one)

pub returns-in-Violation : goal.returns-in-Violation
returns-in-Violation c = search (rules, origin_violation)

pub returns-in-Gate : goal.returns-in-Gate
returns-in-Gate c = search (rules, origin_gate)
