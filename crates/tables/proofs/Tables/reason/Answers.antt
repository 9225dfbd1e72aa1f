-- `reason` gives the third or fourth number of a part's row, and 0 past the parts.
use borrow.Author.Rules.{rules}
use Rattle.tables.proofs.Laws.{unknown_reason_in, exclusion_reason_in, reason_past}
use Rattle.tables.proofs.Tables.reason.Goals as goal

pub returns-in-Unknown : goal.returns-in-Unknown
returns-in-Unknown c = search (rules, unknown_reason_in)

pub returns-in-Exclusion : goal.returns-in-Exclusion
returns-in-Exclusion c = search (rules, exclusion_reason_in)

pub returns-else-part-self : goal.returns-else-part-self
returns-else-part-self c = search (rules, reason_past)
