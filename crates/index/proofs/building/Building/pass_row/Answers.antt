-- `pass_row` passes an idle row, and stays at any other.
use borrow.Author.Rules.{rules}
use Rattle.index.proofs.Members.{row_passed, row_stays}
use Rattle.index.proofs.building.Building.pass_row.Goals as goal

pub returns-then-n-lt4-clause-passed : goal.returns-then-n-lt4-clause-passed
returns-then-n-lt4-clause-passed c = search (rules, row_stays)

pub returns-clause-passed : goal.returns-clause-passed
returns-clause-passed c = search (rules, row_passed)
