-- `checking::read_within`: 7, then 3 for the length, then what the catalogue's records give.
use borrow.Author.Rules.{rules}
use Rattle.checking.proofs.Laws.{long_lengths, read_unfit, read_overlong, read_up}
use Rattle.checking.proofs.read_within.Goals as goal

pub returns-then-not-fit : goal.returns-then-not-fit
returns-then-not-fit c = search (rules, read_unfit)

pub returns-then-job-gt65536 : goal.returns-then-job-gt65536
returns-then-job-gt65536 c = search (rules, read_overlong)

pub read_catalogue-requires : goal.read_catalogue-requires
read_catalogue-requires c = search (rules, long_lengths)

pub returns : goal.returns
returns c = search (rules, read_up)
