use Rattle.std.proofs.Common.{rules}
use Rattle.reader.proofs.Laws.{at_unknown, at_misplaced, item_short, command_short, at_item, at_command}
use Rattle.reader.proofs.Reader.read.Goals as goal

pub returns-in_err-kind-clause-record : goal.returns-in_err-kind-clause-record
returns-in_err-kind-clause-record c = search (rules, at_unknown)

pub returns-in-Item-clause-record : goal.returns-in-Item-clause-record
returns-in-Item-clause-record c = search (rules, at_misplaced)

pub returns-in_err-next-in-Item-2-clause-record : goal.returns-in_err-next-in-Item-2-clause-record
returns-in_err-next-in-Item-2-clause-record c = search (rules, item_short)

pub returns-in_err-next-in-Command-clause-record : goal.returns-in_err-next-in-Command-clause-record
returns-in_err-next-in-Command-clause-record c = search (rules, command_short)

pub returns-in_ok-next-in-Item-2-clause-record : goal.returns-in_ok-next-in-Item-2-clause-record
returns-in_ok-next-in-Item-2-clause-record c = search (rules, at_item)

pub returns-in_ok-next-in-Command-clause-record : goal.returns-in_ok-next-in-Command-clause-record
returns-in_ok-next-in-Command-clause-record c = search (rules, at_command)
