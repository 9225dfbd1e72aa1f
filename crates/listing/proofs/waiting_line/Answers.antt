-- `listing::waiting_line` prints entry i under a condition.
use borrow.Author.Rules.{rules}
use Rattle.listing.proofs.Waiting.{entry_given, entry_under, waiting_line_law}
use Rattle.listing.proofs.waiting_line.Goals as goal

pub entry_under-requires-clause-all_given : goal.entry_under-requires-clause-all_given
entry_under-requires-clause-all_given c = search (rules, entry_given)

pub entry_under-requires-clause-c_lt_conditions : goal.entry_under-requires-clause-c_lt_conditions
entry_under-requires-clause-c_lt_conditions c = (search rules, search (rules, entry_under))

pub returns : goal.returns
returns c = search (rules, waiting_line_law)
