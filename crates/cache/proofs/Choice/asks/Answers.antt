-- `asks` says whether a part of the range's name is asked for.
use borrow.Author.Rules.{rules}
use Rattle.cache.proofs.Lists.{asked_matching, asked_rest, asked_favoured, asked_no_favoured, asked_other, asked_no_other}
use Rattle.cache.proofs.Choice.asks.Goals as goal

pub returns-in-Matching : goal.returns-in-Matching
returns-in-Matching c = search (rules, asked_matching)

pub returns-in-NonMatching : goal.returns-in-NonMatching
returns-in-NonMatching c = search (rules, asked_rest)

pub returns-then-member : goal.returns-then-member
returns-then-member c = search (rules, asked_favoured)

pub returns-else-member : goal.returns-else-member
returns-else-member c = search (rules, asked_no_favoured)

pub returns-then-member-2 : goal.returns-then-member-2
returns-then-member-2 c = search (rules, asked_other)

pub returns-else-member-2 : goal.returns-else-member-2
returns-else-member-2 c = search (rules, asked_no_other)
