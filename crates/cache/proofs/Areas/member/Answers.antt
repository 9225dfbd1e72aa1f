-- `member` says whether part p is a member of range r; past the ranges nothing is.
use borrow.Author.Rules.{rules}
use Rattle.cache.proofs.Lists.{member_in, member_past}
use Rattle.cache.proofs.Areas.member.Goals as goal

pub returns-then-range-self : goal.returns-then-range-self
returns-then-range-self c = search (rules, member_in)

pub returns-else-range-self : goal.returns-else-range-self
returns-else-range-self c = search (rules, member_past)
