-- `push` stores one row more behind the others.
use borrow.Author.Rules.{rules}
use Rattle.unions.proofs.Laws.{push_is}
use Rattle.unions.proofs.MembersMut.push.Goals as goal

pub returns-clause-pushed : goal.returns-clause-pushed
returns-clause-pushed c = search (rules, push_is)
