-- `commands::push_added` adds an owner that has no mark yet.
use borrow.Author.Rules.{rules}
use Rattle.commands.proofs.Adding.{added_free, add_again, add_new}
use Rattle.commands.proofs.push_added.Goals as goal

pub returns-then-contains : goal.returns-then-contains
returns-then-contains c = search (rules, add_again)

pub returns : goal.returns
returns c = search (rules, add_new)

pub push-requires : goal.push-requires
push-requires c = search (rules, added_free)
