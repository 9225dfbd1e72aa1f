-- `carried::unblock` releases what a decision may make hold, where it makes a part true, and else keeps what is blocked.
use borrow.Author.Rules.{rules}
use Rattle.carried.proofs.Blocking.{unblocks_part}
use Rattle.carried.proofs.unblock.Goals as goal

pub returns-in-Some : goal.returns-in-Some
returns-in-Some c = search (rules, unblocks_part)
