-- `carried::Memory::is_idle` tells a draw that changes nothing, and gives the flags of what is blocked and of watched parts after the command.
use borrow.Author.Rules.{rules}
use Rattle.carried.proofs.Blocking.{idles_same, idles_draw, idles_decide}
use Rattle.carried.proofs.Memory.is_idle.Goals as goal

pub returns-in-Add-clause-idles : goal.returns-in-Add-clause-idles
returns-in-Add-clause-idles c = idles_same _ c.in-Add.is

pub returns-in-Draw-clause-idles : goal.returns-in-Draw-clause-idles
returns-in-Draw-clause-idles c = search (rules, idles_draw)

pub returns-in-Decide-clause-idles : goal.returns-in-Decide-clause-idles
returns-in-Decide-clause-idles c = search (rules, idles_decide)
