use borrow.Author.Rules.{rules}
use Rattle.commands.proofs.Drawing.{flagging_start, flagging_step, flagging_end}
use Rattle.commands.proofs.held_flags.Goals as goal

pub loop-i-init : goal.loop-i-init
loop-i-init c = search (rules, flagging_start)

pub loop-i-preserved : goal.loop-i-preserved
loop-i-preserved c = search (rules, flagging_step)

pub returns : goal.returns
returns c = search (rules, flagging_end)
