use Rattle.std.proofs.Common.{rules}
use Rattle.part_items.proofs.Search.{unseen_step, found, none_left}
use Rattle.part_items.proofs.has_such.Goals as goal

pub returns-then-is_such : goal.returns-then-is_such
returns-then-is_such c = search (rules, found)

pub loop-part-preserved : goal.loop-part-preserved
loop-part-preserved c = search (rules, unseen_step)

pub returns : goal.returns
returns c = search (rules, none_left)
