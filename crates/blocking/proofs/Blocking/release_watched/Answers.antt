use borrow.Author.Rules.{rules}
use Rattle.blocking.proofs.Classes.{lowest_fits, lowest_less}
use Rattle.blocking.proofs.Releasing.{classes_start, classes_step, classes_end}
use Rattle.blocking.proofs.Blocking.release_watched.Goals as goal

pub loop-rest-init : goal.loop-rest-init
loop-rest-init c = search (rules, classes_start)

pub overflow_cast-j : goal.overflow_cast-j
overflow_cast-j c = search (rules, lowest_fits)

pub loop-rest-smaller : goal.loop-rest-smaller
loop-rest-smaller c = search (rules, lowest_less)

pub loop-rest-preserved : goal.loop-rest-preserved
loop-rest-preserved c = search (rules, classes_step)

pub returns : goal.returns
returns c = search (rules, classes_end)
