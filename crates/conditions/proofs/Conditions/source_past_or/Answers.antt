use borrow.Author.Rules.{rules}
use Rattle.conditions.proofs.Laws.{half_followed}
use Rattle.conditions.proofs.Conditions.source_past_or.Goals as goal

pub loop-source-preserved : goal.loop-source-preserved
loop-source-preserved c = search (rules, half_followed)
