use borrow.Author.Rules.{rules}
use Rattle.storing.proofs.Added.{gated_sets, gated_idle, made_exists}
use Rattle.setting.proofs.add_gated.Goals as goal

pub store_setting-requires-clause-literal_bound : goal.store_setting-requires-clause-literal_bound
store_setting-requires-clause-literal_bound c = search (rules, made_exists)

pub returns-then-all : goal.returns-then-all
returns-then-all c = search (rules, gated_sets)

pub returns-else-all : goal.returns-else-all
returns-else-all c = search (rules, gated_idle)
