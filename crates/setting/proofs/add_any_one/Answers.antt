use borrow.Author.Rules.{rules}
use Rattle.storing.proofs.Added.{any_one_sets, any_one_idle, made_exists}
use Rattle.setting.proofs.add_any_one.Goals as goal

pub store_setting-requires-clause-literal_bound : goal.store_setting-requires-clause-literal_bound
store_setting-requires-clause-literal_bound c = search (rules, made_exists)

pub returns-then-is_one : goal.returns-then-is_one
returns-then-is_one c = search (rules, any_one_sets)

pub returns-else-is_one : goal.returns-else-is_one
returns-else-is_one c = search (rules, any_one_idle)
