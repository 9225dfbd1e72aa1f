use borrow.Author.Rules.{rules}
use Rattle.storing.proofs.Added.{aux_out_sets, aux_out_idle, made_exists}
use Rattle.setting.proofs.add_aux_out.Goals as goal

pub store_setting-requires-clause-literal_bound : goal.store_setting-requires-clause-literal_bound
store_setting-requires-clause-literal_bound c = search (rules, made_exists)

pub returns-then-is_true : goal.returns-then-is_true
returns-then-is_true c = search (rules, aux_out_sets)

pub returns-else-is_true : goal.returns-else-is_true
returns-else-is_true c = search (rules, aux_out_idle)
