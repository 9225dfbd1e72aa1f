use borrow.Author.Rules.{rules}
use Rattle.storing.proofs.Adding.{setting_full, setting_more, stored_can_force}
use Rattle.storing.proofs.store_setting.Goals as goal

pub force-requires : goal.force-requires
force-requires c = search (rules, stored_can_force)

pub returns-then-state-eq0 : goal.returns-then-state-eq0
returns-then-state-eq0 c = search (rules, setting_more)

pub returns-else-state-eq0 : goal.returns-else-state-eq0
returns-else-state-eq0 c = search (rules, setting_full)
