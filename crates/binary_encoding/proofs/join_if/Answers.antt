-- `binary_encoding::join_if` lets a part join if it is of this name and not tracked.
use borrow.Author.Rules.{rules}
use Rattle.binary_encoding.proofs.Joins.{join_other, join_again, join_new_law, name_is, name_below, not_tracked}
use Rattle.tracking.proofs.Steps.{of_some, some_tracked}
use Rattle.binary_encoding.proofs.join_if.Goals as goal

pub returns-then-part_name-name : goal.returns-then-part_name-name
returns-then-part_name-name c = search (rules, join_other)

pub returns-then-lists : goal.returns-then-lists
returns-then-lists c = join_again _ _ _ _ _ _ _ c.part_name.ensures (some_tracked (of_some c.requires.good_of)) c.lists.ensures c.if-lists.true

pub returns : goal.returns
returns c = join_new_law _ _ _ _ _ _ _ c.part_name.ensures (some_tracked (of_some c.requires.good_of)) c.lists.ensures c.if-part_name-name.false c.if-lists.false c.join.ensures

pub join-requires-clause-p_bound : goal.join-requires-clause-p_bound
join-requires-clause-p_bound c = (search rules, name_below c.args.tables.now.counts c.args.tables.now.area.now c.args.p _ _ c.requires.names_low c.part_name.ensures c.if-part_name-name.false, name_is c.args.tables.now.counts c.args.tables.now.area.now c.args.p _ _ c.part_name.ensures c.if-part_name-name.false)

pub join-requires-clause-untracked : goal.join-requires-clause-untracked
join-requires-clause-untracked c = not_tracked c.args.state.now _ _ (some_tracked (of_some c.requires.good_of)) c.lists.ensures c.if-lists.false
