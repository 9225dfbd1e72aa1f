use Rattle.std.proofs.Common.{rules, refl}
use Rattle.std.proofs.lemmas.Result.{err_from_is_err_and}
use Rattle.rules.specs.Bytes.{byte_at}
use Rattle.reader.specs.Reading.{item_read}
use Rattle.tables.specs.Tables.{with_union}
use Rattle.kept.proofs.Entered.{sized_still}
use Rattle.rule_items.proofs.Items.{union_given}
use Rattle.catalogue.proofs.add_item.Goals as goal

pub returns-in-Name-clause-entered : goal.returns-in-Name-clause-entered
unfolding byte_at item_read
returns-in-Name-clause-entered c =
    let e = c.add_name.ensures.entered c.args.members.now.count c.args.marks.now.area.now c.args.members.now.area.now in
    search rules

pub returns-in-Part-clause-entered : goal.returns-in-Part-clause-entered
unfolding byte_at item_read
returns-in-Part-clause-entered c =
    let e = c.add_part.ensures.entered c.args.members.now.count c.args.marks.now.area.now c.args.members.now.area.now in
    search rules

pub returns-in-Leaf-clause-entered : goal.returns-in-Leaf-clause-entered
unfolding byte_at item_read
returns-in-Leaf-clause-entered c =
    let e = c.add_leaf.ensures.entered c.args.members.now.count c.args.marks.now.area.now c.args.members.now.area.now in
    search rules

pub returns-in-Joined-clause-entered : goal.returns-in-Joined-clause-entered
unfolding byte_at item_read
returns-in-Joined-clause-entered c =
    let e = c.add_joined.ensures.entered c.args.members.now.count c.args.marks.now.area.now c.args.members.now.area.now in
    search rules

pub returns-in-Requirement-clause-entered : goal.returns-in-Requirement-clause-entered
unfolding byte_at item_read
returns-in-Requirement-clause-entered c =
    let e = c.add_requirement.ensures.entered c.args.members.now.count c.args.marks.now.area.now c.args.members.now.area.now in
    search rules

pub returns-in-Constraint-clause-entered : goal.returns-in-Constraint-clause-entered
unfolding byte_at item_read
returns-in-Constraint-clause-entered c =
    let e = c.add_constraint.ensures.entered c.args.members.now.count c.args.marks.now.area.now c.args.members.now.area.now in
    search rules

pub returns-in_err-tables-in-Union-clause-entered : goal.returns-in_err-tables-in-Union-clause-entered
unfolding item_read
returns-in_err-tables-in-Union-clause-entered c =
    let e = c.in_err-tables-in-Union.ensures.entered c.args.members.now.count c.args.marks.now.area.now c.args.members.now.area.now in
    let g = rw (c.as_tables-in-Union.ensures.counts, c.as_tables-in-Union.ensures.area) at e in
    let p = err_from_is_err_and c.from_residual.result c.from_residual.ensures.1 in
    rw (p.1, p.2, c.in-Union.is) g

pub returns-in_ok-tables-in-Union-clause-entered : goal.returns-in_ok-tables-in-Union-clause-entered
unfolding item_read
returns-in_ok-tables-in-Union-clause-entered c =
    let e = rw (c.as_tables-in-Union.ensures.counts, c.as_tables-in-Union.ensures.area) at c.in_ok-tables-in-Union.ensures.entered in
    rw c.in-Union.is (e c.args.members.now.count c.args.marks.now.area.now c.args.members.now.area.now c.requires.given)

pub returns-in_ok-tables-in-Union-clause-given : goal.returns-in_ok-tables-in-Union-clause-given
returns-in_ok-tables-in-Union-clause-given c =
    let a = rw (c.as_tables-in-Union.ensures.counts, c.as_tables-in-Union.ensures.area) at c.in_ok-tables-in-Union.ensures.added in
    union_given _ a c.requires.given

pub returns-in_ok-tables-in-Union-clause-sized : goal.returns-in_ok-tables-in-Union-clause-sized
unfolding with_union
returns-in_ok-tables-in-Union-clause-sized c =
    let a = rw (c.as_tables-in-Union.ensures.counts, c.as_tables-in-Union.ensures.area) at c.in_ok-tables-in-Union.ensures.added in
    sized_still a _ refl refl c.requires.sized

pub returns-in-UnionMember-clause-entered : goal.returns-in-UnionMember-clause-entered
unfolding byte_at item_read
returns-in-UnionMember-clause-entered c =
    let e = c.add_union_member.ensures.entered c.args.marks.now.area.now in
    let g = rw (c.as_tables-in-UnionMember.ensures.counts, c.as_tables-in-UnionMember.ensures.area) at e in
    search rules
