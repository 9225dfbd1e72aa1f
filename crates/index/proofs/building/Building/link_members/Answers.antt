use native.Mathlib.Omega.{arith}
use mathlib.Core.Path.{refl}
use Rattle.index.proofs.Steps.{threaded_none_yet, threaded_given, threaded_at, threaded_below, threaded_step, threaded_last, threaded_others}
use Rattle.index.proofs.building.Building.link_members.Goals as goal

pub loop-i-init : goal.loop-i-init
loop-i-init c = threaded_none_yet c.start_unions.ensures.others c.start_unions.ensures.unlinked refl

pub link_member-requires-clause-given : goal.link_member-requires-clause-given
link_member-requires-clause-given c = threaded_given c.start_unions.ensures.others c.start_unions.ensures.unlinked c.loop-i.invariant c.requires

pub link_member-requires-clause-threaded : goal.link_member-requires-clause-threaded
link_member-requires-clause-threaded c = threaded_at c.loop-i.invariant c.loop-i-test.true

pub link_member-requires-clause-i_in_bounds : goal.link_member-requires-clause-i_in_bounds
link_member-requires-clause-i_in_bounds c = threaded_below c.loop-i.invariant (omega arith)

pub loop-i-preserved : goal.loop-i-preserved
loop-i-preserved c = threaded_step c.loop-i.invariant c.link_member.ensures.threading c.link_member.ensures.others

pub returns-clause-threading : goal.returns-clause-threading
returns-clause-threading c = threaded_last c.start_unions.ensures.others c.start_unions.ensures.unlinked c.loop-i.invariant (omega arith)

pub returns-clause-others : goal.returns-clause-others
returns-clause-others c = threaded_others c.start_unions.ensures.others c.start_unions.ensures.unlinked c.loop-i.invariant
