-- `parts::is_tracked` says so only of a part that is named for tracking, or whose name was served with several allowed.
use mathlib.Core.Path.{refl}
use Rattle.parts.proofs.Names.{tracked_again, tracked_several}
use Rattle.parts.proofs.is_tracked.Goals as goal

pub returns-then-lists : goal.returns-then-lists
returns-then-lists c = λ e. tracked_again _ _ _ _ _ c.requires.good c.lists.ensures c.if-lists.true refl

pub returns-else-lists : goal.returns-else-lists
returns-else-lists c = λ e. tracked_several _ _ _ _ _ c.requires.good c.lists.ensures c.is_several.ensures c.part_name-name.ensures e
