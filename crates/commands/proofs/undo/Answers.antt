-- `commands::undo` removes the decisions above a level.
use mathlib.Core.Path.{refl}
use Rattle.commands.proofs.Deciding.{undone}
use Rattle.commands.proofs.undo.Goals as goal

pub returns : goal.returns
returns c = undone (record { limits = refl; area = refl; counters = refl; told = c.undo-state.ensures })
