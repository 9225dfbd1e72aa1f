-- `commands::held_flags` says of each entry whether it is flagged. The invariant: the flags of the first i entries are set.
use Rattle.tables.specs.Views.{tables_of}
use Rattle.entries.specs.Entries.{waiting_in}
use Rattle.commands.specs.Commands.{is_flagged}
use Rattle.commands.proofs.Drawing.{Flagging}
use Rattle.commands.proofs.held_flags.Given as goal

abbrev pub invariant-loop-i : goal.invariant-loop-i
invariant-loop-i l = Flagging (is_flagged (tables_of l.tables).requirements l.holding l.c) l.n (waiting_in l.l l.n l.w) l.i l.flags
