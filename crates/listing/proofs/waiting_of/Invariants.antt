-- `listing::waiting_of` prints the entries of a condition, in order of arrival: a walk along its chain passes no other entry of it.
use Rattle.index.specs.Views.{catalogue_of, counts_of}
use Prim.Native.Nat.{◌-◌}
use Rattle.line_fields.specs.Listed.{entries_waiting}
use Rattle.listing.proofs.Linking.{Walking}
use Rattle.listing.proofs.waiting_of.Given as goal

abbrev pub invariant-loop-i : goal.invariant-loop-i
invariant-loop-i l = Walking (catalogue_of l.catalogue) (entries_waiting l.state l.w) l.state.used.waiting (counts_of l.catalogue).conditions l.chains.heads l.chains.links l.c l.i l.initial.writer l.writer

abbrev pub decreases-loop-i : goal.decreases-loop-i
decreases-loop-i l = l.state.used.waiting - l.i
