-- `carried::carry_sheet`: what is left of the job ends as the whole sheet does, at each turn and at the end. The measure is what is left of the job.
use Rattle.index.specs.Views.{catalogue_of, tables_of}
use Prim.Native.Nat.{◌-◌}
use lib.ListN.{length}
use Rattle.blocking.specs.Blocking.{Listed}
use Rattle.serving.specs.Flags.{AreFlagged}
use Rattle.carried.proofs.Sheets.{Left}
use Rattle.carried.proofs.carry_sheet.Given as goal

abbrev pub invariant-loop-at : goal.invariant-loop-at
invariant-loop-at l =
    record {
      left : Left (catalogue_of l.catalogue) l.job l.from l.initial.state l.initial.clauses l.initial.w l.at l.memory.settled l.memory.blocking l.state l.clauses l.w;
      flagged : AreFlagged (catalogue_of l.catalogue) l.goals l.state;
      listed : Listed (tables_of l.catalogue).conditions l.memory.listing;
    }

abbrev pub decreases-loop-at : goal.decreases-loop-at
decreases-loop-at l = length l.job - l.at
