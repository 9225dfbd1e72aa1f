-- `serving::serve_line` serves the whole line. The invariant: `head` tasks were served, and the flags are of goals that these have settled.
use Rattle.index.specs.Views.{catalogue_of}
use Prim.Native.Nat.{◌+◌, ◌-◌}
use Rattle.encoder.specs.Held.{run_of}
use Rattle.serving.specs.Flags.{AreFlagged}
use Rattle.serving.proofs.Line.{Passed}
use Rattle.serving.proofs.serve_line.Given as goal

abbrev pub invariant-loop-head : goal.invariant-loop-head
invariant-loop-head l = Passed (catalogue_of l.catalogue) (run_of l.run) l.drawn l.initial.state l.initial.clauses l.initial.w l.state l.clauses l.w l.head × AreFlagged (catalogue_of l.catalogue) l.settled l.state

abbrev pub decreases-loop-head : goal.decreases-loop-head
decreases-loop-head l = 3649 + l.initial.state.limits.waiting - l.head
