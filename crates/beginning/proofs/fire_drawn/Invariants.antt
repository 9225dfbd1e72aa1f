-- `beginning::fire_drawn` lets the drawn entries fire. The invariant: those passed have fired.
use Rattle.index.specs.Views.{catalogue_of}
use Rattle.entries.specs.Entries.{drawn_in}
use Rattle.beginning.proofs.Drawn.{Fired}
use Rattle.beginning.proofs.fire_drawn.Given as goal

abbrev pub invariant-loop-e : goal.invariant-loop-e
invariant-loop-e l = Fired (catalogue_of l.catalogue) (drawn_in l.initial.state.limits l.drawn l.w) l.initial.state l.state l.e
