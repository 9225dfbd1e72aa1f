-- `owners::Rule::take_each` takes a rule for each record of an owner, along its chain. The invariant: it was taken for those passed.
use Rattle.index.specs.Views.{catalogue_of}
use Prim.Native.Nat.{◌-◌}
use Rattle.requirement.specs.Requirements.{owner_is}
use Rattle.owners.proofs.Rules.{Ruled}
use Rattle.owners.proofs.Rule.take_each.Given as goal

abbrev pub invariant-loop-i : goal.invariant-loop-i
invariant-loop-i l = Ruled (catalogue_of l.catalogue) l.self (owner_is l.owner) l.count l.initial.state l.i l.state

abbrev pub decreases-loop-i : goal.decreases-loop-i
decreases-loop-i l = l.count - l.i
