-- `entries::deferred::load` pushes the rows of the area. The invariant: the first m rows are pushed (`Places.antt`).
use Rattle.entries.proofs.Places.{Loading}
use Rattle.entries.proofs.deferred.load.Given as goal

abbrev pub invariant-loop-m : goal.invariant-loop-m
invariant-loop-m l = Loading l.w l.initial.es l.m l.es
