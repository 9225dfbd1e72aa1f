-- `binary_encoding::link_all` links the one-of-name variables of the run, as `link_all` says. The invariant: those before y are linked.
use Rattle.index.specs.Views.{counts_in}
use Rattle.binary_encoding.proofs.Links.{Linked}
use Rattle.binary_encoding.proofs.link_all.Given as goal

abbrev pub invariant-loop-y : goal.invariant-loop-y
invariant-loop-y l = Linked (counts_in l.index) l.index.areas.marks.now l.index.areas.unions.now l.index.areas.tables.area.now l.run l.initial.state l.initial.clauses l.state l.clauses l.y
