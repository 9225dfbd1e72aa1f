-- `naming::all_candidates`. The invariant: the candidates of the first j ranges at hand are named.
use Rattle.index.specs.Views.{catalogue_of}
use Rattle.rules.specs.Lists.{fold}
use Rattle.rules.specs.Candidates.{sorted}
use Rattle.marked.specs.Marked.{listed}
use Rattle.encoder.specs.Does.{regions_of}
use Rattle.parts.specs.declared.Naming.TheVariants.{Candidate}
use Rattle.parts.specs.Parts.{naming_of}
use Rattle.naming.proofs.Loops.{Passed}
use Rattle.naming.proofs.all_candidates.Given as goal

abbrev pub invariant-loop-j : goal.invariant-loop-j
invariant-loop-j l = Passed (catalogue_of l.catalogue) (λ r. fold (naming_of (catalogue_of l.catalogue) Candidate) (sorted (catalogue_of l.catalogue) r)) (listed l.ranges 14 (regions_of l.initial.state)) l.initial.state l.state l.j
