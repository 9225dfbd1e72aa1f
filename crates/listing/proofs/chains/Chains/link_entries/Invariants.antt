-- `listing::chains::Chains::link_entries` links all entries, from the last to the first.
use Rattle.index.specs.Views.{catalogue_of, counts_of}
use Rattle.listing.specs.Chains.{Linked}
use Rattle.line_fields.specs.Listed.{entries_waiting}
use Rattle.listing.proofs.chains.Chains.link_entries.Given as goal

abbrev pub invariant-loop-i : goal.invariant-loop-i
invariant-loop-i l = Linked (catalogue_of l.catalogue) (entries_waiting l.state l.w) l.state.used.waiting (counts_of l.catalogue).conditions l.i l.self.heads l.self.links
