use Rattle.std.proofs.Common.{◌-◌, length}
use Rattle.kept.specs.Drafts.{catalogue_in, SameAreas}
use Rattle.catalogue.specs.Walking.{Passed}
use Rattle.catalogue.proofs.read_records.Given as goal

abbrev pub invariant-loop-at : goal.invariant-loop-at
invariant-loop-at l =
    record {
      passed : Passed l.job 0 (catalogue_in l.fn.draft) l.at (catalogue_in l.draft) l.draft.members.now.count;
      same_areas : SameAreas l.fn.draft l.draft;
    }

abbrev pub decreases-loop-at : goal.decreases-loop-at
decreases-loop-at l = length l.job - l.at
