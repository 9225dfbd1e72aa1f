use Rattle.std.proofs.Common.{◌-◌, length}
use Rattle.kept.specs.Drafts.{catalogue_in, SameAreas}
use Rattle.catalogue.specs.Walking.{Passed, PartAt}
use Rattle.catalogue.proofs.add_parts.Given as goal

abbrev pub invariant-loop-refusal : goal.invariant-loop-refusal
invariant-loop-refusal l =
    record {
      passed : Passed l.job l.from (catalogue_in l.fn.draft) l.at (catalogue_in l.draft) l.draft.members.now.count;
      there : PartAt l.job l.at;
      same_areas : SameAreas l.fn.draft l.draft;
    }

abbrev pub decreases-loop-refusal : goal.decreases-loop-refusal
decreases-loop-refusal l = length l.job - l.at
