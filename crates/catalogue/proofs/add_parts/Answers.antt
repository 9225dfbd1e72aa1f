use Rattle.std.proofs.Common.{rules}
use Rattle.catalogue.proofs.Steps.{part_refused, part_entered, passed_then, stopped_then}
use Rattle.catalogue.proofs.add_parts.Goals as goal

pub returns-in-Err-clause-parts : goal.returns-in-Err-clause-parts
returns-in-Err-clause-parts c =
    stopped_then _ _ _ _ _ _ c.loop-refusal.invariant.passed
    (part_refused _ _ c.loop-refusal.invariant.there _ c.body.ensures _ c.loop-refusal.invariant.passed.few c.requires.within.2 _ _ _ _ c.in-Err.ensures.entered)

pub returns-then-not-is_part-clause-parts : goal.returns-then-not-is_part-clause-parts
returns-then-not-is_part-clause-parts c =
    passed_then _ _ _ _ _ _ c.loop-refusal.invariant.passed
    (part_entered _ _ c.loop-refusal.invariant.there _ c.body.ensures _ c.loop-refusal.invariant.passed.few c.requires.within.2 _ _ _ _ c.in_default.ensures.entered)

pub loop-refusal-preserved : goal.loop-refusal-preserved
loop-refusal-preserved c = record {
  passed =
      passed_then _ _ _ _ _ _ c.loop-refusal.invariant.passed
      (part_entered _ _ c.loop-refusal.invariant.there _ c.body.ensures _ c.loop-refusal.invariant.passed.few c.requires.within.2 _ _ _ _ c.in_default.ensures.entered);
  there = c.is_part.ensures (search rules);
  same_areas = search rules;
}
