-- `shown_in`: what was run with the limits and areas of `kitlist`, told as its listing or as its refusal.
use Rattle.shown.proofs.Laws.{line_fits, zeros_as_needed, listing_shown, refusal_shown}
use Rattle.shown.proofs.shown_in.Goals as goal

pub returns-then-answer-eq0 : goal.returns-then-answer-eq0
returns-then-answer-eq0 c = listing_shown c.kit_run-answer.ensures zeros_as_needed c.requires c.if-answer-eq0.true c.kit_run-answer.auto.listing

pub returns : goal.returns
returns c = refusal_shown c.kit_run-answer.ensures zeros_as_needed c.requires c.if-answer-eq0.false c.refusal_line.ensures

pub refusal_line-requires : goal.refusal_line-requires
refusal_line-requires c = line_fits _ _ c.requires c.kit_run-answer.auto.listing
