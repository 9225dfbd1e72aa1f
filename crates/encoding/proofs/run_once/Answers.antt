-- `encoding::run_once` begins a run, serves its line, joins the named parts and links the new one-of-name variables.
use mathlib.Core.Path.{refl}
use Rattle.encoder.proofs.Did.{told_full, told_going}
use Rattle.encoder.proofs.Does.{good_with_later}
use Rattle.encoding.proofs.Ran.{line_begun, line_over, good_served, can_join, join_over, can_link, ran}
use Rattle.encoding.proofs.Flags.{begun_flagged, joined_flagged, linked_flagged}
use Rattle.encoding.proofs.run_once.Goals as goal

pub serve_line-requires-clause-begun : goal.serve_line-requires-clause-begun
serve_line-requires-clause-begun c = line_begun (record { number = refl; before = refl }) c.begin_run.ensures c.requires.reaches

pub serve_line-requires-clause-flagged : goal.serve_line-requires-clause-flagged
serve_line-requires-clause-flagged c = begun_flagged c.begin_run.ensures c.requires.reaches c.requires.flagged

pub returns-then-state-ne0-clause-runs_once : goal.returns-then-state-ne0-clause-runs_once
returns-then-state-ne0-clause-runs_once c = line_over (record { number = refl; before = refl }) c.begin_run.ensures c.serve_line.ensures.serves_line (told_full c.if-state-ne0.true)

pub join_all-requires-clause-can_join : goal.join_all-requires-clause-can_join
join_all-requires-clause-can_join c =
    can_join (record { number = refl; before = refl }) c.begin_run.ensures c.serve_line.ensures.serves_line (told_going c.if-state-ne0.false) c.requires.reaches

pub returns-then-state-ne0-2-clause-runs_once : goal.returns-then-state-ne0-2-clause-runs_once
returns-then-state-ne0-2-clause-runs_once c =
    join_over (record { number = refl; before = refl }) c.begin_run.ensures c.serve_line.ensures.serves_line (told_going c.if-state-ne0.false) c.join_all.ensures (told_full c.if-state-ne0-2.true)

pub returns-then-state-ne0-2-clause-flagged_2 : goal.returns-then-state-ne0-2-clause-flagged_2
returns-then-state-ne0-2-clause-flagged_2 c =
    joined_flagged _ (good_served (record { number = refl; before = refl }) c.begin_run.ensures c.serve_line.ensures.serves_line) c.join_all.ensures c.serve_line.ensures.flagged_2

pub link_all-requires-clause-good : goal.link_all-requires-clause-good
link_all-requires-clause-good c =
    good_with_later c.join_all.ensures (good_served (record { number = refl; before = refl }) c.begin_run.ensures c.serve_line.ensures.serves_line)

pub link_all-requires-clause-can_link : goal.link_all-requires-clause-can_link
link_all-requires-clause-can_link c =
    can_link (record { number = refl; before = refl }) c.begin_run.ensures c.serve_line.ensures.serves_line (told_going c.if-state-ne0.false) c.join_all.ensures (told_going c.if-state-ne0-2.false) c.requires.reaches

pub returns-clause-runs_once : goal.returns-clause-runs_once
returns-clause-runs_once c =
    ran (record { number = refl; before = refl }) c.begin_run.ensures c.serve_line.ensures.serves_line (told_going c.if-state-ne0.false) c.join_all.ensures (told_going c.if-state-ne0-2.false) c.link_all.ensures

pub returns-clause-flagged_2 : goal.returns-clause-flagged_2
returns-clause-flagged_2 c =
    let served = good_served (record { number = refl; before = refl }) c.begin_run.ensures c.serve_line.ensures.serves_line in
    linked_flagged _ (good_with_later c.join_all.ensures served) c.link_all.ensures (joined_flagged _ served c.join_all.ensures c.serve_line.ensures.flagged_2)
