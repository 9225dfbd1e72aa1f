-- `sheet::draw` draws the entries of a condition that is given, and refuses another.
use borrow.Author.Rules.{rules}
use Rattle.beginning.proofs.Held.{reaches_given}
use Rattle.sheet.proofs.Outcomes.{draw_did, draw_refused}
use Rattle.sheet.proofs.draw.Goals as goal

pub draw-requires-clause-all_given : goal.draw-requires-clause-all_given
draw-requires-clause-all_given c = reaches_given c.requires.reaches

pub returns : goal.returns
returns c = search (rules, draw_did)

pub returns-then-c-catalogue : goal.returns-then-c-catalogue
returns-then-c-catalogue c = search (rules, draw_refused)
