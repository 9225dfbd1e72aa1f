-- `favoured_from` passes no favoured part of the name.
use borrow.Author.Rules.{rules}
use Rattle.index.proofs.Favoured.{favoured_past, favoured_none, favoured_max}
use Rattle.index.proofs.Index.favoured_from.Goals as goal

pub returns-then-end-from : goal.returns-then-end-from
returns-then-end-from c = search (rules, favoured_past)

pub returns-then-counts-first : goal.returns-then-counts-first
returns-then-counts-first c = search (rules, favoured_none)

pub returns : goal.returns
returns c = search (rules, favoured_max)
