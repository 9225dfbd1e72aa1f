use borrow.Author.Rules.{rules}
use Rattle.clause_lines.proofs.Asserting.{none_counted}
use Rattle.clause_lines.proofs.no_candidate.Goals as goal

pub returns : goal.returns
returns c = search (rules, none_counted)
