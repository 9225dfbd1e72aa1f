use Rattle.std.proofs.Common.{rules}
use Rattle.terms.specs.Answers.{numbers_of}
use Rattle.terms.proofs.Answers.{gives_refused}
use Rattle.terms.proofs.Answer.refused.Goals as goal

pub returns : goal.returns
unfolding numbers_of
returns c = search (rules, gives_refused)
