use Rattle.terms.proofs.Answers.{gives_accepts}
use Rattle.terms.proofs.Answer.accepted.Goals as goal

pub returns : goal.returns
returns c = gives_accepts _ _ _
