-- `clause_lines::spans::Spans::new`: at first no literals stand anywhere.
use Rattle.clause_lines.proofs.Copying.{nowhere_new}
use Rattle.clause_lines.proofs.spans.Spans.new.Goals as goal

pub returns : goal.returns
returns c = nowhere_new
