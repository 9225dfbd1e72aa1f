use Rattle.std.proofs.Common.{rules}
use Rattle.kept.proofs.Vacancies.{flag_is}
use Rattle.kept.proofs.has_flag.Goals as goal

pub returns : goal.returns
returns c = search (rules, flag_is)
