-- `outcome::read_whole`: the catalogue is read, and its chains are made.
use borrow.Author.Rules.{rules}
use Rattle.std.proofs.lemmas.Result.{err_from_is_err_and}
use Rattle.outcome.proofs.Walked.{keys_read, read_built, not_read}
use Rattle.outcome.proofs.read_whole.Goals as goal

pub build-requires-clause-keys : goal.build-requires-clause-keys
build-requires-clause-keys c = keys_read {r = c.in_ok-read.read} c.read_catalogue.ensures (search rules)

pub returns : goal.returns
returns c = search (rules, read_built)

pub returns-in_err-read : goal.returns-in_err-read
returns-in_err-read c =
    let p = err_from_is_err_and c.from_residual.result c.from_residual.ensures.1 in
    rw (p.1, p.2) (not_read c.read_catalogue.ensures (search rules))
