-- `build` makes the chains one after another; each leaves the others.
use borrow.Author.Rules.{rules}
use Rattle.index.proofs.Steps.{built_now}
use Rattle.index.proofs.building.build.Goals as goal

pub returns : goal.returns
returns c =
    built_now c.chain_tables.ensures.others c.link_members.ensures.others c.shorten_unions.ensures.others c.chain_tables.ensures.chained c.link_members.ensures.threading
    c.shorten_unions.ensures.relinked (search rules) (search rules)
