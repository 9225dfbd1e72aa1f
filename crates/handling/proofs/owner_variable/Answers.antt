-- `handling::owner_variable` gives the variable of the owner.
use Rattle.index.proofs.Given.{catalogued}
use Rattle.handling.proofs.Owning.{found, owner_origin_law, owner_in_tables}
use Rattle.handling.proofs.owner_variable.Goals as goal

pub variable_of-requires-clause-o_value : goal.variable_of-requires-clause-o_value
variable_of-requires-clause-o_value c = owner_in_tables _ _ _ _ _ _ c.requirement_at-it.ensures _ c.owner_origin.ensures (catalogued c.args.catalogue.now) c.requires.q_lt_requirements

pub returns : goal.returns
returns c = found c.args.state.now _ (owner_origin_law _ _ _ _ _ _ c.requirement_at-it.ensures _ c.owner_origin.ensures) c.variable_of.ensures c.requires.good_state.mapped c.requires.named.owner
