-- `naming::name_range`: a fired range's non-matching parts are named for tracking; if it has none, one-of-name is.
use Rattle.index.proofs.Given.{catalogued}
use Rattle.firing.proofs.Given.{one_fits}
use Rattle.naming.proofs.Ranges.{one_named, rest_named}
use Rattle.naming.proofs.name_range.Goals as goal

pub returns-then-has_non_matching : goal.returns-then-has_non_matching
returns-then-has_non_matching c = rest_named _ _ _ _ _ c.has_non_matching.ensures c.if-has_non_matching.true c.name_each.ensures

pub returns-else-has_non_matching : goal.returns-else-has_non_matching
returns-else-has_non_matching c = one_named _ _ _ _ _ c.has_non_matching.ensures c.if-has_non_matching.false c.range_name-name.ensures c.name_variable.ensures

pub name_variable-requires-clause-o_value : goal.name_variable-requires-clause-o_value
name_variable-requires-clause-o_value c = one_fits _ _ _ _ _ (catalogued c.args.catalogue.now) c.requires.r_lt_ranges c.range_name-name.ensures
