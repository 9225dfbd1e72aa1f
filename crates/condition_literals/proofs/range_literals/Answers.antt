-- `condition_literals::range_literals` puts the literals of a fired range behind them: its non-matching parts, or "not one-of-name".
use Rattle.index.proofs.Given.{catalogued}
use borrow.Author.Rules.{rules}
use Rattle.firing.proofs.Given.{one_fits}
use Rattle.condition_literals.proofs.Known.{range_parts}
use Rattle.condition_literals.proofs.Literals.{one_known, one_pushed, parts_pushed}
use Rattle.condition_literals.proofs.range_literals.Goals as goal

pub part_literals-requires-clause-all_known : goal.part_literals-requires-clause-all_known
part_literals-requires-clause-all_known c = search (rules, range_parts)

pub returns-then-has_non_matching : goal.returns-then-has_non_matching
returns-then-has_non_matching c = search (rules, parts_pushed)

pub returns : goal.returns
returns c = search (rules, one_pushed)

pub literal_of-literal-requires-clause-o_value : goal.literal_of-literal-requires-clause-o_value
literal_of-literal-requires-clause-o_value c = (one_fits _ _ _ _ _ (catalogued c.args.catalogue.now) c.requires.count_bound.1 c.range_name-name.ensures, search (rules, one_known))
