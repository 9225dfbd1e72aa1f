-- `constraints::outside::append_next` stores the clause of one part, or leaves it.
use borrow.Author.Rules.{rules}
use mathlib.Core.Path.{refl, ap}
use mathlib.Core.Bool.{not}
use Rattle.parts.proofs.Names.{part_fits}
use native.Mathlib.Omega.{arith}
use Rattle.constraints.proofs.OutsideLaws.{append_other, append_more}
use Rattle.constraints.proofs.outside.append_next.Goals as goal

pub returns-then-not-chosen : goal.returns-then-not-chosen
returns-then-not-chosen c = search (rules, append_other)

pub returns-then-state : goal.returns-then-state
returns-then-state c = append_more _ _ _ _ _ _ c.chosen.ensures (ap not c.if-not-chosen.false) c.requires.p_lt_parts c.requires.good c.requires.long_enough c.requires.known_unless_full c.variable_of-x.ensures c.is_true.ensures c.if-is_true.false refl refl refl c.if-state.true c.row.ensures c.append-state.ensures.value c.append-state.ensures.clauses_after

pub variable_of-x-requires-clause-o_value : goal.variable_of-x-requires-clause-o_value
variable_of-x-requires-clause-o_value c = part_fits _ (omega (arith, c.requires.p_lt_parts, c.args.index.now.areas.held.laid.parts))
