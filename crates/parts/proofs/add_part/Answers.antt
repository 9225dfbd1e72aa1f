-- `parts::add_part` adds the clause of a part that has a variable, by its kind.
use borrow.Author.Rules.{rules}
use Rattle.parts.proofs.Clauses.{lock_added, excluded_added, constrains_added, aux_out_added}
use Rattle.parts.proofs.Names.{part_fits}
use Rattle.parts.proofs.add_part.Goals as goal

pub variable_of-x-requires-clause-o_value : goal.variable_of-x-requires-clause-o_value
variable_of-x-requires-clause-o_value c = search (rules, part_fits)

pub returns-in-Lock : goal.returns-in-Lock
returns-in-Lock c = lock_added _ c.variable_of-x.ensures c.requires.known_unless_full _ c.in-Lock.is c.add_lock.ensures.added

pub returns-in-Excluded : goal.returns-in-Excluded
returns-in-Excluded c = excluded_added _ c.variable_of-x.ensures c.requires.known_unless_full _ c.in-Excluded.is c.add_excluded.ensures.added

pub returns-in-Constrains : goal.returns-in-Constrains
returns-in-Constrains c = constrains_added _ c.variable_of-x.ensures c.requires.known_unless_full _ c.in-Constrains.is c.add_constrains.ensures.added

pub returns-in-AuxOut : goal.returns-in-AuxOut
returns-in-AuxOut c = aux_out_added _ c.variable_of-x.ensures c.requires.known_unless_full _ c.in-AuxOut.is c.add_aux_out.ensures
