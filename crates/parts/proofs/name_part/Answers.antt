-- `parts::name_part` names one part, by what is asked.
use borrow.Author.Rules.{rules}
use Rattle.encoder.proofs.Does.{at_catalogue}
use Rattle.parts.proofs.Names.{part_fits, naming_variable, naming_as}
use Rattle.parts.proofs.name_part.Goals as goal

pub name_variable-requires-clause-o_value : goal.name_variable-requires-clause-o_value
name_variable-requires-clause-o_value c = search (rules, part_fits)

pub returns-in-Variable : goal.returns-in-Variable
returns-in-Variable c = naming_variable _ (at_catalogue c.name_variable.ensures) _ c.in-Variable.is

pub returns-in-Tracked : goal.returns-in-Tracked
returns-in-Tracked c = naming_as _ _ _ c.in-Tracked.is c.name_tracked.ensures

pub returns-in-Candidate : goal.returns-in-Candidate
returns-in-Candidate c = naming_as _ _ _ c.in-Candidate.is c.name_candidate.ensures
