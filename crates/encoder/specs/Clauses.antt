-- What a stored clause stands for in the definitions.
use Rattle.std.specs.Prelude.{List, map, ℕ}
use Rattle.rules.specs.Clause as rules
use Rattle.rules.specs.Clause.{install, requires, gated, excluded, constrains, forbid, aux_out, aux_owner, lock, any_gate, any_one, exclusion, unknown_dependencies}
use Rattle.rules.specs.Catalogue.{Catalogue, Goal}
use Rattle.rules.specs.Candidates.{candidates}
use Rattle.rules.specs.Variables.{Origin, part_variable}
use Rattle.requirement.specs.Requirements.{goal_of}
use Rattle.clause.specs.Literals.{literal_of}
use Rattle.solver.specs.declared.Clause.{Clause}
use Rattle.solver.specs.declared.Clause.TheVariants as clauses
use Rattle.encoder.specs.Held.{literals_in}

-- the variables of a goal's candidates
unfoldable pub candidate_variables : Catalogue → List Origin → Goal → List ℕ
candidate_variables c vs g = map (part_variable vs) (candidates c g)

unfoldable pub clause_is : Catalogue → List Origin → List ℕ → Clause → rules.Clause
clause_is c vs w clauses.Install = install
clause_is c vs w (clauses.Requires o s n g) = requires o (literals_in w s n) (candidate_variables c vs (goal_of g))
clause_is c vs w (clauses.Gated x g) = gated x (candidate_variables c vs (goal_of g))
clause_is c vs w (clauses.Excluded x p) = excluded x p exclusion
clause_is c vs w (clauses.Unknown x p) = excluded x p unknown_dependencies
clause_is c vs w (clauses.Constrains o x) = constrains o x
clause_is c vs w (clauses.Forbid x h) = forbid x (literal_of h)
clause_is c vs w (clauses.AuxOut x v) = aux_out x v
clause_is c vs w (clauses.AuxOwner o v) = aux_owner o v
clause_is c vs w (clauses.Lock x) = lock x
clause_is c vs w (clauses.AnyGate g o) = any_gate g o
clause_is c vs w (clauses.AnyOne y x) = any_one y x
