-- A constraint's clauses, in the code's steps; the owner has its variable.
use Rattle.std.specs.Prelude.{◌≡◌, Bool, true, false, not, List, ℕ}
use Rattle.rules.specs.Lists.{fold, when}
use Rattle.rules.specs.Clause.{aux_owner}
use Rattle.rules.specs.Catalogue.{Owner, Catalogue}
use Rattle.rules.specs.Candidates.{non_matching}
use Rattle.rules.specs.Variables.{Origin, chosen, violation, known, variable_of}
use Rattle.rules.specs.State.{State, Run}
use Rattle.rules.proofs.Capped.{add_variable}
use Rattle.rules.proofs.ClauseByClause.{add_clause}
use Rattle.parts.specs.declared.Naming.TheVariants.{Variable}
use Rattle.parts.specs.declared.Adding.TheVariants.{Constrains, AuxOut}
use Rattle.parts.specs.Parts.{naming_of, adding_of}

module _ (c : Catalogue) (run : Run) (o : Owner) (r : ℕ) where
  unfoldable pub constrain_few : State → State
  constrain_few s =
      let a = fold (naming_of c Variable) (non_matching c r) s in
      fold (adding_of run (Constrains (variable_of a.variables (chosen o)))) (non_matching c r) a

  unfoldable pub add_violation : (new : Bool) → State → State
  add_violation new s =
      let x = variable_of s.variables (chosen o) in
      let y = variable_of s.variables (violation r) in
      add_clause run (aux_owner x y) (when new (fold (adding_of run (AuxOut y)) (non_matching c r)) s)

  unfoldable pub constrain_many : State → State
  constrain_many s = add_violation (not (known s.variables (violation r))) (fold (naming_of c Variable) (non_matching c r) (add_variable (violation r) s))

-- o has its variable, if it is not full
pub record Knows (full : Bool) (vs : List Origin) (o : Origin) : Type 0 where
  pub known : full ≡ false → known vs o ≡ true
