-- The terms of a call: its limits and the lengths of its areas, as the definitions have them.
use Rattle.std.specs.Prelude.{List, [], ◌∷◌, ℕ, ◌≤◌}
use Rattle.rules.specs.Limits as rules
use Rattle.state.specs.declared.Limits.{Limits}
use Rattle.terms.specs.declared.Lent.{Lent}

-- limits that are allowed are at most these
pub record Ceilings (l : Limits) : Type 0 where
  pub variables : l.variables ≤ 4096
  pub clauses : l.clauses ≤ 16384
  pub literals : l.literals ≤ 8192
  pub waiting : l.waiting ≤ 2048

unfoldable pub lent_of : Lent → List ℕ
lent_of x = x.marks ∷ x.unions ∷ x.catalogue ∷ x.clauses ∷ x.state ∷ x.waiting ∷ []

unfoldable pub terms_of : rules.Limits → List ℕ → ℕ → rules.Terms
terms_of l lent listing = record { limits = l; lent = lent; listing = listing }

unfoldable pub four_limits : (variables clauses literals waiting : ℕ) → rules.Limits
four_limits v c l w = record { variables = v; clauses = c; condition_literals = l; waiting = w }
