-- A name's task in the code's steps.
use Rattle.std.specs.Prelude.{◌++◌, ℕ}
use Rattle.rules.specs.Lists.{fold}
use Rattle.rules.specs.Catalogue.{Catalogue}
use Rattle.rules.specs.Candidates.{locked_part, locked_out, excluded_parts}
use Rattle.rules.specs.Opening.{serve_name}
use Rattle.rules.specs.State.{State, Run}
use Rattle.encoder.specs.declared.State as encoder
use Rattle.encoder.specs.Did.{on_opening, is_full}
use Rattle.encoder.specs.Does.{StateDoes, variables_of}
use Rattle.encoder.specs.Held.{KnownUnlessFull}
use Rattle.parts.specs.declared.Naming.TheVariants.{Variable}
use Rattle.parts.specs.declared.Adding.TheVariants.{Lock, Excluded}
use Rattle.parts.specs.Parts.{naming_of, adding_of}

unfoldable pub name_parts : Catalogue → ℕ → State → State
name_parts c n s =
    fold (naming_of c Variable) (excluded_parts c n) (fold (naming_of c Variable) (locked_part c n ++ locked_out c n) (on_opening (serve_name c n) s))

-- the parts of name n that its clauses are for are named, and so have variables
pub record NamesParts (c : Catalogue) (n : ℕ) (x x' : encoder.State) : Type 0 where
  pub does : StateDoes c (λ v. name_parts c n) x x'
  pub locked : KnownUnlessFull (is_full x'.used) (variables_of x') (locked_out c n)
  pub excluded : KnownUnlessFull (is_full x'.used) (variables_of x') (excluded_parts c n)

unfoldable pub add_clauses : Catalogue → Run → ℕ → State → State
add_clauses c r n s = fold (adding_of r Excluded) (excluded_parts c n) (fold (adding_of r Lock) (locked_out c n) s)
