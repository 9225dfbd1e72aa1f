-- Which parts a rule is for, and what is done with each.
use Rattle.std.specs.Prelude.{◌≡◌, Bool, true, false, not, ◌&&◌, List, ℕ, ◌<◌, eqb, length}
use Rattle.rules.specs.Lists.{filter, up_to, when}
use Rattle.rules.specs.Clause.{Clause, excluded, constrains, aux_out, lock, exclusion}
use Rattle.rules.specs.Catalogue.{Catalogue, part_at, name_of, excluded_part}
use Rattle.rules.specs.Variables.{part_origin, part_variable}
use Rattle.rules.specs.Opening.{name_for_tracking, open_ready}
use Rattle.rules.specs.State.{State}
use Rattle.rules.specs.State as rules
use Rattle.rules.proofs.Capped.{add_variable}
use Rattle.rules.proofs.ClauseByClause.{add_clause}
use Rattle.state.specs.declared.Limits.{Limits}
use Rattle.cache.specs.Lists.{chosen}
use Rattle.encoder.specs.declared.Run.{Run}
use Rattle.encoder.specs.declared.State as encoder
use Rattle.encoder.specs.Does.{StateDoes}
use Rattle.encoder.specs.Did.{on_opening}
use Rattle.parts.specs.declared.Parts.{Parts}
use Rattle.parts.specs.declared.Parts.TheVariants.{Chosen, Locked, Others, Excluded}
use Rattle.parts.specs.declared.Naming.{Naming}
use Rattle.parts.specs.declared.Naming.TheVariants.{Variable, Tracked, Candidate}
use Rattle.parts.specs.declared.Adding.{Adding}

unfoldable pub selected_of : Catalogue → Parts → ℕ → Bool
selected_of c (Chosen r w) p = chosen c r w p
selected_of c (Locked n) p = eqb (name_of c p) n && (part_at c p).locked
selected_of c (Others n locked) p = eqb (name_of c p) n && not (eqb p locked)
selected_of c (Excluded n) p = eqb (name_of c p) n && excluded_part c p

unfoldable pub parts_for : Catalogue → Parts → List ℕ
parts_for c which = filter (selected_of c which) (up_to 0 (length c.parts))

unfoldable pub naming_of : Catalogue → Naming → ℕ → State → State
naming_of c Variable p s = add_variable (part_origin p) s
naming_of c Tracked p s = on_opening (name_for_tracking c p) (add_variable (part_origin p) s)
naming_of c Candidate p s = on_opening (open_ready c p) (on_opening (name_for_tracking c p) (add_variable (part_origin p) s))

-- naming part p changes nothing
pub record Settled (c : Catalogue) (x : encoder.State) (p : ℕ) : Type 0 where
  pub is : (naming : Naming) → StateDoes c (λ v. naming_of c naming p) x x

-- b says that part p is one of these; where it says not, there is nothing to do for p
pub record Due (c : Catalogue) (x : encoder.State) (which : Parts) (p : ℕ) (b : Bool) : Type 0 where
  pub due : b ≡ true → selected_of c which p ≡ true
  pub idle : b ≡ false → (naming : Naming) → StateDoes c (λ v. when (selected_of c which p) (naming_of c naming p)) x x

-- part p, whose variable is x
unfoldable pub clause_for : Adding → (x p : ℕ) → Clause
clause_for Adding.Lock x p = lock x
clause_for Adding.Excluded x p = excluded x p exclusion
clause_for (Adding.Constrains o) x p = constrains o x
clause_for (Adding.AuxOut y) x p = aux_out x y

unfoldable pub adding_of : rules.Run → Adding → ℕ → State → State
adding_of r a p s = add_clause r (clause_for a (part_variable s.variables p) p) s

-- the run has a number, and a violation that may be set is a variable
abbrev pub Settable : Limits → Adding → Type 0
Settable l Adding.Lock = Unit {0}
Settable l Adding.Excluded = Unit {0}
Settable l (Adding.Constrains o) = Unit {0}
Settable l (Adding.AuxOut y) = y < l.variables

pub record CanAdd (l : Limits) (r : Run) (a : Adding) : Type 0 where
  pub number : 0 < r.number
  pub settable : Settable l a
