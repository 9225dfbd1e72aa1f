-- The parts outside a range, its non-matching parts, gone through with few numbers.
use Rattle.std.specs.Prelude.{◌≡◌, Bool, true, false, not, ◌&&◌, List, ℕ, ◌<◌}
use Rattle.rules.specs.Lists.{when}
use Rattle.rules.specs.Catalogue.{Catalogue}
use Rattle.rules.specs.Variables.{Origin, known, part_origin}
use Rattle.cache.specs.declared.Choice.TheVariants.{NonMatching}
use Rattle.index.specs.Chains.{Skips}
use Rattle.encoder.specs.declared.Run.{Run}
use Rattle.encoder.specs.declared.State as encoder
use Rattle.encoder.specs.Held.{run_of}
use Rattle.encoder.specs.Does.{ClausesDoes}
use Rattle.parts.specs.declared.Parts.{Parts}
use Rattle.parts.specs.declared.Parts.TheVariants.{Chosen}
use Rattle.parts.specs.declared.Adding.TheVariants.{AuxOut}
use Rattle.parts.specs.Parts.{selected_of, adding_of}

abbrev pub outside : ℕ → Parts
outside r = Chosen r NonMatching

-- part p is outside range r, and has no variable
unfoldable pub lacks : Catalogue → List Origin → (r p : ℕ) → Bool
lacks c vs r p = selected_of c (outside r) p && not (known vs (part_origin p))

-- x is the first number from `from` on that is selected, of those below n; or n
pub record Finds (n : ℕ) (selected : ℕ → Bool) (from x : ℕ) : Type 0 where
  pub skips : Skips n selected from x
  pub here : x < n → selected x ≡ true

-- y is the violation of range r. The clause of part p is stored, if p is outside r; or the part is left, and nothing was done.
pub record Appends (c : Catalogue) (r y p : ℕ) (x : encoder.State) (cl : List ℕ) (stored : Bool) (x' : encoder.State) (cl' : List ℕ) : Type 0 where
  pub does : stored ≡ true → (run : Run) → ClausesDoes c (λ v. when (selected_of c (outside r) p) (adding_of (run_of run) (AuxOut y) p)) x cl x' cl'
  pub state : stored ≡ false → x' ≡ x
  pub clauses : stored ≡ false → cl' ≡ cl
