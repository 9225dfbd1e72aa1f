-- The variable that a stored clause asserts false.
use Rattle.std.specs.Prelude.{◌&&◌, Option, Some, None, ℕ, eqb, length}
use Rattle.std.specs.Bool.{then_some}
use Rattle.rules.specs.Catalogue.{Catalogue}
use Rattle.rules.specs.Candidates.{candidates}
use Rattle.requirement.specs.Requirements.{goal_of}
use Rattle.solver.specs.declared.Clause.{Clause}
use Rattle.solver.specs.declared.Clause.TheVariants.{Install, Requires, Gated, Excluded, Unknown, Constrains, Forbid, AuxOut, AuxOwner, Lock, AnyGate, AnyOne}

-- an owner whose requirement has neither condition literals nor candidates, or what is excluded
unfoldable pub asserted_by : Catalogue → Clause → Option ℕ
asserted_by c Install = None
asserted_by c (Requires o s n g) = then_some (eqb n 0 && eqb (length (candidates c (goal_of g))) 0) o
asserted_by c (Gated x g) = None
asserted_by c (Excluded x p) = Some x
asserted_by c (Unknown x p) = Some x
asserted_by c (Constrains o x) = None
asserted_by c (Forbid x h) = None
asserted_by c (AuxOut x v) = None
asserted_by c (AuxOwner o v) = None
asserted_by c (Lock x) = None
asserted_by c (AnyGate g o) = None
asserted_by c (AnyOne y x) = None
