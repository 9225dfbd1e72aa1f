-- DEMAND 3 over a listing's bytes: for every job that is accepted and every set of parts, the variables that are read off the listing have values that make every
-- clause that is read off it true exactly where the set keeps the catalogue's rules as far as the job has opened them.
use mathlib.Core.Path.{◌≡◌, refl}
use mathlib.Core.Bool.{Bool}
use mathlib.Core.List.{List, map}
use mathlib.Core.Option.{some}
use Prim.Native.Nat.{ℕ}
use lib.ListN.{get_or, length-map, get_or-map}
use Rattle.rules.specs.Catalogue.{root, part}
use Rattle.rules.specs.Variables.{Origin, chosen, one, violation, gate}
use Rattle.rules.specs.Keeps.{Parts, Agrees}
use Rattle.rules.specs.ReadBack.{chosen_of, AgreesRead, Demand3Read}
use Rattle.rules.proofs.Demand3.{demand3}
use Rattle.rules.proofs.ReadBack.{read_back}
use Rattle.rules.proofs.VariablesRead.{variables_back}

agrees_read : (P : Parts) (o : Origin) (b : Bool) → AgreesRead P (chosen_of o) b ≡ Agrees P o b
agrees_read P (chosen root) b = refl
agrees_read P (chosen (part p)) b = refl
agrees_read P (Origin.forbid n j) b = refl
agrees_read P (one n) b = refl
agrees_read P (violation r) b = refl
agrees_read P (gate g) b = refl

-- the variable x, read off the listing
read_at : (P : Parts) (vs : List Origin) (x : ℕ) (b : Bool) → AgreesRead P (get_or (map chosen_of vs) x (some root)) b ≡ Agrees P (get_or vs x (chosen root)) b
read_at P vs x b = rw (get_or-map chosen_of vs x (chosen root)) (agrees_read P (get_or vs x (chosen root)) b)

pub demand3_read : Demand3Read
demand3_read t job c s e P =
    let d = demand3 t job c s e P in
    let k = length-map s.variables chosen_of in
    rw (variables_back c s, read_back c s, k)
    (λ h. d.0 (h.0, λ x l. rw (read_at P s.variables x (h.0 x)) at (h.1 x l), h.2), λ q. let h = d.1 q in (h.0, λ x l. rw (read_at P s.variables x (h.0 x)) (h.1 x l), h.2))
