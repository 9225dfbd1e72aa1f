-- What has a variable: of a whole, of its parts.
use mathlib.Core.Path.{◌≡◌, refl}
use mathlib.Core.Bool.{true}
use mathlib.Core.List.Memᴰ
use mathlib.Core.List.{List, [], ◌∷◌}
use Prim.Native.Nat.{ℕ}
use Rattle.rules.specs.Catalogue.{Catalogue, range_name}
use Rattle.rules.specs.Candidates.{non_matching}
use Rattle.rules.specs.Variables.{Origin, one, known, part_origin}
use Rattle.rules.specs.Encoding.{range_origins, disjunct_origins}
use Rattle.rules.specs.Called.{◌∈◌}
use Rattle.rules.proofs.Each.{Each, each_in, each_out}
use Rattle.rules.proofs.Membership.{map_in, concat_map_in}
use Rattle.variable_map.specs.Mapping.{AllKnown}
use Rattle.condition_literals.specs.Literals.{RangeKnown, DisjunctKnown}

pub range_in : {c : Catalogue} {vs : List Origin} {d : List ℕ} {x : ℕ} → DisjunctKnown c vs d → x ∈ d → RangeKnown c vs x
unfolding disjunct_origins
range_in {c} {vs} {d} {x} h m =
    record { known = each_in (range_origins (range_name c x) (non_matching c x)) (λ o n. each_out h.known (concat_map_in (λ y. range_origins (range_name c y) (non_matching c y)) d m n)) }

-- the parts of a range that has some
pub range_parts : {c : Catalogue} {vs : List Origin} {x : ℕ} → RangeKnown c vs x → AllKnown vs (non_matching c x)
range_parts {c} {vs} {x} h = go (non_matching c x) h.known
  where
    go : (ps : List ℕ) → Each (λ o. known vs o ≡ true) (range_origins (range_name c x) ps) → AllKnown vs ps
    go [] k = record { known = Each.nil }
    go (p ∷ ps) k = unfold range_origins in record { known = each_in (p ∷ ps) (λ y m. each_out k (map_in part_origin m)) }

-- one-of-name of a range without
pub range_one : {c : Catalogue} {vs : List Origin} {x : ℕ} → RangeKnown c vs x → non_matching c x ≡ [] → known vs (one (range_name c x)) ≡ true
range_one {c} {vs} {x} h e = each_out (rw e at h.known) (unfold range_origins in Memᴰ.head refl)
