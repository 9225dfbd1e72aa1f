-- The candidates of ranges, and the variables of fired ranges.
use Rattle.std.specs.Prelude.{Bool, true, false, ◌≡◌, List, [], ◌∷◌, ℕ, ◌<◌, ◌≤◌, length, get_or, set, replicate}
use Rattle.rules.specs.Lists.{fold, unless}
use Rattle.rules.specs.Catalogue.{Catalogue, range_name}
use Rattle.rules.specs.Candidates.{matching, non_matching, sorted}
use Rattle.rules.specs.Conditions.{disjunct_at, disjuncts_of}
use Rattle.rules.specs.Variables.{one}
use Rattle.rules.specs.Opening.{Opening, name_for_tracking}
use Rattle.rules.specs.State.{State}
use Rattle.rules.proofs.Each.{Each}
use Rattle.rules.proofs.Capped.{add_variable}
use Rattle.encoder.specs.declared.State as encoder
use Rattle.encoder.specs.Did.{on_opening}
use Rattle.encoder.specs.Does.{StateDoes}
use Rattle.parts.specs.declared.Naming.TheVariants.{Tracked, Candidate}
use Rattle.parts.specs.Parts.{naming_of}

-- p is the first of these parts; or there is none, and it is at least `most`
pub record FirstOf (ps : List ℕ) (most p : ℕ) : Type 0 where
  pub some : p < most → (qs : List ℕ) × (ps ≡ p ∷ qs)
  pub none : most ≤ p → ps ≡ []

-- the first of these parts is named for tracking
unfoldable pub name_first : Catalogue → List ℕ → Opening → Opening
name_first c [] o = o
name_first c (p ∷ ps) o = name_for_tracking c p o

-- ---- of settled candidates the first of each name will do; `seen` flags the names of which one was named

unfoldable pub is_seen : (seen : List Bool) → ℕ → Bool
is_seen seen n = get_or seen n false

unfoldable pub first_unless : Catalogue → (seen : List Bool) → ℕ → Opening → Opening
first_unless c seen r o = unless (is_seen seen (range_name c r)) (name_first c (matching c r)) o

-- name n is flagged, if there is a part
unfoldable pub seen_by : List ℕ → ℕ → List Bool → List Bool
seen_by [] n seen = seen
seen_by (p ∷ ps) n seen = set seen n true

unfoldable pub seen_after : Catalogue → ℕ → List Bool → List Bool
seen_after c r seen = unless (is_seen seen (range_name c r)) (seen_by (matching c r) (range_name c r)) seen

unfoldable pub name_firsts : Catalogue → List ℕ → (seen : List Bool) → Opening → Opening
name_firsts c [] seen o = o
name_firsts c (r ∷ rs) seen o = name_firsts c rs (seen_after c r seen) (first_unless c seen r o)

-- range r was passed
pub record NamesFirst (c : Catalogue) (r : ℕ) (seen : List Bool) (x : encoder.State) (seen' : List Bool) (x' : encoder.State) : Type 0 where
  pub did : StateDoes c (λ v. on_opening (first_unless c seen r)) x x'
  pub flags : seen' ≡ seen_after c r seen

-- ---- the candidates of these ranges, or, where they are settled, some of them

unfoldable pub name_candidates : Catalogue → (settled : Bool) → List ℕ → State → State
name_candidates c false rs s = fold (λ r. fold (naming_of c Candidate) (sorted c r)) rs s
name_candidates c true rs s = on_opening (name_firsts c rs (replicate 64 false)) s

-- ---- fired ranges

unfoldable pub name_parts : Catalogue → ℕ → List ℕ → State → State
name_parts c n [] s = add_variable (one n) s
name_parts c n (p ∷ ps) s = fold (naming_of c Tracked) (p ∷ ps) s

unfoldable pub name_range : Catalogue → ℕ → State → State
name_range c r s = name_parts c (range_name c r) (non_matching c r) s

unfoldable pub name_disjuncts : Catalogue → ℕ → List ℕ → State → State
name_disjuncts c q is s = fold (λ i. fold (name_range c) (disjunct_at c q i)) is s

-- each index is one of a disjunct of q
pub record GivenIndices (c : Catalogue) (q : ℕ) (is : List ℕ) : Type 0 where
  pub given : Each (λ i. i < length (disjuncts_of c q)) is
