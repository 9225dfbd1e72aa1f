-- Demand 3: what a set P of parts must keep, over the catalogue's records and the opening at the job's end; and the demand's statement.
use Rattle.std.specs.Prelude.{◌≡◌, ◌↔◌, ◌⊎◌, Bool, true, false, not, ◌&&◌, ◌||◌, List, [], ◌∷◌, map, ℕ, ◌<◌, ◌≤◌, eqb, leb, length, get_or}
use Rattle.std.proofs.Math.Option.{Option, none, some}
use Rattle.rules.specs.Lists.{filter, any, all, count, up_to}
use Rattle.rules.specs.Clause.{Clause, literals}
use Rattle.rules.specs.Truth.{Values, all_true}
use Rattle.rules.specs.Catalogue.{Owner, root, part, Catalogue, part_at, range_name, goal_at, condition_at, unknown_owner}
use Rattle.rules.specs.Candidates.{non_matching, candidates, requirements_of, constraints_of, locked_out, excluded_parts}
use Rattle.rules.specs.Conditions.{disjunct_at}
use Rattle.rules.specs.Variables.{Origin, chosen, forbid, one, violation, gate}
use Rattle.rules.specs.Opening.{Opening, tracked_of}
use Rattle.rules.specs.State.{State}
use Rattle.rules.specs.Limits.{Terms}
use Rattle.rules.specs.Job.{accepted, outcome}
use Rattle.rules.specs.Called.{◌∈◌, constraint_range}

-- a set of parts
abbrev pub Parts : Type 0
Parts = ℕ → Bool

-- how many tracked parts of a name a set may have
abbrev pub most : ℕ → ℕ
most n = 1

-- "an opened owner that is in P or is the root"
abbrev pub chosen_in : Parts → Owner → Bool
chosen_in P root = true
chosen_in P (part p) = P p

-- ---- 01, the paragraph "Demand 3 is one claim about the whole job", sentence by sentence

-- P has a part of the list; P has none
abbrev pub Has : Parts → List ℕ → Type 0
Has P ps = (p : ℕ) × (p ∈ ps) × (P p ≡ true)

abbrev pub Lacks : Parts → List ℕ → Type 0
Lacks P ps = (p : ℕ) → p ∈ ps → P p ≡ false

-- "P has .. a non-matching part of some range, or, for a range with no non-matching part, no tracked part of its name"
pub data Unmet (c : Catalogue) (o : Opening) (P : Parts) (r : ℕ) : Type 0 where
  another : Has P (non_matching c r) → Unmet c o P r
  none_of_name : non_matching c r ≡ [] → Lacks P (tracked_of c (range_name c r) o.tracked) → Unmet c o P r

pub record Keeps (c : Catalogue) (o : Opening) (P : Parts) : Type 0 where
  -- "A tracked name is kept if P has at most one tracked part of it"
  pub names : (n : ℕ) → n < length c.names → count P (tracked_of c n o.tracked) ≤ most n
  -- "Exclusions and locks bind in opened names"
  pub exclusions : (n : ℕ) → n ∈ o.names → Lacks P (excluded_parts c n)
  pub locks : (n : ℕ) → n ∈ o.names → Lacks P (locked_out c n)
  -- "an opened part with unknown dependencies counts as excluded, and this binds even where its name isn't opened"
  pub unknowns : (p : ℕ) → part p ∈ o.owners → (part_at c p).unknown ≡ true → P p ≡ false
  -- "For an opened owner that is in P or is the root: a constraint is kept if P has no non-matching part of its range"
  pub constraints : (w : Owner) → w ∈ o.owners → chosen_in P w ≡ true → (k : ℕ) → k ∈ constraints_of c w → Lacks P (non_matching c (constraint_range c k))
  -- "an unconditional requirement, if P has a candidate"
  pub unconditional : (w : Owner) → w ∈ o.owners → chosen_in P w ≡ true → (q : ℕ) → q ∈ requirements_of c w → condition_at c q ≡ none
      → Has P (candidates c (goal_at c q))
  -- "A conditional one is kept if, for each of its fired disjuncts, P has a candidate, or .."
  pub conditional : (w : Owner) → w ∈ o.owners → chosen_in P w ≡ true → (q : ℕ) → q ∈ requirements_of c w → (k : ℕ) → condition_at c q ≡ some k
      → (i : ℕ) → (q, i) ∈ o.fired → Has P (candidates c (goal_at c q)) ⊎ ((r : ℕ) × (r ∈ disjunct_at c q i) × Unmet c o P r)

-- ---- the same as a test that computes (proofs/Kept.antt: the two are the same)

module _ (c : Catalogue) (o : Opening) (P : Parts) where
  abbrev pub none_in : List ℕ → Bool
  none_in ps = not (any P ps)

  unfoldable pub name_kept : ℕ → Bool
  name_kept n = leb (count P (tracked_of c n o.tracked)) (most n)

  unfoldable pub exclusions_kept : ℕ → Bool
  exclusions_kept n = none_in (excluded_parts c n)

  unfoldable pub lock_kept : ℕ → Bool
  lock_kept n = none_in (locked_out c n)

  unfoldable pub unknown_kept : Owner → Bool
  unknown_kept w = not (unknown_owner c w && chosen_in P w)

  unfoldable pub constraint_kept : ℕ → Bool
  constraint_kept k = none_in (non_matching c (constraint_range c k))

  unfoldable pub range_unmet : ℕ → List ℕ → Bool
  range_unmet n [] = none_in (tracked_of c n o.tracked)
  range_unmet n (p ∷ ps) = any P (p ∷ ps)

  unfoldable pub has_candidate : ℕ → Bool
  has_candidate q = any P (candidates c (goal_at c q))

  unfoldable pub disjunct_kept : ℕ → ℕ → Bool
  disjunct_kept q i = has_candidate q || any (λ r. range_unmet (range_name c r) (non_matching c r)) (disjunct_at c q i)

  unfoldable pub fired_of : ℕ → List (ℕ × ℕ)
  fired_of q = filter (λ (e : ℕ × ℕ). eqb e.0 q) o.fired

  unfoldable pub requirement_kept_by : Option ℕ → ℕ → Bool
  requirement_kept_by none q = has_candidate q
  requirement_kept_by (some k) q = all (λ (e : ℕ × ℕ). disjunct_kept q e.1) (fired_of q)

  unfoldable pub requirement_kept : ℕ → Bool
  requirement_kept q = requirement_kept_by (condition_at c q) q

  unfoldable pub owner_kept : Owner → Bool
  owner_kept w = not (chosen_in P w) || (all constraint_kept (constraints_of c w) && all requirement_kept (requirements_of c w))

  unfoldable pub keeps : Bool
  keeps =
      all name_kept (up_to 0 (length c.names))
      && (all exclusions_kept o.names
      && (all lock_kept o.names
      && (all unknown_kept o.owners
      && all owner_kept o.owners)))

-- ---- the statement

-- a variable's value goes by its origin: root true, parts as P, helpers as they like
abbrev pub Agrees : Parts → Origin → Bool → Type 0
Agrees P (chosen root) b = b ≡ true
Agrees P (chosen (part p)) b = b ≡ P p
Agrees P (forbid n j) b = Unit {0}
Agrees P (one n) b = Unit {0}
Agrees P (violation r) b = Unit {0}
Agrees P (gate g) b = Unit {0}

-- variables with these origins have values that agree with P and make every one of the clauses true
abbrev pub Satisfiable : List Origin → List Clause → Parts → Type 0
Satisfiable vs ks P =
    (v : Values)
    × ((x : ℕ) → x < length vs → Agrees P (get_or vs x (chosen root)) (v x))
    × (all_true v (map literals ks) ≡ true)

-- for every job that is accepted and every set of parts
abbrev pub Demand3 : Type 0
Demand3 =
    (t : Terms) (job : List ℕ) (c : Catalogue) (s : State) → outcome t job ≡ accepted c s
    → (P : Parts) → Satisfiable s.variables s.clauses P ↔ Keeps c s.opening P
