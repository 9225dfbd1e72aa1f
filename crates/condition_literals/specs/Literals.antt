-- What has variables, and the condition literals at hand.
use Rattle.std.specs.Prelude.{◌≡◌, Bool, true, List, [], ◌∷◌, ◌++◌, map, ℕ, ◌+◌, ◌<◌, ◌≤◌, length}
use Rattle.rules.specs.Lists.{distinct}
use Rattle.rules.specs.Literal.{Literal, pos}
use Rattle.rules.specs.Catalogue.{Catalogue, owner_at, goal_at, range_name}
use Rattle.rules.specs.Candidates.{non_matching, goal_ranges, candidates}
use Rattle.rules.specs.Conditions.{disjunct_at}
use Rattle.rules.specs.Decisions.{Decision, evaluate, is_falsified}
use Rattle.rules.specs.Variables.{Origin, chosen, known, variable_of, part_origin, part_variable}
use Rattle.rules.specs.Encoding.{range_origins, disjunct_origins}
use Rattle.rules.proofs.Each.{Each}
use Rattle.state.specs.declared.Limits.{Limits}
use Rattle.state.specs.Changed.{Changed}
use Rattle.marked.specs.Marked.{listed, Marked}
use Rattle.state.specs.Layout.{held}
use Rattle.encoder.specs.declared.Counters.{Counters}
use Rattle.encoder.specs.declared.State.{State}
use Rattle.encoder.specs.Held.{literals_in}
use Rattle.encoder.specs.Does.{regions_of}
use Rattle.goals.specs.Goals.{Written}

-- ---- what has variables, and what is at hand

pub record RangeKnown (c : Catalogue) (vs : List Origin) (r : ℕ) : Type 0 where
  pub known : Each (λ o. known vs o ≡ true) (range_origins (range_name c r) (non_matching c r))

pub record DisjunctKnown (c : Catalogue) (vs : List Origin) (d : List ℕ) : Type 0 where
  pub known : Each (λ o. known vs o ≡ true) (disjunct_origins c d)

pub record FiredKnown (c : Catalogue) (vs : List Origin) (q : ℕ) (is : List ℕ) : Type 0 where
  pub known : Each (λ i. DisjunctKnown c vs (disjunct_at c q i)) is

-- the owner and the candidates of requirement q have variables
pub record Named (c : Catalogue) (q : ℕ) (vs : List Origin) : Type 0 where
  pub owner : known vs (chosen (owner_at c q)) ≡ true
  pub candidates : Each (λ p. known vs (part_origin p) ≡ true) (candidates c (goal_at c q))

abbrev pub owner_origin : Catalogue → ℕ → Origin
owner_origin c q = chosen (owner_at c q)

-- x is the variable of o
pub record Found (l : Limits) (vs : List Origin) (o : Origin) (x : ℕ) : Type 0 where
  pub is : x ≡ variable_of vs o
  pub low : x < l.variables

-- the list at hand has the distinct ranges of its goal
pub record AtHand (c : Catalogue) (q ranges : ℕ) (st : ℕ → List ℕ) : Type 0 where
  pub marked : Marked 14 15 ranges st
  pub is : listed ranges 14 st ≡ distinct (goal_ranges c (goal_at c q))

-- ---- condition literals

-- ks are the `count` literals behind those of the stored clauses, if there is room for them
pub record Pending (l : Limits) (n : Counters) (st : ℕ → List ℕ) (ks : List Literal) (count : ℕ) : Type 0 where
  pub counted : count ≡ length ks
  pub stored : n.literals + count ≤ l.literals → literals_in (st 19) n.literals count ≡ ks

-- the literals `more` were put behind them; the literals of the stored clauses and all else are as they were
pub record Pushes (l : Limits) (n : Counters) (st : ℕ → List ℕ) (count : ℕ) (more : List Literal) (count' : ℕ) (st' : ℕ → List ℕ) : Type 0 where
  pub others : Changed (19 ∷ []) st st'
  pub same : (start size : ℕ) → start + size ≤ n.literals → literals_in (st' 19) start size ≡ literals_in (st 19) start size
  pub more_counted : count' ≡ count + length more
  pub pending : (ks : List Literal) → Pending l n st ks count → Pending l n st' (ks ++ more) count'

-- the same of the encoder's state, of which the area alone was written
pub record StatePushes (x : State) (count : ℕ) (more : List Literal) (count' : ℕ) (x' : State) : Type 0 where
  pub written : Written x x'
  pub pushes : Pushes x.limits x.used (regions_of x) count more count' (held x.limits x'.area.now)

-- these parts, each as a literal
unfoldable pub part_literals : List Origin → List ℕ → List Literal
part_literals vs ps = map (λ p. pos (part_variable vs p)) ps

-- decided false
unfoldable pub literal_false : List Decision → Literal → Bool
literal_false ds x = is_falsified (evaluate ds x)
