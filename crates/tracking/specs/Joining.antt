-- Parts that join their names and one-of-name variables that are linked, one after another.
use Rattle.std.specs.Prelude.{◌≡◌, true, false, not, ◌&&◌, List, [], ◌∷◌, ◌++◌, map, ℕ, suc, ◌+◌, ◌<◌, ◌≤◌, eqb, ltb, length, get_or, drop}
use Rattle.rules.specs.Lists.{filter, elem, snoc, concat_map, fold, when, list_if, up_to}
use Rattle.rules.specs.Clause.{Clause, any_one}
use Rattle.rules.specs.AtMostOne.{helpers_for, helpers_clauses, part_clauses}
use Rattle.rules.specs.Catalogue.{root, no_part, Catalogue, name_of}
use Rattle.rules.specs.Variables.{Origin, chosen, one, forbid, known, variable_of, part_origin, part_variable}
use Rattle.rules.specs.Opening.{Opening, set_named, set_tracked, tracked_of}
use Rattle.rules.specs.Encoding.{joins}
use Rattle.rules.specs.State.{State, Run, emit}
use Rattle.rules.specs.Run.{name_if_one}
use Rattle.rules.proofs.Each.{Each}
use Rattle.rules.proofs.Places.{Distinct}
use Rattle.rules.proofs.Capped.{add_variable}
use Rattle.rules.proofs.ClauseByClause.{add_clause}
use Rattle.tables.specs.declared.Counts.{Counts}
use Rattle.tables.specs.Tables.{tables}
use Rattle.cache.specs.Areas.{catalogue}
use Rattle.marked.specs.Marked.{listed}
use Rattle.variable_map.specs.Mapping.{AllKnown}
use Rattle.encoder.specs.declared.Run as code
use Rattle.encoder.specs.declared.State as encoder
use Rattle.encoder.specs.Held.{run_of}
use Rattle.encoder.specs.Did.{on_opening, is_full}
use Rattle.encoder.specs.Does.{StateDoes, PlainDoes, ClausesDoes, IsGoodWith, regions_of, variables_of}

-- the tracked parts, and the parts that are named for tracking
abbrev pub tracked_in : encoder.State → List ℕ
tracked_in x = listed x.used.tracked 10 (regions_of x)

abbrev pub named_in : encoder.State → List ℕ
named_in x = listed x.used.named 8 (regions_of x)

-- ---- steps by what they do

-- F is done to the state and the clauses
pub record Makes (c : Catalogue) (F : State → State) (x : encoder.State) (cl : List ℕ) (x' : encoder.State) (cl' : List ℕ) : Type 0 where
  pub is : ClausesDoes c (λ v. F) x cl x' cl'

-- these clauses are added in run r
pub record AddsAll (r : code.Run) (ks : List Clause) (x : encoder.State) (cl : List ℕ) (x' : encoder.State) (cl' : List ℕ) : Type 0 where
  pub is : (c : Catalogue) → Makes c (fold (add_clause (run_of r)) ks) x cl x' cl'

-- these origins get variables
pub record NamesAll (os : List Origin) (x x' : encoder.State) : Type 0 where
  pub does : PlainDoes (λ c v. fold add_variable os) x x'

-- What holds between two steps, closed so that a search does not look through all of it: with a catalogue of the area t; with some catalogue, for a step
-- that does not read it; and with some clauses too.
pub data GoodOf (k : Counts) (t : List ℕ) (x : encoder.State) (cl : List ℕ) : Type 0 where
  good : (m u : List ℕ) → IsGoodWith (catalogue k m u t) x cl [] → GoodOf k t x cl

pub data GoodSome (x : encoder.State) (cl : List ℕ) : Type 0 where
  some : (c : Catalogue) → IsGoodWith c x cl [] → GoodSome x cl

pub data GoodAny (x : encoder.State) : Type 0 where
  any : (c : Catalogue) (cl : List ℕ) → IsGoodWith c x cl [] → GoodAny x

-- ---- helpers

-- the first h helpers of a name
unfoldable pub first_helpers : (name h : ℕ) → List Origin
first_helpers name h = map (forbid name) (up_to 0 h)

-- and part p before them
unfoldable pub join_origins : (name p h : ℕ) → List Origin
join_origins name p h = part_origin p ∷ first_helpers name h

unfoldable pub helper_variables : List Origin → (name h : ℕ) → List ℕ
helper_variables vs name h = map (variable_of vs) (first_helpers name h)

pub record HelpersKnown (vs : List Origin) (name h : ℕ) : Type 0 where
  pub known : Each (λ j. known vs (forbid name j) ≡ true) (up_to 0 h)

-- the helpers of a name that has i + 1 parts, which are variables
pub record HelpersBelow (ys : List ℕ) (i m : ℕ) : Type 0 where
  pub room : length ys ≤ 10
  pub count : length ys ≡ helpers_for (i + 1)
  pub below : Each (λ y. y < m) ys

-- ---- the tracked parts of a name

-- a part's name, by the catalogue's area t
unfoldable pub part_name : Counts → (t : List ℕ) → ℕ → ℕ
part_name k t p = (get_or (tables k t).parts p no_part).name

-- of these parts, those of this name
unfoldable pub of_name : Counts → (t : List ℕ) (name : ℕ) → List ℕ → List ℕ
of_name k t name ps = filter (λ p. eqb (part_name k t p) name) ps

-- there are 64 names at most
pub record NamesLow (k : Counts) (t : List ℕ) : Type 0 where
  pub low : (p : ℕ) → part_name k t p < 64

-- the variables of those that are tracked
unfoldable pub tracked_variables : Counts → (t : List ℕ) → encoder.State → (name : ℕ) → List ℕ
tracked_variables k t x name = map (part_variable (variables_of x)) (of_name k t name (tracked_in x))

-- the variable of the tracked part at a place
unfoldable pub variable_at : encoder.State → ℕ → ℕ
variable_at x at = part_variable (variables_of x) (get_or (tracked_in x) at 0)

-- and v is it
pub record IsAt (x : encoder.State) (at v : ℕ) : Type 0 where
  pub is : v ≡ variable_at x at
  pub below : v < x.limits.variables

-- ---- clauses

-- of a helper that i parts did not need: `ys` are the helpers of i + 1 parts, xs the variables of the i parts
unfoldable pub new_helper_clauses : ℕ → List ℕ → List ℕ → List Clause
new_helper_clauses i ys xs = helpers_clauses (helpers_for i) (drop (helpers_for i) ys) xs

unfoldable pub one_clauses : ℕ → List Origin → (name x : ℕ) → List Clause
one_clauses before vs n x = list_if (ltb (variable_of vs (one n)) before) (any_one (variable_of vs (one n)) x ∷ [])

-- one-of-name y for each of xs
unfoldable pub any_clauses : ℕ → List ℕ → List Clause
any_clauses y xs = map (any_one y) xs

-- variable y, if it is one-of-name, for each of the parts ps of that name
unfoldable pub link_clauses : Counts → (t : List ℕ) → List Origin → ℕ → List ℕ → List Clause
link_clauses k t vs y ps = concat_map (λ name. any_clauses y (map (part_variable vs) (of_name k t name ps))) (name_if_one (get_or vs y (chosen root)))

-- all clauses of a part of variable x behind xs
unfoldable pub tracked_clauses : ℕ → List Origin → (name x i : ℕ) (ys xs : List ℕ) → List Clause
tracked_clauses before vs n x i ys xs = (new_helper_clauses i ys xs ++ part_clauses x i 0 ys) ++ one_clauses before vs n x

-- all clauses of part p of this name behind the parts ps that are tracked of it
unfoldable pub joined_clauses : ℕ → List Origin → (name p : ℕ) → List ℕ → List Clause
joined_clauses before vs n p ps =
    tracked_clauses before vs n (part_variable vs p) (length ps) (helper_variables vs n (helpers_for (suc (length ps)))) (map (part_variable vs) ps)

-- ---- steps

unfoldable pub tracking : ℕ → Opening → Opening
tracking p o = set_tracked (snoc o.tracked p) o

-- part p is tracked
pub record Tracks (k : Counts) (t : List ℕ) (p : ℕ) (x x' : encoder.State) : Type 0 where
  pub is : (m u : List ℕ) → StateDoes (catalogue k m u t) (λ v. on_opening (tracking p)) x x'

-- F is done, with any catalogue of the area t
pub record MakesOf (k : Counts) (t : List ℕ) (F : Catalogue → State → State) (x : encoder.State) (cl : List ℕ) (x' : encoder.State) (cl' : List ℕ) : Type 0 where
  pub is : (m u : List ℕ) → Makes (catalogue k m u t) (F (catalogue k m u t)) x cl x' cl'

-- clauses are added, and part p is tracked
unfoldable pub track_with : Run → List Clause → ℕ → Catalogue → State → State
track_with r ks p c s = on_opening (tracking p) (fold (add_clause r) ks s)

unfoldable pub join_step : Run → ℕ → Catalogue → State → State
join_step r p c s = on_opening (tracking p) (emit c r (joins p (tracked_of c (name_of c p) s.opening.tracked)) s)

unfoldable pub join_if : Run → (name p : ℕ) → Catalogue → State → State
join_if r n p c s = when (eqb (name_of c p) n && not (elem p s.opening.tracked)) (join_step r p c) s

unfoldable pub join_name : Run → (name : ℕ) → Catalogue → State → State
join_name r n c s = fold (λ p. join_if r n p c) s.opening.named s

unfoldable pub join_names : Run → List ℕ → Catalogue → State → State
join_names r ns c s = fold (λ n. join_name r n c) ns s

unfoldable pub forget_named : Opening → Opening
forget_named o = set_named [] o

-- no part is named any more
pub record Forgets (x x' : encoder.State) : Type 0 where
  pub does : PlainDoes (λ c v. on_opening forget_named) x x'

-- ---- what is asked

-- it is not full, the run has a number and began with no more variables, and tracked parts have variables
pub record CanJoin (x : encoder.State) (r : code.Run) : Type 0 where
  pub going : is_full x.used ≡ false
  pub number : 0 < r.number
  pub older : r.before ≤ x.used.variables
  pub known : AllKnown (variables_of x) (tracked_in x)

-- part p of this name can be added behind the i parts that are tracked of it: it and the h helpers have variables
pub record CanAddPart (k : Counts) (t : List ℕ) (x : encoder.State) (name p i h : ℕ) : Type 0 where
  pub low : p < 1024
  pub named : part_name k t p ≡ name
  pub name_low : name < 64
  pub count : i ≡ length (of_name k t name (tracked_in x))
  pub few : i < 1024
  pub helpers : h ≡ helpers_for (i + 1)
  pub known : known (variables_of x) (part_origin p) ≡ true
  pub helpers_known : HelpersKnown (variables_of x) name h

-- tracked parts have variables, and no origin has two
pub record CanLink (x : encoder.State) : Type 0 where
  pub going : is_full x.used ≡ false
  pub known : AllKnown (variables_of x) (tracked_in x)
  pub apart : Distinct (variables_of x)
