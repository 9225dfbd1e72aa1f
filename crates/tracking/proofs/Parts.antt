-- The tracked parts of a name, one after another, with a clause for each.
use mathlib.Core.Path.{◌≡◌, refl, sym, ◌∙◌}
use mathlib.Core.Bool.{Bool, true, false}
use mathlib.Core.List.{List, [], ◌∷◌, map}
use Prim.Native.Nat.{ℕ, ◌+◌, ◌<◌, ◌≤◌, zero-le}
use native.Mathlib.Numerals.{add-one}
use native.Mathlib.Omega.{arith}
use lib.Dec.{eqb}
use lib.ListN.{length, get_or, drop, drop_of_length-le}
use lib.Seq.{drop-cons}
use borrow.Author.Tests.{eq-eqb, ne_eqb, eqb-true, eqb-false, lt-ltb}
use Rattle.rules.specs.Lists.{filter}
use Rattle.rules.specs.Literal.{Literal}
use Rattle.rules.specs.Clause.{Clause, forbid, any_one}
use Rattle.rules.specs.AtMostOne.{bit, agrees, helper_clauses}
use Rattle.rules.specs.Catalogue.{no_part}
use Rattle.rules.specs.Variables.{known, part_origin, part_variable}
use Rattle.rules.proofs.Each.{each_at}
use Rattle.tables.specs.declared.Counts.{Counts}
use Rattle.tables.specs.Tables.{tables}
use Rattle.clause.specs.Literals.{signed}
use Rattle.state.proofs.Sizes.{length_fixed}
use Rattle.variable_map.specs.Mapping.{in_tables, AllKnown}
use Rattle.variable_map.proofs.Laws as variables
use Rattle.marked.specs.Marked.{Marked}
use Rattle.marked.proofs.Laws.{length_listed, at_low}
use Rattle.encoder.specs.declared.Run.{Run}
use Rattle.encoder.specs.declared.State.{State}
use Rattle.encoder.specs.Held.{LongEnough}
use Rattle.encoder.specs.Did.{Looked, is_full}
use Rattle.encoder.specs.Does.{IsMapped, regions_of, variables_of}
use Rattle.storing.specs.Adding.{Adds}
use Rattle.tracking.specs.Joining.{AddsAll, GoodSome, part_name, of_name, tracked_in, tracked_variables, variable_at, IsAt, any_clauses}
use Rattle.tracking.proofs.Steps.{Adding, adding_start, adding_step, adding_stop, adding_end, some_good, some_tracked, some_after, Areas, areas_start, areas_then, Same, same_tracked, clause_same, known_same}

-- ---- a place

module _ (k : Counts) (t : List ℕ) (name : ℕ) (ps : List ℕ) (i : ℕ) where
  name_here : i < length ps → part_name k t (get_or ps i 0) ≡ name
      → of_name k t name (drop i ps) ≡ get_or ps i 0 ∷ of_name k t name (drop (i + 1) ps)
  unfolding of_name filter
  name_here h e = rw (drop-cons ps i 0 h, add-one, eq-eqb (part_name k t (get_or ps i 0)) name e, filter)

  name_past : i < length ps → (part_name k t (get_or ps i 0) ≡ name → ⊥) → of_name k t name (drop i ps) ≡ of_name k t name (drop (i + 1) ps)
  unfolding of_name filter
  name_past h e = rw (drop-cons ps i 0 h, add-one, ne_eqb (part_name k t (get_or ps i 0)) name e, filter)

  name_none : length ps ≤ i → of_name k t name (drop i ps) ≡ []
  unfolding of_name filter
  name_none h = rw (drop_of_length-le ps h)

pub is_of : (k : Counts) (t : List ℕ) (ps : List ℕ) (name at p a : ℕ) → p ≡ get_or ps at 0 → a ≡ (get_or (tables k t).parts p no_part).name
    → eqb a name ≡ eqb (part_name k t (get_or ps at 0)) name
unfolding part_name
is_of k t ps name at p a e d = rw (← e, d)

-- ---- the variable at a place

module _ (x : State) (at p : ℕ) (w : Marked 10 11 x.used.tracked (regions_of x)) (h : at < x.used.tracked) (e : p ≡ get_or (tracked_in x) at 0) where
  pub place_low : in_tables (part_origin p) ≡ true
  unfolding in_tables
  place_low =
      let low = at_low w at p h e in
      lt-ltb p 1024 (omega (arith, low, length_fixed x.limits x.area.now 11 (omega arith) x.fits))

  pub place_is : {v : ℕ} → IsMapped x → AllKnown (variables_of x) (tracked_in x) → Looked (variables_of x) (part_origin p) v → IsAt x at v
  unfolding variable_at
  place_is m k y =
      let vs = variables_of x in
      let there : known vs (part_origin p) ≡ true = rw e (each_at k.known at 0 (omega (arith, length_listed w))) in
      record { is = y.is there ∙ rw e; below = omega (arith, y.below there, variables.count x.used.variables (regions_of x), m.room) }

-- ---- a clause for it

pub agree_added : (r : Run) (s s' : State) (cl cl' : List ℕ) (x y : ℕ) (b : Bool) (z : Literal)
    → z ≡ signed y b → Adds r (forbid x z) s cl s' cl' → Adds r (agrees x y b) s cl s' cl'
unfolding signed
agree_added r s s' cl cl' x y b z g a = rw g at a

-- ---- a walk over them, with a clause for each: `rest` are the clauses of those that are left, by their variables

pub record Walking (k : Counts) (t : List ℕ) (r : Run) (name : ℕ) (all : List Clause) (rest : List ℕ → List Clause) (x₀ : State) (cl₀ : List ℕ) (x : State) (cl : List ℕ)
    (at : ℕ) : Type 0 where
  pub areas : Areas x₀ x cl
  pub good : GoodSome x cl
  pub count : x.used.tracked ≡ x₀.used.tracked
  pub few : x.used.tracked ≤ 1025
  pub known : AllKnown (variables_of x) (tracked_in x)
  pub did : Adding r all (rest (map (part_variable (variables_of x)) (of_name k t name (drop at (tracked_in x))))) x₀ cl₀ x cl

some_few : {x : State} {cl : List ℕ} → GoodSome x cl → x.used.tracked ≤ 1025
some_few g = let w = some_tracked g in omega (arith, w.most, w.short)

walking_start : {k : Counts} {t : List ℕ} {r : Run} {name : ℕ} (rest : List ℕ → List Clause) {x : State} {cl : List ℕ}
    → LongEnough x.limits (length cl) 16384 → GoodSome x cl → AllKnown (variables_of x) (tracked_in x)
    → Walking k t r name (rest (tracked_variables k t x name)) rest x cl x cl 0
unfolding tracked_variables
walking_start rest h g q = record { areas = areas_start h; good = g; count = refl; few = some_few g; known = q; did = adding_start }

module _ {k : Counts} {t : List ℕ} {r : Run} {name : ℕ} {all : List Clause} {rest : List ℕ → List Clause} {x₀ x : State} {cl₀ cl : List ℕ}
    {at : ℕ} (w : Walking k t r name all rest x₀ cl₀ x cl at) where
  pub walking_place : at < x₀.used.tracked → at < x.used.tracked
  walking_place h = rw w.count h

  walking_end : x₀.used.tracked ≤ at → rest [] ≡ [] → AddsAll r all x₀ cl₀ x cl
  walking_end h e =
      let none = name_none k t name (tracked_in x) at (omega (arith, w.count, length_listed (some_tracked w.good))) in
      adding_end (rw (← e) (rw none at w.did))

  module _ (h : at < x₀.used.tracked) {q : Bool} (e : q ≡ eqb (part_name k t (get_or (tracked_in x) at 0)) name) where
    place : at < length (tracked_in x)
    place = omega (arith, w.count, length_listed (some_tracked w.good))

    -- a part of another name is passed
    walking_pass : q ≡ false → Walking k t r name all rest x₀ cl₀ x cl (at + 1)
    walking_pass i =
        record {
          areas = w.areas;
          good = w.good;
          count = w.count;
          few = w.few;
          known = w.known;
          did = rw (name_past k t name (tracked_in x) at place (eqb-false _ name (sym e ∙ i))) at w.did;
        }

    module _ (i : q ≡ true) (rest' : List ℕ → List Clause) {j : Clause} {x' : State} {cl' : List ℕ}
        (a : Adds r j x cl x' cl') (s : (vs : List ℕ) → rest (variable_at x at ∷ vs) ≡ j ∷ rest' vs) where
      here : part_name k t (get_or (tracked_in x) at 0) ≡ name
      here = eqb-true _ name (sym e ∙ i)

      left_is : map (part_variable (variables_of x)) (of_name k t name (drop at (tracked_in x)))
          ≡ variable_at x at ∷ map (part_variable (variables_of x)) (of_name k t name (drop (at + 1) (tracked_in x)))
      unfolding variable_at
      left_is = rw (name_here k t name (tracked_in x) at place here)

      stepped : Adding r all (rest' (map (part_variable (variables_of x)) (of_name k t name (drop (at + 1) (tracked_in x))))) x₀ cl₀ x' cl'
      stepped = adding_step (rw (left_is, s) at w.did) a

      walking_stop : is_full x'.used ≡ true → AddsAll r all x₀ cl₀ x' cl'
      walking_stop f = adding_stop stepped f

      walking_step : is_full x'.used ≡ false → length cl' ≡ length cl → Walking k t r name all rest' x₀ cl₀ x' cl' (at + 1)
      walking_step f v =
          let z : Same x x' = clause_same a (some_good w.good) f in
          let g = some_after w.good a in
          record {
            areas = areas_then w.areas a.limits v;
            good = g;
            count = same_tracked z (some_tracked w.good) (some_tracked g) ∙ w.count;
            few = some_few g;
            known = known_same z w.known;
            did = rw (z.variables, z.tracked) stepped;
          }

-- ---- a helper's clauses

pub record Helping (k : Counts) (t : List ℕ) (r : Run) (name y j : ℕ) (x₀ : State) (cl₀ : List ℕ) (x : State) (cl : List ℕ) (i at : ℕ) : Type 0 where
  pub few : i ≤ at
  pub walk : Walking k t r name (helper_clauses y j 0 (tracked_variables k t x₀ name)) (helper_clauses y j i) x₀ cl₀ x cl at

pub helping_start : (k : Counts) (t : List ℕ) (r : Run) (name y j : ℕ) (x : State) (cl : List ℕ)
    → LongEnough x.limits (length cl) 16384 → GoodSome x cl → AllKnown (variables_of x) (tracked_in x) → Helping k t r name y j x cl x cl 0 0
helping_start k t r name y j x cl h g q = record { few = zero-le; walk = walking_start (helper_clauses y j 0) h g q }

next_helper : (y j i v : ℕ) (xs : List ℕ) → helper_clauses y j i (v ∷ xs) ≡ agrees v y (bit j i) ∷ helper_clauses y j (i + 1) xs
unfolding helper_clauses
next_helper y j i v xs = rw add-one

module _ {k : Counts} {t : List ℕ} {r : Run} {name y j : ℕ} {x₀ x : State} {cl₀ cl : List ℕ} {i at : ℕ} (w : Helping k t r name y j x₀ cl₀ x cl i at) where
  pub helping_end : x₀.used.tracked ≤ at → AddsAll r (helper_clauses y j 0 (tracked_variables k t x₀ name)) x₀ cl₀ x cl
  helping_end h = walking_end w.walk h (unfold helper_clauses in refl)

  module _ (h : at < x₀.used.tracked) {q : Bool} (e : q ≡ eqb (part_name k t (get_or (tracked_in x) at 0)) name) where
    pub helping_pass : q ≡ false → Helping k t r name y j x₀ cl₀ x cl i (at + 1)
    helping_pass f = record { few = omega (arith, w.few); walk = walking_pass w.walk h e f }

    module _ (f : q ≡ true) {x' : State} {cl' : List ℕ} (a : Adds r (agrees (variable_at x at) y (bit j i)) x cl x' cl') where
      pub helping_stop : is_full x'.used ≡ true → AddsAll r (helper_clauses y j 0 (tracked_variables k t x₀ name)) x₀ cl₀ x' cl'
      helping_stop u = walking_stop w.walk h e f (helper_clauses y j (i + 1)) a (next_helper y j i (variable_at x at)) u

      pub helping_step : is_full x'.used ≡ false → length cl' ≡ length cl → Helping k t r name y j x₀ cl₀ x' cl' (i + 1) (at + 1)
      helping_step u v =
          record {
            few = omega (arith, w.few);
            walk = walking_step w.walk h e f (helper_clauses y j (i + 1)) a (next_helper y j i (variable_at x at)) u v;
          }

-- ---- one-of-name y for each

pub record Linking (k : Counts) (t : List ℕ) (r : Run) (name y : ℕ) (x₀ : State) (cl₀ : List ℕ) (x : State) (cl : List ℕ) (at : ℕ) : Type 0 where
  pub walk : Walking k t r name (any_clauses y (tracked_variables k t x₀ name)) (any_clauses y) x₀ cl₀ x cl at

pub linking_start : (k : Counts) (t : List ℕ) (r : Run) (name y : ℕ) (x : State) (cl : List ℕ)
    → LongEnough x.limits (length cl) 16384 → GoodSome x cl → AllKnown (variables_of x) (tracked_in x) → Linking k t r name y x cl x cl 0
linking_start k t r name y x cl h g q = record { walk = walking_start (any_clauses y) h g q }

next_any : (y v : ℕ) (xs : List ℕ) → any_clauses y (v ∷ xs) ≡ any_one y v ∷ any_clauses y xs
unfolding any_clauses
next_any y v xs = refl

module _ {k : Counts} {t : List ℕ} {r : Run} {name y : ℕ} {x₀ x : State} {cl₀ cl : List ℕ} {at : ℕ} (w : Linking k t r name y x₀ cl₀ x cl at) where
  pub linking_end : x₀.used.tracked ≤ at → AddsAll r (any_clauses y (tracked_variables k t x₀ name)) x₀ cl₀ x cl
  linking_end h = walking_end w.walk h (unfold any_clauses in refl)

  module _ (h : at < x₀.used.tracked) {q : Bool} (e : q ≡ eqb (part_name k t (get_or (tracked_in x) at 0)) name) where
    pub linking_pass : q ≡ false → Linking k t r name y x₀ cl₀ x cl (at + 1)
    linking_pass f = record { walk = walking_pass w.walk h e f }

    module _ (f : q ≡ true) {x' : State} {cl' : List ℕ} (a : Adds r (any_one y (variable_at x at)) x cl x' cl') where
      pub linking_stop : is_full x'.used ≡ true → AddsAll r (any_clauses y (tracked_variables k t x₀ name)) x₀ cl₀ x' cl'
      linking_stop u = walking_stop w.walk h e f (any_clauses y) a (next_any y (variable_at x at)) u

      pub linking_step : is_full x'.used ≡ false → length cl' ≡ length cl → Linking k t r name y x₀ cl₀ x' cl' (at + 1)
      linking_step u v = record { walk = walking_step w.walk h e f (any_clauses y) a (next_any y (variable_at x at)) u v }
