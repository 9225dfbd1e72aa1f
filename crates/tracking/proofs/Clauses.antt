-- The clauses of a part that joins: with each helper, of a new helper, of the one-of-name variable, and all of them.
use mathlib.Core.Path.{◌≡◌, refl, sym, ◌∙◌, ap}
use mathlib.Core.Logic.{◌⊎◌, inl, inr, ⊎_elim}
use mathlib.Core.Bool.{Bool, true, false, cond}
use mathlib.Core.List.{List, [], ◌∷◌, map, append-nil}
use Prim.Native.Nat.{ℕ, suc, ◌+◌, ◌^◌, ◌<◌, ◌≤◌}
use native.Mathlib.Numerals.{add-one}
use native.Mathlib.Omega.{arith}
use lib.Dec.{ltb}
use lib.ListN.{length, get_or, take, drop, length-map, drop_of_length-le}
use lib.Seq.{drop-cons}
use borrow.Author.Tests.{lt-ltb, le-ltb}
use Rattle.std.specs.Prelude.{Option, None, Some}
use Rattle.rules.specs.Lists.{list_if, up_to}
use Rattle.rules.specs.Clause.{any_one}
use Rattle.rules.specs.AtMostOne.{bit, agrees, helpers_for, helpers_after, helper_clauses, helpers_clauses, part_clauses}
use Rattle.rules.specs.Variables.{Origin, forbid, one, variable_of, part_origin, part_variable}
use Rattle.rules.proofs.Each.{each_at, each_imp, each_map}
use Rattle.rules.proofs.ListLaws.{length_up_to}
use Rattle.rules.proofs.AtMostOne.{at_most_ten}
use Rattle.rules.proofs.Grows.{whole}
use Rattle.rules.proofs.Places.{stands, unknown_beyond}
use Rattle.tables.specs.declared.Counts.{Counts}
use Rattle.variable_map.specs.Mapping.{in_tables, found}
use Rattle.variable_map.proofs.Laws as variables
use Rattle.variable_map.proofs.Places.{found_known, found_none}
use Rattle.encoder.specs.declared.Run.{Run}
use Rattle.encoder.specs.declared.State.{State}
use Rattle.encoder.specs.Held.{LongEnough}
use Rattle.encoder.specs.Did.{Looked, is_full}
use Rattle.encoder.specs.Does.{regions_of, variables_of}
use Rattle.storing.specs.Adding.{Adds}
use Rattle.tracking.specs.Joining.{AddsAll, GoodSome, first_helpers, helper_variables, HelpersBelow, of_name, tracked_in, tracked_variables, new_helper_clauses, one_clauses, tracked_clauses, joined_clauses, CanAddPart}
use Rattle.tracking.proofs.Steps.{Adding, adding_start, adding_step, adding_end, adds_none, adds_one, adds_then, adds_stop, adds_as, some_good, some_mapped, some_after, some_all, same_then, same_count, clauses_same, Areas, areas_start, areas_then}

-- ---- the helpers

module _ {ys : List ℕ} {i m : ℕ} (b : HelpersBelow ys i m) (j : ℕ) (h : j < length ys) where
  pub helper_below : get_or ys j 0 < m
  helper_below = each_at b.below j 0 h

  helpers_left : drop j ys ≡ get_or ys j 0 ∷ drop (j + 1) ys
  helpers_left = drop-cons ys j 0 h ∙ rw (add-one j)

-- ---- a part's clauses

next_agrees : (x i j y : ℕ) (ys : List ℕ) → part_clauses x i j (y ∷ ys) ≡ agrees x y (bit j i) ∷ part_clauses x i (j + 1) ys
unfolding part_clauses
next_agrees x i j y ys = rw add-one

-- the loop at helper j
pub record Agreeing (r : Run) (v i : ℕ) (ys : List ℕ) (x₀ : State) (cl₀ : List ℕ) (x : State) (cl : List ℕ) (j : ℕ) : Type 0 where
  pub areas : Areas x₀ x cl
  pub good : GoodSome x cl
  pub did : Adding r (part_clauses v i 0 ys) (part_clauses v i j (drop j ys)) x₀ cl₀ x cl

pub agreeing_start : (r : Run) (v i : ℕ) (ys : List ℕ) (x : State) (cl : List ℕ) → LongEnough x.limits (length cl) 16384 → GoodSome x cl → Agreeing r v i ys x cl x cl 0
agreeing_start r v i ys x cl h g = record { areas = areas_start h; good = g; did = adding_start }

module _ {r : Run} {v i : ℕ} {ys : List ℕ} {x₀ x : State} {cl₀ cl : List ℕ} {j : ℕ} (a : Agreeing r v i ys x₀ cl₀ x cl j) (k : HelpersBelow ys i x₀.limits.variables) where
  -- both variables exist
  pub agreeing_below : j < length ys → v < x₀.limits.variables → (v < x.limits.variables) × (get_or ys j 0 < x.limits.variables)
  agreeing_below h e = rw a.areas.limits (e, helper_below k j h)

  pub agreeing_step : {x' : State} {cl' : List ℕ} {q : Bool} → j < length ys
      → q ≡ bit j i → Adds r (agrees v (get_or ys j 0) q) x cl x' cl' → length cl' ≡ length cl → Agreeing r v i ys x₀ cl₀ x' cl' (j + 1)
  agreeing_step h f d s =
      let left : part_clauses v i j (drop j ys) ≡ agrees v (get_or ys j 0) (bit j i) ∷ part_clauses v i (j + 1) (drop (j + 1) ys)
      = rw (helpers_left k j h) (next_agrees v i j (get_or ys j 0) (drop (j + 1) ys)) in
      let d' = rw f at d in
      record { areas = areas_then a.areas d.limits s; good = some_after a.good d; did = adding_step (rw left at a.did) d' }

  pub agreeing_end : length ys ≤ j → AddsAll r (part_clauses v i 0 ys) x₀ cl₀ x cl
  agreeing_end h =
      let none : drop j ys ≡ [] = drop_of_length-le ys {i = j} h in
      let last : part_clauses v i j (drop j ys) ≡ [] = rw none (unfold part_clauses in refl) in
      adding_end (rw last at a.did)

-- ---- a new helper's clauses

one_more : (i : ℕ) → (helpers_for (i + 1) ≡ helpers_for i) ⊎ (helpers_for (i + 1) ≡ helpers_for i + 1)
unfolding helpers_for helpers_after
one_more i = rw add-one (go (ltb (2 ^ helpers_for i) (suc i)))
  where
    go : (b : Bool) → (cond b (suc (helpers_for i)) (helpers_for i) ≡ helpers_for i) ⊎ (cond b (suc (helpers_for i)) (helpers_for i) ≡ helpers_for i + 1)
    go true = inr (sym (add-one (helpers_for i)))
    go false = inl refl

module _ {r : Run} {x : State} {cl : List ℕ} {ys : List ℕ} {i h : ℕ} (b : HelpersBelow ys i x.limits.variables) (e : h ≡ helpers_for i) (xs : List ℕ) where
  pub new_helper_none : length ys ≤ h → AddsAll r (new_helper_clauses i ys xs) x cl x cl
  unfolding new_helper_clauses
  new_helper_none g =
      let none : drop (helpers_for i) ys ≡ [] = drop_of_length-le ys {i = helpers_for i} (omega arith) in
      adds_as adds_none (rw none (unfold helpers_clauses in refl))

  pub new_helper_one : {x' : State} {cl' : List ℕ} {y : ℕ} → h < length ys → y ≡ get_or ys h 0
      → AddsAll r (helper_clauses y h 0 xs) x cl x' cl' → AddsAll r (new_helper_clauses i ys xs) x cl x' cl'
  unfolding new_helper_clauses
  new_helper_one {y = y} g u a =
      let count : length ys ≡ h + 1 = ⊎_elim (λ q. let no : ⊥ = omega (arith, b.count) in absurd no) (λ q. omega (arith, b.count)) (one_more i) in
      let last : drop (h + 1) ys ≡ [] = drop_of_length-le ys {i = h + 1} (omega arith) in
      let left : drop (helpers_for i) ys ≡ y ∷ [] = rw (← e, helpers_left b h g, ← u, last) in
      adds_as a (rw (left, ← e) (unfold helpers_clauses in sym (append-nil (helper_clauses y h 0 xs))))

-- ---- the clause of the one-of-name variable

pub one_in_tables : (name : ℕ) → name < 64 → in_tables (one name) ≡ true
unfolding in_tables
one_in_tables name h = lt-ltb name 64 h

module _ (r : Run) (x : State) (cl : List ℕ) (name v : ℕ) where
  no_one : r.before ≤ variable_of (variables_of x) (one name) → AddsAll r (one_clauses r.before (variables_of x) name v) x cl x cl
  unfolding one_clauses list_if
  no_one h = adds_as adds_none (rw (le-ltb (variable_of (variables_of x) (one name)) r.before h))

  module _ {o : Option ℕ} (e : o ≡ found (variables_of x) (one name)) where
    pub one_none : o ≡ None → r.before ≤ x.used.variables → AddsAll r (one_clauses r.before (variables_of x) name v) x cl x cl
    one_none z h =
        let k = found_none (variables_of x) (one name) o e z in
        no_one (omega (arith, unknown_beyond whole (one name) k, variables.count x.used.variables (regions_of x)))

    module _ {y : ℕ} (z : o ≡ Some y) where
      is_one : y ≡ variable_of (variables_of x) (one name)
      is_one = (found_known (variables_of x) (one name) o e y z).1

      pub one_newer : r.before ≤ y → AddsAll r (one_clauses r.before (variables_of x) name v) x cl x cl
      one_newer h = no_one (omega (arith, is_one))

      pub one_older : {x' : State} {cl' : List ℕ} → y < r.before → Adds r (any_one y v) x cl x' cl' → AddsAll r (one_clauses r.before (variables_of x) name v) x cl x' cl'
      unfolding one_clauses list_if
      one_older h a = adds_as (adds_one (rw is_one at a)) (rw (lt-ltb (variable_of (variables_of x) (one name)) r.before (omega (arith, is_one))))

-- ---- all of them

module _ {r : Run} {x : State} {cl : List ℕ} (name v i : ℕ) (ys vs : List ℕ) {x₁ : State} {cl₁ : List ℕ} (d : AddsAll r (new_helper_clauses i ys vs) x cl x₁ cl₁) where
  pub tracked_first : is_full x₁.used ≡ true → AddsAll r (tracked_clauses r.before (variables_of x) name v i ys vs) x cl x₁ cl₁
  unfolding tracked_clauses
  tracked_first f = adds_stop (one_clauses r.before (variables_of x) name v) (adds_stop (part_clauses v i 0 ys) d f) f

  module _ {x₂ : State} {cl₂ : List ℕ} (e : AddsAll r (part_clauses v i 0 ys) x₁ cl₁ x₂ cl₂) where
    pub tracked_second : is_full x₂.used ≡ true → AddsAll r (tracked_clauses r.before (variables_of x) name v i ys vs) x cl x₂ cl₂
    unfolding tracked_clauses
    tracked_second f = adds_stop (one_clauses r.before (variables_of x) name v) (adds_then d e) f

    pub tracked_older : GoodSome x cl → is_full x₁.used ≡ false → is_full x₂.used ≡ false → r.before ≤ x.used.variables → r.before ≤ x₂.used.variables
    tracked_older g f f' h =
        let q = same_then (clauses_same d (some_good g) f) (clauses_same e (some_good (some_all g d)) f') in
        omega (arith, same_count q)

    pub tracked_all : {x₃ : State} {cl₃ : List ℕ} → GoodSome x cl → is_full x₁.used ≡ false → is_full x₂.used ≡ false
        → AddsAll r (one_clauses r.before (variables_of x₂) name v) x₂ cl₂ x₃ cl₃ → AddsAll r (tracked_clauses r.before (variables_of x) name v i ys vs) x cl x₃ cl₃
    unfolding tracked_clauses
    tracked_all g f f' k =
        let q = same_then (clauses_same d (some_good g) f) (clauses_same e (some_good (some_all g d)) f') in
        adds_then (adds_then d e) (rw q.variables at k)

-- ---- of a part and helpers that have variables

length_variables : (vs : List Origin) (name h : ℕ) → length (helper_variables vs name h) ≡ h
unfolding helper_variables first_helpers
length_variables vs name h = simp (length-map, length_up_to)

pub helpers_count : (vs : List Origin) (name h : ℕ) (ys : List ℕ) → take h ys ≡ helper_variables vs name h → h ≡ length (take h ys)
helpers_count vs name h ys d = sym (ap length d ∙ length_variables vs name h)

pub few_helpers : {k : Counts} {t : List ℕ} {x : State} {name p i h : ℕ} → CanAddPart k t x name p i h → h ≤ 10
few_helpers {i = i} q = rw q.helpers (at_most_ten (i + 1) (omega (arith, q.few)))

module _ {k : Counts} {t : List ℕ} {x : State} {cl : List ℕ} {name p i h : ℕ} (g : GoodSome x cl) (q : CanAddPart k t x name p i h) where
  pub part_below : {v : ℕ} → Looked (variables_of x) (part_origin p) v → v < x.limits.variables
  part_below y = omega (arith, y.below q.known, variables.count x.used.variables (regions_of x), (some_mapped g).room)

  pub helpers_below : (ys : List ℕ) → take h ys ≡ helper_variables (variables_of x) name h → HelpersBelow (take h ys) i x.limits.variables
  helpers_below ys d =
      let vs = variables_of x in
      let count : length (take h ys) ≡ h = sym (helpers_count vs name h ys d) in
      record {
        room = omega (arith, few_helpers q);
        count = count ∙ q.helpers;
        below = rw d (unfold helper_variables first_helpers in each_map (variable_of vs) (map (forbid name) (up_to 0 h)) (each_map (forbid name) (up_to 0 h)
            (each_imp (λ j e. let z = (stands vs (forbid name j) (forbid name j) e).0 in let y = variables.count x.used.variables (regions_of x) in let w = (some_mapped g).room in omega arith) q.helpers_known.known)));
      }

  pub joined_all : {r : Run} {x' : State} {cl' : List ℕ} {v : ℕ} (ys : List ℕ) → Looked (variables_of x) (part_origin p) v
      → take h ys ≡ helper_variables (variables_of x) name h
      → AddsAll r (tracked_clauses r.before (variables_of x) name v i (take h ys) (tracked_variables k t x name)) x cl x' cl'
      → AddsAll r (joined_clauses r.before (variables_of x) name p (of_name k t name (tracked_in x))) x cl x' cl'
  unfolding joined_clauses tracked_variables
  joined_all {v = v} ys y d a =
      let is : v ≡ part_variable (variables_of x) p = y.is q.known in
      let hs : take h ys ≡ helper_variables (variables_of x) name (helpers_for (suc i)) = d ∙ rw (q.helpers, add-one i) in
      adds_as a (rw (is, hs, ← q.count))
