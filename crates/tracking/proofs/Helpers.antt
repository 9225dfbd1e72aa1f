-- Bits, how many helpers there are, and their variables.
use mathlib.Core.Path.{◌≡◌, refl, sym, ◌∙◌}
use mathlib.Core.Bool.{true}
use mathlib.Core.List.{List, [], ◌∷◌, ◌++◌, map-append}
use Prim.Native.Nat.{ℕ, zero, suc, ◌+◌, ◌*◌, ◌/◌, ◌%◌, ◌^◌, ◌<◌, ◌≤◌, zero-le}
use native.Mathlib.Nat.{div-div-eq-div-mul, div-one, pow-suc, mul_comm}
use native.Mathlib.Numerals.{add-one}
use native.Mathlib.Decide.{dec_lt}
use native.Mathlib.Omega.{arith}
use lib.Dec.{eqb}
use lib.ListN.{length, take, set, replicate, length-set}
use lib.Seq.{take-suc-set}
use borrow.Author.Tests.{eqb-true, lt-ltb}
use Rattle.rules.specs.Lists.{snoc, up_to}
use Rattle.rules.specs.AtMostOne.{bit, helpers_for}
use Rattle.rules.specs.Compute.{computing}
use Rattle.rules.specs.Variables.{Origin, forbid, known, variable_of, part_origin}
use Rattle.rules.proofs.Each.{each_out}
use Rattle.rules.proofs.Member.{all_out, up_to_in}
use Rattle.rules.proofs.AtMostOne.{helpers_least}
use Rattle.rules.proofs.Capped.{add_variable}
use Rattle.state.proofs.Rows.{rows_more}
use Rattle.variable_map.specs.Mapping.{in_tables}
use Rattle.encoder.specs.declared.State.{State}
use Rattle.encoder.specs.Did.{Looked}
use Rattle.encoder.specs.Does.{PlainDoes}
use Rattle.tracking.specs.Joining.{NamesAll, GoodAny, first_helpers, join_origins, helper_variables, HelpersKnown}
use Rattle.tracking.proofs.Steps.{any_named, names_none, names_more, names_first}

-- ---- powers of two

pub power_is : (j : ℕ) → j < 11 → 1 * 2 ^ j % 65536 ≡ 2 ^ j
power_is j h =
    eqb-true (1 * 2 ^ j % 65536) (2 ^ j)
    (all_out (λ n. eqb (1 * 2 ^ n % 65536) (2 ^ n)) (up_to 0 11) (unfold computing in refl) j (up_to_in 0 11 j (omega arith) (omega arith)))

half_power : (j i : ℕ) → i / 2 / 2 ^ j ≡ i / 2 ^ suc j
half_power j i = div-div-eq-div-mul i 2 (2 ^ j) ∙ rw (pow-suc 2 j, mul_comm (2 ^ j) 2)

pub bit_is : (j i : ℕ) → eqb (i / 2 ^ j % 2) 1 ≡ bit j i
unfolding bit
bit_is zero i = rw div-one
bit_is (suc j) i = rw (← half_power j i) (bit_is j (i / 2))

-- ---- how many helpers

-- the loop at h: fewer are too few
pub record Fewer (k h : ℕ) : Type 0 where
  pub low : h ≤ 10
  pub more : (g : ℕ) → g < h → 2 ^ g < k

least_is : {k h : ℕ} → Fewer k h → k ≤ 2 ^ h → h ≡ helpers_for k
least_is {k} {h} f c =
    let m = helpers_least k in
    elim (dec_lt (helpers_for k) h) [
      | yes l ↦ let too = f.more (helpers_for k) l in let no : ⊥ = omega (arith, m.covers) in absurd no
      | no l ↦ omega (arith, m.least h c)
    ]

module _ {k h : ℕ} (f : Fewer k h) where
  pub fewer_found : {x : ℕ} → x ≡ 2 ^ h → k ≤ x → h ≡ helpers_for k
  fewer_found e c = least_is f (rw e at c)

  pub fewer_end : 10 ≤ h → k ≤ 1024 → 10 ≡ helpers_for k
  fewer_end l c =
      let e : h ≡ 10 = omega (arith, f.low) in
      let covers : k ≤ 2 ^ h = rw e c in
      sym e ∙ least_is f covers

-- ---- helpers get variables

pub helper_in_tables : (name j h : ℕ) → name < 64 → j < h → h ≤ 10 → in_tables (forbid name j) ≡ true
unfolding in_tables
helper_in_tables name j h f g k = rw (lt-ltb name 64 f, lt-ltb j 10 (omega arith))

helpers_more : (name j : ℕ) → first_helpers name (j + 1) ≡ snoc (first_helpers name j) (forbid name j)
unfolding first_helpers
helpers_more name j = rows_more (forbid name) j

-- the loop at helper j
pub record Naming (name h : ℕ) (x₀ x : State) (j : ℕ) : Type 0 where
  pub good : GoodAny x
  pub within : j ≤ h
  pub did : NamesAll (first_helpers name j) x₀ x

pub naming_start : (name h : ℕ) (x : State) → GoodAny x → Naming name h x x 0
naming_start name h x g = record { good = g; within = zero-le; did = unfold first_helpers up_to in names_none }

module _ {name h : ℕ} {x₀ x : State} {j : ℕ} (n : Naming name h x₀ x j) where
  pub naming_step : (x' : State) → j < h → PlainDoes (λ c v. add_variable (forbid name j)) x x' → Naming name h x₀ x' (j + 1)
  naming_step x' k d =
      record {
        good = any_named (forbid name j) n.good d;
        within = omega arith;
        did = rw (helpers_more name j) (names_more (forbid name j) n.did d);
      }

  pub naming_end : h ≤ j → NamesAll (first_helpers name h) x₀ x
  naming_end k =
      let e : h ≡ j = omega (arith, n.within) in
      rw e n.did

-- ---- their variables

helper_known : (vs : List Origin) (name h j : ℕ) → HelpersKnown vs name h → j < h → known vs (forbid name j) ≡ true
helper_known vs name h j k l = each_out k.known (up_to_in 0 h j zero-le (omega arith))

variables_more : (vs : List Origin) (name j : ℕ)
    → helper_variables vs name (j + 1) ≡ helper_variables vs name j ++ (variable_of vs (forbid name j) ∷ [])
unfolding helper_variables snoc
variables_more vs name j = rw (helpers_more name j) (map-append (variable_of vs) (first_helpers name j) (forbid name j ∷ []))

-- the loop at helper j
pub record Gathering (vs : List Origin) (name h : ℕ) (ys : List ℕ) (j : ℕ) : Type 0 where
  pub within : j ≤ h
  pub room : length ys ≡ 10
  pub is : take j ys ≡ helper_variables vs name j

pub gathering_start : (vs : List Origin) (name h : ℕ) → Gathering vs name h (replicate 10 0) 0
unfolding up_to helper_variables first_helpers
gathering_start vs name h = record { within = zero-le; room = refl; is = refl }

module _ {vs : List Origin} {name h : ℕ} {ys : List ℕ} {j : ℕ} (t : Gathering vs name h ys j) where
  pub gathering_step : (y : ℕ) → j < h → h ≤ 10 → HelpersKnown vs name h → Looked vs (forbid name j) y → Gathering vs name h (set ys j y) (j + 1)
  gathering_step y k u m w =
      let q : y ≡ variable_of vs (forbid name j) = w.is (helper_known vs name h j m k) in
      record {
        within = omega arith;
        room = length-set ys j y ∙ t.room;
        is = rw (variables_more vs name j, ← q, ← t.is, add-one j) (take-suc-set ys j y (omega (arith, t.room)));
      }

-- ---- a part and its helpers

pub joins_named : {x x' x'' : State} (name p h : ℕ)
    → PlainDoes (λ c v. add_variable (part_origin p)) x x' → NamesAll (first_helpers name h) x' x'' → NamesAll (join_origins name p h) x x''
unfolding join_origins
joins_named name p h a b = names_first (part_origin p) a b
