-- A part is named, or each of these parts.
use mathlib.Core.Path.{◌≡◌, refl, sym, ◌∙◌}
use mathlib.Core.Bool.{Bool, true, false, not, true≢false}
use mathlib.Core.List.{List, []}
use Prim.Native.Nat.{ℕ, ◌+◌, ◌<◌, ◌≤◌}
use native.Mathlib.Omega.{arith}
use lib.ListN.{get_or}
use borrow.Author.Tests.{lt-ltb}
use Rattle.std.specs.Prelude.{Option, None, Some, is_some}
use Rattle.rules.specs.Lists.{filter, fold, when, up_to, elem}
use Rattle.rules.specs.Catalogue.{Catalogue, no_part}
use Rattle.rules.specs.Variables.{Origin, known, with_variable, part_origin}
use Rattle.rules.specs.Opening.{open_owner, name_for_tracking, open_ready}
use Rattle.rules.specs.State.{State}
use Rattle.rules.proofs.Each.{Each, each_in}
use Rattle.rules.proofs.Membership.{fold_gives}
use Rattle.rules.proofs.Grows.{with_variable_prefix}
use Rattle.rules.proofs.Places.{keeps_variable, with_variable_known}
use Rattle.rules.proofs.Capped.{add_variable}
use Rattle.tables.specs.declared.Counts.{Counts}
use Rattle.tables.specs.Tables.{tables}
use Rattle.cache.specs.Areas.{catalogue}
use Rattle.cache.proofs.Laws.{parts_held, part_held, part_name_held}
use Rattle.variable_map.specs.Mapping.{in_tables, variables, found}
use Rattle.variable_map.proofs.Places.{found_known, found_none, with_known}
use Rattle.marked.specs.Marked.{owner_of, listed, is_marked}
use Rattle.marked.proofs.Owners.{part_is}
use Rattle.encoder.specs.declared.State as encoder
use Rattle.encoder.specs.Held.{Reading, state_of, KnownUnlessFull}
use Rattle.encoder.specs.Does.{StateDoes, IsGood, regions_of}
use Rattle.encoder.specs.Did.{on_opening, is_full}
use Rattle.encoder.proofs.Widening.{add_variable_widens}
use Rattle.encoder.proofs.Does.{does_same, does_then, does_none, does_idle, good_then, variables_now}
use Rattle.index.specs.Chains.{Skips}
use Rattle.index.proofs.Walking.{walk}
use Rattle.parts.specs.declared.Parts.{Parts}
use Rattle.parts.specs.declared.Naming.{Naming}
use Rattle.parts.specs.declared.Naming.TheVariants.{Variable, Tracked, Candidate}
use Rattle.opening.proofs.Tracking.{tracking_again, tracking_several}
use Rattle.opening.proofs.Opens.{open_owner_again}
use Rattle.parts.specs.Parts.{selected_of, parts_for, naming_of, Settled, Due}
use Rattle.parts.proofs.Lists.{fold_none, fold_more}

pub part_fits : (p : ℕ) → p < 1024 → in_tables (part_origin p) ≡ true
unfolding in_tables
part_fits p h = lt-ltb p 1024 h

-- ---- it is opened if it is ready

module _ (k : Counts) (m u t : List ℕ) (p : ℕ) {x : encoder.State} {b : Bool} (e : b ≡ (get_or (tables k t).parts p no_part).ready) where
  pub ready_opened : {x' : encoder.State} → b ≡ true → p < 1024 → StateDoes (catalogue k m u t) (λ v. on_opening (open_owner (owner_of p))) x x'
      → StateDoes (catalogue k m u t) (λ v. on_opening (open_ready (catalogue k m u t) p)) x x'
  ready_opened i h d = does_same d (λ v s. unfold on_opening open_ready when in rw (part_held k m u t p, ← e, i, part_is p h))

  pub ready_not : b ≡ false → StateDoes (catalogue k m u t) (λ v. on_opening (open_ready (catalogue k m u t) p)) x x
  ready_not i = does_none (λ v s. unfold on_opening open_ready when in rw (part_held k m u t p, ← e, i))

-- ---- one part

module _ {c : Catalogue} {x x' : encoder.State} (p : ℕ) where
  pub naming_variable : StateDoes c (λ v. add_variable (part_origin p)) x x' → (naming : Naming) → naming ≡ Variable → StateDoes c (λ v. naming_of c naming p) x x'
  naming_variable d naming i = does_same d (λ v s. unfold naming_of in rw i)

  pub tracked_named : {x'' : encoder.State} → StateDoes c (λ v. add_variable (part_origin p)) x x' → StateDoes c (λ v. on_opening (name_for_tracking c p)) x' x''
      → StateDoes c (λ v. naming_of c Tracked p) x x''
  tracked_named d h = does_same (does_then d h) (λ v s. unfold naming_of in refl)

  pub candidate_named : {x'' : encoder.State} → StateDoes c (λ v. naming_of c Tracked p) x x' → StateDoes c (λ v. on_opening (open_ready c p)) x' x''
      → StateDoes c (λ v. naming_of c Candidate p) x x''
  candidate_named d h = does_same (does_then d h) (λ v s. unfold naming_of in refl)

  pub naming_as : (naming kind : Naming) → naming ≡ kind → StateDoes c (λ v. naming_of c kind p) x x' → StateDoes c (λ v. naming_of c naming p) x x'
  naming_as naming kind i d = rw i d

module _ {c : Catalogue} {x : encoder.State} (p : ℕ) (which : Parts) (naming : Naming) {b : Bool} (e : b ≡ selected_of c which p) where
  naming_selected : {x' : encoder.State} → b ≡ true → StateDoes c (λ v. naming_of c naming p) x x' → StateDoes c (λ v. when (selected_of c which p) (naming_of c naming p)) x x'
  naming_selected i d = does_same d (λ v s. unfold when in rw (← e, i))

  pub naming_other : b ≡ false → StateDoes c (λ v. when (selected_of c which p) (naming_of c naming p)) x x
  naming_other i = does_none (λ v s. unfold when in rw (← e, i))

-- ---- a part that is settled

pub not_said : {A : Type 0} → false ≡ true → A
not_said e = absurd (true≢false (sym e))

pub variable_some : (vs : List Origin) (p : ℕ) (r : Option ℕ) → r ≡ found vs (part_origin p) → is_some r ≡ true → known vs (part_origin p) ≡ true
variable_some vs p (Some x) h i = (found_known vs (part_origin p) (Some x) h x refl).0
variable_some vs p None h i = not_said i

pub variable_none : (vs : List Origin) (p : ℕ) (r : Option ℕ) → r ≡ found vs (part_origin p) → is_some r ≡ false → known vs (part_origin p) ≡ false
variable_none vs p None h i = found_none vs (part_origin p) None h refl
variable_none vs p (Some x) h i = absurd (true≢false i)

not_false : (f : Bool) → not f ≡ false → f ≡ true
not_false true e = refl
not_false false e = sym e

module _ {c : Catalogue} {x : encoder.State} (p : ℕ) (k : known (variables x.used.variables (regions_of x)) (part_origin p) ≡ true) where
  pub known_idle : StateDoes c (λ v. add_variable (part_origin p)) x x
  known_idle = does_idle (λ v. add_variable_widens (part_origin p)) (λ cl wt g _ v. unfold add_variable state_of in rw (with_known (variables x.used.variables (regions_of x)) (part_origin p) k))

  pub tracked_known : {x' : encoder.State} → StateDoes c (λ v. on_opening (name_for_tracking c p)) x x' → StateDoes c (λ v. naming_of c Tracked p) x x'
  tracked_known d = tracked_named p known_idle d

  settled : StateDoes c (λ v. on_opening (name_for_tracking c p)) x x → StateDoes c (λ v. on_opening (open_ready c p)) x x → Settled c x p
  settled d h = record { is = go }
    where
      go : (naming : Naming) → StateDoes c (λ v. naming_of c naming p) x x
      go Variable = naming_variable p known_idle Variable refl
      go Tracked = tracked_known d
      go Candidate = candidate_named p (tracked_known d) h

module _ (k : Counts) (m u t : List ℕ) (p : ℕ) {x : encoder.State} where
  module _ {b : Bool} (g : IsGood (catalogue k m u t) x) (q : b ≡ is_marked 9 p (regions_of x)) where
    pub tracked_again : b ≡ true → true ≡ true → StateDoes (catalogue k m u t) (λ v. on_opening (name_for_tracking (catalogue k m u t) p)) x x
    tracked_again z e = record { limits = refl; area = refl; did = tracking_again _ _ (catalogue k m u t) p g.good.state.named q z }

    pub tracked_several : {y : ℕ} {d : Bool} → d ≡ elem y (listed x.used.several 5 (regions_of x)) → y ≡ (get_or (tables k t).parts p no_part).name → d ≡ true
        → StateDoes (catalogue k m u t) (λ v. on_opening (name_for_tracking (catalogue k m u t) p)) x x
    tracked_several e i z =
        record { limits = refl; area = refl; did = tracking_several _ _ (catalogue k m u t) p g.good.state.named q e (i ∙ sym (part_name_held k m u t p)) z }

  module _ {known' tracked r : Bool} (g : IsGood (catalogue k m u t) x)
      (i : known' ≡ true → known (variables x.used.variables (regions_of x)) (part_origin p) ≡ true) (h : not known' ≡ false)
      (q : tracked ≡ true → StateDoes (catalogue k m u t) (λ v. on_opening (name_for_tracking (catalogue k m u t) p)) x x) (z : not tracked ≡ false)
      (e : r ≡ (get_or (tables k t).parts p no_part).ready) where
    pub settled_open : {f : Bool} → r ≡ true → p < 1024 → f ≡ is_marked 2 p (regions_of x) → f ≡ true → Settled (catalogue k m u t) x p
    settled_open a j w y =
        settled p (i (not_false known' h)) (q (not_false tracked z))
        (ready_opened k m u t p e a j (record { limits = refl; area = refl; did = open_owner_again _ _ _ p g.good.state.owners w y }))

    pub settled_closed : r ≡ false → true ≡ true → Settled (catalogue k m u t) x p
    settled_closed a y = settled p (i (not_false known' h)) (q (not_false tracked z)) (ready_not k m u t p e a)

module _ {c : Catalogue} {x : encoder.State} (which : Parts) (p : ℕ) where
  pub due_settled : {f : Bool} → (f ≡ true → Settled c x p) → f ≡ true → Due c x which p false
  due_settled h i = record { due = λ d. not_said d; idle = λ d naming. whether (selected_of c which p) ((h i).is naming) }
    where
      whether : {F : State → State} (b : Bool) → StateDoes c (λ v. F) x x → StateDoes c (λ v. when b F) x x
      whether true d = does_same d (λ v s. unfold when in refl)
      whether false d = does_none (λ v s. unfold when in refl)

  pub due_selected : {b : Bool} → b ≡ selected_of c which p → Due c x which p b
  due_selected e = record { due = λ d. sym e ∙ d; idle = λ d naming. naming_other p which naming e d }

-- ---- each of these

-- those below p are named
pub record NamedSoFar (c : Catalogue) (which : Parts) (naming : Naming) (count : ℕ) (x₀ x : encoder.State) (p : ℕ) : Type 0 where
  pub within : p ≤ count
  pub good : IsGood c x
  pub does : StateDoes c (λ v. fold (naming_of c naming) (filter (selected_of c which) (up_to 0 p))) x₀ x

module _ {c : Catalogue} {which : Parts} {naming : Naming} {count : ℕ} {x₀ : encoder.State} where
  pub naming_step : {x x' : encoder.State} {p : ℕ} → NamedSoFar c which naming count x₀ x p → p < count
      → StateDoes c (λ v. when (selected_of c which p) (naming_of c naming p)) x x' → NamedSoFar c which naming count x₀ x' (p + 1)
  naming_step {p = p} y h d =
      record {
        within = omega arith;
        good = good_then d y.good;
        does = does_same (does_then y.does d) (λ v s. fold_more (selected_of c which) (naming_of c naming) p s);
      }

  naming_on : {x : encoder.State} {p q : ℕ} → Skips count (selected_of c which) p q → NamedSoFar c which naming count x₀ x p → NamedSoFar c which naming count x₀ x q
  naming_on {x} z y = walk (NamedSoFar c which naming count x₀ x) (λ i h e y. naming_step y h (naming_other i which naming refl e)) z y

  pub naming_first : {q : ℕ} → IsGood c x₀ → Skips count (selected_of c which) 0 q → NamedSoFar c which naming count x₀ x₀ q
  naming_first g z = naming_on z (record { within = omega arith; good = g; does = does_none (λ v s. fold_none (selected_of c which) (naming_of c naming) s) })

  module _ {x : encoder.State} {p q : ℕ} {b : Bool} (y : NamedSoFar c which naming count x₀ x p) (h : p < count) (z : Skips count (selected_of c which) (p + 1) q)
      (d : Due c x which p b) where
    pub naming_due : {x' : encoder.State} → b ≡ true → StateDoes c (λ v. naming_of c naming p) x x' → NamedSoFar c which naming count x₀ x' q
    naming_due i f = naming_on z (naming_step y h (naming_selected p which naming (sym (d.due i)) refl f))

    pub naming_idle : b ≡ false → NamedSoFar c which naming count x₀ x q
    naming_idle i = naming_on z (naming_step y h (d.idle i naming))

pub naming_end : (k : Counts) (m u t : List ℕ) {which : Parts} {naming : Naming} {x₀ x : encoder.State} {p : ℕ}
    → NamedSoFar (catalogue k m u t) which naming k.parts x₀ x p → k.parts ≤ p
    → StateDoes (catalogue k m u t) (λ v. fold (naming_of (catalogue k m u t) naming) (parts_for (catalogue k m u t) which)) x₀ x
unfolding parts_for
naming_end k m u t {p = p} y h =
    let e : p ≡ k.parts = omega (arith, y.within) in
    rw parts_held (rw e at y.does)

-- ---- for callers: those that were named have their variables

module _ (c : Catalogue) (naming : Naming) where
  naming_variables : (p : ℕ) (s : State) → (naming_of c naming p s).variables ≡ with_variable (part_origin p) s.variables
  naming_variables p s = go naming
    where
      go : (w : Naming) → (naming_of c w p s).variables ≡ with_variable (part_origin p) s.variables
      go Variable = unfold naming_of add_variable in refl
      go Tracked = unfold naming_of add_variable on_opening in refl
      go Candidate = unfold naming_of add_variable on_opening in refl

  naming_knows : (p : ℕ) (s : State) → known (naming_of c naming p s).variables (part_origin p) ≡ true
  naming_knows p s = rw (naming_variables p s) (with_variable_known (part_origin p) s.variables)

  naming_keeps : (q p : ℕ) (s : State) → known s.variables (part_origin q) ≡ true → known (naming_of c naming p s).variables (part_origin q) ≡ true
  naming_keeps q p s h = rw (naming_variables p s) (keeps_variable (with_variable_prefix (part_origin p) s.variables) (part_origin q) h).0

  all_named : (ps : List ℕ) (s : State) → Each (λ p. known (fold (naming_of c naming) ps s).variables (part_origin p) ≡ true) ps
  all_named ps s =
      each_in ps (λ p m. fold_gives (λ (u : State). known u.variables (part_origin p) ≡ true) (naming_of c naming) ps m (naming_knows p) (λ q u. naming_keeps p q u) s)

pub named_known : {c : Catalogue} (naming : Naming) {x x' : encoder.State} {ps : List ℕ}
    → StateDoes c (λ v. fold (naming_of c naming) ps) x x' → IsGood c x → KnownUnlessFull (is_full x'.used) (variables x'.used.variables (regions_of x')) ps
named_known {c} naming {x} {ps = ps} d g =
    record {
      known = λ e. let v : Reading = record { truth = λ p. false; drawn = [] } in
          record { known = rw (variables_now d g e v) (all_named c naming ps (state_of c x.limits v x.used (regions_of x) g.clauses [])) };
    }
