-- A part joins: it and its helpers get variables, its clauses are added, and it is tracked.
use mathlib.Core.Path.{◌≡◌, refl, sym, ◌∙◌, ap}
use mathlib.Core.Bool.{Bool, true, false, not, ◌&&◌}
use mathlib.Core.List.Memᴰ
use mathlib.Core.List.{List, []}
use Prim.Native.Nat.{ℕ, suc, ◌+◌, ◌<◌, ◌≤◌}
use native.Mathlib.Numerals.{add-one}
use native.Mathlib.Omega.{arith}
use lib.Dec.{eqb}
use lib.ListN.{length, get_or, length-map}
use borrow.Author.Tests.{eq-eqb, ne_eqb}
use Rattle.rules.specs.Lists.{elem, fold, when, up_to}
use Rattle.rules.specs.Clause.{Clause}
use Rattle.rules.specs.AtMostOne.{helpers_for, join_clauses}
use Rattle.rules.specs.Catalogue.{no_part, Catalogue, name_of}
use Rattle.rules.specs.Variables.{Origin, forbid, with_variables, part_origin}
use Rattle.rules.specs.Opening.{Opening, tracked_of}
use Rattle.rules.specs.Encoding.{Event, joins, helpers_of, origins, clauses}
use Rattle.rules.specs.State.{State, set_variables, Run, emit}
use Rattle.rules.proofs.Bools.{and_false}
use Rattle.rules.proofs.Each.{each_imp, each_in}
use Rattle.rules.proofs.Membership.{map_in}
use Rattle.rules.proofs.ListLaws.{length_filters}
use Rattle.rules.proofs.AtMostOne.{at_most_ten}
use Rattle.rules.proofs.Grows.{emit_grows, with_variables_prefix, prefix_length}
use Rattle.rules.proofs.Places.{keeps_variable, with_variables_known}
use Rattle.rules.proofs.Line.{emit_opening}
use Rattle.rules.proofs.Capped.{add_variable, add_variables_is}
use Rattle.rules.proofs.ClauseByClause.{emit_one_by_one}
use Rattle.tables.specs.declared.Counts.{Counts}
use Rattle.tables.specs.Tables.{tables}
use Rattle.cache.specs.Areas.{catalogue}
use Rattle.state.proofs.Sizes.{length_fixed}
use Rattle.variable_map.specs.Mapping.{AllKnown}
use Rattle.variable_map.proofs.Laws as variables
use Rattle.marked.specs.Marked.{is_marked, Marked}
use Rattle.marked.proofs.Laws.{length_listed, free_room, listed_after}
use Rattle.encoder.specs.declared.Run as code
use Rattle.encoder.specs.declared.State as encoder
use Rattle.encoder.specs.Held.{run_of, Reading, opening_of, state_of}
use Rattle.encoder.specs.Did.{Widens, on_opening, is_full}
use Rattle.encoder.specs.Does.{StateDoes, regions_of, variables_of}
use Rattle.encoder.proofs.Does.{at_catalogue, state_does_clauses}
use Rattle.encoder.proofs.Did.{widens_then}
use Rattle.encoder.proofs.Widening.{widens_opening, widens_when}
use Rattle.tracking.specs.Joining.{Makes, AddsAll, NamesAll, GoodOf, GoodSome, GoodAny, first_helpers, join_origins, helper_variables, part_name, of_name, tracked_in, named_in, NamesLow, new_helper_clauses, one_clauses, tracked_clauses, joined_clauses, tracking, Tracks, MakesOf, track_with, join_step, join_if, CanJoin, CanAddPart}
use Rattle.tracking.proofs.Steps.{blind, state_now, of_some, some_good, some_tracked, some_all, makes_as, makes_stop, makes_then, makes_idle, clauses_widen, clauses_same}
use Rattle.binary_encoding.proofs.Track.{name_held, of_name_held, track_free, tracking_lengthens}

-- ---- after origins have got variables

pub record Named (os : List Origin) (x x' : encoder.State) : Type 0 where
  pub variables : variables_of x' ≡ with_variables os (variables_of x)
  pub tracked : tracked_in x' ≡ tracked_in x
  pub named : named_in x' ≡ named_in x

pub names_after : {os : List Origin} {x x' : encoder.State} → GoodAny x → NamesAll os x x' → is_full x.used ≡ false → is_full x'.used ≡ false → Named os x x'
unfolding state_of opening_of
names_after {os} {x} {x'} (GoodAny.any c cl g) a e e' =
    let d : state_now c x' cl ≡ set_variables (with_variables os (state_now c x cl).variables) (state_now c x cl) = rw a.does.limits (((a.does.did c).is cl []).done g e e' blind ∙ add_variables_is os _) in
    let opening = ap (λ (s : State). s.opening) d in
    record {
      variables = ap (λ (s : State). s.variables) d;
      tracked = ap (λ (o : Opening). o.tracked) opening;
      named = ap (λ (o : Opening). o.named) opening;
    }

-- ---- the rules' step, by its lists of origins and clauses

joined_is : (c : Catalogue) (old vs : List Origin) (before p : ℕ) (ps : List ℕ) → joined_clauses before vs (name_of c p) p ps ≡ clauses c old vs before (joins p ps)
unfolding joined_clauses tracked_clauses new_helper_clauses one_clauses helper_variables first_helpers clauses helpers_of join_clauses
joined_is c old vs before p ps = rw length-map

origins_are : (c : Catalogue) (p : ℕ) (ps : List ℕ) → join_origins (name_of c p) p (helpers_for (suc (length ps))) ≡ origins c (joins p ps)
unfolding join_origins first_helpers origins helpers_of
origins_are c p ps = refl

step_is : (r : Run) (p : ℕ) (c : Catalogue) (u : State)
    → track_with r (joined_clauses r.before (with_variables (join_origins (name_of c p) p (helpers_for (suc (length (tracked_of c (name_of c p) u.opening.tracked))))) u.variables) (name_of c p) p
    (tracked_of c (name_of c p) u.opening.tracked)) p c
    (fold add_variable (join_origins (name_of c p) p (helpers_for (suc (length (tracked_of c (name_of c p) u.opening.tracked))))) u)
    ≡ join_step r p c u
unfolding track_with join_step
step_is r p c u =
    let ps = tracked_of c (name_of c p) u.opening.tracked in
    rw (
      origins_are c p ps,
      joined_is c u.variables (with_variables (origins c (joins p ps)) u.variables) r.before p ps,
      add_variables_is (origins c (joins p ps)) u,
      emit_one_by_one c r (joins p ps) u,
    )

-- ---- nothing becomes less

pub emit_widens : (c : Catalogue) (r : Run) (e : Event) (s : State) → Widens s (emit c r e s)
emit_widens c r e s =
    let o = emit_opening c r e s in
    record { grows = emit_grows c r e s; line = rw o (omega arith); several = rw o (omega arith) }

pub tracking_widens : (p : ℕ) (s : State) → Widens s (on_opening (tracking p) s)
tracking_widens p s = widens_opening (tracking p) (tracking_lengthens p) s

pub join_step_widens : (r : Run) (p : ℕ) (c : Catalogue) (s : State) → Widens s (join_step r p c s)
unfolding join_step
join_step_widens r p c s = widens_then (emit_widens c r _ s) (tracking_widens p _)

pub track_with_widens : (r : Run) (ks : List Clause) (p : ℕ) (c : Catalogue) (s : State) → Widens s (track_with r ks p c s)
unfolding track_with
track_with_widens r ks p c s = widens_then (clauses_widen r ks s) (tracking_widens p _)

pub join_if_widens : (r : Run) (name p : ℕ) (c : Catalogue) (s : State) → Widens s (join_if r name p c s)
unfolding join_if
join_if_widens r name p c s = widens_when _ (join_step r p c) (join_step_widens r p c) s

-- ---- the part's number and its helpers

module _ {k : Counts} {t : List ℕ} {x : encoder.State} {cl : List ℕ} {name i : ℕ} (g : GoodOf k t x cl) where
  pub count_is : name < 64 → i ≡ get_or (regions_of x 12) name 0 → i ≡ length (of_name k t name (tracked_in x))
  count_is h e = e ∙ of_counted g
    where
      of_counted : GoodOf k t x cl → get_or (regions_of x 12) name 0 ≡ length (of_name k t name (tracked_in x))
      of_counted (GoodOf.good m u q) = q.state.counted name h ∙ ap length (sym (of_name_held k m u t name (tracked_in x)))

  pub count_few : (p : ℕ) → name < 64 → p < 1024 → elem p (tracked_in x) ≡ false → i ≡ get_or (regions_of x 12) name 0 → i < 1024
  unfolding of_name
  count_few p h q d e =
      let w = some_tracked (of_some g) in
      let room = free_room (track_free x.limits x.used x.area.now p x.fits w q d) in
      omega (
        arith,
        count_is h e,
        length_filters (λ y. eqb (part_name k t y) name) (tracked_in x),
        length_listed w,
        length_fixed x.limits x.area.now 10 (omega arith) x.fits,
      )

pub helpers_few : (i h : ℕ) → h ≡ helpers_for (i + 1) → i < 1024 → h ≤ 10
helpers_few i h e f = rw e (at_most_ten (i + 1) (omega arith))

-- ---- when it and its helpers have variables

pub state_makes : {c : Catalogue} (F : State → State) {x x' : encoder.State} {cl : List ℕ} → StateDoes c (λ v. F) x x' → Makes c F x cl x' cl
state_makes F d = record { is = state_does_clauses d }

known_first : (vs : List Origin) (os : List Origin) (ps : List ℕ) → AllKnown vs ps → AllKnown (with_variables os vs) ps
known_first vs os ps k = record { known = each_imp (λ q e. (keeps_variable (with_variables_prefix os vs) (part_origin q) e).0) k.known }

module _ {x x' : encoder.State} {r : code.Run} (name p h : ℕ) (g : GoodAny x) (c : CanJoin x r) (d : NamesAll (join_origins name p h) x x') (f : is_full x'.used ≡ false) where
  after : Named (join_origins name p h) x x'
  after = names_after g d c.going f

  pub named_can : CanJoin x' r
  named_can =
      let y = after in
      let longer = prefix_length (with_variables_prefix (join_origins name p h) (variables_of x)) in
      record {
        going = f;
        number = c.number;
        older = omega (arith, c.older, variables.count x.used.variables (regions_of x), variables.count x'.used.variables (regions_of x'), ap length y.variables);
        known = rw (y.variables, y.tracked) (known_first (variables_of x) (join_origins name p h) (tracked_in x) c.known);
      }

  pub named_can_add : (k : Counts) (t : List ℕ) (i : ℕ) → p < 1024 → part_name k t p ≡ name → name < 64 → i ≡ length (of_name k t name (tracked_in x)) → i < 1024
      → h ≡ helpers_for (i + 1) → CanAddPart k t x' name p i h
  named_can_add k t i a q b e w z =
      let y = after in
      record {
        low = a;
        named = q;
        name_low = b;
        count = rw y.tracked e;
        few = w;
        helpers = z;
        known = rw y.variables (with_variables_known (join_origins name p h) (variables_of x) (part_origin p) (unfold join_origins in Memᴰ.head refl));
        helpers_known = record {
          known = each_in (up_to 0 h) (λ j o. rw y.variables (with_variables_known (join_origins name p h) (variables_of x) (forbid name j)
              (unfold join_origins first_helpers in Memᴰ.tail (map_in (forbid name) o))));
        };
      }

  pub named_new : elem p (tracked_in x) ≡ false → elem p (tracked_in x') ≡ false
  named_new e = rw after.tracked e

-- ---- it joins

module _ (k : Counts) (t : List ℕ) (x a : encoder.State) (cl : List ℕ) (r : code.Run) (name p i h : ℕ)
    (q : part_name k t p ≡ name) (e : i ≡ length (of_name k t name (tracked_in x))) (z : h ≡ helpers_for (i + 1))
    (d : NamesAll (join_origins name p h) x a) where
  -- the clauses, by the variables before
  abbrev those : List Clause
  those = joined_clauses r.before (with_variables (join_origins name p h) (variables_of x)) name p (of_name k t name (tracked_in x))

  module _ (m u : List ℕ) where
    lists : (v : Reading) (wt : List ℕ)
        → track_with (run_of r) those p (catalogue k m u t) (fold add_variable (join_origins name p h) (state_of (catalogue k m u t) x.limits v x.used (regions_of x) cl wt))
        ≡ join_step (run_of r) p (catalogue k m u t) (state_of (catalogue k m u t) x.limits v x.used (regions_of x) cl wt)
    lists v wt =
        let c = catalogue k m u t in
        let s = state_of c x.limits v x.used (regions_of x) cl wt in
        let ps = tracked_in x in
        let is_name : name ≡ name_of c p = sym q ∙ sym (name_held k m u t p) in
        let same_parts : of_name k t name ps ≡ tracked_of c (name_of c p) ps = of_name_held k m u t name ps ∙ ap (λ (y : ℕ). tracked_of c y ps) is_name in
        let same_count : h ≡ helpers_for (suc (length (tracked_of c (name_of c p) ps))) = z ∙ rw (add-one i, e, same_parts) in
        rw (same_parts, same_count, is_name) (unfold run_of state_of opening_of in step_is (run_of r) p c s)

    stopped : is_full a.used ≡ true → Makes (catalogue k m u t) (join_step (run_of r) p (catalogue k m u t)) x cl a cl
    stopped f =
        let c = catalogue k m u t in
        makes_as (makes_stop (state_makes (fold add_variable (join_origins name p h)) (at_catalogue d.does)) {G = track_with (run_of r) those p c} f (track_with_widens (run_of r) those p c))
        (join_step_widens (run_of r) p c) (λ g y v wt. lists v wt)

    done : {b : encoder.State} {cl₂ : List ℕ} → Makes (catalogue k m u t) (track_with (run_of r) those p (catalogue k m u t)) a cl b cl₂
        → Makes (catalogue k m u t) (join_step (run_of r) p (catalogue k m u t)) x cl b cl₂
    done y =
        makes_as (makes_then (state_makes (fold add_variable (join_origins name p h)) (at_catalogue d.does)) y)
        (join_step_widens (run_of r) p (catalogue k m u t)) (λ g _ v wt. lists v wt)

  pub join_stop : is_full a.used ≡ true → MakesOf k t (join_step (run_of r) p) x cl a cl
  join_stop f = record { is = λ m u. stopped m u f }

  pub join_done : {b : encoder.State} {cl₂ : List ℕ} → GoodAny x → is_full x.used ≡ false → is_full a.used ≡ false
      → MakesOf k t (track_with (run_of r) (joined_clauses r.before (variables_of a) name p (of_name k t name (tracked_in a))) p) a cl b cl₂
      → MakesOf k t (join_step (run_of r) p) x cl b cl₂
  join_done g f f' y =
      let n = names_after g d f f' in
      let y' = rw (n.variables, n.tracked) at y in
      record { is = λ m u. done m u (y'.is m u) }

-- ---- the clauses, and the tracking

module _ {k : Counts} {t : List ℕ} {x a : encoder.State} {cl cl₁ : List ℕ} {r : code.Run} {ks : List Clause} (p : ℕ) (d : AddsAll r ks x cl a cl₁) where
  pub track_stop : is_full a.used ≡ true → MakesOf k t (track_with (run_of r) ks p) x cl a cl₁
  unfolding track_with
  track_stop f = record { is = λ m u. makes_stop (d.is (catalogue k m u t)) {G = on_opening (tracking p)} f (tracking_widens p) }

  pub track_done : {b : encoder.State} → Tracks k t p a b → MakesOf k t (track_with (run_of r) ks p) x cl b cl₁
  unfolding track_with
  track_done y = record { is = λ m u. makes_then (d.is (catalogue k m u t)) (state_makes (on_opening (tracking p)) (y.is m u)) }

module _ {x a : encoder.State} {cl cl₁ : List ℕ} {r : code.Run} {ks : List Clause} (g : GoodSome x cl) (d : AddsAll r ks x cl a cl₁) where
  pub track_marked : Marked 10 11 a.used.tracked (regions_of a)
  track_marked = some_tracked (some_all g d)

  module _ (f : is_full a.used ≡ false) where
    pub track_count : (k : Counts) (t : List ℕ) (i name : ℕ) → i ≡ length (of_name k t name (tracked_in x)) → i ≡ length (of_name k t name (tracked_in a))
    track_count k t i name e = rw (clauses_same d (some_good g) f).tracked e

    pub track_new : (p : ℕ) → elem p (tracked_in x) ≡ false → elem p (tracked_in a) ≡ false
    track_new p e = rw (clauses_same d (some_good g) f).tracked e

-- ---- if it is of this name and not tracked

module _ (k : Counts) (t : List ℕ) (r : code.Run) (x : encoder.State) (cl : List ℕ) (name p : ℕ) where
  idle : (eqb (part_name k t p) name && not (elem p (tracked_in x))) ≡ false → MakesOf k t (join_if (run_of r) name p) x cl x cl
  idle e = record { is = λ m u. makes_idle (join_if_widens (run_of r) name p (catalogue k m u t)) (λ g f v wt. same m u v wt) }
    where
      same : (m u : List ℕ) (v : Reading) (wt : List ℕ)
          → join_if (run_of r) name p (catalogue k m u t) (state_of (catalogue k m u t) x.limits v x.used (regions_of x) cl wt)
          ≡ state_of (catalogue k m u t) x.limits v x.used (regions_of x) cl wt
      same m u v wt = unfold join_if state_of opening_of when in rw (name_held k m u t p, e)

  module _ {a : ℕ} (d : a ≡ (get_or (tables k t).parts p no_part).name) where
    is_name : part_name k t p ≡ a
    unfolding part_name
    is_name = sym d

    pub join_other : (a ≡ name → ⊥) → MakesOf k t (join_if (run_of r) name p) x cl x cl
    join_other q = idle (rw (is_name, ne_eqb a name q))

    module _ {b : Bool} (w : Marked 10 11 x.used.tracked (regions_of x)) (e : b ≡ is_marked 11 p (regions_of x)) where
      pub join_again : b ≡ true → MakesOf k t (join_if (run_of r) name p) x cl x cl
      join_again f = idle (rw (← listed_after p b w e, f) (and_false (eqb (part_name k t p) name)))

      pub join_new_law : {x' : encoder.State} {cl' : List ℕ} → a ≡ name → b ≡ false → MakesOf k t (join_step (run_of r) p) x cl x' cl' → MakesOf k t (join_if (run_of r) name p) x cl x' cl'
      join_new_law q f y = record { is = λ m u. makes_as (y.is m u) (join_if_widens (run_of r) name p (catalogue k m u t)) (λ g z v wt. same m u v wt) }
        where
          passes : (eqb (part_name k t p) name && not (elem p (tracked_in x))) ≡ true
          passes = rw (is_name, eq-eqb a name q, ← listed_after p b w e, f)

          same : (m u : List ℕ) (v : Reading) (wt : List ℕ) → join_step (run_of r) p (catalogue k m u t) (state_of (catalogue k m u t) x.limits v x.used (regions_of x) cl wt)
              ≡ join_if (run_of r) name p (catalogue k m u t) (state_of (catalogue k m u t) x.limits v x.used (regions_of x) cl wt)
          same m u v wt = unfold join_if state_of opening_of when in rw (name_held k m u t p, passes)

pub name_is : (k : Counts) (t : List ℕ) (p a name : ℕ) → a ≡ (get_or (tables k t).parts p no_part).name → a ≡ name → part_name k t p ≡ name
unfolding part_name
name_is k t p a name d q = sym d ∙ q

pub name_below : (k : Counts) (t : List ℕ) (p a name : ℕ) → NamesLow k t → a ≡ (get_or (tables k t).parts p no_part).name → a ≡ name → name < 64
name_below k t p a name w d q = let low = w.low p in let is = name_is k t p a name d q in omega arith

pub not_tracked : (x : encoder.State) (p : ℕ) (b : Bool) → Marked 10 11 x.used.tracked (regions_of x) → b ≡ is_marked 11 p (regions_of x) → b ≡ false → elem p (tracked_in x) ≡ false
not_tracked x p b w e f = sym (listed_after p b w e) ∙ f
