-- The added owners are opened one after another.
use mathlib.Core.Path.{◌≡◌, refl, sym, ◌∙◌, ap}
use mathlib.Core.Bool.{true, false, true≢false}
use mathlib.Core.List.{List, [], ◌∷◌, map}
use Prim.Native.Nat.{ℕ, ◌+◌, ◌<◌, ◌≤◌}
use native.Mathlib.Numerals.{add-one}
use native.Mathlib.Omega.{arith}
use lib.ListN.{length, get_or, take, drop, length-map, take-append-drop}
use lib.Seq.{take-suc, take_all}
use Rattle.rules.specs.Lists.{fold}
use Rattle.rules.specs.Catalogue.{Owner, root, Catalogue}
use Rattle.rules.specs.Opening.{Opening, queue, open_owner}
use Rattle.rules.specs.State.{State}
use Rattle.rules.proofs.Bools.{by_cases}
use Rattle.rules.proofs.ListLaws.{unless_keeps, fold_every}
use Rattle.rules.proofs.MemberLaws.{map_place}
use Rattle.rules.proofs.DistinctEnough.{fold_append}
use Rattle.state.specs.declared.Limits.{Limits}
use Rattle.state.specs.Layout.{held}
use Rattle.marked.specs.Marked.{listed, owner_of, Marked}
use Rattle.marked.proofs.Laws.{length_listed, at_low}
use Rattle.encoder.specs.declared.Counters.{Counters}
use Rattle.encoder.specs.declared.State as encoder
use Rattle.encoder.specs.Held.{Reading, opening_of, state_of}
use Rattle.encoder.specs.Did.{Widens, on_opening, is_full}
use Rattle.encoder.specs.Does.{PlainDoes, IsGood, regions_of}
use Rattle.encoder.proofs.Did.{did_then, did_stop, did_as}
use Rattle.encoder.proofs.Widening.{Lengthens, lengthens_fold, open_owner_lengthens, widens_opening}
use Rattle.encoder.proofs.Steps.{state_none}
use Rattle.encoder.proofs.Does.{at_catalogue, good_then}
use Rattle.beginning.specs.Beginning.{GoodSome, open_added}

-- ---- openings

-- the first i of the added owners are opened
unfoldable pub open_first : ℕ → Opening → Opening
open_first i o = fold open_owner (take i o.added) o

first_lengthens : (i : ℕ) (o : Opening) → Lengthens o (open_first i o)
unfolding open_first
first_lengthens i o = lengthens_fold open_owner open_owner_lengthens (take i o.added) o

first_widens : (i : ℕ) (s : State) → Widens s (on_opening (open_first i) s)
first_widens i s = widens_opening (open_first i) (first_lengthens i) s

added_lengthens : (o : Opening) → Lengthens o (open_added o)
unfolding open_added
added_lengthens o = lengthens_fold open_owner open_owner_lengthens o.added o

pub added_widens : (s : State) → Widens s (on_opening open_added s)
added_widens s = widens_opening open_added added_lengthens s

open_owner_added : (w : Owner) (o : Opening) → (open_owner w o).added ≡ o.added
unfolding open_owner queue
open_owner_added w o = unless_keeps (λ u. u.added ≡ o.added) _ _ o refl (λ _. refl)

-- they stay added
pub first_added : (i : ℕ) (o : Opening) → (open_first i o).added ≡ o.added
unfolding open_first
first_added i o = fold_every (λ u. u.added ≡ o.added) open_owner (λ w u e. open_owner_added w u ∙ e) (take i o.added) o refl

first_none : (o : Opening) → open_first 0 o ≡ o
unfolding open_first fold
first_none o = refl

first_more : (i : ℕ) (o : Opening) → i < length o.added → open_owner (get_or o.added i root) (open_first i o) ≡ open_first (i + 1) o
unfolding open_first fold
first_more i o h =
    rw (add-one i, take-suc o.added i root h) (sym (fold_append open_owner (take i o.added) (get_or o.added i root ∷ []) o))

first_all : (i : ℕ) (o : Opening) → length o.added ≤ i → open_first i o ≡ open_added o
unfolding open_first open_added
first_all i o h = rw (take_all i o.added h)

-- the others
unfoldable open_rest : ℕ → Opening → Opening
open_rest i o = fold open_owner (drop i o.added) o

rest_lengthens : (i : ℕ) (o : Opening) → Lengthens o (open_rest i o)
unfolding open_rest
rest_lengthens i o = lengthens_fold open_owner open_owner_lengthens (drop i o.added) o

rest_widens : (i : ℕ) (s : State) → Widens s (on_opening (open_rest i) s)
rest_widens i s = widens_opening (open_rest i) (rest_lengthens i) s

rest_all : (i : ℕ) (o : Opening) → open_rest i (open_first i o) ≡ open_added o
unfolding open_rest open_added
rest_all i o =
    ap (λ ws. fold open_owner (drop i ws) (open_first i o)) (first_added i o)
    ∙ (unfold open_first in sym (fold_append open_owner (take i o.added) (drop i o.added) o) ∙ ap (λ ws. fold open_owner ws o) (take-append-drop i o.added))

-- ---- in the areas

-- the added owners of the areas
unfoldable added_in : ℕ → (ℕ → List ℕ) → List Owner
added_in n st = map owner_of (listed n 6 st)

added_held : (c : Catalogue) (l : Limits) (v : Reading) (n : Counters) (st : ℕ → List ℕ) (cl wt : List ℕ)
    → (state_of c l v n st cl wt).opening.added ≡ added_in n.added st
unfolding state_of opening_of added_in
added_held c l v n st cl wt = refl

module _ {n : ℕ} {st : ℕ → List ℕ} (k : Marked 6 7 n st) where
  added_count : length (added_in n st) ≡ n
  unfolding added_in
  added_count = length-map (listed n 6 st) owner_of ∙ length_listed k

  added_at : (i : ℕ) → i < n → get_or (added_in n st) i root ≡ owner_of (get_or (listed n 6 st) i 0)
  unfolding added_in
  added_at i h = map_place owner_of (listed n 6 st) 0 root i (rw (length_listed k) h)

-- ---- the loop at place i: the first i are opened

pub record Opened (count : ℕ) (x₀ x : encoder.State) (i : ℕ) : Type 0 where
  pub counted : count ≡ x₀.used.added
  pub start : GoodSome x₀
  pub did : PlainDoes (λ c v. on_opening (open_first i)) x₀ x

pub opened_start : (x : encoder.State) → GoodSome x → Opened x.used.added x x 0
opened_start x g =
    record { counted = refl; start = g; did = record { limits = refl; area = refl; did = λ c. state_none (λ v s. unfold on_opening in rw (first_none s.opening)) } }

-- some reading: what is added does not depend on it
abbrev some : Reading
some = record { truth = λ p. true; drawn = [] }

module _ {count : ℕ} {x₀ x : encoder.State} {i : ℕ} (y : Opened count x₀ x i) where
  abbrev c₀ : Catalogue
  c₀ = y.start.catalogue

  good_now : IsGood c₀ x
  good_now = good_then (at_catalogue y.did) y.start.good

  pub opened_owners : Marked 1 2 x.used.owners (regions_of x)
  opened_owners = good_now.good.state.owners

  marked_start : Marked 6 7 x₀.used.added (regions_of x₀)
  marked_start = y.start.good.good.state.added

  marked_now : Marked 6 7 x.used.added (regions_of x)
  marked_now = good_now.good.state.added

  module _ (f : is_full x.used ≡ false) where
    -- so it was not full before
    not_before : is_full x₀.used ≡ false
    not_before = by_cases (is_full x₀.used) (λ e. absurd (true≢false (sym (((y.did.did c₀).is [] []).stays e) ∙ f))) (λ e. e)

    same_added : added_in x.used.added (regions_of x) ≡ added_in x₀.used.added (regions_of x₀)
    same_added =
        let cl = y.start.good.clauses in
        let st : ℕ → List ℕ = held x₀.limits x.area.now in
        let e = ((y.did.did c₀).is cl []).done y.start.good.good not_before f some in
        rw y.did.limits
        (sym (added_held c₀ x₀.limits some x.used st cl [])
        ∙ (ap (λ (s : State). s.opening.added) e
        ∙ (unfold on_opening in first_added i (state_of c₀ x₀.limits some x₀.used (regions_of x₀) cl []).opening ∙ added_held c₀ x₀.limits some x₀.used (regions_of x₀) cl [])))

    same_count : x.used.added ≡ count
    same_count = sym (added_count marked_now) ∙ (ap length same_added ∙ added_count marked_start) ∙ sym y.counted

    module _ (h : i < count) {o : ℕ} (e : o ≡ get_or (listed count 6 (regions_of x)) i 0) where
      at_now : o ≡ get_or (listed x.used.added 6 (regions_of x)) i 0
      at_now = rw same_count e

      -- the next owner's number is in range
      pub opened_low : o < 1025
      opened_low =
          let a : o < length (regions_of x 7) = at_low marked_now i o (rw same_count h) at_now in
          omega (arith, marked_now.room, marked_now.short)

      owner_is_law : get_or (added_in x₀.used.added (regions_of x₀)) i root ≡ owner_of o
      owner_is_law = rw (← same_added, at_now) (added_at marked_now i (rw same_count h))

      next_is : (c : Catalogue) (v : Reading) (cl wt : List ℕ) → on_opening (open_owner (owner_of o)) (on_opening (open_first i) (state_of c x₀.limits v x₀.used (regions_of x₀) cl wt))
          ≡ on_opening (open_first (i + 1)) (state_of c x₀.limits v x₀.used (regions_of x₀) cl wt)
      unfolding on_opening
      next_is c v cl wt =
          let u = state_of c x₀.limits v x₀.used (regions_of x₀) cl wt in
          let a : u.opening.added ≡ added_in x₀.used.added (regions_of x₀) = added_held c x₀.limits v x₀.used (regions_of x₀) cl wt in
          let m : i < length u.opening.added = rw (a, added_count marked_start, ← y.counted) h in
          let s : open_owner (owner_of o) (open_first i u.opening) ≡ open_first (i + 1) u.opening =
          ap (λ w. open_owner w (open_first i u.opening)) (sym (ap (λ ws. get_or ws i root) a ∙ owner_is_law)) ∙ first_more i u.opening m in
          rw s

      pub opened_step : {x' : encoder.State} → PlainDoes (λ c v. on_opening (open_owner (owner_of o))) x x' → Opened count x₀ x' (i + 1)
      opened_step d =
          record {
            counted = y.counted;
            start = y.start;
            did = record {
              limits = d.limits ∙ y.did.limits;
              area = d.area ∙ y.did.area;
              did = λ c. record {
                is = λ cl wt. did_as (did_then ((y.did.did c).is cl wt) ((rw y.did.limits at (d.did c)).is cl wt)) (λ v. first_widens (i + 1)) (λ g z v. next_is c v cl wt);
              };
            };
          }

  module _ (h : count ≤ i) where
    all_is : (c : Catalogue) (v : Reading) (cl wt : List ℕ)
        → on_opening (open_first i) (state_of c x₀.limits v x₀.used (regions_of x₀) cl wt) ≡ on_opening open_added (state_of c x₀.limits v x₀.used (regions_of x₀) cl wt)
    unfolding on_opening
    all_is c v cl wt =
        let u = state_of c x₀.limits v x₀.used (regions_of x₀) cl wt in
        let m : length u.opening.added ≤ i = rw (added_held c x₀.limits v x₀.used (regions_of x₀) cl wt, added_count marked_start, ← y.counted) h in
        rw (first_all i u.opening m)

    -- all are opened
    pub opened_end : PlainDoes (λ c v. on_opening open_added) x₀ x
    opened_end =
        record {
          limits = y.did.limits;
          area = y.did.area;
          did = λ c. record { is = λ cl wt. did_as ((y.did.did c).is cl wt) (λ v. added_widens) (λ g z v. all_is c v cl wt) };
        }

  -- where it is full the others are left out
  pub opened_full : is_full x.used ≡ true → PlainDoes (λ c v. on_opening open_added) x₀ x
  opened_full f =
      record {
        limits = y.did.limits;
        area = y.did.area;
        did = λ c. record {
          is = λ cl wt. did_as (did_stop ((y.did.did c).is cl wt) f (λ v. rest_widens i)) (λ v. added_widens) (λ g z v. unfold on_opening in rw (rest_all i));
        };
      }
