-- Names served with several allowed: one is looked for, and one more is listed.
use mathlib.Core.Path.{◌≡◌, refl, sym, ◌∙◌}
use mathlib.Core.Bool.{true, false}
use mathlib.Core.List.{List, [], ◌∷◌}
use Prim.Native.Nat.{ℕ, suc, ◌+◌, ◌<◌, ◌≤◌}
use native.Mathlib.Numerals.{add-one}
use native.Mathlib.Omega.{arith}
use lib.Dec.{ltb, eqb}
use lib.ListN.{length, get_or, take}
use lib.Seq.{take-suc, take-suc-set, length-take-le, get_or-take}
use borrow.Author.Tests.{lt-ltb, ne_eqb}
use Rattle.rules.specs.Lists.{any, elem, snoc}
use Rattle.rules.specs.Catalogue.{Catalogue}
use Rattle.rules.specs.State.{State}
use Rattle.rules.specs.Limits.{above}
use Rattle.rules.proofs.Bools.{or_true}
use Rattle.rules.proofs.ListLaws.{length_snoc, any_snoc}
use Rattle.rules.proofs.Member.{at_member}
use Rattle.rules.proofs.Membership.{elem_in}
use Rattle.regions.specs.Regions.{stored}
use Rattle.state.specs.declared.Limits.{Limits}
use Rattle.state.specs.Layout.{held, Fits}
use Rattle.state.specs.Changed.{Changed}
use Rattle.state.proofs.Changed.{stored_here, changed_stored}
use Rattle.state.proofs.Sizes.{length_fixed}
use Rattle.variable_map.proofs.Laws.{variables_kept}
use Rattle.decision_tracker.proofs.Laws.{decisions_kept}
use Rattle.marked.specs.Marked.{listed}
use Rattle.encoder.specs.declared.Counters.{Counters}
use Rattle.encoder.specs.Held.{Reading, opening_of, state_of, Good}
use Rattle.encoder.specs.Did.{room_of, beyond, on_opening, with_several, filled, StateDid}
use Rattle.state.specs.Limits.{limits_of}
use Rattle.encoder.proofs.Counted as counted
use Rattle.encoder.proofs.Frames.{good_kept, list_kept, line_kept}
use Rattle.encoder.proofs.Did.{did_filled, did_made, beside_kept}
use Rattle.encoder.proofs.Widening.{with_several_widens}

-- ---- is one among them?

-- is_several at place i: none of the first i is the name
pub record Sought (l : Limits) (b : List ℕ) (x count i : ℕ) : Type 0 where
  pub passed : i ≤ count
  pub none : elem x (take i (held l b 5)) ≡ false

pub sought_start : {l : Limits} {b : List ℕ} {x count : ℕ} → Sought l b x count 0
unfolding any
sought_start = record { passed = omega arith; none = refl }

module _ (l : Limits) (b : List ℕ) (f : Fits l (length b)) (x count : ℕ) (few : count ≤ 64) where
  several_long : length (held l b 5) ≡ 64
  several_long = length_fixed l b 5 (omega arith) f

  module _ {i : ℕ} (k : Sought l b x count i) where
    pub sought_found : {a : ℕ} → i < count → a ≡ get_or (held l b 5) i 0 → a ≡ x → true ≡ elem x (listed count 5 (held l b))
    unfolding listed
    sought_found {a} h e d =
        let m = at_member (take count (held l b 5)) i 0 (rw (length-take-le count (held l b 5) (rw several_long few)) h) in
        let y : get_or (take count (held l b 5)) i 0 ≡ x = get_or-take count (held l b 5) i 0 h ∙ (sym e ∙ d) in
        sym (elem_in (take count (held l b 5)) (rw y at m))

    pub sought_more : {a : ℕ} → i < count → a ≡ get_or (held l b 5) i 0 → (a ≡ x → ⊥) → Sought l b x count (i + 1)
    sought_more {a} h e d =
        let more : take (suc i) (held l b 5) ≡ snoc (take i (held l b 5)) (get_or (held l b 5) i 0)
        = unfold snoc in take-suc (held l b 5) i 0 (rw several_long (omega arith)) in
        record {
          passed = omega arith;
          none = rw (add-one, more, any_snoc (eqb x) (take i (held l b 5)) (get_or (held l b 5) i 0), k.none, ← e) (ne_eqb x a (λ q. d (sym q)));
        }

    pub sought_end : count ≤ i → false ≡ elem x (listed count 5 (held l b))
    unfolding listed
    sought_end h = let q : i ≡ count = omega (arith, k.passed) in sym (rw q at k.none)

-- ---- one more

-- more names than there are places for
several_beyond : (l : Limits) (room : ℕ) (s : State) → 64 < length s.opening.several → beyond l room s ≡ true
unfolding beyond
several_beyond l room s h = rw (lt-ltb 64 (length s.opening.several) h, or_true (ltb room (length s.opening.line))) (or_true (above (limits_of l) s))

module _ (c : Catalogue) (l : Limits) (n : Counters) where
  module _ (x : ℕ) (b b' : List ℕ) (f : Fits l (length b)) (h : n.several < 64) (e : held l b' ≡ stored (held l b) 5 n.several x) where
    several_changed : Changed (5 ∷ []) (held l b) (held l b')
    several_changed = changed_stored 5 n.several x e (unfold any in refl)

    several_listed : listed (n.several + 1) 5 (held l b') ≡ snoc (listed n.several 5 (held l b)) x
    unfolding listed snoc
    several_listed =
        rw (e, stored_here (held l b) 5 n.several x, add-one)
        (take-suc-set (held l b 5) n.several x (rw (length_fixed l b 5 (omega arith) f) h))

    several_state : (cl wt : List ℕ) (v : Reading)
        → state_of c l v (counted.with_several (n.several + 1) n) (held l b') cl wt ≡ on_opening (with_several x) (state_of c l v n (held l b) cl wt)
    unfolding state_of opening_of on_opening with_several any
    several_state cl wt v =
        let ch = several_changed in
        simp (several_listed, list_kept ch, line_kept ch, variables_kept ch, decisions_kept ch, ch.same)

    several_good : (cl wt : List ℕ) → Good c l n (held l b) cl wt → Good c l (counted.with_several (n.several + 1) n) (held l b') cl wt
    unfolding any
    several_good cl wt g =
        let few : n.several + 1 ≤ 64 = omega arith in
        good_kept several_changed g (search) refl refl refl refl refl g.entries

    pub several_more : StateDid c l (λ v. on_opening (with_several x)) n (held l b) (counted.with_several (n.several + 1) n) (held l b')
    several_more =
        record {
          is = λ cl wt. did_made (λ v. with_several_widens _) refl (λ g. unfold any in beside_kept (several_changed) refl refl refl) refl refl (λ k. refl) (several_good cl wt) (λ g. several_state cl wt);
        }

  several_long_after : (x : ℕ) (b : List ℕ) (cl wt : List ℕ) (v : Reading) → Fits l (length b) → 64 ≤ n.several → Good c l n (held l b) cl wt
      → 64 < length (on_opening (with_several x) (state_of c l v n (held l b) cl wt)).opening.several
  unfolding on_opening with_several state_of opening_of listed
  several_long_after x b cl wt v f h g =
      let k = length_fixed l b 5 (omega arith) f in
      let a : length (take n.several (held l b 5)) ≡ n.several = length-take-le n.several (held l b 5) (omega (arith, g.state.several)) in
      rw (length_snoc (take n.several (held l b 5)) x, a) (omega arith)

  pub several_over : (x : ℕ) (b : List ℕ) {r : Counters} → Fits l (length b) → 64 ≤ n.several → r ≡ filled n
      → StateDid c l (λ v. on_opening (with_several x)) n (held l b) r (held l b)
  several_over x b f h e =
      rw e (record { is = λ cl wt. did_filled (λ v. with_several_widens _) (λ g v. several_beyond l (room_of l n) _ (several_long_after x b cl wt v f h g)) })
