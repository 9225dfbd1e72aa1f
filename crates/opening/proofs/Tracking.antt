-- A part is named for tracking, unless it is already or its name was served with several allowed.
use mathlib.Core.Path.{◌≡◌, refl}
use mathlib.Core.Bool.{Bool, true, false, ◌||◌}
use mathlib.Core.List.{List}
use Prim.Native.Nat.{ℕ, ◌<◌}
use native.Mathlib.Omega.{arith}
use lib.ListN.{length}
use Rattle.rules.specs.Lists.{any, elem, snoc, unless}
use Rattle.rules.specs.Catalogue.{Catalogue, name_of}
use Rattle.rules.specs.Opening.{Opening, set_named, name_for_tracking}
use Rattle.rules.proofs.Bools.{or_true}
use Rattle.rules.proofs.Grows.{whole}
use Rattle.state.specs.declared.Limits.{Limits}
use Rattle.state.specs.Layout.{held, Fits}
use Rattle.variable_map.proofs.Laws.{variables_kept}
use Rattle.decision_tracker.proofs.Laws.{decisions_kept}
use Rattle.marked.specs.Marked.{listed, is_marked, Marked, Free, Pushed}
use Rattle.marked.proofs.Laws.{free_after, listed_after, mark_room}
use Rattle.encoder.specs.declared.Counters.{Counters}
use Rattle.encoder.specs.Held.{Reading, opening_of, state_of, Good}
use Rattle.encoder.specs.Did.{on_opening, Did, StateDid}
use Rattle.encoder.proofs.Counted as counted
use Rattle.encoder.proofs.Frames.{good_kept, list_kept, line_kept}
use Rattle.encoder.proofs.Did.{did_idle, did_made, did_as, beside_kept}
use Rattle.encoder.proofs.Widening.{Lengthens, name_for_tracking_widens, widens_opening}

pub part_free : (l : Limits) (b : List ℕ) (n p : ℕ) (f : Bool) → Fits l (length b) → Marked 8 9 n (held l b) → p < 1024 → f ≡ is_marked 9 p (held l b)
    → f ≡ false → Free 8 9 n p (held l b)
part_free l b n p f h m k e d = free_after f m (mark_room l b 9 p (omega arith) k h) e d

-- one part more
unfoldable add_named : ℕ → Opening → Opening
add_named x u = set_named (snoc u.named x) u

add_named_lengthens : (x : ℕ) (u : Opening) → Lengthens u (add_named x u)
unfolding add_named
add_named_lengthens x u = record { waiting = whole; line = omega arith; several = omega arith }

module _ (l : Limits) (n : Counters) where
  module _ {x count : ℕ} {st st' : ℕ → List ℕ} (p : Pushed 8 9 n.named x st count st') (c : Catalogue) (cl wt : List ℕ) where
    named_state : (v : Reading) → state_of c l v (counted.with_named count n) st' cl wt ≡ on_opening (add_named x) (state_of c l v n st cl wt)
    unfolding state_of opening_of on_opening add_named any
    named_state v =
        let ch = p.others in
        simp (p.list, list_kept ch, line_kept ch, variables_kept ch, decisions_kept ch, ch.same)

    named_good : Good c l n st cl wt → Good c l (counted.with_named count n) st' cl wt
    unfolding any
    named_good g = good_kept p.others g (search) refl refl refl refl refl g.entries

    named_did : Did c l (λ v. on_opening (add_named x)) n st cl wt (counted.with_named count n) st' cl wt
    named_did = did_made (λ v. widens_opening (add_named x) (add_named_lengthens x)) refl (λ g. unfold any in beside_kept p.others refl refl refl) refl refl (λ k. refl) named_good (λ g. named_state)

  module _ (c : Catalogue) (p : ℕ) {st : ℕ → List ℕ} where
    -- it is not to be named
    idle : (elem (name_of c p) (listed n.several 5 st) || elem p (listed n.named 8 st)) ≡ true → StateDid c l (λ v. on_opening (name_for_tracking c p)) n st n st
    idle t = record { is = λ cl wt. did_idle (λ v. name_for_tracking_widens c p) (λ g _ v. same cl wt v) }
      where
        same : (cl wt : List ℕ) (v : Reading) → on_opening (name_for_tracking c p) (state_of c l v n st cl wt) ≡ state_of c l v n st cl wt
        same cl wt v = unfold on_opening name_for_tracking state_of opening_of unless in rw t

    module _ {b : Bool} (m : Marked 8 9 n.named st) (e : b ≡ is_marked 9 p st) where
      pub tracking_again : b ≡ true → StateDid c l (λ v. on_opening (name_for_tracking c p)) n st n st
      tracking_again t = idle (rw (← listed_after p b m e, t) (or_true (elem (name_of c p) (listed n.several 5 st))))

      module _ {x : ℕ} {d : Bool} (h : d ≡ elem x (listed n.several 5 st)) (q : x ≡ name_of c p) where
        pub tracking_several : d ≡ true → StateDid c l (λ v. on_opening (name_for_tracking c p)) n st n st
        tracking_several t = idle (rw (← q, ← h, t))

        pub tracking_new : {count : ℕ} {st' : ℕ → List ℕ} → b ≡ false → d ≡ false → Pushed 8 9 n.named p st count st'
            → StateDid c l (λ v. on_opening (name_for_tracking c p)) n st (counted.with_named count n) st'
        tracking_new t u k =
            record { is = λ cl wt. did_as (named_did k c cl wt) (λ v. name_for_tracking_widens c p) (λ g _ v. new cl wt v) }
          where
            new : (cl wt : List ℕ) (v : Reading)
                → on_opening (add_named p) (state_of c l v n st cl wt) ≡ on_opening (name_for_tracking c p) (state_of c l v n st cl wt)
            new cl wt v = unfold on_opening add_named name_for_tracking state_of opening_of unless in rw (← q, ← h, u, ← listed_after p b m e, t)
