-- An owner or a name is opened: listed, and its task queued.
use mathlib.Core.Path.{◌≡◌, refl}
use mathlib.Core.Bool.{Bool, true, false}
use mathlib.Core.List.{List, map}
use Prim.Native.Nat.{ℕ, ◌+◌, ◌-◌, ◌<◌}
use native.Mathlib.Omega.{arith}
use lib.ListN.{length}
use Rattle.rules.specs.Lists.{any, elem, snoc, unless}
use Rattle.rules.specs.Catalogue.{Catalogue, same_owner}
use Rattle.rules.specs.Opening.{owner, name, Opening, set_owners, set_names, queue, open_owner, open_name}
use Rattle.rules.proofs.Grows.{whole}
use Rattle.state.specs.declared.Limits.{Limits}
use Rattle.state.specs.Layout.{held, Fits}
use Rattle.variable_map.proofs.Laws.{variables_kept}
use Rattle.decision_tracker.proofs.Laws.{decisions_kept}
use Rattle.marked.specs.Marked.{listed, is_marked, owner_of, Marked, Free, Pushed}
use Rattle.marked.proofs.Laws.{free_after, listed_after, mark_room}
use Rattle.marked.proofs.Owners.{owners_snoc, owner_after}
use Rattle.line.proofs.Tasks.{task_owner, task_name}
use Rattle.encoder.specs.declared.Counters.{Counters}
use Rattle.encoder.specs.Held.{Reading, task_from, task_in, opening_of, state_of, Good}
use Rattle.encoder.specs.Did.{on_opening, Did, StateDid}
use Rattle.encoder.proofs.Counted as counted
use Rattle.encoder.proofs.Frames.{good_kept, list_kept, line_kept}
use Rattle.encoder.proofs.Did.{did_idle, did_made, did_then, did_as, beside_kept}
use Rattle.encoder.proofs.Widening.{Lengthens, open_owner_widens, open_name_widens, widens_opening}

-- ---- a number that has no mark can be listed

pub owner_free : (l : Limits) (b : List ℕ) (n o : ℕ) (f : Bool) → Fits l (length b) → Marked 1 2 n (held l b) → o < 1025 → f ≡ is_marked 2 o (held l b)
    → f ≡ false → Free 1 2 n o (held l b)
owner_free l b n o f h m k e d = free_after f m (mark_room l b 2 o (omega arith) k h) e d

pub name_free : (l : Limits) (b : List ℕ) (n x : ℕ) (f : Bool) → Fits l (length b) → Marked 3 4 n (held l b) → x < 64 → f ≡ is_marked 4 x (held l b)
    → f ≡ false → Free 3 4 n x (held l b)
name_free l b n x f h m k e d = free_after f m (mark_room l b 4 x (omega arith) k h) e d

-- ---- the tasks

owner_task : (c : Catalogue) (v : Reading) (o : ℕ) → o < 1025 → task_in c v o ≡ owner (owner_of o)
unfolding task_in task_from
owner_task c v o h = rw (← task_owner o h)

name_task : (c : Catalogue) (v : Reading) (x : ℕ) → x < 64 → task_in c v (1025 + x) ≡ name x
unfolding task_in task_from
name_task c v x h =
    let e : 1025 + x - 1025 ≡ x = omega arith in
    rw (← task_name (1025 + x) (omega arith) (omega arith), e)

-- ---- owners and names

-- one owner more
unfoldable add_owner : ℕ → Opening → Opening
add_owner x u = set_owners (snoc u.owners (owner_of x)) u

add_owner_lengthens : (x : ℕ) (u : Opening) → Lengthens u (add_owner x u)
unfolding add_owner
add_owner_lengthens x u = record { waiting = whole; line = omega arith; several = omega arith }

module _ (c : Catalogue) (l : Limits) (n : Counters) where
  module _ {x count : ℕ} {st st' : ℕ → List ℕ} (p : Pushed 1 2 n.owners x st count st') (cl wt : List ℕ) where
    owner_state : (v : Reading) → state_of c l v (counted.with_owners count n) st' cl wt ≡ on_opening (add_owner x) (state_of c l v n st cl wt)
    unfolding state_of opening_of on_opening add_owner any
    owner_state v =
        let ch = p.others in
        simp (p.list, owners_snoc, list_kept ch, line_kept ch, variables_kept ch, decisions_kept ch, ch.same)

    owner_good : Good c l n st cl wt → Good c l (counted.with_owners count n) st' cl wt
    unfolding any
    owner_good g = good_kept p.others g (search) refl refl refl refl refl g.entries

    owner_did : Did c l (λ v. on_opening (add_owner x)) n st cl wt (counted.with_owners count n) st' cl wt
    owner_did = did_made (λ v. widens_opening (add_owner x) (add_owner_lengthens x)) refl (λ g. unfold any in beside_kept p.others refl refl refl) refl refl (λ k. refl) owner_good (λ g. owner_state)

  module _ (o : ℕ) {b : Bool} {st : ℕ → List ℕ} (m : Marked 1 2 n.owners st) (e : b ≡ is_marked 2 o st) where
    owner_open : b ≡ any (same_owner (owner_of o)) (map owner_of (listed n.owners 1 st))
    owner_open = owner_after o b m e

    pub open_owner_again : b ≡ true → StateDid c l (λ v. on_opening (open_owner (owner_of o))) n st n st
    open_owner_again t = record { is = λ cl wt. did_idle (λ v. open_owner_widens _) (λ g _ v. idle cl wt v) }
      where
        idle : (cl wt : List ℕ) (v : Reading) → on_opening (open_owner (owner_of o)) (state_of c l v n st cl wt) ≡ state_of c l v n st cl wt
        idle cl wt v = unfold on_opening open_owner state_of opening_of unless in rw (← owner_open, t)

    pub open_owner_new : {count : ℕ} {st₁ st₂ : ℕ → List ℕ} {r : Counters} → b ≡ false → o < 1025 → Pushed 1 2 n.owners o st count st₁
        → StateDid c l (λ v. on_opening (queue (task_in c v o))) (counted.with_owners count n) st₁ r st₂
        → StateDid c l (λ v. on_opening (open_owner (owner_of o))) n st r st₂
    open_owner_new t h p q =
        record { is = λ cl wt. did_as (did_then (owner_did p cl wt) (q.is cl wt)) (λ v. open_owner_widens _) (λ g _ v. new cl wt v) }
      where
        new : (cl wt : List ℕ) (v : Reading)
            → on_opening (queue (task_in c v o)) (on_opening (add_owner o) (state_of c l v n st cl wt)) ≡ on_opening (open_owner (owner_of o)) (state_of c l v n st cl wt)
        new cl wt v = unfold on_opening add_owner open_owner state_of opening_of unless in rw (← owner_open, t, owner_task c v o h)

-- one name more
unfoldable add_name : ℕ → Opening → Opening
add_name x u = set_names (snoc u.names x) u

add_name_lengthens : (x : ℕ) (u : Opening) → Lengthens u (add_name x u)
unfolding add_name
add_name_lengthens x u = record { waiting = whole; line = omega arith; several = omega arith }

module _ (c : Catalogue) (l : Limits) (n : Counters) where
  module _ {x count : ℕ} {st st' : ℕ → List ℕ} (p : Pushed 3 4 n.names x st count st') (cl wt : List ℕ) where
    name_state : (v : Reading) → state_of c l v (counted.with_names count n) st' cl wt ≡ on_opening (add_name x) (state_of c l v n st cl wt)
    unfolding state_of opening_of on_opening add_name any
    name_state v =
        let ch = p.others in
        simp (p.list, list_kept ch, line_kept ch, variables_kept ch, decisions_kept ch, ch.same)

    name_good : Good c l n st cl wt → Good c l (counted.with_names count n) st' cl wt
    unfolding any
    name_good g = good_kept p.others g (search) refl refl refl refl refl g.entries

    name_did : Did c l (λ v. on_opening (add_name x)) n st cl wt (counted.with_names count n) st' cl wt
    name_did = did_made (λ v. widens_opening (add_name x) (add_name_lengthens x)) refl (λ g. unfold any in beside_kept p.others refl refl refl) refl refl (λ k. refl) name_good (λ g. name_state)

  module _ (x : ℕ) {b : Bool} {st : ℕ → List ℕ} (m : Marked 3 4 n.names st) (e : b ≡ is_marked 4 x st) where
    name_open : b ≡ elem x (listed n.names 3 st)
    name_open = listed_after x b m e

    pub open_name_again : b ≡ true → StateDid c l (λ v. on_opening (open_name x)) n st n st
    open_name_again t = record { is = λ cl wt. did_idle (λ v. open_name_widens _) (λ g _ v. idle cl wt v) }
      where
        idle : (cl wt : List ℕ) (v : Reading) → on_opening (open_name x) (state_of c l v n st cl wt) ≡ state_of c l v n st cl wt
        idle cl wt v = unfold on_opening open_name state_of opening_of unless in rw (← name_open, t)

    pub open_name_new : {count : ℕ} {st₁ st₂ : ℕ → List ℕ} {r : Counters} → b ≡ false → x < 64 → Pushed 3 4 n.names x st count st₁
        → StateDid c l (λ v. on_opening (queue (task_in c v (1025 + x)))) (counted.with_names count n) st₁ r st₂
        → StateDid c l (λ v. on_opening (open_name x)) n st r st₂
    open_name_new t h p q =
        record { is = λ cl wt. did_as (did_then (name_did p cl wt) (q.is cl wt)) (λ v. open_name_widens _) (λ g _ v. new cl wt v) }
      where
        new : (cl wt : List ℕ) (v : Reading)
            → on_opening (queue (task_in c v (1025 + x))) (on_opening (add_name x) (state_of c l v n st cl wt)) ≡ on_opening (open_name x) (state_of c l v n st cl wt)
        new cl wt v = unfold on_opening add_name open_name state_of opening_of unless in rw (← name_open, t, name_task c v x h)
