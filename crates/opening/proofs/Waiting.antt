-- One entry more waits, or the limit is reached.
use mathlib.Core.Path.{◌≡◌, refl}
use mathlib.Core.Bool.{true}
use mathlib.Core.List.{List, []}
use Prim.Native.Nat.{ℕ, ◌<◌, ◌≤◌}
use native.Mathlib.Omega.{arith}
use lib.Dec.{ltb}
use lib.ListN.{length}
use borrow.Author.Tests.{lt-ltb}
use Rattle.rules.specs.Lists.{any, snoc}
use Rattle.rules.specs.Catalogue.{Catalogue}
use Rattle.rules.proofs.ListLaws.{length_snoc}
use Rattle.rules.proofs.Capped.{add_waiting, only_waiting}
use Rattle.state.specs.declared.Limits.{Limits}
use Rattle.state.proofs.Changed.{changed_none}
use Rattle.entries.specs.Entries.{waiting_in, PushedWaiting}
use Rattle.encoder.specs.declared.Counters.{Counters}
use Rattle.encoder.specs.Held.{Reading, opening_of, state_of, Good}
use Rattle.encoder.specs.Did.{room_of, beyond, filled, WaitingDid, is_full}
use Rattle.state.specs.Limits.{limits_of}
use Rattle.encoder.proofs.Counted as counted
use Rattle.encoder.proofs.Frames.{good_kept, waiting_counted, good_within}
use Rattle.encoder.proofs.Did.{did_full, did_filled, did_made, beside_same}
use Rattle.encoder.proofs.Widening.{add_waiting_widens}

module _ (l : Limits) (n : Counters) where
  pub waiting_full : (e : ℕ × ℕ) {wt : List ℕ} → is_full n ≡ true → WaitingDid l (λ v. add_waiting e) n wt n wt
  waiting_full e f = record { is = λ c st cl. did_full f (λ v. add_waiting_widens e) }

  module _ {e : ℕ × ℕ} {count : ℕ} {wt wt' : List ℕ} (z : n.drawn ≡ 0) (h : n.waiting < l.waiting) (p : PushedWaiting l n.waiting e wt count wt')
      (c : Catalogue) (st : ℕ → List ℕ) (cl : List ℕ) where
    waiting_state : (v : Reading) → state_of c l v (counted.with_waiting count n) st cl wt' ≡ add_waiting e (state_of c l v n st cl wt)
    unfolding state_of opening_of add_waiting
    waiting_state v = rw (p.waiting, p.drawn n.drawn)

    waiting_good : Good c l n st cl wt → Good c l (counted.with_waiting count n) st cl wt'
    unfolding any
    waiting_good g = good_kept (changed_none [] st) g (search) refl refl refl refl refl (omega (arith, p.count))

  pub waiting_more : {e : ℕ × ℕ} {count : ℕ} {wt wt' : List ℕ} → n.drawn ≡ 0 → n.waiting < l.waiting → PushedWaiting l n.waiting e wt count wt'
      → WaitingDid l (λ v. add_waiting e) n wt (counted.with_waiting count n) wt'
  waiting_more {e} z h p =
      record { is = λ c st cl. did_made (λ v. add_waiting_widens e) refl (λ g. beside_same) refl refl p.drawn (waiting_good z h p c st cl) (λ g. waiting_state z h p c st cl) }

  waiting_beyond : (e : ℕ × ℕ) (c : Catalogue) (st : ℕ → List ℕ) (cl wt : List ℕ) (v : Reading) → n.drawn ≡ 0 → l.waiting ≤ n.waiting → Good c l n st cl wt
      → beyond l (room_of l n) (add_waiting e (state_of c l v n st cl wt)) ≡ true
  unfolding beyond add_waiting
  waiting_beyond e c st cl wt v z h g = rw (only_waiting (limits_of l) (state_of c l v n st cl wt) (good_within g v) _, longer_now)
    where
      longer_now : ltb (limits_of l).waiting (length (snoc (state_of c l v n st cl wt).opening.waiting e)) ≡ true
      longer_now =
          lt-ltb (limits_of l).waiting (length (snoc (state_of c l v n st cl wt).opening.waiting e))
          (unfold limits_of state_of opening_of in rw (length_snoc (waiting_in l n.waiting wt) e, waiting_counted l n.waiting wt) (omega arith))

  pub waiting_over : (e : ℕ × ℕ) {wt : List ℕ} {r : Counters} → n.drawn ≡ 0 → l.waiting ≤ n.waiting → r ≡ filled n
      → WaitingDid l (λ v. add_waiting e) n wt r wt
  waiting_over e {wt} z h q = rw q (record { is = λ c st cl. did_filled (λ v. add_waiting_widens e) (λ g v. waiting_beyond e c st cl wt v z h g) })
