-- One task more in the line, or no place for it.
use mathlib.Core.Path.{◌≡◌, refl}
use mathlib.Core.Bool.{true}
use mathlib.Core.List.{List}
use Prim.Native.Nat.{ℕ, ◌+◌, ◌<◌, ◌≤◌}
use native.Mathlib.Omega.{arith}
use lib.ListN.{length, length-map}
use borrow.Author.Tests.{lt-ltb}
use Rattle.rules.specs.Lists.{any}
use Rattle.rules.specs.Catalogue.{Catalogue}
use Rattle.rules.specs.Opening.{queue}
use Rattle.rules.specs.State.{State}
use Rattle.rules.specs.Limits.{above}
use Rattle.rules.proofs.Bools.{or_true}
use Rattle.rules.proofs.ListLaws.{length_snoc, map_snoc}
use Rattle.state.specs.declared.Limits.{Limits}
use Rattle.state.specs.Layout.{held, Fits}
use Rattle.variable_map.proofs.Laws.{variables_kept}
use Rattle.decision_tracker.proofs.Laws.{decisions_kept}
use Rattle.marked.proofs.Laws.{listed_same, marked_same}
use Rattle.line.specs.Line.{queued, Queued}
use Rattle.line.proofs.Line.{length_queued, line_room}
use Rattle.encoder.specs.declared.Counters.{Counters}
use Rattle.encoder.specs.Held.{Reading, task_in, opening_of, state_of, Good}
use Rattle.encoder.specs.Did.{room_of, beyond, on_opening, filled, Beside, StateDid}
use Rattle.state.specs.Limits.{limits_of}
use Rattle.encoder.proofs.Counted as counted
use Rattle.encoder.proofs.Frames.{good_kept, list_kept}
use Rattle.encoder.proofs.Did.{did_filled, did_made}
use Rattle.encoder.proofs.Widening.{queue_widens}

-- more tasks than there are places for
line_over : (l : Limits) (room : ℕ) (s : State) → room < length s.opening.line → beyond l room s ≡ true
unfolding beyond
line_over l room s h = rw (lt-ltb room (length s.opening.line) h) (or_true (above (limits_of l) s))

beside_queued : {first tail x tail' : ℕ} {st st' : ℕ → List ℕ} → Queued tail x st tail' st' → first ≤ tail → Beside first st st'
unfolding any
beside_queued {first} q h =
    record { marked = λ m k. marked_same k q.others refl refl; list = λ m k. listed_same m 14 q.others refl; line = q.before first h }

module _ {c : Catalogue} {l : Limits} {n : Counters} where
  module _ {x tail : ℕ} {st st' : ℕ → List ℕ} (q : Queued n.tail x st tail st') where
    queue_state : (cl wt : List ℕ) → Good c l n st cl wt → (v : Reading)
        → state_of c l v (counted.with_tail tail n) st' cl wt ≡ on_opening (queue (task_in c v x)) (state_of c l v n st cl wt)
    unfolding state_of opening_of on_opening queue any
    queue_state cl wt g v =
        let ch = q.others in
        simp (q.line n.first g.state.before, map_snoc (task_in c v) (queued n.first n.tail st) x, list_kept ch, variables_kept ch, decisions_kept ch, ch.same)

    queue_good : (cl wt : List ℕ) → n.tail < 3649 + l.waiting → Good c l n st cl wt → Good c l (counted.with_tail tail n) st' cl wt
    unfolding any
    queue_good cl wt h g =
        let before : n.first ≤ tail = omega (arith, q.count, g.state.before) in
        let room : tail ≤ 3649 + l.waiting = omega (arith, q.count) in
        good_kept q.others g (search) refl refl refl refl refl g.entries

    pub queue_more : n.tail < 3649 + l.waiting → StateDid c l (λ v. on_opening (queue (task_in c v x))) n st (counted.with_tail tail n) st'
    queue_more h =
        record {
          is = λ cl wt. did_made (λ v. queue_widens _) refl (λ g. beside_queued q g.state.before) refl refl (λ k. refl) (queue_good cl wt h) (queue_state cl wt);
        }

  pub queue_over : (x : ℕ) (b : List ℕ) {r : Counters} → Fits l (length b) → 3649 + l.waiting ≤ n.tail → r ≡ filled n
      → StateDid c l (λ v. on_opening (queue (task_in c v x))) n (held l b) r (held l b)
  queue_over x b f h e =
      rw e (record { is = λ cl wt. did_filled (λ v. queue_widens _) (λ g v. line_over l (room_of l n) _ (long cl wt g v)) })
    where
      long : (cl wt : List ℕ) → Good c l n (held l b) cl wt → (v : Reading)
          → room_of l n < length (on_opening (queue (task_in c v x)) (state_of c l v n (held l b) cl wt)).opening.line
      long cl wt g v =
          let s = g.state in
          let a = length_queued n.first n.tail (held l b) (line_room l b n.tail f s.room) in
          unfold on_opening queue state_of opening_of room_of in rw (length_snoc, length-map, a) (omega (arith, s.before))
