-- For callers: the disjuncts that fire now, and that what the code does is what the rules say of a condition.
use mathlib.Core.Path.{◌≡◌, refl}
use mathlib.Core.Bool.{Bool, true}
use mathlib.Core.List.{List, [], ◌∷◌}
use Prim.Native.Nat.{ℕ, zero, suc, ◌+◌, ◌-◌, ◌<◌, ◌≤◌}
use native.Mathlib.Omega.{arith}
use lib.ListN.{length}
use Rattle.rules.specs.Lists.{filter, up_to}
use Rattle.rules.specs.Catalogue.{Catalogue}
use Rattle.rules.specs.Conditions.{disjuncts_of, indices}
use Rattle.rules.specs.Opening.{requirement, Opening, fire, serve_condition}
use Rattle.rules.specs.State.{State, set_opening, decided_true}
use Rattle.rules.proofs.Each.{Each, each_filter}
use Rattle.rules.proofs.Capped.{add_waitings_is}
use Rattle.state.specs.declared.Limits.{Limits}
use Rattle.variable_map.specs.Mapping.{variables}
use Rattle.decision_tracker.specs.Tracking.{decisions}
use Rattle.line.proofs.Tasks.{task_requirement}
use Rattle.encoder.specs.declared.Counters.{Counters}
use Rattle.encoder.specs.Held.{Reading, fired_now, task_from, task_in, state_of}
use Rattle.encoder.specs.Did.{on_opening}
use Rattle.goals.specs.Goals.{true_of}
use Rattle.firing.specs.declared.disjuncts.Indices.{Indices}
use Rattle.firing.specs.Firing.{judging, Lists, waits, queued, queued_if, condition_served}

-- what is decided true, as the code tests it
pub truth_held : (c : Catalogue) (l : Limits) (v : Reading) (n : Counters) (st : ℕ → List ℕ) (cl wt : List ℕ)
    → decided_true (state_of c l v n st cl wt) ≡ true_of (variables n.variables st) (decisions n.decisions st)
unfolding decided_true state_of true_of
truth_held c l v n st cl wt = refl

-- ---- the disjuncts that fire now

up_to_within : (i n m : ℕ) → i + n ≤ m → Each (λ j. j < m) (up_to i n)
unfolding up_to
up_to_within i zero m h = Each.nil
up_to_within i (suc n) m h =
    let low : i < m = omega arith in
    Each.cons low (up_to_within (suc i) n m (omega arith))

module _ (c : Catalogue) (f : ℕ → Bool) (q : ℕ) where
  pub fired_listed : {is : Indices} → Lists is (filter (judging c f q true) (indices c q)) → Lists is (fired_now c f q)
  unfolding fired_now judging
  fired_listed x = x

  pub fired_given : Each (λ i. i < length (disjuncts_of c q)) (fired_now c f q)
  unfolding fired_now indices
  fired_given = each_filter _ (up_to_within 0 (length (disjuncts_of c q)) (length (disjuncts_of c q)) (omega arith))

-- ---- the rules' own steps

module _ (c : Catalogue) (q : ℕ) where
  -- of a drawn entry, and of a condition of which some disjunct fires
  pub queued_fire : (i : ℕ) (is : List ℕ) (o : Opening) → queued c q (requirement q (i ∷ is)) o ≡ fire c q (i ∷ is) o
  unfolding queued fire
  queued_fire i is o = refl

  queued_if_fire : (is : List ℕ) (o : Opening) → queued_if c q (requirement q is) is o ≡ fire c q is o
  unfolding queued_if fire
  queued_if_fire [] o = refl
  queued_if_fire (i ∷ is) o = queued_fire i is o

  requirement_task_law : (v : Reading) → q < 1024 → task_in c v (2113 + q) ≡ requirement q (fired_now c v.truth q)
  unfolding task_in task_from
  requirement_task_law v h =
      let e : 2113 + q - 2113 ≡ q = omega arith in
      rw (← task_requirement (2113 + q) (omega arith) (omega arith), e)

  -- where the same disjuncts held when the run began
  pub served_condition : (v : Reading) (s : State) → q < 1024 → fired_now c v.truth q ≡ fired_now c (decided_true s) q
      → condition_served c v q s ≡ set_opening (serve_condition c (decided_true s) q s.opening) s
  unfolding condition_served waits on_opening serve_condition
  served_condition v s h e =
      rw (requirement_task_law v h, e, add_waitings_is) (unfold fired_now in rw (queued_if_fire (fired_now c (decided_true s) q)))
