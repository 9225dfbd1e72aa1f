-- A requirement fires: its names are opened, and its task is queued. A condition is served: some disjuncts wait, and if any fires, so.
use mathlib.Core.Path.{◌≡◌, refl, sym, ◌∙◌}
use mathlib.Core.Bool.{true, false}
use mathlib.Core.List.{List, [], ◌∷◌}
use Prim.Native.Nat.{ℕ, ◌+◌}
use native.Mathlib.Omega.{arith}
use lib.ListN.{length, get_or}
use Rattle.rules.specs.Lists.{filter}
use Rattle.rules.specs.Catalogue.{Catalogue, no_requirement}
use Rattle.rules.specs.Candidates.{goal_ranges}
use Rattle.rules.specs.Conditions.{indices}
use Rattle.rules.specs.Opening.{Task, Opening, queue, open_names}
use Rattle.rules.specs.State.{State, decided_true}
use Rattle.requirement.specs.declared.ConditionalRequirement.{ConditionalRequirement}
use Rattle.requirement.specs.Requirements.{goal_of, requirement_is}
use Rattle.tables.specs.declared.Counts.{Counts}
use Rattle.tables.specs.Tables.{tables}
use Rattle.cache.specs.Areas.{catalogue}
use Rattle.state.specs.declared.Limits.{Limits}
use Rattle.variable_map.specs.Mapping.{variables}
use Rattle.decision_tracker.specs.Tracking.{decisions}
use Rattle.encoder.specs.declared.Counters.{Counters}
use Rattle.encoder.specs.declared.State as encoder
use Rattle.encoder.specs.Held.{Reading, task_in, fired_now, state_of}
use Rattle.encoder.specs.Did.{Widens, on_opening, StateDid, WaitingDid}
use Rattle.encoder.specs.Does.{StateDoes, PlainDoes, Does, regions_of}
use Rattle.encoder.proofs.Did.{widens_then, did_then, did_as}
use Rattle.encoder.proofs.Widening.{Lengthens, lengthens_same, lengthens_then, queue_lengthens, open_names_lengthens, widens_opening}
use Rattle.encoder.proofs.Does.{does_same, does_then, at_catalogue}
use Rattle.opening.specs.Does.{WaitingDoes}
use Rattle.goals.specs.Goals.{true_of, truth_of}
use Rattle.firing.specs.declared.disjuncts.Indices.{Indices}
use Rattle.firing.specs.Firing.{judging, indices_in, Lists, waits, queued, queued_if, condition_served, EntriesDid, EntriesDo}
use Rattle.firing.proofs.Required.{goal_is}
use Rattle.firing.proofs.Waitings.{waits_widens}

-- ---- a requirement fires

pub fired : (k : Counts) (m us t : List ℕ) (q x : ℕ) (it : ConditionalRequirement) → requirement_is it ≡ get_or (tables k t).requirements q no_requirement
    → {a a' a'' : encoder.State}
    → StateDoes (catalogue k m us t) (λ v. on_opening (open_names (catalogue k m us t) (goal_ranges (catalogue k m us t) (goal_of it.requirement)))) a a'
    → PlainDoes (λ c v. on_opening (queue (task_in c v x))) a' a''
    → StateDoes (catalogue k m us t) (λ v. on_opening (queued (catalogue k m us t) q (task_in (catalogue k m us t) v x))) a a''
fired k m us t q x it e d p = does_same (does_then d (at_catalogue p)) (λ v s. unfold on_opening queued in rw (goal_is k m us t q it e))

-- ---- a condition is served

queued_if_lengthens : (c : Catalogue) (q : ℕ) (t : Task) (is : List ℕ) (o : Opening) → Lengthens o (queued_if c q t is o)
unfolding queued_if queued
queued_if_lengthens c q t [] o = lengthens_same
queued_if_lengthens c q t (i ∷ is) o = lengthens_then (open_names_lengthens c _ o) (queue_lengthens t _)

pub served_widens : (c : Catalogue) (v : Reading) (q : ℕ) (s : State) → Widens s (condition_served c v q s)
unfolding condition_served
served_widens c v q s = widens_then (waits_widens q _ s) (widens_opening _ (queued_if_lengthens c q _ _) _)

queued_none : (c : Catalogue) (q : ℕ) (t : Task) (is : List ℕ) (s : State) → length is ≡ 0 → on_opening (queued_if c q t is) s ≡ s
unfolding on_opening queued_if
queued_none c q t [] s e = refl
queued_none c q t (i ∷ is) s e = let no_such : ⊥ = omega arith in absurd no_such

queued_some : (c : Catalogue) (q : ℕ) (t : Task) (is : List ℕ) (s : State) → (length is ≡ 0 → ⊥) → on_opening (queued_if c q t is) s ≡ on_opening (queued c q t) s
unfolding on_opening queued_if
queued_some c q t [] s e = absurd (e refl)
queued_some c q t (i ∷ is) s e = refl

-- n, st: when the two lists are made; n': when the others wait
module _ (c : Catalogue) (q : ℕ) (st : ℕ → List ℕ) {l : Limits} {n n' : Counters} {wt wt' : List ℕ} {stay fire : Indices}
    (a : Lists stay (filter (judging c (true_of (variables n.variables st) (decisions n.decisions st)) q false) (indices c q)))
    (b : Lists fire (filter (judging c (true_of (variables n.variables st) (decisions n.decisions st)) q true) (indices c q)))
    (d : WaitingDid l (λ v. waits q (indices_in stay)) n wt n' wt') where
  served_is : (cl : List ℕ) (v : Reading)
      → on_opening (queued_if c q (task_in c v (2113 + q)) (indices_in fire)) (waits q (indices_in stay) (state_of c l v n st cl wt)) ≡ condition_served c v q (state_of c l v n st cl wt)
  unfolding condition_served fired_now state_of decided_true true_of judging
  served_is cl v = rw (a.is, b.is)

  -- none fires
  served_waits : fire.len ≡ 0 → EntriesDid c l (λ v. condition_served c v q) n st wt n' st wt'
  served_waits e = record {
    is = λ cl. did_as (d.is c st cl) (λ v. served_widens c v q) (λ g f v. sym (queued_none c q _ (indices_in fire) _ (rw b.is (sym b.len ∙ e))) ∙ served_is cl v);
  }

  -- some fire
  served_fires : {n'' : Counters} {st' : ℕ → List ℕ} → (fire.len ≡ 0 → ⊥) → StateDid c l (λ v. on_opening (queued c q (task_in c v (2113 + q)))) n' st n'' st'
      → EntriesDid c l (λ v. condition_served c v q) n st wt n'' st' wt'
  served_fires e k = record {
    is = λ cl. did_as (did_then (d.is c st cl) (k.is cl wt')) (λ v. served_widens c v q)
        (λ g f v. sym (queued_some c q _ (indices_in fire) _ (λ z. e (b.len ∙ (rw b.is at z)))) ∙ served_is cl v);
  }

-- ---- of the encoder's state

-- x: when the two lists are made; x': when the others wait
module _ (c : Catalogue) (q : ℕ) {x x' : encoder.State} {wt wt' : List ℕ} {stay fire : Indices}
    (a : Lists stay (filter (judging c (truth_of x) q false) (indices c q)))
    (b : Lists fire (filter (judging c (truth_of x) q true) (indices c q)))
    (d : WaitingDoes (λ v. waits q (indices_in stay)) x wt x' wt') where
  pub condition_waits : fire.len ≡ 0 → EntriesDo c (λ v. condition_served c v q) x wt x' wt'
  condition_waits e = record { limits = d.limits; area = d.area; did = rw d.bytes (served_waits c q (regions_of x) a b d.did e) }

  pub condition_fires : {x'' : encoder.State} → (fire.len ≡ 0 → ⊥) → StateDoes c (λ v. on_opening (queued c q (task_in c v (2113 + q)))) x' x''
      → EntriesDo c (λ v. condition_served c v q) x wt x'' wt'
  condition_fires e k = record {
    limits = k.limits ∙ d.limits;
    area = k.area ∙ d.area;
    did = served_fires c q (regions_of x) a b d.did e (rw (d.limits, d.bytes) at k.did);
  }

-- for callers: whatever the clauses are
pub entries_do_all : {c : Catalogue} {F : Reading → State → State} {x x' : encoder.State} {cl wt wt' : List ℕ} → EntriesDo c F x wt x' wt' → Does c F x cl wt x' cl wt'
entries_do_all {cl = cl} d = record { limits = d.limits; area = d.area; did = d.did.is cl }
