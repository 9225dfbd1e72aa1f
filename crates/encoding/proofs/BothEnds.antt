-- A run's two ends: where it has begun the areas hold its first point, and where its line has been served, the named parts' joining and the new
-- one-of-name clauses lead to the state after the run.
use mathlib.Core.Path.{◌≡◌, refl, sym, ◌∙◌, ap}
use mathlib.Core.Bool.{true}
use mathlib.Core.List.{List, [], map}
use Prim.Native.Nat.{ℕ, ◌+◌, ◌≤◌, zero-le}
use native.Mathlib.Numerals.{add-one}
use lib.ListN.{length}
use borrow.Author.Tests.{le-ltb}
use Rattle.rules.specs.Catalogue.{Catalogue}
use Rattle.rules.specs.Opening.{Opening, end_run}
use Rattle.rules.specs.State.{State, decided_true, Run}
use Rattle.rules.specs.Run.{line_taken, join_all, link_all, begun, run_once}
use Rattle.rules.specs.Limits.{above}
use Rattle.rules.proofs.Reached.{Given, Reached}
use Rattle.rules.proofs.Line.{join_all_opening, link_all_opening, begins, first_line, first_state, run_from}
use Rattle.rules.proofs.Room as rules
use Rattle.rules.proofs.Grows.{stays_above, link_all_grows}
use Rattle.rules.proofs.Forgotten.{forget, forget_above, join_all_forgets, link_all_forgets}
use Rattle.state.specs.declared.Limits.{Limits}
use Rattle.variable_map.proofs.Laws.{count}
use Rattle.line.specs.Line.{queued}
use Rattle.entries.specs.Entries.{drawn_in}
use Rattle.encoder.specs.declared.Counters.{Counters}
use Rattle.encoder.specs.Held.{Reading, task_in, opening_of, state_of}
use Rattle.encoder.specs.Did.{beyond}
use Rattle.state.specs.Limits.{limits_of}
use Rattle.naming.specs.Alike.{AlikeIn}
use Rattle.naming.proofs.Alike.{in_same, join_all_same}
use Rattle.serving.specs.Line.{taken, Point}
use Rattle.beginning.specs.Beginning.{reading_of}
use Rattle.beginning.proofs.Begin.{only_first}
use Rattle.serving.proofs.Point.{taken_is, point_end}
use Rattle.beginning.specs.Beginning.{Holds}
use Rattle.beginning.proofs.Begin.{held_drawn, held_count}

-- ---- the beginning

module _ {c : Catalogue} {l : Limits} {s : State} {n : Counters} {st : ℕ → List ℕ} {cl wt : List ℕ} (h : Holds c l s n st cl wt) where
  -- the run by the counters
  pub held_run : (level : ℕ) → ◌≡◌ {A = Run} (record { number = n.runs + 1; level = level; before = n.variables }) (run_from level s)
  unfolding state_of
  held_run level =
      let e = h.is (reading_of s) in
      let number : n.runs ≡ s.runs = ap (λ (u : State). u.runs) e in
      let before : n.variables ≡ length s.variables = sym (count n.variables st) ∙ ap (λ (u : State). length u.variables) e in
      rw (add-one, number, before)

  -- its drawn entries
  pub held_entries : drawn_in l (length s.opening.drawn) wt ≡ s.opening.drawn
  held_entries = rw (held_count h) at (held_drawn h)

-- the line begins at 0
first_line_law : (c : Catalogue) (l : Limits) (s₀ : State) (v : Reading) (n : Counters) (st : ℕ → List ℕ) (cl wt : List ℕ)
    → state_of c l v n st cl wt ≡ forget (begun c s₀) → n.first ≡ 0 → map (task_in c v) (queued 0 n.tail st) ≡ first_line c s₀
unfolding state_of opening_of
first_line_law c l s₀ v n st cl wt e z = rw z at (ap (λ (s : State). s.opening.line) e)

module _ {c : Catalogue} {l : Limits} {level : ℕ} {r : Run} {s₀ : State} {v : Reading} {n : Counters} {st : ℕ → List ℕ} {cl wt : List ℕ} where
  -- what holds where a run has begun is its first point
  pub run_begins : Given c → Reached (limits_of l) c s₀ → r ≡ run_from level s₀ → length (st 20) ≡ 3649 + l.waiting
      → v.truth ≡ decided_true s₀ → v.drawn ≡ s₀.opening.drawn → drawn_in l (length v.drawn) wt ≡ v.drawn
      → n.first ≡ 0 → state_of c l v n st cl wt ≡ forget (begun c s₀) → Point c l level r s₀ v 0 n st cl wt
  run_begins g reached run size truth drawn entries z e =
      record {
        given = g;
        reached = reached;
        run = run;
        size = size;
        at = first_state c s₀;
        after = rw (first_line_law c l s₀ v n st cl wt e z) begins;
        is = rw (taken_is c l v n st cl wt ∙ ap line_taken e) in_same;
        truth = truth;
        drawn = drawn;
        entries = entries;
      }

-- ---- the end

-- with the line taken, the state does not depend on what the tasks are read by
pub any_reading_law : (c : Catalogue) (l : Limits) (v v' : Reading) (n : Counters) (st : ℕ → List ℕ) (cl wt : List ℕ)
    → state_of c l v (taken n) st cl wt ≡ state_of c l v' (taken n) st cl wt
any_reading_law c l v v' n st cl wt = taken_is c l v n st cl wt ∙ (unfold state_of opening_of in refl ∙ sym (taken_is c l v' n st cl wt))

module _ {c : Catalogue} {l : Limits} {level : ℕ} {r : Run} {s₀ : State} {v : Reading} {head : ℕ} {n : Counters} {st : ℕ → List ℕ} {cl wt : List ℕ}
    (p : Point c l level r s₀ v head n st cl wt) (h : head ≡ n.tail) {s : State} (e : AlikeIn c (forget p.at) s) where
  -- the joining does not look at what is forgotten, and is the same for states alike
  pub joined : join_all c r s ≡ forget (join_all c r p.at)
  joined = join_all_same c r e ∙ join_all_forgets c r p.at

  -- the joining and the new clauses lead to the state after the run
  pub run_ends : link_all c r (join_all c r s) ≡ forget (run_once c level s₀)
  run_ends = ap (link_all c r) joined ∙ (link_all_forgets c r (join_all c r p.at) ∙ ap forget (sym (point_end p h)))

  -- what is above a limit after either is above it after the run
  pub linked_above : above (limits_of l) (link_all c r (join_all c r s)) ≡ true → above (limits_of l) (run_once c level s₀) ≡ true
  linked_above a = sym (forget_above (limits_of l) (run_once c level s₀)) ∙ (ap (above (limits_of l)) (sym run_ends) ∙ a)

  pub joined_above : above (limits_of l) (join_all c r s) ≡ true → above (limits_of l) (run_once c level s₀) ≡ true
  joined_above a = linked_above (stays_above (limits_of l) (link_all_grows c r (join_all c r s)) a)

  -- neither queues a task or serves a name, so nothing else can be beyond the areas

  at_end : (left : ℕ) (u : State) → u.opening ≡ end_run c s.opening → beyond l left u ≡ true → above (limits_of l) u ≡ true
  unfolding beyond end_run
  at_end left u o b =
      let line : u.opening.line ≡ [] = ap (λ x. x.line) o ∙ (ap (λ (x : Opening). x.line) e.opening.rest ∙ (rules.point_given p.given p.reached r p.after).taken) in
      let several : length u.opening.several ≤ 64 =
      rw (ap (λ x. x.several) o ∙ ap (λ (x : Opening). x.several) e.opening.rest) (rules.point_fits p.given p.reached r p.after).several in
      only_first (above (limits_of l) u) _ _ b (le-ltb left (length u.opening.line) (rw line zero-le)) (le-ltb 64 (length u.opening.several) several)

  pub joined_over : (left : ℕ) → beyond l left (join_all c r s) ≡ true → above (limits_of l) (run_once c level s₀) ≡ true
  joined_over left b = joined_above (at_end left (join_all c r s) (join_all_opening c r s) b)

  pub linked_over : (left : ℕ) → beyond l left (link_all c r (join_all c r s)) ≡ true → above (limits_of l) (run_once c level s₀) ≡ true
  linked_over left b = linked_above (at_end left (link_all c r (join_all c r s)) (link_all_opening c r (join_all c r s) ∙ join_all_opening c r s) b)
