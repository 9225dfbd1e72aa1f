-- The last clause sets a literal.
use mathlib.Core.Path.{◌≡◌, refl, ap}
use mathlib.Core.Bool.{Bool, false}
use mathlib.Core.List.{List}
use Prim.Native.Nat.{ℕ, ◌-◌, ◌<◌}
use native.Mathlib.Omega.{arith}
use Rattle.rules.specs.Lists.{any, snoc, when}
use Rattle.rules.specs.Literal.{Literal}
use Rattle.rules.specs.Catalogue.{Catalogue}
use Rattle.rules.specs.Decisions.{evaluate}
use Rattle.rules.specs.State.{State, Run, force}
use Rattle.rules.proofs.Effects.{forced}
use Rattle.rules.proofs.Grows.{whole}
use Rattle.clause.specs.declared.Literal as code
use Rattle.std.specs.Prelude.{Option, None, Some}
use Rattle.clause.specs.Literals.{literal_of}
use Rattle.state.specs.declared.Limits.{Limits}
use Rattle.state.specs.Layout.{held}
use Rattle.variable_map.proofs.Laws.{variables_kept}
use Rattle.decision_tracker.specs.declared.Decision as tracker
use Rattle.decision_tracker.specs.Tracking.{clause_of, decision_of, decisions, seen, says_undecided, Told}
use Rattle.decision_tracker.proofs.Values.{undecided_seen, reads_undecided}
use Rattle.encoder.specs.declared.Counters.{Counters}
use Rattle.encoder.specs.declared.Run as runs
use Rattle.encoder.specs.declared.State as encoder
use Rattle.encoder.specs.Held.{run_of, Reading, opening_of, state_of, Good}
use Rattle.encoder.specs.Did.{Widens}
use Rattle.encoder.specs.Does.{regions_of, decisions_of}
use Rattle.encoder.proofs.Frames.{good_kept, list_kept, line_kept}
use Rattle.encoder.proofs.Did.{did_idle, did_made, beside_kept}
use Rattle.encoder.proofs.Widening.{widens_when}
use Rattle.encoder.proofs.Counted.{with_decisions}
use Rattle.storing.specs.Adding.{Forces}

-- ---- a literal is set

pub force_widens : (r : Run) (i : ℕ) (x : Literal) (s : State) → Widens s (force r i x s)
unfolding force
force_widens r i x s =
    widens_when _ _ (λ u. record { grows = record { variables = whole; clauses = whole; waiting = whole }; line = omega arith; several = omega arith }) s

abbrev pub new_decision : (x : ℕ) (b : Bool) (level clause : ℕ) → tracker.Decision
new_decision x b level clause = record { variable = x; value = b; level = level; clause = Some clause }

module _ (l : Limits) (r : runs.Run) (n : Counters) (x : code.Literal) (st : ℕ → List ℕ) {v : Option Bool}
    (e : v ≡ seen (evaluate (decisions n.decisions st) (literal_of x))) where
  force_idle : says_undecided v ≡ false → (c : Catalogue) (w : Reading) (cl wt : List ℕ)
      → force (run_of r) (n.clauses - 1) (literal_of x) (state_of c l w n st cl wt) ≡ state_of c l w n st cl wt
  force_idle q c w cl wt = unfold force when state_of in rw (undecided_seen, ← e, q)

  module _ (q : v ≡ None) {y : ℕ} {b : Bool} (ey : y ≡ (literal_of x).variable) (eb : b ≡ (literal_of x).positive) (h : 0 < n.clauses) where
    new_is : decision_of (new_decision y b r.level (n.clauses - 1)) ≡ forced (run_of r) (n.clauses - 1) (literal_of x)
    unfolding decision_of clause_of run_of
    new_is = rw (ey, eb)

    module _ (count : ℕ) (st' : ℕ → List ℕ) (t : Told l count (snoc (decisions n.decisions st) (decision_of (new_decision y b r.level (n.clauses - 1)))) st st')
        (c : Catalogue) (cl wt : List ℕ) where
      force_state : (w : Reading) → state_of c l w (with_decisions count n) st' cl wt ≡ force (run_of r) (n.clauses - 1) (literal_of x) (state_of c l w n st cl wt)
      unfolding state_of opening_of force when any
      force_state w =
          let ch = t.rest in
          let u = reads_undecided (decisions n.decisions st) (literal_of x) v e q in
          simp (t.is, new_is, u, list_kept ch, line_kept ch, variables_kept ch, ch.same)

      force_good : Good c l n st cl wt → Good c l (with_decisions count n) st' cl wt
      unfolding any
      force_good g = good_kept t.rest g (search) refl refl refl refl refl g.entries

module _ {r : runs.Run} {x : encoder.State} {z : code.Literal} {v : Option Bool} (e : v ≡ seen (evaluate (decisions_of x) (literal_of z))) where
  pub force_decided : {b : Bool} → v ≡ Some b → Forces r z x x
  force_decided q =
      record {
        does = record {
          limits = refl;
          area = refl;
          did = λ c. record { is = λ cl wt. did_idle (λ w s. force_widens _ _ _ s) (λ g _ w. force_idle x.limits r x.used z _ e (ap says_undecided q) c w cl wt) };
        };
      }

  pub force_sets : v ≡ None → {y : ℕ} {b : Bool} → y ≡ (literal_of z).variable → b ≡ (literal_of z).positive → 0 < x.used.clauses
      → {count : ℕ} {x' : encoder.State} → x'.limits ≡ x.limits → x'.area.ghost_name ≡ x.area.ghost_name → x'.used ≡ with_decisions count x.used
      → Told x.limits count (snoc (decisions_of x) (decision_of (new_decision y b r.level (x.used.clauses - 1)))) (regions_of x) (held x.limits x'.area.now)
      → Forces r z x x'
  force_sets q ey eb h i j u t =
      record {
        does = record {
          limits = i;
          area = j;
          did = λ c. record {
            is = λ cl wt. rw u (did_made (λ w s. force_widens _ _ _ s) refl (λ g. unfold any in beside_kept t.rest refl refl refl) refl refl (λ i. refl)
                (force_good x.limits r x.used z _ e q ey eb h _ _ t c cl wt) (λ g. force_state x.limits r x.used z _ e q ey eb h _ _ t c cl wt));
          };
        };
      }
