-- An origin gets its variable when first named, or the limit is reached; and its variable is looked up.
use mathlib.Core.Path.{◌≡◌, refl, sym, ◌∙◌}
use mathlib.Core.Bool.{true, false, true≢false}
use mathlib.Core.List.{List}
use Prim.Native.Nat.{ℕ}
use native.Mathlib.Omega.{arith}
use lib.Dec.{ltb}
use lib.ListN.{length}
use borrow.Author.Tests.{lt-ltb}
use Rattle.rules.specs.Lists.{any}
use Rattle.rules.specs.Catalogue.{Catalogue}
use Rattle.rules.specs.Variables.{Origin, known, with_variable}
use Rattle.rules.proofs.ListLaws.{length_snoc}
use Rattle.rules.proofs.Each.{each_imp}
use Rattle.rules.proofs.Places.{stands}
use Rattle.rules.proofs.Grows.{Prefix, with_variable_prefix}
use Rattle.rules.proofs.Capped.{add_variable, only_variables}
use Rattle.state.specs.declared.Limits.{Limits}
use Rattle.std.specs.Prelude.{Option, None, Some, unwrap_or}
use Rattle.variable_map.specs.Mapping.{variables, found, Made, Lacking}
use Rattle.variable_map.proofs.Laws.{count}
use Rattle.variable_map.proofs.Places.{found_known, found_none, with_new}
use Rattle.decision_tracker.proofs.Laws.{decisions_kept}
use Rattle.encoder.specs.declared.Counters.{Counters}
use Rattle.solver.specs.Rows.{rows}
use Rattle.encoder.specs.Held.{Reading, clauses_in, opening_of, state_of, Good}
use Rattle.encoder.specs.Did.{room_of, beyond, filled, Looked, StateDid}
use Rattle.state.specs.Limits.{limits_of}
use Rattle.encoder.proofs.Counted as counted
use Rattle.encoder.proofs.Frames.{state_kept, list_kept, line_kept, sound_still, clauses_still, good_within}
use Rattle.encoder.proofs.Did.{did_filled, did_made, beside_kept}
use Rattle.encoder.proofs.Widening.{add_variable_widens}

module _ (c : Catalogue) (l : Limits) (n : Counters) where
  module _ {o : Origin} {count x : ℕ} {st st' : ℕ → List ℕ} (m : Made l n.variables o count x st st') (cl wt : List ℕ) (g : Good c l n st cl wt) where
    prefix : Prefix (variables n.variables st) (with_variable o (variables n.variables st))
    prefix = with_variable_prefix o (variables n.variables st)

    same_clauses : clauses_in c (with_variable o (variables n.variables st)) (st 19) (rows n.clauses cl)
        ≡ clauses_in c (variables n.variables st) (st 19) (rows n.clauses cl)
    same_clauses = clauses_still prefix (st 19) g.clauses.sound

    variable_state : (v : Reading) → state_of c l v (counted.with_variables count n) st' cl wt ≡ add_variable o (state_of c l v n st cl wt)
    unfolding state_of opening_of add_variable any
    variable_state v =
        let ch = m.grown.rest in
        simp (m.grown.is, ch.same, same_clauses, list_kept ch, line_kept ch, decisions_kept ch)

    variable_good : Good c l (counted.with_variables count n) st' cl wt
    unfolding any
    variable_good =
        let ch = m.grown.rest in
        record {
          state = state_kept ch (search) g.state;
          clauses = record {
            room = g.clauses.room;
            literals = rw (m.grown.is, ch.same 19 refl, same_clauses) g.clauses.literals;
            sound = rw m.grown.is (each_imp (λ r. sound_still prefix) g.clauses.sound);
          };
          entries = g.entries;
        }

  pub variable_named : {o : Origin} {count x : ℕ} {st st' : ℕ → List ℕ} → Made l n.variables o count x st st'
      → StateDid c l (λ v. add_variable o) n st (counted.with_variables count n) st'
  variable_named {o} m =
      record {
        is = λ cl wt. did_made (λ v. add_variable_widens o) refl (λ g. unfold any in beside_kept m.grown.rest refl refl refl) refl refl (λ k. refl) (variable_good m cl wt) (variable_state m cl wt);
      }

  variable_beyond : (o : Origin) (st : ℕ → List ℕ) (cl wt : List ℕ) (v : Reading) → known (variables n.variables st) o ≡ false
      → n.variables ≡ l.variables → Good c l n st cl wt → beyond l (room_of l n) (add_variable o (state_of c l v n st cl wt)) ≡ true
  unfolding beyond add_variable
  variable_beyond o st cl wt v k h g = rw (only_variables (limits_of l) (state_of c l v n st cl wt) (good_within g v) _, longer_now)
    where
      longer_now : ltb (limits_of l).variables (length (with_variable o (state_of c l v n st cl wt).variables)) ≡ true
      longer_now =
          lt-ltb (limits_of l).variables (length (with_variable o (state_of c l v n st cl wt).variables))
          (unfold limits_of state_of in
          rw (with_new (variables n.variables st) o k, length_snoc (variables n.variables st) o, count n.variables st) (omega arith))

  pub variable_lacking : {o : Origin} {st st' : ℕ → List ℕ} {r : Counters} → Lacking l n.variables o st st' → r ≡ filled n
      → StateDid c l (λ v. add_variable o) n st r st'
  variable_lacking {o} {st} k e =
      rw (e, k.same)
      (record { is = λ cl wt. did_filled (λ v. add_variable_widens o) (λ g v. variable_beyond o st cl wt v k.unknown k.full g) })

-- ---- an origin's variable

pub looked_is : (vs : List Origin) (o : Origin) (r : Option ℕ) (x : ℕ) → r ≡ found vs o → x ≡ unwrap_or r 0 → Looked vs o x
looked_is vs o (Some y) x e d =
    let k = found_known vs o (Some y) e y refl in
    record { is = λ _. d ∙ k.1; below = λ _. rw (d, k.1) (stands vs o o k.0).0 }
looked_is vs o None x e d =
    let k = found_none vs o None e refl in
    record { is = λ t. absurd (true≢false (sym t ∙ k)); below = λ t. absurd (true≢false (sym t ∙ k)) }
