-- Candidates that are settled stay so when their ranges are gathered and when the owner gets its variable.
use mathlib.Core.Path.{◌≡◌}
use mathlib.Core.List.{List, [], ◌∷◌}
use Prim.Native.Nat.{ℕ}
use Rattle.rules.specs.Lists.{any}
use Rattle.rules.specs.Catalogue.{Catalogue}
use Rattle.rules.specs.Variables.{Origin}
use Rattle.rules.specs.State.{State}
use Rattle.rules.proofs.Grows.{with_variable_prefix}
use Rattle.rules.proofs.Capped.{add_variable}
use Rattle.state.specs.declared.Limits.{Limits}
use Rattle.state.specs.Changed.{Changed}
use Rattle.variable_map.proofs.Laws.{variables_kept}
use Rattle.decision_tracker.proofs.Laws.{decisions_kept}
use Rattle.encoder.specs.declared.State as encoder
use Rattle.encoder.specs.declared.Counters.{Counters}
use Rattle.encoder.specs.Held.{Reading, opening_of, state_of}
use Rattle.goals.specs.Goals.{HandGathers}
use Rattle.encoder.proofs.Frames.{list_kept, line_kept}
use Rattle.naming.specs.Settled.{AllSettled, Settles, AreSettled}
use Rattle.naming.proofs.Settled.{stands_same, settled_stands}

module _ {st st' : ℕ → List ℕ} (a : Changed (14 ∷ 15 ∷ []) st st') where
  state_kept : (c : Catalogue) (l : Limits) (v : Reading) (n : Counters) (cl wt : List ℕ) → state_of c l v n st' cl wt ≡ state_of c l v n st cl wt
  unfolding state_of opening_of any
  state_kept c l v n cl wt = simp (list_kept a, line_kept a, variables_kept a, decisions_kept a, a.same)

  settles_gathered : {c : Catalogue} {l : Limits} {rs : List ℕ} {n : Counters} → Settles c l rs n st → Settles c l rs n st'
  settles_gathered {c} {l} {n = n} h = record { held = λ f v cl wt. rw (state_kept c l v n cl wt) (h.held f v cl wt) }

pub variable_settled : {c : Catalogue} {rs : List ℕ} (o : Origin) (s : State) → AllSettled c rs s → AllSettled c rs (add_variable o s)
unfolding add_variable
variable_settled o s h = record { each = λ r p a b. settled_stands (with_variable_prefix o s.variables) stands_same (h.each r p a b) }

pub settled_gathered : {c : Catalogue} {rs xs : List ℕ} {m : ℕ} {x x₁ : encoder.State} → HandGathers xs x m x₁ → AreSettled c rs x → AreSettled c rs x₁
settled_gathered a h = rw (a.written.limits, a.written.used) (settles_gathered a.gathers.others h)
