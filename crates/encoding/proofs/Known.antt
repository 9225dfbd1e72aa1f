-- At every point of a run the tracked parts have variables, no origin has two, and the first are those with which the run began.
use mathlib.Core.Path.{◌≡◌, ap, ◌∙◌}
use mathlib.Core.List.{List}
use Prim.Native.Nat.{ℕ}
use Rattle.rules.specs.Catalogue.{Catalogue}
use Rattle.rules.specs.Opening.{Task, Opening}
use Rattle.rules.specs.Variables.{Origin, part_origin}
use Rattle.rules.specs.State.{State, decided_true, Run}
use Rattle.rules.specs.Run.{serve_task, join_all, begun}
use Rattle.rules.specs.Limits.{Limits}
use Rattle.rules.proofs.Each.{each_imp}
use Rattle.rules.proofs.Places.{Distinct, keeps_variable}
use Rattle.rules.proofs.Grows.{Prefix, whole, longer, serve_waits, begin_waits}
use Rattle.rules.proofs.Reached.{Reached}
use Rattle.rules.proofs.Line.{serve_task_opening, After, begins, serves, first_state}
use Rattle.rules.proofs.RunLaws.{Known, TrackedKnown, Within, within_prefix, serve_task_within, join_all_within, tracked_known}
use Rattle.rules.proofs.Variables.{within_distinct, distinct}

-- `vs`: the variables with which the run began
pub record Tracked (vs : List Origin) (u : State) : Type 0 where
  pub known : TrackedKnown u
  pub apart : Distinct u.variables
  pub older : Prefix vs u.variables

module _ (c : Catalogue) (r : Run) where
  same_tracked : (t : Task) (u : State) → (serve_task c r t u).opening.tracked ≡ u.opening.tracked
  same_tracked t u = ap (λ (o : Opening). o.tracked) (serve_task_opening c r t u) ∙ (serve_waits c (decided_true u) t u.opening).tracked

  module _ {vs : List Origin} where
    task_tracked : (t : Task) {u : State} → Tracked vs u → Tracked vs (serve_task c r t u)
    task_tracked t {u} k =
        let w : Within c r u (serve_task c r t u) = serve_task_within c Within.begins t in
        let p = within_prefix c w in
        let still : Known (serve_task c r t u).variables u.opening.tracked =
        each_imp (λ q e. (keeps_variable p (part_origin q) e).0) k.known.known_parts in
        record { known = record { known_parts = rw (same_tracked t u) still }; apart = within_distinct k.apart w; older = longer k.older p }

    pub point_tracked : {ts₀ : List Task} {s₀ : State} → Tracked vs s₀ → {n : ℕ} {ts : List Task} {u : State} → After c r ts₀ s₀ n ts u → Tracked vs u
    point_tracked k begins = k
    point_tracked k (serves {t = t} a) =
        let m = task_tracked t (point_tracked k a) in
        record { known = record { known_parts = m.known.known_parts }; apart = m.apart; older = m.older }

    pub joined_tracked : {u : State} → Tracked vs u → Tracked vs (join_all c r u)
    joined_tracked {u} k =
        let j = join_all_within c {r = r} {s₀ = u} {s = u} Within.begins k.known in
        record { known = j.1; apart = within_distinct k.apart j.0; older = longer k.older (within_prefix c j.0) }

pub first_tracked : {l : Limits} {c : Catalogue} {s : State} → Reached l c s → Tracked s.variables (first_state c s)
unfolding begun
first_tracked {c = c} {s = s} reached =
    record {
      known = record { known_parts = rw (begin_waits c s.opening).tracked (tracked_known reached).known_parts };
      apart = distinct reached;
      older = whole;
    }
