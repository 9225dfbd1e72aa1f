-- What a clause does when it is made: nothing, or it reports a conflict, or it sets an undecided literal of its own (`Effect`). Beside
-- decisions and conflicts, an event changes the variables and clauses that it adds, and nothing else.
use mathlib.Core.Path.{◌≡◌, refl, ◌∙◌}
use mathlib.Core.Bool.{Bool}
use mathlib.Core.List.{List, [], ◌∷◌, ◌++◌, Memᴰ}
use mathlib.Core.Option.{some}
use Prim.Native.Nat.{ℕ, suc}
use Rattle.rules.specs.Lists.{snoc, fold, when}
use Rattle.rules.specs.Literal.{Literal, pos, neg}
use Rattle.rules.specs.Clause.{Clause, install, requires, gated, excluded, constrains, forbid, aux_out, aux_owner, lock, any_gate, any_one}
use Rattle.rules.specs.Catalogue.{Catalogue}
use Rattle.rules.specs.Decisions.{Decision, Evaluation, undecided, satisfied, falsified}
use Rattle.rules.specs.Variables.{Origin, with_variables}
use Rattle.rules.specs.Encoding.{Event, origins, clauses}
use Rattle.rules.specs.State.{State, set_variables, set_clauses, set_decisions, set_conflicts, Run}
use Rattle.rules.specs.State.{report, force, propagate_by, propagate, effect, effects, emit, emit_all}
use Rattle.rules.proofs.Each.{when_cases}
use Rattle.rules.proofs.Evaluation.{Undecided, undecided_out}

-- the literals that a clause can set when it is made
unfoldable pub settable : Clause → List Literal
settable install = []
settable (requires o ks ps) = []
settable (gated g ps) = neg g ∷ []
settable (excluded x p w) = []
settable (constrains o p) = []
settable (forbid p l) = neg p ∷ l ∷ []
settable (aux_out p v) = pos v ∷ []
settable (aux_owner o v) = []
settable (lock p) = []
settable (any_gate g o) = pos g ∷ neg o ∷ []
settable (any_one y p) = pos y ∷ []

-- clause i sets a literal, at the run's level
abbrev pub forced : Run → ℕ → Literal → Decision
forced r i l = record { variable = l.variable; value = l.positive; level = r.level; clause = some i }

module _ (r : Run) (i : ℕ) where
  pub data Effect (k : Clause) (s : State) : State → Type 0 where
    nothing : Effect k s s
    reports : Effect k s (set_conflicts (snoc s.conflicts (r.number, i)) s)
    sets : {l : Literal} → Memᴰ l (settable k) → Undecided s.decisions l.variable → Effect k s (set_decisions (snoc s.decisions (forced r i l)) s)

  module _ {k : Clause} (s : State) where
    force_is : {l : Literal} → Memᴰ l (settable k) → Effect k s (force r i l s)
    unfolding force
    force_is {l} m = when_cases (Effect k s) _ _ s Effect.nothing (λ e. Effect.sets m (undecided_out s.decisions l e))

    propagate_is : (x y : Evaluation) {a b : Literal} → Memᴰ a (settable k) → Memᴰ b (settable k) → Effect k s (propagate_by r i x y a b s)
    unfolding propagate_by report
    propagate_is (falsified j) (falsified n) p q = Effect.reports
    propagate_is (falsified j) undecided p q = force_is q
    propagate_is (falsified j) (satisfied n) p q = Effect.nothing
    propagate_is undecided (falsified n) p q = force_is p
    propagate_is undecided undecided p q = Effect.nothing
    propagate_is undecided (satisfied n) p q = Effect.nothing
    propagate_is (satisfied j) y p q = Effect.nothing

    reports_if : (b : Bool) → Effect k s (when b (report r i) s)
    unfolding report
    reports_if b = when_cases (Effect k s) b _ s Effect.nothing (λ e. Effect.reports)

    forces_if : (b : Bool) {l : Literal} → Memᴰ l (settable k) → Effect k s (when b (force r i l) s)
    forces_if b m = when_cases (Effect k s) b _ s Effect.nothing (λ e. force_is m)

  pub effect_is : (k : Clause) (s : State) → Effect k s (effect r i k s)
  unfolding effect propagate settable
  effect_is install s = Effect.nothing
  effect_is (requires o ks ps) s = reports_if s _
  effect_is (gated g ps) s = forces_if s _ (Memᴰ.head refl)
  effect_is (excluded x p w) s = reports_if s _
  effect_is (constrains o p) s = reports_if s _
  effect_is (forbid p l) s = propagate_is s _ _ (Memᴰ.head refl) (Memᴰ.tail (Memᴰ.head refl))
  effect_is (aux_out p v) s = forces_if s _ (Memᴰ.head refl)
  effect_is (aux_owner o v) s = reports_if s _
  effect_is (lock p) s = Effect.nothing
  effect_is (any_gate g o) s = propagate_is s _ _ (Memᴰ.head refl) (Memᴰ.tail (Memᴰ.head refl))
  effect_is (any_one y p) s = forces_if s _ (Memᴰ.head refl)

-- decisions and conflicts apart, a clause's effect leaves the state as it is
pub record Leaves (s s' : State) : Type 0 where
  pub opening : s'.opening ≡ s.opening
  pub variables : s'.variables ≡ s.variables
  pub clauses : s'.clauses ≡ s.clauses
  pub runs : s'.runs ≡ s.runs

pub effect_leaves : {r : Run} {i : ℕ} {k : Clause} {s s' : State} → Effect r i k s s' → Leaves s s'
effect_leaves Effect.nothing = record { opening = refl; variables = refl; clauses = refl; runs = refl }
effect_leaves Effect.reports = record { opening = refl; variables = refl; clauses = refl; runs = refl }
effect_leaves (Effect.sets m u) = record { opening = refl; variables = refl; clauses = refl; runs = refl }

effects_leave : (r : Run) (i : ℕ) (ks : List Clause) (s : State) → Leaves s (effects r i ks s)
unfolding effects
effects_leave r i [] s = record { opening = refl; variables = refl; clauses = refl; runs = refl }
effects_leave r i (k ∷ ks) s =
    let p = effect_leaves (effect_is r i k s) in
    let q = effects_leave r (suc i) ks (effect r i k s) in
    record {
      opening = q.opening ∙ p.opening;
      variables = q.variables ∙ p.variables;
      clauses = q.clauses ∙ p.clauses;
      runs = q.runs ∙ p.runs;
    }

module _ (c : Catalogue) where
  abbrev pub variables_after : Event → State → List Origin
  variables_after e s = with_variables (origins c e) s.variables

  -- an event's variables and clauses are stored; their effects come after
  abbrev pub stored : Run → Event → State → State
  stored r e s = set_clauses (s.clauses ++ clauses c s.variables (variables_after e s) r.before e) (set_variables (variables_after e s) s)

  pub emit_leaves : (r : Run) (e : Event) (s : State) → Leaves (stored r e s) (emit c r e s)
  unfolding emit
  emit_leaves r e s = effects_leave r _ _ _

  pub emits_opening : (r : Run) (es : List Event) (s : State) → (emit_all c r es s).opening ≡ s.opening
  unfolding emit_all fold
  emits_opening r [] s = refl
  emits_opening r (e ∷ es) s = emits_opening r es (emit c r e s) ∙ (emit_leaves r e s).opening
