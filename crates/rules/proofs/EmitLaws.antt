-- What an event makes: `emit` adds the event's variables and clauses and no others. Forced values and conflicts touch neither.
use mathlib.Core.Path.{◌≡◌, refl, sym, ◌∙◌, ap}
use mathlib.Core.Bool.{Bool, true, false}
use mathlib.Core.List.Memᴰ
use mathlib.Core.List.{List, [], ◌∷◌, ◌++◌, append-nil, append_assoc}
use Prim.Native.Nat.{ℕ, suc}
use Rattle.rules.specs.Lists.{concat_map, fold, when}
use Rattle.rules.specs.Literal.{Literal, pos, neg}
use Rattle.rules.specs.Clause.{Clause, install, requires, gated, excluded, constrains, forbid, aux_out, aux_owner, lock, any_gate, any_one}
use Rattle.rules.specs.Catalogue.{Catalogue}
use Rattle.rules.specs.Decisions.{Evaluation, undecided, satisfied, falsified, evaluate, is_undecided}
use Rattle.rules.specs.Variables.{Origin, known, with_variables}
use Rattle.rules.specs.Opening.{Task}
use Rattle.rules.specs.Encoding.{Event, served, task_origins, task_clauses, origins, clauses}
use Rattle.rules.specs.State.{State, Run, report, force, propagate_by, propagate, effect, effects, emit, emit_all}
use Rattle.rules.specs.Run.{serve_task}
use Rattle.rules.specs.Called.{◌∈◌}
use Rattle.rules.proofs.Known.{unchanged}

-- ---- forced values and conflicts

record Same (s s' : State) : Type 0 where
  variables : s'.variables ≡ s.variables
  clauses : s'.clauses ≡ s.clauses

still : {s : State} → Same s s
still = record { variables = refl; clauses = refl }

then : {s s' s'' : State} → Same s s' → Same s' s'' → Same s s''
then p q = record { variables = q.variables ∙ p.variables; clauses = q.clauses ∙ p.clauses }

when_same : (b : Bool) (f : State → State) → ((s : State) → Same s (f s)) → (s : State) → Same s (when b f s)
unfolding when
when_same true f h s = h s
when_same false f h s = still

module _ (r : Run) where
  force_same : (i : ℕ) (l : Literal) (s : State) → Same s (force r i l s)
  unfolding force
  force_same i l s = when_same (is_undecided (evaluate s.decisions l)) _ (λ u. record { variables = refl; clauses = refl }) s

  report_same : (i : ℕ) (s : State) → Same s (report r i s)
  unfolding report
  report_same i s = record { variables = refl; clauses = refl }

  propagate_same : (i : ℕ) (x y : Evaluation) (a b : Literal) (s : State) → Same s (propagate_by r i x y a b s)
  unfolding propagate_by
  propagate_same i (falsified j) (falsified k) a b s = report_same i s
  propagate_same i (falsified j) undecided a b s = force_same i b s
  propagate_same i (falsified j) (satisfied k) a b s = still
  propagate_same i undecided (falsified k) a b s = force_same i a s
  propagate_same i undecided undecided a b s = still
  propagate_same i undecided (satisfied k) a b s = still
  propagate_same i (satisfied j) y a b s = still

  effect_same : (i : ℕ) (k : Clause) (s : State) → Same s (effect r i k s)
  unfolding effect propagate
  effect_same i install s = still
  effect_same i (requires o ks ps) s = when_same _ (report r i) (report_same i) s
  effect_same i (gated g ps) s = when_same _ (force r i (neg g)) (force_same i (neg g)) s
  effect_same i (excluded x p w) s = when_same _ (report r i) (report_same i) s
  effect_same i (constrains o p) s = when_same _ (report r i) (report_same i) s
  effect_same i (forbid p l) s = propagate_same i _ _ (neg p) l s
  effect_same i (aux_out p v) s = when_same _ (force r i (pos v)) (force_same i (pos v)) s
  effect_same i (aux_owner o v) s = when_same _ (report r i) (report_same i) s
  effect_same i (lock p) s = still
  effect_same i (any_gate g o) s = propagate_same i _ _ (pos g) (neg o) s
  effect_same i (any_one y p) s = when_same _ (force r i (pos y)) (force_same i (pos y)) s

  effects_same : (i : ℕ) (ks : List Clause) (s : State) → Same s (effects r i ks s)
  unfolding effects
  effects_same i [] s = still
  effects_same i (k ∷ ks) s = then (effect_same i k s) (effects_same (suc i) ks (effect r i k s))

-- ---- one event

abbrev pub variables_after : Catalogue → Event → List Origin → List Origin
variables_after c e vs = with_variables (origins c e) vs

abbrev pub clauses_of : Catalogue → (before : ℕ) → List Origin → Event → List Clause
clauses_of c before vs e = clauses c vs (variables_after c e vs) before e

module _ (c : Catalogue) (r : Run) where
  pub emit_variables : (e : Event) (s : State) → (emit c r e s).variables ≡ variables_after c e s.variables
  unfolding emit
  emit_variables e s = (effects_same r _ _ _).variables

  pub emit_clauses : (e : Event) (s : State) → (emit c r e s).clauses ≡ s.clauses ++ clauses_of c r.before s.variables e
  unfolding emit
  emit_clauses e s = (effects_same r _ _ _).clauses

  pub serve_task_variables : (t : Task) (s : State) → (serve_task c r t s).variables ≡ with_variables (task_origins c t) s.variables
  unfolding serve_task origins
  serve_task_variables t s = emit_variables (served t) _

  pub serve_task_clauses : (t : Task) (s : State)
      → (serve_task c r t s).clauses ≡ s.clauses ++ task_clauses c s.variables (with_variables (task_origins c t) s.variables) t
  unfolding serve_task origins clauses
  serve_task_clauses t s = emit_clauses (served t) _

-- ---- events, one after another

unfoldable pub variables_after_all : Catalogue → List Event → List Origin → List Origin
variables_after_all c [] vs = vs
variables_after_all c (e ∷ es) vs = variables_after_all c es (variables_after c e vs)

unfoldable pub clauses_of_all : Catalogue → (before : ℕ) → List Origin → List Event → List Clause
clauses_of_all c before vs [] = []
clauses_of_all c before vs (e ∷ es) = clauses_of c before vs e ++ clauses_of_all c before (variables_after c e vs) es

module _ (c : Catalogue) (r : Run) where
  pub emit_all_variables : (es : List Event) (s : State) → (emit_all c r es s).variables ≡ variables_after_all c es s.variables
  unfolding emit_all fold variables_after_all
  emit_all_variables [] s = refl
  emit_all_variables (e ∷ es) s = emit_all_variables es (emit c r e s) ∙ ap (variables_after_all c es) (emit_variables c r e s)

  pub emit_all_clauses : (es : List Event) (s : State) → (emit_all c r es s).clauses ≡ s.clauses ++ clauses_of_all c r.before s.variables es
  unfolding emit_all fold clauses_of_all
  emit_all_clauses [] s = sym (append-nil s.clauses)
  emit_all_clauses (e ∷ es) s =
      emit_all_clauses es (emit c r e s) ∙ rw (emit_variables c r e s, emit_clauses c r e s) (append_assoc s.clauses _ _)

-- events that name no new variable
pub settled : (c : Catalogue) (before : ℕ) (vs : List Origin) (es : List Event) → ((e : Event) → e ∈ es → (x : Origin) → x ∈ origins c e → known vs x ≡ true)
    → (variables_after_all c es vs ≡ vs) × (clauses_of_all c before vs es ≡ concat_map (clauses c vs vs before) es)
unfolding variables_after_all clauses_of_all concat_map
settled c before vs [] h = (refl, refl)
settled c before vs (e ∷ es) h =
    let same = unchanged (origins c e) vs (h e (Memᴰ.head refl)) in
    let r = settled c before vs es (λ d m. h d (Memᴰ.tail m)) in
    rw same (r.0, ap (λ l. clauses c vs vs before e ++ l) r.1)
