-- A run is made of four kinds of step (`Within`): another opening, an event's variables and clauses stored, a conflict reported, an undecided
-- literal of a stored clause set. What those keep, a run keeps: `emit`, `serve_task`, `serve_line` and `run_once` make no other step.
use mathlib.Core.Path.{◌≡◌, refl, sym, ◌∙◌, ap}
use mathlib.Core.Bool.{true}
use mathlib.Core.List.{List, [], ◌∷◌, ◌++◌, append-nil, Memᴰ}
use Prim.Native.Nat.{ℕ, zero, suc, ◌<◌}
use native.Mathlib.Omega.{arith}
use lib.ListN.{length, get_or, drop, length-append}
use lib.Seq.{append_snoc, get_or_at}
use Rattle.rules.specs.Lists.{snoc, fold, concat_map}
use Rattle.rules.specs.Literal.{Literal}
use Rattle.rules.specs.Clause.{Clause, install}
use Rattle.rules.specs.Catalogue.{Catalogue, name_of}
use Rattle.rules.specs.Variables.{Origin, known, with_variables, part_origin}
use Rattle.rules.specs.Opening.{Task, Opening, add, draw, joining, end_run, tracked_of}
use Rattle.rules.specs.Encoding.{Event, served, joins, links, origins}
use Rattle.rules.specs.State.{State, set_opening, set_decisions, set_conflicts, decided_true, Run, effects, emit, emit_all}
use Rattle.rules.specs.Run.{name_if_one, joins_from, links_for, serve_task, serve_line, join_all, link_all, begun, run_once}
use Rattle.rules.specs.Records.{Command}
use Rattle.rules.specs.Limits.{Limits}
use Rattle.rules.specs.Sheet.{decide, carried_out}
use Rattle.rules.proofs.Each.{Each, each_snoc, each_imp, each_filter, each_map_of, when_cases}
use Rattle.rules.proofs.Evaluation.{Undecided}
use Rattle.rules.proofs.Effects.{settable, forced, Effect, effect_is, effect_leaves, stored, emit_leaves, emits_opening}
use Rattle.rules.proofs.Grows.{Prefix, whole, longer, with_variables_prefix, serve_waits, begin_waits}
use Rattle.rules.proofs.Places.{keeps_variable, with_variables_known}
use Rattle.rules.proofs.Reached.{Reached, command}

-- ---- the steps of a run

-- clause i is stored, and can set l
pub record CanSet (ks : List Clause) (i : ℕ) (l : Literal) : Type 0 where
  pub below : i < length ks
  pub among : Memᴰ l (settable (get_or ks i install))

-- these parts have variables
abbrev pub Known : List Origin → List ℕ → Type 0
Known vs ps = Each (λ p. known vs (part_origin p) ≡ true) ps

pub record TrackedKnown (s : State) : Type 0 where
  pub known_parts : Known s.variables s.opening.tracked

-- The parts that an event takes to have variables without naming them. Only a join has such, and they joined before.
unfoldable pub earlier : Event → List ℕ
earlier (served t) = []
earlier (joins p ps) = ps
earlier (links n ps) = []

module _ (c : Catalogue) where
  -- the states at the points of run r, which began in s₀
  pub data Within (r : Run) (s₀ : State) : State → Type 0 where
    begins : Within r s₀ s₀
    opens : {s : State} → Within r s₀ s → (o : Opening) → Within r s₀ (set_opening o s)
    stores : {s : State} → Within r s₀ s → (e : Event) → Known s.variables (earlier e) → Within r s₀ (stored c r e s)
    reports : {s : State} → Within r s₀ s → (i : ℕ) → i < length s.clauses → Within r s₀ (set_conflicts (snoc s.conflicts (r.number, i)) s)
    sets : {s : State} → Within r s₀ s → {i : ℕ} {l : Literal} → CanSet s.clauses i l → Undecided s.decisions l.variable
        → Within r s₀ (set_decisions (snoc s.decisions (forced r i l)) s)

  pub within_prefix : {r : Run} {s₀ s : State} → Within r s₀ s → Prefix s₀.variables s.variables
  within_prefix Within.begins = whole
  within_prefix (Within.opens w o) = within_prefix w
  within_prefix (Within.stores {s} w e n) = longer (within_prefix w) (with_variables_prefix (origins c e) s.variables)
  within_prefix (Within.reports w i l) = within_prefix w
  within_prefix (Within.sets w t u) = within_prefix w

  module _ {r : Run} {s₀ : State} where
    effect_within : {i : ℕ} {k : Clause} {s s' : State} → Within r s₀ s → i < length s.clauses → get_or s.clauses i install ≡ k
        → Effect r i k s s' → Within r s₀ s'
    effect_within w b e Effect.nothing = w
    effect_within {i} w b e Effect.reports = Within.reports w i b
    effect_within w b e (Effect.sets {l} m u) = Within.sets w {l = l} (record { below = b; among = rw e m }) u

    -- `js` are the clauses before `ks`
    effects_within : (js ks : List Clause) {s : State} → s.clauses ≡ js ++ ks → Within r s₀ s → Within r s₀ (effects r (length js) ks s)
    unfolding effects
    effects_within js [] e w = w
    effects_within js (k ∷ ks) {s} e w =
        let b : length js < length s.clauses = rw (e, length-append js (k ∷ ks)) (omega arith) in
        let x = effect_is r (length js) k s in
        let w₁ = effect_within w b (rw e (get_or_at js k ks install (length js) refl)) x in
        rw length_snoc at (effects_within (js ++ (k ∷ [])) ks ((effect_leaves x).clauses ∙ (e ∙ sym (append_snoc js k ks))) w₁)
      where
        length_snoc : length (js ++ (k ∷ [])) ≡ suc (length js)
        length_snoc = rw (length-append js (k ∷ [])) (omega arith)

    pub emit_within : {s : State} → Within r s₀ s → (e : Event) → Known s.variables (earlier e) → Within r s₀ (emit c r e s)
    unfolding emit
    emit_within {s} w e n = effects_within s.clauses _ refl (Within.stores w e n)

  -- ---- the line

  module _ {r : Run} {s₀ : State} where
    pub serve_task_within : {s : State} → Within r s₀ s → (t : Task) → Within r s₀ (serve_task c r t s)
    unfolding serve_task earlier
    serve_task_within w t = emit_within (Within.opens w _) (served t) Each.nil

    pub serve_line_within : (fuel : ℕ) (ts : List Task) {s : State} → Within r s₀ s → Within r s₀ (serve_line c r fuel ts s)
    unfolding serve_line
    serve_line_within zero ts w = w
    serve_line_within (suc fuel) [] w = w
    serve_line_within (suc fuel) (t ∷ ts) w = serve_line_within fuel _ (Within.opens (serve_task_within w t) _)

  serve_task_tracked : (r : Run) (t : Task) (s : State) → (serve_task c r t s).opening.tracked ≡ s.opening.tracked
  unfolding serve_task
  serve_task_tracked r t s = ap (λ (o : Opening). o.tracked) (emit_leaves c r (served t) _).opening ∙ (serve_waits c (decided_true s) t s.opening).tracked

  serve_line_tracked : (r : Run) (fuel : ℕ) (ts : List Task) (s : State) → (serve_line c r fuel ts s).opening.tracked ≡ s.opening.tracked
  unfolding serve_line
  serve_line_tracked r zero ts s = refl
  serve_line_tracked r (suc fuel) [] s = refl
  serve_line_tracked r (suc fuel) (t ∷ ts) s = serve_line_tracked r fuel _ _ ∙ serve_task_tracked r t s

  -- ---- the run's end: a part that joins has its variable from then on

  known_after : {vs ws : List Origin} {ps : List ℕ} → Prefix vs ws → Known vs ps → Known ws ps
  known_after g k = each_imp (λ p e. (keeps_variable g (part_origin p) e).0) k

  emits_within : {r : Run} {s₀ s : State} {es : List Event} → Each (λ e. earlier e ≡ []) es → Within r s₀ s → Within r s₀ (emit_all c r es s)
  unfolding emit_all fold
  emits_within Each.nil w = w
  emits_within {r} {s = s} (Each.cons {x = e} n ns) w = emits_within {s = emit c r e s} ns (emit_within w e (rw n Each.nil))

  joined_known : (p : ℕ) (ps : List ℕ) (vs : List Origin) → known (with_variables (origins c (joins p ps)) vs) (part_origin p) ≡ true
  joined_known p ps vs = with_variables_known _ vs (part_origin p) (unfold origins in Memᴰ.head refl)

  earlier_known : (p n : ℕ) (vs : List Origin) {ts : List ℕ} → Known vs ts → Known vs (earlier (joins p (tracked_of c n ts)))
  unfolding earlier tracked_of
  earlier_known p n vs k = each_filter _ k

  -- parts ps join those of ts, which have variables
  joins_within : {r : Run} {s₀ : State} (ts ps : List ℕ) {s : State} → Within r s₀ s → Known s.variables ts
      → Within r s₀ (emit_all c r (joins_from c ts ps) s) × Known (emit_all c r (joins_from c ts ps) s).variables (ts ++ ps)
  unfolding emit_all fold joins_from snoc
  joins_within ts [] w k = (w, rw append-nil k)
  joins_within {r} ts (p ∷ ps) {s} w k =
      let e = joins p (tracked_of c (name_of c p) ts) in
      let g = with_variables_prefix (origins c e) s.variables in
      let k₁ = each_snoc (known_after g k) (joined_known p _ s.variables) in
      let v : Known (emit c r e s).variables (ts ++ (p ∷ [])) = rw (emit_leaves c r e s).variables k₁ in
      rw append_snoc at (joins_within (ts ++ (p ∷ [])) ps (emit_within w e (earlier_known p _ s.variables k)) v)

  pub join_all_within : {r : Run} {s₀ s : State} → Within r s₀ s → TrackedKnown s → Within r s₀ (join_all c r s) × TrackedKnown (join_all c r s)
  unfolding join_all end_run
  join_all_within {r} {s₀} {s} w k =
      let p = joins_within s.opening.tracked (joining c s.opening) (Within.opens w (end_run c s.opening)) k.known_parts in
      (p.0, record { known_parts = rw emits_opening p.1 })

  links_none_earlier : (new : List Origin) (ts : List ℕ) → Each (λ e. earlier e ≡ []) (links_for c new ts)
  unfolding links_for earlier
  links_none_earlier new ts = each_map_of _ (concat_map name_if_one new) (λ n. refl)

  pub link_all_within : {r : Run} {s₀ s : State} → Within r s₀ s → TrackedKnown s → Within r s₀ (link_all c r s) × TrackedKnown (link_all c r s)
  unfolding link_all
  link_all_within {r} {s₀} {s} w k =
      let n = links_none_earlier (drop r.before s.variables) s.opening.tracked in
      let own : Within r s (emit_all c r _ s) = emits_within n Within.begins in
      (emits_within n w, record { known_parts = rw emits_opening (known_after (within_prefix own) k.known_parts) })

  -- ---- the run

  ended_within : {r : Run} {s₀ s : State} (fuel : ℕ) (ts : List Task) → Within r s₀ s → TrackedKnown s
      → Within r s₀ (link_all c r (join_all c r (serve_line c r fuel ts s))) × TrackedKnown (link_all c r (join_all c r (serve_line c r fuel ts s)))
  ended_within {r} {s₀} {s} fuel ts w k =
      let served : Within r s (serve_line c r fuel ts s) = serve_line_within fuel ts Within.begins in
      let p = join_all_within (serve_line_within fuel ts w) (record { known_parts = rw serve_line_tracked (known_after (within_prefix served) k.known_parts) }) in
      link_all_within p.0 p.1

  pub record OneRun (level : ℕ) (s s' : State) : Type 0 where
    pub run : Run
    pub at_level : run.level ≡ level
    pub before : run.before ≡ length s.variables
    pub within : Within run (begun c s) s'
    pub tracked_known : TrackedKnown s'

  begun_known : {s : State} → TrackedKnown s → TrackedKnown (begun c s)
  unfolding begun
  begun_known {s} k = record { known_parts = rw (begin_waits c s.opening).tracked k.known_parts }

  pub run_once_is : (level : ℕ) {s : State} → TrackedKnown s → OneRun level s (run_once c level s)
  unfolding run_once
  run_once_is level {s} k =
      let p = ended_within _ _ (Within.opens Within.begins _) (record { known_parts = (begun_known k).known_parts }) in
      record { run = _; at_level = refl; before = refl; within = p.0; tracked_known = p.1 }

-- ---- every job

pub tracked_known : {l : Limits} {c : Catalogue} {s : State} → Reached l c s → TrackedKnown s
unfolding carried_out add draw decide
tracked_known Reached.begun = record { known_parts = Each.nil }
tracked_known (command r (Command.add o) p) = record { known_parts = (tracked_known r).known_parts }
tracked_known (command r (Command.draw k) p) = record { known_parts = (tracked_known r).known_parts }
tracked_known {c} (command r (Command.run level) p) = (run_once_is c level (tracked_known r)).tracked_known
tracked_known (command {s} r (Command.decide x value level) p) =
    let k = tracked_known r in
    when_cases TrackedKnown _ _ s k (λ e. record { known_parts = k.known_parts })
tracked_known (command r (Command.undo level) p) = record { known_parts = (tracked_known r).known_parts }

-- a run that begins in a reached state
pub every_run : {l : Limits} {c : Catalogue} {s : State} → Reached l c s → (level : ℕ) → OneRun c level s (run_once c level s)
every_run {c} r level = run_once_is c level (tracked_known r)
