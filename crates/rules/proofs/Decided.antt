-- The decisions of a reached state: each is about a variable that exists, no variable is decided twice, a forced one is of a stored clause,
-- and only the sheet makes a part true. So no step of a run changes which parts are decided true, and a disjunct's firing is the same
-- whether judged at the run's start or when its task is served (READINGS.md, 5).
use mathlib.Core.Path.{◌≡◌, refl, sym, ◌∙◌, ap, fun_ext}
use mathlib.Core.Logic.{◌≢◌}
use mathlib.Core.Bool.{Bool, true, false, true≢false}
use mathlib.Core.List.{List, [], ◌∷◌, ◌++◌}
use mathlib.Core.Option.{Option, none, some}
use Prim.Native.Nat.{ℕ, zero, suc, ◌<◌, ◌≤◌, zero-le, suc-le-suc}
use native.Mathlib.Omega.{arith}
use lib.ListN.{length, get_or, length-append, get_or-append}
use borrow.Author.Tests.{leb-false}
use Rattle.rules.specs.Lists.{snoc}
use Rattle.rules.specs.Literal.{Literal}
use Rattle.rules.specs.Clause.{Clause, install, literals}
use Rattle.rules.specs.Catalogue.{Owner, root, Catalogue}
use Rattle.rules.specs.Decisions.{Decision, up_to_level}
use Rattle.rules.specs.Variables.{Origin, chosen, known, part_origin, part_variable}
use Rattle.rules.specs.Opening.{Task, serve}
use Rattle.rules.specs.Encoding.{Event, served, origins}
use Rattle.rules.specs.State.{State, set_opening, set_decisions, start, decided_true, Run, emit}
use Rattle.rules.specs.Run.{line_taken, serve_task, serve_line, begun, run_once}
use Rattle.rules.specs.Records.{Command}
use Rattle.rules.specs.Limits.{Limits}
use Rattle.rules.specs.Sheet.{wanted, decide, command_refusals, carried_out}
use Rattle.rules.proofs.Bools.{by_cases, and_false}
use Rattle.rules.proofs.Each.{Each, each_append, each_snoc, each_imp, each_filter, each_at, each_out, Pairwise, pairwise_snoc, pairwise_filter, when_cases}
use Rattle.rules.proofs.Evaluation.{Undecided, undecided_out, not_true, true_after}
use Rattle.rules.proofs.Effects.{settable, forced, variables_after, stored}
use Rattle.rules.proofs.Grows.{Prefix, prefix_length, with_variables_prefix}
use Rattle.rules.proofs.Places.{stands, keeps_variable, unknown_beyond}
use Rattle.rules.proofs.Reached.{tested, passes, Reached, command}
use Rattle.rules.proofs.RunLaws.{CanSet, Known, earlier, Within, within_prefix, emit_within, serve_task_within, serve_line_within, OneRun, every_run}
use Rattle.rules.proofs.Clauses.{is_chosen, Settable, Exists, WellMade, well_made_after, event_made}

-- what a decision makes true
abbrev pub literal_of : Decision → Literal
literal_of d = record { variable = d.variable; positive = d.value }

pub record Decided (vs : List Origin) (ks : List Clause) (ds : List Decision) : Type 0 where
  pub well_made : Each (WellMade vs) ks
  pub below : Each (λ (d : Decision). d.variable < length vs) ds
  pub once : Pairwise (λ (d e : Decision). d.variable ≢ e.variable) ds
  pub forced : Each (λ (d : Decision). (i : ℕ) → d.clause ≡ some i → CanSet ks i (literal_of d)) ds

abbrev pub DecidedIn : State → Type 0
DecidedIn s = Decided s.variables s.clauses s.decisions

-- ---- one step

at_start : DecidedIn start
unfolding settable literals
at_start =
    record {
      well_made = Each.cons (record { exist = Each.cons (suc-le-suc zero-le) Each.nil; sets = Each.nil }) Each.nil;
      below = Each.nil;
      once = Pairwise.nil;
      forced = Each.nil;
    }

can_set_after : {ks : List Clause} {i : ℕ} {l : Literal} (new : List Clause) → CanSet ks i l → CanSet (ks ++ new) i l
can_set_after {ks} {i} new f =
    record {
      below = rw (length-append ks new) (omega (arith, f.below));
      among = rw (get_or-append ks new install i f.below) f.among;
    }

-- variables and clauses are added
stores : {vs ws : List Origin} {ks new : List Clause} {ds : List Decision} → Prefix vs ws → Each (WellMade ws) new → Decided vs ks ds → Decided ws (ks ++ new) ds
stores {ks = ks} {new = new} g h v =
    let longer = prefix_length g in
    record {
      well_made = each_append (each_imp (λ k. well_made_after g) v.well_made) h;
      below = each_imp (λ d l. omega arith) v.below;
      once = v.once;
      forced = each_imp (λ d f i e. can_set_after new (f i e)) v.forced;
    }

-- a decision is added
decides : {vs : List Origin} {ks : List Clause} {ds : List Decision} (d : Decision) → d.variable < length vs → Undecided ds d.variable
    → ((i : ℕ) → d.clause ≡ some i → CanSet ks i (literal_of d)) → Decided vs ks ds → Decided vs ks (snoc ds d)
decides d l u f v =
    record { well_made = v.well_made; below = each_snoc v.below l; once = pairwise_snoc v.once u; forced = each_snoc v.forced f }

undoes : {vs : List Origin} {ks : List Clause} {ds : List Decision} (level : ℕ) → Decided vs ks ds → Decided vs ks (up_to_level level ds)
unfolding up_to_level
undoes level v =
    record { well_made = v.well_made; below = each_filter _ v.below; once = pairwise_filter _ v.once; forced = each_filter _ v.forced }

-- what a stored clause can set has a variable, and is no part made true
may_set : {vs : List Origin} {ks : List Clause} {ds : List Decision} {i : ℕ} {l : Literal} → Decided vs ks ds → CanSet ks i l → Settable vs l
may_set {i = i} v t = each_out (each_at v.well_made i install t.below).sets t.among

some_same : {i j : ℕ} → ◌≡◌ {A = Option ℕ} (some i) (some j) → i ≡ j
some_same e = cc

-- ---- a run

-- the state before run r or at any point of it
pub record InRun (r : Run) (s : State) : Type 0 where
  pub before : r.before ≤ length s.variables
  pub decided_in : DecidedIn s

pub within_run : {c : Catalogue} {r : Run} {s₀ s : State} → InRun r s₀ → Within c r s₀ s → InRun r s
within_run {c} {r} {s₀} h w = record { before = omega (arith, h.before, prefix_length (within_prefix c w)); decided_in = go w }
  where
    go : {s : State} → Within c r s₀ s → DecidedIn s
    go Within.begins = h.decided_in
    go (Within.opens w o) = go w
    go (Within.stores {s} w e n) =
        let before : r.before ≤ length s.variables = omega (arith, h.before, prefix_length (within_prefix c w)) in
        stores (with_variables_prefix (origins c e) s.variables) (event_made c r.before e s.variables before n) (go w)
    go (Within.reports w i l) = go w
    go (Within.sets w t u) = let v = go w in decides _ (may_set v t).below u (λ i e. rw (some_same e) at t) v

-- ---- every job

decide_decided : (x value level : ℕ) (s : State) → x < length s.variables → DecidedIn s → DecidedIn (decide x value level s)
unfolding decide
decide_decided x value level s l v =
    when_cases DecidedIn _ _ s v (λ e. decides _ l (undecided_out s.decisions (wanted x value) e) (λ i q. absurd (not_some q)) v)
  where
    not_some : {i : ℕ} → ◌≡◌ {A = Option ℕ} none (some i) → ⊥
    not_some q = let z : ◌≡◌ {A = ℕ} 0 1 = cc in omega arith

begin_run_law : {c : Catalogue} {level : ℕ} {s s' : State} (w : OneRun c level s s') → DecidedIn s → InRun w.run (begun c s)
unfolding begun
begin_run_law w v = record { before = omega (arith, w.before); decided_in = v }

pub decided : {l : Limits} {c : Catalogue} {s : State} → Reached l c s → DecidedIn s
unfolding carried_out command_refusals tested
decided Reached.begun = at_start
decided (command r (Command.add o) p) = decided r
decided (command r (Command.draw k) p) = decided r
decided (command r (Command.run level) p) = let w = every_run r level in (within_run (begin_run_law w (decided r)) w.within).decided_in
decided (command {s} r (Command.decide x value level) p) = decide_decided x value level s (leb-false _ _ (passes p 0)) (decided r)
decided (command r (Command.undo level) p) = undoes level (decided r)

-- "every literal of a stored clause is below the count" of variables
pub literals_exist : {l : Limits} {c : Catalogue} {s : State} → Reached l c s → Each (λ k. Each (Exists s.variables) (literals k)) s.clauses
literals_exist r = each_imp (λ k m. m.exist) (decided r).well_made

-- "Only the sheet can make a part true", or the root
pub only_sheet : {vs : List Origin} {ks : List Clause} {ds : List Decision} → Decided vs ks ds
    → Each (λ (d : Decision). d.value ≡ true → (o : Owner) → get_or vs d.variable (chosen root) ≡ chosen o → d.clause ≡ none) ds
only_sheet v = each_imp (λ d f t o e. not_some d.clause (λ i q. true≢false (ap is_chosen (sym e) ∙ (may_set v (f i q)).no_owner t))) v.forced
  where
    not_some : (i : Option ℕ) → ((j : ℕ) → i ≡ some j → ⊥) → i ≡ none
    not_some none h = refl
    not_some (some j) h = absurd (h j refl)

-- ---- no step of a run changes which parts are decided true

-- new variables are undecided
stores_same : (c : Catalogue) (r : Run) (e : Event) (s : State) → DecidedIn s → (p : ℕ) → decided_true (stored c r e s) p ≡ decided_true s p
unfolding decided_true
stores_same c r e s v p =
    by_cases (known s.variables (part_origin p)) (λ q. let k = keeps_variable g (part_origin p) q in rw (k.0, k.1, q))
    (λ q. rw (q, not_true (beyond q)) (and_false (known (variables_after c e s) (part_origin p))))
  where
    g : Prefix s.variables (variables_after c e s)
    g = with_variables_prefix (origins c e) s.variables

    beyond : known s.variables (part_origin p) ≡ false → Undecided s.decisions (part_variable (variables_after c e s) p)
    beyond q = let h = unknown_beyond g (part_origin p) q in each_imp (λ d l. omega arith) v.below

-- a literal that is set is no part made true
sets_same : (r : Run) {i : ℕ} {l : Literal} (s : State) → DecidedIn s → CanSet s.clauses i l → (p : ℕ)
    → decided_true (set_decisions (snoc s.decisions (forced r i l)) s) p ≡ decided_true s p
unfolding decided_true
sets_same r {i} {l} s v t p =
    by_cases (known s.variables (part_origin p)) (λ q. rw (true_after s.decisions (forced r i l) (part_variable s.variables p) (other q))) (λ q. rw q)
  where
    other : known s.variables (part_origin p) ≡ true → l.positive ≡ true → l.variable ≢ part_variable s.variables p
    other q e h =
        let at : get_or s.variables l.variable (chosen root) ≡ part_origin p = rw h (stands s.variables (part_origin p) (chosen root) q).1 in
        true≢false (ap is_chosen (sym at) ∙ (may_set v t).no_owner e)

module _ (c : Catalogue) {r : Run} {s₀ : State} (h : InRun r s₀) where
  pub no_part_made_true : {s : State} → Within c r s₀ s → (p : ℕ) → decided_true s p ≡ decided_true s₀ p
  unfolding decided_true
  no_part_made_true Within.begins p = refl
  no_part_made_true (Within.opens w o) p = no_part_made_true w p
  no_part_made_true (Within.stores {s} w e n) p = stores_same c r e s (within_run h w).decided_in p ∙ no_part_made_true w p
  no_part_made_true (Within.reports w i l) p = no_part_made_true w p
  no_part_made_true (Within.sets {s} w t u) p = sets_same r s (within_run h w).decided_in t p ∙ no_part_made_true w p

  pub emit_same : (e : Event) → Known s₀.variables (earlier e) → (p : ℕ) → decided_true (emit c r e s₀) p ≡ decided_true s₀ p
  emit_same e k = no_part_made_true (emit_within c Within.begins e k)

  pub serve_task_same : (t : Task) (p : ℕ) → decided_true (serve_task c r t s₀) p ≡ decided_true s₀ p
  serve_task_same t = no_part_made_true (serve_task_within c Within.begins t)

  pub serve_line_same : (fuel : ℕ) (ts : List Task) (p : ℕ) → decided_true (serve_line c r fuel ts s₀) p ≡ decided_true s₀ p
  serve_line_same fuel ts = no_part_made_true (serve_line_within c fuel ts Within.begins)

-- ---- judged at the start

-- the line served with these parts taken as decided true throughout
module _ (c : Catalogue) (r : Run) (true? : ℕ → Bool) where
  unfoldable pub serve_task_by : Task → State → State
  serve_task_by t s = emit c r (served t) (set_opening (serve c true? t s.opening) s)

  unfoldable pub serve_line_by : ℕ → List Task → State → State
  serve_line_by zero ts s = s
  serve_line_by (suc fuel) [] s = s
  serve_line_by (suc fuel) (t ∷ ts) s =
      let s₁ = serve_task_by t s in
      serve_line_by fuel (ts ++ s₁.opening.line) (line_taken s₁)

module _ (c : Catalogue) {r : Run} {s₀ : State} (h : InRun r s₀) where
  task_judged : (t : Task) {s : State} → Within c r s₀ s → serve_task c r t s ≡ serve_task_by c r (decided_true s₀) t s
  unfolding serve_task serve_task_by
  task_judged t {s} w = ap (λ f. emit c r (served t) (set_opening (serve c f t s.opening) s)) (fun_ext (no_part_made_true c h w))

  line_judged : (fuel : ℕ) (ts : List Task) {s : State} → Within c r s₀ s → serve_line c r fuel ts s ≡ serve_line_by c r (decided_true s₀) fuel ts s
  unfolding serve_line serve_line_by
  line_judged zero ts w = refl
  line_judged (suc fuel) [] w = refl
  line_judged (suc fuel) (t ∷ ts) w = rw (← (task_judged t w)) (line_judged fuel _ (Within.opens (serve_task_within c w t) _))

  pub judged_at_start : (fuel : ℕ) (ts : List Task) → serve_line c r fuel ts s₀ ≡ serve_line_by c r (decided_true s₀) fuel ts s₀
  judged_at_start fuel ts = line_judged fuel ts Within.begins

-- ---- a run that begins in a reached state

begun_same : (c : Catalogue) (s : State) (p : ℕ) → decided_true (begun c s) p ≡ decided_true s p
unfolding begun decided_true
begun_same c s p = refl

pub run_once_same : {l : Limits} {c : Catalogue} {s : State} → Reached l c s → (level p : ℕ) → decided_true (run_once c level s) p ≡ decided_true s p
run_once_same {l} {c} {s} r level p = let w = every_run r level in no_part_made_true c (begin_run_law w (decided r)) w.within p ∙ begun_same c s p

-- its line, judged by the decisions before it
pub run_judged_at_start : {l : Limits} {c : Catalogue} {s : State} → Reached l c s → (r : Run) → r.before ≤ length s.variables → (fuel : ℕ) (ts : List Task)
    → serve_line c r fuel ts (line_taken (begun c s)) ≡ serve_line_by c r (decided_true s) fuel ts (line_taken (begun c s))
unfolding begun decided_true
run_judged_at_start {c = c} h r b fuel ts = judged_at_start c (record { before = b; decided_in = decided h }) fuel ts
