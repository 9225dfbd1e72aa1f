-- A literal is decided, or decisions are undone.
use mathlib.Core.Path.{◌≡◌, refl, sym, ◌∙◌}
use mathlib.Core.Bool.{Bool, true, false, ◌||◌}
use mathlib.Core.List.{List}
use Prim.Native.Nat.{ℕ, ◌<◌, ◌≤◌}
use native.Mathlib.Omega.{arith}
use lib.Dec.{eqb, ltb, leb}
use lib.ListN.{length}
use borrow.Author.Tests.{le-leb, lt-leb, lt-ltb, le-ltb}
use Rattle.std.specs.Prelude.{Result, Ok, Err, Option, Some, None}
use Rattle.rules.specs.Lists.{any, snoc, when}
use Rattle.rules.specs.Catalogue.{Catalogue}
use Rattle.rules.specs.Records.{Command}
use Rattle.rules.specs.Refusals.{ok, refuse, unless_any}
use Rattle.rules.specs.Limits as limits
use Rattle.rules.specs.Decisions.{Decision, evaluate, is_falsified, last_level, up_to_level}
use Rattle.rules.specs.State as rules
use Rattle.rules.specs.State.{set_decisions}
use Rattle.rules.specs.Sheet.{too_low, decide, command_refusals, carried_out, carry_out}
use Rattle.rules.proofs.Member.{not_one}
use Rattle.refusal.specs.declared.Refusal.{Refusal}
use Rattle.refusal.specs.declared.Refusal.TheVariants.{MissingVariable, Contradicts, LevelLow, DecidedAgainst}
use Rattle.refusal.specs.declared.Contradiction.TheVariants.{OtherValue}
use Rattle.refusal.specs.Refusing.{contradiction_of, refusal_of}
use Rattle.clause.specs.declared.Literal as code
use Rattle.clause.specs.Literals.{signed, literal_of}
use Rattle.state.specs.declared.Limits.{Limits}
use Rattle.state.specs.Layout.{held}
use Rattle.variable_map.proofs.Laws as variable_map
use Rattle.variable_map.proofs.Laws.{variables_kept}
use Rattle.decision_tracker.specs.declared.Decision as tracker
use Rattle.decision_tracker.specs.Tracking.{clause_of, decision_of, decisions, seen, Told}
use Rattle.decision_tracker.proofs.Values.{undecided_seen, reads_undecided, falsified_undecided, falsified_false, falsified_true}
use Rattle.marked.proofs.Laws.{marked_same}
use Rattle.encoder.specs.declared.Counters.{Counters}
use Rattle.encoder.specs.declared.State.{State}
use Rattle.encoder.specs.Held.{Reading, opening_of, state_of, Good}
use Rattle.encoder.specs.Does.{regions_of, decisions_of}
use Rattle.state.specs.Limits.{limits_of}
use Rattle.encoder.proofs.Frames.{good_kept, list_kept, line_kept}
use Rattle.encoder.proofs.Counted.{with_decisions}
use Rattle.commands.specs.Commands.{ChangesOf, Changes, StateChanges, decided_to, DecidesLiteral, DecidesTo, Decides}
use Rattle.commands.proofs.Outcomes.{unchanged, changes_as, carried_out_law, outcome_done, outcome_carried, outcome_refused}

-- ---- a level is too low

-- for callers: of the state that the areas hold
pub low_is : (c : Catalogue) (l : Limits) (v : Reading) (n : Counters) (st : ℕ → List ℕ) (cl wt : List ℕ) (level : ℕ) {low : Bool}
    → low ≡ (eqb level 0 || ltb level (last_level (decisions n.decisions st))) → too_low level (state_of c l v n st cl wt) ≡ low
unfolding too_low state_of
low_is c l v n st cl wt level e = sym e

-- ---- other decisions

module _ {l : Limits} (n : Counters) {count : ℕ} {ds : List Decision} {st st' : ℕ → List ℕ} (t : Told l count ds st st') (c : Catalogue) (cl wt : List ℕ) where
  told_state : (v : Reading) → state_of c l v (with_decisions count n) st' cl wt ≡ set_decisions ds (state_of c l v n st cl wt)
  unfolding state_of opening_of any
  told_state v =
      let ch = t.rest in
      simp (t.is, list_kept ch, line_kept ch, variables_kept ch, ch.same)

  told_good : Good c l n st cl wt → Good c l (with_decisions count n) st' cl wt
  unfolding any
  told_good g = good_kept t.rest g (search) refl refl refl refl refl g.entries

  told_changes : ChangesOf c l (set_decisions ds) n st cl wt (with_decisions count n) st'
  unfolding any
  told_changes = record { good = told_good; hand = λ h. marked_same h t.rest refl refl; full = refl; runs = refl; is = told_state }

-- ---- a literal is decided

abbrev pub new_decision : (x : ℕ) (b : Bool) (level : ℕ) → tracker.Decision
new_decision x b level = record { variable = x; value = b; level = level; clause = None }

module _ {l : Limits} (y : code.Literal) {level k : ℕ} {s : List ℕ} where
  literal_to : {d : ℕ} {s' : List ℕ} → ((n : Counters) → n.decisions ≡ k → Changes l (decided_to (literal_of y) level) n (held l s) (with_decisions d n) (held l s'))
      → is_falsified (evaluate (decisions k (held l s)) (literal_of y)) ≡ false → DecidesLiteral l (literal_of y) level k s (Ok d) s'
  literal_to {d} h e =
      record {
        to = λ _ _. e;
        changes = λ d' q. let p : d' ≡ d = cc in rw p h;
        refused = λ f q. absurd (not_one (cc));
        same = λ f q. absurd (not_one (cc));
      }

  module _ {v : Option Bool} (e : v ≡ seen (evaluate (decisions k (held l s)) (literal_of y))) where
    pub decided_again : v ≡ Some true → DecidesLiteral l (literal_of y) level k s (Ok k) s
    decided_again q = literal_to changes (sym (falsified_true (decisions k (held l s)) (literal_of y) e q))
      where
        idle : (n : Counters) → n.decisions ≡ k → (c : Catalogue) (cl wt : List ℕ) (w : Reading)
            → state_of c l w n (held l s) cl wt ≡ decided_to (literal_of y) level (state_of c l w n (held l s) cl wt)
        idle n z c cl wt w = unfold decided_to when state_of in rw (z, undecided_seen, ← e, q)

        changes : (n : Counters) → n.decisions ≡ k → Changes l (decided_to (literal_of y) level) n (held l s) (with_decisions k n) (held l s)
        changes n z =
            let same : with_decisions k n ≡ n = rw (← z) in
            rw same (record { is = λ c cl wt. changes_as unchanged (idle n z c cl wt) })

    pub decided_against_law : v ≡ Some false → DecidesLiteral l (literal_of y) level k s (Err DecidedAgainst) s
    decided_against_law q =
        record {
          to = λ d p. absurd (not_one (cc));
          changes = λ d p. absurd (not_one (cc));
          refused = λ f p. let z : f ≡ DecidedAgainst = cc in (z, sym (falsified_false (decisions k (held l s)) (literal_of y) e q));
          same = λ f p. refl;
        }

    pub decided_new : v ≡ None → {i : ℕ} {b : Bool} → i ≡ (literal_of y).variable → b ≡ (literal_of y).positive → {d : ℕ} {s' : List ℕ}
        → Told l d (snoc (decisions k (held l s)) (decision_of (new_decision i b level))) (held l s) (held l s') → DecidesLiteral l (literal_of y) level k s (Ok d) s'
    decided_new q {i} {b} ei eb t =
        literal_to (λ n z. record { is = λ c cl wt. changes_as (told_changes n t c cl wt) (new n z c cl wt) }) (sym (falsified_undecided (decisions k (held l s)) (literal_of y) e q))
      where
        new : (n : Counters) → n.decisions ≡ k → (c : Catalogue) (cl wt : List ℕ) (w : Reading)
            → set_decisions (snoc (decisions k (held l s)) (decision_of (new_decision i b level))) (state_of c l w n (held l s) cl wt)
            ≡ decided_to (literal_of y) level (state_of c l w n (held l s) cl wt)
        new n z c cl wt w =
            unfold decided_to when state_of decision_of clause_of in
            rw (z, reads_undecided (decisions k (held l s)) (literal_of y) v e q, ei, eb)

-- ---- the command decide: its refusals in the order 4, 5, 9, 8

pub literal_below : (y : code.Literal) (b : Bool) {x v k : ℕ} → literal_of y ≡ signed x b → x < v → v ≤ k → (literal_of y).variable < k
unfolding signed
literal_below y b e h i = rw e (omega arith)

-- of any state
module _ (k : limits.Limits) (c : Catalogue) (x value level : ℕ) (s : rules.State) where
  no_variable : leb (length s.variables) x ≡ true → carry_out k c (Command.decide x value level) s ≡ refuse (refusal_of (MissingVariable 1))
  unfolding carry_out command_refusals unless_any refusal_of
  no_variable e = rw e

  module _ (e : leb (length s.variables) x ≡ false) where
    no_value : ltb 1 value ≡ true → carry_out k c (Command.decide x value level) s ≡ refuse (refusal_of (Contradicts OtherValue))
    unfolding carry_out command_refusals unless_any refusal_of contradiction_of
    no_value f = rw (e, f)

    module _ (f : ltb 1 value ≡ false) where
      is_low : too_low level s ≡ true → carry_out k c (Command.decide x value level) s ≡ refuse (refusal_of LevelLow)
      unfolding carry_out command_refusals unless_any refusal_of
      is_low g = rw (e, f, g)

      is_false : too_low level s ≡ false → is_falsified (evaluate s.decisions (signed x (eqb value 1))) ≡ true
          → carry_out k c (Command.decide x value level) s ≡ refuse (refusal_of DecidedAgainst)
      unfolding carry_out command_refusals unless_any refusal_of signed
      is_false g h = rw (e, f, g, h)

      passes : too_low level s ≡ false → is_falsified (evaluate s.decisions (signed x (eqb value 1))) ≡ false
          → carry_out k c (Command.decide x value level) s ≡ ok (decided_to (signed x (eqb value 1)) level s)
      unfolding carry_out command_refusals carried_out unless_any decide decided_to signed
      passes g h = rw (e, f, g, h)

-- of the state that the areas hold
module _ (l : Limits) (n : Counters) (st : ℕ → List ℕ) (c : Catalogue) (cl wt : List ℕ) (v : Reading) where
  counted : {variables : ℕ} (i : ℕ) → n.variables ≡ variables → leb (length (state_of c l v n st cl wt).variables) i ≡ leb variables i
  unfolding state_of
  counted i p = rw (variable_map.count n.variables st, p)

  missing : {variables : ℕ} (i : ℕ) → n.variables ≡ variables → variables ≤ i → leb (length (state_of c l v n st cl wt).variables) i ≡ true
  missing {variables} i p h = counted i p ∙ le-leb variables i h

  there : {variables : ℕ} (i : ℕ) → n.variables ≡ variables → i < variables → leb (length (state_of c l v n st cl wt).variables) i ≡ false
  there {variables} i p h = counted i p ∙ lt-leb variables i h

  decisions_are : {k : ℕ} → n.decisions ≡ k → decisions k st ≡ (state_of c l v n st cl wt).decisions
  unfolding state_of
  decisions_are q = rw q

  low_there : {k : ℕ} (level : ℕ) {low : Bool} → n.decisions ≡ k → low ≡ (eqb level 0 || ltb level (last_level (decisions k st))) → too_low level (state_of c l v n st cl wt) ≡ low
  low_there level q e = low_is c l v n st cl wt level (rw q e)

-- with whatever counters have these numbers
module _ {l : Limits} {variables k : ℕ} {s : List ℕ} {i value level : ℕ} where
  refused_as : {f : Refusal} → ((n : Counters) → n.variables ≡ variables → n.decisions ≡ k → (c : Catalogue) (cl wt : List ℕ) (v : Reading)
      → carry_out (limits_of l) c (Command.decide i value level) (state_of c l v n (held l s) cl wt) ≡ refuse (refusal_of f))
      → DecidesTo l (Command.decide i value level) variables k s (Err f) s
  refused_as {f} h = record { to = λ d q. absurd (not_one (cc)); refused = λ g q. let z : g ≡ f = cc in rw z h; same = λ g q. refl }

  pub decide_missing : variables ≤ i → DecidesTo l (Command.decide i value level) variables k s (Err (MissingVariable 1)) s
  decide_missing h = refused_as (λ n p q c cl wt v. no_variable (limits_of l) c i value level _ (missing l n (held l s) c cl wt v i p h))

  module _ (h : i < variables) where
    pub decide_other : 1 < value → DecidesTo l (Command.decide i value level) variables k s (Err (Contradicts OtherValue)) s
    decide_other a = refused_as (λ n p q c cl wt v. no_value (limits_of l) c i value level _ (there l n (held l s) c cl wt v i p h) (lt-ltb 1 value a))

    module _ (a : value ≤ 1) {low : Bool} (e : low ≡ (eqb level 0 || ltb level (last_level (decisions k (held l s))))) where
      pub decide_low : low ≡ true → DecidesTo l (Command.decide i value level) variables k s (Err LevelLow) s
      decide_low z =
          refused_as
          (λ n p q c cl wt v. is_low (limits_of l) c i value level _ (there l n (held l s) c cl wt v i p h) (le-ltb 1 value a) (low_there l n (held l s) c cl wt v level q e ∙ z))

      module _ (z : low ≡ false) (y : code.Literal) (w : literal_of y ≡ signed i (eqb value 1)) where
        pub decide_carried : {r : Result ℕ Refusal} {s' : List ℕ} → DecidesLiteral l (literal_of y) level k s r s' → DecidesTo l (Command.decide i value level) variables k s r s'
        decide_carried {r} {s'} d' =
            record {
              to = λ m t n p q c cl wt. carried_out_law ((d.changes m t n q).is c cl wt)
                  (λ v. passes (limits_of l) c i value level _ (there l n (held l s) c cl wt v i p h) (le-ltb 1 value a) (low_there l n (held l s) c cl wt v level q e ∙ z)
                  (rw (decisions_are l n (held l s) c cl wt v q) at (d.to m t)));
              refused = λ f t n p q c cl wt v.
                  let g = d.refused f t in
                  rw g.0
                  (is_false (limits_of l) c i value level _ (there l n (held l s) c cl wt v i p h) (le-ltb 1 value a) (low_there l n (held l s) c cl wt v level q e ∙ z)
                  (rw (decisions_are l n (held l s) c cl wt v q) at g.1));
              same = d.same;
            }
          where
            d : DecidesLiteral l (signed i (eqb value 1)) level k s r s'
            d = rw w at d'

-- the same of the encoder's state
module _ {o : Command} {x x' : State} where
  pub decided_carried : {d : ℕ} → DecidesTo x.limits o x.used.variables x.used.decisions x.area.now (Ok d) x'.area.now → x'.limits ≡ x.limits → x'.area.ghost_name ≡ x.area.ghost_name
      → x'.used ≡ with_decisions d x.used → Decides o x (Ok tt) x'
  decided_carried h limits area e = record { outcomes = record { is = λ c. outcome_done limits area (λ cl wt. rw e (h.to _ refl x.used refl refl c cl wt)) }; counters = rw e }

  pub decided_refused : {f : Refusal} {s : List ℕ} → DecidesTo x.limits o x.used.variables x.used.decisions x.area.now (Err f) s → x' ≡ x → Decides o x (Err f) x'
  decided_refused h e = rw e (record { outcomes = record { is = λ c. outcome_refused (h.refused _ refl x.used refl refl c) }; counters = refl })

-- the same of a state in which a literal was decided, or is false, by whatever found it
module _ {i value level : ℕ} {x : State} (h : i < x.used.variables) (a : value ≤ 1) {low : Bool} (e : low ≡ (eqb level 0 || ltb level (last_level (decisions_of x)))) (z : low ≡ false)
    (y : code.Literal) (w : literal_of y ≡ signed i (eqb value 1)) where
  pub literal_decided : {x' : State} → is_falsified (evaluate (decisions_of x) (literal_of y)) ≡ false → StateChanges (decided_to (literal_of y) level) x x'
      → x'.used ≡ with_decisions x'.used.decisions x.used → Decides (Command.decide i value level) x (Ok tt) x'
  literal_decided f g q =
      record {
        outcomes = record {
          is = λ c. outcome_carried (rw w at g)
              (λ cl wt v. passes (limits_of x.limits) c i value level _ (there x.limits x.used (regions_of x) c cl wt v i refl h) (le-ltb 1 value a)
              (low_there x.limits x.used (regions_of x) c cl wt v level refl e ∙ z) (rw (decisions_are x.limits x.used (regions_of x) c cl wt v refl) at (rw w at f)));
        };
        counters = q;
      }

  pub literal_false : is_falsified (evaluate (decisions_of x) (literal_of y)) ≡ true → Decides (Command.decide i value level) x (Err DecidedAgainst) x
  literal_false f =
      record {
        outcomes = record {
          is = λ c. outcome_refused
              (λ cl wt v. is_false (limits_of x.limits) c i value level _ (there x.limits x.used (regions_of x) c cl wt v i refl h) (le-ltb 1 value a)
              (low_there x.limits x.used (regions_of x) c cl wt v level refl e ∙ z) (rw (decisions_are x.limits x.used (regions_of x) c cl wt v refl) at (rw w at f)));
        };
        counters = refl;
      }

-- ---- the command undo: it has no refusals

-- these became the decisions, and no counter changed but theirs
pub record Decided (ds : List Decision) (x x' : State) : Type 0 where
  pub limits : x'.limits ≡ x.limits
  pub area : x'.area.ghost_name ≡ x.area.ghost_name
  pub counters : x'.used ≡ with_decisions x'.used.decisions x.used
  pub told : Told x.limits x'.used.decisions ds (regions_of x) (held x.limits x'.area.now)

decided_changes : {ds : List Decision} {x x' : State} → Decided ds x x' → StateChanges (set_decisions ds) x x'
decided_changes {ds} {x} {x'} d =
    record {
      limits = d.limits;
      area = d.area;
      changes = record { is = λ c cl wt. rw d.counters (told_changes x.used d.told c cl wt) };
    }

pub undone : {level : ℕ} {x x' : State} → Decided (up_to_level level (decisions_of x)) x x' → Decides (Command.undo level) x (Ok tt) x'
undone t =
    record {
      outcomes = record { is = λ c. outcome_carried (decided_changes t) (λ cl wt v. unfold carry_out command_refusals carried_out unless_any state_of in refl) };
      counters = t.counters;
    }
