-- Each kind of clause: a law for each way out of each function.
use mathlib.Core.Path.{◌≡◌, refl, sym, ◌∙◌, ap}
use mathlib.Core.Bool.{Bool, true, false, cond, not, ◌&&◌, false≢true}
use mathlib.Core.List.{List, map}
use Prim.Native.Nat.{ℕ, suc, ◌+◌, ◌<◌, ◌≤◌}
use native.Mathlib.Omega.{arith}
use lib.Dec.{ltb, leb}
use lib.ListN.{length}
use borrow.Author.Tests.{lt-ltb}
use Rattle.rules.specs.Lists.{when, sum}
use Rattle.rules.specs.Literal.{Literal}
use Rattle.rules.specs.Clause as rules
use Rattle.rules.specs.Clause.{requires, gated, excluded, constrains, forbid, aux_out, aux_owner, lock, any_gate, any_one, exclusion, unknown_dependencies, condition_literals}
use Rattle.rules.specs.Catalogue.{Catalogue, Goal}
use Rattle.rules.specs.Decisions.{Decision, Evaluation, undecided, satisfied, falsified, is_true, is_false}
use Rattle.rules.specs.Variables.{Origin}
use Rattle.rules.specs.State.{State, Run, report, force, propagate_by, propagate, effect}
use Rattle.rules.proofs.Bools.{or_true}
use Rattle.rules.proofs.ClauseByClause.{add_clause}
use Rattle.rules.proofs.Capped.{only_clauses}
use Rattle.clause.specs.declared.Literal as code
use Rattle.std.specs.Prelude.{Option, unwrap_or}
use Rattle.std.specs.Bool.{then_some}
use Rattle.requirement.specs.declared.Requirement.{Requirement}
use Rattle.requirement.specs.Requirements.{goal_of}
use Rattle.requirement.proofs.Laws.{goal_from_parts}
use Rattle.clause.specs.Literals.{literal_of, signed}
use Rattle.state.specs.declared.Limits.{Limits}
use Rattle.decision_tracker.specs.Tracking.{seen}
use Rattle.solver.specs.declared.Clause.{Clause}
use Rattle.solver.specs.declared.Clause.TheVariants as clauses
use Rattle.solver.specs.Clauses.{clause_row, literal_count}
use Rattle.encoder.specs.declared.Counters.{Counters}
use Rattle.encoder.specs.declared.Run as runs
use Rattle.encoder.specs.declared.State as encoder
use Rattle.encoder.specs.Held.{run_of, Reading, literals_in, state_of, Good}
use Rattle.encoder.specs.Clauses.{candidate_variables, clause_is}
use Rattle.encoder.specs.Did.{room_of, beyond, filled}
use Rattle.encoder.specs.Does.{regions_of, variables_of, decisions_of}
use Rattle.state.specs.Limits.{limits_of}
use Rattle.encoder.proofs.Frames.{good_within}
use Rattle.encoder.proofs.Did.{did_full, did_filled, told_full}
use Rattle.encoder.proofs.Widening.{add_clause_widens}
use Rattle.storing.specs.declared.Outcome.{Outcome}
use Rattle.storing.specs.declared.Outcome.TheVariants as outcomes
use Rattle.storing.specs.Adding.{reason_for, AllNamed, AddsRequires, AddsGated, CanAdd, Fitting, Stores, Sets, Adds, outcome_of, outcome_in, CanPair, IsPair, AddsPair}
use Rattle.storing.proofs.Adding.{Does, Reports, row_reports, row_sets}

-- ---- a clause without a goal

pair_fits : (c : Catalogue) {x : encoder.State} {bytes : ℕ} {pair : Clause} {k : rules.Clause} → IsPair pair k → CanAdd x bytes → Fitting c x.limits x.used (regions_of x) pair
pair_fits c {x} p h =
    record {
      room = omega (arith, h.literals, p.none);
      sound = λ i. record { stored = λ e. absurd (p.not_requires i e); named = λ e. absurd (p.not_requires i e); gated = λ e. absurd (p.not_gated i e) };
      counted = ap condition_literals (p.clause c (variables_of x) (regions_of x 19)) ∙ (p.literals ∙ sym p.none);
    }

-- the run, if it is a conflict
run_if : (b : Bool) (x : ℕ) → unwrap_or (then_some b x) 0 ≡ cond b x 0
run_if true x = refl
run_if false x = refl

module _ {r : runs.Run} {x x' : encoder.State} {cl cl' : List ℕ} {pair : Clause} {bytes : ℕ} {k : rules.Clause} (p : IsPair pair k) (h : CanAdd x bytes) where
  pair_reports : {run : ℕ} (b : Bool) → (b ≡ true → 0 < r.number) → run ≡ cond b r.number 0 → Reports (run_of r) k (decisions_of x) b
      → Stores pair run x cl x' cl' → Adds r k x cl x' cl'
  pair_reports b o e d g =
      record {
        limits = g.limits;
        area = g.area;
        is = λ c wt. row_reports r (λ vs. k) (pair_fits c p h) (λ vs. p.clause c vs (regions_of x 19)) b o e d g;
      }

  pair_idle : Does (run_of r) k (decisions_of x) (λ i u. u) → Stores pair 0 x cl x' cl' → Adds r k x cl x' cl'
  pair_idle d g = pair_reports false (λ e. absurd (false≢true e)) refl (unfold when in d) g

  pair_sets : (z : code.Literal) → Does (run_of r) k (decisions_of x) (λ i. force (run_of r) i (literal_of z)) → Sets r pair z x cl x' cl' → Adds r k x cl x' cl'
  pair_sets z d g =
      record {
        limits = g.limits;
        area = g.area;
        is = λ c wt. row_sets r (λ vs. k) (pair_fits c p h) (λ vs. p.clause c vs (regions_of x 19)) z d g;
      }

-- ---- clauses that only report

is_lock : (x : ℕ) → IsPair (clauses.Lock x) (lock x)
unfolding clause_is clause_row literal_count condition_literals
is_lock x = record { not_requires = λ i e. omega arith; not_gated = λ i e. omega arith; clause = λ c vs w. refl; none = refl; literals = refl }

is_excluded : (x p : ℕ) → IsPair (clauses.Excluded x p) (excluded x p exclusion)
unfolding clause_is clause_row literal_count condition_literals
is_excluded x p = record { not_requires = λ i e. omega arith; not_gated = λ i e. omega arith; clause = λ c vs w. refl; none = refl; literals = refl }

is_unknown : (x p : ℕ) → IsPair (clauses.Unknown x p) (excluded x p unknown_dependencies)
unfolding clause_is clause_row literal_count condition_literals
is_unknown x p = record { not_requires = λ i e. omega arith; not_gated = λ i e. omega arith; clause = λ c vs w. refl; none = refl; literals = refl }

is_constrains : (o x : ℕ) → IsPair (clauses.Constrains o x) (constrains o x)
unfolding clause_is clause_row literal_count condition_literals
is_constrains o x = record { not_requires = λ i e. omega arith; not_gated = λ i e. omega arith; clause = λ c vs w. refl; none = refl; literals = refl }

is_aux_owner : (o v : ℕ) → IsPair (clauses.AuxOwner o v) (aux_owner o v)
unfolding clause_is clause_row literal_count condition_literals
is_aux_owner o v = record { not_requires = λ i e. omega arith; not_gated = λ i e. omega arith; clause = λ c vs w. refl; none = refl; literals = refl }

is_aux_out : (x v : ℕ) → IsPair (clauses.AuxOut x v) (aux_out x v)
unfolding clause_is clause_row literal_count condition_literals
is_aux_out x v = record { not_requires = λ i e. omega arith; not_gated = λ i e. omega arith; clause = λ c vs w. refl; none = refl; literals = refl }

is_any_one : (y x : ℕ) → IsPair (clauses.AnyOne y x) (any_one y x)
unfolding clause_is clause_row literal_count condition_literals
is_any_one y x = record { not_requires = λ i e. omega arith; not_gated = λ i e. omega arith; clause = λ c vs w. refl; none = refl; literals = refl }

is_any_gate : (g o : ℕ) → IsPair (clauses.AnyGate g o) (any_gate g o)
unfolding clause_is clause_row literal_count condition_literals
is_any_gate g o = record { not_requires = λ i e. omega arith; not_gated = λ i e. omega arith; clause = λ c vs w. refl; none = refl; literals = refl }

is_forbid : (x : ℕ) (z : code.Literal) → IsPair (clauses.Forbid x z) (forbid x (literal_of z))
unfolding clause_is clause_row literal_count condition_literals
is_forbid x z = record { not_requires = λ i e. omega arith; not_gated = λ i e. omega arith; clause = λ c vs w. refl; none = refl; literals = refl }

module _ {r : runs.Run} {s s' : encoder.State} {cl cl' : List ℕ} {bytes : ℕ} (h : CanAdd s bytes) where
  pub lock_added : {x : ℕ} → Stores (clauses.Lock x) 0 s cl s' cl' → Adds r (lock x) s cl s' cl'
  lock_added g = pair_idle (is_lock _) h (unfold effect in λ i u e. refl) g

  module _ (o : 0 < r.number) {conflict : Option ℕ} where
    pub excluded_unknown : {x p : ℕ} {b unknown : Bool} {k : Clause} → Stores k (unwrap_or conflict 0) s cl s' cl' → k ≡ clauses.Unknown x p
        → b ≡ is_true (decisions_of s) x → conflict ≡ then_some b r.number → unknown ≡ true → Adds r (excluded x p (reason_for unknown)) s cl s' cl'
    unfolding reason_for
    excluded_unknown {b = b} g q e f u = rw u (pair_reports (is_unknown _ _) h b (λ t. o) (rw f (run_if b r.number)) (unfold effect in λ j s d. rw (d, ← e)) (rw q at g))

    pub excluded_else : {x p : ℕ} {b unknown : Bool} {k : Clause} → Stores k (unwrap_or conflict 0) s cl s' cl' → k ≡ clauses.Excluded x p
        → b ≡ is_true (decisions_of s) x → conflict ≡ then_some b r.number → unknown ≡ false → Adds r (excluded x p (reason_for unknown)) s cl s' cl'
    unfolding reason_for
    excluded_else {b = b} g q e f u = rw u (pair_reports (is_excluded _ _) h b (λ t. o) (rw f (run_if b r.number)) (unfold effect in λ j s d. rw (d, ← e)) (rw q at g))

    module _ {owner x : ℕ} {a b : Bool} (ea : a ≡ is_true (decisions_of s) x) (eb : b ≡ is_false (decisions_of s) owner)
        (f : conflict ≡ then_some (a && not b) r.number) where
      pub constrains_added : Stores (clauses.Constrains owner x) (unwrap_or conflict 0) s cl s' cl' → Adds r (constrains owner x) s cl s' cl'
      constrains_added g = pair_reports (is_constrains _ _) h (a && not b) (λ t. o) (rw f (run_if (a && not b) r.number)) (unfold effect in λ j s d. rw (d, ← ea, ← eb)) g

      pub aux_owner_added : Stores (clauses.AuxOwner owner x) (unwrap_or conflict 0) s cl s' cl' → Adds r (aux_owner owner x) s cl s' cl'
      aux_owner_added g = pair_reports (is_aux_owner _ _) h (a && not b) (λ t. o) (rw f (run_if (a && not b) r.number)) (unfold effect in λ j s d. rw (d, ← ea, ← eb)) g

-- ---- clauses that may set a literal

module _ {r : runs.Run} {s s' : encoder.State} {cl cl' : List ℕ} {bytes : ℕ} (h : CanAdd s bytes) where
  module _ {x y : ℕ} {b : Bool} (e : b ≡ is_true (decisions_of s) x) where
    pub aux_out_sets : {z : code.Literal} → Sets r (clauses.AuxOut x y) z s cl s' cl' → literal_of z ≡ signed y true → b ≡ true → Adds r (aux_out x y) s cl s' cl'
    aux_out_sets {z} g f t = pair_sets (is_aux_out _ _) h z (unfold effect when signed in λ j s d. rw (d, ← e, t, f)) g

    pub aux_out_idle : Stores (clauses.AuxOut x y) 0 s cl s' cl' → b ≡ false → Adds r (aux_out x y) s cl s' cl'
    aux_out_idle g t = pair_idle (is_aux_out _ _) h (unfold effect when in λ j s d. rw (d, ← e, t)) g

  module _ {x y : ℕ} {b : Bool} (e : b ≡ (is_true (decisions_of s) x && leb r.before y)) where
    pub any_one_sets : {z : code.Literal} → Sets r (clauses.AnyOne y x) z s cl s' cl' → literal_of z ≡ signed y true → b ≡ true → Adds r (any_one y x) s cl s' cl'
    any_one_sets {z} g f t = pair_sets (is_any_one _ _) h z (unfold effect when signed run_of in λ j s d. rw (d, ← e, t, f)) g

    pub any_one_idle : Stores (clauses.AnyOne y x) 0 s cl s' cl' → b ≡ false → Adds r (any_one y x) s cl s' cl'
    any_one_idle g t = pair_idle (is_any_one _ _) h (unfold effect when run_of in λ j s d. rw (d, ← e, t)) g

-- ---- a gate's own requires

gated_fits : (c : Catalogue) (gate : ℕ) (q : Requirement) {x : encoder.State} {k : ℕ} → CanAdd x k → AllNamed c x (goal_of q)
    → Fitting c x.limits x.used (regions_of x) (clauses.Gated gate q)
unfolding clause_row clause_is literal_count condition_literals
gated_fits c gate q h a =
    record {
      room = omega (arith, h.literals);
      sound = λ i. record { stored = λ e. omega arith; named = λ e. rw goal_from_parts a; gated = λ e. rw goal_from_parts a };
      counted = refl;
    }

gated_is : (c : Catalogue) (gate : ℕ) (q : Requirement) (vs : List Origin) (w : List ℕ) → clause_is c vs w (clauses.Gated gate q) ≡ gated gate (candidate_variables c vs (goal_of q))
unfolding clause_is
gated_is c gate q vs w = refl

module _ {r : runs.Run} {x x' : encoder.State} {cl cl' : List ℕ} {k gate : ℕ} {q : Requirement} {all : Bool} (h : CanAdd x k) where
  pub gated_sets : {z : code.Literal} → Sets r (clauses.Gated gate q) z x cl x' cl' → literal_of z ≡ signed gate false → all ≡ true → AddsGated r gate (goal_of q) all x cl x' cl'
  gated_sets {z} g f t =
      record {
        limits = g.limits;
        area = g.area;
        is = λ c wt a e. row_sets r (λ vs. gated gate (candidate_variables c vs (goal_of q))) {x = x} (gated_fits c gate q h a) (λ vs. gated_is c gate q vs (regions_of x 19)) z
            (unfold effect when signed in λ i s d. rw (d, ← e, t, f)) g;
      }

  pub gated_idle : Stores (clauses.Gated gate q) 0 x cl x' cl' → all ≡ false → AddsGated r gate (goal_of q) all x cl x' cl'
  gated_idle g t =
      record {
        limits = g.limits;
        area = g.area;
        is = λ c wt a e. row_reports r (λ vs. gated gate (candidate_variables c vs (goal_of q))) {x = x} (gated_fits c gate q h a) (λ vs. gated_is c gate q vs (regions_of x 19)) false
            (λ q. absurd (false≢true q)) refl (unfold effect when in λ i s d. rw (d, ← e, t)) g;
      }

-- ---- an owner's requires

requires_is : (c : Catalogue) (owner start count : ℕ) (q : Requirement) (vs : List Origin) (w : List ℕ) (ks : List Literal) → literals_in w start count ≡ ks
    → clause_is c vs w (clauses.Requires owner start count q) ≡ requires owner ks (candidate_variables c vs (goal_of q))
unfolding clause_is
requires_is c owner start count q vs w ks e = rw e

requires_fits : (c : Catalogue) (owner count : ℕ) (q : Requirement) (x : encoder.State) {ks : List Literal}
    → AllNamed c x (goal_of q) → x.used.literals + count ≤ x.limits.literals → literals_in (regions_of x 19) x.used.literals count ≡ ks → length ks ≡ count
    → Fitting c x.limits x.used (regions_of x) (clauses.Requires owner x.used.literals count q)
unfolding clause_row clause_is literal_count condition_literals
requires_fits c owner count q x a h e f =
    record {
      room = h;
      sound = λ i. record { stored = λ _. omega arith; named = λ _. rw goal_from_parts a; gated = λ _. rw goal_from_parts a };
      counted = ap length e ∙ f;
    }

literals_over : {c : Catalogue} {l : Limits} {n : Counters} {st : ℕ → List ℕ} {cl wt : List ℕ} (r : Run) (k : rules.Clause) (v : Reading) → Good c l n st cl wt
    → l.literals < n.literals + condition_literals k → beyond l (room_of l n) (add_clause r k (state_of c l v n st cl wt)) ≡ true
unfolding beyond
literals_over {c} {l} {n} {st} {cl} {wt} r k v g h =
    rw (only_clauses (limits_of l) (state_of c l v n st cl wt) (good_within g v) r k, more, or_true (ltb (limits_of l).clauses (suc (length (state_of c l v n st cl wt).clauses))))
  where
    more : ltb (limits_of l).condition_literals (sum (map condition_literals (state_of c l v n st cl wt).clauses) + condition_literals k) ≡ true
    more = unfold limits_of state_of in rw (← g.clauses.literals) (lt-ltb l.literals (n.literals + condition_literals k) h)

more_literals : (owner : ℕ) (ks : List Literal) (ps : List ℕ) → condition_literals (requires owner ks ps) ≡ length ks
unfolding condition_literals
more_literals owner ks ps = refl

longer : (l : Limits) (n : Counters) (k : rules.Clause) {count : ℕ} → condition_literals k ≡ count → l.literals < n.literals + count
    → l.literals < n.literals + condition_literals k
longer l n k e h = rw e h

module _ {r : runs.Run} {x : encoder.State} {cl : List ℕ} {owner count : ℕ} {all : Bool} where
  pub requires_full : {g : Goal} → (x.used.full ≡ 0 → ⊥) → AddsRequires r owner count g all x cl x cl
  requires_full f = record { limits = refl; area = refl; is = λ c wt ks q a e d. did_full (told_full f) (λ v s. add_clause_widens _ _ s) }

  pub requires_over : {x' : encoder.State} {goal : Goal} → x'.limits ≡ x.limits → x'.area ≡ x.area → x.limits.literals < x.used.literals + count → x'.used ≡ filled x.used
      → AddsRequires r owner count goal all x cl x' cl
  requires_over {goal = goal} i j h e =
      record {
        limits = i;
        area = rw j;
        is = λ c wt ks q a _ d. rw (e, j) (did_filled (λ v s. add_clause_widens _ _ s)
            (λ g v. literals_over (run_of r) (requires owner ks (candidate_variables c (state_of c x.limits v x.used (regions_of x) cl wt).variables goal)) v g
            (longer x.limits x.used (requires owner ks (candidate_variables c (state_of c x.limits v x.used (regions_of x) cl wt).variables goal)) (more_literals owner ks _ ∙ q) h)));
      }

  pub requires_stored : {x' : encoder.State} {cl' : List ℕ} {goal : Requirement} {b : Bool} {conflict : Option ℕ}
      → x.used.literals + count ≤ x.limits.literals → 0 < r.number → b ≡ is_false (decisions_of x) owner → conflict ≡ then_some (all && not b) r.number
      → Stores (clauses.Requires owner x.used.literals count goal) (unwrap_or conflict 0) x cl x' cl' → AddsRequires r owner count (goal_of goal) all x cl x' cl'
  requires_stored {goal = goal} {b = b} h o e f g =
      record {
        limits = g.limits;
        area = g.area;
        is = λ c wt ks q a p d. row_reports r (λ vs. requires owner ks (candidate_variables c vs (goal_of goal))) {x = x} (requires_fits c owner count goal x a h (p h) q)
            (λ vs. requires_is c owner x.used.literals count goal vs (regions_of x 19) ks (p h)) (all && not b) (λ _. o) (rw f (run_if (all && not b) r.number))
            (unfold effect in λ i s u. rw (u, ← d h, ← e)) g;
      }

-- ---- two literals

abbrev heeded : Run → ℕ → Outcome → Literal → Literal → State → State
heeded r i outcomes.Nothing a b s = s
heeded r i outcomes.Conflict a b s = report r i s
heeded r i outcomes.SetsFirst a b s = force r i a s
heeded r i outcomes.SetsSecond a b s = force r i b s

by_outcome : (r : Run) (i : ℕ) (x y : Evaluation) (a b : Literal) (s : State) → propagate_by r i x y a b s ≡ heeded r i (outcome_of (seen x) (seen y)) a b s
unfolding propagate_by seen outcome_of
by_outcome r i (falsified j) (falsified k) a b s = refl
by_outcome r i (falsified j) undecided a b s = refl
by_outcome r i (falsified j) (satisfied k) a b s = refl
by_outcome r i undecided (falsified k) a b s = refl
by_outcome r i undecided undecided a b s = refl
by_outcome r i undecided (satisfied k) a b s = refl
by_outcome r i (satisfied j) y a b s = refl

does : (r : Run) (ds : List Decision) (a b : Literal) (k : rules.Clause) {o p : Outcome} → o ≡ outcome_in ds a b → o ≡ p
    → ((i : ℕ) (s : State) → effect r i k s ≡ propagate r i a b s) → Does r k ds (λ i s. heeded r i p a b s)
unfolding propagate outcome_in
does r ds a b k f t e i s d = e i s ∙ (by_outcome r i _ _ a b s ∙ rw (d, ← f, t))

module _ {r : runs.Run} {x x' : encoder.State} {cl cl' : List ℕ} {pair : Clause} {bytes : ℕ} {a b : code.Literal} {o : Outcome}
    (h : CanAdd x bytes) (f : o ≡ outcome_in (decisions_of x) (literal_of a) (literal_of b)) where
  pub pair_nothing : o ≡ outcomes.Nothing → Stores pair 0 x cl x' cl' → AddsPair r pair a b x cl x' cl'
  pair_nothing t g = record { is = λ k p e. pair_idle p h (does (run_of r) _ (literal_of a) (literal_of b) k f t e) g }

  pub pair_conflict : CanPair x.limits r a b → o ≡ outcomes.Conflict → Stores pair r.number x cl x' cl' → AddsPair r pair a b x cl x' cl'
  unfolding when
  pair_conflict c t g = record { is = λ k p e. pair_reports p h true (λ _. c.run) refl (does (run_of r) _ (literal_of a) (literal_of b) k f t e) g }

  pub pair_sets_first : o ≡ outcomes.SetsFirst → Sets r pair a x cl x' cl' → AddsPair r pair a b x cl x' cl'
  pair_sets_first t g = record { is = λ k p e. pair_sets p h a (does (run_of r) _ (literal_of a) (literal_of b) k f t e) g }

  pub pair_sets_second : o ≡ outcomes.SetsSecond → Sets r pair b x cl x' cl' → AddsPair r pair a b x cl x' cl'
  pair_sets_second t g = record { is = λ k p e. pair_sets p h b (does (run_of r) _ (literal_of a) (literal_of b) k f t e) g }

-- a literal's variable exists
pub made_exists : (l : Limits) (z : code.Literal) (x : ℕ) (b : Bool) → literal_of z ≡ signed x b → x < l.variables → (literal_of z).variable < l.variables
unfolding signed
made_exists l z x b e h = rw e h

pub forbid_can : {l : Limits} {r : runs.Run} {a b : code.Literal} (x : ℕ) → 0 < r.number → literal_of a ≡ signed x false → x < l.variables
    → (literal_of b).variable < l.variables → CanPair l r a b
forbid_can {l} {a = a} x o e h k = record { run = o; first = made_exists l a x false e h; second = k }

pub any_gate_can : {l : Limits} {r : runs.Run} {a b : code.Literal} (x y : ℕ) → 0 < r.number → literal_of a ≡ signed x true → literal_of b ≡ signed y false
    → x < l.variables → y < l.variables → CanPair l r a b
any_gate_can {l} {a = a} {b = b} x y o e f h k = record { run = o; first = made_exists l a x true e h; second = made_exists l b y false f k }

module _ {r : runs.Run} {s s' : encoder.State} {cl cl' : List ℕ} {x : ℕ} where
  pub forbid_added : {a b : code.Literal} → AddsPair r (clauses.Forbid x b) a b s cl s' cl' → literal_of a ≡ signed x false → Adds r (forbid x (literal_of b)) s cl s' cl'
  forbid_added {b = b} g e = g.is (forbid x (literal_of b)) (is_forbid x b) (unfold effect signed in λ i s. rw e)

  pub any_gate_added : {y : ℕ} {a b : code.Literal} → AddsPair r (clauses.AnyGate x y) a b s cl s' cl' → literal_of a ≡ signed x true
      → literal_of b ≡ signed y false → Adds r (any_gate x y) s cl s' cl'
  any_gate_added {y} g e f = g.is (any_gate x y) (is_any_gate x y) (unfold effect signed in λ i s. rw (e, f))
