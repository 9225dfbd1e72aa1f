-- One record of a sheet: a step of the definitions' walk, or its refusal.
use mathlib.Core.Path.{◌≡◌, refl, sym, ◌∙◌, ap}
use mathlib.Core.Bool.{Bool, true, not, ◌||◌}
use mathlib.Core.List.{List, []}
use Prim.Native.Nat.{ℕ, ◌+◌, ◌<◌, ◌≤◌}
use native.Mathlib.Omega.{arith}
use lib.Dec.{leb}
use lib.ListN.{length, get_or, drop}
use borrow.Author.Tests.{leb-true}
use Rattle.std.specs.Prelude.{Ok, Err}
use Rattle.rules.specs.Compute.{computing}
use Rattle.rules.specs.Lists.{all}
use Rattle.rules.specs.Catalogue.{Catalogue}
use Rattle.rules.specs.Refusals.{ok, refuse, number_and_place}
use Rattle.rules.specs.Refusals as rules
use Rattle.rules.specs.Records.{Kind, kinds, kind_of, of_sheet, Command, sheet, read}
use Rattle.rules.specs.State.{State, decided_true}
use Rattle.rules.specs.Limits.{Terms}
use Rattle.rules.specs.Sheet.{command_refusals, carried_out, carry_out}
use Rattle.rules.specs.Job.{carrying, stopped, body_of, walk, after_command, after_record, run_step, starts_sheet, refused, ended}
use Rattle.rules.proofs.KindTable.{not_one, looked_up}
use Rattle.rules.proofs.WalkLaws.{walk_record, walk_still, read_ok, read_sheet, run_reads}
use Rattle.rules.proofs.Reached.{unless_any_ok, Given, Reached, command, no_item}
use Rattle.refusal.specs.declared.Refusal.{Refusal}
use Rattle.refusal.specs.Refusing.{refusal_of}
use Rattle.reader.specs.declared.Command as code
use Rattle.reader.specs.declared.ItemKind.{ItemKind}
use Rattle.reader.specs.declared.Record.TheVariants as R
use Rattle.reader.specs.Reading.{command_of, record_in, result_of, next_of}
use Rattle.state.specs.declared.Limits.{Limits}
use Rattle.variable_map.specs.Mapping.{variables}
use Rattle.decision_tracker.specs.Tracking.{decisions}
use Rattle.encoder.specs.declared.Counters.{Counters}
use Rattle.encoder.specs.declared.State as encoder
use Rattle.encoder.specs.Held.{state_of}
use Rattle.encoder.specs.Does.{variables_of, decisions_of}
use Rattle.state.specs.Limits.{limits_of}
use Rattle.blocking.specs.declared.Blocking.{Blocking}
use Rattle.blocking.specs.Blocking.{Blocked}
use Rattle.encoding.specs.Running.{Holds, IsHolding}
use Rattle.sheet.specs.Sheet.{CommandDid}
use Rattle.carried.specs.Carrying.{end_from, Settled, Has, Idles, Notes, SettledDid, Passed, StepDid}

-- ---- a sheet record has three bytes or more

abbrev long : ℕ × Kind × ℕ → Bool
long e = not (of_sheet e.0) || leb 2 e.2

table : all long kinds ≡ true
unfolding computing
table = refl

-- its body
sheet_body : (b : ℕ) (rest : List ℕ) (o : Command) → read true b rest ≡ ok (sheet o) → 2 ≤ body_of (kind_of b)
unfolding kind_of body_of starts_sheet
sheet_body b rest o e =
    let r = read_ok true b rest (sheet o) e in
    let s : of_sheet b ≡ true = rw r.found at (read_sheet true b rest o e) in
    let t : (not (of_sheet b) || leb 2 r.body) ≡ true = looked_up long b kinds (r.kind, r.body) table r.found in
    rw r.found (leb-true 2 r.body (rw s at t))

-- ---- by the definitions

-- a command that is carried out reaches a state
then_reached : {l : _} {c : Catalogue} {s s' : State} → Reached l c s → (o : Command) → carry_out l c o s ≡ ok s' → Reached l c s'
unfolding carry_out
then_reached {l} {c} {s} {s'} r o e = let p = unless_any_ok (command_refusals l c o s) (carried_out l c o s) s' e in rw p.1 at (command r o p.0)

module _ (l : Limits) (job : List ℕ) (at : ℕ) (h : at < length job) (c : Catalogue) (s : State) (t : Terms) (q : t.limits ≡ limits_of l) where
  abbrev kind : ℕ
  kind = get_or job at 0

  abbrev rest : List ℕ
  rest = drop (at + 1) job

  stops : (n : ℕ × ℕ) → run_step t job at kind rest (carrying c s) ≡ stopped n → end_from t job at (carrying c s) ≡ refused n
  unfolding end_from ended
  stops n e =
      ap (ended t job) (walk_record (run_step t job) job at (carrying c s) h ∙ ap (walk (run_step t job) 0 _ _) e ∙ walk_still (run_step t job) (stopped n) ((run_reads t job).over n) 0 _ _)

  unread : (f : rules.Refusal) → read true kind rest ≡ refuse f → end_from t job at (carrying c s) ≡ refused (number_and_place (length job) at f)
  unfolding run_step after_record
  unread f e = stops _ (rw e)

  module _ (o : Command) (e : read true kind rest ≡ ok (sheet o)) where
    not_carried : (f : rules.Refusal) → carry_out (limits_of l) c o s ≡ refuse f → end_from t job at (carrying c s) ≡ refused (number_and_place (length job) at f)
    unfolding run_step after_record after_command
    not_carried f d = stops _ (rw (e, q, d))

    goes_on : (s' : State) (next : ℕ) → next ≡ at + 1 + body_of (kind_of kind) → carry_out (limits_of l) c o s ≡ ok s'
        → end_from t job at (carrying c s) ≡ end_from t job next (carrying c s')
    unfolding end_from
    goes_on s' next n d = ap (ended t job) (walk_record (run_step t job) job at (carrying c s) h ∙ rw (n, step))
      where
        step : run_step t job at kind rest (carrying c s) ≡ carrying c s'
        step = unfold run_step after_record after_command in rw (e, q, d)

-- ---- the code's command

pub has_held : {c : Catalogue} {l : Limits} {s : State} {n : Counters} {st : ℕ → List ℕ} {cl wt : List ℕ} → Holds c l s n st cl wt
    → Has (variables n.variables st) (decisions n.decisions st) s
unfolding state_of
has_held h =
    let is = h.is (record { truth = λ _. true; drawn = [] }) in
    record { variables = sym (ap (λ (u : State). u.variables) is); decisions = sym (ap (λ (u : State). u.decisions) is) }

module _ {c : Catalogue} {o : Command} {flags : List Bool} {blocking : Blocking} {x : encoder.State} {cl wt : List ℕ} {b : Bool} {blocking' : Blocking}
    (d : Idles c (variables_of x) (decisions_of x) o flags blocking b blocking') where
  pub settled_passes : {flags' : List Bool} → b ≡ true → Notes o flags flags' → SettledDid c o flags blocking x cl wt (Ok tt) flags' blocking' x cl wt
  settled_passes e k =
      record {
        limits = refl;
        area = refl;
        carried = λ _ s g z h y w. record { state = s; is = d.is e (limits_of x.limits) s g z (has_held h) y w; holds = h; runs = omega arith };
        notes = λ _. k;
        guards = d.guards;
        refused = λ f q. absurd (not_one (cc));
      }

  module _ {x' : encoder.State} {cl' wt' : List ℕ} where
    pub settled_carries : {flags' : List Bool} → CommandDid c o x cl wt (Ok tt) x' cl' wt' → Notes o flags flags' → SettledDid c o flags blocking x cl wt (Ok tt) flags' blocking' x' cl' wt'
    settled_carries y k =
        record {
          limits = y.limits;
          area = y.area;
          carried = λ e s g z h _ _. y.carried e s g z h;
          notes = λ _. k;
          guards = d.guards;
          refused = λ f q. absurd (not_one (cc));
        }

    pub settled_fails : {f : Refusal} → CommandDid c o x cl wt (Err f) x' cl' wt' → SettledDid c o flags blocking x cl wt (Err f) flags blocking' x' cl' wt'
    settled_fails y =
        record {
          limits = y.limits;
          area = y.area;
          carried = λ e. absurd (not_one (cc));
          notes = λ e. absurd (not_one (cc));
          guards = d.guards;
          refused = y.refused;
        }

-- ---- the code's record

module _ {c : Catalogue} {job : List ℕ} {at : ℕ} {flags flags' : List Bool} {blocking blocking' : Blocking} {x x' : encoder.State} {cl wt cl' wt' : List ℕ} where
  refuses : (f : Refusal) → x'.limits ≡ x.limits → x'.area.ghost_name ≡ x.area.ghost_name
      → ((s : State) → Given c → Reached (limits_of x.limits) c s → IsHolding c s x cl wt → (t : Terms) → t.limits ≡ limits_of x.limits
      → end_from t job at (carrying c s) ≡ refused (number_and_place (length job) at (refusal_of f)))
      → StepDid c job at flags blocking x cl wt (Err f) flags' blocking' x' cl' wt'
  refuses f i j p =
      record {
        limits = i;
        area = j;
        next = λ y e. absurd (not_one (cc));
        refused = λ g e. let q : g ≡ f = cc in rw q p;
      }

-- a command that was read, and the position behind it
module _ (job : List ℕ) (at next : ℕ) (k : code.Command) (e : result_of (drop (at + 1) job) (Ok (R.Sheet k, next)) ≡ read true (get_or job at 0) (drop (at + 1) job))
    (b : (next ≡ next_of job at) × (next ≤ length job)) where
  is_read : read true (get_or job at 0) (drop (at + 1) job) ≡ ok (sheet (command_of k))
  unfolding result_of record_in
  is_read = sym e

  sheet_onward : at + 3 ≤ next
  sheet_onward = omega (arith, b.0, sheet_body (get_or job at 0) (drop (at + 1) job) (command_of k) is_read)

module _ {c : Catalogue} (job : List ℕ) (at : ℕ) {flags : List Bool} {blocking : Blocking} {x : encoder.State} {cl wt : List ℕ} (h : at < length job) where
  pub step_unread : (f : Refusal) → result_of (drop (at + 1) job) (Err f) ≡ read true (get_or job at 0) (drop (at + 1) job) → StepDid c job at flags blocking x cl wt (Err f) flags blocking x cl wt
  unfolding result_of
  step_unread f e = refuses f refl refl (λ s _ _ _ t p. unread x.limits job at h c s t p (refusal_of f) (sym e))

  -- after a sheet record nothing is read as an item
  pub step_item : (f : Refusal) (i : ItemKind) (next : ℕ) → result_of (drop (at + 1) job) (Ok (R.Item i, next)) ≡ read true (get_or job at 0) (drop (at + 1) job)
      → StepDid c job at flags blocking x cl wt (Err f) flags blocking x cl wt
  unfolding result_of record_in
  step_item f i next e = absurd (no_item (get_or job at 0) (drop (at + 1) job) _ (sym e))

  module _ (next : ℕ) (k : code.Command) (e : result_of (drop (at + 1) job) (Ok (R.Sheet k, next)) ≡ read true (get_or job at 0) (drop (at + 1) job))
      (b : (next ≡ next_of job at) × (next ≤ length job)) {flags' : List Bool} {blocking' : Blocking} {x' : encoder.State} {cl' wt' : List ℕ} where
    step_carried : SettledDid c (command_of k) flags blocking x cl wt (Ok tt) flags' blocking' x' cl' wt'
        → (s : State) → Given c → Reached (limits_of x.limits) c s → IsHolding c s x cl wt → Settled c flags s
        → Blocked c (decided_true s) blocking → Passed c job at next s x flags' blocking' x' cl' wt'
    step_carried d s g z o i v =
        let y = d.carried refl s g z o i v in
        record {
          onward = sheet_onward job at next k e b;
          inside = b.1;
          runs = y.runs;
          state = y.state;
          reached = then_reached z (command_of k) y.is;
          holds = y.holds;
          settled = (d.notes refl).is (limits_of x.limits) c s y.state z y.is i;
          blocked = d.guards.is (limits_of x.limits) s y.state z (has_held o) y.is v;
          alike = λ t p. goes_on x.limits job at h c s t p (command_of k) (is_read job at next k e b) y.state next b.0 y.is;
        }

    -- it was carried out or refused
    pub step_done : SettledDid c (command_of k) flags blocking x cl wt (Ok tt) flags' blocking' x' cl' wt' → StepDid c job at flags blocking x cl wt (Ok next) flags' blocking' x' cl' wt'
    step_done d =
        record {
          limits = d.limits;
          area = d.area;
          next = λ y v. let p : y ≡ next = cc in rw p (step_carried d);
          refused = λ f v. absurd (not_one (cc));
        }

    pub step_failed : {f : Refusal} → SettledDid c (command_of k) flags blocking x cl wt (Err f) flags' blocking' x' cl' wt' → StepDid c job at flags blocking x cl wt (Err f) flags' blocking' x' cl' wt'
    step_failed {f} d =
        refuses f d.limits d.area (λ s g z o t p. not_carried x.limits job at h c s t p (command_of k) (is_read job at next k e b) (refusal_of f) (d.refused f refl s g z o))
