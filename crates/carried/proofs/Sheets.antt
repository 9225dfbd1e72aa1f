-- The loop over a sheet's records: what is left of the job ends as the whole sheet does.
use mathlib.Core.Path.{◌≡◌, refl, sym, ◌∙◌, ap}
use mathlib.Core.Bool.{Bool, true, false, true≢false}
use mathlib.Core.List.{List}
use mathlib.Core.Option.{Option, none, some}
use Prim.Native.Nat.{ℕ, ◌+◌, ◌-◌, ◌*◌, ◌<◌, ◌≤◌}
use native.Mathlib.Omega.{arith}
use native.Mathlib.Decide.{dec_lt}
use lib.ListN.{length, get_or, drop}
use Rattle.std.specs.Prelude.{Result, Ok, Err, MatchResult, IsErrAnd, is_ok}
use Rattle.rules.specs.Catalogue.{Catalogue}
use Rattle.rules.specs.Records.{Kind, kind_of, of_sheet, read}
use Rattle.rules.specs.State.{State, start, decided_true}
use Rattle.rules.specs.Limits.{Terms}
use Rattle.rules.specs.Job.{reading, carrying, walk, run_step, starts_sheet, ended}
use Rattle.rules.proofs.KindTable.{not_one}
use Rattle.rules.proofs.WalkLaws.{walk_record, walk_end}
use Rattle.rules.proofs.Reached.{Given, Reached}
use Rattle.refusal.specs.declared.Refusal.{Refusal}
use Rattle.refusal.specs.declared.RefusedAt.{RefusedAt}
use Rattle.tables.specs.declared.Counts.{Counts}
use Rattle.cache.specs.Areas.{catalogue}
use Rattle.catalogue.specs.Walking.{UpToSheet}
use Rattle.state.specs.declared.Limits.{Limits}
use Rattle.state.specs.Limits.{limits_of}
use Rattle.state.specs.Layout.{held}
use Rattle.encoder.specs.declared.Counters.{Counters}
use Rattle.encoder.specs.declared.State as encoder
use Rattle.blocking.specs.declared.Blocking.{Blocking}
use Rattle.blocking.specs.Blocking.{Blocked}
use Rattle.blocking.proofs.Blocked.{blocked_none}
use Rattle.encoding.specs.Running.{Holds, IsHolding}
use Rattle.sheet.proofs.Held.{held_runs}
use Rattle.carried.specs.declared.Memory.{Memory}
use Rattle.carried.specs.Carrying.{end_from, Settled, Fresh, Passed, StepDid, SheetDid}
use Rattle.carried.proofs.Settling.{settled_none}

-- ---- the first record

-- a kind of the sheet is read alike before and after the first sheet record
read_alike : (b : ℕ) (rest : List ℕ) → starts_sheet b (kind_of b) ≡ true → read false b rest ≡ read true b rest
unfolding read starts_sheet
read_alike b rest e = rw (of_sheet_law (kind_of b) e)
  where
    of_sheet_law : (o : Option (Kind × ℕ)) → starts_sheet b o ≡ true → of_sheet b ≡ true
    of_sheet_law none e = absurd (not_one (cc))
    of_sheet_law (some k) e = e

module _ (job : List ℕ) (from : ℕ) (c : Catalogue) (starts : from < length job → starts_sheet (get_or job from 0) (kind_of (get_or job from 0)) ≡ true) where
  -- with no sheet record, too, the state is that at the start
  begins_alike : (t : Terms) → end_from t job from (reading c) ≡ end_from t job from (carrying c start)
  unfolding end_from run_step ended
  begins_alike t = elim (dec_lt from (length job)) [ yes h ↦ first h | no h ↦ without (omega arith) ]
    where
      first : from < length job → ended t job (walk (run_step t job) 0 from (drop from job) (reading c)) ≡ ended t job (walk (run_step t job) 0 from (drop from job) (carrying c start))
      first h = rw (walk_record (run_step t job) job from (reading c) h, walk_record (run_step t job) job from (carrying c start) h, read_alike (get_or job from 0) (drop (from + 1) job) (starts h))

      without : length job ≤ from → ended t job (walk (run_step t job) 0 from (drop from job) (reading c)) ≡ ended t job (walk (run_step t job) 0 from (drop from job) (carrying c start))
      without h = rw (walk_end (run_step t job) job from (reading c) h, walk_end (run_step t job) job from (carrying c start) h)

-- ---- a refusal gets its place

-- what was carried out was so before
pub done_before : {X D E : Type 0} {r : Result X E} {m : Result X D} (P : E → Type 0) {x : X} → MatchResult r (λ y. m ≡ Ok y) P → is_ok m ≡ is_ok r → m ≡ Ok x → r ≡ Ok x
done_before {r = Ok y} P h v e = cc
done_before {r = Err f} {m = Ok y} P h v e = absurd (true≢false v)
done_before {r = Err f} {m = Err g} P h v e = absurd (not_one (cc))

-- and what was refused was refused before
pub failed_before : {X D E F : Type 0} {r : Result X E} {m : Result D F} (P : X → Type 0) (Q : E → F → Type 0) → MatchResult r P (λ e. IsErrAnd m (Q e)) → is_ok m ≡ is_ok r → {f : F} → m ≡ Err f
    → (e : E) × (r ≡ Err e) × Q e f
failed_before {r = Ok y} {m = Ok z} P Q h v e = absurd (not_one (cc))
failed_before {r = Ok y} {m = Err z} P Q h v e = absurd (true≢false (sym v))
failed_before {r = Err d} {m = Ok z} P Q h v e = absurd (true≢false v)
failed_before {r = Err d} {m = Err z} P Q h v {f} e = let q : z ≡ f = cc in (d, refl, rw q at h)

-- ---- the same limits

module _ {l l' : Limits} (e : l' ≡ l) where
  reached_within : {c : Catalogue} {s : State} → Reached (limits_of l) c s → Reached (limits_of l') c s
  reached_within h = rw e h

  holds_within : {c : Catalogue} {s : State} {n : Counters} (b : List ℕ) {cl wt : List ℕ} → Holds c l s n (held l b) cl wt → Holds c l' s n (held l' b) cl wt
  holds_within b h = rw e h

-- ---- the loop

-- the records before `at` were carried out; a run takes three bytes or more
pub record Left (c : Catalogue) (job : List ℕ) (from : ℕ) (x₀ : encoder.State) (cl₀ wt₀ : List ℕ) (at : ℕ) (flags : List Bool) (blocking : Blocking) (x : encoder.State) (cl wt : List ℕ) : Type 0 where
  pub limits : x.limits ≡ x₀.limits
  pub area : x.area.ghost_name ≡ x₀.area.ghost_name
  pub clauses_same : length cl ≡ length cl₀
  pub waiting_same : length wt ≡ length wt₀
  pub few : 3 * x.used.runs ≤ at
  pub state : State
  pub reached : Reached (limits_of x.limits) c state
  pub holds : IsHolding c state x cl wt
  pub settled : Settled c flags state
  pub guarded : Blocked c (decided_true state) blocking
  pub alike : (t : Terms) → t.limits ≡ limits_of x.limits → end_from t job from (reading c) ≡ end_from t job at (carrying c state)

pub left_start : (k : Counts) (u v w : List ℕ) (job : List ℕ) (from : ℕ) (x : encoder.State) (cl wt : List ℕ) {memory : Memory} → UpToSheet job from k u v w
    → IsHolding (catalogue k u v w) start x cl wt → Fresh memory → Left (catalogue k u v w) job from x cl wt from memory.settled memory.blocking x cl wt
left_start k u v w job from x cl wt y h z =
    record {
      limits = refl;
      area = refl;
      clauses_same = refl;
      waiting_same = refl;
      few = omega (arith, held_runs h);
      state = start;
      reached = Reached.begun;
      holds = h;
      settled = rw z.settled (settled_none (catalogue k u v w) 256 start);
      guarded = blocked_none z.blocking;
      alike = λ t _. begins_alike job from (catalogue k u v w) y.starts t;
    }

module _ {c : Catalogue} {job : List ℕ} {from : ℕ} {x₀ : encoder.State} {cl₀ wt₀ : List ℕ} {at : ℕ} {flags : List Bool} {blocking : Blocking} {x : encoder.State} {cl wt : List ℕ}
    (p : Left c job from x₀ cl₀ wt₀ at flags blocking x cl wt) where
  module _ {r : Result ℕ Refusal} {flags' : List Bool} {blocking' : Blocking} {x' : encoder.State} {cl' wt' : List ℕ} (g : Given c)
      (d : StepDid c job at flags blocking x cl wt r flags' blocking' x' cl' wt') where
    module _ {next : ℕ} (e : r ≡ Ok next) where
      passed : Passed c job at next p.state x flags' blocking' x' cl' wt'
      passed = d.next next e p.state g p.reached p.holds p.settled p.guarded

      pub left_next : length cl' ≡ length cl → length wt' ≡ length wt → Left c job from x₀ cl₀ wt₀ next flags' blocking' x' cl' wt'
      left_next i j =
          let y = passed in
          record {
            limits = d.limits ∙ p.limits;
            area = d.area ∙ p.area;
            clauses_same = i ∙ p.clauses_same;
            waiting_same = j ∙ p.waiting_same;
            few = omega (arith, p.few, y.runs, y.onward);
            state = y.state;
            reached = reached_within d.limits y.reached;
            holds = holds_within d.limits _ y.holds;
            settled = y.settled;
            guarded = y.blocked;
            alike = λ t z. let z' = z ∙ ap limits_of d.limits in p.alike t z' ∙ y.alike t z';
          }

      pub left_less : at < length job → length job - next < length job - at
      left_less h = let y = passed in omega (arith, y.onward)

    pub left_refused : {f : RefusedAt} → f.at ≡ at → r ≡ Err f.refusal → SheetDid c job from x₀ (Err f) x' cl' wt'
    left_refused {f} i e =
        record {
          limits = d.limits ∙ p.limits;
          area = d.area ∙ p.area;
          carried = λ y. absurd (not_one (cc));
          refused = λ f' y t z. let j : f' ≡ f = cc in let z' = z ∙ sym (ap limits_of p.limits) in rw (j, i) (p.alike t z' ∙ d.refused f.refusal e p.state g p.reached p.holds t z');
        }

  pub left_end : length job ≤ at → SheetDid c job from x₀ (Ok tt) x cl wt
  left_end h =
      record {
        limits = p.limits;
        area = p.area;
        carried = λ _.
            record {
              state = p.state;
              reached = reached_within (sym p.limits) p.reached;
              holds = holds_within (sym p.limits) _ p.holds;
              alike = λ t z. p.alike t (z ∙ sym (ap limits_of p.limits)) ∙ over t;
            };
        refused = λ f y. absurd (not_one (cc));
      }
    where
      over : (t : Terms) → end_from t job at (carrying c p.state) ≡ ended t job (carrying c p.state)
      over t = unfold end_from in ap (ended t job) (walk_end (run_step t job) job at (carrying c p.state) h)
