-- The definitions' walk over a job, cut where the catalogue ends and where the sheet does.
use mathlib.Core.Path.{◌≡◌, refl, sym, ◌∙◌, ap}
use mathlib.Core.List.{List, []}
use mathlib.Core.Logic.{◌⊎◌, inl, inr}
use Prim.Native.Nat.{ℕ, ◌+◌}
use native.Mathlib.Omega.{arith}
use native.Mathlib.Decide.{dec_lt}
use lib.ListN.{length, get_or, drop}
use Rattle.std.specs.Prelude.{Result, Ok, Err}
use Rattle.rules.specs.Catalogue.{Catalogue, empty_catalogue}
use Rattle.rules.specs.Refusals.{number_and_place}
use Rattle.rules.specs.State.{start}
use Rattle.rules.specs.Limits.{Terms}
use Rattle.rules.specs.Job.{Progress, reading, carrying, stopped, walk, run_step, check_step, answer_of, printed, refused, ended}
use Rattle.rules.proofs.Reached.{Given, checked_given}
use Rattle.rules.proofs.WellFormed.{well_formed}
use Rattle.rules.proofs.WalkLaws.{walk_record, walk_end, walk_still, run_reads, check_sheet, check_carries}
use Rattle.refusal.specs.declared.RefusedAt.{RefusedAt}
use Rattle.refusal.specs.Refusing.{refusal_of}
use Rattle.tables.specs.declared.Counts.{Counts}
use Rattle.cache.specs.Areas.{catalogue, Held}
use Rattle.words.specs.Words.{words}
use Rattle.unions.specs.Unions.{rows}
use Rattle.kept.specs.Kept.{Kept}
use Rattle.kept.specs.Kept as kept
use Rattle.index.specs.Chains.{Chains, Keys}
use Rattle.index.specs.Members.{Threaded, Built}
use Rattle.index.proofs.Owners.{keys_given}
use Rattle.catalogue.specs.declared.Read.{Read}
use Rattle.catalogue.specs.Walking.{place_of, progress_of, UpToSheet, ReadUp}
use Rattle.state.specs.declared.Limits.{Limits}
use Rattle.state.specs.Layout.{held}
use Rattle.encoder.specs.declared.Counters.{Counters}
use Rattle.encoder.specs.declared.State.{State}
use Rattle.encoder.specs.declared.state_ref.StateRef.{StateRef}
use Rattle.encoder.specs.Does.{regions_of}
use Rattle.encoder.specs.StateRefs.{regions_at, RefOf}
use Rattle.index.specs.Catalogued.{Catalogued}
use Rattle.carried.specs.Carrying.{end_from, SheetDid}
use Rattle.beginning.specs.Beginning.{Reaches, IsReached}
use Rattle.ending.specs.declared.Accepted.{Accepted}
use Rattle.ending.specs.Ending.{told, Comes, Finishes, IsFinished}
use Rattle.outcome.specs.Outcomes.{RunsFrom, ReadWhole}

-- a refusal leaves the listing area
refused_comes : (job out : List ℕ) (e : RefusedAt) → Comes job (refused (number_and_place (length job) e.at (refusal_of e.refusal))) (Err e) out out
unfolding answer_of printed told
refused_comes job out e = record { answer = refl; listing = refl }

-- ---- the catalogue

module _ {job : List ℕ} {r : Read} {m u t : List ℕ} {x : Result Read RefusedAt} (h : ReadUp job x m u t) (e : x ≡ Ok r) where
  abbrev at : ℕ
  at = r.at

  abbrev k : Counts
  k = r.counts

  abbrev read_up : ReadUp job (Ok r) m u t
  read_up = rw e at h

  check_end : (z : Terms) → (walk (check_step z job) 0 at (drop at job) (reading (catalogue k m u t)) ≡ reading (catalogue k m u t))
      ⊎ (walk (check_step z job) 0 at (drop at job) (reading (catalogue k m u t)) ≡ carrying (catalogue k m u t) start)
  check_end z = elim (dec_lt at (length job)) [
    | yes h ↦ inr (
        walk_record (check_step z job) job at (reading (catalogue k m u t)) h
        ∙ ap (walk (check_step z job) 0 _ _) (check_sheet z job (catalogue k m u t) at (get_or job at 0) (drop (at + 1) job) (read_up.ended.starts h))
        ∙ walk_still (check_step z job) (carrying (catalogue k m u t) start) (check_carries z job (catalogue k m u t)) 0 _ _
        )
    | no h ↦ inl (walk_end (check_step z job) job at (reading (catalogue k m u t)) (omega arith))
  ]

  -- any terms will do
  pub given_read : Given (catalogue k m u t)
  unfolding place_of progress_of
  given_read =
      let z : Terms = record { limits = record { variables = 0; clauses = 0; condition_literals = 0; waiting = 0 }; lent = []; listing = 0 } in
      checked_given z job (read_up.same.check z) (check_end z)

  -- what the chains ask for
  pub keys_read : Keys k t
  keys_read = keys_given k m u t (well_formed given_read)

  pub held_read : Held k (length m) (length u) (length t)
  held_read = read_up.ended.kept.held

  pub given_members : kept.Given k.unions (rows k.members u)
  given_members = read_up.ended.kept.given

  -- with its chains made it is the same catalogue
  module _ {u' t' : List ℕ} (b : Built k m u t u' t') (y : length u' ≡ length u) (z : length t' ≡ length t) where
    same_catalogue : catalogue k m u' t' ≡ catalogue k m u t
    unfolding catalogue
    same_catalogue = rw (b.same, b.kept)

    still_kept : Kept k m u' t'
    still_kept =
        let a = read_up.ended.kept in
        record { held = rw (y, z) a.held; given = rw b.kept a.given; sized = rw b.same a.sized }

    pub read_built : ReadWhole job (Ok r) m u' t'
    unfolding place_of progress_of
    read_built =
        let a = read_up in
        record {
          read = record {
            same = rw same_catalogue a.same;
            ended = record { kept = still_kept; inside = a.ended.inside; starts = a.ended.starts };
          };
          chains = (b.chains, rw b.kept b.members);
        }

  -- what a catalogue's type says of areas with their chains
  pub read_catalogued : Chains k m t × Threaded k (rows k.members u) 0 (words t) (words u) → Catalogued k m u t
  read_catalogued d =
      let b = read_up.ended.kept in
      record { kept = record { held = b.held; given = b.given; sized = b.sized; chains = d.0; members = d.1 }; formed = well_formed given_read }

  pub up_to_sheet : UpToSheet job at k m u t
  up_to_sheet = read_up.ended

  -- what comes of the job is what comes of it from the sheet on
  pub from_sheet : {l : Limits} {y : Result Accepted RefusedAt} {out out' : List ℕ} → RunsFrom l job at (reading (catalogue k m u t)) y out out' → RunsFrom l job 0 (reading empty_catalogue) y out out'
  unfolding end_from place_of progress_of
  from_sheet g = record { is = λ z e f. rw (read_up.same.run z) (g.is z e f) }

pub whole_catalogued : {job : List ℕ} {r : Read} {m u t : List ℕ} {x : Result Read RefusedAt} → ReadWhole job x m u t → x ≡ Ok r → Catalogued r.counts m u t
whole_catalogued h e = read_catalogued h.read e (rw e at h).chains

pub not_read : {job : List ℕ} {f : RefusedAt} {m u t m' u' t' : List ℕ} {x : Result Read RefusedAt} → ReadUp job x m u t → x ≡ Err f → ReadWhole job (Err f) m' u' t'
unfolding place_of progress_of
not_read h e = let g = rw e at h in record { read = record { same = g.same; ended = tt }; chains = tt }

-- the catalogue is refused
pub from_refused : {l : Limits} {job : List ℕ} {f : RefusedAt} {m u t : List ℕ} {x : Result Read RefusedAt} (out : List ℕ) → ReadUp job x m u t → x ≡ Err f
    → RunsFrom l job 0 (reading empty_catalogue) (Err f) out out
unfolding end_from place_of progress_of ended
from_refused {job = job} {f = f} out h k =
    let r = rw k at h in
    record {
      is = λ z e g.
          rw (r.same.run z ∙ walk_still (run_step z job) (stopped (number_and_place (length job) f.at (refusal_of f.refusal))) ((run_reads z job).over _) 0 f.at (drop f.at job))
          (refused_comes job out f);
    }

-- ---- the same limits

module _ {l l' : Limits} (e : l ≡ l') where
  reaches_within : {c : Catalogue} {n : Counters} (b : List ℕ) {cl wt : List ℕ} → Reaches c l n (held l b) cl wt → Reaches c l' n (held l' b) cl wt
  reaches_within b h = rw (← e) h

  finishes_within : {c : Catalogue} {n : Counters} (b : List ℕ) {cl wt : List ℕ} {r : Result Accepted RefusedAt} {out out' : List ℕ} → Finishes c l n (held l b) cl wt r out out'
      → Finishes c l' n (held l' b) cl wt r out out'
  finishes_within b h = rw (← e) h

  runs_within : {job : List ℕ} {at : ℕ} {p : Progress} {r : Result Accepted RefusedAt} {out out' : List ℕ} → RunsFrom l job at p r out out' → RunsFrom l' job at p r out out'
  runs_within h = rw (← e) h

-- ---- a state and a reference to it

module _ {x : State} {r : StateRef} (e : RefOf x r) {c : Catalogue} {cl wt : List ℕ} where
  reached_by_reference : IsReached c x cl wt → Reaches c r.limits r.used (regions_at r) cl wt
  reached_by_reference h = rw (e.area, e.limits, e.used) h

  finished_by_reference : {y : Result Accepted RefusedAt} {out out' : List ℕ} → IsFinished c r cl wt y out out' → Finishes c x.limits x.used (regions_of x) cl wt y out out'
  finished_by_reference h = rw (e.area, e.limits, e.used) at h

-- ---- the sheet

pub sheet_reaches : {c : Catalogue} {job : List ℕ} {from : ℕ} {x x' : State} {cl' wt' : List ℕ} → SheetDid c job from x (Ok tt) x' cl' wt' → Given c → IsReached c x' cl' wt'
sheet_reaches d g =
    let y = d.carried refl in
    reaches_within (sym d.limits) _ (record { state = y.state; given = g; reached = y.reached; holds = y.holds })

-- the same of a reference to the state
pub sheet_reaches_by_reference : {c : Catalogue} {job : List ℕ} {from : ℕ} {x x' : State} {r : StateRef} {cl' wt' : List ℕ} → SheetDid c job from x (Ok tt) x' cl' wt' → Given c → RefOf x' r
    → Reaches c r.limits r.used (regions_at r) cl' wt'
sheet_reaches_by_reference d g e = reached_by_reference e (sheet_reaches d g)

-- within these limits
module _ {c : Catalogue} {l : Limits} {job : List ℕ} {from : ℕ} {x x' : State} {cl' wt' : List ℕ} (i : x.limits ≡ l) where
  pub sheet_refused : {e : RefusedAt} (out : List ℕ) → SheetDid c job from x (Err e) x' cl' wt' → RunsFrom l job from (reading c) (Err e) out out
  sheet_refused {e} out d = runs_within i (record { is = λ z k g. rw (d.refused e refl z k) (refused_comes job out e) })

  pub sheet_finished : {r : Result Accepted RefusedAt} {out out' : List ℕ} → SheetDid c job from x (Ok tt) x' cl' wt' → Finishes c x'.limits x'.used (regions_of x') cl' wt' r out out'
      → RunsFrom l job from (reading c) r out out'
  unfolding ended
  sheet_finished d h =
      let y = d.carried refl in
      runs_within i (record { is = λ z e g. rw (y.alike z e) ((finishes_within d.limits _ h).is y.state y.holds z job g) })

  -- the same of a reference to the state
  pub sheet_finished_by_reference : {a : StateRef} {r : Result Accepted RefusedAt} {out out' : List ℕ} → SheetDid c job from x (Ok tt) x' cl' wt' → RefOf x' a
      → IsFinished c a cl' wt' r out out' → RunsFrom l job from (reading c) r out out'
  sheet_finished_by_reference d f h = sheet_finished d (finished_by_reference f h)
