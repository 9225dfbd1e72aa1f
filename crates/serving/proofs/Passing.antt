-- The task at the head of the line served: the areas hold the next point of the run, or the run would end above a limit.
use mathlib.Core.Path.{◌≡◌, refl, sym, ◌∙◌, ap}
use mathlib.Core.Bool.{true, false}
use mathlib.Core.List.{List, [], ◌++◌, map, append-nil}
use Prim.Native.Nat.{ℕ, ◌+◌, ◌-◌, ◌<◌, ◌≤◌}
use native.Mathlib.Omega.{arith}
use lib.ListN.{length, length-append}
use borrow.Author.Tests.{le-ltb}
use Rattle.rules.specs.Lists.{any}
use Rattle.rules.specs.Catalogue.{Catalogue}
use Rattle.rules.specs.Opening.{Task}
use Rattle.rules.specs.State.{State, decided_true, Run}
use Rattle.rules.specs.Run.{serve_task, run_once}
use Rattle.rules.specs.Limits.{above}
use Rattle.rules.proofs.WellFormed.{well_formed}
use Rattle.rules.proofs.Line.{state_after, serves, run_from}
use Rattle.rules.proofs.Room as rules
use Rattle.rules.proofs.Grows.{same, stays_above}
use Rattle.rules.proofs.StoppedRun.{task_grows}
use Rattle.rules.proofs.Forgotten.{forget, serve_task_forgets}
use Rattle.state.specs.declared.Limits.{Limits}
use Rattle.state.proofs.Changed.{changed_none}
use Rattle.line.specs.declared.Task as line
use Rattle.line.specs.Line.{queued, line_at}
use Rattle.line.specs.Tasks.{task_of}
use Rattle.line.proofs.Line.{queued_none}
use Rattle.entries.specs.Entries.{drawn_in}
use Rattle.encoder.specs.declared.Counters.{Counters}
use Rattle.encoder.specs.Held.{Reading, task_in, opening_of, state_of, Good}
use Rattle.encoder.specs.Did.{room_of, beyond, is_full}
use Rattle.state.specs.Limits.{limits_of}
use Rattle.encoder.proofs.Frames.{good_kept}
use Rattle.encoder.proofs.Steps.{nothing_kept}
use Rattle.naming.specs.Alike.{AlikeIn, AlikeDid}
use Rattle.naming.proofs.Alike.{in_then, served_alike, beyond_same}
use Rattle.owners.specs.Owners.{serving}
use Rattle.serving.specs.Serving.{served_as}
use Rattle.serving.specs.Line.{from, taken, Point, Serves}
use Rattle.serving.proofs.Served.{served_is}
use Rattle.beginning.proofs.Begin.{only_first}
use Rattle.serving.proofs.Points.{truth_at, step_room}
use Rattle.serving.proofs.Behind.{behind_all, serve_task_behind}
use Rattle.serving.proofs.Alike.{forget_alike, taken_alike, behind_alike, truth_same, line_same}
use Rattle.serving.proofs.Point.{taken_is, serves_one, now_first}

pub good_from : {c : Catalogue} {l : Limits} {head : ℕ} {n : Counters} {st : ℕ → List ℕ} {cl wt : List ℕ} → head < n.tail → Good c l n st cl wt
    → Good c l (from (head + 1) n) st cl wt
unfolding from any
good_from {head = head} {n = n} {st = st} h g =
    let b : head + 1 ≤ n.tail = omega arith in
    good_kept (changed_none [] st) g (search) refl refl refl refl refl g.entries

-- served as the task at the head
pub served_next : {c : Catalogue} {l : Limits} (r : Run) {drawn : ℕ} (head : ℕ) (t : line.Task) {n : Counters} {st : ℕ → List ℕ} {cl wt : List ℕ}
    {n' : Counters} {st' : ℕ → List ℕ} {cl' wt' : List ℕ} → t ≡ task_of (line_at head st)
    → AlikeDid c l (λ v. served_as c r (drawn_in l drawn wt) v t) (from (head + 1) n) st cl wt n' st' cl' wt' → Serves c l r drawn head n st cl wt n' st' cl' wt'
served_next r head t e d = record { did = rw (← e) d }

from_is : (c : Catalogue) (l : Limits) (v : Reading) (head : ℕ) (n : Counters) (st : ℕ → List ℕ) (cl wt : List ℕ)
    → state_of c l v (from (head + 1) n) st cl wt ≡ behind_all (map (task_in c v) (queued (head + 1) n.tail st)) (state_of c l v (taken n) st cl wt)
unfolding state_of opening_of taken from
from_is c l v head n st cl wt = rw (queued_none n.tail st, append-nil (map (task_in c v) (queued (head + 1) n.tail st)))

module _ {c : Catalogue} {l : Limits} {level : ℕ} {s₀ : State} {v : Reading} {head : ℕ} {n : Counters} {st : ℕ → List ℕ} {cl wt : List ℕ}
    (p : Point c l level (run_from level s₀) s₀ v head n st cl wt) (h : head < n.tail) (g : Good c l n st cl wt) where
  abbrev rest : List Task
  rest = map (task_in c v) (queued (head + 1) n.tail st)

  -- the state in which the task at the head has been served
  abbrev served : State
  served = serve_task c (run_from level s₀) (task_in c v (line_at head st)) p.at

  before_alike : AlikeIn c (behind_all rest (forget p.at)) (state_of c l v (from (head + 1) n) st cl wt)
  before_alike = rw (from_is c l v head n st cl wt) (behind_alike rest p.is)

  truth_before : v.truth ≡ decided_true (state_of c l v (from (head + 1) n) st cl wt)
  truth_before = p.truth ∙ (sym (truth_at l p.given p.reached level p.after) ∙ (unfold decided_true in refl ∙ sym (truth_same before_alike)))

  module _ {drawn : ℕ} {n' : Counters} {st' : ℕ → List ℕ} {cl' wt' : List ℕ} (e : drawn ≡ length v.drawn) (f : is_full n ≡ false)
      (k : Serves c l (run_from level s₀) drawn head n st cl wt n' st' cl' wt') where
    entries_now : drawn_in l drawn wt ≡ v.drawn
    entries_now = rw e p.entries

    not_full : is_full (from (head + 1) n) ≡ false
    unfolding from
    not_full = f

    served_behind : AlikeIn c (behind_all rest (forget served)) (k.did.step v (state_of c l v (from (head + 1) n) st cl wt))
    served_behind =
        let run = run_from level s₀ in
        let x = line_at head st in
        let task = task_in c v x in
        let now = state_of c l v (from (head + 1) n) st cl wt in
        let same : served_as c run (drawn_in l drawn wt) v (task_of x) now ≡ forget (serve_task c run task now) =
        unfold serving in
        served_is (well_formed p.given) run v (drawn_in l drawn wt) x now entries_now truth_before (nothing_kept c l v (from (head + 1) n) st cl wt)
        (rules.point_given p.given p.reached run (now_first p h g)).tasks.0 in
        let there : forget (serve_task c run task (behind_all rest (forget p.at))) ≡ behind_all rest (forget served) =
        ap forget (serve_task_behind rest c run task (forget p.at)) ∙ ap (behind_all rest) (sym (serve_task_forgets c run task p.at)) in
        in_then (rw (← there) (forget_alike (served_alike c run task before_alike))) (rw same at (k.did.like not_full v))

    over_here : is_full n' ≡ true → above (limits_of l) (run_once c level s₀) ≡ true
    unfolding beyond room_of from above
    over_here full =
        let run = run_from level s₀ in
        let a = now_first p h g in
        let b : beyond l (room_of l (from (head + 1) n)) (behind_all rest (forget served)) ≡ true =
        sym (beyond_same l (room_of l (from (head + 1) n)) served_behind) ∙ k.did.did.over (good_from h g) not_full full v in
        let room = step_room l p.given p.reached level a in
        let few : length (rest ++ served.opening.line) ≤ 3649 + l.waiting - (head + 1) = omega (arith, length-append rest served.opening.line, room) in
        stays_above (limits_of l) (task_grows p.given p.reached level a same)
        (only_first (above (limits_of l) served) _ _ b (le-ltb (3649 + l.waiting - (head + 1)) (length (rest ++ served.opening.line)) few)
        (le-ltb 64 (length served.opening.several) (rules.point_fits p.given p.reached run (serves a)).several))

    module _ (f' : is_full n' ≡ false) (size' : length (st' 20) ≡ 3649 + l.waiting) where
      state_alike : AlikeIn c (behind_all rest (forget served)) (state_of c l v n' st' cl' wt')
      state_alike = rw (k.did.did.done (good_from h g) not_full f' v) served_behind

      first_is : n'.first ≡ head + 1
      unfolding from
      first_is = k.did.did.first

      line_is : map (task_in c v) (queued (head + 1) n'.tail st') ≡ rest ++ served.opening.line
      unfolding state_of opening_of
      line_is = rw first_is at (line_same state_alike)

      next_here : Point c l level (run_from level s₀) s₀ v (head + 1) n' st' cl' wt'
      next_here =
          record {
            given = p.given;
            reached = p.reached;
            run = refl;
            size = size';
            at = state_after c (run_from level s₀) (task_in c v (line_at head st)) p.at;
            after = rw line_is (serves_one (now_first p h g));
            is = rw (taken_is c l v n' st' cl' wt') (taken_alike state_alike);
            truth = p.truth;
            drawn = p.drawn;
            entries = k.did.did.drawn (length v.drawn) ∙ p.entries;
          }

-- ---- the laws

module _ {c : Catalogue} {l : Limits} {level : ℕ} {r : Run} {s₀ : State} {v : Reading} {head : ℕ} {n : Counters} {st : ℕ → List ℕ} {cl wt : List ℕ}
    (p : Point c l level r s₀ v head n st cl wt) {drawn : ℕ} {n' : Counters} {st' : ℕ → List ℕ} {cl' wt' : List ℕ} (e : drawn ≡ length v.drawn)
    (g : Good c l n st cl wt) (f : is_full n ≡ false) (h : head < n.tail) (k : Serves c l r drawn head n st cl wt n' st' cl' wt') where
  -- a task served leads to the next point
  pub pass_step : is_full n' ≡ false → length (st' 20) ≡ 3649 + l.waiting → Point c l level r s₀ v (head + 1) n' st' cl' wt'
  pass_step f' size' = rw p.run (next_here (rw p.run at p) h g e f (rw p.run at k) f' size')

  -- or the run would end above a limit
  pub pass_over : is_full n' ≡ true → above (limits_of l) (run_once c level s₀) ≡ true
  pass_over f' = over_here (rw p.run at p) h g e f (rw p.run at k) f'
