-- A point of the task line (`Point`): the line taken, the task at its head, its end.
use mathlib.Core.Path.{◌≡◌, refl, sym, ap}
use mathlib.Core.List.{List, [], ◌∷◌, map}
use Prim.Native.Nat.{ℕ, ◌+◌, ◌<◌, ◌≤◌}
use native.Mathlib.Numerals.{add-one}
use lib.ListN.{length}
use Rattle.rules.specs.Catalogue.{Catalogue}
use Rattle.rules.specs.Opening.{Task}
use Rattle.rules.specs.State.{State, Run}
use Rattle.rules.specs.Run.{line_taken, run_once}
use Rattle.rules.proofs.Reached.{Given, Reached}
use Rattle.rules.proofs.WellFormed.{well_formed}
use Rattle.rules.proofs.Line.{line_after, state_after, After, serves, done, after_served, first_line, first_state, run_from, run_end}
use Rattle.rules.proofs.Ends.{run_to_end}
use Rattle.rules.proofs.Room as rules
use Rattle.state.specs.declared.Limits.{Limits}
use Rattle.line.specs.Line.{queued, line_at}
use Rattle.line.specs.Tasks.{task_of}
use Rattle.line.proofs.Line.{queued_none, queued_first}
use Rattle.entries.specs.Entries.{drawn_in}
use Rattle.encoder.specs.declared.Counters.{Counters}
use Rattle.encoder.specs.Held.{Reading, task_in, opening_of, state_of, Good}
use Rattle.state.specs.Limits.{limits_of}
use Rattle.serving.specs.Serving.{TaskGiven}
use Rattle.serving.specs.Line.{from, taken, Point}
use Rattle.serving.proofs.Served.{number_given}

-- ---- the line taken

-- nothing is taken where nothing is left
pub taken_none : (n : Counters) → n.first ≡ n.tail → taken n ≡ n
unfolding taken from
taken_none n e = ap (λ x. from x n) (sym e)

pub taken_is : (c : Catalogue) (l : Limits) (v : Reading) (n : Counters) (st : ℕ → List ℕ) (cl wt : List ℕ)
    → state_of c l v (taken n) st cl wt ≡ line_taken (state_of c l v n st cl wt)
unfolding state_of opening_of taken from
taken_is c l v n st cl wt = rw (queued_none n.tail st)

-- ---- the task at the head

pub serves_one : {c : Catalogue} {r : Run} {ts₀ : List Task} {s₀ : State} {k : ℕ} {t : Task} {ts : List Task} {u : State} → After c r ts₀ s₀ k (t ∷ ts) u
    → After c r ts₀ s₀ (k + 1) (line_after c r t ts u) (state_after c r t u)
serves_one {k = k} a = rw (add-one k) (serves a)

module _ {c : Catalogue} {l : Limits} {level : ℕ} {s₀ : State} {v : Reading} {head : ℕ} {n : Counters} {st : ℕ → List ℕ} {cl wt : List ℕ}
    (p : Point c l level (run_from level s₀) s₀ v head n st cl wt) (h : head < n.tail) (g : Good c l n st cl wt) where
  room_in : n.tail ≤ length (st 20)
  room_in = rw p.size g.state.room

  -- it and the rest
  pub now_first : After c (run_from level s₀) (first_line c s₀) (first_state c s₀) head (task_in c v (line_at head st) ∷ map (task_in c v) (queued (head + 1) n.tail st)) p.at
  now_first = rw (queued_first head n.tail (line_at head st) st h room_in refl) at p.after

  given_here : (drawn : ℕ) → drawn ≡ length v.drawn → TaskGiven c (drawn_in l drawn wt) (task_of (line_at head st))
  given_here drawn e =
      rw (e, p.entries) (number_given (well_formed p.given) v (line_at head st) (rules.point_given p.given p.reached (run_from level s₀) now_first).tasks.0)

served_out : (l : Limits) {c : Catalogue} {s₀ : State} → Given c → Reached (limits_of l) c s₀ → {level : ℕ} {r : Run} → r ≡ run_from level s₀
    → {k : ℕ} {u : State} → After c r (first_line c s₀) (first_state c s₀) k [] u → run_once c level s₀ ≡ run_end c r u
served_out l {c = c} {s₀ = s₀} g reached {level} e a = rw e (run_to_end g reached level (after_served c (run_from level s₀) (rw e at a) done))

-- ---- the laws

module _ {c : Catalogue} {l : Limits} {level : ℕ} {r : Run} {s₀ : State} {v : Reading} {head : ℕ} {n : Counters} {st : ℕ → List ℕ} {cl wt : List ℕ}
    (p : Point c l level r s₀ v head n st cl wt) where
  -- the number at the line's head names something given
  pub point_given : {drawn : ℕ} → drawn ≡ length v.drawn → Good c l n st cl wt → head < n.tail → TaskGiven c (drawn_in l drawn wt) (task_of (line_at head st))
  point_given {drawn} e g h = given_here (rw p.run at p) h g drawn e

  -- at the line's end only the run's end is left
  pub point_end : head ≡ n.tail → run_once c level s₀ ≡ run_end c r p.at
  point_end h =
      let none : map (task_in c v) (queued head n.tail st) ≡ [] = rw (h, queued_none n.tail st) in
      served_out l p.given p.reached p.run (rw none at p.after)
