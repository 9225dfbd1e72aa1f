-- A task by its kind: what its number names, and that it is served as its kind is.
use mathlib.Core.Path.{◌≡◌}
use mathlib.Core.List.{List}
use Prim.Native.Nat.{ℕ, ◌<◌}
use native.Mathlib.Omega.{arith}
use Rattle.rules.specs.Catalogue.{Catalogue}
use Rattle.rules.specs.State.{Run}
use Rattle.tables.specs.declared.Counts.{Counts}
use Rattle.cache.specs.Areas.{catalogue}
use Rattle.cache.proofs.Laws.{requirements_held, constraints_held}
use Rattle.state.specs.declared.Limits.{Limits}
use Rattle.line.specs.declared.Task.{Task}
use Rattle.line.specs.declared.Task.TheVariants.{Condition, Requirement, Constraint, Drawn}
use Rattle.entries.specs.Entries.{drawn_in, Long}
use Rattle.entries.proofs.Drain.{length_drawn}
use Rattle.encoder.specs.declared.State.{State}
use Rattle.encoder.specs.Held.{LongEnough}
use Rattle.naming.specs.Alike.{AlikeDoes}
use Rattle.serving.specs.Serving.{served_as, TaskGiven}

-- the waiting area is long enough
pub long_entries : {l : Limits} {cl wt : ℕ} → LongEnough l cl wt → Long l wt
long_entries h = record { waiting = h.waiting; long = h.entries }

-- ---- the number names something given

pub given_as : {c : Catalogue} {ds : List (ℕ × ℕ)} {t k : Task} → TaskGiven c ds t → t ≡ k → TaskGiven c ds k
given_as g e = rw (← e) g

module _ (k : Counts) (m us t : List ℕ) {ds : List (ℕ × ℕ)} {i : ℕ} where
  pub condition_below : TaskGiven (catalogue k m us t) ds (Condition i) → i < k.requirements
  condition_below g = rw requirements_held at g.given.0

  pub requirement_below : TaskGiven (catalogue k m us t) ds (Requirement i) → i < k.requirements
  requirement_below g = rw requirements_held at g.given

  pub constraint_below : TaskGiven (catalogue k m us t) ds (Constraint i) → i < k.constraints
  constraint_below g = rw constraints_held at g.given

pub drawn_first : {c : Catalogue} (l : Limits) (wt : List ℕ) {drawn e : ℕ} → TaskGiven c (drawn_in l drawn wt) (Drawn e) → e < drawn
drawn_first l wt {drawn} g = omega (arith, g.given.0, length_drawn l drawn wt)

-- ---- served as its kind is

pub as_kind : {c : Catalogue} (r : Run) (ds : List (ℕ × ℕ)) {x x' : State} {cl cl' wt wt' : List ℕ} {t k : Task}
    → t ≡ k → AlikeDoes c (λ v. served_as c r ds v k) x cl wt x' cl' wt' → AlikeDoes c (λ v. served_as c r ds v t) x cl wt x' cl' wt'
as_kind r ds e d = rw e d
