-- A task by its number: what the code does with it (`served_as`) is what the run does with the task behind the number, but for what is forgotten.
use mathlib.Core.Path.{◌≡◌, refl, sym, ◌∙◌, ap}
use mathlib.Core.Bool.{Bool, true, false}
use mathlib.Core.List.{List, [], ◌∷◌, append-nil}
use Prim.Native.Nat.{ℕ, zero, suc, ◌<◌, ◌≤◌}
use native.Mathlib.Decide.{dec_lt}
use native.Mathlib.Omega.{arith}
use lib.Dec.{eqb}
use lib.ListN.{length, get_or, get_or-eq_default}
use borrow.Author.Tests.{eqb-true}
use Rattle.rules.specs.Lists.{fold}
use Rattle.rules.specs.Catalogue.{Catalogue, range_name}
use Rattle.rules.specs.Items.{ceiling}
use Rattle.rules.specs.Variables.{with_variables}
use Rattle.rules.specs.Opening as opening
use Rattle.rules.specs.Opening.{Opening, queue, open_name, open_names, ranges_of, fire, serve_condition, serve}
use Rattle.rules.specs.Encoding.{origins, task_origins, clauses, task_clauses}
use Rattle.rules.specs.State.{State, set_opening, decided_true, Run, effects, emit}
use Rattle.rules.specs.Run.{serve_task}
use Rattle.rules.proofs.WellFormed.{OwnerGiven, WellFormed}
use Rattle.rules.proofs.Valid as rules
use Rattle.rules.proofs.Forgotten.{fold_commutes, unless_commutes, erased, forget}
use Rattle.marked.specs.Marked.{owner_by, owner_of}
use Rattle.line.specs.declared.Task.{Task}
use Rattle.line.specs.declared.Task.TheVariants.{Owner, Name, Condition, Requirement, Constraint, Drawn}
use Rattle.line.specs.Tasks.{task_of}
use Rattle.entries.specs.Entries.{no_entry}
use Rattle.encoder.specs.Held.{Reading, fired_now, drawn_task, no_such, task_from, task_in}
use Rattle.owners.specs.Owners.{serving}
use Rattle.firing.specs.Firing.{condition_served}
use Rattle.firing.proofs.Callers.{served_condition}
use Rattle.serving.specs.Serving.{served_fired, served_drawn, served_as, Given, TaskGiven}

-- ---- what was handled and fired, if nothing, stays nothing where a condition is served

open_name_erased : (n : ℕ) (o : Opening) → open_name n (erased o) ≡ erased (open_name n o)
unfolding open_name queue
open_name_erased n o = unless_commutes erased _ _ (λ u. refl) o

open_names_erased : (c : Catalogue) (rs : List ℕ) (o : Opening) → open_names c rs (erased o) ≡ erased (open_names c rs o)
unfolding open_names
open_names_erased c rs o = fold_commutes erased _ (λ r. open_name_erased (range_name c r)) rs o

fire_erased : (c : Catalogue) (q : ℕ) (is : List ℕ) (o : Opening) → fire c q is (erased o) ≡ erased (fire c q is o)
unfolding fire queue
fire_erased c q [] o = refl
fire_erased c q (i ∷ is) o = rw (open_names_erased c (ranges_of c q) o)

condition_erased : (c : Catalogue) (f : ℕ → Bool) (q : ℕ) (o : Opening) → serve_condition c f q (erased o) ≡ erased (serve_condition c f q o)
unfolding serve_condition
condition_erased c f q o = fire_erased c q _ _

-- ---- a condition: its event makes no variable and no clause

condition_alone : (c : Catalogue) (r : Run) (q : ℕ) (s : State)
    → serve_task c r (opening.condition q) s ≡ set_opening (serve_condition c (decided_true s) q s.opening) s
unfolding serve_task emit origins task_origins with_variables clauses task_clauses effects serve fold
condition_alone c r q s = rw (append-nil s.clauses)

module _ (c : Catalogue) (r : Run) (v : Reading) (s : State) (t : v.truth ≡ decided_true s) where
  condition_is_law : (q : ℕ) → q < 1024 → forget s ≡ s → condition_served c v q s ≡ serving c r (opening.condition q) s
  condition_is_law q h z = served_condition c q v s h (ap (λ f. fired_now c f q) t) ∙ kept
    where
      kept : set_opening (serve_condition c (decided_true s) q s.opening) s ≡ serving c r (opening.condition q) s
      kept =
          unfold serving in
          rw (condition_alone c r q s)
          (ap (λ o. set_opening o s) (ap (serve_condition c (decided_true s) q) (ap (λ (u : State). u.opening) (sym z)) ∙ condition_erased c (decided_true s) q s.opening))

-- ---- a drawn entry: what is given is not past the drawn ones

same_entry : {A : Type 0} (ds : List A) (i : ℕ) (a b : A) → i < length ds → get_or ds i a ≡ get_or ds i b
same_entry [] i a b h = let none : ⊥ = omega arith in absurd none
same_entry (d ∷ ds) zero a b h = refl
same_entry (d ∷ ds) (suc i) a b h = same_entry ds i a b (omega arith)

module _ {c : Catalogue} (w : WellFormed c) where
  few_requirements : length c.requirements ≤ 1024
  unfolding ceiling
  few_requirements = w.ceilings.requirements

  few_parts : length c.parts ≤ 1024
  unfolding ceiling
  few_parts = w.ceilings.parts

  drawn_below : (ds : List (ℕ × ℕ)) (e : ℕ) → (get_or ds e no_such).0 < length c.requirements → e < length ds
  drawn_below ds e h = elim (dec_lt e (length ds)) [
    | yes b ↦ b
    | no b ↦
        let past : (get_or ds e no_such).0 ≡ 65535 = ap (λ (x : ℕ × ℕ). x.0) (get_or-eq_default ds no_such (omega arith)) in
        let none : ⊥ = omega (arith, few_requirements) in
        absurd none
  ]

  -- ---- the number of a given task names something given

  owner_low : (o : ℕ) → OwnerGiven c (owner_of o) → o < 1025
  unfolding owner_of owner_by
  owner_low o h = go (eqb o 1024) refl h
    where
      go : (b : Bool) → eqb o 1024 ≡ b → OwnerGiven c (owner_by b o) → o < 1025
      go true e h = omega (arith, eqb-true o 1024 e)
      go false e h = unfold owner_by in omega (arith, few_parts)

  given_by : (v : Reading) (t : Task) → rules.TaskGiven c (task_from c v t) → Given c v.drawn t
  unfolding task_from drawn_task
  given_by v (Owner o) h = (owner_low o h, h)
  given_by v (Name n) h = h
  given_by v (Condition q) h = h
  given_by v (Requirement q) h = h.0
  given_by v (Constraint k) h = h
  given_by v (Drawn e) h =
      let b = drawn_below v.drawn e h.0 in
      (b, rw (same_entry v.drawn e no_entry no_such b) h.1.0)

  pub number_given : (v : Reading) (x : ℕ) → rules.TaskGiven c (task_in c v x) → TaskGiven c v.drawn (task_of x)
  unfolding task_in
  number_given v x h = record { given = given_by v (task_of x) h }

  -- ---- the code serves the task behind the number

  served_by : (r : Run) (v : Reading) (s : State) → v.truth ≡ decided_true s → forget s ≡ s → (t : Task) → rules.TaskGiven c (task_from c v t)
      → served_as c r v.drawn v t s ≡ serving c r (task_from c v t) s
  unfolding served_as served_fired served_drawn task_from
  served_by r v s t z (Owner o) h = refl
  served_by r v s t z (Name n) h = refl
  served_by r v s t z (Condition q) h = condition_is_law c r v s t q (omega (arith, few_requirements, h.0)) z
  served_by r v s t z (Requirement q) h = rw t
  served_by r v s t z (Constraint k) h = refl
  served_by r v s t z (Drawn e) h =
      let b = drawn_below v.drawn e (unfold drawn_task in h.0) in
      rw (same_entry v.drawn e no_entry no_such b)

  -- `s` has nothing handled and nothing fired, and the run's tasks are read by what is decided in it
  pub served_is : (r : Run) (v : Reading) (ds : List (ℕ × ℕ)) (x : ℕ) (s : State) → ds ≡ v.drawn → v.truth ≡ decided_true s → forget s ≡ s
      → rules.TaskGiven c (task_in c v x) → served_as c r ds v (task_of x) s ≡ serving c r (task_in c v x) s
  unfolding task_in
  served_is r v ds x s d t z h = rw d (served_by r v s t z (task_of x) h)
