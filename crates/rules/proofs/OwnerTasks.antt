-- An owner's records are its own, its tasks are its records, and the ranges whose names it opens first are those of its records.
use mathlib.Core.Path.{◌≡◌, refl, sym, ap}
use mathlib.Core.Logic.{⊎_elim}
use mathlib.Core.Bool.{Bool, true, false, false≢true}
use mathlib.Core.List.{[], map}
use Prim.Native.Nat.{ℕ}
use borrow.Author.Tests.{eqb-true}
use Rattle.rules.specs.Lists.{concat_map}
use Rattle.rules.specs.Catalogue.{Owner, root, part, Catalogue, constraint_at, owner_at, same_owner}
use Rattle.rules.specs.Candidates.{requirements_of, constraints_of}
use Rattle.rules.specs.Conditions.{unconditional}
use Rattle.rules.specs.Opening.{Task, condition, requirement, constraint, ranges_of, ranges_first, task_by, tasks_of}
use Rattle.rules.specs.Called.{◌∈◌, constraint_range}
use Rattle.rules.proofs.Membership.{in_left, in_right, in_either, filter_in, filter_out, map_in, map_out, concat_map_in}

pub same_owner_law : (v w : Owner) → same_owner v w ≡ true → w ≡ v
same_owner_law root root e = refl
same_owner_law root (part q) e = absurd (false≢true e)
same_owner_law (part p) root e = absurd (false≢true e)
same_owner_law (part p) (part q) e = ap part (sym (eqb-true p q e))

module _ (c : Catalogue) where
  pub requirement_owner : (w : Owner) {q : ℕ} → q ∈ requirements_of c w → owner_at c q ≡ w
  unfolding requirements_of
  requirement_owner w m = same_owner_law w _ (filter_out _ _ m).1

  pub constraint_owner : (w : Owner) {k : ℕ} → k ∈ constraints_of c w → (constraint_at c k).owner ≡ w
  unfolding constraints_of
  constraint_owner w m = same_owner_law w _ (filter_out _ _ m).1

  -- an owner's tasks are its rules

  abbrev pub requirement_task : ℕ → Task
  requirement_task q = task_by c (unconditional c q) q

  requirement_task_law : (w : Owner) {q : ℕ} → q ∈ requirements_of c w → (b : Bool) → unconditional c q ≡ b → task_by c b q ∈ tasks_of c w
  unfolding tasks_of
  requirement_task_law w m b e = in_left _ (rw e at (map_in requirement_task m))

  pub unconditional_task : (w : Owner) {q : ℕ} → q ∈ requirements_of c w → unconditional c q ≡ true → requirement q [] ∈ tasks_of c w
  unconditional_task w m e = unfold task_by in requirement_task_law w m true e

  pub condition_task : (w : Owner) {q : ℕ} → q ∈ requirements_of c w → unconditional c q ≡ false → condition q ∈ tasks_of c w
  condition_task w m e = unfold task_by in requirement_task_law w m false e

  pub constraint_task : (w : Owner) {k : ℕ} → k ∈ constraints_of c w → constraint k ∈ tasks_of c w
  unfolding tasks_of
  constraint_task w m = in_right (map requirement_task (requirements_of c w)) (map_in constraint m)

  pub task_rule : (w : Owner) (P : Task → Type 0)
      → ((q : ℕ) → q ∈ requirements_of c w → P (requirement_task q)) → ((k : ℕ) → k ∈ constraints_of c w → P (constraint k))
      → (t : Task) → t ∈ tasks_of c w → P t
  unfolding tasks_of
  task_rule w P f g t m =
      ⊎_elim
      (λ k. let x = map_out requirement_task (requirements_of c w) k in rw x.2 (f x.0 x.1))
      (λ k. let x = map_out constraint (constraints_of c w) k in rw x.2 (g x.0 x.1))
      (in_either (map requirement_task (requirements_of c w)) m)

  -- the ranges of its unconditional requirements and of its constraints

  pub requirement_first : (w : Owner) {q r : ℕ} → q ∈ requirements_of c w → unconditional c q ≡ true → r ∈ ranges_of c q → r ∈ ranges_first c w
  unfolding ranges_first
  requirement_first w m e k = in_left _ (concat_map_in (ranges_of c) _ (filter_in _ _ m e) k)

  pub constraint_first : (w : Owner) {k : ℕ} → k ∈ constraints_of c w → constraint_range c k ∈ ranges_first c w
  unfolding ranges_first
  constraint_first w m = in_right (concat_map (ranges_of c) _) (map_in (constraint_range c) m)
