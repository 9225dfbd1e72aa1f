-- The books of the task line (MEANING.md, E4), as a record: what stands in the opening's lists came from a task, every task was called for,
-- and every task served has had its effect. Kept by every step: proofs/Booked.antt.
use mathlib.Core.Path.{◌≡◌}
use mathlib.Core.Bool.{true, false}
use mathlib.Core.List.{List, []}
use Prim.Native.Nat.{ℕ}
use Rattle.rules.specs.Catalogue.{Owner, Catalogue, constraint_at, several_allowed, owner_at, unknown_owner}
use Rattle.rules.specs.Candidates.{requirements_of, constraints_of}
use Rattle.rules.specs.Conditions.{indices, unconditional}
use Rattle.rules.specs.Opening.{Task, owner, name, condition, requirement, constraint, Opening, tasks_of}
use Rattle.rules.specs.Called.{◌∈◌}
use Rattle.rules.proofs.Membership.{◌⊆◌}

-- where a disjunct of a served condition is: it waits, is drawn, or stands in a requirement's task
pub data Placed (all : List Task) (waiting drawn : List (ℕ × ℕ)) (q i : ℕ) : Type 0 where
  waits : (q, i) ∈ waiting → Placed all waiting drawn q i
  is_drawn_law : (q, i) ∈ drawn → Placed all waiting drawn q i
  fires : {is : List ℕ} → requirement q is ∈ all → i ∈ is → Placed all waiting drawn q i

module _ (c : Catalogue) where
  -- requirement record q is of an owner whose task was served
  pub record OfServed (log : List Task) (q : ℕ) : Type 0 where
    pub owner_served : owner (owner_at c q) ∈ log
    pub of_owner : q ∈ requirements_of c (owner_at c q)

  pub record RequirementFrom (log : List Task) (q : ℕ) (is : List ℕ) : Type 0 where
    pub of_served : OfServed log q
    pub indexed : is ⊆ indices c q
    pub none_fired : unconditional c q ≡ true → is ≡ []

  pub record ConditionFrom (log : List Task) (q : ℕ) : Type 0 where
    pub of_served : OfServed log q
    pub has_condition : unconditional c q ≡ false

  pub record ConstraintFrom (log : List Task) (k : ℕ) : Type 0 where
    pub owner_served : owner (constraint_at c k).owner ∈ log
    pub of_owner : k ∈ constraints_of c (constraint_at c k).owner

  -- a disjunct that waits, or is drawn, by its requirement and index
  pub record EntryFrom (log : List Task) (q i : ℕ) : Type 0 where
    pub condition_served_law : condition q ∈ log
    pub indexed : i ∈ indices c q

  -- why a task is in the line, or was
  abbrev pub CalledFor : List Task → Opening → Task → Type 0
  CalledFor log o (owner w) = w ∈ o.owners
  CalledFor log o (name n) = n ∈ o.names
  CalledFor log o (condition q) = ConditionFrom log q
  CalledFor log o (requirement q is) = RequirementFrom log q is
  CalledFor log o (constraint k) = ConstraintFrom log k

  -- what a task's service leaves behind
  abbrev pub Done : List Task → List (ℕ × ℕ) → Opening → Task → Type 0
  Done all drawn o (owner w) = unknown_owner c w ≡ false → tasks_of c w ⊆ all
  Done all drawn o (name n) = several_allowed c n ≡ true → n ∈ o.several
  Done all drawn o (condition q) = (i : ℕ) → i ∈ indices c q → Placed all o.waiting drawn q i
  Done all drawn o (requirement q is) = (q ∈ o.handled) × ((i : ℕ) → i ∈ is → (q, i) ∈ o.fired)
  Done all drawn o (constraint k) = Unit {0}

  -- Between two services `done` and `log` are the same, the tasks served so far, `all` has the line behind them, and `drawn` is the
  -- opening's. While a task is served it is in `log` and not yet in `done`, and `drawn` has the disjuncts that fire and are not yet queued.
  pub record Books (done log all : List Task) (drawn : List (ℕ × ℕ)) (o : Opening) : Type 0 where
    pub owner_queued : (w : Owner) → w ∈ o.owners → owner w ∈ all
    pub name_queued : (n : ℕ) → n ∈ o.names → name n ∈ all
    pub several_from : (n : ℕ) → n ∈ o.several → (name n ∈ log) × (several_allowed c n ≡ true)
    pub handled_from : (q : ℕ) → q ∈ o.handled → (is : List ℕ) × (requirement q is ∈ log)
    pub fired_from : (q i : ℕ) → (q, i) ∈ o.fired → (is : List ℕ) × (requirement q is ∈ log) × (i ∈ is)
    pub waiting_from : (q i : ℕ) → (q, i) ∈ o.waiting → EntryFrom log q i
    pub drawn_from : (q i : ℕ) → (q, i) ∈ drawn → EntryFrom log q i
    pub called_for : (t : Task) → t ∈ all → CalledFor log o t
    pub completed : (t : Task) → t ∈ done → Done all drawn o t

  -- ---- what they say of each task

  module _ {done log all : List Task} {drawn : List (ℕ × ℕ)} {o : Opening} (b : Books done log all drawn o) where
    pub owner_opened : (w : Owner) → owner w ∈ all → w ∈ o.owners
    owner_opened w m = b.called_for (owner w) m

    pub name_opened_law : (n : ℕ) → name n ∈ all → n ∈ o.names
    name_opened_law n m = b.called_for (name n) m

    pub requirement_from_law : (q : ℕ) (is : List ℕ) → requirement q is ∈ all → RequirementFrom log q is
    requirement_from_law q is m = b.called_for (requirement q is) m

    pub condition_from_law : (q : ℕ) → condition q ∈ all → ConditionFrom log q
    condition_from_law q m = b.called_for (condition q) m

    pub constraint_from_law : (k : ℕ) → constraint k ∈ all → ConstraintFrom log k
    constraint_from_law k m = b.called_for (constraint k) m

    pub rules_queued : (w : Owner) → owner w ∈ done → unknown_owner c w ≡ false → tasks_of c w ⊆ all
    rules_queued w m = b.completed (owner w) m

    pub several_of : (n : ℕ) → name n ∈ done → several_allowed c n ≡ true → n ∈ o.several
    several_of n m = b.completed (name n) m

    pub handled_of : (q : ℕ) (is : List ℕ) → requirement q is ∈ done → q ∈ o.handled
    handled_of q is m = (b.completed (requirement q is) m).0

    pub fired_of_law : (q : ℕ) (is : List ℕ) → requirement q is ∈ done → (i : ℕ) → i ∈ is → (q, i) ∈ o.fired
    fired_of_law q is m = (b.completed (requirement q is) m).1

    pub split : (q : ℕ) → condition q ∈ done → (i : ℕ) → i ∈ indices c q → Placed all o.waiting drawn q i
    split q m = b.completed (condition q) m
