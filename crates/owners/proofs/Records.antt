-- An owner's records: what the tables have of a requirement or a constraint, and the rules that are for one.
use mathlib.Core.Path.{◌≡◌, refl, sym, ◌∙◌, ap, subst}
use mathlib.Core.Bool.{Bool, true, false, not, false≢true}
use mathlib.Core.List.{List, []}
use mathlib.Core.Option.{Option, none, some}
use Prim.Native.Nat.{ℕ, ◌+◌, ◌-◌, ◌<◌, ◌≤◌}
use native.Mathlib.Omega.{arith}
use lib.Dec.{eqb}
use lib.ListN.{length, get_or}
use borrow.Author.Tests.{eqb-true, eqb-false, eq-eqb, ne_eqb}
use Rattle.rules.specs.Lists.{filter, up_to, when}
use Rattle.rules.specs.Catalogue as rules
use Rattle.std.specs.Prelude as code
use Rattle.std.specs.Prelude.{Some, None, is_some}
use Rattle.rules.specs.Catalogue.{Owner, root, part, Goal, Catalogue, no_requirement, requirement_at, no_constraint, constraint_at, owner_at, goal_at, condition_at, range_name, same_owner}
use Rattle.rules.specs.Candidates.{goal_ranges}
use Rattle.rules.specs.Conditions.{disjuncts_if, disjuncts_of, indices, is_none, unconditional}
use Rattle.rules.specs.Opening.{constraint, queue, open_name, open_names, entry_holds, task_by}
use Rattle.rules.specs.State.{State}
use Rattle.rules.proofs.WellFormed.{OwnerGiven, GoalGiven, WellFormed}
use Rattle.rules.proofs.Bools.{by_cases, and_false}
use Rattle.requirement.specs.declared.ConditionalRequirement.{ConditionalRequirement}
use Rattle.requirement.specs.declared.Owner as owner
use Rattle.requirement.specs.declared.Owner.TheVariants.{Root, Part}
use Rattle.requirement.specs.contracts.OwnerPartialEq.TheImpl.{eq-value}
use Rattle.requirement.specs.Requirements.{goal_of, owner_is, condition_is, requirement_is}
use Rattle.tables.specs.declared.Counts.{Counts}
use Rattle.tables.specs.declared.Constraint.{Constraint}
use Rattle.tables.specs.Tables.{tables, constraint_from, constraint_is}
use Rattle.cache.specs.Areas.{catalogue}
use Rattle.cache.proofs.Laws.{parts_held, ranges_held, requirements_held, constraints_held, requirement_held, constraint_held}
use Rattle.index.specs.Indexed.{Indexed}
use Rattle.marked.specs.Marked.{owner_by, owner_of}
use Rattle.marked.proofs.Owners.{root_is, part_is}
use Rattle.line.proofs.Tasks.{task_condition, task_requirement, task_constraint}
use Rattle.encoder.specs.declared.State as encoder
use Rattle.encoder.specs.Held.{Reading, fired_now, task_from, task_in}
use Rattle.encoder.specs.Did.{on_opening}
use Rattle.encoder.specs.Does.{StateDoes, PlainDoes}
use Rattle.encoder.proofs.Does.{does_same, does_none, at_catalogue}
use Rattle.owners.specs.declared.Rule.TheVariants.{OpenRequirement, OpenConstraint, QueueRequirement, QueueConstraint}
use Rattle.owners.specs.Owners.{OwnerNumber, rule_of}

-- ---- owners by number

module _ {o : ℕ} where
  pub number_root : o ≡ 1024 → root ≡ owner_of o
  unfolding owner_of owner_by
  number_root e = rw e

  pub number_part : (o ≡ 1024 → ⊥) → part o ≡ owner_of o
  unfolding owner_of owner_by
  number_part ne = rw (ne_eqb o 1024 ne)

pub root_number : {o : owner.Owner} → o ≡ Root → owner_of 1024 ≡ owner_is o
root_number e = rw (e, root_is)

pub part_number : {o : owner.Owner} {p : ℕ} → OwnerNumber o → o ≡ Part p → owner_of p ≡ owner_is o
part_number {o} {p} h e = rw (e, part_is p (h.low p e))

-- for callers: an owner of the tables that is given
pub owner_number_law : (c : Catalogue) (o : owner.Owner) → OwnerGiven c (owner_is o) → length c.parts ≤ 1024 → OwnerNumber o
owner_number_law c o g h = record { low = λ p e. let low : p < length c.parts = rw e at g in omega arith }

-- ---- owners compared

symmetric : (p q : ℕ) → eqb p q ≡ eqb q p
symmetric p q = by_cases (eqb p q) (λ h. rw h (sym (eq-eqb q p (sym (eqb-true p q h))))) (λ h. rw h (sym (ne_eqb q p (λ e. eqb-false p q h (sym e)))))

-- what a comparison answers
abbrev pub equal : owner.Owner → owner.Owner → Bool
equal = eq-value.it

same_code : (x o : owner.Owner) → equal x o ≡ same_owner (owner_is o) (owner_is x)
same_code Root Root = refl
same_code Root (Part q) = refl
same_code (Part p) Root = refl
same_code (Part p) (Part q) = symmetric p q

module _ (x o : owner.Owner) {r : Bool} (e : r ≡ equal x o) where
  owners_same : r ≡ true → same_owner (owner_is o) (owner_is x) ≡ true
  owners_same h = sym (same_code x o) ∙ (sym e ∙ h)

  owners_apart : r ≡ false → same_owner (owner_is o) (owner_is x) ≡ false
  owners_apart h = sym (same_code x o) ∙ (sym e ∙ h)

-- for callers: its number here
pub owner_below : (c : Catalogue) (o : ℕ) → OwnerGiven c (owner_of o) → length c.parts ≤ 1024 → o < 1025
unfolding owner_of
owner_below c o g h = go (eqb o 1024) refl g
  where
    go : (b : Bool) → eqb o 1024 ≡ b → OwnerGiven c (owner_by b o) → o < 1025
    go true e g = let is = eqb-true o 1024 e in omega arith
    go false e g = let low : o < length c.parts = unfold owner_by in g in omega arith

-- ---- tasks by number

pub none_fired : (c : Catalogue) (f : ℕ → Bool) (q : ℕ) → unconditional c q ≡ true → fired_now c f q ≡ []
unfolding fired_now indices disjuncts_of unconditional
none_fired c f q e = go (condition_at c q) e
  where
    go : (k : Option ℕ) → is_none k ≡ true → filter (entry_holds c f q) (up_to 0 (length (disjuncts_if c.conditions k))) ≡ []
    go none e = unfold disjuncts_if up_to filter in refl
    go (some k) e = absurd (false≢true e)

module _ (c : Catalogue) (v : Reading) (i : ℕ) where
  requirement_task_law : i < 1024 → unconditional c i ≡ true → task_in c v (2113 + i) ≡ task_by c true i
  unfolding task_in task_from task_by
  requirement_task_law h u =
      let e : 2113 + i - 2113 ≡ i = omega arith in
      rw (← task_requirement (2113 + i) (omega arith) (omega arith), e, none_fired c v.truth i u)

  condition_task : i < 1024 → task_in c v (1089 + i) ≡ task_by c false i
  unfolding task_in task_from task_by
  condition_task h =
      let e : 1089 + i - 1089 ≡ i = omega arith in
      rw (← task_condition (1089 + i) (omega arith) (omega arith), e)

  constraint_task : i < 512 → task_in c v (3137 + i) ≡ constraint i
  unfolding task_in task_from
  constraint_task h =
      let e : 3137 + i - 3137 ≡ i = omega arith in
      rw (← task_constraint (3137 + i) (omega arith) (omega arith), e)

-- ---- a requirement

module _ (k : Counts) (m us t : List ℕ) (q : ℕ) (it : ConditionalRequirement) (e : requirement_is it ≡ get_or (tables k t).requirements q no_requirement) where
  requirement_is_law : requirement_at (catalogue k m us t) q ≡ requirement_is it
  requirement_is_law = requirement_held k m us t q ∙ sym e

  owner_at_law : owner_at (catalogue k m us t) q ≡ owner_is it.owner
  unfolding requirement_is
  owner_at_law = ap (λ (x : rules.Requirement). x.owner) requirement_is_law

  goal_at_law : goal_at (catalogue k m us t) q ≡ goal_of it.requirement
  unfolding requirement_is
  goal_at_law = ap (λ (x : rules.Requirement). x.goal) requirement_is_law

  unconditional_is : unconditional (catalogue k m us t) q ≡ is_none (condition_is it.condition)
  unfolding unconditional requirement_is
  unconditional_is = ap (λ (x : rules.Requirement). is_none x.condition) requirement_is_law

  conditional_is : {x : ℕ} → it.condition ≡ Some x → unconditional (catalogue k m us t) q ≡ false
  conditional_is u = unconditional_is ∙ rw u

  direct_is : it.condition ≡ None → unconditional (catalogue k m us t) q ≡ true
  direct_is u = unconditional_is ∙ rw u

  tested : (x : code.Option ℕ) → is_none (condition_is x) ≡ not (is_some x)
  tested None = refl
  tested (Some x) = refl

  module _ {b : Bool} (f : is_some it.condition ≡ not b) where
    conditional_by : b ≡ false → unconditional (catalogue k m us t) q ≡ false
    conditional_by h = unconditional_is ∙ (tested it.condition ∙ ap not (f ∙ ap not h))

    direct_by : b ≡ true → unconditional (catalogue k m us t) q ≡ true
    direct_by h = unconditional_is ∙ (tested it.condition ∙ ap not (f ∙ ap not h))

  pub required_owner : WellFormed (catalogue k m us t) → Indexed k m us t → q < k.requirements → OwnerNumber it.owner
  required_owner w h b =
      let given : q < length (catalogue k m us t).requirements = rw requirements_held b in
      let o = subst (λ (x : Owner). OwnerGiven (catalogue k m us t) x) owner_at_law (w.requirements q given).owner in
      owner_number_law (catalogue k m us t) it.owner o (omega (arith, parts_held k m us t, h.held.laid.parts))

  pub required_goal : WellFormed (catalogue k m us t) → q < k.requirements → GoalGiven (catalogue k m us t) (goal_of it.requirement)
  required_goal w b =
      let given : q < length (catalogue k m us t).requirements = rw requirements_held b in
      subst (λ (x : Goal). GoalGiven (catalogue k m us t) x) goal_at_law (w.requirements q given).goal

  module _ (o : owner.Owner) (r : Bool) (f : r ≡ equal it.owner o) where
    same_owner_law : same_owner (owner_is o) (owner_at (catalogue k m us t) q) ≡ same_owner (owner_is o) (owner_is it.owner)
    same_owner_law = ap (same_owner (owner_is o)) owner_at_law

    module _ {z : encoder.State} where
      pub open_other : r ≡ false → StateDoes (catalogue k m us t) (λ v. on_opening (rule_of (catalogue k m us t) v OpenRequirement (owner_is o) q)) z z
      open_other ne = does_none (λ v s. unfold on_opening rule_of when in rw (same_owner_law, owners_apart it.owner o f ne))

      pub queue_other : r ≡ false → StateDoes (catalogue k m us t) (λ v. on_opening (rule_of (catalogue k m us t) v QueueRequirement (owner_is o) q)) z z
      queue_other ne = does_none (λ v s. unfold on_opening rule_of when in rw (same_owner_law, owners_apart it.owner o f ne))

      pub open_conditional : {b : Bool} → is_some it.condition ≡ not b → b ≡ false
          → StateDoes (catalogue k m us t) (λ v. on_opening (rule_of (catalogue k m us t) v OpenRequirement (owner_is o) q)) z z
      open_conditional g u =
          does_none (λ v s. unfold on_opening rule_of when in rw (conditional_by g u, and_false (same_owner (owner_is o) (owner_at (catalogue k m us t) q))))

    open_is : r ≡ true → unconditional (catalogue k m us t) q ≡ true → (v : Reading) (s : State)
        → on_opening (open_names (catalogue k m us t) (goal_ranges (catalogue k m us t) (goal_of it.requirement))) s
        ≡ on_opening (rule_of (catalogue k m us t) v OpenRequirement (owner_is o) q) s
    unfolding on_opening rule_of when
    open_is h u v s =
        rw (← goal_at_law) (sym (rw (same_owner_law, owners_same it.owner o f h, u)))

    queue_is : r ≡ true → (b : Bool) → unconditional (catalogue k m us t) q ≡ b → (v : Reading) (s : State)
        → on_opening (queue (task_by (catalogue k m us t) b q)) s ≡ on_opening (rule_of (catalogue k m us t) v QueueRequirement (owner_is o) q) s
    unfolding on_opening rule_of when
    queue_is h b u v s = sym (rw (same_owner_law, owners_same it.owner o f h, u))

    module _ {z z' : encoder.State} (h : r ≡ true) where
      pub open_own : {b : Bool} → is_some it.condition ≡ not b → b ≡ true
          → StateDoes (catalogue k m us t) (λ v. on_opening (open_names (catalogue k m us t) (goal_ranges (catalogue k m us t) (goal_of it.requirement)))) z z'
          → StateDoes (catalogue k m us t) (λ v. on_opening (rule_of (catalogue k m us t) v OpenRequirement (owner_is o) q)) z z'
      open_own g u d = does_same d (open_is h (direct_by g u))

      pub queue_direct : Indexed k m us t → q < k.requirements → it.condition ≡ None → PlainDoes (λ c v. on_opening (queue (task_in c v (2113 + q)))) z z'
          → StateDoes (catalogue k m us t) (λ v. on_opening (rule_of (catalogue k m us t) v QueueRequirement (owner_is o) q)) z z'
      queue_direct a b u d =
          let low : q < 1024 = omega (arith, a.held.laid.requirements) in
          does_same (at_catalogue d) (λ v s. rw (requirement_task_law (catalogue k m us t) v q low (direct_is u)) (queue_is h true (direct_is u) v s))

      pub queue_conditional : Indexed k m us t → q < k.requirements → {x : ℕ} → it.condition ≡ Some x
          → PlainDoes (λ c v. on_opening (queue (task_in c v (1089 + q)))) z z'
          → StateDoes (catalogue k m us t) (λ v. on_opening (rule_of (catalogue k m us t) v QueueRequirement (owner_is o) q)) z z'
      queue_conditional a b u d =
          let low : q < 1024 = omega (arith, a.held.laid.requirements) in
          does_same (at_catalogue d) (λ v s. rw (condition_task (catalogue k m us t) v q low) (queue_is h false (conditional_is u) v s))

-- ---- a constraint

module _ (k : Counts) (m us t : List ℕ) (i : ℕ) (it : Constraint) (e : constraint_is it ≡ get_or (tables k t).constraints i no_constraint) where
  constraint_is_law : constraint_at (catalogue k m us t) i ≡ constraint_is it
  constraint_is_law = constraint_held k m us t i ∙ sym e

  constrained_at : (constraint_at (catalogue k m us t) i).owner ≡ owner_is it.owner
  unfolding constraint_is constraint_from
  constrained_at = ap (λ (x : rules.Constraint). x.owner) constraint_is_law

  range_at : (constraint_at (catalogue k m us t) i).range ≡ it.range
  unfolding constraint_is constraint_from
  range_at = ap (λ (x : rules.Constraint). x.range) constraint_is_law

  pub constrained_owner : WellFormed (catalogue k m us t) → Indexed k m us t → i < k.constraints → OwnerNumber it.owner
  constrained_owner w h b =
      let given : i < length (catalogue k m us t).constraints = rw constraints_held b in
      let o = subst (λ (x : Owner). OwnerGiven (catalogue k m us t) x) constrained_at (w.constraints i given).owner in
      owner_number_law (catalogue k m us t) it.owner o (omega (arith, parts_held k m us t, h.held.laid.parts))

  pub constrained_range : WellFormed (catalogue k m us t) → i < k.constraints → it.range < k.ranges
  constrained_range w b =
      let given : i < length (catalogue k m us t).constraints = rw constraints_held b in
      omega (arith, (w.constraints i given).range, range_at, ranges_held k m us t)

  module _ (o : owner.Owner) (r : Bool) (f : r ≡ equal it.owner o) where
    same_constrained : same_owner (owner_is o) (constraint_at (catalogue k m us t) i).owner ≡ same_owner (owner_is o) (owner_is it.owner)
    same_constrained = ap (same_owner (owner_is o)) constrained_at

    module _ {z : encoder.State} (ne : r ≡ false) where
      pub open_elsewhere : StateDoes (catalogue k m us t) (λ v. on_opening (rule_of (catalogue k m us t) v OpenConstraint (owner_is o) i)) z z
      open_elsewhere = does_none (λ v s. unfold on_opening rule_of when in rw (same_constrained, owners_apart it.owner o f ne))

      pub queue_elsewhere : StateDoes (catalogue k m us t) (λ v. on_opening (rule_of (catalogue k m us t) v QueueConstraint (owner_is o) i)) z z
      queue_elsewhere = does_none (λ v s. unfold on_opening rule_of when in rw (same_constrained, owners_apart it.owner o f ne))

    module _ {z z' : encoder.State} (h : r ≡ true) where
      pub open_here : StateDoes (catalogue k m us t) (λ v. on_opening (open_name (range_name (catalogue k m us t) it.range))) z z'
          → StateDoes (catalogue k m us t) (λ v. on_opening (rule_of (catalogue k m us t) v OpenConstraint (owner_is o) i)) z z'
      open_here d = does_same d (λ v z. rw (← range_at) (sym (unfold on_opening rule_of when in rw (same_constrained, owners_same it.owner o f h))))

      pub queue_here : Indexed k m us t → i < k.constraints → PlainDoes (λ c v. on_opening (queue (task_in c v (3137 + i)))) z z'
          → StateDoes (catalogue k m us t) (λ v. on_opening (rule_of (catalogue k m us t) v QueueConstraint (owner_is o) i)) z z'
      queue_here a b d =
          let low : i < 512 = omega (arith, a.held.laid.constraints) in
          does_same (at_catalogue d) (λ v s. rw (constraint_task (catalogue k m us t) v i low) (sym (unfold on_opening rule_of when in rw (same_constrained, owners_same it.owner o f h))))
