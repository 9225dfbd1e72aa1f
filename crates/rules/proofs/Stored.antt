-- The stored clauses are exactly those that the opening calls for: no rule is lost, none is invented, for every job.
use mathlib.Core.Path.{◌≡◌, refl, sym}
use mathlib.Core.Logic.{⊎_elim}
use mathlib.Core.Bool.{Bool, true, false}
use mathlib.Core.List.Memᴰ
use mathlib.Core.List.{List, [], ◌∷◌, map}
use mathlib.Core.Option.{Option, none, some}
use Prim.Native.Nat.{ℕ}
use lib.ListN.{length}
use Rattle.rules.specs.Lists.{any, list_if}
use Rattle.rules.specs.Clause.{Clause, gated, excluded, aux_out, lock, exclusion}
use Rattle.rules.specs.Catalogue.{Owner, root, part, Catalogue, constraint_at, range_name, owner_at, goal_at, unknown_owner}
use Rattle.rules.specs.Candidates.{non_matching, candidates, requirements_of, constraints_of, locked_out, excluded_parts}
use Rattle.rules.specs.Conditions.{disjunct_at, is_none, unconditional}
use Rattle.rules.specs.Variables.{Origin, one, violation, known, variable_of, part_origin, part_variable}
use Rattle.rules.specs.Opening.{Task, owner, name, condition, requirement, constraint, Opening}
use Rattle.rules.specs.Encoding.{Shape, direct, through_gate, on_firing, shape, shape_of, few, range_origins, disjunct_origins, shape_origins, task_origins, requirement_clauses, constraint_clauses, task_clauses}
use Rattle.rules.specs.State.{State}
use Rattle.rules.specs.Called.{◌∈◌, NeedsOne, constraint_range, Called, installed, unknown_part, excluded_part, other_than_locked, few_non_matching, part_violates, owner_forbids_violation, required, gate_requires, owner_needs_gate, fired_requires, bit_agrees, part_is_one}
use Rattle.rules.proofs.KindTable.{not_one}
use Rattle.rules.proofs.WellFormed.{WellFormed}
use Rattle.rules.proofs.MemberLaws.{of_list_if, in_list_if, in_concat_map, all_in}
use Rattle.rules.proofs.Valid.{requirements_of_given, constraints_of_given}
use Rattle.rules.proofs.OwnerTasks.{requirement_owner, constraint_owner}
use Rattle.rules.proofs.Books.{Books, owner_opened, name_opened_law, requirement_from_law, constraint_from_law, fired_of_law}
use Rattle.rules.proofs.Booked.{all_served, unconditional_served, constraint_served}
use Rattle.rules.proofs.Asked.{Asks, for_owner, for_gate, for_violation, for_one}
use Rattle.rules.proofs.Encoded.{Source, of_start, of_task, of_bit, of_one, by_task, one_from, one_stored}
use Rattle.rules.proofs.History.{History}

-- only a requirement without a condition has another shape than "on firing"
not_fired : (k : Option ℕ) (w : Owner) (n : ℕ) (f : Shape) → shape k w n ≡ f → (f ≡ on_firing → ⊥) → is_none k ≡ true
unfolding shape
not_fired none w n f e never = refl
not_fired (some k) w n f e never = absurd (never (sym e))

-- and one with fired disjuncts has that shape
fired_shape : (k : Option ℕ) (w : Owner) (n i : ℕ) (is : List ℕ) → (is_none k ≡ true → is ≡ []) → i ∈ is → shape k w n ≡ on_firing
unfolding shape
fired_shape none w n i is h m = absurd (Memᴰ.not-nil (rw (h refl) at m))
fired_shape (some k) w n i is h m = refl

module _ {c : Catalogue} {s : State} (h : History c s) where
  abbrev opened : Opening
  opened = s.opening

  abbrev vs : List Origin
  vs = s.variables

  books : Books c h.log h.log h.log opened.drawn opened
  books = all_served c h.booked

  -- ---- none is invented

  same_called : {k k' : Clause} → k ≡ k' → Called c opened vs k' → Called c opened vs k
  same_called e p = rw e p

  shape_called : (f : Shape) (q : ℕ) (is : List ℕ) → shape_of c q ≡ f → requirement q is ∈ h.log → (k : Clause)
      → k ∈ requirement_clauses c [] vs f (owner_at c q) (goal_at c q) q is → Called c opened vs k
  unfolding requirement_clauses
  shape_called direct q is e m k i =
      let r = (requirement_from_law c books q is m).of_served in
      same_called (Memᴰ.eq_of_singleton i) (required (owner_opened c books _ r.owner_served) r.of_owner e)
  shape_called through_gate q is e m k i =
      let r = (requirement_from_law c books q is m).of_served in
      let w = owner_opened c books _ r.owner_served in
      ⊎_elim (λ (i : k ∈ list_if _ (gated _ _ ∷ [])). same_called (Memᴰ.eq_of_singleton (of_list_if _ _ i).1) (gate_requires w r.of_owner e))
      (λ i. same_called (Memᴰ.eq_of_singleton i) (owner_needs_gate w r.of_owner e)) (Memᴰ.append_cases (list_if _ (gated _ _ ∷ [])) i)
  shape_called on_firing q is e m k i =
      let r = (requirement_from_law c books q is m).of_served in
      let j = Memᴰ.of_map _ is i in
      same_called (sym j.2) (fired_requires (owner_opened c books _ r.owner_served) r.of_owner e (fired_of_law c books q is m j.0 j.1))

  constraint_called : (b : Bool) (n : ℕ) → few (non_matching c (constraint_range c n)) ≡ b → constraint n ∈ h.log → (k : Clause)
      → k ∈ constraint_clauses c [] vs b (constraint_at c n).owner (constraint_range c n) → Called c opened vs k
  unfolding constraint_clauses
  constraint_called true n e m k i =
      let r = constraint_from_law c books n m in
      let j = Memᴰ.of_map _ _ i in
      same_called (sym j.2) (few_non_matching (owner_opened c books _ r.owner_served) r.of_owner e j.1)
  constraint_called false n e m k i =
      let r = constraint_from_law c books n m in
      let w = owner_opened c books _ r.owner_served in
      let outs = map (λ p. aux_out (part_variable vs p) (variable_of vs (violation (constraint_range c n)))) (non_matching c (constraint_range c n)) in
      ⊎_elim (λ i. let j = Memᴰ.of_map _ (non_matching c (constraint_range c n)) (of_list_if _ outs i).1 in same_called (sym j.2) (part_violates w r.of_owner e j.1))
      (λ i. same_called (Memᴰ.eq_of_singleton i) (owner_forbids_violation w r.of_owner e)) (Memᴰ.append_cases (list_if _ outs) i)

  task_called : (t : Task) → t ∈ h.log → (k : Clause) → k ∈ task_clauses c [] vs t → Called c opened vs k
  unfolding task_clauses
  task_called (owner root) m k i = absurd (Memᴰ.not-nil i)
  task_called (owner (part p)) m k i =
      let j = of_list_if _ _ i in
      same_called (Memᴰ.eq_of_singleton j.1) (unknown_part (owner_opened c books (part p) m) j.0)
  task_called (name n) m k i =
      let o = name_opened_law c books n m in
      let locks : ℕ → Clause = λ p. lock (part_variable vs p) in
      let exclusions : ℕ → Clause = λ p. excluded (part_variable vs p) p exclusion in
      ⊎_elim (λ i. let j = Memᴰ.of_map locks (locked_out c n) i in same_called (sym j.2) (other_than_locked o j.1))
      (λ i. let j = Memᴰ.of_map exclusions (excluded_parts c n) i in same_called (sym j.2) (excluded_part o j.1))
      (Memᴰ.append_cases (map locks (locked_out c n)) i)
  task_called (condition q) m k i = absurd (Memᴰ.not-nil i)
  task_called (requirement q is) m k i = shape_called (shape_of c q) q is refl m k i
  task_called (constraint n) m k i = constraint_called _ n refl m k i

  -- a one-of-name variable was asked for by a fired disjunct
  one_needed : (n : ℕ) (t : Task) → t ∈ h.log → (x : Origin) → Asks c t x → x ≡ one n → NeedsOne c opened n
  one_needed n t m x (for_one {q = q} {i = i} {r = r} {is = is} e j d none_else) q' =
      record { requirement = q; index = i; range = r; fired = fired_of_law c books q is m i j; in_disjunct = d; of_name_law = cc; none_else = none_else }
  one_needed n t m x for_owner e = absurd (not_one (cc))
  one_needed n t m x (for_gate g) e = absurd (not_one (cc))
  one_needed n t m x (for_violation g) e = absurd (not_one (cc))

  pub stored_called : (k : Clause) → k ∈ s.clauses → Called c opened vs k
  stored_called k m = go (h.encoded.stored.only m)
    where
      go : {k : Clause} → Source c h.log (length vs) opened.tracked vs k → Called c opened vs k
      go of_start = installed
      go (of_task {t = t} m i) = task_called t m _ i
      go (of_bit n i j p q) = bit_agrees n i j p q
      go (of_one {n = n} l p) = let a = one_from h.encoded.numbered n l.is_known in part_is_one (one_needed n a.task a.in_log (one n) a.asked refl) p

  -- ---- none is lost

  -- a fired disjunct's range with no non-matching part has its one-of-name variable
  in_range : (n m : ℕ) (ps : List ℕ) → ps ≡ [] → m ≡ n → one n ∈ range_origins m ps
  unfolding range_origins
  in_range n m ps e q = rw (e, q) (Memᴰ.head refl)

  in_origins : {n : ℕ} (d : NeedsOne c opened n) (is : List ℕ) → shape_of c d.requirement ≡ on_firing → d.index ∈ is → one n ∈ task_origins c (requirement d.requirement is)
  unfolding task_origins shape_origins disjunct_origins
  in_origins {n} d is e m =
      let q = d.requirement in
      let r = in_range n (range_name c d.range) (non_matching c d.range) d.none_else d.of_name_law in
      let i : one n ∈ shape_origins c (shape_of c q) q is = rw e (in_concat_map _ is m (in_concat_map _ (disjunct_at c q d.index) d.in_disjunct r)) in
      Memᴰ.tail (Memᴰ.append_right (map part_origin (candidates c (goal_at c q))) i)

  one_known : {n : ℕ} → NeedsOne c opened n → known vs (one n) ≡ true
  unfolding unconditional
  one_known {n} d =
      let q = d.requirement in
      let t = books.fired_from q d.index d.fired in
      let e = fired_shape _ (owner_at c q) (length (candidates c (goal_at c q))) _ t.0 (requirement_from_law c books q t.0 t.1).none_fired t.2 in
      h.encoded.numbered.named_known (by_task t.1 (in_origins d t.0 e t.2))

  in_task : {t : Task} {k : Clause} → t ∈ h.log → k ∈ task_clauses c [] vs t → k ∈ s.clauses
  in_task m i = h.encoded.stored.every (of_task m i)

  in_constraint : (b : Bool) (w : Owner) {n : ℕ} {k : Clause} → n ∈ constraints_of c w → few (non_matching c (constraint_range c n)) ≡ b
      → k ∈ constraint_clauses c [] vs b w (constraint_range c n) → k ∈ task_clauses c [] vs (constraint n)
  unfolding task_clauses
  in_constraint b w m e i = rw (e, constraint_owner c w m) i

  in_requirement : (f : Shape) (w : Owner) (q : ℕ) (is : List ℕ) {k : Clause} → q ∈ requirements_of c w → shape_of c q ≡ f
      → k ∈ requirement_clauses c [] vs f w (goal_at c q) q is → k ∈ task_clauses c [] vs (requirement q is)
  unfolding task_clauses
  in_requirement f w q is m e i = rw (e, requirement_owner c w m) i

  module _ (wf : WellFormed c) where
    -- "contradiction: owner unknown": an unknown owner has no rules
    pub required_known : (w : Owner) (q : ℕ) → q ∈ requirements_of c w → unknown_owner c w ≡ false
    required_known w q m =
        rw (requirement_owner c w m) at (wf.requirements q (all_in _ (requirements_of c w) (requirements_of_given c w) m)).known

    constrained_known : (w : Owner) (k : ℕ) → k ∈ constraints_of c w → unknown_owner c w ≡ false
    constrained_known w k m =
        rw (constraint_owner c w m) at (wf.constraints k (all_in _ (constraints_of c w) (constraints_of_given c w) m)).known

    unconditional_in : (w : Owner) (q : ℕ) → w ∈ opened.owners → q ∈ requirements_of c w → (f : Shape) → shape_of c q ≡ f → (f ≡ on_firing → ⊥) → requirement q [] ∈ h.log
    unfolding unconditional
    unconditional_in w q m i f e never = unconditional_served c h.booked m (required_known w q i) q i (not_fired _ _ _ f e never)

    constraint_in : (w : Owner) (k : ℕ) → w ∈ opened.owners → k ∈ constraints_of c w → constraint k ∈ h.log
    constraint_in w k m i = constraint_served c h.booked m (constrained_known w k i) k i

    pub called_stored : (k : Clause) → Called c opened vs k → k ∈ s.clauses
    unfolding requirement_clauses constraint_clauses known any
    called_stored _ installed = h.encoded.stored.every of_start
    called_stored _ (unknown_part {p = p} m e) = in_task (books.owner_queued (part p) m) (unfold task_clauses in in_list_if _ e (Memᴰ.head refl))
    called_stored _ (excluded_part {n = n} m i) =
        in_task (books.name_queued n m) (unfold task_clauses in Memᴰ.append_right (map (λ p. lock (part_variable vs p)) (locked_out c n)) (Memᴰ.map _ i))
    called_stored _ (other_than_locked {n = n} m i) = in_task (books.name_queued n m) (unfold task_clauses in Memᴰ.append_left _ (Memᴰ.map _ i))
    called_stored _ (few_non_matching {w = w} {k = k} m i e p) = in_task (constraint_in w k m i) (in_constraint true w i e (Memᴰ.map _ p))
    called_stored _ (part_violates {w = w} {k = k} m i e p) =
        in_task (constraint_in w k m i) (in_constraint false w i e (Memᴰ.append_left _ (in_list_if _ refl (Memᴰ.map _ p))))
    called_stored _ (owner_forbids_violation {w = w} {k = k} m i e) =
        in_task (constraint_in w k m i) (in_constraint false w i e (Memᴰ.append_right (list_if _ _) (Memᴰ.head refl)))
    called_stored _ (required {w = w} {q = q} m i e) = in_task (unconditional_in w q m i direct e (λ d. not_one (cc))) (in_requirement direct w q [] i e (Memᴰ.head refl))
    called_stored _ (gate_requires {w = w} {q = q} m i e) =
        in_task (unconditional_in w q m i through_gate e (λ d. not_one (cc))) (in_requirement through_gate w q [] i e (Memᴰ.append_left _ (in_list_if _ refl (Memᴰ.head refl))))
    called_stored _ (owner_needs_gate {w = w} {q = q} m i e) =
        in_task (unconditional_in w q m i through_gate e (λ d. not_one (cc))) (in_requirement through_gate w q [] i e (Memᴰ.append_right (list_if _ _) (Memᴰ.head refl)))
    called_stored _ (fired_requires {w = w} {q = q} {i = i} m r e f) =
        let t = books.fired_from q i f in
        in_task t.1 (in_requirement on_firing w q t.0 r e (Memᴰ.map _ t.2))
    called_stored _ (bit_agrees n i j p q) = h.encoded.stored.every (of_bit n i j p q)
    called_stored _ (part_is_one {n = n} need p) = one_stored h.encoded n (one_known need) p
