-- Which helper variables a task asks for, and the clauses that a gate or a violation variable gets only from the first task that asks for it.
use mathlib.Core.Path.{◌≡◌, refl}
use mathlib.Core.Logic.{◌⊎◌, inl, inr, ⊎_elim}
use mathlib.Core.Bool.{Bool, true, false, not}
use mathlib.Core.List.Memᴰ
use mathlib.Core.List.{List, [], ◌∷◌, ◌++◌, map}
use Prim.Native.Nat.{ℕ}
use Rattle.rules.specs.Lists.{any, list_if}
use Rattle.rules.specs.Clause.{Clause, gated, aux_out}
use Rattle.rules.specs.Catalogue.{Owner, part, root, Goal, Catalogue, part_at, range_name, owner_at, goal_at}
use Rattle.rules.specs.Candidates.{non_matching, candidates, locked_part, locked_out, excluded_parts}
use Rattle.rules.specs.Conditions.{disjunct_at}
use Rattle.rules.specs.Variables.{Origin, chosen, one, violation, gate, known, variable_of, part_origin, part_variable}
use Rattle.rules.specs.Opening.{Task, owner, name, condition, requirement, constraint}
use Rattle.rules.specs.Encoding.{Shape, direct, through_gate, on_firing, shape_of, few, range_origins, disjunct_origins, shape_origins, constraint_origins, task_origins, requirement_clauses, constraint_clauses, task_clauses}
use Rattle.rules.specs.Called.{◌∈◌, constraint_range}
use Rattle.rules.proofs.MemberLaws.{of_list_if, of_concat_map}

-- ---- what a task asks for

pub data Asks (c : Catalogue) : Task → Origin → Type 0 where
  for_owner : {t : Task} {o : Owner} → Asks c t (chosen o)
  for_gate : {q : ℕ} {is : List ℕ} → shape_of c q ≡ through_gate → Asks c (requirement q is) (gate (goal_at c q))
  for_violation : {k : ℕ} → few (non_matching c (constraint_range c k)) ≡ false → Asks c (constraint k) (violation (constraint_range c k))
  -- a fired range with no non-matching part
  for_one : {q i r : ℕ} {is : List ℕ} → shape_of c q ≡ on_firing → i ∈ is → r ∈ disjunct_at c q i → non_matching c r ≡ []
      → Asks c (requirement q is) (one (range_name c r))

module _ (c : Catalogue) where
  for_part : {t : Task} {x : Origin} (ps : List ℕ) → x ∈ map part_origin ps → Asks c t x
  for_part ps m = let r = Memᴰ.of_map part_origin ps m in rw (← r.2) for_owner

  range_asks : {q i r : ℕ} {is : List ℕ} {x : Origin} (ps : List ℕ) → non_matching c r ≡ ps → shape_of c q ≡ on_firing → i ∈ is → r ∈ disjunct_at c q i
      → x ∈ range_origins (range_name c r) ps → Asks c (requirement q is) x
  unfolding range_origins
  range_asks [] n e i r m = rw (Memᴰ.eq_of_singleton m) (for_one e i r n)
  range_asks (p ∷ ps) n e i r m = for_part (p ∷ ps) m

  shape_asks : (f : Shape) (q : ℕ) (is : List ℕ) {x : Origin} → shape_of c q ≡ f → x ∈ shape_origins c f q is → Asks c (requirement q is) x
  unfolding shape_origins disjunct_origins
  shape_asks direct q is e m = elim m [ ]
  shape_asks through_gate q is e m = rw (Memᴰ.eq_of_singleton m) (for_gate e)
  shape_asks on_firing q is e m =
      let i = of_concat_map _ is m in
      let r = of_concat_map _ (disjunct_at c q i.0) i.2 in
      range_asks (non_matching c r.0) refl e i.1 r.1 r.2

  constraint_asks : (b : Bool) (k : ℕ) {x : Origin} → few (non_matching c (constraint_range c k)) ≡ b → x ∈ constraint_origins c b (constraint_range c k)
      → Asks c (constraint k) x
  unfolding constraint_origins
  constraint_asks true k e m = for_part (non_matching c (constraint_range c k)) m
  constraint_asks false k e m = ⊎_elim (λ q. rw q (for_violation e)) (for_part (non_matching c (constraint_range c k))) (Memᴰ.cases_cons m)

  pub asks : (t : Task) {x : Origin} → x ∈ task_origins c t → Asks c t x
  unfolding task_origins
  asks (owner (part p)) m = for_part (p ∷ []) (of_list_if (part_at c p).unknown _ m).1
  asks (owner root) m = elim m [ ]
  asks (name n) m = for_part (locked_part c n ++ (locked_out c n ++ excluded_parts c n)) m
  asks (condition q) m = elim m [ ]
  asks (requirement q is) m =
      ⊎_elim (λ e. rw e for_owner)
      (λ m. ⊎_elim (for_part (candidates c (goal_at c q))) (shape_asks (shape_of c q) q is refl) (Memᴰ.append_cases (map part_origin (candidates c (goal_at c q))) m))
      (Memᴰ.cases_cons m)
  asks (constraint k) m = ⊎_elim (λ e. rw e for_owner) (constraint_asks _ k refl) (Memᴰ.cases_cons m)

-- ---- clauses that are made once

-- `vs` has the gate or the violation variable already
pub data Shared (c : Catalogue) (vs ws : List Origin) : Clause → Type 0 where
  of_gate : (g : Goal) → known vs (gate g) ≡ true → Shared c vs ws (gated (variable_of ws (gate g)) (map (part_variable ws) (candidates c g)))
  of_violation : (r : ℕ) {p : ℕ} → known vs (violation r) ≡ true → p ∈ non_matching c r → Shared c vs ws (aux_out (part_variable ws p) (variable_of ws (violation r)))

made_or_not : (b : Bool) (xs ys : List Clause) {k : Clause} → k ∈ (list_if true xs ++ ys) → (k ∈ (list_if (not b) xs ++ ys)) ⊎ ((b ≡ true) × (k ∈ xs))
unfolding list_if
made_or_not true xs ys m = ⊎_elim (λ m. inr (refl, m)) inl (Memᴰ.append_cases xs m)
made_or_not false xs ys m = inl m

-- with no variable known, every clause of the task
whole : (b : Bool) (xs ys : List Clause) {k : Clause} → k ∈ (list_if b xs ++ ys) → k ∈ (list_if true xs ++ ys)
unfolding list_if
whole true xs ys m = m
whole false xs ys m = Memᴰ.append_right xs m

module _ (c : Catalogue) (vs ws : List Origin) where
  fired_whole : (o : Owner) (g : Goal) (q : ℕ) (is : List ℕ) → requirement_clauses c vs ws on_firing o g q is ≡ requirement_clauses c [] ws on_firing o g q is
  unfolding requirement_clauses
  fired_whole o g q is = refl

  requirement_whole : (f : Shape) (o : Owner) (g : Goal) (q : ℕ) (is : List ℕ) {k : Clause} → k ∈ requirement_clauses c vs ws f o g q is
      → k ∈ requirement_clauses c [] ws f o g q is
  unfolding requirement_clauses known any
  requirement_whole direct o g q is m = m
  requirement_whole through_gate o g q is m = whole _ (_ ∷ []) (_ ∷ []) m
  requirement_whole on_firing o g q is m = rw (fired_whole o g q is) at m

  constraint_whole : (b : Bool) (o : Owner) (r : ℕ) {k : Clause} → k ∈ constraint_clauses c vs ws b o r → k ∈ constraint_clauses c [] ws b o r
  unfolding constraint_clauses known any
  constraint_whole true o r m = m
  constraint_whole false o r m = whole _ _ (_ ∷ []) m

  pub task_whole : (t : Task) {k : Clause} → k ∈ task_clauses c vs ws t → k ∈ task_clauses c [] ws t
  unfolding task_clauses
  task_whole (owner (part p)) m = m
  task_whole (owner root) m = elim m [ ]
  task_whole (name n) m = m
  task_whole (condition q) m = elim m [ ]
  task_whole (requirement q is) m = requirement_whole (shape_of c q) (owner_at c q) (goal_at c q) q is m
  task_whole (constraint k) m = constraint_whole (few (non_matching c (constraint_range c k))) _ (constraint_range c k) m

  requirement_once : (f : Shape) (o : Owner) (g : Goal) (q : ℕ) (is : List ℕ) {k : Clause} → k ∈ requirement_clauses c [] ws f o g q is
      → (k ∈ requirement_clauses c vs ws f o g q is) ⊎ Shared c vs ws k
  unfolding requirement_clauses known any
  requirement_once direct o g q is m = inl m
  requirement_once through_gate o g q is m =
      ⊎_elim inl (λ s. inr (rw (Memᴰ.eq_of_singleton s.1) (of_gate g s.0))) (made_or_not _ (_ ∷ []) (_ ∷ []) m)
  requirement_once on_firing o g q is m = inl (rw (fired_whole o g q is) m)

  constraint_once : (b : Bool) (o : Owner) (r : ℕ) {k : Clause} → k ∈ constraint_clauses c [] ws b o r → (k ∈ constraint_clauses c vs ws b o r) ⊎ Shared c vs ws k
  unfolding constraint_clauses known any
  constraint_once true o r m = inl m
  constraint_once false o r m =
      ⊎_elim inl (λ s. let p = Memᴰ.of_map _ (non_matching c r) s.1 in inr (rw (← p.2) (of_violation r s.0 p.1)))
      (made_or_not _ _ (_ ∷ []) m)

  pub task_once : (t : Task) {k : Clause} → k ∈ task_clauses c [] ws t → (k ∈ task_clauses c vs ws t) ⊎ Shared c vs ws k
  unfolding task_clauses
  task_once (owner (part p)) m = inl m
  task_once (owner root) m = elim m [ ]
  task_once (name n) m = inl m
  task_once (condition q) m = elim m [ ]
  task_once (requirement q is) m = requirement_once (shape_of c q) (owner_at c q) (goal_at c q) q is m
  task_once (constraint k) m = constraint_once (few (non_matching c (constraint_range c k))) _ (constraint_range c k) m

-- ---- the task that asks first makes them

module _ (c : Catalogue) (vs : List Origin) where
  pub gate_own : {t : Task} {g : Goal} → Asks c t (gate g) → gated (variable_of vs (gate g)) (map (part_variable vs) (candidates c g)) ∈ task_clauses c [] vs t
  unfolding task_clauses
  gate_own (for_gate {q} {is} e) = rw e (unfold requirement_clauses known any list_if in Memᴰ.head refl)

  pub violation_own : {t : Task} {r p : ℕ} → Asks c t (violation r) → p ∈ non_matching c r
      → aux_out (part_variable vs p) (variable_of vs (violation r)) ∈ task_clauses c [] vs t
  unfolding task_clauses
  violation_own (for_violation e) m = rw e (unfold constraint_clauses known any list_if in Memᴰ.append_left _ (Memᴰ.map (λ p. aux_out (part_variable vs p) _) m))
