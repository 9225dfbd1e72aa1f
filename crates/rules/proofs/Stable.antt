-- A task's clauses speak of the variables that it names and of no others (but the root's, 0): they stay the same as long as those do,
-- and their literals are below any bound on those.
use mathlib.Core.Path.{◌≡◌, refl, ap}
use mathlib.Core.Bool.{Bool, true, false}
use mathlib.Core.List.Memᴰ
use mathlib.Core.List.{List, [], ◌∷◌, ◌++◌, map}
use Prim.Native.Nat.{ℕ, ◌<◌}
use Rattle.rules.specs.Lists.{list_if, concat_map}
use Rattle.rules.specs.Literal.{Literal, pos}
use Rattle.rules.specs.Clause.{Clause, gated, excluded, constrains, aux_out, aux_owner, lock, any_gate, exclusion, unknown_dependencies, literals}
use Rattle.rules.specs.Catalogue.{Owner, root, part, Catalogue, part_at, range_name, owner_at, goal_at}
use Rattle.rules.specs.Candidates.{non_matching, candidates, locked_part, locked_out, excluded_parts}
use Rattle.rules.specs.Conditions.{disjunct_at}
use Rattle.rules.specs.Variables.{Origin, chosen, violation, known, variable_of, part_origin, part_variable}
use Rattle.rules.specs.Opening.{Task, owner, name, condition, requirement, constraint}
use Rattle.rules.specs.Encoding.{Shape, direct, through_gate, on_firing, shape_of, few, range_origins, disjunct_origins, shape_origins, constraint_origins, task_origins, range_literals, disjunct_literals, requirement_clauses, constraint_clauses, task_clauses}
use Rattle.rules.specs.Called.{◌∈◌, constraint_range}
use Rattle.rules.proofs.Grows.{Prefix}
use Rattle.rules.proofs.Places.{keeps_variable}
use Rattle.rules.proofs.MemberLaws.{in_concat_map, map_same, concat_map_same, all_list_if, all_map, all_concat_map}
use Rattle.rules.proofs.ListLaws.{All, all_append}

-- ---- a property of every origin of a list

abbrev Each : (Origin → Type 0) → List Origin → Type 0
Each P os = (x : Origin) → x ∈ os → P x

module _ {P : Origin → Type 0} where
  first : {x : Origin} {os : List Origin} → Each P (x ∷ os) → P x
  first {x} h = h x (Memᴰ.head refl)

  rest : {x : Origin} {os : List Origin} → Each P (x ∷ os) → Each P os
  rest h x m = h x (Memᴰ.tail m)

  left : (os ps : List Origin) → Each P (os ++ ps) → Each P os
  left os ps h x m = h x (Memᴰ.append_left ps m)

  right : (os ps : List Origin) → Each P (os ++ ps) → Each P ps
  right os ps h x m = h x (Memᴰ.append_right os m)

  of_parts : (ps : List ℕ) → Each P (map part_origin ps) → (p : ℕ) → p ∈ ps → P (part_origin p)
  of_parts ps h p m = h (part_origin p) (Memᴰ.map part_origin m)

  of_part : {A : Type 0} (f : A → List Origin) (xs : List A) → Each P (concat_map f xs) → {x : A} → x ∈ xs → Each P (f x)
  of_part f xs h m o n = h o (in_concat_map f xs m n)

-- ---- the same variables, the same clauses

module _ (c : Catalogue) (vs ws : List Origin) where
  -- these origins have the same variables in both lists
  abbrev Agree : List Origin → Type 0
  Agree os = Each (λ x. variable_of ws x ≡ variable_of vs x) os

  parts_same : {B : Type 0} (f : ℕ → ℕ → B) (ps : List ℕ) → ((p : ℕ) → p ∈ ps → part_variable ws p ≡ part_variable vs p)
      → map (λ p. f (part_variable ws p) p) ps ≡ map (λ p. f (part_variable vs p) p) ps
  parts_same f ps h = map_same _ _ ps (λ p m. ap (λ x. f x p) (h p m))

  -- the variables before the event don't matter here
  range_same : (n : ℕ) (ps : List ℕ) → Agree (range_origins n ps) → range_literals ws n ps ≡ range_literals vs n ps
  unfolding range_origins range_literals
  range_same n [] h = rw (first h)
  range_same n (p ∷ ps) h = parts_same (λ x m. pos x) (p ∷ ps) (of_parts (p ∷ ps) h)

  pub disjunct_same : (d : List ℕ) → Agree (disjunct_origins c d) → disjunct_literals c ws d ≡ disjunct_literals c vs d
  unfolding disjunct_origins disjunct_literals
  disjunct_same d h = concat_map_same _ _ d (λ r m. range_same (range_name c r) (non_matching c r) (of_part _ d h m))

  requirement_same : (old : List Origin) (f : Shape) (q : ℕ) (is : List ℕ) → variable_of ws (chosen (owner_at c q)) ≡ variable_of vs (chosen (owner_at c q))
      → map (part_variable ws) (candidates c (goal_at c q)) ≡ map (part_variable vs) (candidates c (goal_at c q)) → Agree (shape_origins c f q is)
      → requirement_clauses c old ws f (owner_at c q) (goal_at c q) q is ≡ requirement_clauses c old vs f (owner_at c q) (goal_at c q) q is
  unfolding shape_origins requirement_clauses
  requirement_same old direct q is o ps h = rw (o, ps)
  requirement_same old through_gate q is o ps h = rw (first h, o, ps)
  requirement_same old on_firing q is o ps h = map_same _ _ is (λ i m. rw (o, ps, disjunct_same (disjunct_at c q i) (of_part _ is h m)))

  constraint_same : (old : List Origin) (b : Bool) (o : Owner) (r : ℕ) → Agree (chosen o ∷ constraint_origins c b r)
      → constraint_clauses c old ws b o r ≡ constraint_clauses c old vs b o r
  unfolding constraint_origins constraint_clauses
  constraint_same old true o r h = rw (first h) (parts_same (λ x p. constrains (variable_of vs (chosen o)) x) (non_matching c r) (of_parts (non_matching c r) (rest h)))
  constraint_same old false o r h =
      rw (first h, first (rest h), parts_same (λ x p. aux_out x (variable_of vs (violation r))) (non_matching c r) (of_parts (non_matching c r) (rest (rest h))))

  unknown_same : (b : Bool) (p : ℕ) → Agree (list_if b (part_origin p ∷ []))
      → list_if b (excluded (part_variable ws p) p unknown_dependencies ∷ []) ≡ list_if b (excluded (part_variable vs p) p unknown_dependencies ∷ [])
  unfolding list_if
  unknown_same true p h = rw (first h)
  unknown_same false p h = refl

  pub same_clauses : (old : List Origin) (t : Task) → Agree (task_origins c t) → task_clauses c old ws t ≡ task_clauses c old vs t
  unfolding task_origins task_clauses
  same_clauses old (owner root) h = refl
  same_clauses old (owner (part p)) h = unknown_same (part_at c p).unknown p h
  same_clauses old (name n) h =
      let outs = locked_out c n in
      let k : (p : ℕ) → p ∈ (outs ++ excluded_parts c n) → _ = λ p m. of_parts _ h p (Memᴰ.append_right (locked_part c n) m) in
      rw (
        parts_same (λ x p. lock x) outs (λ p m. k p (Memᴰ.append_left (excluded_parts c n) m)),
        parts_same (λ x p. excluded x p exclusion) (excluded_parts c n) (λ p m. k p (Memᴰ.append_right outs m)),
      )
  same_clauses old (condition q) h = refl
  same_clauses old (requirement q is) h =
      let ps = candidates c (goal_at c q) in
      let k = left (map part_origin ps) _ (rest h) in
      requirement_same old (shape_of c q) q is (first h) (parts_same (λ x p. x) ps (of_parts ps k)) (right (map part_origin ps) _ (rest h))
  same_clauses old (constraint k) h = constraint_same old (few (non_matching c (constraint_range c k))) _ (constraint_range c k) h

pub stable : (c : Catalogue) (old : List Origin) {vs ws : List Origin} → Prefix vs ws → (t : Task) → ((x : Origin) → x ∈ task_origins c t → known vs x ≡ true)
    → task_clauses c old ws t ≡ task_clauses c old vs t
stable c old {vs} {ws} p t h = same_clauses c vs ws old t (λ x m. (keeps_variable p x (h x m)).1)

-- ---- variables below a bound, literals below it

abbrev pub Below : ℕ → Literal → Type 0
Below n l = l.variable < n

abbrev pub ClauseBelow : ℕ → Clause → Type 0
ClauseBelow n k = All (Below n) (literals k)

module _ (c : Catalogue) (old vs : List Origin) (n : ℕ) where
  abbrev Low : List Origin → Type 0
  Low os = Each (λ x. variable_of vs x < n) os

  candidates_below : (ps : List ℕ) → Low (map part_origin ps) → All (Below n) (map pos (map (part_variable vs) ps))
  candidates_below [] h = tt
  candidates_below (p ∷ ps) h = (first h, candidates_below ps (rest h))

  range_below : (m : ℕ) (ps : List ℕ) → Low (range_origins m ps) → All (Below n) (range_literals vs m ps)
  unfolding range_origins range_literals
  range_below m [] h = (first h, tt)
  range_below m (p ∷ ps) h = all_map (Below n) (λ m. pos (part_variable vs m)) (p ∷ ps) (of_parts (p ∷ ps) h)

  disjunct_below : (d : List ℕ) → Low (disjunct_origins c d) → All (Below n) (disjunct_literals c vs d)
  unfolding disjunct_origins disjunct_literals
  disjunct_below d h = all_concat_map (Below n) _ d (λ r m. range_below (range_name c r) (non_matching c r) (of_part _ d h m))

  requirement_below : (f : Shape) (q : ℕ) (is : List ℕ) → variable_of vs (chosen (owner_at c q)) < n
      → All (Below n) (map pos (map (part_variable vs) (candidates c (goal_at c q)))) → Low (shape_origins c f q is)
      → All (ClauseBelow n) (requirement_clauses c old vs f (owner_at c q) (goal_at c q) q is)
  unfolding shape_origins requirement_clauses literals
  requirement_below direct q is o ps h = ((o, ps), tt)
  requirement_below through_gate q is o ps h =
      all_append (ClauseBelow n) (list_if _ (gated _ _ ∷ [])) (any_gate _ _ ∷ []) (all_list_if (ClauseBelow n) _ _ (λ e. ((first h, ps), tt))) ((first h, (o, tt)), tt)
  requirement_below on_firing q is o ps h =
      all_map (ClauseBelow n) _ is (λ i m. (o, all_append (Below n) (disjunct_literals c vs _) _ (disjunct_below (disjunct_at c q i) (of_part _ is h m)) ps))

  outs_below : (ps : List ℕ) (v : ℕ) → v < n → Low (map part_origin ps) → All (ClauseBelow n) (map (λ p. aux_out (part_variable vs p) v) ps)
  unfolding literals
  outs_below ps v l h = all_map (ClauseBelow n) _ ps (λ p m. (of_parts ps h p m, (l, tt)))

  constraint_below : (b : Bool) (o : Owner) (r : ℕ) → Low (chosen o ∷ constraint_origins c b r) → All (ClauseBelow n) (constraint_clauses c old vs b o r)
  unfolding constraint_origins constraint_clauses literals
  constraint_below true o r h = all_map (ClauseBelow n) _ (non_matching c r) (λ p m. (first h, (of_parts (non_matching c r) (rest h) p m, tt)))
  constraint_below false o r h =
      all_append (ClauseBelow n) (list_if _ _) (aux_owner _ _ ∷ [])
      (all_list_if (ClauseBelow n) _ _ (λ e. outs_below (non_matching c r) (variable_of vs (violation r)) (first (rest h)) (rest (rest h))))
      ((first h, (first (rest h), tt)), tt)

  unknown_below : (b : Bool) (p : ℕ) → Low (list_if b (part_origin p ∷ [])) → All (ClauseBelow n) (list_if b (excluded (part_variable vs p) p unknown_dependencies ∷ []))
  unfolding list_if literals
  unknown_below true p h = ((first h, tt), tt)
  unknown_below false p h = tt

  pub task_below : 0 < n → (t : Task) → Low (task_origins c t) → All (ClauseBelow n) (task_clauses c old vs t)
  unfolding task_origins task_clauses literals
  task_below z (owner root) h = tt
  task_below z (owner (part p)) h = unknown_below (part_at c p).unknown p h
  task_below z (name m) h =
      let k : (p : ℕ) → p ∈ (locked_out c m ++ excluded_parts c m) → _ = λ p i. of_parts _ h p (Memᴰ.append_right (locked_part c m) i) in
      all_append (ClauseBelow n) (map _ (locked_out c m)) _
      (all_map (ClauseBelow n) _ (locked_out c m) (λ p i. (z, (k p (Memᴰ.append_left (excluded_parts c m) i), tt))))
      (all_map (ClauseBelow n) _ (excluded_parts c m) (λ p i. (k p (Memᴰ.append_right (locked_out c m) i), tt)))
  task_below z (condition q) h = tt
  task_below z (requirement q is) h =
      let ps = candidates c (goal_at c q) in
      requirement_below (shape_of c q) q is (first h) (candidates_below ps (left (map part_origin ps) _ (rest h))) (right (map part_origin ps) _ (rest h))
  task_below z (constraint k) h = constraint_below (few (non_matching c (constraint_range c k))) _ (constraint_range c k) h
