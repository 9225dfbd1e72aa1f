-- The clauses that an opening calls for: the encoding rules once more, without order, task line or storing. A job stores exactly these (proofs/Stored.antt).
use mathlib.Core.List.{Memᴰ}
use Rattle.std.specs.Prelude.{◌≡◌, true, false, List, [], map, ℕ, ◌<◌, length, get_or}
use Rattle.rules.specs.Clause.{Clause, install, requires, gated, excluded, constrains, aux_out, aux_owner, lock, any_gate, any_one, exclusion, unknown_dependencies}
use Rattle.rules.specs.AtMostOne.{bit, helpers_for, agrees}
use Rattle.rules.specs.Catalogue.{Owner, part, Catalogue, part_at, constraint_at, range_name, goal_at}
use Rattle.rules.specs.Candidates.{non_matching, candidates, requirements_of, constraints_of, locked_out, excluded_parts}
use Rattle.rules.specs.Conditions.{disjunct_at}
use Rattle.rules.specs.Variables.{Origin, chosen, one, violation, gate, variable_of, part_variable}
use Rattle.rules.specs.Opening.{Opening, tracked_of}
use Rattle.rules.specs.Encoding.{direct, through_gate, on_firing, shape_of, few, disjunct_literals}

abbrev pub ◌∈◌ : {A : Type 0} → A → List A → Type 0
x ∈ xs = Memᴰ x xs

infix 4 ◌∈◌
-- a fired disjunct has a range of this name with no non-matching part
pub record NeedsOne (c : Catalogue) (o : Opening) (n : ℕ) : Type 0 where
  pub requirement : ℕ
  pub index : ℕ
  pub range : ℕ
  pub fired : (requirement, index) ∈ o.fired
  pub in_disjunct : range ∈ disjunct_at c requirement index
  pub of_name_law : range_name c range ≡ n
  pub none_else : non_matching c range ≡ []

abbrev pub constraint_range : Catalogue → ℕ → ℕ
constraint_range c k = (constraint_at c k).range

abbrev pub candidate_variables : Catalogue → List Origin → ℕ → List ℕ
candidate_variables c vs q = map (part_variable vs) (candidates c (goal_at c q))

-- each rule's clauses, in logic: ¬ is "not", ∨ is "or"
pub data Called (c : Catalogue) (o : Opening) (vs : List Origin) : Clause → Type 0 where
  -- root
  installed : Called c o vs install
  -- ¬part
  unknown_part : {p : ℕ} → part p ∈ o.owners → (part_at c p).unknown ≡ true → Called c o vs (excluded (part_variable vs p) p unknown_dependencies)
  -- ¬part
  excluded_part : {n p : ℕ} → n ∈ o.names → p ∈ excluded_parts c n → Called c o vs (excluded (part_variable vs p) p exclusion)
  -- ¬root ∨ ¬part
  other_than_locked : {n p : ℕ} → n ∈ o.names → p ∈ locked_out c n → Called c o vs (lock (part_variable vs p))
  -- ¬owner ∨ ¬part
  few_non_matching : {w : Owner} {k p : ℕ} → w ∈ o.owners → k ∈ constraints_of c w
      → few (non_matching c (constraint_range c k)) ≡ true → p ∈ non_matching c (constraint_range c k)
      → Called c o vs (constrains (variable_of vs (chosen w)) (part_variable vs p))
  -- ¬part ∨ violation
  part_violates : {w : Owner} {k p : ℕ} → w ∈ o.owners → k ∈ constraints_of c w
      → few (non_matching c (constraint_range c k)) ≡ false → p ∈ non_matching c (constraint_range c k)
      → Called c o vs (aux_out (part_variable vs p) (variable_of vs (violation (constraint_range c k))))
  -- ¬owner ∨ ¬violation
  owner_forbids_violation : {w : Owner} {k : ℕ} → w ∈ o.owners → k ∈ constraints_of c w
      → few (non_matching c (constraint_range c k)) ≡ false
      → Called c o vs (aux_owner (variable_of vs (chosen w)) (variable_of vs (violation (constraint_range c k))))
  -- ¬owner ∨ candidates
  required : {w : Owner} {q : ℕ} → w ∈ o.owners → q ∈ requirements_of c w → shape_of c q ≡ direct
      → Called c o vs (requires (variable_of vs (chosen w)) [] (candidate_variables c vs q))
  -- ¬gate ∨ candidates
  gate_requires : {w : Owner} {q : ℕ} → w ∈ o.owners → q ∈ requirements_of c w → shape_of c q ≡ through_gate
      → Called c o vs (gated (variable_of vs (gate (goal_at c q))) (candidate_variables c vs q))
  -- gate ∨ ¬owner
  owner_needs_gate : {w : Owner} {q : ℕ} → w ∈ o.owners → q ∈ requirements_of c w → shape_of c q ≡ through_gate
      → Called c o vs (any_gate (variable_of vs (gate (goal_at c q))) (variable_of vs (chosen w)))
  -- ¬owner ∨ condition literals ∨ candidates
  fired_requires : {w : Owner} {q i : ℕ} → w ∈ o.owners → q ∈ requirements_of c w → shape_of c q ≡ on_firing → (q, i) ∈ o.fired
      → Called c o vs (requires (variable_of vs (chosen w)) (disjunct_literals c vs (disjunct_at c q i)) (candidate_variables c vs q))
  -- ¬(tracked part i) ∨ helper j agrees with bit j of i
  bit_agrees : (n i j : ℕ) → i < length (tracked_of c n o.tracked) → j < helpers_for (length (tracked_of c n o.tracked))
      → Called c o vs (agrees (part_variable vs (get_or (tracked_of c n o.tracked) i 0)) (variable_of vs (Origin.forbid n j)) (bit j i))
  -- one-of-name ∨ ¬(tracked part)
  part_is_one : {n p : ℕ} → NeedsOne c o n → p ∈ tracked_of c n o.tracked → Called c o vs (any_one (variable_of vs (one n)) (part_variable vs p))
