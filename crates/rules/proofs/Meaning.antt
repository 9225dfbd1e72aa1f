-- What the clauses mean: where the stored clauses are exactly those that the opening calls for, values that agree with P and make every one
-- of them true exist exactly where P keeps every sentence of demand 3. It knows no task line, decision or number of a variable.
use mathlib.Core.Path.{◌≡◌, refl, sym, ◌∙◌, ap}
use mathlib.Core.Logic.{◌↔◌, ◌⊎◌, inl, inr, ⊎_elim}
use mathlib.Core.Bool.{Bool, true, false, not, ◌&&◌, ◌||◌, cond, or-true, or-false, or_assoc}
use mathlib.Core.List.Memᴰ
use mathlib.Core.List.{List, [], ◌∷◌, ◌++◌, map, map-map}
use mathlib.Core.Option.{Option, none, some}
use Prim.Native.Nat.{ℕ, zero, suc, ◌^◌, ◌<◌, ◌≤◌, zero-le}
use native.Mathlib.Omega.{arith}
use lib.Pow.{pow_pos}
use lib.ListN.{length, get_or}
use borrow.Author.Tests.{ltb-false, eqb-true}
use Rattle.rules.specs.Lists.{any, all, count, index_of, concat_map}
use Rattle.rules.specs.Literal.{Literal, pos, neg}
use Rattle.rules.specs.Clause.{Clause, literals}
use Rattle.rules.specs.Truth.{Values, literal_true, clause_true, all_true}
use Rattle.rules.specs.AtMostOne.{bit, helpers_after, helpers_for}
use Rattle.rules.specs.Catalogue.{Owner, root, part, Catalogue, name_of, range_name, owner_at, goal_at, condition_at}
use Rattle.rules.specs.Candidates.{non_matching, candidates, requirements_of, constraints_of, locked_out}
use Rattle.rules.specs.Conditions.{disjunct_at}
use Rattle.rules.specs.Variables.{Origin, chosen, forbid, one, violation, gate, same_origin, known, variable_of, part_variable}
use Rattle.rules.specs.Opening.{Opening, tracked_of}
use Rattle.rules.specs.Encoding.{Shape, direct, through_gate, on_firing, shape_by, shape, shape_of, few, range_literals, disjunct_literals}
use Rattle.rules.specs.Called.{◌∈◌, NeedsOne, constraint_range, Called, installed, unknown_part, excluded_part, other_than_locked, few_non_matching, part_violates, owner_forbids_violation, required, gate_requires, owner_needs_gate, fired_requires, bit_agrees, part_is_one}
use Rattle.rules.specs.Keeps.{Parts, most, chosen_in, Has, Lacks, Unmet, another, none_of_name, Keeps, Agrees, Satisfiable}
use Rattle.rules.proofs.Bools.{agree_out, agree_in}
use Rattle.rules.proofs.Bits.{bits_same}
use Rattle.rules.proofs.Places.{stands}
use Rattle.rules.proofs.Member.{not_one, contrary, implies_out, implies_in, all_out, all_in, any_out, any_in, none_in_law, filter_out, concat_in, index_any, at_member, count_one, index_one}

-- The stored clauses are those that the opening calls for, and each of their literals has its variable. A job has yet to give all five;
-- the last two should come from `start` (variable 0 is the root) and from refusal 4 (a part's name is given earlier).
pub record Encodes (c : Catalogue) (o : Opening) (vs : List Origin) (ks : List Clause) : Type 0 where
  pub stored : (k : Clause) → k ∈ ks → Called c o vs k
  pub called : (k : Clause) → Called c o vs k → k ∈ ks
  pub below : (k : Clause) → k ∈ ks → (l : Literal) → l ∈ literals k → l.variable < length vs
  pub root_first : get_or vs 0 (chosen root) ≡ chosen root
  pub names_below : (p : ℕ) → p ∈ o.tracked → name_of c p < length c.names

-- ---- clauses, and their literals in part

module _ (v : Values) where
  pub clause_append : (ks ls : List Literal) → clause_true v (ks ++ ls) ≡ (clause_true v ks || clause_true v ls)
  clause_append [] ls = refl
  clause_append (k ∷ ks) ls = ap (λ b. literal_true v k || b) (clause_append ks ls) ∙ sym (or_assoc (literal_true v k) _ _)

  pub clause_concat : {A : Type 0} (f : A → List Literal) (xs : List A) → clause_true v (concat_map f xs) ≡ any (λ x. clause_true v (f x)) xs
  unfolding concat_map any
  clause_concat f [] = refl
  clause_concat f (x ∷ xs) = clause_append (f x) (concat_map f xs) ∙ ap (λ b. clause_true v (f x) || b) (clause_concat f xs)

  clauses_all : (ks : List Clause) → all_true v (map literals ks) ≡ all (λ k. clause_true v (literals k)) ks
  unfolding all
  clauses_all [] = refl
  clauses_all (k ∷ ks) = ap (λ b. clause_true v (literals k) && b) (clauses_all ks)

  pub clauses_out : (ks : List Clause) → all_true v (map literals ks) ≡ true → (k : Clause) → k ∈ ks → clause_true v (literals k) ≡ true
  clauses_out ks e = all_out _ ks (sym (clauses_all ks) ∙ e)

  pub clauses_in_law : (ks : List Clause) → ((k : Clause) → k ∈ ks → clause_true v (literals k) ≡ true) → all_true v (map literals ks) ≡ true
  clauses_in_law ks h = clauses_all ks ∙ all_in _ ks h

abbrev signed : Bool → ℕ → Literal
signed b x = record { variable = x; positive = b }

-- every literal of a clause, or of a part of one, has its variable
record Low (vs : List Origin) (ls : List Literal) : Type 0 where
  below : (l : Literal) → l ∈ ls → l.variable < length vs

low_tail : {vs : List Origin} {k : Literal} {ls : List Literal} → Low vs (k ∷ ls) → Low vs ls
low_tail low = record { below = λ l m. low.below l (Memᴰ.tail m) }

low_left : {vs : List Origin} (ks ls : List Literal) → Low vs (ks ++ ls) → Low vs ks
low_left ks ls low = record { below = λ l m. low.below l (Memᴰ.append_left ls m) }

low_right : {vs : List Origin} (ks ls : List Literal) → Low vs (ks ++ ls) → Low vs ls
low_right ks ls low = record { below = λ l m. low.below l (Memᴰ.append_right ks m) }

low_concat : {vs : List Origin} {A : Type 0} (f : A → List Literal) (xs : List A) (x : A) → Low vs (concat_map f xs) → x ∈ xs → Low vs (f x)
low_concat f xs x low m = record { below = λ l i. low.below l (concat_in f xs x l m i) }

or_out : (a b : Bool) → (a || b) ≡ true → (a ≡ true) ⊎ (b ≡ true)
or_out true b e = inl refl
or_out false b e = inr e

-- "not x"
unit_out : (a : Bool) → (not a || false) ≡ true → a ≡ false
unit_out true e = sym e
unit_out false e = refl

-- "p, or not q"
back_out : (p q : Bool) → (p || (not q || false)) ≡ true → q ≡ true → p ≡ true
back_out true q e h = refl
back_out false true e h = e
back_out false false e h = h

back_in : (p q : Bool) → (q ≡ true → p ≡ true) → (p || (not q || false)) ≡ true
back_in true q f = refl
back_in false true f = f refl
back_in false false f = refl

-- ---- variables, shapes, helpers

variable_stands : (vs : List Origin) (x : Origin) → variable_of vs x < length vs → get_or vs (variable_of vs x) (chosen root) ≡ x
unfolding variable_of known
variable_stands vs x l = (stands vs x (chosen root) (index_any (same_origin x) vs l)).1

-- only a conditional requirement waits for its firing
shape_fires : (k : ℕ) (w : Owner) (n : ℕ) → shape (some k) w n ≡ on_firing
unfolding shape
shape_fires k w n = refl

shape_by_unfired : (b : Bool) → shape_by b ≡ on_firing → ◌≡◌ {A = ℕ} 0 1
unfolding shape_by
shape_by_unfired true e = cc
shape_by_unfired false e = cc

shape_some : (x : Option ℕ) (w : Owner) (n : ℕ) → shape x w n ≡ on_firing → (k : ℕ) × (x ≡ some k)
unfolding shape
shape_some none root n e = absurd (not_one (cc))
shape_some none (part p) n e = absurd (not_one (shape_by_unfired _ e))
shape_some (some k) w n e = (k, refl)

shape_none : (x : Option ℕ) (w : Owner) (n : ℕ) → (shape x w n ≡ on_firing → ◌≡◌ {A = ℕ} 0 1) → x ≡ none
shape_none none w n h = refl
shape_none (some k) w n h = absurd (not_one (h (shape_fires k w n)))

module _ (c : Catalogue) (q : ℕ) where
  fires_conditional : (k : ℕ) → condition_at c q ≡ some k → shape_of c q ≡ on_firing
  fires_conditional k e = rw e (shape_fires k (owner_at c q) _)

  conditional_fires : shape_of c q ≡ on_firing → (k : ℕ) × (condition_at c q ≡ some k)
  conditional_fires e = shape_some (condition_at c q) (owner_at c q) _ e

  unfired : (shape_of c q ≡ on_firing → ◌≡◌ {A = ℕ} 0 1) → condition_at c q ≡ none
  unfired h = shape_none (condition_at c q) (owner_at c q) _ h

helpers_cover : (k : ℕ) → k ≤ 2 ^ helpers_for k
unfolding helpers_for helpers_after
helpers_cover zero = zero-le
helpers_cover (suc k) = go (helpers_for k) _ (λ e. ltb-false _ _ e) (helpers_cover k)
  where
    go : (h : ℕ) (b : Bool) → (b ≡ false → suc k ≤ 2 ^ h) → k ≤ 2 ^ h → suc k ≤ 2 ^ cond b (suc h) h
    go h true f l = let doubled : suc k ≤ 2 ^ suc h = omega (arith, pow_pos h) in doubled
    go h false f l = f refl

-- ---- values that agree with P

record Fits (vs : List Origin) (P : Parts) (v : Values) : Type 0 where
  owner_is_law : (w : Owner) → variable_of vs (chosen w) < length vs → v (variable_of vs (chosen w)) ≡ chosen_in P w

fits : (vs : List Origin) (P : Parts) (v : Values) → ((x : ℕ) → x < length vs → Agrees P (get_or vs x (chosen root)) (v x)) → Fits vs P v
fits vs P v a = record { owner_is_law = λ w l. go w (v (variable_of vs (chosen w))) (rw (variable_stands vs (chosen w) l) at (a (variable_of vs (chosen w)) l)) }
  where
    go : (w : Owner) (b : Bool) → Agrees P (chosen w) b → b ≡ chosen_in P w
    go root b h = h
    go (part p) b h = h

parts_are : {vs : List Origin} {P : Parts} {v : Values} → Fits vs P v → (ps : List ℕ) → Low vs (map pos (map (part_variable vs) ps))
    → clause_true v (map pos (map (part_variable vs) ps)) ≡ any P ps
unfolding any
parts_are f [] low = refl
parts_are f (p ∷ ps) low = rw (f.owner_is_law (part p) (low.below _ (Memᴰ.head refl)), parts_are f ps (low_tail low))

range_parts : (c : Catalogue) (vs : List Origin) (n p : ℕ) (ps : List ℕ) → range_literals vs n (p ∷ ps) ≡ map pos (map (part_variable vs) (p ∷ ps))
unfolding range_literals
range_parts c vs n p ps = sym (map-map pos (part_variable vs) (p ∷ ps))

-- ---- from the clauses to the sentences

-- a clause, or a part of one, with its variables, that v makes true
record Holds (vs : List Origin) (v : Values) (ls : List Literal) : Type 0 where
  low : Low vs ls
  holds : clause_true v ls ≡ true

module _ {vs : List Origin} {v : Values} where
  holds_tail : {x : ℕ} {ls : List Literal} → Holds vs v (neg x ∷ ls) → v x ≡ true → Holds vs v ls
  holds_tail {x} {ls} h t = record { low = low_tail h.low; holds = implies_out (v x) (clause_true v ls) h.holds t }

  holds_append : (ks ls : List Literal) → Holds vs v (ks ++ ls) → Holds vs v ks ⊎ Holds vs v ls
  holds_append ks ls h =
      ⊎_elim (λ e. inl (record { low = low_left ks ls h.low; holds = e })) (λ e. inr (record { low = low_right ks ls h.low; holds = e }))
      (or_out (clause_true v ks) (clause_true v ls) (sym (clause_append v ks ls) ∙ h.holds))

  holds_concat : {A : Type 0} (f : A → List Literal) (xs : List A) → Holds vs v (concat_map f xs) → (x : A) × (x ∈ xs) × Holds vs v (f x)
  holds_concat f xs h =
      let r = any_out (λ x. clause_true v (f x)) xs (sym (clause_concat v f xs) ∙ h.holds) in
      (r.0, r.1, record { low = low_concat f xs r.0 h.low r.1; holds = r.2 })

module _ {vs : List Origin} {P : Parts} {v : Values} (f : Fits vs P v) where
  first_is : (w : Owner) (ls : List Literal) → Holds vs v (neg (variable_of vs (chosen w)) ∷ ls) → v (variable_of vs (chosen w)) ≡ chosen_in P w
  first_is w ls h = f.owner_is_law w (h.low.below _ (Memᴰ.head refl))

  -- "not w, or .."
  owner_out : (w : Owner) (ls : List Literal) → Holds vs v (neg (variable_of vs (chosen w)) ∷ ls) → chosen_in P w ≡ true → Holds vs v ls
  owner_out w ls h t = holds_tail h (first_is w ls h ∙ t)

  -- "not part"
  never : (p : ℕ) → Holds vs v (neg (part_variable vs p) ∷ []) → P p ≡ false
  never p h = sym (first_is (part p) [] h) ∙ unit_out (v (part_variable vs p)) h.holds

  -- "not w, or y has the value b"
  then_out : (w : Owner) (y : ℕ) (b : Bool) → Holds vs v (neg (variable_of vs (chosen w)) ∷ signed b y ∷ []) → chosen_in P w ≡ true → v y ≡ b
  then_out w y b h t = agree_out (v (variable_of vs (chosen w))) (v y) b h.holds (first_is w _ h ∙ t)

  -- "y, or not w"
  cause_out : (w : Owner) (y : ℕ) → Holds vs v (pos y ∷ neg (variable_of vs (chosen w)) ∷ []) → chosen_in P w ≡ true → v y ≡ true
  cause_out w y h t =
      back_out (v y) (v (variable_of vs (chosen w))) h.holds (f.owner_is_law w (h.low.below _ (Memᴰ.tail (Memᴰ.head refl))) ∙ t)

  parts_out : (ps : List ℕ) → Holds vs v (map pos (map (part_variable vs) ps)) → Has P ps
  parts_out ps h = any_out P ps (sym (parts_are f ps h.low) ∙ h.holds)

module _ {c : Catalogue} {o : Opening} {vs : List Origin} {ks : List Clause} (e : Encodes c o vs ks) {P : Parts} {v : Values}
    (f : Fits vs P v) (t : all_true v (map literals ks) ≡ true) where
  stated : {k : Clause} → Called c o vs k → Holds vs v (literals k)
  stated {k} d = record { low = record { below = e.below k (e.called k d) }; holds = clauses_out v ks t k (e.called k d) }

  -- two tracked parts of a name that are both in P have the same bits
  names_out : (n : ℕ) → n < length c.names → count P (tracked_of c n o.tracked) ≤ most n
  unfolding literals
  names_out n _ = count_one P xs same
    where
      xs : List ℕ
      xs = tracked_of c n o.tracked

      bit_out : (i j : ℕ) → i < length xs → j < helpers_for (length xs) → P (get_or xs i 0) ≡ true → v (variable_of vs (forbid n j)) ≡ bit j i
      bit_out i j li lj h = then_out f (part (get_or xs i 0)) _ (bit j i) (stated (bit_agrees n i j li lj)) h

      same : (i j : ℕ) → i < length xs → j < length xs → P (get_or xs i 0) ≡ true → P (get_or xs j 0) ≡ true → i ≡ j
      same i j li lj hi hj =
          let h = helpers_cover (length xs) in
          bits_same (helpers_for (length xs)) i j (omega arith) (omega arith) (λ b lb. sym (bit_out i b li lb hi) ∙ bit_out j b lj lb hj)

  locks_out : (n : ℕ) → n ∈ o.names → Lacks P (locked_out c n)
  unfolding literals
  locks_out n m p h =
      let root_true : v 0 ≡ true = sym (or-false (v 0)) ∙ (stated installed).holds in
      never f p (holds_tail (stated (other_than_locked m h)) root_true)

  constraints_out : (w : Owner) → w ∈ o.owners → chosen_in P w ≡ true → (k : ℕ) → k ∈ constraints_of c w → Lacks P (non_matching c (constraint_range c k))
  unfolding literals
  constraints_out w m hw k hk p hp = go (few (non_matching c (constraint_range c k))) refl
    where
      y : ℕ
      y = variable_of vs (violation (constraint_range c k))

      go : (b : Bool) → few (non_matching c (constraint_range c k)) ≡ b → P p ≡ false
      go true s = never f p (owner_out f w _ (stated (few_non_matching m hk s hp)) hw)
      go false s =
          contrary (P p) (v y) (then_out f (part p) y true (stated (part_violates m hk s hp))) (then_out f w y false (stated (owner_forbids_violation m hk s)) hw)

  unconditional_out : (w : Owner) → w ∈ o.owners → chosen_in P w ≡ true → (q : ℕ) → q ∈ requirements_of c w → condition_at c q ≡ none
      → Has P (candidates c (goal_at c q))
  unfolding literals
  unconditional_out w m hw q hq no_condition_law = go (shape_of c q) refl
    where
      go : (s : Shape) → shape_of c q ≡ s → Has P (candidates c (goal_at c q))
      go direct s = parts_out f _ (owner_out f w _ (stated (required m hq s)) hw)
      go through_gate s = parts_out f _ (holds_tail (stated (gate_requires m hq s)) (cause_out f w _ (stated (owner_needs_gate m hq s)) hw))
      go on_firing s = let k = conditional_fires c q s in absurd (not_one (cc (k.1, no_condition_law)))

  -- "not one-of-name" leaves out every tracked part of the name
  one_out : (n : ℕ) → NeedsOne c o n → v (variable_of vs (one n)) ≡ false → Lacks P (tracked_of c n o.tracked)
  unfolding literals
  one_out n needs h p m = contrary (P p) _ (cause_out f (part p) (variable_of vs (one n)) (stated (part_is_one needs m))) h

  range_out : (q i r : ℕ) → (q, i) ∈ o.fired → r ∈ disjunct_at c q i → Holds vs v (range_literals vs (range_name c r) (non_matching c r)) → Unmet c o P r
  range_out q i r fired m h = go (non_matching c r) refl h
    where
      go : (ps : List ℕ) → non_matching c r ≡ ps → Holds vs v (range_literals vs (range_name c r) ps) → Unmet c o P r
      go [] e h =
          none_of_name e (one_out (range_name c r)
          (record { requirement = q; index = i; range = r; fired = fired; in_disjunct = m; of_name_law = refl; none_else = e })
          (unit_out _ (unfold range_literals in h.holds)))
      go (p ∷ ps) e h = another (rw e (parts_out f (p ∷ ps) (rw range_parts at h)))

  conditional_out : (w : Owner) → w ∈ o.owners → chosen_in P w ≡ true → (q : ℕ) → q ∈ requirements_of c w → (k : ℕ) → condition_at c q ≡ some k
      → (i : ℕ) → (q, i) ∈ o.fired → Has P (candidates c (goal_at c q)) ⊎ ((r : ℕ) × (r ∈ disjunct_at c q i) × Unmet c o P r)
  unfolding literals disjunct_literals
  conditional_out w m hw q hq k condition i fired =
      ⊎_elim (λ h. inr (unmet h)) (λ h. inl (parts_out f _ h))
      (holds_append (disjunct_literals c vs (disjunct_at c q i)) _ (owner_out f w _ (stated (fired_requires m hq (fires_conditional c q k condition) fired)) hw))
    where
      unmet : Holds vs v (disjunct_literals c vs (disjunct_at c q i)) → (r : ℕ) × (r ∈ disjunct_at c q i) × Unmet c o P r
      unmet h = let r = holds_concat _ (disjunct_at c q i) h in (r.0, r.1, range_out q i r.0 fired r.1 r.2)

  kept : Keeps c o P
  unfolding literals
  kept =
      record {
        names = names_out;
        exclusions = λ n m p h. never f p (stated (excluded_part m h));
        locks = locks_out;
        unknowns = λ p m h. never f p (stated (unknown_part m h));
        constraints = constraints_out;
        unconditional = unconditional_out;
        conditional = conditional_out;
      }

-- ---- from the sentences to the clauses

module _ (c : Catalogue) (o : Opening) (P : Parts) where
  -- a helper's value depends on its range, goal or name and on P, never on an owner
  value : Origin → Bool
  value (chosen w) = chosen_in P w
  value (forbid n j) = bit j (index_of P (tracked_of c n o.tracked))
  value (one n) = any P (tracked_of c n o.tracked)
  value (violation r) = any P (non_matching c r)
  value (gate g) = any P (candidates c g)

  values : List Origin → Values
  values vs x = value (get_or vs x (chosen root))

  values_agree : (vs : List Origin) (x : ℕ) → x < length vs → Agrees P (get_or vs x (chosen root)) (values vs x)
  unfolding values value
  values_agree vs x _ = go (get_or vs x (chosen root))
    where
      go : (y : Origin) → Agrees P y (value y)
      go (chosen root) = refl
      go (chosen (part p)) = refl
      go (forbid n j) = tt
      go (one n) = tt
      go (violation r) = tt
      go (gate g) = tt

  module _ (vs : List Origin) where
    abbrev v : Values
    v = values vs

    value_is : (x : Origin) → variable_of vs x < length vs → v (variable_of vs x) ≡ value x
    unfolding values
    value_is x l = ap value (variable_stands vs x l)

    -- "not x"
    unit_in : (x : Origin) → Low vs (neg (variable_of vs x) ∷ []) → value x ≡ false → clause_true v (neg (variable_of vs x) ∷ []) ≡ true
    unit_in x low h = rw (value_is x (low.below _ (Memᴰ.head refl)), h)

    -- "not x, or y has the value b"
    then_in : (x y : Origin) (b : Bool) → Low vs (neg (variable_of vs x) ∷ signed b (variable_of vs y) ∷ []) → (value x ≡ true → value y ≡ b)
        → clause_true v (neg (variable_of vs x) ∷ signed b (variable_of vs y) ∷ []) ≡ true
    then_in x y b low h =
        rw (value_is x (low.below _ (Memᴰ.head refl)), value_is y (low.below _ (Memᴰ.tail (Memᴰ.head refl)))) (agree_in (value x) (value y) b h)

    -- "y, or not x"
    cause_in : (x y : Origin) → Low vs (pos (variable_of vs y) ∷ neg (variable_of vs x) ∷ []) → (value x ≡ true → value y ≡ true)
        → clause_true v (pos (variable_of vs y) ∷ neg (variable_of vs x) ∷ []) ≡ true
    cause_in x y low h =
        rw (value_is y (low.below _ (Memᴰ.head refl)), value_is x (low.below _ (Memᴰ.tail (Memᴰ.head refl)))) (back_in (value y) (value x) h)

    -- "not x, or some of these"
    some_in : (x : Origin) (ls : List Literal) → Low vs (neg (variable_of vs x) ∷ ls) → (value x ≡ true → Low vs ls → clause_true v ls ≡ true)
        → clause_true v (neg (variable_of vs x) ∷ ls) ≡ true
    some_in x ls low h = rw (value_is x (low.below _ (Memᴰ.head refl))) (implies_in (value x) (clause_true v ls) (λ t. h t (low_tail low)))

    has_in : {ps : List ℕ} → Has P ps → any P ps ≡ true
    has_in {ps} h = any_in P ps h.0 h.1 h.2

    parts_in : (ps : List ℕ) → Has P ps → Low vs (map pos (map (part_variable vs) ps)) → clause_true v (map pos (map (part_variable vs) ps)) ≡ true
    parts_in ps h low = parts_are (fits vs P v (values_agree vs)) ps low ∙ has_in h

    range_in : (r : ℕ) → Unmet c o P r → Low vs (range_literals vs (range_name c r) (non_matching c r))
        → clause_true v (range_literals vs (range_name c r) (non_matching c r)) ≡ true
    unfolding value
    range_in r u low = go (non_matching c r) refl u low
      where
        go : (ps : List ℕ) → non_matching c r ≡ ps → Unmet c o P r → Low vs (range_literals vs (range_name c r) ps)
            → clause_true v (range_literals vs (range_name c r) ps) ≡ true
        go [] e (another h) low = absurd (Memᴰ.not-nil (rw e at h.1))
        go [] e (none_of_name _ h) low = unfold range_literals in unit_in (one (range_name c r)) low (none_in_law P _ h)
        go (p ∷ ps) e (another h) low = rw range_parts (parts_in (p ∷ ps) (rw e at h) (rw range_parts at low))
        go (p ∷ ps) e (none_of_name e' _) low = absurd (not_one (cc (e, e')))

    disjunct_in : (d : List ℕ) (r : ℕ) → r ∈ d → Unmet c o P r → Low vs (disjunct_literals c vs d) → clause_true v (disjunct_literals c vs d) ≡ true
    unfolding disjunct_literals
    disjunct_in d r m u low = clause_concat v _ d ∙ any_in _ d r m (range_in r u (low_concat _ d r low m))

    requires_in : (ps d : List ℕ) → Has P ps ⊎ ((r : ℕ) × (r ∈ d) × Unmet c o P r) → Low vs (disjunct_literals c vs d ++ map pos (map (part_variable vs) ps))
        → clause_true v (disjunct_literals c vs d ++ map pos (map (part_variable vs) ps)) ≡ true
    requires_in ps d h low =
        let ks = disjunct_literals c vs d in
        let ls = map pos (map (part_variable vs) ps) in
        clause_append v ks ls ∙ ⊎_elim
        (λ a. ap (λ b. clause_true v ks || b) (parts_in ps a (low_right ks ls low)) ∙ or-true (clause_true v ks))
        (λ u. ap (λ b. b || clause_true v ls) (disjunct_in d u.0 u.1 u.2 (low_left ks ls low))) h

    module _ {ks : List Clause} (e : Encodes c o vs ks) (s : Keeps c o P) where
      root_true : v 0 ≡ true
      unfolding values value
      root_true = rw e.root_first

      -- the one tracked part of a name that is in P, if any, has its number in the helpers
      bit_in : (n i j : ℕ) → i < length (tracked_of c n o.tracked) → P (get_or (tracked_of c n o.tracked) i 0) ≡ true
          → bit j (index_of P (tracked_of c n o.tracked)) ≡ bit j i
      unfolding tracked_of
      bit_in n i j l h =
          let xs = tracked_of c n o.tracked in
          let m = filter_out _ o.tracked (get_or xs i 0) (at_member xs i 0 l) in
          let below : n < length c.names = rw (eqb-true _ n m.1) at (e.names_below _ m.0) in
          ap (bit j) (index_one P xs (s.names n below) i l h)

      called_true : {k : Clause} → Called c o vs k → Low vs (literals k) → clause_true v (literals k) ≡ true
      unfolding literals value
      called_true installed low = rw root_true
      called_true (unknown_part {p} m h) low = unit_in (chosen (part p)) low (s.unknowns p m h)
      called_true (excluded_part {n} {p} m h) low = unit_in (chosen (part p)) low (s.exclusions n m p h)
      called_true (other_than_locked {n} {p} m h) low = rw root_true (unit_in (chosen (part p)) (low_tail low) (s.locks n m p h))
      called_true (few_non_matching {w} {k} {p} m hk _ hp) low = then_in (chosen w) (chosen (part p)) false low (λ hw. s.constraints w m hw k hk p hp)
      called_true (part_violates {p = p} m hk _ hp) low = then_in (chosen (part p)) (violation _) true low (any_in P _ p hp)
      called_true (owner_forbids_violation {w} {k} m hk _) low = then_in (chosen w) (violation _) false low (λ hw. none_in_law P _ (s.constraints w m hw k hk))
      called_true (required {w} {q} m hq shaped) low =
          some_in (chosen w) _ low (λ hw. parts_in _ (s.unconditional w m hw q hq (unfired c q (λ fires. cc (shaped, fires)))))
      called_true (gate_requires {q = q} m hq _) low = some_in (gate (goal_at c q)) _ low (λ h. parts_in _ (any_out P _ h))
      called_true (owner_needs_gate {w} {q} m hq shaped) low =
          cause_in (chosen w) (gate (goal_at c q)) low (λ hw. has_in (s.unconditional w m hw q hq (unfired c q (λ fires. cc (shaped, fires)))))
      called_true (fired_requires {w} {q} {i} m hq shaped fired) low =
          let k = conditional_fires c q shaped in
          some_in (chosen w) _ low (λ hw. requires_in _ (disjunct_at c q i) (s.conditional w m hw q hq k.0 k.1 i fired))
      called_true (bit_agrees n i j li lj) low = then_in (chosen (part _)) (forbid n j) (bit j i) low (bit_in n i j li)
      called_true (part_is_one {n} {p} needs m) low = cause_in (chosen (part p)) (one n) low (any_in P _ p m)

pub meaning : {c : Catalogue} {o : Opening} {vs : List Origin} {ks : List Clause} → Encodes c o vs ks → (P : Parts) → Satisfiable vs ks P ↔ Keeps c o P
meaning {c} {o} {vs} {ks} e P = (
  λ s. kept e (fits vs P s.0 s.1) s.2,
  λ s. (values c o P vs, values_agree c o P vs, clauses_in_law _ ks (λ k m. called_true c o P vs e s (e.stored k m) (record { below = e.below k m }))),
)
