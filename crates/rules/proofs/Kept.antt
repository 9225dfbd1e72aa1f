-- The test `keeps` passes exactly where P keeps every sentence of demand 3.
use mathlib.Core.Path.{◌≡◌, refl, ap}
use mathlib.Core.Logic.{◌↔◌, ◌⊎◌, inl, inr}
use mathlib.Core.Bool.{Bool, true, false, not, ◌&&◌, ◌||◌, false≢true}
use mathlib.Core.List.Memᴰ
use mathlib.Core.List.{List, [], ◌∷◌}
use mathlib.Core.Option.{Option, none, some}
use Prim.Native.Nat.{ℕ, ◌<◌, ◌≤◌, zero-le}
use native.Mathlib.Nat.{zero-add}
use borrow.Author.Tests.{leb-true, le-leb, eqb-true, eq-eqb, not-true}
use Rattle.rules.specs.Lists.{any, all, count, up_to}
use Rattle.rules.specs.Catalogue.{Owner, root, part, Catalogue, part_at, range_name, goal_at, condition_at, unknown_owner}
use Rattle.rules.specs.Candidates.{non_matching, candidates, requirements_of, constraints_of, locked_out, excluded_parts}
use Rattle.rules.specs.Conditions.{disjunct_at}
use Rattle.rules.specs.Opening.{Opening, tracked_of}
use Rattle.rules.specs.Called.{◌∈◌, constraint_range}
use Rattle.rules.specs.Keeps.{Parts, most, chosen_in, Has, Lacks, Unmet, another, none_of_name, Keeps, none_in, name_kept, exclusions_kept, lock_kept, unknown_kept, constraint_kept, range_unmet, has_candidate, disjunct_kept, fired_of, requirement_kept_by, requirement_kept, owner_kept, keeps}
use Rattle.rules.proofs.Bools.{and_left, and_right, and_both}
use Rattle.rules.proofs.Member.{not_one, implies_out, implies_in, all_out, all_in, any_out, any_in, none_out, none_in_law, filter_out, filter_in, up_to_out, up_to_in}

-- ---- tests that say the same as a sentence

infix 2 ◌says◌
abbrev ◌says◌ : Bool → Type 0 → Type 0
b says A = (b ≡ true) ↔ A

both : {a b : Bool} {A B : Type 0} → a says A → b says B → (a && b) says (A × B)
both {a} {b} f g = (λ e. (f.0 (and_left a b e), g.0 (and_right a b e)), λ p. and_both a b (f.1 p.0) (g.1 p.1))

either : {a b : Bool} {A B : Type 0} → a says A → b says B → (a || b) says (A ⊎ B)
either {a} {b} {A} {B} f g = (out a f, into a f)
  where
    out : (a : Bool) → a says A → (a || b) ≡ true → A ⊎ B
    out true f e = inl (f.0 e)
    out false f e = inr (g.0 e)

    into : (a : Bool) → a says A → A ⊎ B → (a || b) ≡ true
    into true f h = refl
    into false f (inl h) = absurd (false≢true (f.1 h))
    into false f (inr h) = g.1 h

if_so : {a b : Bool} {A B : Type 0} → a says A → b says B → (not a || b) says (A → B)
if_so {a} {b} f g = (λ e h. g.0 (implies_out a b e (f.1 h)), λ h. implies_in a b (λ e. g.1 (h (f.0 e))))

each : {A : Type 0} {f : A → Bool} {Q : A → Type 0} → ((x : A) → f x says Q x) → (xs : List A) → all f xs says ((x : A) → x ∈ xs → Q x)
each {A} {f} g xs = (λ e x m. (g x).0 (all_out f xs e x m), λ h. all_in f xs (λ x m. (g x).1 (h x m)))

some_of : {A : Type 0} {f : A → Bool} {Q : A → Type 0} → ((x : A) → f x says Q x) → (xs : List A) → any f xs says ((x : A) × (x ∈ xs) × Q x)
some_of {A} {f} g xs = (λ e. let r = any_out f xs e in (r.0, r.1, (g r.0).0 r.2), λ r. any_in f xs r.0 r.1 ((g r.0).1 r.2))

not_both : (a b : Bool) → not (a && b) says (a ≡ true → b ≡ false)
not_both true b = (λ e _. not-true b e, λ h. ap not (h refl))
not_both false b = (λ e h. absurd (false≢true h), λ h. refl)

same : {b : Bool} {A B : Type 0} → b says A → A ↔ B → b says B
same f g = (λ e. g.0 (f.0 e), λ h. f.1 (g.1 h))

below : (k : ℕ) {Q : ℕ → Type 0} → ((n : ℕ) → n ∈ up_to 0 k → Q n) ↔ ((n : ℕ) → n < k → Q n)
below k = (λ h n l. h n (up_to_in 0 k n zero-le (rw zero-add l)), λ h n m. h n (rw zero-add at (up_to_out 0 k n m).1))

module _ (c : Catalogue) (o : Opening) (P : Parts) where
  has : (ps : List ℕ) → any P ps says Has P ps
  has ps = some_of (λ p. (λ e. e, λ e. e)) ps

  lacks : (ps : List ℕ) → none_in c o P ps says Lacks P ps
  lacks ps = (λ e. none_out P ps (not-true (any P ps) e), λ h. ap not (none_in_law P ps h))

  name_kept_law : (n : ℕ) → name_kept c o P n says count P (tracked_of c n o.tracked) ≤ most n
  unfolding name_kept
  name_kept_law n = (leb-true _ _, le-leb _ _)

  exclusions_kept_law : (n : ℕ) → exclusions_kept c o P n says Lacks P (excluded_parts c n)
  unfolding exclusions_kept
  exclusions_kept_law n = lacks (excluded_parts c n)

  lock_kept_law : (n : ℕ) → lock_kept c o P n says Lacks P (locked_out c n)
  unfolding lock_kept
  lock_kept_law n = lacks (locked_out c n)

  unknown_kept_law : (w : Owner) → unknown_kept c o P w says (unknown_owner c w ≡ true → chosen_in P w ≡ false)
  unfolding unknown_kept
  unknown_kept_law w = not_both _ _

  -- the root has no unknown dependencies
  unknown_parts : (ws : List Owner) → ((w : Owner) → w ∈ ws → unknown_owner c w ≡ true → chosen_in P w ≡ false)
      ↔ ((p : ℕ) → part p ∈ ws → (part_at c p).unknown ≡ true → P p ≡ false)
  unfolding unknown_owner
  unknown_parts ws = (λ h p. h (part p), into)
    where
      into : ((p : ℕ) → part p ∈ ws → (part_at c p).unknown ≡ true → P p ≡ false) → (w : Owner) → w ∈ ws → unknown_owner c w ≡ true → chosen_in P w ≡ false
      into h root m e = absurd (false≢true e)
      into h (part p) m e = h p m e

  -- ---- requirements

  range_unmet_law : (r : ℕ) → range_unmet c o P (range_name c r) (non_matching c r) says Unmet c o P r
  unfolding range_unmet
  range_unmet_law r = go (non_matching c r) refl
    where
      go : (ps : List ℕ) → non_matching c r ≡ ps → range_unmet c o P (range_name c r) ps says Unmet c o P r
      go [] e = (λ t. none_of_name e ((lacks _).0 t), into)
        where
          into : Unmet c o P r → none_in c o P (tracked_of c (range_name c r) o.tracked) ≡ true
          into (another h) = absurd (Memᴰ.not-nil (rw e at h.1))
          into (none_of_name _ h) = (lacks _).1 h
      go (p ∷ ps) e = (λ t. another (rw e ((has (p ∷ ps)).0 t)), into)
        where
          into : Unmet c o P r → any P (p ∷ ps) ≡ true
          into (another h) = (has (p ∷ ps)).1 (rw e at h)
          into (none_of_name e' _) = absurd (not_one (cc (e, e')))

  abbrev Disjunct : ℕ → ℕ → Type 0
  Disjunct q i = Has P (candidates c (goal_at c q)) ⊎ ((r : ℕ) × (r ∈ disjunct_at c q i) × Unmet c o P r)

  disjunct_kept_law : (q i : ℕ) → disjunct_kept c o P q i says Disjunct q i
  unfolding disjunct_kept has_candidate
  disjunct_kept_law q i = either (has _) (some_of range_unmet_law (disjunct_at c q i))

  -- the fired disjuncts of a record
  fired_of_law : (q : ℕ) {Q : ℕ → Type 0} → ((e : ℕ × ℕ) → e ∈ fired_of c o P q → Q e.1) ↔ ((i : ℕ) → (q, i) ∈ o.fired → Q i)
  unfolding fired_of
  fired_of_law q = (
    λ h i m. h (q, i) (filter_in _ o.fired (q, i) m (eq-eqb q q refl)),
    λ h e m. let r = filter_out _ o.fired e m in h e.1 (rw (← (eqb-true e.0 q r.1)) r.0),
  )

  -- of an unconditional requirement, and of a conditional one
  abbrev Requirement : Option ℕ → ℕ → Type 0
  Requirement x q = (x ≡ none → Has P (candidates c (goal_at c q))) × ((k : ℕ) → x ≡ some k → (i : ℕ) → (q, i) ∈ o.fired → Disjunct q i)

  requirement_kept_law : (q : ℕ) → requirement_kept c o P q says Requirement (condition_at c q) q
  unfolding requirement_kept requirement_kept_by has_candidate
  requirement_kept_law q = go (condition_at c q)
    where
      go : (x : Option ℕ) → requirement_kept_by c o P x q says Requirement x q
      go none = same (has _) (λ h. (λ _. h, λ k e. absurd (not_one (cc))), λ h. h.0 refl)
      go (some k) = same (same (each (λ e. disjunct_kept_law q e.1) _) (fired_of_law q {Q = Disjunct q})) (λ h. (λ e. absurd (not_one (cc)), λ _ _. h), λ h. h.1 k refl)

  -- ---- owners, and the whole

  owner_kept_law : (w : Owner) → owner_kept c o P w says
      (chosen_in P w ≡ true → ((k : ℕ) → k ∈ constraints_of c w → Lacks P (non_matching c (constraint_range c k)))
      × ((q : ℕ) → q ∈ requirements_of c w → Requirement (condition_at c q) q))
  unfolding owner_kept constraint_kept
  owner_kept_law w = if_so (λ e. e, λ e. e) (both (each (λ k. lacks _) _) (each requirement_kept_law _))

  pub keeps_same : (keeps c o P ≡ true) ↔ Keeps c o P
  unfolding keeps
  keeps_same =
      same (both (same (each name_kept_law _) (below _)) (both (each exclusions_kept_law _) (both (each lock_kept_law _)
      (both (same (each unknown_kept_law _) (unknown_parts _)) (each owner_kept_law _))))) (
        λ s.
            let owners = s.1.1.1.1 in
            record {
              names = s.0;
              exclusions = s.1.0;
              locks = s.1.1.0;
              unknowns = s.1.1.1.0;
              constraints = λ w m h. (owners w m h).0;
              unconditional = λ w m h q i. ((owners w m h).1 q i).0;
              conditional = λ w m h q i. ((owners w m h).1 q i).1;
            },
        λ s. (s.names, (s.exclusions, (s.locks, (s.unknowns, λ w m h. (s.constraints w m h, λ q i. (s.unconditional w m h q i, s.conditional w m h q i)))))),
      )
