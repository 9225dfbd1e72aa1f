-- Some matching part of a range is decided true exactly where some decision makes one true.
use mathlib.Core.Path.{◌≡◌, refl, sym, ◌∙◌, ap}
use mathlib.Core.Bool.{Bool, true, false, not, ◌&&◌, ◌||◌, false≢true}
use mathlib.Core.List.Memᴰ
use mathlib.Core.List.{List, [], ◌∷◌}
use Prim.Native.Nat.{ℕ, ◌+◌, ◌<◌, ◌≤◌}
use native.Mathlib.Numerals.{add-one}
use native.Mathlib.Omega.{arith}
use lib.Dec.{eqb, ltb}
use lib.ListN.{length, get_or, drop, drop_of_length-le}
use lib.Seq.{drop-cons}
use borrow.Author.Tests.{eqb-true, lt-ltb, le-ltb, ltb-true, not-true, not-false}
use Rattle.rules.specs.Lists.{any, up_to}
use Rattle.rules.specs.Called.{◌∈◌}
use Rattle.rules.specs.Truth.{same}
use Rattle.rules.specs.Literal.{pos}
use Rattle.rules.specs.Catalogue.{root, part, Catalogue}
use Rattle.rules.specs.Candidates.{matching}
use Rattle.rules.specs.Variables.{Origin, chosen, forbid, one, violation, gate, known, part_origin, part_variable}
use Rattle.rules.specs.Decisions.{Decision, decided_as, evaluate, is_satisfied, is_true}
use Rattle.rules.proofs.Bools.{and_left, and_right, and_both, and_false, same_test}
use Rattle.rules.proofs.Member.{any_out, any_in, filter_out, filter_in, up_to_out, up_to_in}
use Rattle.rules.proofs.Places.{stands}
use Rattle.tables.specs.declared.Counts.{Counts}
use Rattle.cache.specs.declared.Choice.TheVariants.{Matching}
use Rattle.cache.specs.Areas.{catalogue}
use Rattle.cache.specs.Lists as cache
use Rattle.cache.proofs.Laws.{parts_held}
use Rattle.cache.proofs.Lists.{matching_is}
use Rattle.variable_map.specs.declared.Origin as code
use Rattle.variable_map.specs.declared.Origin.TheVariants.{Root, Part, Forbid, One, Violation, Gate}
use Rattle.variable_map.specs.Mapping.{origin_of}
use Rattle.decision_tracker.specs.declared.Decision as decided
use Rattle.decision_tracker.specs.Tracking.{no_decision, decision_by, decision_of, decisions}
use Rattle.decision_tracker.proofs.Laws as Laws
use Rattle.goals.specs.Goals.{true_of, of_part, true_match, decides_for}

-- ---- a matching part of a range

module _ (c : Catalogue) (r p : ℕ) where
  matching_out : p ∈ matching c r → (p < length c.parts) × (cache.chosen c r Matching p ≡ true)
  unfolding cache.choice
  matching_out m =
      let q = filter_out (cache.chosen c r Matching) (up_to 0 (length c.parts)) p (rw (matching_is c r) m) in
      (omega (arith, (up_to_out 0 (length c.parts) p q.0).1), q.1)

  matching_in : p < length c.parts → cache.chosen c r Matching p ≡ true → p ∈ matching c r
  unfolding cache.choice
  matching_in h e = rw (← matching_is c r) (filter_in (cache.chosen c r Matching) (up_to 0 (length c.parts)) p (up_to_in 0 (length c.parts) p (omega arith) (omega arith)) e)

-- ---- a variable that is decided true

-- a decision makes it so
decision_of_law : (ds : List Decision) (x : ℕ) → is_true ds x ≡ true → (d : Decision) × (d ∈ ds) × (d.variable ≡ x) × (d.value ≡ true)
unfolding is_true evaluate
decision_of_law [] x e = absurd (false≢true e)
decision_of_law (d ∷ ds) x e = go (eqb x d.variable) refl e (decision_of_law ds x)
  where
    as_true : (b : Bool) (k : ℕ) → is_satisfied (decided_as (same true b) k) ≡ true → b ≡ true
    as_true true k e = refl
    as_true false k e = unfold decided_as in absurd (false≢true e)

    go : (b : Bool) → eqb x d.variable ≡ b → is_satisfied (elim b [ true ↦ decided_as (same true d.value) d.level | false ↦ evaluate ds (pos x) ]) ≡ true
        → (is_satisfied (evaluate ds (pos x)) ≡ true → (d' : Decision) × (d' ∈ ds) × (d'.variable ≡ x) × (d'.value ≡ true))
        → (d' : Decision) × (d' ∈ d ∷ ds) × (d'.variable ≡ x) × (d'.value ≡ true)
    go true q e h = (d, Memᴰ.head refl, sym (eqb-true x d.variable q), as_true d.value d.level e)
    go false q e h = let z = h e in (z.0, Memᴰ.tail z.1, z.2, z.3)

-- ---- the law

part_out : (f : ℕ → Bool) (o : Origin) → of_part f o ≡ true → (p : ℕ) × (f p ≡ true)
unfolding of_part
part_out f (chosen root) e = absurd (false≢true e)
part_out f (chosen (part p)) e = (p, e)
part_out f (forbid n j) e = absurd (false≢true e)
part_out f (one n) e = absurd (false≢true e)
part_out f (violation r) e = absurd (false≢true e)
part_out f (gate g) e = absurd (false≢true e)

part_in : (f : ℕ → Bool) (p : ℕ) → f p ≡ true → of_part f (part_origin p) ≡ true
unfolding of_part
part_in f p e = e

module _ (c : Catalogue) (vs : List Origin) (ds : List Decision) (r : ℕ) where
  match_in : (p : ℕ) → true_match c vs ds r p ≡ true → any (true_of vs ds) (matching c r) ≡ true
  unfolding true_match
  match_in p e =
      let a = ltb p (length c.parts) in
      let b = cache.chosen c r Matching p in
      let below : p < length c.parts = ltb-true p (length c.parts) (and_left a (b && true_of vs ds p) e) in
      let rest : (b && true_of vs ds p) ≡ true = and_right a (b && true_of vs ds p) e in
      any_in (true_of vs ds) (matching c r) p (matching_in c r p below (and_left b (true_of vs ds p) rest)) (and_right b (true_of vs ds p) rest)

  made_out : any (decides_for c vs ds r) ds ≡ true → any (true_of vs ds) (matching c r) ≡ true
  unfolding decides_for
  made_out e =
      let d = any_out (decides_for c vs ds r) ds e in
      let o : Origin = get_or vs d.0.variable (chosen root) in
      let p = part_out (true_match c vs ds r) o (and_right d.0.value (of_part (true_match c vs ds r) o) d.2) in
      match_in p.0 p.1

  true_apart : (p : ℕ) → true_of vs ds p ≡ true → (known vs (part_origin p) ≡ true) × (is_true ds (part_variable vs p) ≡ true)
  unfolding true_of
  true_apart p e = (and_left (known vs (part_origin p)) (is_true ds (part_variable vs p)) e, and_right (known vs (part_origin p)) (is_true ds (part_variable vs p)) e)

  match_out : (p : ℕ) → p ∈ matching c r → true_of vs ds p ≡ true → true_match c vs ds r p ≡ true
  unfolding true_match
  match_out p m e =
      let q = matching_out c r p m in
      and_both (ltb p (length c.parts)) (cache.chosen c r Matching p && true_of vs ds p) (lt-ltb p (length c.parts) q.0) (and_both (cache.chosen c r Matching p) (true_of vs ds p) q.1 e)

  made_in : any (true_of vs ds) (matching c r) ≡ true → any (decides_for c vs ds r) ds ≡ true
  unfolding decides_for
  made_in e =
      let p = any_out (true_of vs ds) (matching c r) e in
      let told = true_apart p.0 p.2 in
      let d = decision_of_law ds (part_variable vs p.0) told.1 in
      let o : Origin = get_or vs d.0.variable (chosen root) in
      let at : o ≡ part_origin p.0 = rw d.2 (stands vs (part_origin p.0) (chosen root) told.0).1 in
      let held : of_part (true_match c vs ds r) o ≡ true = rw at (part_in (true_match c vs ds r) p.0 (match_out p.0 p.1 p.2)) in
      any_in (decides_for c vs ds r) ds d.0 d.1 (and_both d.0.value (of_part (true_match c vs ds r) o) d.3 held)

  by_decisions : any (decides_for c vs ds r) ds ≡ any (true_of vs ds) (matching c r)
  by_decisions = same_test _ _ made_out made_in

-- ---- one part

module _ (k : Counts) (m u t : List ℕ) (vs : List Origin) (ds : List Decision) (r p : ℕ) where
  pub match_past : k.parts ≤ p → false ≡ true_match (catalogue k m u t) vs ds r p
  unfolding true_match
  match_past h = rw (parts_held k m u t, le-ltb p k.parts h)

  module _ (b : Bool) (e : b ≡ cache.chosen (catalogue k m u t) r Matching p) where
    pub match_other : not b ≡ true → false ≡ true_match (catalogue k m u t) vs ds r p
    unfolding true_match
    match_other q = rw (sym e ∙ not-true b q) (sym (and_false (ltb p (length (catalogue k m u t).parts))))

    pub match_is : (a : Bool) → p < k.parts → not b ≡ false → a ≡ true_of vs ds p → a ≡ true_match (catalogue k m u t) vs ds r p
    unfolding true_match
    match_is a h q g = rw (parts_held k m u t, lt-ltb p k.parts h, sym e ∙ not-false b q) g

-- ---- one decision

not_part : (f : ℕ → Bool) (o : code.Origin) → ((p : ℕ) → o ≡ Part p → ⊥) → of_part f (origin_of o) ≡ false
unfolding of_part
not_part f Root n = refl
not_part f (Part p) n = absurd (n p refl)
not_part f (Forbid name bit) n = refl
not_part f (One name) n = refl
not_part f (Violation r) n = refl
not_part f (Gate q) n = refl

its_part : (f : ℕ → Bool) (o : code.Origin) (p : ℕ) → o ≡ Part p → of_part f (origin_of o) ≡ f p
unfolding of_part
its_part f o p e = rw e

module _ (c : Catalogue) (vs : List Origin) (ds : List Decision) (r i : ℕ) (d : decided.Decision) (e : decision_of d ≡ get_or ds i no_decision) where
  pub decides_false : not d.value ≡ true → false ≡ decides_for c vs ds r (get_or ds i no_decision)
  unfolding decides_for decision_of decision_by
  decides_false q = rw (← e, not-true d.value q)

  module _ (q : not d.value ≡ false) (o : code.Origin) (h : origin_of o ≡ get_or vs d.variable (chosen root)) where
    decides_is : decides_for c vs ds r (get_or ds i no_decision) ≡ of_part (true_match c vs ds r) (origin_of o)
    unfolding decides_for decision_of decision_by
    decides_is = rw (← e, not-false d.value q, h)

    pub decides_other : ((p : ℕ) → o ≡ Part p → ⊥) → false ≡ decides_for c vs ds r (get_or ds i no_decision)
    decides_other n = sym (decides_is ∙ not_part (true_match c vs ds r) o n)

    pub decides_part : (b : Bool) (p : ℕ) → o ≡ Part p → b ≡ true_match c vs ds r p → b ≡ decides_for c vs ds r (get_or ds i no_decision)
    decides_part b p q g = g ∙ sym (decides_is ∙ its_part (true_match c vs ds r) o p q)

-- ---- the loop at decision i: none of those passed makes one true

pub record Unmade (c : Catalogue) (vs : List Origin) (r n : ℕ) (ds : List Decision) (i : ℕ) : Type 0 where
  pub count : length ds ≡ n
  pub is : any (decides_for c vs ds r) (drop i ds) ≡ any (true_of vs ds) (matching c r)

pub unmade_start : (c : Catalogue) (vs : List Origin) (r n : ℕ) (st : ℕ → List ℕ) → Unmade c vs r n (decisions n st) 0
unmade_start c vs r n st = record { count = Laws.count n st; is = by_decisions c vs (decisions n st) r }

module _ {c : Catalogue} {vs : List Origin} {r n : ℕ} {ds : List Decision} {i : ℕ} (x : Unmade c vs r n ds i) where
  module _ {b : Bool} (h : i < n) (e : b ≡ decides_for c vs ds r (get_or ds i no_decision)) where
    unmade_here : (b || any (decides_for c vs ds r) (drop (i + 1) ds)) ≡ any (true_of vs ds) (matching c r)
    unfolding any
    unmade_here = rw (e, add-one i) (sym (ap (any (decides_for c vs ds r)) (drop-cons ds i no_decision (omega (arith, x.count)))) ∙ x.is)

    pub unmade_found : b ≡ true → true ≡ any (true_of vs ds) (matching c r)
    unmade_found q = rw q at unmade_here

    pub unmade_step : b ≡ false → Unmade c vs r n ds (i + 1)
    unmade_step q = record { count = x.count; is = rw q at unmade_here }

  pub unmade_end : n ≤ i → false ≡ any (true_of vs ds) (matching c r)
  unfolding any
  unmade_end h =
      let none : length ds ≤ i = omega (arith, x.count) in
      rw (drop_of_length-le ds none) at x.is
