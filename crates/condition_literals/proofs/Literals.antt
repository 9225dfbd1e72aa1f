-- The literals of a part, of a range and of a disjunct, put behind the stored ones.
use mathlib.Core.Path.{◌≡◌, refl, sym, ◌∙◌, ap}
use mathlib.Core.Bool.{Bool, true, false, not, ◌&&◌}
use mathlib.Core.List.{List, [], ◌∷◌, ◌++◌, map-append, append-nil, append_assoc}
use Prim.Native.Nat.{ℕ, suc, ◌+◌, ◌-◌, ◌*◌, ◌<◌, ◌≤◌}
use native.Mathlib.Numerals.{add-one}
use native.Mathlib.Omega.{arith}
use lib.Dec.{eqb, ltb}
use lib.ListN.{length, get_or, take, length-map}
use lib.Seq.{take-suc, take_all}
use borrow.Author.Tests.{ltb-true, ltb-false}
use Rattle.rules.specs.Lists.{filter, list_if, concat_map, up_to}
use Rattle.rules.specs.Literal.{pos}
use Rattle.rules.specs.Catalogue.{Catalogue, no_requirement, name_of, range_name}
use Rattle.rules.specs.Candidates.{member, parts_of, non_matching}
use Rattle.rules.specs.Conditions.{Disjunct, disjuncts, disjuncts_of, disjunct_at, unconditional}
use Rattle.rules.specs.Items.{ceiling}
use Rattle.rules.specs.Variables.{Origin, one, known, variable_of, part_origin, part_variable}
use Rattle.rules.specs.Encoding.{range_literals, disjunct_literals}
use Rattle.rules.proofs.Bools.{by_cases}
use Rattle.rules.proofs.Each.{Each, each_left, each_right}
use Rattle.rules.proofs.ListLaws.{length_filters, length_up_to}
use Rattle.rules.proofs.Member.{at_member}
use Rattle.clause.specs.declared.Literal as code
use Rattle.clause.specs.Literals.{signed, literal_of}
use Rattle.requirement.specs.declared.ConditionalRequirement.{ConditionalRequirement}
use Rattle.requirement.specs.Requirements.{requirement_is}
use Rattle.tables.specs.declared.Counts.{Counts}
use Rattle.tables.specs.Tables.{tables}
use Rattle.conditions.specs.declared.Disjunct as D
use Rattle.conditions.specs.Disjuncts.{ranges_of, Carries}
use Rattle.cache.specs.declared.Choice.TheVariants.{NonMatching}
use Rattle.cache.specs.Areas.{catalogue}
use Rattle.cache.specs.Lists.{asked, chosen}
use Rattle.cache.proofs.Laws.{parts_held, ranges_held, range_name_held}
use Rattle.index.specs.Chains.{Skips}
use Rattle.index.proofs.Walking.{walk}
use Rattle.variable_map.specs.declared.Origin as Origins
use Rattle.variable_map.specs.Mapping.{origin_of, AllKnown}
use Rattle.variable_map.proofs.Laws as variables
use Rattle.encoder.specs.declared.State.{State}
use Rattle.encoder.specs.Does.{regions_of, variables_of, IsMapped, IsGoodState}
use Rattle.encoder.specs.Did.{Looked}
use Rattle.std.specs.Prelude.{Some}
use Rattle.index.specs.Catalogued.{Catalogued}
use Rattle.goals.proofs.Parts.{both_here, both_past}
use Rattle.firing.proofs.Required.{condition_given, its_disjuncts}
use Rattle.firing.proofs.Given.{range_given}
use Rattle.condition_literals.specs.Literals.{StatePushes, part_literals, RangeKnown, DisjunctKnown}
use Rattle.condition_literals.proofs.Pushing.{pushes_none, pushes_then, pushes_good, pushes_variables}
use Rattle.condition_literals.proofs.Known.{range_in, range_one}

literals_both : (vs : List Origin) (ps qs : List ℕ) → part_literals vs (ps ++ qs) ≡ part_literals vs ps ++ part_literals vs qs
unfolding part_literals
literals_both vs ps qs = map-append (λ p. pos (part_variable vs p)) ps qs

literals_count : (vs : List Origin) (ps : List ℕ) → length (part_literals vs ps) ≡ length ps
unfolding part_literals
literals_count vs ps = length-map ps (λ p. pos (part_variable vs p))

literals_none : (vs : List Origin) → part_literals vs [] ≡ []
unfolding part_literals
literals_none vs = refl

-- ---- a literal by its origin

pub looked_low : (a : State) {x : ℕ} (o : Origins.Origin) → known (variables_of a) (origin_of o) ≡ true → Looked (variables_of a) (origin_of o) x → IsMapped a → x < 32768
looked_low a o k y m = omega (arith, y.below k, variables.count a.used.variables (regions_of a), m.room, a.fits.variables)

-- ---- a part, if it is asked for

only : {P : ℕ → Type 0} {p : ℕ} → Each P (p ∷ []) → P p
only (Each.cons h hs) = h

module _ (c : Catalogue) (r p : ℕ) (b : Bool) (vs : List Origin) where
  pub if_known : b ≡ chosen c r NonMatching p → b ≡ true → AllKnown vs (list_if (chosen c r NonMatching p) (p ∷ [])) → known vs (part_origin p) ≡ true
  unfolding list_if
  if_known e q a = only (rw (sym e ∙ q) at a.known)

  pub if_pushed : {a a' : State} {count m : ℕ} (y : code.Literal)
      → StatePushes a count (literal_of y ∷ []) m a' → literal_of y ≡ signed (variable_of vs (part_origin p)) true
      → b ≡ chosen c r NonMatching p → b ≡ true
      → StatePushes a count (part_literals vs (list_if (chosen c r NonMatching p) (p ∷ []))) m a'
  unfolding list_if signed part_literals
  if_pushed y h d e q = rw (sym e ∙ q, ← d) h

pub if_not : (c : Catalogue) (r p : ℕ) (b : Bool) → b ≡ chosen c r NonMatching p → b ≡ false → (vs : List Origin)
    {a : State} {count : ℕ} → StatePushes a count (part_literals vs (list_if (chosen c r NonMatching p) (p ∷ []))) count a
unfolding list_if part_literals
if_not c r p b e q vs = rw (sym e ∙ q) pushes_none

-- ---- the non-matching parts from part p on

module _ {A : Type 0} (f g : A → Bool) (x : A) (xs : List A) where
  both_head : filter f (filter g (x ∷ xs)) ≡ list_if (g x && f x) (x ∷ []) ++ filter f (filter g xs)
  unfolding list_if
  both_head = by_cases (g x && f x) (λ e. both_here f g x xs e ∙ rw e) (λ e. both_past f g x xs e ∙ rw e)

unfoldable pub rest : Catalogue → ℕ → ℕ → List ℕ
rest c r p = filter (λ q. not (member c r q)) (filter (λ q. eqb (name_of c q) (range_name c r)) (up_to p (length c.parts - p)))

module _ (k : Counts) (m u t : List ℕ) (r : ℕ) where
  abbrev cat : Catalogue
  cat = catalogue k m u t

  rest_start : rest cat r 0 ≡ non_matching cat r
  unfolding rest non_matching parts_of
  rest_start =
      let e : length cat.parts - 0 ≡ length cat.parts = omega arith in
      rw e

  rest_step : (p : ℕ) → p < k.parts → rest cat r p ≡ list_if (chosen cat r NonMatching p) (p ∷ []) ++ rest cat r (p + 1)
  unfolding rest chosen asked up_to
  rest_step p h =
      let e : length cat.parts - p ≡ suc (length cat.parts - (p + 1)) = omega (arith, parts_held k m u t) in
      rw (e, add-one p) (both_head (λ q. not (member cat r q)) (λ q. eqb (name_of cat q) (range_name cat r)) p (up_to (suc p) (length cat.parts - suc p)))

  rest_end : (p : ℕ) → k.parts ≤ p → rest cat r p ≡ []
  unfolding rest up_to filter
  rest_end p h =
      let e : length cat.parts - p ≡ 0 = omega (arith, parts_held k m u t) in
      rw e

-- ---- all of a range's

-- the loop at part p
pub record Going (c : Catalogue) (r count : ℕ) (x₀ x : State) (m p : ℕ) : Type 0 where
  pub good : IsGoodState c x
  pub few : m ≤ count + p
  pub known : AllKnown (variables_of x₀) (non_matching c r)
  pub done : List ℕ
  pub all : done ++ rest c r p ≡ non_matching c r
  pub pushed : StatePushes x₀ count (part_literals (variables_of x₀) done) m x

module _ (k : Counts) (m u t : List ℕ) (r : ℕ) {count : ℕ} where
  going_start : (x : State) → IsGoodState (catalogue k m u t) x → AllKnown (variables_of x) (non_matching (catalogue k m u t) r) → Going (catalogue k m u t) r count x x count 0
  going_start x g a =
      record { good = g; few = omega arith; known = a; done = []; all = rest_start k m u t r; pushed = rw literals_none pushes_none }

  module _ {x₀ x : State} {now p : ℕ} (y : Going (catalogue k m u t) r count x₀ x now p) where
    abbrev here : List ℕ
    here = list_if (chosen (catalogue k m u t) r NonMatching p) (p ∷ [])

    split : p < k.parts → (y.done ++ here) ++ rest (catalogue k m u t) r (p + 1) ≡ non_matching (catalogue k m u t) r
    split h = append_assoc y.done here (rest (catalogue k m u t) r (p + 1)) ∙ (ap (λ ps. y.done ++ ps) (sym (rest_step k m u t r p h)) ∙ y.all)

    pub going_known : p < k.parts → AllKnown (variables_of x) here
    going_known h =
        let whole : Each (λ q. known (variables_of x₀) (part_origin q) ≡ true) ((y.done ++ here) ++ rest (catalogue k m u t) r (p + 1)) = rw (split h) y.known.known in
        record { known = rw (pushes_variables y.pushed) (each_right y.done (each_left (y.done ++ here) (rest (catalogue k m u t) r (p + 1)) whole)) }

    going_step : {now' : ℕ} (x' : State) → p < k.parts → StatePushes x now (part_literals (variables_of x) here) now' x' → Going (catalogue k m u t) r count x₀ x' now' (p + 1)
    going_step {now'} x' h q =
        let one_more = literals_count (variables_of x) here in
        let q' : StatePushes x now (part_literals (variables_of x₀) here) now' x' = rw (pushes_variables y.pushed) at q in
        record {
          good = pushes_good q y.good;
          few = omega (arith, q.pushes.more_counted, one_more, at_most (chosen (catalogue k m u t) r NonMatching p), y.few);
          known = y.known;
          done = y.done ++ here;
          all = split h;
          pushed = rw (literals_both (variables_of x₀) y.done here) (pushes_then y.pushed q');
        }
      where
        at_most : (z : Bool) → length (list_if z (p ∷ [])) ≤ 1
        at_most true = unfold list_if in omega arith
        at_most false = unfold list_if in omega arith

    pub going_end : k.parts ≤ p → StatePushes x₀ count (part_literals (variables_of x₀) (non_matching (catalogue k m u t) r)) now x
    going_end h =
        let e : y.done ≡ non_matching (catalogue k m u t) r = sym (append-nil y.done) ∙ (ap (λ ps. y.done ++ ps) (sym (rest_end k m u t r p h)) ∙ y.all) in
        rw (← e) y.pushed

  going_on : {x₀ x : State} {now p p' : ℕ} → Skips k.parts (chosen (catalogue k m u t) r NonMatching) p p'
      → Going (catalogue k m u t) r count x₀ x now p → Going (catalogue k m u t) r count x₀ x now p'
  going_on {x₀} {x} {now} s y =
      walk (Going (catalogue k m u t) r count x₀ x now)
      (λ i h e z. going_step z x h (if_not (catalogue k m u t) r i (chosen (catalogue k m u t) r NonMatching i) refl e (variables_of x))) s y

  pub going_first : {p : ℕ} (x : State) → IsGoodState (catalogue k m u t) x → AllKnown (variables_of x) (non_matching (catalogue k m u t) r)
      → Skips k.parts (chosen (catalogue k m u t) r NonMatching) 0 p → Going (catalogue k m u t) r count x x count p
  going_first x g a s = going_on s (going_start x g a)

  pub going_next : {x₀ x : State} {now p now' p' : ℕ} (x' : State) → Going (catalogue k m u t) r count x₀ x now p → p < k.parts
      → StatePushes x now (part_literals (variables_of x) (list_if (chosen (catalogue k m u t) r NonMatching p) (p ∷ []))) now' x'
      → Skips k.parts (chosen (catalogue k m u t) r NonMatching) (p + 1) p' → Going (catalogue k m u t) r count x₀ x' now' p'
  going_next x' y h q s = going_on s (going_step y x' h q)

-- ---- a range

module _ (k : Counts) (m u t : List ℕ) (r : ℕ) where
  module _ (x : ℕ) (e : x ≡ get_or (tables k t).ranges r 0) where
    named : one x ≡ one (range_name (catalogue k m u t) r)
    named = ap one (e ∙ sym (range_name_held k m u t r))

    module _ (b : Bool) (d : b ≡ ltb 0 (length (non_matching (catalogue k m u t) r))) (z : b ≡ false) where
      no_parts : non_matching (catalogue k m u t) r ≡ []
      no_parts = nothing (non_matching (catalogue k m u t) r) (ltb-false 0 (length (non_matching (catalogue k m u t) r)) (sym d ∙ z))
        where
          nothing : (ps : List ℕ) → length ps ≤ 0 → ps ≡ []
          nothing [] q = refl
          nothing (p ∷ ps) q = let no : ⊥ = omega arith in absurd no

      pub one_known : {vs : List Origin} → RangeKnown (catalogue k m u t) vs r → known vs (one x) ≡ true
      one_known h = rw named (range_one h no_parts)

      pub one_pushed : (vs : List Origin) {s s' : State} {a b : ℕ} (y : code.Literal)
          → literal_of y ≡ signed (variable_of vs (one x)) false → StatePushes s a (literal_of y ∷ []) b s'
          → StatePushes s a (range_literals vs (range_name (catalogue k m u t) r) (non_matching (catalogue k m u t) r)) b s'
      unfolding range_literals signed
      one_pushed vs y g h = rw (no_parts, ← named, ← g) h

  pub parts_pushed : (b : Bool) → b ≡ ltb 0 (length (non_matching (catalogue k m u t) r)) → b ≡ true → (vs : List Origin) {s s' : State} {a b : ℕ}
      → StatePushes s a (part_literals vs (non_matching (catalogue k m u t) r)) b s'
      → StatePushes s a (range_literals vs (range_name (catalogue k m u t) r) (non_matching (catalogue k m u t) r)) b s'
  parts_pushed b d z vs h = rw (same (non_matching (catalogue k m u t) r) (ltb-true 0 (length (non_matching (catalogue k m u t) r)) (sym d ∙ z))) h
    where
      same : (ps : List ℕ) → 0 < length ps → range_literals vs (range_name (catalogue k m u t) r) ps ≡ part_literals vs ps
      same [] q = let no : ⊥ = omega arith in absurd no
      same (p ∷ ps) q = unfold range_literals part_literals in refl

-- ---- a disjunct

range_few : (c : Catalogue) (vs : List Origin) (r : ℕ) → length c.parts ≤ 1024 → length (range_literals vs (range_name c r) (non_matching c r)) ≤ 1024
range_few c vs r h = go (non_matching c r) most
  where
    most : length (non_matching c r) ≤ 1024
    most = unfold non_matching parts_of in
        omega (
          arith,
          length_filters (λ p. not (member c r p)) (filter (λ p. eqb (name_of c p) (range_name c r)) (up_to 0 (length c.parts))),
          length_filters (λ p. eqb (name_of c p) (range_name c r)) (up_to 0 (length c.parts)),
          length_up_to 0 (length c.parts),
        )

    go : (ps : List ℕ) → length ps ≤ 1024 → length (range_literals vs (range_name c r) ps) ≤ 1024
    go [] k = unfold range_literals in omega arith
    go (p ∷ ps) k = unfold range_literals in omega (arith, length-map (p ∷ ps) (λ m. pos (part_variable vs m)))

literals_more : (c : Catalogue) (vs : List Origin) (xs : List ℕ) (x : ℕ)
    → disjunct_literals c vs (xs ++ (x ∷ [])) ≡ disjunct_literals c vs xs ++ range_literals vs (range_name c x) (non_matching c x)
unfolding disjunct_literals concat_map
literals_more c vs [] x = append-nil (range_literals vs (range_name c x) (non_matching c x))
literals_more c vs (y ∷ ys) x =
    ap (λ us. range_literals vs (range_name c y) (non_matching c y) ++ us) (literals_more c vs ys x)
    ∙ sym (append_assoc (range_literals vs (range_name c y) (non_matching c y)) (disjunct_literals c vs ys) (range_literals vs (range_name c x) (non_matching c x)))

pub few_carried : {d : D.Disjunct} {rs xs : Disjunct} → rs ≡ ranges_of d → Carries d xs → length rs ≤ 16
few_carried e k = rw (e, k.is) (omega (arith, k.len, k.room))

-- the loop at range j
pub record Collecting (c : Catalogue) (rs : Disjunct) (x₀ x : State) (m j : ℕ) : Type 0 where
  pub given : (i : ℕ) → i < length rs → get_or rs i 0 < length c.ranges
  pub few_ranges : length rs ≤ 16
  pub parts : length c.parts ≤ 1024
  pub good : IsGoodState c x
  pub few : m ≤ 1024 * j
  pub known : DisjunctKnown c (variables_of x₀) rs
  pub pushed : StatePushes x₀ 0 (disjunct_literals c (variables_of x₀) (take j rs)) m x

module _ (k : Counts) (m u t : List ℕ) (q i : ℕ) (it : ConditionalRequirement) (e : requirement_is it ≡ get_or (tables k t).requirements q no_requirement)
    (w : Catalogued k m u t) (h : q < k.requirements) (f : unconditional (catalogue k m u t) q ≡ false) (x : ℕ) (z : it.condition ≡ Some x) where
  pub disjunct_there : i < length (disjuncts_of (catalogue k m u t) q) → i < length (disjuncts (tables k t).conditions x)
  disjunct_there g = rw (its_disjuncts k m u t q it e w h f x z) at g

  module _ {rs : Disjunct} (c : rs ≡ get_or (disjuncts (tables k t).conditions x) i []) where
    pub ranges_are : rs ≡ disjunct_at (catalogue k m u t) q i
    unfolding disjunct_at
    ranges_are = rw (its_disjuncts k m u t q it e w h f x z) c

    pub collect_start : (s : State) → length rs ≤ 16 → i < length (disjuncts_of (catalogue k m u t) q) → IsGoodState (catalogue k m u t) s
        → DisjunctKnown (catalogue k m u t) (variables_of s) (disjunct_at (catalogue k m u t) q i) → Collecting (catalogue k m u t) rs s s 0 0
    collect_start s y o g a =
        record {
          given = λ j v. rw ranges_held (range_given k m u t x i w (condition_given k m u t q it e w h f x z) (disjunct_there o) c j v);
          few_ranges = y;
          parts = unfold ceiling in w.formed.ceilings.parts;
          good = g;
          few = omega arith;
          known = rw ranges_are a;
          pushed = unfold disjunct_literals concat_map in pushes_none;
        }

module _ {c : Catalogue} {rs : Disjunct} {x₀ x : State} {m j : ℕ} (y : Collecting c rs x₀ x m j) where
  pub collect_known : j < length rs → RangeKnown c (variables_of x) (get_or rs j 0)
  collect_known h = rw (pushes_variables y.pushed) (range_in y.known (at_member rs j 0 h))

  pub collect_step : {m' : ℕ} (x' : State) → j < length rs → StatePushes x m (range_literals (variables_of x) (range_name c (get_or rs j 0)) (non_matching c (get_or rs j 0))) m' x'
      → Collecting c rs x₀ x' m' (j + 1)
  collect_step {m'} x' h q =
      let vs = variables_of x₀ in
      let r = get_or rs j 0 in
      let q' : StatePushes x m (range_literals vs (range_name c r) (non_matching c r)) m' x' = rw (pushes_variables y.pushed) at q in
      record {
        given = y.given;
        few_ranges = y.few_ranges;
        parts = y.parts;
        good = pushes_good q y.good;
        few = omega (arith, q'.pushes.more_counted, range_few c vs r y.parts, y.few);
        known = y.known;
        pushed = rw (add-one j, take-suc rs j 0 h, literals_more c vs (take j rs) r) (pushes_then y.pushed q');
      }

  pub collect_end : {xs : Disjunct} → rs ≡ xs → length rs ≤ j → StatePushes x₀ 0 (disjunct_literals c (variables_of x₀) xs) m x
  collect_end e h = rw (take_all j rs h, e) at y.pushed

pub collect_given : (k : Counts) (m u t : List ℕ) {rs : Disjunct} {x₀ x : State} {a j : ℕ} → Collecting (catalogue k m u t) rs x₀ x a j → j < length rs → get_or rs j 0 < k.ranges
collect_given k m u t {j = j} y h = rw ranges_held at (y.given j h)
