-- What is decided of the literals at hand and of the candidates.
use mathlib.Core.Path.{◌≡◌, refl, sym, ◌∙◌, ap}
use mathlib.Core.Logic.{⊎_elim}
use mathlib.Core.Bool.{Bool, true, false, not, ◌&&◌, true≢false}
use mathlib.Core.List.Memᴰ
use mathlib.Core.List.{List, [], ◌∷◌, ◌++◌, map}
use Prim.Native.Nat.{ℕ, suc, ◌+◌, ◌-◌, ◌<◌, ◌≤◌}
use native.Mathlib.Omega.{arith}
use lib.Dec.{eqb}
use native.Mathlib.Nat.{not-suc-le-zero}
use lib.ListN.{length, get_or, drop, length-append, length-map, length-drop}
use lib.Seq.{drop-cons, length-take-le}
use borrow.Author.Tests.{not-true, not-false, eqb-true}
use Rattle.rules.specs.Lists.{filter, all, concat_map, distinct}
use Rattle.rules.specs.Literal.{Literal, pos}
use Rattle.rules.specs.Catalogue.{Catalogue, part_at, goal_at}
use Rattle.rules.specs.Candidates.{matching, favoured_first, sorted, goal_ranges, candidates}
use Rattle.rules.specs.Decisions.{Decision, evaluate, is_falsified, is_false, all_false}
use Rattle.rules.specs.Variables.{Origin, part_variable}
use Rattle.rules.proofs.Bools.{by_cases, and_false}
use Rattle.rules.proofs.Each.{each_in, each_out}
use Rattle.rules.proofs.Membership.{◌⊆◌, in_left, in_right, in_either, filter_within, filter_either, concat_map_in, concat_map_out, distinct_in}
use Rattle.rules.proofs.DistinctEnough.{distinct_out, all_same}
use Rattle.rules.proofs.ListLaws.{no_element}
use Rattle.clause.specs.Literals.{literal_of}
use Rattle.regions.specs.Regions.{size_of}
use Rattle.state.specs.Layout.{sizes}
use Rattle.state.proofs.Changed.{length_held}
use Rattle.variable_map.specs.Mapping.{AllKnown}
use Rattle.marked.specs.Marked.{listed}
use Rattle.encoder.specs.declared.State.{State}
use Rattle.encoder.specs.Held.{literal_in, literals_in}
use Rattle.encoder.specs.Does.{regions_of}
use Rattle.goals.specs.Goals.{false_of}
use Rattle.goals.proofs.Parts.{all_both}
use Rattle.condition_literals.specs.Literals.{literal_false, Named, AtHand}

-- ---- the literals at hand

literals_long : (x : State) → length (regions_of x 19) ≡ x.limits.literals
literals_long x = length_held x.limits x.area.now 19 x.fits ∙ unfold size_of sizes in refl

-- the loop at place j: those passed are decided false
pub record Falsifying (ds : List Decision) (w : List ℕ) (a count j : ℕ) : Type 0 where
  pub room : a + count ≤ length w
  pub is : all (literal_false ds) (literals_in w (a + j) (count - j)) ≡ all (literal_false ds) (literals_in w a count)

pub falsify_start : (ds : List Decision) (x : State) {a count : ℕ} → a + count ≤ x.limits.literals → Falsifying ds (regions_of x 19) a count 0
falsify_start ds x {a} {count} h =
    let e : a + 0 ≡ a = omega arith in
    let d : count - 0 ≡ count = omega arith in
    record { room = omega (arith, literals_long x); is = rw (e, d) }

module _ {ds : List Decision} {w : List ℕ} {a count j : ℕ} (x : Falsifying ds w a count j) where
  module _ (h : j < count) {v : ℕ} (e : v ≡ get_or w (a + j) 0) {b : Bool} (d : b ≡ is_falsified (evaluate ds (literal_of (record { code = v })))) where
    next : literals_in w (a + j) (count - j) ≡ literal_in v ∷ literals_in w (a + (j + 1)) (count - (j + 1))
    unfolding literals_in
    next =
        let g : count - j ≡ suc (count - (j + 1)) = omega arith in
        let i : a + (j + 1) ≡ suc (a + j) = omega arith in
        let k : a + j < length w = omega (arith, x.room) in
        rw (g, i, drop-cons w (a + j) 0 k, e)

    tested : (b && all (literal_false ds) (literals_in w (a + (j + 1)) (count - (j + 1)))) ≡ all (literal_false ds) (literals_in w a count)
    unfolding all literal_false literal_in literal_of
    tested = rw d (sym (ap (all (literal_false ds)) next) ∙ x.is)

    pub falsify_step : not b ≡ false → Falsifying ds w a count (j + 1)
    falsify_step q = record { room = x.room; is = rw (not-false b q) at tested }

    pub falsify_fails : not b ≡ true → false ≡ all (literal_false ds) (literals_in w a count)
    falsify_fails q = rw (not-true b q) at tested

  pub falsify_end : count ≤ j → true ≡ all (literal_false ds) (literals_in w a count)
  unfolding literals_in all
  falsify_end h =
      let g : count - j ≡ 0 = omega arith in
      rw g at x.is

-- ---- candidates, with repeats or not, in the clause's order or in that of the file

module _ (c : Catalogue) (r : ℕ) where
  sorted_within : sorted c r ⊆ matching c r
  unfolding sorted favoured_first
  sorted_within x m =
      ⊎_elim (filter_within (λ p. (part_at c p).favoured) (matching c r) x) (filter_within (λ p. not (part_at c p).favoured) (matching c r) x)
      (in_either (filter (λ p. (part_at c p).favoured) (matching c r)) m)

  sorted_all : matching c r ⊆ sorted c r
  unfolding sorted favoured_first
  sorted_all x m =
      ⊎_elim (in_left (filter (λ p. not (part_at c p).favoured) (matching c r))) (in_right (filter (λ p. (part_at c p).favoured) (matching c r)))
      (filter_either (λ p. (part_at c p).favoured) (matching c r) m)

module _ {c : Catalogue} {q ranges : ℕ} {st : ℕ → List ℕ} (a : AtHand c q ranges st) where
  abbrev gathered : List ℕ
  gathered = concat_map (matching c) (listed ranges 14 st)

  abbrev asked : List ℕ
  asked = candidates c (goal_at c q)

  hand_within : gathered ⊆ asked
  unfolding candidates
  hand_within x m =
      let w = concat_map_out (matching c) (distinct (goal_ranges c (goal_at c q))) (rw a.is at m) in
      concat_map_in (sorted c) (goal_ranges c (goal_at c q)) (distinct_out (goal_ranges c (goal_at c q)) w.0 w.1) (sorted_all c w.0 x w.2)

  hand_all : asked ⊆ gathered
  unfolding candidates
  hand_all x m =
      let w = concat_map_out (sorted c) (goal_ranges c (goal_at c q)) m in
      rw a.is (concat_map_in (matching c) (distinct (goal_ranges c (goal_at c q))) (distinct_in (goal_ranges c (goal_at c q)) w.0 w.1) (sorted_within c w.0 x w.2))

  pub hand_known : {vs : List Origin} → Named c q vs → AllKnown vs gathered
  hand_known n = record { known = each_in gathered (λ x m. each_out n.candidates (hand_within x m)) }

-- ---- there are literals, and all are decided false

unfoldable some : {A : Type 0} → List A → Bool
some [] = false
some (x ∷ xs) = true

both_is : (ds : List Decision) (ls : List Literal) → all_false ds ls ≡ (some ls && all (literal_false ds) ls)
unfolding all_false some all literal_false
both_is ds [] = refl
both_is ds (l ∷ ls) = refl

some_right : {A : Type 0} (xs ys : List A) → some ys ≡ true → some (xs ++ ys) ≡ true
unfolding some
some_right [] ys e = e
some_right (x ∷ xs) ys e = refl

some_long : {A : Type 0} (xs : List A) → 0 < length xs → some xs ≡ true
unfolding some
some_long [] h = absurd (not-suc-le-zero h)
some_long (x ∷ xs) h = refl

some_left : {A : Type 0} (xs ys : List A) → 0 < length xs → some (xs ++ ys) ≡ true
some_left xs ys h = some_long (xs ++ ys) (omega (arith, length-append xs ys))

within_none : {A : Type 0} (xs : List A) → xs ⊆ [] → xs ≡ []
within_none [] h = refl
within_none (x ∷ xs) h = absurd (Memᴰ.not-nil (h x (Memᴰ.head refl)))

all_parts : (ds : List Decision) (vs : List Origin) (ps : List ℕ) → all (literal_false ds) (map pos (map (part_variable vs) ps)) ≡ all (false_of vs ds) ps
unfolding all literal_false false_of is_false
all_parts ds vs [] = refl
all_parts ds vs (p ∷ ps) = rw (all_parts ds vs ps)

module _ {c : Catalogue} {q ranges : ℕ} {st : ℕ → List ℕ} (a : AtHand c q ranges st) (ds : List Decision) (vs : List Origin) (w : List ℕ) (start count : ℕ) where
  abbrev literals_of : List Literal
  literals_of = literals_in w start count ++ map pos (map (part_variable vs) (candidates c (goal_at c q)))

  -- no literal at all
  rest_none : (b : Bool) → b ≡ not (eqb (length (concat_map (matching c) (listed ranges 14 st))) 0) → b ≡ false → count ≡ 0 → false ≡ all_false ds literals_of
  rest_none b e n z =
      let ms = concat_map (matching c) (listed ranges 14 st) in
      let g : ms ≡ [] = no_element ms (eqb-true (length ms) 0 (not-false (eqb (length ms) 0) (sym e ∙ n))) in
      let k : candidates c (goal_at c q) ≡ [] = within_none (candidates c (goal_at c q)) (λ x m. rw g at (hand_all a x m)) in
      rw (z, k) (unfold literals_in all_false in refl)

  -- one that is not decided false
  pub rest_fails : (y : Bool) → y ≡ all (literal_false ds) (literals_in w start count) → y ≡ false → false ≡ all_false ds literals_of
  rest_fails y e n =
      let ms = map pos (map (part_variable vs) (candidates c (goal_at c q))) in
      rw (both_is ds literals_of, all_both (literal_false ds) (literals_in w start count) ms, ← e, n) (sym (and_false (some literals_of)))

  abbrev Some : Type 0
  Some = some literals_of ≡ true

  rest_is : Some → (y z : Bool) → y ≡ all (literal_false ds) (literals_in w start count) → y ≡ true
      → z ≡ all (false_of vs ds) (concat_map (matching c) (listed ranges 14 st)) → z ≡ all_false ds literals_of
  rest_is s y z e n f =
      rw (
        both_is ds literals_of,
        s,
        all_both (literal_false ds) (literals_in w start count) (map pos (map (part_variable vs) (candidates c (goal_at c q)))),
        ← e,
        n,
        all_parts ds vs (candidates c (goal_at c q)),
      ) (f ∙ all_same (false_of vs ds) (hand_within a) (hand_all a))

  -- the condition has literals
  rest_long : start + count ≤ length w → (count ≡ 0 → ⊥) → (y z : Bool) → y ≡ all (literal_false ds) (literals_in w start count) → y ≡ true
      → z ≡ all (false_of vs ds) (concat_map (matching c) (listed ranges 14 st)) → z ≡ all_false ds literals_of
  rest_long h n = rest_is (some_left (literals_in w start count) _ long)
    where
      long : 0 < length (literals_in w start count)
      long = unfold literals_in in rw (length-map, length-take-le count (drop start w) (rw length-drop (omega arith))) (omega arith)

  -- there are candidates, and no literals of the condition
  rest_short : (b z : Bool) → b ≡ not (eqb (length (concat_map (matching c) (listed ranges 14 st))) 0) → b ≡ true → count ≡ 0
      → z ≡ all (false_of vs ds) (concat_map (matching c) (listed ranges 14 st)) → z ≡ all_false ds literals_of
  rest_short b z e n k f = rest_is (some_right (literals_in w start count) _ (some_there (candidates c (goal_at c q)) present)) true z nothing refl f
    where
      nothing : true ≡ all (literal_false ds) (literals_in w start count)
      nothing = rw k (unfold literals_in all in refl)

      some_there : (ps : List ℕ) → (ps ≡ [] → ⊥) → some (map pos (map (part_variable vs) ps)) ≡ true
      some_there [] i = absurd (i refl)
      some_there (p ∷ ps) i = unfold some in refl

      present : candidates c (goal_at c q) ≡ [] → ⊥
      present i =
          let g : concat_map (matching c) (listed ranges 14 st) ≡ [] = within_none (concat_map (matching c) (listed ranges 14 st)) (λ x m. rw i at (hand_within a x m)) in
          let d : b ≡ false = e ∙ rw g in
          true≢false (sym n ∙ d)

  -- no literals of the condition: all candidates are decided false, and there are some or not
  pub rest_all : (b z : Bool) → z ≡ all (false_of vs ds) (concat_map (matching c) (listed ranges 14 st)) → z ≡ true
      → b ≡ not (eqb (length (concat_map (matching c) (listed ranges 14 st))) 0) → count ≡ 0 → b ≡ all_false ds literals_of
  rest_all b z f t e k = by_cases b (λ y. y ∙ (sym t ∙ rest_short b z e y k f)) (λ y. y ∙ rest_none b e y k)

  -- or one is not
  pub rest_some : (z : Bool) → z ≡ all (false_of vs ds) (concat_map (matching c) (listed ranges 14 st)) → z ≡ false → count ≡ 0 → false ≡ all_false ds literals_of
  rest_some z f t k =
      let b = not (eqb (length (concat_map (matching c) (listed ranges 14 st))) 0) in
      by_cases b (λ y. sym t ∙ rest_short b z refl y k f) (λ y. rest_none b refl y k)

-- the same of the encoder's state
pub rest_held : {c : Catalogue} {q ranges : ℕ} (x : State) → AtHand c q ranges (regions_of x) → (ds : List Decision) (vs : List Origin) (start count : ℕ)
    → start + count ≤ x.limits.literals → (count ≡ 0 → ⊥) → (y z : Bool) → y ≡ all (literal_false ds) (literals_in (regions_of x 19) start count) → y ≡ true
    → z ≡ all (false_of vs ds) (concat_map (matching c) (listed ranges 14 (regions_of x)))
    → z ≡ all_false ds (literals_in (regions_of x 19) start count ++ map pos (map (part_variable vs) (candidates c (goal_at c q))))
rest_held x a ds vs start count h = rest_long a ds vs (regions_of x 19) start count (omega (arith, literals_long x))
