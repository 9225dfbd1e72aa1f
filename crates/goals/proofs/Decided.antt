-- What is decided of parts, against its code: of one part, of a range's parts, of a disjunct's ranges and of the ranges at hand.
use mathlib.Core.Path.{◌≡◌, refl, sym, ◌∙◌, ap}
use mathlib.Core.Bool.{Bool, true, false, not, ◌&&◌, ◌||◌}
use mathlib.Core.List.{List, [], ◌∷◌}
use Prim.Native.Nat.{ℕ, ◌+◌, ◌<◌, ◌≤◌}
use native.Mathlib.Numerals.{add-one}
use native.Mathlib.Omega.{arith}
use lib.Dec.{eqb}
use lib.ListN.{length, get_or, drop, length-append, drop_of_length-le}
use lib.Seq.{drop-cons}
use borrow.Author.Tests.{eq-eqb, ne_eqb, lt-ltb, not-true, not-false}
use Rattle.std.specs.Prelude.{Option, None, Some}
use Rattle.rules.specs.Lists.{any, all, concat_map}
use Rattle.rules.specs.Catalogue.{Catalogue}
use Rattle.rules.specs.Candidates.{matching}
use Rattle.rules.specs.Conditions.{Disjunct, disjuncts}
use Rattle.rules.specs.Variables.{Origin, known, part_origin, part_variable}
use Rattle.rules.specs.Decisions.{Decision, is_true, is_false}
use Rattle.rules.specs.Opening.{holds_now}
use Rattle.rules.proofs.Each.{Each, each_left, each_right}
use Rattle.tables.specs.declared.Counts.{Counts}
use Rattle.tables.specs.declared.Tables.{Tables}
use Rattle.tables.specs.Views.{tables_of}
use Rattle.conditions.specs.declared.Disjunct as D
use Rattle.conditions.specs.Disjuncts.{ranges_of, Carries}
use Rattle.cache.specs.declared.Choice.TheVariants.{Matching}
use Rattle.cache.specs.Areas.{catalogue}
use Rattle.cache.specs.Lists.{chosen, CountedTo}
use Rattle.index.specs.Chains.{Skips}
use Rattle.index.proofs.Walking.{walk}
use Rattle.variable_map.specs.Mapping.{in_tables, found, AllKnown}
use Rattle.variable_map.proofs.Places.{found_known, found_none}
use Rattle.encoder.specs.Did.{Looked}
use Rattle.marked.specs.Marked.{listed, Marked}
use Rattle.marked.proofs.Laws.{length_listed}
use Rattle.goals.specs.Goals.{true_of, false_of}
use Rattle.goals.proofs.Parts.{all_both, onward, onward_start, onward_here, onward_past, onward_end}

-- ---- one part

module _ (p : ℕ) where
  pub part_in_tables : p < 1024 → in_tables (part_origin p) ≡ true
  unfolding in_tables
  part_in_tables h = lt-ltb p 1024 h

  module _ (vs : List Origin) (ds : List Decision) where
    module _ (r : Option ℕ) (e : r ≡ found vs (part_origin p)) where
      pub true_some : (x : ℕ) (b : Bool) → r ≡ Some x → b ≡ is_true ds x → b ≡ true_of vs ds p
      unfolding true_of
      true_some x b q d = let k = found_known vs (part_origin p) r e x q in rw (k.0, ← k.1) d

      pub true_none : r ≡ None → false ≡ true_of vs ds p
      unfolding true_of
      true_none q = rw (found_none vs (part_origin p) r e q)

    pub false_is : (x : ℕ) (b : Bool) → Looked vs (part_origin p) x → known vs (part_origin p) ≡ true → b ≡ is_false ds x → b ≡ is_false ds (part_variable vs p)
    false_is x b y k d = d ∙ ap (is_false ds) (y.is k)

-- ---- some matching part of a range is decided true

-- the loop at part p
pub record Seeking (c : Catalogue) (r : ℕ) (f : ℕ → Bool) (p : ℕ) : Type 0 where
  pub is : any f (onward c r p) ≡ any f (matching c r)

module _ (k : Counts) (m u t : List ℕ) (r : ℕ) (f : ℕ → Bool) where
  seek_start : Seeking (catalogue k m u t) r f 0
  seek_start = record { is = ap (any f) (onward_start k m u t r) }

  module _ (p : ℕ) (x : Seeking (catalogue k m u t) r f p) where
    seek_past : (b : Bool) → p < k.parts → b ≡ chosen (catalogue k m u t) r Matching p → b ≡ false → Seeking (catalogue k m u t) r f (p + 1)
    seek_past b h e d = record { is = sym (ap (any f) (onward_past k m u t r p h (sym e ∙ d))) ∙ x.is }

    module _ (b a : Bool) (h : p < k.parts) (e : b ≡ chosen (catalogue k m u t) r Matching p) (d : b ≡ true) (g : a ≡ f p) where
      seen : (f p || any f (onward (catalogue k m u t) r (p + 1))) ≡ any f (matching (catalogue k m u t) r)
      unfolding any
      seen = sym (ap (any f) (onward_here k m u t r p h (sym e ∙ d))) ∙ x.is

      seek_miss : a ≡ false → Seeking (catalogue k m u t) r f (p + 1)
      seek_miss q = record { is = rw (sym g ∙ q) at seen }

      pub seek_found : a ≡ true → true ≡ any f (matching (catalogue k m u t) r)
      seek_found q = rw (sym g ∙ q) at seen

    pub seek_none : k.parts ≤ p → false ≡ any f (matching (catalogue k m u t) r)
    unfolding any
    seek_none h = rw (onward_end k m u t r p h) at x.is

  seek_on : {p x : ℕ} → Skips k.parts (chosen (catalogue k m u t) r Matching) p x → Seeking (catalogue k m u t) r f p → Seeking (catalogue k m u t) r f x
  seek_on s y = walk (Seeking (catalogue k m u t) r f) (λ i h e z. seek_past i z (chosen (catalogue k m u t) r Matching i) h refl e) s y

  pub seek_first : {x : ℕ} → Skips k.parts (chosen (catalogue k m u t) r Matching) 0 x → Seeking (catalogue k m u t) r f x
  seek_first s = seek_on s seek_start

  module _ {p x : ℕ} (y : Seeking (catalogue k m u t) r f p) (b : Bool) (h : p < k.parts) (e : b ≡ chosen (catalogue k m u t) r Matching p)
      (s : Skips k.parts (chosen (catalogue k m u t) r Matching) (p + 1) x) where
    pub seek_next : b ≡ false → Seeking (catalogue k m u t) r f x
    seek_next d = seek_on s (seek_past p y b h e d)

    pub seek_behind : (a : Bool) → b ≡ true → a ≡ f p → a ≡ false → Seeking (catalogue k m u t) r f x
    seek_behind a d g q = seek_on s (seek_miss p y b a h e d g q)

-- ---- each range of a disjunct has such a part

-- the loop at range j
pub record Holding (c : Catalogue) (f : ℕ → Bool) (xs : Disjunct) (j : ℕ) : Type 0 where
  pub is : holds_now c f (drop j xs) ≡ holds_now c f xs

-- its ranges are the disjunct's
pub carried : {t t' : Tables} {d : D.Disjunct} {items : List ℕ} (c i : ℕ) → t ≡ t' → items ≡ ranges_of d → Carries d (get_or (disjuncts (tables_of t).conditions c) i [])
    → items ≡ get_or (disjuncts (tables_of t').conditions c) i []
carried c i e q k = q ∙ (k.is ∙ ap (λ (t : Tables). get_or (disjuncts (tables_of t).conditions c) i []) e)

module _ {c : Catalogue} {f : ℕ → Bool} {xs items : Disjunct} {j : ℕ} (x : Holding c f xs j) (k : items ≡ xs) where
  module _ (b : Bool) (h : j < length items) (e : b ≡ any f (matching c (get_or items j 0))) where
    tested : (b && holds_now c f (drop (j + 1) xs)) ≡ holds_now c f xs
    unfolding holds_now all
    tested =
        let h' : j < length xs = rw k at h in
        rw (e, k, add-one j) (sym (ap (holds_now c f) (drop-cons xs j 0 h')) ∙ x.is)

    pub hold_step : b ≡ true → Holding c f xs (j + 1)
    hold_step q = record { is = rw q at tested }

    pub hold_fails : b ≡ false → false ≡ holds_now c f xs
    hold_fails q = rw q at tested

  pub hold_end : length items ≤ j → true ≡ holds_now c f xs
  unfolding holds_now all
  hold_end h =
      let h' : length xs ≤ j = rw k at h in
      rw (drop_of_length-le xs h') at x.is

-- ---- every matching part of a range is decided false

-- the loop at part p
pub record Denying (c : Catalogue) (r : ℕ) (vs : List Origin) (ds : List Decision) (p : ℕ) : Type 0 where
  pub known : AllKnown vs (onward c r p)
  pub is : all (false_of vs ds) (onward c r p) ≡ all (false_of vs ds) (matching c r)

known_first : {vs : List Origin} {p : ℕ} {ps : List ℕ} → AllKnown vs (p ∷ ps) → known vs (part_origin p) ≡ true
known_first {vs} {p} {ps} a = go a.known
  where
    go : Each (λ q. known vs (part_origin q) ≡ true) (p ∷ ps) → known vs (part_origin p) ≡ true
    go (Each.cons h hs) = h

known_rest : {vs : List Origin} {p : ℕ} {ps : List ℕ} → AllKnown vs (p ∷ ps) → AllKnown vs ps
known_rest {vs} {p} {ps} a = record { known = each_right (p ∷ []) a.known }

module _ (k : Counts) (m u t : List ℕ) (r : ℕ) (vs : List Origin) (ds : List Decision) where
  deny_start : AllKnown vs (matching (catalogue k m u t) r) → Denying (catalogue k m u t) r vs ds 0
  deny_start a = record { known = rw (onward_start k m u t r) a; is = ap (all (false_of vs ds)) (onward_start k m u t r) }

  module _ (p : ℕ) (x : Denying (catalogue k m u t) r vs ds p) where
    deny_past : (b : Bool) → p < k.parts → b ≡ chosen (catalogue k m u t) r Matching p → b ≡ false → Denying (catalogue k m u t) r vs ds (p + 1)
    deny_past b h e d =
        let o = onward_past k m u t r p h (sym e ∙ d) in
        record { known = rw o at x.known; is = rw o at x.is }

    module _ (b : Bool) (h : p < k.parts) (e : b ≡ chosen (catalogue k m u t) r Matching p) (d : b ≡ true) where
      here : onward (catalogue k m u t) r p ≡ p ∷ onward (catalogue k m u t) r (p + 1)
      here = onward_here k m u t r p h (sym e ∙ d)

      pub deny_known : known vs (part_origin p) ≡ true
      deny_known = known_first (rw here at x.known)

      module _ (a : Bool) (g : a ≡ is_false ds (part_variable vs p)) where
        denied : (a && all (false_of vs ds) (onward (catalogue k m u t) r (p + 1))) ≡ all (false_of vs ds) (matching (catalogue k m u t) r)
        unfolding all false_of
        denied = rw g (sym (ap (all (false_of vs ds)) here) ∙ x.is)

        deny_step : not a ≡ false → Denying (catalogue k m u t) r vs ds (p + 1)
        deny_step q = record { known = known_rest (rw here at x.known); is = rw (not-false a q) at denied }

        pub deny_fails : not a ≡ true → false ≡ all (false_of vs ds) (matching (catalogue k m u t) r)
        deny_fails q = rw (not-true a q) at denied

    pub deny_end : k.parts ≤ p → true ≡ all (false_of vs ds) (matching (catalogue k m u t) r)
    unfolding all
    deny_end h = rw (onward_end k m u t r p h) at x.is

  deny_on : {p x : ℕ} → Skips k.parts (chosen (catalogue k m u t) r Matching) p x → Denying (catalogue k m u t) r vs ds p → Denying (catalogue k m u t) r vs ds x
  deny_on s y = walk (Denying (catalogue k m u t) r vs ds) (λ i h e z. deny_past i z (chosen (catalogue k m u t) r Matching i) h refl e) s y

  pub deny_first : {x : ℕ} → AllKnown vs (matching (catalogue k m u t) r) → Skips k.parts (chosen (catalogue k m u t) r Matching) 0 x → Denying (catalogue k m u t) r vs ds x
  deny_first a s = deny_on s (deny_start a)

  module _ {p x : ℕ} (y : Denying (catalogue k m u t) r vs ds p) (b : Bool) (h : p < k.parts) (e : b ≡ chosen (catalogue k m u t) r Matching p)
      (s : Skips k.parts (chosen (catalogue k m u t) r Matching) (p + 1) x) where
    pub deny_next : b ≡ false → Denying (catalogue k m u t) r vs ds x
    deny_next d = deny_on s (deny_past p y b h e d)

    pub deny_behind : (a : Bool) → b ≡ true → a ≡ is_false ds (part_variable vs p) → not a ≡ false → Denying (catalogue k m u t) r vs ds x
    deny_behind a d g q = deny_on s (deny_step p y b h e d a g q)

-- ---- the ranges at hand

module _ {m : ℕ} {st : ℕ → List ℕ} (k : Marked 14 15 m st) (j : ℕ) where
  at_hand : (r : ℕ) → j < m → r ≡ get_or (listed m 14 st) j 0 → drop j (listed m 14 st) ≡ r ∷ drop (j + 1) (listed m 14 st)
  at_hand r h e = rw (e, add-one j) (drop-cons (listed m 14 st) j 0 (rw (length_listed k) h))

  none_at_hand : m ≤ j → drop j (listed m 14 st) ≡ []
  none_at_hand h =
      let g : length (listed m 14 st) ≤ j = rw (length_listed k) h in
      drop_of_length-le (listed m 14 st) g

-- the loop at place j: every candidate of the ranges passed is decided false
pub record Refuting (c : Catalogue) (vs : List Origin) (ds : List Decision) (m : ℕ) (st : ℕ → List ℕ) (j : ℕ) : Type 0 where
  pub marked : Marked 14 15 m st
  pub known : AllKnown vs (concat_map (matching c) (drop j (listed m 14 st)))
  pub is : all (false_of vs ds) (concat_map (matching c) (drop j (listed m 14 st))) ≡ all (false_of vs ds) (concat_map (matching c) (listed m 14 st))

module _ {c : Catalogue} {vs : List Origin} {ds : List Decision} {m : ℕ} {st : ℕ → List ℕ} {j : ℕ} (x : Refuting c vs ds m st j) where
  module _ (r : ℕ) (h : j < m) (e : r ≡ get_or (listed m 14 st) j 0) where
    refute_apart : AllKnown vs (concat_map (matching c) (r ∷ drop (j + 1) (listed m 14 st)))
    refute_apart = rw (at_hand x.marked j r h e) at x.known

    pub refute_known : AllKnown vs (matching c r)
    unfolding concat_map
    refute_known = record { known = each_left (matching c r) (concat_map (matching c) (drop (j + 1) (listed m 14 st))) refute_apart.known }

    module _ (b : Bool) (g : b ≡ all (false_of vs ds) (matching c r)) where
      refuted : (b && all (false_of vs ds) (concat_map (matching c) (drop (j + 1) (listed m 14 st)))) ≡ all (false_of vs ds) (concat_map (matching c) (listed m 14 st))
      unfolding concat_map
      refuted =
          rw (g, ← all_both (false_of vs ds) (matching c r) (concat_map (matching c) (drop (j + 1) (listed m 14 st))))
          (sym (ap (λ (l : List ℕ). all (false_of vs ds) (concat_map (matching c) l)) (at_hand x.marked j r h e)) ∙ x.is)

      pub refute_step : not b ≡ false → Refuting c vs ds m st (j + 1)
      unfolding concat_map
      refute_step q = record { marked = x.marked; known = record { known = each_right (matching c r) refute_apart.known }; is = rw (not-false b q) at refuted }

      pub refute_fails : not b ≡ true → false ≡ all (false_of vs ds) (concat_map (matching c) (listed m 14 st))
      refute_fails q = rw (not-true b q) at refuted

  pub refute_end : m ≤ j → true ≡ all (false_of vs ds) (concat_map (matching c) (listed m 14 st))
  unfolding concat_map all
  refute_end h = rw (none_at_hand x.marked j h) at x.is

-- the loop at place j: the ranges passed have no matching part
pub record Lacking (c : Catalogue) (m : ℕ) (st : ℕ → List ℕ) (j : ℕ) : Type 0 where
  pub marked : Marked 14 15 m st
  pub is : length (concat_map (matching c) (drop j (listed m 14 st))) ≡ length (concat_map (matching c) (listed m 14 st))

module _ {c : Catalogue} {m : ℕ} {st : ℕ → List ℕ} {j : ℕ} (x : Lacking c m st j) where
  module _ (r n : ℕ) (h : j < m) (e : r ≡ get_or (listed m 14 st) j 0) (d : CountedTo 1 n (matching c r)) where
    apart : length (matching c r) + length (concat_map (matching c) (drop (j + 1) (listed m 14 st))) ≡ length (concat_map (matching c) (listed m 14 st))
    unfolding concat_map
    apart =
        let q = ap (λ (l : List ℕ). length (concat_map (matching c) l)) (at_hand x.marked j r h e) in
        omega (arith, q, length-append (matching c r) (concat_map (matching c) (drop (j + 1) (listed m 14 st))), x.is)

    pub lack_step : n ≤ 0 → Lacking c m st (j + 1)
    lack_step q = record { marked = x.marked; is = omega (arith, apart) }

    pub lack_found : 0 < n → true ≡ not (eqb (length (concat_map (matching c) (listed m 14 st))) 0)
    lack_found q = rw (ne_eqb (length (concat_map (matching c) (listed m 14 st))) 0 (λ z. omega (arith, apart)))

  pub lack_end : m ≤ j → false ≡ not (eqb (length (concat_map (matching c) (listed m 14 st))) 0)
  unfolding concat_map
  lack_end h =
      let q = ap (λ (l : List ℕ). length (concat_map (matching c) l)) (none_at_hand x.marked j h) in
      rw (eq-eqb (length (concat_map (matching c) (listed m 14 st))) 0 (omega (arith, q, x.is)))
