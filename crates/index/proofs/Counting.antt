-- How many parts are chosen of a range: a pass over the parts, those before part p being counted.
use mathlib.Core.Path.{◌≡◌, refl, ap, sym, ◌∙◌}
use mathlib.Core.Bool.{Bool, true, false}
use mathlib.Core.List.{List, [], ◌∷◌, ◌++◌}
use Prim.Native.Nat.{ℕ, suc, ◌+◌, ◌-◌, ◌<◌, ◌≤◌}
use native.Mathlib.Nat.{min-eq_left, min-eq_right}
use native.Mathlib.Numerals.{add-one}
use native.Mathlib.Omega.{arith}
use native.Mathlib.Decide.{dec_lt}
use lib.Dec.{ltb}
use lib.ListN.{length, length-append}
use borrow.Author.Tests.{lt-ltb, le-ltb}
use Rattle.rules.specs.Lists.{filter, list_if, up_to}
use Rattle.rules.specs.Catalogue.{Catalogue}
use Rattle.rules.specs.Candidates.{matching, non_matching}
use Rattle.rules.proofs.ListLaws.{length_filters, length_up_to}
use Rattle.tables.specs.declared.Counts.{Counts}
use Rattle.tables.specs.Tables.{tables}
use Rattle.cache.specs.declared.Choice.{Choice}
use Rattle.cache.specs.declared.Choice.TheVariants.{Matching, NonMatching}
use Rattle.cache.specs.Areas.{catalogue, Held}
use Rattle.cache.specs.Lists.{chosen, choice, Counted, CountedTo}
use Rattle.cache.proofs.Laws.{parts_held}
use Rattle.cache.proofs.Lists.{matching_is, non_matching_is}
use Rattle.index.specs.Chains.{FirstNonMatching, Skips}
use Rattle.index.proofs.Selecting.{non_matching_is_chosen, skips_first}
use Rattle.index.proofs.Walking.{walk}

module _ {A : Type 0} (f : A → Bool) where
  filter_head : (x : A) (xs : List A) → filter f (x ∷ xs) ≡ list_if (f x) (x ∷ []) ++ filter f xs
  unfolding filter list_if
  filter_head x xs = go (f x)
    where
      go : (b : Bool) → elim b [ true ↦ x ∷ filter f xs | false ↦ filter f xs ] ≡ list_if b (x ∷ []) ++ filter f xs
      go true = refl
      go false = refl

-- no list is longer than the parts
choice_most : (c : Catalogue) (r : ℕ) (w : Choice) → length (choice c r w) ≤ length c.parts
unfolding choice
choice_most c r w = omega (arith, length_filters (chosen c r w) (up_to 0 (length c.parts)), length_up_to 0 (length c.parts))

-- ---- a pass over the parts

-- those asked for from part p on
pub left : Catalogue → ℕ → Choice → ℕ → List ℕ
left c r w p = filter (chosen c r w) (up_to p (length c.parts - p))

module _ (k : Counts) (m u t : List ℕ) (r : ℕ) (w : Choice) where
  abbrev held : Catalogue
  held = catalogue k m u t

  left_start : left held r w 0 ≡ choice held r w
  unfolding left choice
  left_start =
      let e : length held.parts - 0 ≡ length held.parts = omega arith in
      rw e

  left_step : (p : ℕ) → p < k.parts → left held r w p ≡ list_if (chosen held r w p) (p ∷ []) ++ left held r w (p + 1)
  unfolding left up_to
  left_step p h =
      let e : length held.parts - p ≡ suc (length held.parts - (p + 1)) = omega (arith, parts_held k m u t) in
      rw (e, add-one p) (filter_head (chosen held r w) p (up_to (suc p) (length held.parts - suc p)))

  left_length : (p : ℕ) → p < k.parts → length (left held r w p) ≡ length (list_if (chosen held r w p) (p ∷ [])) + length (left held r w (p + 1))
  left_length p h = ap length (left_step p h) ∙ length-append (list_if (chosen held r w p) (p ∷ [])) (left held r w (p + 1))

  left_end : (p : ℕ) → k.parts ≤ p → left held r w p ≡ []
  unfolding left up_to filter
  left_end p h =
      let e : length held.parts - p ≡ 0 = omega (arith, parts_held k m u t) in
      rw e

  held_most : Held k (length m) (length u) (length t) → length (choice held r w) ≤ 1024
  held_most h = omega (arith, choice_most held r w, parts_held k m u t)

-- ---- counting

-- a part that is asked for counts 1, and any other 0
module _ (n p : ℕ) {b a : Bool} (e : b ≡ a) where
  pub count_one : b ≡ true → n + 1 ≡ n + length (list_if a (p ∷ []))
  unfolding list_if
  count_one d = rw (← e, d, list_if)

  pub count_none : b ≡ false → n ≡ n + length (list_if a (p ∷ []))
  unfolding list_if
  count_none d = rw (← e, d, list_if) (omega arith)

-- n were counted before part p, `top` at most
pub record Counting (c : Catalogue) (r : ℕ) (w : Choice) (top n p : ℕ) : Type 0 where
  pub few : n ≤ top
  pub most : length (choice c r w) ≤ 1024
  pub is : n + length (left c r w p) ≡ length (choice c r w)

module _ (k : Counts) (m u t : List ℕ) (r : ℕ) (w : Choice) where
  count_start : {top : ℕ} → Held k (length m) (length u) (length t) → Counting (catalogue k m u t) r w top 0 0
  count_start h = record { few = omega arith; most = held_most k m u t r w h; is = rw (left_start k m u t r w) (omega arith) }

  module _ {top n p : ℕ} (x : Counting (catalogue k m u t) r w top n p) where
    module _ (n' : ℕ) (h : p < k.parts) (e : n' ≡ n + length (list_if (chosen (catalogue k m u t) r w p) (p ∷ []))) where
      count_step : n' ≤ top → Counting (catalogue k m u t) r w top n' (p + 1)
      count_step l = record { few = l; most = x.most; is = omega (arith, left_length k m u t r w p h) }

      pub count_full : top ≤ n' → CountedTo top top (choice (catalogue k m u t) r w)
      count_full l = record { is = sym (min-eq_right (let z = x.is in omega (arith, left_length k m u t r w p h))) }

    pub count_end : k.parts ≤ p → CountedTo top n (choice (catalogue k m u t) r w)
    count_end h =
        let e = ap length (left_end k m u t r w p h) in
        let q : n ≡ length (choice (catalogue k m u t) r w) = omega arith in
        record { is = rw (← q) (sym (min-eq_left x.few)) }

-- ---- on a walk

module _ (k : Counts) (m u t : List ℕ) (r : ℕ) (w : Choice) where
  count_on : {top n p x : ℕ} → Skips k.parts (chosen (catalogue k m u t) r w) p x → Counting (catalogue k m u t) r w top n p → Counting (catalogue k m u t) r w top n x
  count_on {top} {n} s y = walk (Counting (catalogue k m u t) r w top n) (λ i h e z. count_step k m u t r w z n h (count_none n i refl e) z.few) s y

  pub count_first : {top x : ℕ} → Held k (length m) (length u) (length t) → Skips k.parts (chosen (catalogue k m u t) r w) 0 x → Counting (catalogue k m u t) r w top 0 x
  count_first h s = count_on s (count_start k m u t r w h)

  pub count_next : {top n p x : ℕ} (n' : ℕ) → Counting (catalogue k m u t) r w top n p → p < k.parts → n' ≡ n + length (list_if (chosen (catalogue k m u t) r w p) (p ∷ []))
      → n' < top → Skips k.parts (chosen (catalogue k m u t) r w) (p + 1) x → Counting (catalogue k m u t) r w top n' x
  count_next n' y h e l s = count_on s (count_step k m u t r w y n' h e (omega arith))

  pub count_nothing : {x : ℕ} (top : ℕ) → Held k (length m) (length u) (length t) → Skips k.parts (chosen (catalogue k m u t) r w) 0 x → k.parts ≤ x
      → CountedTo top 0 (choice (catalogue k m u t) r w)
  count_nothing top h s l = count_end k m u t r w (count_first h s) l

-- ---- the definitions' lists

module _ (k : Counts) (m u t : List ℕ) (r : ℕ) where
  pub matching_counted : {top n : ℕ} → CountedTo top n (choice (catalogue k m u t) r Matching) → CountedTo top n (matching (catalogue k m u t) r)
  matching_counted x = rw (← matching_is (catalogue k m u t) r) x

  pub matching_none : {x : ℕ} (top : ℕ) → Held k (length m) (length u) (length t) → Skips k.parts (chosen (catalogue k m u t) r Matching) 0 x → k.parts ≤ x
      → CountedTo top 0 (matching (catalogue k m u t) r)
  matching_none top h s l = matching_counted (count_nothing k m u t r Matching top h s l)

  pub non_matching_counted : {n : ℕ} → Held k (length m) (length u) (length t) → CountedTo 1024 n (choice (catalogue k m u t) r NonMatching)
      → Counted n (non_matching (catalogue k m u t) r)
  non_matching_counted h x =
      let e = x.is in
      let l = held_most k m u t r NonMatching h in
      rw (← non_matching_is (catalogue k m u t) r) (record { is = omega arith; most = omega arith })

  -- there are some exactly where the first of them is a part
  pub non_matching_some : {x : ℕ} → Held k (length m) (length u) (length t) → r < k.ranges → FirstNonMatching k.parts (tables k t) m r x
      → ltb x k.parts ≡ ltb 0 (length (non_matching (catalogue k m u t) r))
  non_matching_some {x} h g f = rw (← non_matching_is (catalogue k m u t) r) (elim (dec_lt x k.parts) [ yes l ↦ some l | no l ↦ none (omega arith) ])
    where
      counted : Counting (catalogue k m u t) r NonMatching 1024 0 x
      counted = count_first k m u t r NonMatching h (skips_first k m u t r NonMatching refl g f)

      some : x < k.parts → ltb x k.parts ≡ ltb 0 (length (choice (catalogue k m u t) r NonMatching))
      some l =
          let one = count_one 0 x refl (non_matching_is_chosen k m u t r x g ∙ f.here l) in
          let more = left_length k m u t r NonMatching x l in
          lt-ltb x k.parts l ∙ sym (lt-ltb 0 (length (choice (catalogue k m u t) r NonMatching)) (let z = counted.is in omega arith))

      none : k.parts ≤ x → ltb x k.parts ≡ ltb 0 (length (choice (catalogue k m u t) r NonMatching))
      none l =
          let nothing = ap length (left_end k m u t r NonMatching x l) in
          le-ltb x k.parts l ∙ sym (le-ltb 0 (length (choice (catalogue k m u t) r NonMatching)) (let z = counted.is in omega arith))
