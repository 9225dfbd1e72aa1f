-- What is unchanged after no step, one store, or two steps; a region after a store; and regions that were cleared.
use mathlib.Core.Path.{◌≡◌, refl, sym, ◌∙◌, ap}
use mathlib.Core.Bool.{true, false, true≢false}
use mathlib.Core.List.{List, [], ◌∷◌, ◌++◌}
use Prim.Native.Nat.{ℕ, ◌+◌, ◌*◌, ◌<◌, ◌≤◌}
use native.Mathlib.Omega.{arith}
use native.Mathlib.Decide.{dec_lt}
use lib.Dec.{eqb}
use lib.ListN.{length, get_or, set, drop, length-drop}
use lib.Seq.{length-take-le}
use borrow.Author.Tests.{eq-eqb, ne_eqb, eqb-true}
use Rattle.rules.specs.Lists.{any, all, elem, sum}
use Rattle.rules.specs.Called.{◌∈◌}
use Rattle.rules.proofs.Bools.{by_cases}
use Rattle.rules.proofs.Member.{any_out, all_out, contrary}
use Rattle.words.specs.Words as words
use Rattle.words.specs.Words.{words, length_words}
use Rattle.regions.specs.Regions.{start_of, size_of, part, regions, stored}
use Rattle.regions.proofs.Laws.{at_in, at_past, follows, ends_within}
use Rattle.state.specs.declared.Limits.{Limits}
use Rattle.state.specs.Layout.{sizes, held, Fits}
use Rattle.state.specs.Changed.{Changed, Zeroed, Cleared}

-- ---- one store

pub stored_here : (st : ℕ → List ℕ) (j i v : ℕ) → stored st j i v j ≡ set (st j) i v
unfolding stored
stored_here st j i v = rw (eq-eqb j j refl)

pub stored_other : (st : ℕ → List ℕ) (j i v m : ℕ) → (m ≡ j → ⊥) → stored st j i v m ≡ st m
unfolding stored
stored_other st j i v m n = rw (ne_eqb m j n)

module _ {js : List ℕ} {st st' : ℕ → List ℕ} where
  pub changed_stored : (j i v : ℕ) → st' ≡ stored st j i v → elem j js ≡ true → Changed js st st'
  changed_stored j i v e h =
      let other : (m : ℕ) → elem m js ≡ false → m ≡ j → ⊥ = λ m o q. true≢false (sym h ∙ (ap (λ (k : ℕ). elem k js) (sym q) ∙ o)) in
      record { same = λ m o. ap (λ (f : ℕ → List ℕ). f m) e ∙ stored_other st j i v m (other m o) }

-- ---- steps

pub changed_none : (js : List ℕ) (st : ℕ → List ℕ) → Changed js st st
changed_none js st = record { same = λ j o. refl }

pub changed_then : {js : List ℕ} {st st' st'' : ℕ → List ℕ} → Changed js st st' → Changed js st' st'' → Changed js st st''
changed_then p q = record { same = λ j o. q.same j o ∙ p.same j o }

none_left : (j : ℕ) (js ks : List ℕ) → elem j (js ++ ks) ≡ false → elem j js ≡ false
unfolding any
none_left j [] ks e = refl
none_left j (i ∷ js) ks e = by_cases (eqb j i) (λ q. absurd (true≢false (rw q at e))) (λ q. rw q (none_left j js ks (rw q at e)))

-- in a longer list of regions
pub changed_within : {js : List ℕ} (ks : List ℕ) {st st' : ℕ → List ℕ} → all (λ j. elem j ks) js ≡ true → Changed js st st' → Changed ks st st'
changed_within {js} ks h p = record { same = λ j o. p.same j (contrary (elem j js) (elem j ks) (inner j) o) }
  where
    inner : (j : ℕ) → elem j js ≡ true → elem j ks ≡ true
    inner j e = go (any_out (eqb j) js e)
      where
        go : (x : ℕ) × (x ∈ js) × (eqb j x ≡ true) → elem j ks ≡ true
        go w = rw (eqb-true j w.0 w.2) (all_out (λ k. elem k ks) js h w.0 w.1)

-- ---- the regions of an area

module _ (l : Limits) (bytes : List ℕ) where
  -- each is as long as the layout says
  pub length_held : (j : ℕ) → Fits l (length bytes) → length (held l bytes j) ≡ size_of (sizes l) j
  unfolding held regions part
  length_held j f =
      let whole : sum (sizes l) ≡ 20614 + 8 * l.variables + l.literals + l.waiting = unfold sizes sum in omega arith in
      length-take-le (size_of (sizes l) j) (drop (start_of (sizes l) j) (words bytes))
      (rw (length-drop, length_words) (omega (arith, ends_within (sizes l) j, whole, f.long)))

  pub length_slots : Fits l (length bytes) → length (held l bytes 0) ≡ 2881
  length_slots f = length_held 0 f ∙ unfold size_of sizes in refl

  pub length_variables : Fits l (length bytes) → length (held l bytes 16) ≡ 3 * l.variables
  length_variables f = length_held 16 f ∙ unfold size_of sizes in refl

  pub length_values : Fits l (length bytes) → length (held l bytes 17) ≡ l.variables
  length_values f = length_held 17 f ∙ unfold size_of sizes in refl

  pub length_decisions : Fits l (length bytes) → length (held l bytes 18) ≡ 4 * l.variables
  length_decisions f = length_held 18 f ∙ unfold size_of sizes in refl

-- ---- regions of zeros

module _ (w w' : List ℕ) (from to : ℕ) (z : words.Zeroed from to w w') where
  -- a 0 stays a 0
  zero_still : (i : ℕ) → get_or w i 0 ≡ 0 → get_or w' i 0 ≡ 0
  zero_still i e = elim (dec_lt i from) [
    | yes h ↦ z.others i (λ p q. omega arith) ∙ e
    | no h ↦ elim (dec_lt i to) [ yes k ↦ z.zeros i (omega arith) k | no k ↦ z.others i (λ p q. omega arith) ∙ e ]
  ]

part_blank : (a b : ℕ) (w : List ℕ) → ((i : ℕ) → i < b → get_or w (a + i) 0 ≡ 0) → (i : ℕ) → get_or (part a b w) i 0 ≡ 0
part_blank a b w h i = elim (dec_lt i b) [ yes k ↦ sym (at_in w a b i 0 k (sym (h i k))) | no k ↦ sym (at_past w a b i (omega arith)) ]

module _ (l : Limits) (b b' : List ℕ) (from to x y : ℕ) (e : x ≡ start_of (sizes l) from) (d : y ≡ start_of (sizes l) to) (z : words.Zeroed x y (words b) (words b')) where
  part_of : (j i : ℕ) → i < size_of (sizes l) j → get_or (held l b j) i 0 ≡ get_or (words b) (start_of (sizes l) j + i) 0
  unfolding held regions
  part_of j i h = sym (at_in (words b) (start_of (sizes l) j) (size_of (sizes l) j) i _ h refl)

  -- the regions between two starts
  pub regions_zeroed : Zeroed from to (held l b) (held l b')
  unfolding held regions
  regions_zeroed = record {
    blank = λ j p q. record { zeros = part_blank (start_of (sizes l) j) (size_of (sizes l) j) (words b') (λ i h. z.zeros (start_of (sizes l) j + i) (later j i p) (earlier j i h q)) };
    still = λ j f. record { zeros = part_blank (start_of (sizes l) j) (size_of (sizes l) j) (words b') (λ i h. zero_still (words b) (words b') x y z _ (sym (part_of j i h) ∙ f.zeros i)) };
  }
    where
      later : (j i : ℕ) → from ≤ j → x ≤ start_of (sizes l) j + i
      later j i p = elim (dec_lt from j) [ yes h ↦ omega (arith, follows (sizes l) from j h) | no h ↦ let q : from ≡ j = omega arith in rw (e, q) (omega arith) ]

      earlier : (j i : ℕ) → i < size_of (sizes l) j → j < to → start_of (sizes l) j + i < y
      earlier j i h q = omega (arith, follows (sizes l) j to q)

pub cleared : {s₀ s₁ s₂ s₃ : ℕ → List ℕ} → Zeroed 0 13 s₀ s₁ → Zeroed 15 16 s₁ s₂ → Zeroed 17 18 s₂ s₃ → Cleared s₃
cleared f g h =
    record {
      first = λ j p. h.still j (g.still j (f.blank j (omega arith) p));
      ranges = h.still 15 (g.blank 15 (omega arith) (omega arith));
      values = h.blank 17 (omega arith) (omega arith);
    }
