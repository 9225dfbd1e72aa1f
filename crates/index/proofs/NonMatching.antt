-- First non-matching parts of ranges: one is found along the parts of its name, and stored in the range's row. Assumes that the parts are linked.
use mathlib.Core.Path.{◌≡◌, refl, sym, ◌∙◌}
use mathlib.Core.Bool.{Bool, true, false, not}
use mathlib.Core.List.{List}
use Prim.Native.Nat.{ℕ, ◌+◌, ◌*◌, ◌<◌, ◌≤◌}
use native.Mathlib.Omega.{arith}
use native.Mathlib.Decide.{dec_lt, ℕ_discrete}
use lib.ListN.{length, get_or, set}
use lib.Seq.{get_or-set_same, get_or-set_other}
use borrow.Author.Tests.{eq-eqb, ne_eqb}
use Rattle.rules.specs.Catalogue.{no_part}
use Rattle.words.specs.Words.{words, words_in}
use Rattle.marks.specs.Marks.{is_marked}
use Rattle.tables.specs.declared.Counts.{Counts}
use Rattle.tables.specs.Tables.{Tables, tables, Laid}
use Rattle.tables.proofs.Laws.{part_in}
use Rattle.index.specs.Chains.{First, Skips, Chain, parts_by_name, key_of, Linked, Only, is_non_matching, FirstNonMatching, non_matching_heads, Noted, NonMatchingNoted, Noting}
use Rattle.index.proofs.Chaining.{Beside, only_none, only_then, only_head, linked_beside}
use Rattle.index.proofs.Places as places

-- ---- one part

module _ (t : Tables) (m : List ℕ) (r p n x : ℕ) (e : n ≡ (get_or t.parts p no_part).name) (d : x ≡ get_or t.ranges r 0) where
  pub non_matching_other : (n ≡ x → ⊥) → false ≡ is_non_matching t m r p
  unfolding is_non_matching
  non_matching_other h = rw (← e, ← d, ne_eqb n x h)

  pub non_matching_here : (b : Bool) → n ≡ x → b ≡ is_marked m r p → not b ≡ is_non_matching t m r p
  unfolding is_non_matching
  non_matching_here b h i = rw (← e, ← d, eq-eqb n x h, ← i)

-- ---- along the parts of the range's name

module _ (k : Counts) (m t : List ℕ) (r name : ℕ) (is : name ≡ get_or (tables k t).ranges r 0) where
  -- parts of other names are none
  pub others_passed : {from x : ℕ} → First k.parts (key_of parts_by_name (words t)) name from x → Skips k.parts (is_non_matching (tables k t) m r) from x
  others_passed {from} {x} f = record { onward = f.onward; inside = f.inside; none = passed }
    where
      passed : (i : ℕ) → from ≤ i → i < x → is_non_matching (tables k t) m r i ≡ false
      passed i a b =
          let l : i < k.parts = (let z = f.inside in omega arith) in
          sym (non_matching_other (tables k t) m r i (key_of parts_by_name (words t) i) name (unfold key_of in rw (part_in k t i l)) is (f.none i a b))

  pub search_on : {p x : ℕ} (b : Bool) → Skips k.parts (is_non_matching (tables k t) m r) 0 p → b ≡ is_non_matching (tables k t) m r p → b ≡ false
      → First k.parts (key_of parts_by_name (words t)) name (p + 1) x → Skips k.parts (is_non_matching (tables k t) m r) 0 x
  search_on {p} {x} b s e z f = record { onward = omega arith; inside = f.inside; none = passed }
    where
      passed : (i : ℕ) → 0 ≤ i → i < x → is_non_matching (tables k t) m r i ≡ false
      passed i a c = elim (dec_lt i p) [
        | yes l ↦ s.none i a l
        | no l ↦ elim (ℕ_discrete i p) [
          | yes q ↦ rw q (sym e ∙ z)
          | no q ↦ (others_passed f).none i (behind i l q) c
        ]
      ]
        where
          behind : (i : ℕ) → (i < p → ⊥) → (i ≡ p → ⊥) → p + 1 ≤ i
          behind i l q = omega arith

module _ {n : ℕ} {t : Tables} {m : List ℕ} {r p : ℕ} (s : Skips n (is_non_matching t m r) 0 p) where
  pub search_found : (b : Bool) → b ≡ is_non_matching t m r p → b ≡ true → FirstNonMatching n t m r p
  search_found b e z = record { skips = s; here = λ h. sym e ∙ z }

  pub search_ended : n ≤ p → FirstNonMatching n t m r n
  search_ended h =
      let e : p ≡ n = (let z = s.inside in omega arith) in
      record { skips = rw e at s; here = λ l. (let none : ⊥ = omega arith in absurd none) }

-- ---- they are stored

pub noted_start : (k : Counts) (m t : List ℕ) → Noting k m 0 t t
noted_start k m t = record { same = refl; only = only_none non_matching_heads 0 k.ranges (words t); noted = record { firsts = λ r l. (let none : ⊥ = omega arith in absurd none) } }

pub still_linked : {k : Counts} {m t u : List ℕ} {r : ℕ} → Laid k (length t) → Linked parts_by_name k.parts k.names 0 (words t) → Noting k m r t u
    → Linked parts_by_name k.parts k.names 0 (words u)
still_linked {k} {m} {t} l d g = linked_beside (places.parts_beside_non_matching k t l) g.only d

pub noted_more : {k : Counts} {m t u v : List ℕ} {r x : ℕ} → Laid k (length u) → Noting k m r t u → r < k.ranges → FirstNonMatching k.parts (tables k u) m r x
    → words v ≡ set (words u) (9604 + 4 * r + 1) x → Noting k m (r + 1) t v
noted_more {k} {m} {t} {u} {v} {r} {x} l' g h f e =
    record {
      same = same ∙ g.same;
      only = only_then g.only (rw e (only_head non_matching_heads 0 k.ranges r x (words u) h));
      noted = record { firsts = λ i q. rw same (there i q) };
    }
  where
    same : tables k v ≡ tables k u
    same = unfold tables in rw e (places.non_matching_free k u l' r x (words u) h)

    place : 9604 + 4 * r + 1 < length (words u)
    place = words_in u (9604 + 4 * r + 1) (let a = l'.fits in let b = l'.ranges in omega arith)

    there : (i : ℕ) → i < r + 1 → FirstNonMatching k.parts (tables k u) m i (get_or (words v) (9604 + 4 * i + 1) 0)
    there i q = elim (ℕ_discrete i r) [
      | yes d ↦ rw (d, e, get_or-set_same (words u) (9604 + 4 * r + 1) x 0 place) f
      | no d ↦ rw (e, get_or-set_other (words u) (9604 + 4 * r + 1) (9604 + 4 * i + 1) x 0 (λ y. d (omega arith))) (g.noted.firsts i (omega arith))
    ]

pub noted_end : {k : Counts} {m t u : List ℕ} {r : ℕ} → Noting k m r t u → k.ranges ≤ r → Noting k m k.ranges t u
noted_end g h = record { same = g.same; only = g.only; noted = record { firsts = λ i l. g.noted.firsts i (omega arith) } }

-- a store beside them keeps them
pub noted_beside : {k : Counts} {m : List ℕ} {g : Chain} {n top : ℕ} {t u : List ℕ} → Beside non_matching_heads 0 k.ranges g n top → tables k u ≡ tables k t
    → Only g n top (words t) (words u) → NonMatchingNoted k m t → NonMatchingNoted k m u
noted_beside b same o (NonMatchingNoted.noted f) =
    NonMatchingNoted.noted (record { firsts = λ r h. rw (same, o.others _ (b.heads r h).0 (b.heads r h).1) (f.firsts r h) })

-- ---- and read

opened : {k : Counts} {m t : List ℕ} → NonMatchingNoted k m t → Noted k m k.ranges t
opened (NonMatchingNoted.noted f) = f
