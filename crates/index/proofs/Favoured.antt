-- Bounds of the favoured parts of names: they are stored part by part from the last, and a walk passes over what lies outside.
use mathlib.Core.Path.{◌≡◌, refl, sym, ap, ◌∙◌}
use mathlib.Core.Bool.{Bool, true, false, ◌&&◌, false≢true}
use mathlib.Core.List.{List}
use Prim.Native.Nat.{ℕ, ◌+◌, ◌*◌, ◌<◌, ◌≤◌, max}
use native.Mathlib.Omega.{arith}
use native.Mathlib.Decide.{dec_lt, ℕ_discrete}
use lib.Dec.{eqb}
use lib.ListN.{length, get_or, set, length-set}
use lib.Seq.{get_or-set_same, get_or-set_other}
use borrow.Author.Tests.{eqb-true}
use Rattle.rules.specs.Catalogue.{no_part}
use Rattle.rules.proofs.Bools.{by_cases, and_left, and_right}
use Rattle.words.specs.Words.{words}
use Rattle.tables.specs.declared.Counts.{Counts}
use Rattle.tables.specs.Tables.{Tables, tables, Laid}
use Rattle.index.specs.Chains.{Chain, parts_by_name, key_of, Keyed, Key, Only, favoured_bounds, is_favoured, Favoured, FavouredBounded, favoured_of, Chains, Favouring, Skips}
use Rattle.index.proofs.Chaining.{Beside, only_none, only_then, only_head, only_link, key_beside, keyed_beside}
use Rattle.index.proofs.Places as places

favoured_same : (k : Counts) (t u : List ℕ) (p : ℕ) → tables k u ≡ tables k t → is_favoured k u p ≡ is_favoured k t p
unfolding is_favoured
favoured_same k t u p e = ap (λ (x : Tables). (get_or x.parts p no_part).favoured) e

-- ---- the bounds are stored

none_left : (k : Counts) (t : List ℕ) → Favoured k k.parts t
none_left k t = record { above = λ x p h a b e f. omega arith; below = λ x p h a b e f. omega arith }

pub favoured_start : (k : Counts) (t : List ℕ) → Favouring k k.parts t t
favoured_start k t = record { same = refl; only = only_none favoured_bounds k.names k.names (words t); favoured = none_left k t }

pub favoured_rest : {k : Counts} {x : ℕ} {t u v : List ℕ} → Laid k (length u) → Favouring k k.parts t u → x < k.names
    → words v ≡ set (words u) (6 * x + 5) 0 → Favouring k k.parts t v
unfolding tables
favoured_rest {k} {x} {t} {u} {v} m g h e =
    record {
      same = rw e (places.favoured_link_free k u m x 0 (words u) h ∙ g.same);
      only = only_then g.only (rw e (only_link favoured_bounds k.names k.names x 0 (words u) h));
      favoured = none_left k v;
    }

module _ {k : Counts} {i : ℕ} {t : List ℕ} (g : Favoured k (i + 1) t) where
  pub favoured_passed : (b : Bool) → b ≡ (get_or (tables k t).parts i no_part).favoured → b ≡ false → Favouring k i t t
  unfolding is_favoured
  favoured_passed b e f =
      record {
        same = refl;
        only = only_none favoured_bounds k.names k.names (words t);
        favoured = record { above = λ x p h a c q r. g.above x p h (later p a r) c q r; below = λ x p h a c q r. g.below x p h (later p a r) c q r };
      }
    where
      later : (p : ℕ) → i ≤ p → (get_or (tables k t).parts p no_part).favoured ≡ true → i + 1 ≤ p
      later p a r = elim (ℕ_discrete p i) [
        | yes q ↦ absurd (false≢true (sym f ∙ (e ∙ rw q at r)))
        | no q ↦ omega arith
      ]

  -- the bounds of name n, which part i has, now have it within
  module _ {n : ℕ} (u : List ℕ) (q : Key parts_by_name k.names (words t) i n) (same : tables k u ≡ tables k t)
      (only : Only favoured_bounds k.names k.names (words t) (words u)) (keys : (p : ℕ) → p < k.parts → key_of parts_by_name (words u) p ≡ key_of parts_by_name (words t) p)
      (first : get_or (words u) (6 * n + 4) 0 ≡ i) (end : get_or (words t) (6 * n + 5) 0 ≤ get_or (words u) (6 * n + 5) 0) (in_end : i < get_or (words u) (6 * n + 5) 0)
      (others : (x : ℕ) → (x ≡ n → ⊥) → (get_or (words u) (6 * x + 4) 0 ≡ get_or (words t) (6 * x + 4) 0) × (get_or (words u) (6 * x + 5) 0 ≡ get_or (words t) (6 * x + 5) 0)) where
    before : (p : ℕ) → is_favoured k u p ≡ true → is_favoured k t p ≡ true
    before p r = sym (favoured_same k t u p same) ∙ r

    above : (x p : ℕ) → x < k.names → i ≤ p → p < k.parts → key_of parts_by_name (words u) p ≡ x → is_favoured k u p ≡ true → get_or (words u) (6 * x + 4) 0 ≤ p
    above x p h a c e r = elim (ℕ_discrete x n) [
      | yes d ↦ rw (d, first) a
      | no d ↦ rw (others x d).0 (elim (ℕ_discrete p i) [
        | yes w ↦ absurd (d (sym e ∙ (keys p c ∙ (ap (key_of parts_by_name (words t)) w ∙ sym q.is))))
        | no w ↦ g.above x p h (omega arith) c (sym (keys p c) ∙ e) (before p r)
      ])
    ]

    below : (x p : ℕ) → x < k.names → i ≤ p → p < k.parts → key_of parts_by_name (words u) p ≡ x → is_favoured k u p ≡ true → p < get_or (words u) (6 * x + 5) 0
    below x p h a c e r = elim (ℕ_discrete p i) [
      | yes w ↦ (let d : x ≡ n = sym e ∙ (keys p c ∙ (ap (key_of parts_by_name (words t)) w ∙ sym q.is)) in rw (d, w) in_end)
      | no w ↦ (let old = g.below x p h (omega arith) c (sym (keys p c) ∙ e) (before p r) in elim (ℕ_discrete x n) [
        | yes d ↦ (let o : p < get_or (words t) (6 * n + 5) 0 = rw d at old in let z : p < get_or (words u) (6 * n + 5) 0 = omega arith in rw d z)
        | no d ↦ rw (others x d).1 old
      ])
    ]

    within : Favouring k i t u
    within = record { same = same; only = only; favoured = record { above = above; below = below } }

-- ---- the two ways of `bound_favoured`

module _ {k : Counts} {i n : ℕ} {t : List ℕ} (u : List ℕ) (l : Laid k (length t)) (g : Favoured k (i + 1) t) (q : Key parts_by_name k.names (words t) i n) {end : ℕ}
    (e : end ≡ get_or (words t) (6 * n + 5) 0) (f : words u ≡ set (words t) (6 * n + 4) i) where
  apart_first : (x : ℕ) → (x ≡ n → ⊥) → get_or (set (words t) (6 * n + 4) i) (6 * x + 4) 0 ≡ get_or (words t) (6 * x + 4) 0
  apart_first x d = get_or-set_other (words t) (6 * n + 4) (6 * x + 4) i 0 (λ y. d (omega arith))

  apart_end : (x : ℕ) → get_or (set (words t) (6 * n + 4) i) (6 * x + 5) 0 ≡ get_or (words t) (6 * x + 5) 0
  apart_end x = get_or-set_other (words t) (6 * n + 4) (6 * x + 5) i 0 (λ y. omega arith)

  only_first : Only favoured_bounds k.names k.names (words t) (words u)
  only_first = rw f (only_head favoured_bounds k.names k.names n i (words t) q.low)

  same_first : tables k u ≡ tables k t
  unfolding tables
  same_first = rw f (places.favoured_head_free k t l n i (words t) q.low)

  head_in : 6 * n + 4 < length (words t)
  head_in = (places.favoured_apart k t l).heads_in n q.low

  pub favoured_kept : i < end → Favouring k i t u
  favoured_kept h =
      let still : get_or (words u) (6 * n + 5) 0 ≡ get_or (words t) (6 * n + 5) 0 = rw f (apart_end n) in
      within g u q same_first only_first (places.keys_beside k t l only_first) (rw f (get_or-set_same (words t) (6 * n + 4) i 0 head_in)) (omega arith) (omega arith)
      (λ x d. (rw f (apart_first x d), rw f (apart_end x)))

  module _ (v : List ℕ) (c : words v ≡ set (words u) (6 * n + 5) (i + 1)) where
    only_both : Only favoured_bounds k.names k.names (words t) (words v)
    only_both = only_then only_first (rw c (only_link favoured_bounds k.names k.names n (i + 1) (words u) q.low))

    end_in : 6 * n + 5 < length (words u)
    end_in = rw (f, length-set) ((places.favoured_apart k t l).links_in n q.low)

    same_both : tables k v ≡ tables k t
    unfolding tables
    same_both = rw c (places.favoured_link_free k t l n (i + 1) (words u) q.low) ∙ same_first

    pub favoured_moved : end ≤ i → Favouring k i t v
    favoured_moved h =
        let now : get_or (words v) (6 * n + 5) 0 ≡ i + 1 = rw c (get_or-set_same (words u) (6 * n + 5) (i + 1) 0 end_in) in
        within g v q same_both only_both (places.keys_beside k t l only_both)
        (rw c (get_or-set_other (words u) (6 * n + 5) (6 * n + 4) (i + 1) 0 (λ y. omega arith) ∙ rw f (get_or-set_same (words t) (6 * n + 4) i 0 head_in))) (omega arith) (omega arith)
        (λ x d. (
          rw c (get_or-set_other (words u) (6 * n + 5) (6 * x + 4) (i + 1) 0 (λ y. omega arith) ∙ rw f (apart_first x d)),
          rw c (get_or-set_other (words u) (6 * n + 5) (6 * x + 5) (i + 1) 0 (λ y. d (omega arith)) ∙ rw f (apart_end x)),
        ))

-- ---- the loop

pub favoured_then : {k : Counts} {i j : ℕ} {s t u : List ℕ} → Favouring k j s t → Favouring k i t u → Favouring k i s u
favoured_then a b = record { same = b.same ∙ a.same; only = only_then a.only b.only; favoured = b.favoured }

pub favoured_keyed : {k : Counts} {i j : ℕ} {s t u : List ℕ} → Laid k (length s) → Keyed parts_by_name k.parts k.names (words s) → Favouring k j s t → Favouring k i t u
    → Keyed parts_by_name k.parts k.names (words u)
favoured_keyed {k} {i} {j} {s} l d a b = keyed_beside (places.parts_beside_favoured k s l) (favoured_then a b).only d

pub favoured_end : {k : Counts} {i j : ℕ} {s t u : List ℕ} → Favouring k j s t → Favouring k i t u → i ≤ 0 → Favouring k 0 s u
favoured_end {i = i} a b h = let e : i ≡ 0 = omega arith in rw e at (favoured_then a b)

-- a store beside the names' bounds and beside the parts' keys keeps them
pub favoured_beside : {k : Counts} {g : Chain} {n top : ℕ} {t u : List ℕ} → Beside parts_by_name k.parts k.names g n top → Beside favoured_bounds k.names k.names g n top
    → tables k u ≡ tables k t → Only g n top (words t) (words u) → FavouredBounded k t → FavouredBounded k u
favoured_beside {k} {t = t} {u = u} b d same o (FavouredBounded.bounded g) =
    FavouredBounded.bounded (record {
      above = λ x p h a c e r. rw (o.others _ (d.heads x h).0 (d.heads x h).1) (g.above x p h a c (sym (keys p c) ∙ e) (before p r));
      below = λ x p h a c e r. rw (o.others _ (d.links x h).0 (d.links x h).1) (g.below x p h a c (sym (keys p c) ∙ e) (before p r));
    })
  where
    keys : (p : ℕ) → p < k.parts → key_of parts_by_name (words u) p ≡ key_of parts_by_name (words t) p
    keys = key_beside b o

    before : (p : ℕ) → is_favoured k u p ≡ true → is_favoured k t p ≡ true
    before p r = sym (favoured_same k t u p same) ∙ r

-- ---- walking

opened : {k : Counts} {t : List ℕ} → FavouredBounded k t → Favoured k 0 t
opened (FavouredBounded.bounded g) = g

module _ {k : Counts} {m t : List ℕ} (name : ℕ) {from : ℕ} (d : Chains k m t) (h : from ≤ k.parts) where
  outside : (x : ℕ) → from ≤ x → x ≤ k.parts → ((p : ℕ) → from ≤ p → p < x → key_of parts_by_name (words t) p ≡ name → is_favoured k t p ≡ true → ⊥)
      → Skips k.parts (favoured_of k t name) from x
  unfolding favoured_of
  outside x a b none =
      record {
        onward = a;
        inside = b;
        none = λ p y z. by_cases (eqb (key_of parts_by_name (words t) p) name && is_favoured k t p)
            (λ e. absurd (none p y z (eqb-true _ _ (and_left (eqb (key_of parts_by_name (words t) p) name) (is_favoured k t p) e)) (and_right (eqb (key_of parts_by_name (words t) p) name) (is_favoured k t p) e))) (λ e. e);
      }

  module _ (low : name < k.names) where
    pub favoured_past : {end : ℕ} → end ≡ get_or (words t) (6 * name + 5) 0 → end ≤ from → Skips k.parts (favoured_of k t name) from k.parts
    favoured_past e g = outside k.parts h (omega arith) (λ p y z q f. (let o = (opened d.favoured).below name p low (omega arith) z q f in omega arith))

    pub favoured_none : {first : ℕ} → first ≡ get_or (words t) (6 * name + 4) 0 → k.parts ≤ first → Skips k.parts (favoured_of k t name) from k.parts
    favoured_none e g = outside k.parts h (omega arith) (λ p y z q f. (let o = (opened d.favoured).above name p low (omega arith) z q f in omega arith))

    pub favoured_ahead : {first : ℕ} → first ≡ get_or (words t) (6 * name + 4) 0 → first < k.parts → from < first → Skips k.parts (favoured_of k t name) from first
    favoured_ahead {first} e g y = outside first (omega arith) (omega arith) (λ p a z q f. (let o = (opened d.favoured).above name p low (omega arith) (before z g) q f in omega arith))
      where
        before : {p : ℕ} → p < first → first < k.parts → p < k.parts
        before z g = omega arith

    pub favoured_max : {first x : ℕ} → first ≡ get_or (words t) (6 * name + 4) 0 → first < k.parts → x ≡ max from first → Skips k.parts (favoured_of k t name) from x
    favoured_max {first} e g q = elim (dec_lt from first) [
      | yes y ↦ (let z : max from first ≡ first = omega arith in rw (q, z) (favoured_ahead e g y))
      | no y ↦ (let z : max from first ≡ from = omega arith in rw (q, z) (outside from (omega arith) h (λ p a b c f. omega arith)))
    ]
