-- The functions of the crate against the chains: a law for each way out.
use mathlib.Core.Path.{◌≡◌, refl, sym, ap, ◌∙◌}
use mathlib.Core.List.{List}
use Prim.Native.Nat.{ℕ, ◌+◌, ◌*◌, ◌<◌, ◌≤◌}
use native.Mathlib.Omega.{arith}
use native.Mathlib.Decide.{ℕ_discrete}
use lib.ListN.{length, get_or, set, length-set}
use lib.Seq.{get_or-set_same, get_or-set_other}
use Rattle.words.specs.Words.{words, length_words}
use Rattle.marks.specs.Marks.{NextMember, EndOfMembers}
use Rattle.tables.specs.declared.Counts.{Counts}
use Rattle.tables.specs.Tables.{tables_in, tables, Laid}
use Rattle.index.specs.Chains.{First, Chain, parts_by_name, requirements_by_owner, constraints_by_owner, key_of, Linked, Key, Keyed, Only, range_bounds, FavouredBounded, Bounded, Keys, Linking, Heading, BoundSet, bound_set, Bounding, Favouring, NonMatchingNoted, Noting, Chained}
use Rattle.index.specs.Placed.{Apart, Placed}
use Rattle.index.proofs.Chaining.{Beside, only_none, only_then, only_head, only_link, linked_only, linked_more, keyed_kept, keyed_beside, linked_beside}
use Rattle.index.proofs.Places as places
use Rattle.index.proofs.Favoured.{favoured_beside}

-- ---- where the numbers of a chain stand

module _ {h : Chain} {k : Counts} {n most : ℕ} (b : List ℕ) (p : Placed h k n most (length (words b))) where
  pub head_low : {x : ℕ} → x < most → x ≤ 1025
  head_low l = let m = p.low in omega arith

  pub row_low : {i : ℕ} → i < n → i ≤ 1024
  row_low l = let m = p.few in omega arith

  pub head_room : {x a : ℕ} → x < most → a ≡ h.head_at x → a * 2 + 1 < length b
  head_room {x} l e = let m = p.apart.heads_in x l in omega (arith, length_words b)

  pub key_room : {i a : ℕ} → i < n → a ≡ h.key_at i → a * 2 + 1 < length b
  key_room {i} l e = let m = p.keys_in i l in omega (arith, length_words b)

  pub link_room : {i a : ℕ} → i < n → a ≡ h.link_at i → a * 2 + 1 < length b
  link_room {i} l e = let m = p.apart.links_in i l in omega (arith, length_words b)

pub next_row_of : {h : Chain} {n most i x a b y z r : ℕ} {w : List ℕ} → Linked h n most 0 w → i < n → a ≡ h.key_at i → y ≡ get_or w a 0 → z ≡ h.row y → z ≡ x
    → b ≡ h.link_at i → r ≡ get_or w b 0 → First n (key_of h w) x (i + 1) r
next_row_of {h} {i = i} {x = x} {w = w} d l e f g q u v =
    let o : key_of h w i ≡ x = unfold key_of in (ap (λ (m : ℕ). h.row (get_or w m 0)) (sym e) ∙ (ap h.row (sym f) ∙ (sym g ∙ q))) in
    rw (v, u) (rw o at (d.links i (omega arith) l))

-- ---- heads

pub heading_none : (h : Chain) (k : Counts) (n most : ℕ) (t : List ℕ) → Heading h k n most 0 t t
heading_none h k n most t = record { same = refl; only = only_none h n most (words t); set = λ y l. (let none : ⊥ = omega arith in absurd none) }

pub heading_more : {h : Chain} {k : Counts} {n most x : ℕ} {t u v : List ℕ} → Apart h n most (length (words u)) → Heading h k n most x t u → x < most
    → words v ≡ set (words u) (h.head_at x) n → tables_in k (set (words u) (h.head_at x) n) ≡ tables_in k (words u) → Heading h k n most (x + 1) t v
unfolding tables
heading_more {h} {k} {n} {most} {x} {t} {u} {v} p g l e f =
    record {
      same = rw e (f ∙ g.same);
      only = only_then g.only (rw e (only_head h n most x n (words u) l));
      set = λ y m. rw e (there y m);
    }
  where
    there : (y : ℕ) → y < x + 1 → get_or (set (words u) (h.head_at x) n) (h.head_at y) 0 ≡ n
    there y m = elim (ℕ_discrete y x) [
      | yes q ↦ rw q (get_or-set_same (words u) (h.head_at x) n 0 (p.heads_in x l))
      | no q ↦ get_or-set_other (words u) (h.head_at x) (h.head_at y) n 0 (λ r. q (p.heads y x (lower y m) l r)) ∙ g.set y (below y m q)
    ]
      where
        lower : (y : ℕ) → y < x + 1 → y < most
        lower y m = omega arith

        below : (y : ℕ) → y < x + 1 → (y ≡ x → ⊥) → y < x
        below y m q = omega arith

-- ---- a row more

pub key_low : {h : Chain} {n most i a y z : ℕ} {w : List ℕ} → Keyed h n most w → i < n → a ≡ h.key_at i → y ≡ get_or w a 0 → z ≡ h.row y → z < most
key_low {h} {i = i} {z = z} {w = w} d l e f g =
    let q : key_of h w i ≡ z = unfold key_of in (ap (λ (m : ℕ). h.row (get_or w m 0)) (sym e) ∙ (ap h.row (sym f) ∙ sym g)) in
    rw q at (d.low i l)

pub linked_one : {h : Chain} {k : Counts} {n most i a y z b c : ℕ} {t u : List ℕ} → Placed h k n most (length (words t)) → Keyed h n most (words t)
    → Linked h n most (i + 1) (words t) → i < n → a ≡ h.key_at i → y ≡ get_or (words t) a 0 → z ≡ h.row y → b ≡ h.head_at z → c ≡ h.link_at i
    → words u ≡ set (set (words t) c (get_or (words t) b 0)) b i → Linking h k n most i t u
unfolding tables
linked_one {h} {k} {n} {most} {i} {z = z} {t = t} {u = u} p d m l e f g q o v =
    let is : z ≡ key_of h (words t) i = unfold key_of in (g ∙ (ap h.row f ∙ ap (λ (j : ℕ). h.row (get_or (words t) j 0)) e)) in
    let put : words u ≡ set (set (words t) (h.link_at i) (get_or (words t) (h.head_at (key_of h (words t) i)) 0)) (h.head_at (key_of h (words t) i)) i = v ∙ rw (o, q, is) in
    record {
      same = rw put (p.head_free (key_of h (words t) i) i _ (d.low i l) ∙ p.link_free i _ (words t) l);
      only = linked_only p.apart m l (d.low i l) put;
      linked = linked_more p.apart m l (d.low i l) put;
    }

-- ---- all

pub bounded_beside : {k : Counts} {m : List ℕ} {g : Chain} {n top : ℕ} {w w' : List ℕ} → Beside range_bounds k.ranges k.ranges g n top
    → Only g n top w w' → Bounded k m k.ranges w → Bounded k m k.ranges w'
bounded_beside b o g =
    record {
      firsts = λ r h. rw (o.others _ (b.heads r h).0 (b.heads r h).1) (g.firsts r h);
      ends = λ r h. rw (o.others _ (b.links r h).0 (b.links r h).1) (g.ends r h);
    }

-- the parts' keys are where they were
pub parts_keyed_last : {k : Counts} {m t u v w x : List ℕ} → Laid k (length t) → Keys k t → Linking parts_by_name k k.parts k.names 0 t u
    → Linking requirements_by_owner k k.requirements (k.parts + 1) 0 u v → Linking constraints_by_owner k k.constraints (k.parts + 1) 0 v w → Bounding k m k.ranges w x
    → Keyed parts_by_name k.parts k.names (words x)
parts_keyed_last {k} {m} {t} l d a b c e =
    keyed_beside (places.parts_beside_ranges k t l) e.only
    (keyed_beside (places.parts_beside_constraints k t l) c.only
    (keyed_beside (places.parts_beside_requirements k t l) b.only (keyed_kept (places.parts_apart k t l) a.only d.parts)))

-- what each stage leaves of the others
module _ {k : Counts} {m t u v w x y : List ℕ} (l : Laid k (length t)) (a : Linking parts_by_name k k.parts k.names 0 t u)
    (b : Linking requirements_by_owner k k.requirements (k.parts + 1) 0 u v) (c : Linking constraints_by_owner k k.constraints (k.parts + 1) 0 v w)
    (d : Bounding k m k.ranges w x) (f : Favouring k 0 x y) where
  pub parts_linked_last : Linked parts_by_name k.parts k.names 0 (words y)
  parts_linked_last =
      linked_beside (places.parts_beside_favoured k t l) f.only (linked_beside (places.parts_beside_ranges k t l) d.only
      (linked_beside (places.parts_beside_constraints k t l) c.only (linked_beside (places.parts_beside_requirements k t l) b.only a.linked)))

  pub all_built : {z : List ℕ} → Noting k m k.ranges y z → Chained k m t z
  all_built g =
      record {
        same = g.same ∙ (f.same ∙ (d.same ∙ (c.same ∙ (b.same ∙ a.same))));
        chains = record {
          parts = linked_beside (places.parts_beside_non_matching k t l) g.only parts_linked_last;
          requirements = linked_beside (places.requirements_beside_non_matching k t l) g.only (linked_beside (places.requirements_beside_favoured k t l) f.only
              (linked_beside (places.requirements_beside_ranges k t l) d.only (linked_beside (places.requirements_beside_constraints k t l) c.only b.linked)));
          constraints = linked_beside (places.constraints_beside_non_matching k t l) g.only
              (linked_beside (places.constraints_beside_favoured k t l) f.only (linked_beside (places.constraints_beside_ranges k t l) d.only c.linked));
          ranges = bounded_beside (places.ranges_beside_non_matching k t l) g.only (bounded_beside (places.ranges_beside_favoured k t l) f.only d.bounded);
          favoured = favoured_beside (places.parts_beside_non_matching k t l) (places.favoured_beside_non_matching k t l) g.same g.only (FavouredBounded.bounded f.favoured);
          non_matching_law = NonMatchingNoted.noted g.noted;
        };
      }

pub requirements_keyed : {k : Counts} {t u : List ℕ} → Laid k (length t) → Keys k t → Linking parts_by_name k k.parts k.names 0 t u
    → Keyed requirements_by_owner k.requirements (k.parts + 1) (words u)
requirements_keyed {k} {t} l d a = keyed_beside (places.requirements_beside_parts k t l) a.only d.requirements

pub constraints_keyed : {k : Counts} {t u v : List ℕ} → Laid k (length t) → Keys k t → Linking parts_by_name k k.parts k.names 0 t u
    → Linking requirements_by_owner k k.requirements (k.parts + 1) 0 u v → Keyed constraints_by_owner k.constraints (k.parts + 1) (words v)
constraints_keyed {k} {t} l d a b = keyed_beside (places.constraints_beside_requirements k t l) b.only (keyed_beside (places.constraints_beside_parts k t l) a.only d.constraints)

-- ---- walking

pub parts_key : (k : Counts) (t : List ℕ) {a y i : ℕ} → Keyed parts_by_name k.parts k.names (words t) → i < k.parts → a ≡ 384 + 5 * i → y ≡ get_or (words t) a 0
    → Key parts_by_name k.names (words t) i y
unfolding key_of
parts_key k t d h e f = let q = f ∙ ap (λ (x : ℕ). get_or (words t) x 0) e in record { is = q; low = rw q (d.low _ h) }

-- ---- bounds of ranges

pub bounds_stored : {k : Counts} {m m' m'' : List ℕ} (t u v : List ℕ) (r first end : ℕ) → m' ≡ m → NextMember m' r 0 k.parts first → m'' ≡ m → EndOfMembers m'' r k.parts end
    → words u ≡ set (words t) (9604 + 4 * r + 2) first → words v ≡ set (words u) (9604 + 4 * r + 3) end → BoundSet k m r (words t) (words v)
bounds_stored t u v r first end c a d b e f = bound_set first end (rw c at a) (rw d at b) (f ∙ rw e)

pub bounds_start : (k : Counts) (m t : List ℕ) → Bounding k m 0 t t
bounds_start k m t =
    record {
      same = refl;
      only = only_none range_bounds k.ranges k.ranges (words t);
      bounded = record { firsts = λ r l. (let none : ⊥ = omega arith in absurd none); ends = λ r l. (let none : ⊥ = omega arith in absurd none) };
    }

pub bounds_more : {k : Counts} {m t u v : List ℕ} {r : ℕ} → Laid k (length u) → Bounding k m r t u → r < k.ranges
    → BoundSet k m r (words u) (words v) → Bounding k m (r + 1) t v
unfolding tables
bounds_more {k} {m} {t} {u} {v} {r} l' g h (bound_set first end a b e) =
    let p = places.ranges_apart k u l' in
    let o : Only range_bounds k.ranges k.ranges (words u) (words v) =
    rw e (only_then (only_head range_bounds k.ranges k.ranges r first (words u) h) (only_link range_bounds k.ranges k.ranges r end _ h)) in
    record {
      same = rw e (places.ranges_link_free k u l' r end _ h ∙ (places.ranges_head_free k u l' r first (words u) h ∙ g.same));
      only = only_then g.only o;
      bounded = record {
        firsts = λ i q. elim (ℕ_discrete i r) [
          | yes d ↦ rw (
            d,
            e,
            get_or-set_other (set (words u) (9604 + 4 * r + 2) first) (9604 + 4 * r + 3) (9604 + 4 * r + 2) end 0 (λ x. omega arith)
                ∙ get_or-set_same (words u) (9604 + 4 * r + 2) first 0 (p.heads_in r h),
          ) a
          | no d ↦ rw (o_head o i q d) (g.bounded.firsts i (below i q d))
        ];
        ends = λ i q. elim (ℕ_discrete i r) [
          | yes d ↦ rw (d, e, get_or-set_same (set (words u) (9604 + 4 * r + 2) first) (9604 + 4 * r + 3) end 0 (simp length-set (p.links_in r h))) b
          | no d ↦ rw (o_link o i q d) (g.bounded.ends i (below i q d))
        ];
      };
    }
  where
    below : (i : ℕ) → i < r + 1 → (i ≡ r → ⊥) → i < r
    below i q d = omega arith

    o_head : Only range_bounds k.ranges k.ranges (words u) (words v) → (i : ℕ) → i < r + 1 → (i ≡ r → ⊥)
        → get_or (words v) (9604 + 4 * i + 2) 0 ≡ get_or (words u) (9604 + 4 * i + 2) 0
    o_head o i q d = rw e
        (get_or-set_other (set (words u) (9604 + 4 * r + 2) first) (9604 + 4 * r + 3) (9604 + 4 * i + 2) end 0 (λ x. omega arith)
        ∙ get_or-set_other (words u) (9604 + 4 * r + 2) (9604 + 4 * i + 2) first 0 (λ x. omega arith))

    o_link : Only range_bounds k.ranges k.ranges (words u) (words v) → (i : ℕ) → i < r + 1 → (i ≡ r → ⊥)
        → get_or (words v) (9604 + 4 * i + 3) 0 ≡ get_or (words u) (9604 + 4 * i + 3) 0
    o_link o i q d = rw e
        (get_or-set_other (set (words u) (9604 + 4 * r + 2) first) (9604 + 4 * r + 3) (9604 + 4 * i + 3) end 0 (λ x. omega arith)
        ∙ get_or-set_other (words u) (9604 + 4 * r + 2) (9604 + 4 * i + 3) first 0 (λ x. omega arith))

pub bounds_end : {k : Counts} {m t u : List ℕ} {r : ℕ} → Bounding k m r t u → k.ranges ≤ r → Bounding k m k.ranges t u
bounds_end g h =
    record { same = g.same; only = g.only; bounded = record { firsts = λ i l. g.bounded.firsts i (omega arith); ends = λ i l. g.bounded.ends i (omega arith) } }
