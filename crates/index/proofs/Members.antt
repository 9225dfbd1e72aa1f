-- Chains of the members of unions: rows are linked last to first, then idle rows are passed over.
use mathlib.Core.Path.{◌≡◌, refl, sym, ap, ◌∙◌}
use mathlib.Core.Bool.{Bool, true, false, not}
use mathlib.Core.List.{List}
use Prim.Native.Nat.{ℕ, ◌+◌, ◌*◌, ◌-◌, ◌<◌, ◌≤◌}
use native.Mathlib.Nat.{le_refl}
use native.Mathlib.Omega.{arith}
use native.Mathlib.Decide.{ℕ_discrete, dec_lt}
use lib.Dec.{eqb}
use lib.ListN.{length, get_or, set, take, drop, replicate, length-set, length-replicate, get_or-replicate}
use lib.Seq.{get_or-set_same, get_or-set_other}
use borrow.Author.Tests.{eqb-true, not-false}
use Rattle.words.specs.Words.{words, words_in}
use Rattle.tables.specs.declared.Counts.{Counts}
use Rattle.tables.specs.Tables.{tables, Laid}
use Rattle.unions.specs.declared.Member.{Member}
use Rattle.unions.specs.Unions.{Row, no_row, row_in, rows, row_of, ranges_of, before}
use Rattle.unions.proofs.Laws.{length_rows, row_at_law, row_of_none, rows_linked, before_here, before_more, range_low}
use Rattle.kept.specs.Kept.{Given}
use Rattle.index.specs.Chains.{Chains, Chained}
use Rattle.index.specs.Members.{times, Idle, Passes, Links, Threaded, UnionOf, RangeOf, SameRow, Repeated, union_heads, HeadsOnly, Unlinked, Threading, Relinked, Seen, Shortened, Passed, Built}
use Rattle.index.proofs.Chaining.{only_none, only_then, only_head, linked_beside}
use Rattle.index.proofs.Places as places
use Rattle.index.proofs.Favoured.{favoured_beside}
use Rattle.index.proofs.NonMatching.{noted_beside}
use Rattle.index.proofs.Laws.{bounded_beside}
use Rattle.index.proofs.Times.{times_append, times_snoc}

-- ---- from a row to another

module _ {k : Counts} {rs : List Row} {x : ℕ} where
  -- the row itself
  passes_here : {i : ℕ} → i ≤ k.members → (i < k.members → (get_or rs i no_row).union ≡ x) → Passes k rs x i i
  passes_here l e = record { onward = le_refl _; at = record { most = l; here = e }; idle = λ j a b q. (let none : ⊥ = omega arith in absurd none) }

  passes_none : Passes k rs x k.members k.members
  passes_none = passes_here (le_refl _) (λ l. (let none : ⊥ = omega arith in absurd none))

  -- a row of another union before it
  passes_earlier : {i r : ℕ} → ((get_or rs i no_row).union ≡ x → ⊥) → Passes k rs x (i + 1) r → Passes k rs x i r
  passes_earlier {i} {r} other p =
      record { onward = let o = p.onward in omega arith; at = p.at; idle = passed }
    where
      passed : (j : ℕ) → i ≤ j → j < r → (get_or rs j no_row).union ≡ x → Idle rs x j
      passed j a b e = elim (ℕ_discrete j i) [
        | yes q ↦ absurd (other (ap (λ (y : ℕ). (get_or rs y no_row).union) (sym q) ∙ e))
        | no q ↦ p.idle j (behind j a q) b e
      ]
        where
          behind : (j : ℕ) → i ≤ j → (j ≡ i → ⊥) → i + 1 ≤ j
          behind j a q = omega arith

  -- past an idle row
  passes_over : {from i r : ℕ} → Passes k rs x from i → Idle rs x i → Passes k rs x (i + 1) r → Passes k rs x from r
  passes_over {from} {i} {r} p d q =
      record { onward = (let a = p.onward in let b = q.onward in omega arith); at = q.at; idle = passed }
    where
      passed : (j : ℕ) → from ≤ j → j < r → (get_or rs j no_row).union ≡ x → Idle rs x j
      passed j a b e = elim (dec_lt j i) [
        | yes l ↦ p.idle j a l e
        | no l ↦ elim (ℕ_discrete j i) [
          | yes z ↦ rw z d
          | no z ↦ q.idle j (behind j l z) b e
        ]
      ]
        where
          behind : (j : ℕ) → (j < i → ⊥) → (j ≡ i → ⊥) → i + 1 ≤ j
          behind j l z = omega arith

-- the union of a row is given
pub union_of_row : (k : Counts) (u : List ℕ) (i : ℕ) (m : Member) → Given k.unions (rows k.members u) → i < k.members
    → row_of m ≡ get_or (rows k.members u) i no_row → UnionOf k (rows k.members u) i m.union
unfolding row_of
union_of_row k u i m g h e =
    let is : m.union ≡ (get_or (rows k.members u) i no_row).union = ap (λ (r : Row). r.union) e in
    record { is = is; low = low is }
  where
    inside : i < length (rows k.members u)
    inside = rw length_rows h

    low : m.union ≡ (get_or (rows k.members u) i no_row).union → m.union < k.unions
    low is = elim (dec_lt m.union k.unions) [
      | yes l ↦ l
      | no l ↦ absurd (row_of_none i (rows k.members u) inside (g.none_yet _ (let q = is in omega arith)))
    ]

-- ---- a row that is repeated

-- the same word is the same row
pub same_words : (n : ℕ) (u : List ℕ) (i j v w : ℕ) → i < n → j < n → v ≡ get_or (words u) (2 * i) 0 → w ≡ get_or (words u) (2 * j) 0
    → SameRow (rows n u) i j (eqb v w)
unfolding row_in
same_words n u i j v w h l e d =
    record { same = λ q. rw (row_at_law n u i h, row_at_law n u j l, ← e, ← d, eqb-true v w q) }

-- row i is like those before it, fewer than n
pub record LikeBefore (rs : List Row) (i n : ℕ) : Type 0 where
  pub like : (k : ℕ) → 0 < k → k < n → get_or rs i no_row ≡ get_or rs (i - k) no_row

pub like_none : (rs : List Row) (i : ℕ) → LikeBefore rs i 1
like_none rs i = record { like = λ k a b. (let none : ⊥ = omega arith in absurd none) }

pub like_more : {rs : List Row} {i n : ℕ} {b : Bool} → LikeBefore rs i n → SameRow rs i (i - n) b → b ≡ true → LikeBefore rs i (n + 1)
like_more {n = n} d s e = record { like = λ k a b. elim (ℕ_discrete k n) [ yes q ↦ rw q (s.same e) | no q ↦ d.like k a (omega arith) ] }

module _ (rs : List Row) (i : ℕ) (h : i < length rs) where
  abbrev union : ℕ
  union = (get_or rs i no_row).union

  abbrev range : ℕ
  range = (get_or rs i no_row).range

  -- one like it
  one_like : (j : ℕ) → j < i → get_or rs i no_row ≡ get_or rs j no_row → times range (before union (j + 1) rs) ≡ times range (before union j rs) + 1
  one_like j l e =
      let same : (get_or rs j no_row).range ≡ range = ap (λ (r : Row). r.range) (sym e) in
      rw (before_here union j rs (omega arith) (ap (λ (r : Row). r.union) (sym e)), same) (times_snoc range (before union j rs))

  pub four_like : 4 ≤ i → LikeBefore rs i 5 → Repeated rs i true
  four_like l d = record { idle = λ _. idle }
    where
      idle : Idle rs union i
      idle =
          let e1 : i - 4 + 1 ≡ i - 3 = omega arith in
          let e2 : i - 3 + 1 ≡ i - 2 = omega arith in
          let e3 : i - 2 + 1 ≡ i - 1 = omega arith in
          let e4 : i - 1 + 1 ≡ i = omega arith in
          let n1 = rw e1 at (one_like (i - 4) (omega arith) (d.like 4 (omega arith) (omega arith))) in
          let n2 = rw e2 at (one_like (i - 3) (omega arith) (d.like 3 (omega arith) (omega arith))) in
          let n3 = rw e3 at (one_like (i - 2) (omega arith) (d.like 2 (omega arith) (omega arith))) in
          let n4 = rw e4 at (one_like (i - 1) (omega arith) (d.like 1 (omega arith) (omega arith))) in
          record { often = omega arith }

pub inside_rows : (n : ℕ) (u : List ℕ) (i : ℕ) → i < n → i < length (rows n u)
inside_rows n u i h = rw length_rows h

-- ---- heads

heads_none : (k : Counts) (t : List ℕ) → HeadsOnly k t t
heads_none k t = record { same = refl; only = only_none union_heads 0 k.unions (words t) }

heads_then : {k : Counts} {s t u : List ℕ} → HeadsOnly k s t → HeadsOnly k t u → HeadsOnly k s u
heads_then a b = record { same = b.same ∙ a.same; only = only_then a.only b.only }

head_set : (k : Counts) (x v : ℕ) (t u : List ℕ) → Laid k (length t) → x < k.unions → words u ≡ set (words t) (11652 + 3 * x) v → HeadsOnly k t u
unfolding tables
head_set k x v t u l h e =
    record { same = rw e (places.unions_head_free k t l x v (words t) h); only = rw e (only_head union_heads 0 k.unions x v (words t) h) }

head_place : (k : Counts) (t : List ℕ) (x : ℕ) → Laid k (length t) → x < k.unions → 11652 + 3 * x < length (words t)
head_place k t x l h = words_in t (11652 + 3 * x) (let a = l.fits in let b = l.unions in omega arith)

pub unlinked_start : (k : Counts) (t : List ℕ) → Unlinked k 0 t t
unlinked_start k t = record { heads = heads_none k t; set = λ u l. (let none : ⊥ = omega arith in absurd none) }

pub unlinked_more : {k : Counts} {x : ℕ} {t u : List ℕ} (v : List ℕ) → Laid k (length u) → Unlinked k x t u → x < k.unions
    → words v ≡ set (words u) (11652 + 3 * x) k.members → Unlinked k (x + 1) t v
unlinked_more {k} {x} {t} {u} v l' g h e =
    record { heads = heads_then g.heads (head_set k x k.members u v l' h e); set = λ y q. rw e (there l' y q) }
  where
    there : Laid k (length u) → (y : ℕ) → y < x + 1 → get_or (set (words u) (11652 + 3 * x) k.members) (11652 + 3 * y) 0 ≡ k.members
    there l' y q = elim (ℕ_discrete y x) [
      | yes d ↦ rw d (get_or-set_same (words u) (11652 + 3 * x) k.members 0 (head_place k u x l' h))
      | no d ↦ get_or-set_other (words u) (11652 + 3 * x) (11652 + 3 * y) k.members 0 (λ r. omega arith) ∙ g.set y (omega arith)
    ]

pub unlinked_end : {k : Counts} {x : ℕ} {t u : List ℕ} → Unlinked k x t u → k.unions ≤ x → Unlinked k k.unions t u
unlinked_end g h = record { heads = g.heads; set = λ y q. g.set y (omega arith) }

-- the tables' chains lie beside them
pub chains_beside : {k : Counts} {m t u : List ℕ} → Laid k (length t) → HeadsOnly k t u → Chains k m t → Chains k m u
chains_beside {k} {m} {t} {u} l h c =
    let o = h.only in
    record {
      parts = linked_beside (places.parts_beside_unions k t l) o c.parts;
      requirements = linked_beside (places.requirements_beside_unions k t l) o c.requirements;
      constraints = linked_beside (places.constraints_beside_unions k t l) o c.constraints;
      ranges = bounded_beside (places.ranges_beside_unions k t l) o c.ranges;
      favoured = favoured_beside (places.parts_beside_unions k t l) (places.favoured_beside_unions k t l) h.same o c.favoured;
      non_matching_law = noted_beside (places.non_matching_beside_unions k t l) h.same o c.non_matching_law;
    }

-- ---- one row more

link_place : (n : ℕ) (u : List ℕ) (i : ℕ) → n ≤ 13107 → 52428 ≤ length u → i < n → 2 * i + 1 < length (words u)
link_place n u i l f h = words_in u (2 * i + 1) (omega arith)

module _ (k : Counts) (t u : List ℕ) (i : ℕ) (u' : List ℕ) (x first : ℕ) (laid : Laid k (length t)) (fit : 52428 ≤ length u) (here : i < k.members)
    (o : UnionOf k (rows k.members u) i x) (d : Threaded k (rows k.members u) (i + 1) (words t) (words u))
    (f : first ≡ get_or (words t) (11652 + 3 * x) 0) (e : words u' ≡ set (words u) (2 * i + 1) first) where
  abbrev all : List Row
  all = rows k.members u

  more_links : (j : ℕ) → i ≤ j → j < k.members → Passes k all (get_or all j no_row).union (j + 1) (get_or (words u') (2 * j + 1) 0)
  more_links j b h = elim (ℕ_discrete j i) [
    | yes q ↦ rw (q, e, get_or-set_same (words u) (2 * i + 1) first 0 (link_place k.members u i laid.members fit here), f, ← o.is) (d.heads x o.low)
    | no q ↦ rw (e, get_or-set_other (words u) (2 * i + 1) (2 * j + 1) first 0 (λ r. q (omega arith))) (d.links.next j (behind j b q) h)
  ]
    where
      behind : (j : ℕ) → i ≤ j → (j ≡ i → ⊥) → i + 1 ≤ j
      behind j a q = omega arith

  -- the row itself, and a row of another union
  to_row_i : Passes k all x i i
  to_row_i = passes_here (let z = here in omega arith) (λ _. sym o.is)

  past_other : (y : ℕ) → y < k.unions → (y ≡ x → ⊥) → Passes k all y i (get_or (words t) (11652 + 3 * y) 0)
  past_other y h q = passes_earlier (λ r. q (sym r ∙ sym o.is)) (d.heads y h)

  module _ (t' : List ℕ) (g : words t' ≡ set (words t) (11652 + 3 * x) i) where
    more_heads : (y : ℕ) → y < k.unions → Passes k all y i (get_or (words t') (11652 + 3 * y) 0)
    more_heads y h = elim (ℕ_discrete y x) [
      | yes q ↦ rw (q, g, get_or-set_same (words t) (11652 + 3 * x) i 0 (head_place k t x laid o.low)) to_row_i
      | no q ↦ rw (g, get_or-set_other (words t) (11652 + 3 * x) (11652 + 3 * y) i 0 (λ r. q (omega arith))) (past_other y h q)
    ]

    pub row_linked : Threading k i u t u' t'
    row_linked =
        record {
          heads = head_set k x i t t' laid o.low g;
          kept = rows_linked k.members u u' i first e;
          threaded = record { heads = more_heads; links = record { next = more_links } };
        }

  module _ {b : Bool} (z : Repeated (rows k.members u) i b) (p : not b ≡ false) where
    same_heads : (y : ℕ) → y < k.unions → Passes k all y i (get_or (words t) (11652 + 3 * y) 0)
    same_heads y h = elim (ℕ_discrete y x) [
      | yes q ↦ rw q (passes_over to_row_i (rw o.is (z.idle (not-false _ p))) (d.heads x o.low))
      | no q ↦ past_other y h q
    ]

    pub row_repeated : Threading k i u t u' t
    row_repeated =
        record {
          heads = heads_none k t;
          kept = rows_linked k.members u u' i first e;
          threaded = record { heads = same_heads; links = record { next = more_links } };
        }

-- ---- all rows

pub threading_start : {k : Counts} {s t : List ℕ} (u : List ℕ) → Unlinked k k.unions s t → Threading k k.members u t u t
threading_start {k} {s} {t} u g =
    record {
      heads = heads_none k t;
      kept = refl;
      threaded = record { heads = λ x l. rw (g.set x l) passes_none; links = record { next = λ i a b. (let none : ⊥ = omega arith in absurd none) } };
    }

pub still_given : {k : Counts} {u t u' t' : List ℕ} {i : ℕ} → Given k.unions (rows k.members u) → Threading k i u t u' t' → Given k.unions (rows k.members u')
still_given g d = rw d.kept g

pub threading_ready : {k : Counts} {u t u' t' : List ℕ} {i : ℕ} → 0 < i → Threading k i u t u' t'
    → Threaded k (rows k.members u') (i - 1 + 1) (words t') (words u')
threading_ready {i = i} h d =
    let e : i - 1 + 1 ≡ i = omega arith in
    rw (d.kept, e) d.threaded

pub threading_more : {k : Counts} {u t u' t' u'' t'' : List ℕ} {i j : ℕ} → Threading k i u t u' t' → Threading k j u' t' u'' t'' → Threading k j u t u'' t''
threading_more a b = record { heads = heads_then a.heads b.heads; kept = b.kept ∙ a.kept; threaded = rw a.kept at b.threaded }

pub threading_end : {k : Counts} {u s t u' t' : List ℕ} {i : ℕ} → Unlinked k k.unions s t → Threading k i u t u' t' → i ≤ 0 → Threading k 0 u s u' t'
threading_end {i = i} g d h =
    let e : i ≡ 0 = omega arith in
    record { heads = heads_then g.heads d.heads; kept = d.kept; threaded = rw e at d.threaded }

-- ---- how often each range was seen

-- further on they are as many at least
seen_later : {rs : List Row} {last i : ℕ} {seen : List ℕ} (j : ℕ) → i ≤ j → Seen rs last i seen → Seen rs last j seen
seen_later {rs} {last} {i} j l s =
    let e : j ≡ i + (j - i) = omega arith in
    let x : ℕ = (get_or rs last no_row).union in
    record {
      long = s.long;
      often = λ r h.
          rw (e, before_more x i (j - i) rs, times_append r (before x i rs) (ranges_of x (take (j - i) (drop i rs)))) (let o = s.often r h in omega arith);
    }

-- a row more of range r
module _ {rs : List Row} {last i r : ℕ} {seen : List ℕ} (s : Seen rs last i seen) (f : RangeOf rs i r) (h : i < length rs)
    (same : (get_or rs i no_row).union ≡ (get_or rs last no_row).union) where
  abbrev x : ℕ
  x = (get_or rs last no_row).union

  one_more : times r (before x (i + 1) rs) ≡ times r (before x i rs) + 1
  one_more = rw (before_here x i rs h same, ← f.is) (times_snoc r (before x i rs))

  pub seen_more : Seen rs i (i + 1) (set seen r (get_or seen r 0 + 1))
  seen_more =
      let later = seen_later {rs = rs} {last = last} (i + 1) (omega arith) s in
      record {
        long = length-set seen r (get_or seen r 0 + 1) ∙ s.long;
        often = λ q l. rw same (elim (ℕ_discrete q r) [
          | yes e ↦ rw (e, get_or-set_same seen r (get_or seen r 0 + 1) 0 (let o = s.long in let y = f.low in omega arith), one_more) (let o = s.often r f.low in omega arith)
          | no e ↦ rw (get_or-set_other seen r q (get_or seen r 0 + 1) 0 e) (later.often q l)
        ]);
      }

  pub seen_idle : 4 ≤ get_or seen r 0 → Idle rs x i
  seen_idle l = record { often = rw (← f.is) (let o = s.often r f.low in omega arith) }

-- the first row alone
seen_first : {rs : List Row} {first r : ℕ} → RangeOf rs first r → first < length rs → Seen rs first (first + 1) (set (replicate 512 0) r 1)
seen_first {rs} {first} {r} f h =
    let none : Seen rs first first (replicate 512 0) = record { long = length-replicate {A = ℕ} 512 0; often = λ q l. rw (get_or-replicate {A = ℕ} 512 q 0 0 l) (omega arith) } in
    rw (get_or-replicate {A = ℕ} 512 r 0 0 f.low) at (seen_more none f h refl)

pub range_of_row : (k : Counts) (u : List ℕ) (i : ℕ) (m : Member) → i < k.members → row_of m ≡ get_or (rows k.members u) i no_row → RangeOf (rows k.members u) i m.range
unfolding row_of
range_of_row k u i m h e =
    let is : m.range ≡ (get_or (rows k.members u) i no_row).range = ap (λ (r : Row). r.range) e in
    record { is = is; low = rw is (range_low k.members u i h) }

-- ---- a chain is shortened

pub relinked_none : {k : Counts} {u : List ℕ} → Links k (rows k.members u) 0 (words u) → Relinked k u u
relinked_none d = record { kept = refl; links = d }

pub relinked_now : {k : Counts} {u u' : List ℕ} → Relinked k u u' → Links k (rows k.members u') 0 (words u')
relinked_now d = rw d.kept d.links

pub relinked_then : {k : Counts} {u u' u'' : List ℕ} → Relinked k u u' → Relinked k u' u'' → Relinked k u u''
relinked_then a b = record { kept = b.kept ∙ a.kept; links = rw a.kept at b.links }

pub shortened_start : {k : Counts} {u : List ℕ} {first r : ℕ} (i : ℕ) → Links k (rows k.members u) 0 (words u) → first < k.members → RangeOf (rows k.members u) first r
    → i ≡ get_or (words u) (2 * first + 1) 0 → Shortened k u first i u (set (replicate 512 0) r 1)
shortened_start {k} {u} {first} i d h f e =
    let o = (d.next first (omega arith) h).onward in
    record { relinked = relinked_none d; low = h; next = sym e; often = seen_later i (omega arith) (seen_first f (rw length_rows h)) }

pub shortened_now : {k : Counts} {u u' seen : List ℕ} {last i : ℕ} → Shortened k u last i u' seen → Shortened k u' last i u' seen
shortened_now d = record { relinked = relinked_none (relinked_now d.relinked); low = d.low; next = d.next; often = rw d.relinked.kept d.often }

pub shortened_step : {k : Counts} {u u' u'' seen seen' : List ℕ} {last last' i : ℕ} (i' : ℕ) → Shortened k u last i u' seen → Passed k u' i last' u'' seen'
    → i' ≡ get_or (words u'') (2 * last' + 1) 0 → Shortened k u last' i' u'' seen'
shortened_step i' a b e =
    let l = b.more in
    record {
      relinked = relinked_then a.relinked b.relinked;
      low = b.low;
      next = sym e;
      often = seen_later i' (omega arith) (rw a.relinked.kept at b.often);
    }

pub shortened_end : {k : Counts} {u u' seen : List ℕ} {last i : ℕ} → Shortened k u last i u' seen → Relinked k u u'
shortened_end d = d.relinked

-- the chain leads to row i
module _ {k : Counts} {u seen : List ℕ} {last i r : ℕ} (d : Shortened k u last i u seen) (here : i < k.members) (f : RangeOf (rows k.members u) i r) where
  abbrev rs : List Row
  rs = rows k.members u

  behind : Passes k rs (get_or rs i no_row).union (i + 1) (get_or (words u) (2 * i + 1) 0)
  behind = d.relinked.links.next i (omega arith) here

  to_row : Passes k rs (get_or rs last no_row).union (last + 1) i
  to_row = rw d.next at (d.relinked.links.next last (omega arith) d.low)

  pub row_stays : Passed k u i i u (set seen r (get_or seen r 0 + 1))
  row_stays =
      record {
        relinked = d.relinked;
        low = here;
        more = let o = behind.onward in omega arith;
        often = seen_more d.often f (rw length_rows here) (to_row.at.here here);
      }

  module _ (u' : List ℕ) (x : ℕ) (few : k.members ≤ 13107) (fit : 52428 ≤ length u) (q : 4 ≤ get_or seen r 0) (e : x ≡ get_or (words u) (2 * i + 1) 0)
      (g : words u' ≡ set (words u) (2 * last + 1) x) where
    past_row : Passes k rs (get_or rs last no_row).union (last + 1) x
    past_row = passes_over to_row (seen_idle d.often f (rw length_rows here) (to_row.at.here here) q) (rw (to_row.at.here here, ← e) at behind)

    at_last : get_or (words u') (2 * last + 1) 0 ≡ x
    at_last = rw g (get_or-set_same (words u) (2 * last + 1) x 0 (link_place k.members u last few fit d.low))

    new_links : (j : ℕ) → 0 ≤ j → j < k.members → Passes k rs (get_or rs j no_row).union (j + 1) (get_or (words u') (2 * j + 1) 0)
    new_links j z h = elim (ℕ_discrete j last) [
      | yes p ↦ rw (p, at_last) past_row
      | no p ↦ rw (g, get_or-set_other (words u) (2 * last + 1) (2 * j + 1) x 0 (λ r. p (omega arith))) (d.relinked.links.next j z h)
    ]

    pub row_passed : Passed k u i last u' seen
    row_passed =
        record {
          relinked = record { kept = rows_linked k.members u u' last x g; links = record { next = new_links } };
          low = d.low;
          more = rw at_last (let o = behind.onward in omega arith);
          often = seen_later (i + 1) (omega arith) d.often;
        }

-- ---- all chains

pub all_linked : {k : Counts} {m t s u u' t' u'' : List ℕ} → Laid k (length s) → Chained k m t s → Threading k 0 u s u' t' → Relinked k u' u'' → Built k m u t u'' t'
all_linked l a b c =
    record {
      same = b.heads.same ∙ a.same;
      kept = c.kept ∙ b.kept;
      chains = chains_beside l b.heads a.chains;
      members = record { heads = b.threaded.heads; links = rw b.kept at c.links };
    }

-- ---- walking

pub no_row_law : {k : Counts} (us : List ℕ) (u : ℕ) → Given k.unions (rows k.members us) → k.unions ≤ u → Passes k (rows k.members us) u 0 k.members
no_row_law {k} us u d h =
    record {
      onward = omega arith;
      at = record { most = le_refl _; here = λ l. (let none : ⊥ = omega arith in absurd none) };
      idle = λ i a b e. absurd (row_of_none i (rows k.members us) (rw length_rows b) (rw e (d.none_yet u h)));
    }
