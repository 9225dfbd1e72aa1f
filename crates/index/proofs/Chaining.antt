-- Chains for any keys and places: a row is put before those that are linked, and a store elsewhere changes no chain. Assumes that the places lie apart.
use mathlib.Core.Path.{◌≡◌, refl, sym, ap, ◌∙◌}
use mathlib.Core.List.{List}
use Prim.Native.Nat.{ℕ, ◌+◌, ◌<◌, ◌≤◌}
use native.Mathlib.Omega.{arith}
use native.Mathlib.Decide.{ℕ_discrete}
use lib.ListN.{length, get_or, set, length-set}
use lib.Seq.{get_or-set_same, get_or-set_other}
use Rattle.index.specs.Chains.{First, Chain, key_of, Linked, Keyed, Only}
use Rattle.index.specs.Placed.{Apart}

-- ---- the first row of a key

pub first_none : (n : ℕ) (key : ℕ → ℕ) (x : ℕ) → First n key x n n
first_none n key x = record { onward = omega arith; inside = omega arith; none = λ i a b e. omega arith }

first_same : {n : ℕ} {key key' : ℕ → ℕ} {x from r : ℕ} → ((i : ℕ) → i < n → key' i ≡ key i) → First n key x from r → First n key' x from r
first_same same f =
    record {
      onward = f.onward;
      inside = f.inside;
      none = λ i a b e. (let l : i < _ = within f.inside b in f.none i a b (sym (same i l) ∙ e));
    }
  where
    within : {i r n : ℕ} → r ≤ n → i < r → i < n
    within h b = omega arith

-- a row of another key before it
first_earlier : {n : ℕ} {key : ℕ → ℕ} {x i r : ℕ} → (key i ≡ x → ⊥) → First n key x (i + 1) r → First n key x i r
first_earlier {n} {key} {x} {i} {r} other f =
    record { onward = let o = f.onward in omega arith; inside = f.inside; none = passed }
  where
    passed : (j : ℕ) → i ≤ j → j < r → key j ≡ x → ⊥
    passed j a b e = elim (ℕ_discrete j i) [ yes q ↦ other (ap key (sym q) ∙ e) | no q ↦ f.none j (behind j a q) b e ]
      where
        behind : (j : ℕ) → i ≤ j → (j ≡ i → ⊥) → i + 1 ≤ j
        behind j a q = omega arith

first_here : {n : ℕ} {key : ℕ → ℕ} {x i : ℕ} → i < n → First n key x i i
first_here h = record { onward = omega arith; inside = omega arith; none = λ j a b e. omega arith }

-- ---- places

pub only_none : (h : Chain) (n most : ℕ) (w : List ℕ) → Only h n most w w
only_none h n most w = record { others = λ a p q. refl }

pub only_then : {h : Chain} {n most : ℕ} {u v w : List ℕ} → Only h n most u v → Only h n most v w → Only h n most u w
only_then a b = record { others = λ at p q. b.others at p q ∙ a.others at p q }

pub only_head : (h : Chain) (n most x v : ℕ) (w : List ℕ) → x < most → Only h n most w (set w (h.head_at x) v)
only_head h n most x v w l = record { others = λ a p q. get_or-set_other w (h.head_at x) a v 0 (p x l) }

pub only_link : (h : Chain) (n most i v : ℕ) (w : List ℕ) → i < n → Only h n most w (set w (h.link_at i) v)
only_link h n most i v w l = record { others = λ a p q. get_or-set_other w (h.link_at i) a v 0 (q i l) }

pub keys_kept : {h : Chain} {n most size : ℕ} {w w' : List ℕ} → Apart h n most size → Only h n most w w' → (i : ℕ) → i < n → key_of h w' i ≡ key_of h w i
unfolding key_of
keys_kept {h} p o i l = ap h.row (o.others _ (λ x m. p.key_head i x l m) (λ j m. p.key_link i j l m))

pub keyed_kept : {h : Chain} {n most size : ℕ} {w w' : List ℕ} → Apart h n most size → Only h n most w w' → Keyed h n most w → Keyed h n most w'
keyed_kept p o k = record { low = λ i l. rw (keys_kept p o i l) (k.low i l) }

-- ---- one row more

-- row i of the key x
module _ {h : Chain} {n most i : ℕ} {w w' : List ℕ} (p : Apart h n most (length w)) (l : Linked h n most (i + 1) w) (here : i < n) (low : key_of h w i < most)
    (e : w' ≡ set (set w (h.link_at i) (get_or w (h.head_at (key_of h w i)) 0)) (h.head_at (key_of h w i)) i) where
  abbrev x : ℕ
  x = key_of h w i

  abbrev between : List ℕ
  between = set w (h.link_at i) (get_or w (h.head_at x) 0)

  pub linked_only : Only h n most w w'
  linked_only = rw e (only_then (only_link h n most i _ w here) (only_head h n most x i between low))

  key_same : (j : ℕ) → j < n → key_of h w' j ≡ key_of h w j
  key_same = keys_kept p linked_only

  head_here : get_or w' (h.head_at x) 0 ≡ i
  head_here = rw e (get_or-set_same between (h.head_at x) i 0 (simp length-set (p.heads_in x low)))

  head_other : (y : ℕ) → y < most → (y ≡ x → ⊥) → get_or w' (h.head_at y) 0 ≡ get_or w (h.head_at y) 0
  head_other y m q =
      rw e
      (get_or-set_other between (h.head_at x) (h.head_at y) i 0 (λ f. q (p.heads y x m low f))
      ∙ get_or-set_other w (h.link_at i) (h.head_at y) _ 0 (λ f. p.head_link y i m here f))

  link_here : get_or w' (h.link_at i) 0 ≡ get_or w (h.head_at x) 0
  link_here =
      rw e
      (get_or-set_other between (h.head_at x) (h.link_at i) i 0 (λ f. p.head_link x i low here (sym f))
      ∙ get_or-set_same w (h.link_at i) _ 0 (p.links_in i here))

  link_other : (j : ℕ) → j < n → (j ≡ i → ⊥) → get_or w' (h.link_at j) 0 ≡ get_or w (h.link_at j) 0
  link_other j m q =
      rw e
      (get_or-set_other between (h.head_at x) (h.link_at j) i 0 (λ f. p.head_link x j low m (sym f))
      ∙ get_or-set_other w (h.link_at i) (h.link_at j) _ 0 (λ f. q (p.links j i m here f)))

  head_first : (y : ℕ) → y < most → First n (key_of h w') y i (get_or w' (h.head_at y) 0)
  head_first y m =
      elim (ℕ_discrete y x) [
        | yes q ↦ rw (q, head_here) (first_here here)
        | no q ↦ rw (head_other y m q) (first_earlier (λ f. q (sym f ∙ key_same i here)) (first_same key_same (l.heads y m)))
      ]

  link_first : (j : ℕ) → i ≤ j → j < n → First n (key_of h w') (key_of h w' j) (j + 1) (get_or w' (h.link_at j) 0)
  link_first j a m =
      elim (ℕ_discrete j i) [
        | yes q ↦ rw (q, link_here, key_same i here) (first_same key_same (l.heads x low))
        | no q ↦ rw (link_other j m q, key_same j m) (first_same key_same (l.links j (behind j a q) m))
      ]
    where
      behind : (j : ℕ) → i ≤ j → (j ≡ i → ⊥) → i + 1 ≤ j
      behind j a q = omega arith

  pub linked_more : Linked h n most i w'
  linked_more = record { heads = head_first; links = link_first }

-- ---- before the first row, and beside another chain

pub linked_none : {h : Chain} {n most : ℕ} {w : List ℕ} → ((x : ℕ) → x < most → get_or w (h.head_at x) 0 ≡ n) → Linked h n most n w
linked_none {h} {n} {most} {w} e =
    record { heads = λ x m. rw (e x m) (first_none n (key_of h w) x); links = λ i a b. (let none : ⊥ = omega arith in absurd none) }

-- the places of chain h among `n` rows and `most` keys are none of the heads and links of chain g
pub record Beside (h : Chain) (n most : ℕ) (g : Chain) (m top : ℕ) : Type 0 where
  pub heads : (x : ℕ) → x < most → ((y : ℕ) → y < top → h.head_at x ≡ g.head_at y → ⊥) × ((j : ℕ) → j < m → h.head_at x ≡ g.link_at j → ⊥)
  pub links : (i : ℕ) → i < n → ((y : ℕ) → y < top → h.link_at i ≡ g.head_at y → ⊥) × ((j : ℕ) → j < m → h.link_at i ≡ g.link_at j → ⊥)
  pub keys : (i : ℕ) → i < n → ((y : ℕ) → y < top → h.key_at i ≡ g.head_at y → ⊥) × ((j : ℕ) → j < m → h.key_at i ≡ g.link_at j → ⊥)

module _ {h : Chain} {n most : ℕ} {g : Chain} {m top : ℕ} {w w' : List ℕ} (b : Beside h n most g m top) (o : Only g m top w w') where
  pub key_beside : (i : ℕ) → i < n → key_of h w' i ≡ key_of h w i
  unfolding key_of
  key_beside i l = ap h.row (o.others _ (b.keys i l).0 (b.keys i l).1)

  pub keyed_beside : Keyed h n most w → Keyed h n most w'
  keyed_beside k = record { low = λ i l. rw (key_beside i l) (k.low i l) }

  pub linked_beside : {from : ℕ} → Linked h n most from w → Linked h n most from w'
  linked_beside k =
      record {
        heads = λ x l. rw (o.others _ (b.heads x l).0 (b.heads x l).1) (first_same key_beside (k.heads x l));
        links = λ i a l. rw (o.others _ (b.links i l).0 (b.links i l).1, key_beside i l) (first_same key_beside (k.links i a l));
      }
