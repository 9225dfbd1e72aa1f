-- Lists with marks against their code: a law for each function, the loop of `clear`, and what callers need: membership, room, and what a change elsewhere leaves.
use mathlib.Core.Path.{◌≡◌, refl, sym, ◌∙◌, ap}
use mathlib.Core.Logic.{⊎_elim}
use mathlib.Core.Bool.{Bool, true, false, ◌||◌, cond, true≢false}
use mathlib.Core.List.{List, [], ◌∷◌, ◌++◌}
use Prim.Native.Nat.{ℕ, ◌+◌, ◌<◌, ◌≤◌, zero-le}
use native.Mathlib.Numerals.{add-one}
use native.Mathlib.Decide.{dec_lt}
use native.Mathlib.Omega.{arith}
use lib.Dec.{eqb}
use lib.ListN.{length, get_or, take, set, get_or-eq_default}
use lib.Seq.{length-take-le, take-suc, take-suc-set, take_all, get_or-take, get_or-set_same, get_or-set_other}
use borrow.Author.Tests.{eqb-true, eqb-false, eq-eqb}
use Rattle.rules.specs.Lists.{any, elem, snoc}
use Rattle.rules.specs.Called.{◌∈◌}
use Rattle.rules.proofs.Bools.{or_true}
use Rattle.rules.proofs.Member.{at_member}
use Rattle.rules.proofs.ListLaws.{length_snoc, any_snoc}
use Rattle.rules.proofs.Membership.{empty, once_snoc, before_or_end, elem_in, not_elem}
use Rattle.rules.proofs.HelperCounts.{few_below}
use Rattle.regions.specs.Regions.{stored}
use Rattle.state.specs.declared.Limits.{Limits}
use Rattle.state.specs.Layout.{held, Fits}
use Rattle.state.specs.Changed.{Changed, Blank, Cleared}
use Rattle.state.proofs.Changed.{stored_here, stored_other, changed_stored, changed_then}
use Rattle.state.proofs.Laws.{fixed}
use Rattle.state.proofs.Sizes.{length_fixed, length_stored, zero_stored}
use Rattle.marked.specs.Marked.{listed, is_marked, Marked, Free, Pushed, Emptied}

-- ---- what a list's marks say

module _ {r m n : ℕ} {st : ℕ → List ℕ} (k : Marked r m n st) where
  pub length_listed : length (listed n r st) ≡ n
  unfolding listed
  length_listed = length-take-le n (st r) k.most

  -- a number has a mark if it is listed
  pub marked_is : (x : ℕ) → is_marked m x st ≡ elem x (listed n r st)
  unfolding is_marked
  marked_is x = rw (k.marks x) (go (elem x (listed n r st)))
    where
      go : (b : Bool) → eqb (cond b 1 0) 1 ≡ b
      go true = refl
      go false = refl

  -- and a listed number is one that can have a mark
  pub listed_low : (x : ℕ) → x ∈ listed n r st → x < length (st m)
  listed_low x i = elim (dec_lt x (length (st m))) [
    | yes h ↦ h
    | no h ↦
        let one : get_or (st m) x 0 ≡ 1 = k.marks x ∙ rw (elem_in (listed n r st) i) in
        let none : get_or (st m) x 0 ≡ 0 = get_or-eq_default (st m) 0 (omega arith) in
        let no_such : ⊥ = omega arith in
        absurd no_such
  ]

  pub at_low : (i a : ℕ) → i < n → a ≡ get_or (listed n r st) i 0 → a < length (st m)
  at_low i a h e = rw e (listed_low (get_or (listed n r st) i 0) (at_member (listed n r st) i 0 (rw length_listed h)))

-- a caller that has asked `contains`
pub free_after : {r m n x : ℕ} {st : ℕ → List ℕ} (b : Bool) → Marked r m n st → x < length (st m) → b ≡ is_marked m x st → b ≡ false → Free r m n x st
free_after {x = x} b k h e f = record { marked = k; low = h; new = sym (marked_is k x) ∙ sym e ∙ f }

pub listed_after : {r m n : ℕ} {st : ℕ → List ℕ} (x : ℕ) (b : Bool) → Marked r m n st → b ≡ is_marked m x st → b ≡ elem x (listed n r st)
listed_after x b k e = e ∙ marked_is k x

-- ---- contains, at

pub contains_is : (m x a : ℕ) (st : ℕ → List ℕ) → a ≡ get_or (st m) x 0 → eqb a 1 ≡ is_marked m x st
unfolding is_marked
contains_is m x a st e = rw e

pub at_is : (n r i a : ℕ) (st : ℕ → List ℕ) → i < n → a ≡ get_or (st r) i 0 → a ≡ get_or (listed n r st) i 0
unfolding listed
at_is n r i a st h e = e ∙ sym (get_or-take n (st r) i 0 h)

-- ---- push

first : (r : ℕ) (js : List ℕ) → elem r (r ∷ js) ≡ true
unfolding any
first r js = rw (eq-eqb r r refl)

second : (r m : ℕ) → elem m (r ∷ m ∷ []) ≡ true
unfolding any
second r m = rw (eq-eqb m m refl) (or_true (eqb m r))

module _ {r m n x : ℕ} {st : ℕ → List ℕ} (f : Free r m n x st) where
  -- there is room for one more
  pub free_room : n < length (st r)
  free_room =
      let k = f.marked in
      let few = few_below (length (st m)) (once_snoc k.once (not_elem x (listed n r st) f.new)) low in
      omega (arith, length_snoc (listed n r st) x, length_listed k, k.room)
    where
      low : (y : ℕ) → y ∈ snoc (listed n r st) x → y < length (st m)
      low y i = ⊎_elim (λ j. listed_low f.marked y j) (λ (e : y ≡ x). rw e f.low) (before_or_end (listed n r st) (unfold snoc in i))

  abbrev after : ℕ → List ℕ
  after = stored (stored st r n x) m x 1

  list_after : after r ≡ set (st r) n x
  list_after = stored_other (stored st r n x) m x 1 r f.marked.apart ∙ stored_here st r n x

  marks_after : after m ≡ set (st m) x 1
  marks_after = stored_here (stored st r n x) m x 1 ∙ ap (λ (t : List ℕ). set t x 1) (stored_other st r n x m (λ e. f.marked.apart (sym e)))

  listed_more : listed (n + 1) r after ≡ snoc (listed n r st) x
  unfolding listed snoc
  listed_more = rw (list_after, add-one) (take-suc-set (st r) n x free_room)

  mark_more : (y : ℕ) → get_or (set (st m) x 1) y 0 ≡ cond (elem y (snoc (listed n r st) x)) 1 0
  mark_more y = rw (any_snoc (eqb y) (listed n r st) x) (go (eqb y x) refl)
    where
      go : (b : Bool) → eqb y x ≡ b → get_or (set (st m) x 1) y 0 ≡ cond (elem y (listed n r st) || b) 1 0
      go true e = rw (eqb-true y x e, or_true (elem x (listed n r st))) (get_or-set_same (st m) x 1 0 f.low)
      go false e = get_or-set_other (st m) x y 1 0 (eqb-false y x e) ∙ (f.marked.marks y ∙ or_none (elem y (listed n r st)))
        where
          or_none : (b : Bool) → ◌≡◌ {A = ℕ} (cond b 1 0) (cond (b || false) 1 0)
          or_none true = refl
          or_none false = refl

  others_after : Changed (r ∷ m ∷ []) st after
  others_after = changed_then (changed_stored r n x refl (first r (m ∷ []))) (changed_stored m x 1 refl (second r m))

  pushed : Pushed r m n x st (n + 1) after
  pushed =
      let k = f.marked in
      record {
        count = refl;
        list = listed_more;
        marked = record {
          apart = k.apart;
          short = omega (arith, k.short, length_after r);
          room = omega (arith, k.room, length_after r, length_after m);
          most = omega (arith, free_room, length_after r);
          once = rw listed_more (once_snoc k.once (not_elem x (listed n r st) f.new));
          marks = λ y. rw (marks_after, listed_more) (mark_more y);
        };
        others = others_after;
      }
    where
      length_after : (j : ℕ) → length (after j) ≡ length (st j)
      length_after j = length_stored (stored st r n x) m x 1 j ∙ length_stored st r n x j

  pub push_is : (st₁ st₂ : ℕ → List ℕ) (a b : ℕ) → a ≡ r → b ≡ m → st₁ ≡ stored st a n x → st₂ ≡ stored st₁ b x 1 → Pushed r m n x st (n + 1) st₂
  push_is st₁ st₂ a b p q e d = rw (d, e, p, q) pushed

-- ---- clear

-- the loop at place i: the first i numbers of the list have no mark any more
pub record Clearing (l : Limits) (r m n : ℕ) (b₀ b : List ℕ) (i : ℕ) : Type 0 where
  pub fits : Fits l (length b)
  pub same : length b ≡ length b₀
  pub passed : i ≤ n
  pub whole : Marked r m n (held l b₀)
  pub lengths : length (held l b m) ≡ length (held l b₀ m)
  pub others : (j : ℕ) → (j ≡ m → ⊥) → held l b j ≡ held l b₀ j
  pub marks : (x : ℕ) → get_or (held l b m) x 0 ≡ cond (elem x (take i (listed n r (held l b₀)))) 0 (get_or (held l b₀ m) x 0)

pub clear_start : {l : Limits} {r m n : ℕ} {b : List ℕ} → Fits l (length b) → Marked r m n (held l b) → Clearing l r m n b b 0
unfolding any
clear_start f k = record { fits = f; same = refl; passed = zero-le; whole = k; lengths = refl; others = λ j _. refl; marks = λ x. refl }

module _ {l : Limits} {r m n i : ℕ} {b₀ b : List ℕ} (k : Clearing l r m n b₀ b i) (h : i < n) where
  passed_more : take (i + 1) (listed n r (held l b₀)) ≡ snoc (take i (listed n r (held l b₀))) (get_or (held l b r) i 0)
  unfolding listed snoc
  passed_more =
      rw (k.others r k.whole.apart, add-one, take-suc (take n (held l b₀ r)) i 0 (omega (arith, length-take-le n (held l b₀ r) k.whole.most)))
      (ap (λ (y : ℕ). take i (take n (held l b₀ r)) ++ (y ∷ [])) (get_or-take n (held l b₀ r) i 0 h))

  marks_less : (x : ℕ) → x ≡ get_or (held l b r) i 0
      → (y : ℕ) → get_or (set (held l b m) x 0) y 0 ≡ cond (elem y (take (i + 1) (listed n r (held l b₀)))) 0 (get_or (held l b₀ m) y 0)
  marks_less x e y = rw (passed_more, ← e, any_snoc (eqb y) (take i (listed n r (held l b₀))) x) (go (eqb y x) refl)
    where
      or_none : (b : Bool) (u v : ℕ) → cond b u v ≡ cond (b || false) u v
      or_none true u v = refl
      or_none false u v = refl

      go : (c : Bool) → eqb y x ≡ c
          → get_or (set (held l b m) x 0) y 0 ≡ cond (elem y (take i (listed n r (held l b₀))) || c) 0 (get_or (held l b₀ m) y 0)
      go true e = rw (eqb-true y x e, or_true (elem x (take i (listed n r (held l b₀))))) (zero_stored (held l b m) x)
      go false e = get_or-set_other (held l b m) x y 0 0 (eqb-false y x e) ∙ (k.marks y ∙ or_none (elem y (take i (listed n r (held l b₀)))) 0 (get_or (held l b₀ m) y 0))

  pub clear_step : (x : ℕ) (b' : List ℕ) → x ≡ get_or (held l b r) i 0 → held l b' ≡ stored (held l b) m x 0 → length b' ≡ length b
      → Clearing l r m n b₀ b' (i + 1)
  clear_step x b' e d q =
      record {
        fits = rw q k.fits;
        same = q ∙ k.same;
        passed = omega arith;
        whole = k.whole;
        lengths = rw d (length_stored (held l b) m x 0 m ∙ k.lengths);
        others = λ j p. rw d (stored_other (held l b) m x 0 j p ∙ k.others j p);
        marks = λ y. rw (d, stored_here (held l b) m x 0) (marks_less x e y);
      }

pub clear_end : {l : Limits} {r m n i : ℕ} {b₀ b : List ℕ} → Clearing l r m n b₀ b i → n ≤ i → Emptied r m (held l b₀) (held l b)
clear_end {l} {r} {m} {n} {i} {b₀} {b} k h =
    let w = k.whole in
    record {
      marked = record {
        apart = w.apart;
        short = rw (k.others r w.apart) w.short;
        room = rw (k.lengths, k.others r w.apart) w.room;
        most = zero-le;
        once = unfold listed in empty;
        marks = λ x. unfold listed any in no_mark x;
      };
      others = record { same = λ j e. k.others j (not_marks j e) };
    }
  where
    cleared : (c : Bool) → ◌≡◌ {A = ℕ} (cond c 0 (cond c 1 0)) 0
    cleared true = refl
    cleared false = refl

    no_mark : (x : ℕ) → get_or (held l b m) x 0 ≡ 0
    no_mark x =
        let all : take i (listed n r (held l b₀)) ≡ listed n r (held l b₀) = take_all i (listed n r (held l b₀)) (omega (arith, length_listed k.whole)) in
        k.marks x ∙ rw (all, k.whole.marks x) (cleared (elem x (listed n r (held l b₀))))

    not_marks : (j : ℕ) → elem j (r ∷ m ∷ []) ≡ false → j ≡ m → ⊥
    not_marks j e q = true≢false (sym (second r m) ∙ rw q at e)

-- ---- for callers

-- an empty list, where no number has a mark
pub marked_start : {r m : ℕ} {st : ℕ → List ℕ} → (r ≡ m → ⊥) → length (st r) ≤ 1025 → length (st m) ≤ length (st r) → Blank m st → Marked r m 0 st
unfolding listed any
marked_start a s h z = record { apart = a; short = s; room = h; most = zero-le; once = empty; marks = z.zeros }

-- at the start of a sheet, in any two of the regions 0 to 15 that are long enough
pub marked_blank : (l : Limits) (b : List ℕ) (r m : ℕ) → r < 16 → m < 16 → (r ≡ m → ⊥) → get_or fixed r 0 ≤ 1025 → get_or fixed m 0 ≤ get_or fixed r 0
    → Fits l (length b) → Blank m (held l b) → Marked r m 0 (held l b)
marked_blank l b r m h g a s q f z =
    let p = length_fixed l b r h f in
    let t = length_fixed l b m g f in
    marked_start a (omega arith) (omega arith) z

module _ (l : Limits) (b : List ℕ) (f : Fits l (length b)) (z : Cleared (held l b)) where
  pub owners_start : Marked 1 2 0 (held l b)
  owners_start = marked_blank l b 1 2 (omega arith) (omega arith) (λ e. omega arith) (omega arith) (omega arith) f (z.first 2 (omega arith))

  pub names_start : Marked 3 4 0 (held l b)
  names_start = marked_blank l b 3 4 (omega arith) (omega arith) (λ e. omega arith) (omega arith) (omega arith) f (z.first 4 (omega arith))

  pub added_start : Marked 6 7 0 (held l b)
  added_start = marked_blank l b 6 7 (omega arith) (omega arith) (λ e. omega arith) (omega arith) (omega arith) f (z.first 7 (omega arith))

  pub named_start : Marked 8 9 0 (held l b)
  named_start = marked_blank l b 8 9 (omega arith) (omega arith) (λ e. omega arith) (omega arith) (omega arith) f (z.first 9 (omega arith))

  pub tracked_start : Marked 10 11 0 (held l b)
  tracked_start = marked_blank l b 10 11 (omega arith) (omega arith) (λ e. omega arith) (omega arith) (omega arith) f (z.first 11 (omega arith))

-- a number can have a mark in one of those regions
pub mark_room : (l : Limits) (bytes : List ℕ) (m x : ℕ) → m < 16 → x < get_or fixed m 0 → Fits l (length bytes) → x < length (held l bytes m)
mark_room l bytes m x h g f = rw (length_fixed l bytes m h f) g

-- what changes other regions leaves the list and its marks
pub listed_same : (n r : ℕ) {js : List ℕ} {st st' : ℕ → List ℕ} → Changed js st st' → elem r js ≡ false → listed n r st' ≡ listed n r st
unfolding listed
listed_same n r c e = ap (take n) (c.same r e)

pub marked_same : {r m n : ℕ} {js : List ℕ} {st st' : ℕ → List ℕ} → Marked r m n st → Changed js st st' → elem r js ≡ false → elem m js ≡ false
    → Marked r m n st'
marked_same {r} {m} {n} k c e d =
    record {
      apart = k.apart;
      short = rw (c.same r e) k.short;
      room = rw (c.same r e, c.same m d) k.room;
      most = rw (c.same r e) k.most;
      once = rw (listed_same n r c e) k.once;
      marks = λ x. rw (c.same m d, listed_same n r c e) (k.marks x);
    }
