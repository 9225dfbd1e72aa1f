-- A draw: the entries that are held are drawn, and those that are free are left, both in order.
use mathlib.Core.Path.{◌≡◌, refl, sym, ◌∙◌, ap}
use mathlib.Core.Bool.{Bool, true, false, not, cond}
use mathlib.Core.List.{List, [], ◌∷◌, ◌++◌, map, map-map, map-append, append_assoc, append-nil}
use Prim.Native.Nat.{ℕ, ◌+◌, ◌<◌, ◌≤◌, zero-le}
use native.Mathlib.Numerals.{add-one}
use native.Mathlib.Omega.{arith}
use lib.Dec.{eqb}
use lib.ListN.{length, get_or, set, take, length-append}
use lib.Seq.{take-suc, take_all, get_or-set_same, get_or-set_other}
use borrow.Author.Tests.{eqb-true, eqb-false}
use Rattle.rules.specs.Lists.{filter, snoc, up_to}
use Rattle.state.specs.declared.Limits.{Limits}
use Rattle.state.proofs.Rows.{length_rows, row_at_law, rows_same}
use Rattle.entries.specs.declared.Entry.{Entry}
use Rattle.entries.specs.Entries.{no_entry, entry_of, Long, row_at_index, waiting_in, drawn_in, PushedWaiting, PushedDrawn}
use Rattle.entries.specs.Deferred.{picked, held_at, free_at, Flags, record_of, free_rows, free_of, held_of, DrawnAt, DrawnAll, Stored, Drawn}
use Rattle.entries.proofs.Places.{picked_none, picked_pass, picked_stop, picked_same, picked_filter, picked_both, picked_all, free_there, not_free}

pub length_waiting : (l : Limits) (n : ℕ) (b : List ℕ) → length (waiting_in l n b) ≡ n
unfolding waiting_in
length_waiting l n b = length_rows (λ i. row_at_index b i) n

pub length_drawn : (l : Limits) (n : ℕ) (b : List ℕ) → length (drawn_in l n b) ≡ n
unfolding drawn_in
length_drawn l n b = length_rows (λ i. row_at_index b (l.waiting + i)) n

snoc_append : {A : Type 0} (xs ys : List A) (x : A) → snoc (xs ++ ys) x ≡ xs ++ (ys ++ (x ∷ []))
unfolding snoc
snoc_append xs ys x = append_assoc xs ys (x ∷ [])

-- ---- one entry is drawn where it is held

module _ {l : Limits} {held : List Bool} {n i d : ℕ} {b : List ℕ} where
  pub free_stays : get_or held i false ≡ false → DrawnAt l held n i d b d b
  free_stays h = record { fewer = omega arith; drawn = rw (free_there held i h); waiting = refl }

  pub held_drawn : (e : Entry) {d' : ℕ} {b' : List ℕ} → get_or held i false ≡ true → n ≤ l.waiting → entry_of e ≡ get_or (waiting_in l n b) i no_entry → PushedDrawn l d (entry_of e) b d' b' → DrawnAt l held n i d b d' b'
  held_drawn e h m x p = record { fewer = omega (arith, p.count); drawn = rw (not_free held i h, ← x) p.drawn; waiting = p.waiting n m }

-- ---- all that are held are drawn: i of n entries were looked at

pub record Drawing (l : Limits) (held : List Bool) (n d₀ : ℕ) (b₀ : List ℕ) (i d : ℕ) (b : List ℕ) : Type 0 where
  pub area : Long l (length b)
  pub same : length b ≡ length b₀
  pub passed : i ≤ n
  pub fewer : d ≤ d₀ + i
  pub within : n + d₀ ≤ l.waiting
  pub drawn : drawn_in l d b ≡ drawn_in l d₀ b₀ ++ held_of held i (waiting_in l n b₀)
  pub waiting : waiting_in l n b ≡ waiting_in l n b₀

pub drawing_start : {l : Limits} {held : List Bool} {n d : ℕ} {b : List ℕ} → Long l (length b) → n + d ≤ l.waiting → Drawing l held n d b 0 d b
unfolding held_of
drawing_start {l} {held} {n} {d} {b} a h =
    record {
      area = a;
      same = refl;
      passed = zero-le;
      fewer = omega arith;
      within = h;
      drawn = rw (picked_none (held_at held) (λ i. get_or (waiting_in l n b) i no_entry)) (sym (append-nil (drawn_in l d b)));
      waiting = refl;
    }

module _ {l : Limits} {held : List Bool} {n d₀ i d : ℕ} {b₀ b : List ℕ} (r : Drawing l held n d₀ b₀ i d b) where
  drawn_by : (t : Bool) → held_at held i ≡ t
      → cond (not t) (drawn_in l d b) (snoc (drawn_in l d b) (get_or (waiting_in l n b) i no_entry)) ≡ drawn_in l d₀ b₀ ++ held_of held (i + 1) (waiting_in l n b₀)
  unfolding held_of
  drawn_by false t = r.drawn ∙ ap (λ (xs : List (ℕ × ℕ)). drawn_in l d₀ b₀ ++ xs) (sym (picked_stop (held_at held) (λ j. get_or (waiting_in l n b₀) j no_entry) i t))
  drawn_by true t =
      rw (r.drawn, r.waiting, held_of)
      (snoc_append (drawn_in l d₀ b₀) (picked (held_at held) (λ j. get_or (waiting_in l n b₀) j no_entry) i) (get_or (waiting_in l n b₀) i no_entry)
      ∙ ap (λ (xs : List (ℕ × ℕ)). drawn_in l d₀ b₀ ++ xs) (sym (picked_pass (held_at held) (λ j. get_or (waiting_in l n b₀) j no_entry) i t)))

  pub drawing_step : {d' : ℕ} {b' : List ℕ} → i < n → DrawnAt l held n i d b d' b' → length b' ≡ length b → Drawing l held n d₀ b₀ (i + 1) d' b'
  drawing_step h s m =
      record {
        area = rw m r.area;
        same = m ∙ r.same;
        passed = omega arith;
        fewer = omega (arith, s.fewer, r.fewer);
        within = r.within;
        drawn = s.drawn ∙ (unfold free_at in drawn_by (held_at held i) refl);
        waiting = s.waiting ∙ r.waiting;
      }

pub drawing_end : {l : Limits} {held : List Bool} {n d₀ d : ℕ} {b₀ b : List ℕ} → Drawing l held n d₀ b₀ n d b → DrawnAll l held n d₀ b₀ d b
drawing_end r = record { drawn = r.drawn; waiting = r.waiting }

-- ---- the records of a list wait: the first i

pub record Storing (l : Limits) (records : List Entry) (b₀ : List ℕ) (i : ℕ) (b : List ℕ) : Type 0 where
  pub area : Long l (length b)
  pub same : length b ≡ length b₀
  pub within : length records ≤ l.waiting
  pub waiting : waiting_in l i b ≡ map entry_of (take i records)
  pub drawn : (k : ℕ) → drawn_in l k b ≡ drawn_in l k b₀

pub storing_start : {l : Limits} {records : List Entry} {b : List ℕ} → Long l (length b) → length records ≤ l.waiting → Storing l records b 0 b
unfolding waiting_in up_to
storing_start a h = record { area = a; same = refl; within = h; waiting = refl; drawn = λ k. refl }

module _ {l : Limits} {records : List Entry} {i : ℕ} {b₀ b : List ℕ} (r : Storing l records b₀ i b) where
  pub storing_step : {i' : ℕ} {b' : List ℕ} → i < length records → PushedWaiting l i (entry_of (get_or records i (record_of no_entry))) b i' b' → length b' ≡ length b
      → Storing l records b₀ (i + 1) b'
  unfolding snoc
  storing_step {i'} {b'} m p e =
      record {
        area = rw e r.area;
        same = e ∙ r.same;
        within = r.within;
        waiting = rw (sym p.count) (p.waiting ∙ (rw (r.waiting, p.count, add-one, take-suc records i (record_of no_entry) m, map-append)));
        drawn = λ k. p.drawn k ∙ r.drawn k;
      }

pub storing_end : {l : Limits} {records : List Entry} {i : ℕ} {b₀ b : List ℕ} → Storing l records b₀ i b → i ≡ length records → Stored l records b₀ b
storing_end {records = records} {i = i} r e = record { waiting = rw (sym e) (r.waiting ∙ ap (map entry_of) (take_all i records (omega arith))); drawn = r.drawn }

-- ---- the whole draw

module _ (l : Limits) (held : List Bool) (n : ℕ) (b : List ℕ) where
  abbrev at : ℕ → ℕ × ℕ
  at i = get_or (waiting_in l n b) i no_entry

  same_row : (i : ℕ) → i < n → at i ≡ row_at_index b i
  unfolding waiting_in
  same_row i h = row_at_law (λ j. row_at_index b j) no_entry n i h

  -- as entries, the rows that are free are those of the waiting ones that are
  free_rows_law : map entry_of (free_rows held n b) ≡ free_of held n (waiting_in l n b)
  unfolding free_rows free_of picked entry_of
  free_rows_law =
      map-map entry_of (λ i. record_of (row_at_index b i)) (filter (free_at held) (up_to 0 n))
      ∙ sym (picked_same (free_at held) (free_at held) at (λ i. row_at_index b i) n (λ i h. refl) same_row)

  -- each entry is free or held
  both : length (free_of held n (waiting_in l n b)) + length (held_of held n (waiting_in l n b)) ≡ n
  unfolding free_of held_of
  both = picked_both held at at n

  -- where none is held all are free
  all_left : length (held_of held n (waiting_in l n b)) ≡ 0 → waiting_in l n b ≡ free_of held n (waiting_in l n b)
  unfolding held_of free_of waiting_in
  all_left h = sym (picked_all held at n h ∙ rows_same at (λ i. row_at_index b i) n same_row)

module _ {l : Limits} {held : List Bool} {n d d' : ℕ} {b b₁ : List ℕ} (r : DrawnAll l held n d b d' b₁) where
  -- as many more are drawn as are held
  more : d' ≡ d + length (held_of held n (waiting_in l n b))
  more = sym (length_drawn l d' b₁) ∙ (ap length r.drawn ∙ (length-append (drawn_in l d b) (held_of held n (waiting_in l n b)) ∙ rw (length_drawn l d b)))

  pub none_drawn : d' ≡ d → Drawn l held n d b n d b₁
  none_drawn e =
      record {
        total = refl;
        waiting = r.waiting ∙ all_left l held n b (omega (arith, more));
        drawn = rw e at r.drawn;
      }

  pub some_drawn : {records : List Entry} {k : ℕ} {b₂ : List ℕ} → k ≡ length records → records ≡ free_rows held n b₁ → Stored l records b₁ b₂ → Drawn l held n d b k d' b₂
  some_drawn {records} {k} {b₂} z f s =
      let left : waiting_in l k b₂ ≡ free_of held n (waiting_in l n b) = rw z (s.waiting ∙ (ap (map entry_of) f ∙ (free_rows_law l held n b₁ ∙ rw r.waiting))) in
      let count : k ≡ length (free_of held n (waiting_in l n b)) = sym (length_waiting l k b₂) ∙ ap length left in
      record { total = omega (arith, more, count, both l held n b); waiting = left; drawn = s.drawn d' ∙ r.drawn }

-- ---- for callers: a draw by a test

pub flags_start : {f : ℕ × ℕ → Bool} {xs : List (ℕ × ℕ)} {held : List Bool} → Flags f 0 xs held
flags_start = record { is = λ i h. let no : ⊥ = omega arith in absurd no }

-- the flag of one entry more
module _ {f : ℕ × ℕ → Bool} {n : ℕ} {xs : List (ℕ × ℕ)} {held : List Bool} (r : Flags f n xs held) where
  pub flags_step : {b : Bool} → n < length held → b ≡ f (get_or xs n no_entry) → Flags f (n + 1) xs (set held n b)
  unfolding held_at
  flags_step {b} h t = record { is = λ i m. by_place i (eqb i n) refl m }
    where
      by_place : (i : ℕ) (z : Bool) → eqb i n ≡ z → i < n + 1 → get_or (set held n b) i false ≡ f (get_or xs i no_entry)
      by_place i true q m = rw (eqb-true i n q) (get_or-set_same held n b false h ∙ t)
      by_place i false q m = rw (get_or-set_other held n i b false (eqb-false i n q)) (r.is i (omega (arith, eqb-false i n q)))

-- 01, "Draw removes exactly the entries that then hold, in order"
pub record Drained (l : Limits) (f : ℕ × ℕ → Bool) (n d₀ : ℕ) (b₀ : List ℕ) (k d : ℕ) (b : List ℕ) : Type 0 where
  pub total : d + k ≡ d₀ + n
  pub waiting : waiting_in l k b ≡ filter (λ e. not (f e)) (waiting_in l n b₀)
  pub drawn : drawn_in l d b ≡ drawn_in l d₀ b₀ ++ filter f (waiting_in l n b₀)

-- the entries that are held are those that pass the test
module _ {f : ℕ × ℕ → Bool} {n : ℕ} {xs : List (ℕ × ℕ)} {held : List Bool} (r : Flags f n xs held) (many : length xs ≡ n) where
  abbrev elem : ℕ → ℕ × ℕ
  elem i = get_or xs i no_entry

  by_test : (g : ℕ → Bool) (h : ℕ × ℕ → Bool) → ((i : ℕ) → i < n → g i ≡ h (elem i)) → picked g elem n ≡ filter h xs
  by_test g h e =
      picked_same g (λ i. h (elem i)) elem elem n e (λ i m. refl)
      ∙ (picked_filter h no_entry xs n (omega arith) ∙ ap (filter h) (take_all n xs (omega arith)))

  held_by : held_of held n xs ≡ filter f xs
  unfolding held_of
  held_by = by_test (held_at held) f r.is

  free_by_test : (i : ℕ) → i < n → free_at held i ≡ not (f (elem i))
  unfolding free_at
  free_by_test i h = ap not (r.is i h)

  free_by : free_of held n xs ≡ filter (λ e. not (f e)) xs
  unfolding free_of
  free_by = by_test (free_at held) (λ e. not (f e)) free_by_test

pub drained : {l : Limits} {f : ℕ × ℕ → Bool} {held : List Bool} {n d k d' : ℕ} {b₀ b : List ℕ} → Drawn l held n d b₀ k d' b → Flags f n (waiting_in l n b₀) held → Drained l f n d b₀ k d' b
drained {l} {n = n} {b₀ = b₀} s r =
    record {
      total = s.total;
      waiting = s.waiting ∙ free_by r (length_waiting l n b₀);
      drawn = s.drawn ∙ rw (held_by r (length_waiting l n b₀));
    }
