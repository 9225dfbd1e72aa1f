-- Entries against their code: a row of two numbers, and one entry more at the end of either list.
use mathlib.Core.Path.{◌≡◌, refl, sym, ◌∙◌}
use mathlib.Core.List.{List}
use Prim.Native.Nat.{ℕ, ◌+◌, ◌*◌, ◌<◌}
use native.Mathlib.Omega.{arith}
use lib.ListN.{length, get_or, set, length-set}
use lib.Seq.{get_or-set_same, get_or-set_other}
use Rattle.words.specs.Words.{words, words_in}
use Rattle.state.specs.declared.Limits.{Limits}
use Rattle.state.proofs.Rows.{row_at_law, rows_more, rows_same}
use Rattle.entries.specs.declared.Entry.{Entry}
use Rattle.entries.specs.Entries.{no_entry, entry_of, row_at_index, RowSet, waiting_in, drawn_in, PushedWaiting, PushedDrawn}

-- ---- a row

pub row_is : (at x y : ℕ) (b : List ℕ) → x ≡ get_or (words b) (2 * at) 0 → y ≡ get_or (words b) (2 * at + 1) 0
    → entry_of (record { requirement = x; disjunct = y }) ≡ row_at_index b at
unfolding entry_of row_at_index
row_is at x y b e d = rw (e, d)

module _ (at : ℕ) (e : Entry) (b b₁ b₂ : List ℕ) (h : 4 * at + 3 < length b) (p : words b₁ ≡ set (words b) (2 * at) e.requirement)
    (q : words b₂ ≡ set (words b₁) (2 * at + 1) e.disjunct) where
  stored : words b₂ ≡ set (set (words b) (2 * at) e.requirement) (2 * at + 1) e.disjunct
  stored = q ∙ rw p

  room : 2 * at + 1 < length (words b)
  room = words_in b (2 * at + 1) (omega arith)

  first : get_or (words b₂) (2 * at) 0 ≡ e.requirement
  first =
      rw stored
      (get_or-set_other (set (words b) (2 * at) e.requirement) (2 * at + 1) (2 * at) e.disjunct 0 (λ x. omega arith)
      ∙ get_or-set_same (words b) (2 * at) e.requirement 0 (omega (arith, room)))

  second : get_or (words b₂) (2 * at + 1) 0 ≡ e.disjunct
  second = rw stored (get_or-set_same (set (words b) (2 * at) e.requirement) (2 * at + 1) e.disjunct 0 (rw length-set room))

  else_same : (k : ℕ) → (k ≡ 2 * at → ⊥) → (k ≡ 2 * at + 1 → ⊥) → get_or (words b₂) k 0 ≡ get_or (words b) k 0
  else_same k m n =
      rw stored
      (get_or-set_other (set (words b) (2 * at) e.requirement) (2 * at + 1) k e.disjunct 0 n ∙ get_or-set_other (words b) (2 * at) k e.requirement 0 m)

  pub set_row_is : RowSet at (entry_of e) b b₂
  unfolding row_at_index entry_of
  set_row_is =
      record {
        there = rw (first, second);
        others = λ i n. rw (else_same (2 * i) (λ x. n (omega arith)) (λ x. omega arith), else_same (2 * i + 1) (λ x. omega arith) (λ x. n (omega arith)));
      }

-- ---- the lists

module _ (l : Limits) (n i : ℕ) (b : List ℕ) (e : Entry) (h : i < n) where
  pub waiting_is : entry_of e ≡ row_at_index b i → entry_of e ≡ get_or (waiting_in l n b) i no_entry
  unfolding waiting_in
  waiting_is d = d ∙ sym (row_at_law (λ k. row_at_index b k) no_entry n i h)

  pub drawn_is : entry_of e ≡ row_at_index b (l.waiting + i) → entry_of e ≡ get_or (drawn_in l n b) i no_entry
  unfolding drawn_in
  drawn_is d = d ∙ sym (row_at_law (λ k. row_at_index b (l.waiting + k)) no_entry n i h)

module _ {n : ℕ} {x : ℕ × ℕ} {b b' : List ℕ} (l : Limits) (h : n < l.waiting) where
  pub push_waiting_is : RowSet n x b b' → PushedWaiting l n x b (n + 1) b'
  unfolding waiting_in drawn_in
  push_waiting_is r =
      record {
        count = refl;
        waiting = rows_more (λ i. row_at_index b' i) n ∙ rw (r.there, rows_same (λ i. row_at_index b' i) (λ i. row_at_index b i) n (λ i m. r.others i (λ e. omega arith)));
        drawn = λ k. rows_same (λ i. row_at_index b' (l.waiting + i)) (λ i. row_at_index b (l.waiting + i)) k (λ i m. r.others (l.waiting + i) (λ e. omega arith));
      }

  pub push_drawn_is : RowSet (l.waiting + n) x b b' → PushedDrawn l n x b (n + 1) b'
  unfolding waiting_in drawn_in
  push_drawn_is r =
      record {
        count = refl;
        drawn = rows_more (λ i. row_at_index b' (l.waiting + i)) n
            ∙ rw (r.there, rows_same (λ i. row_at_index b' (l.waiting + i)) (λ i. row_at_index b (l.waiting + i)) n (λ i m. r.others (l.waiting + i) (λ e. omega arith)));
        waiting = λ k m. rows_same (λ i. row_at_index b' i) (λ i. row_at_index b i) k (λ i g. r.others i (λ e. omega arith));
      }
