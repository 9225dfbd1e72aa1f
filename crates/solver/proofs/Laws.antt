-- Rows of stored clauses: reading one and appending one.
use mathlib.Core.Path.{◌≡◌, ap, ◌∙◌}
use mathlib.Core.List.{List, [], ◌∷◌, ◌++◌}
use Prim.Native.Nat.{ℕ, suc, ◌+◌, ◌-◌, ◌*◌, ◌<◌, ◌≤◌}
use native.Mathlib.Omega.{arith}
use lib.ListN.{length, get_or, set, take, drop}
use lib.Seq.{sets}
use Rattle.rules.specs.Lists.{snoc}
use Rattle.words.specs.Words.{words, length_words}
use Rattle.words.proofs.Parts.{stored_behind}
use Rattle.tables.specs.Tables.{field}
use Rattle.tables.proofs.Listed.{listed_at, listed_more, listed_same}
use Rattle.tables.proofs.Stores.{Stored, stored_outside, stored_inside}
use Rattle.solver.specs.declared.Stored as declared
use Rattle.solver.specs.Rows.{no_row, row_in, rows, row_of, row_numbers}

-- ---- reading

-- place f of row i
placed : (w : List ℕ) (i f r : ℕ) → r ≡ get_or w (i * 10 + f) 0 → r ≡ field w 0 10 i f
unfolding field
placed w i f r e =
    let q : i * 10 + f ≡ 0 + 10 * i + f = omega arith in
    e ∙ ap (λ (k : ℕ). get_or w k 0) q

row_in_law : (n i : ℕ) (b : List ℕ) → i < n → get_or (rows n b) i no_row ≡ row_in (words b) i
unfolding rows
row_in_law n i b h = listed_at n (row_in (words b)) i no_row h

pub row_is : (n i k p q s c f m x : ℕ) (b : List ℕ) → i < n → k ≡ get_or (words b) (i * 10) 0 → p ≡ get_or (words b) (i * 10 + 1) 0
    → q ≡ get_or (words b) (i * 10 + 2) 0 → s ≡ get_or (words b) (i * 10 + 3) 0 → c ≡ get_or (words b) (i * 10 + 4) 0 → f ≡ get_or (words b) (i * 10 + 5) 0
    → m ≡ get_or (words b) (i * 10 + 6) 0 → x ≡ get_or (words b) (i * 10 + 7) 0
    → row_of (record { kind = k; first = p; second = q; start = s; count = c; form = f; number = m; conflict = x }) ≡ get_or (rows n b) i no_row
unfolding row_in row_of
row_is n i k p q s c f m x b h ek ep eq es ec ef em ex =
    let w = words b in
    let z : i * 10 ≡ i * 10 + 0 = omega arith in
    rw (
      row_in_law n i b h,
      ← placed w i 0 k (ek ∙ ap (λ (y : ℕ). get_or w y 0) z),
      ← placed w i 1 p ep,
      ← placed w i 2 q eq,
      ← placed w i 3 s es,
      ← placed w i 4 c ec,
      ← placed w i 5 f ef,
      ← placed w i 6 m em,
      ← placed w i 7 x ex,
    )

-- ---- one row more

pub four_written : (w t u v z : List ℕ) (at a b c d : ℕ) → t ≡ set w at a → u ≡ set t (at + 1) b → v ≡ set u (at + 2) c → z ≡ set v (at + 3) d
    → z ≡ sets w at (a ∷ b ∷ c ∷ d ∷ [])
four_written w t u v z at a b c d et eu ev ez =
    let p : at + 1 ≡ suc at = omega arith in
    let q : at + 2 ≡ suc (suc at) = omega arith in
    let r : at + 3 ≡ suc (suc (suc at)) = omega arith in
    rw (ez, ev, eu, et, p, q, r)

pub row_written : (r : declared.Stored) (w a b : List ℕ) → a ≡ sets w 0 (r.kind ∷ r.first ∷ r.second ∷ r.start ∷ [])
    → b ≡ sets a 4 (r.count ∷ r.form ∷ r.number ∷ r.conflict ∷ []) → b ≡ sets w 0 (row_numbers r)
unfolding row_numbers
row_written r w a b ea eb = rw (eb, ea)

-- an earlier row is as it was, and the new one is what was written
module _ (n : ℕ) (r : declared.Stored) (w w' : List ℕ) (s : Stored w (n * 10) (row_numbers r) w') where
  earlier : (i : ℕ) → i < n → row_in w' i ≡ row_in w i
  unfolding row_in field row_numbers
  earlier i h = rw (at 0 (omega arith), at 1 (omega arith), at 2 (omega arith), at 3 (omega arith), at 4 (omega arith), at 5 (omega arith), at 6 (omega arith), at 7 (omega arith))
    where
      at : (f : ℕ) → f < 10 → get_or w' (0 + 10 * i + f) 0 ≡ get_or w (0 + 10 * i + f) 0
      at f g = stored_outside s (0 + 10 * i + f) (λ a b. omega arith)

  latest : n * 10 + 8 ≤ length w → row_in w' n ≡ row_of r
  unfolding row_in row_of field row_numbers
  latest l = rw (at 0 (omega arith), at 1 (omega arith), at 2 (omega arith), at 3 (omega arith), at 4 (omega arith), at 5 (omega arith), at 6 (omega arith), at 7 (omega arith))
    where
      at : (f : ℕ) → f < 8 → get_or w' (0 + 10 * n + f) 0 ≡ get_or (row_numbers r) f 0
      at f g =
          let q : 0 + 10 * n + f ≡ n * 10 + f = omega arith in
          ap (λ (x : ℕ). get_or w' x 0) q ∙ stored_inside s f g l

pub appended : (n a k : ℕ) (xs ys : List ℕ) (r : declared.Stored) → a ≡ n * 20 → k ≡ length xs - a → n * 20 + 20 ≤ length xs
    → words ys ≡ sets (words (take k (drop a xs))) 0 (row_numbers r) → rows (n + 1) (take a xs ++ (ys ++ drop k (drop a xs))) ≡ snoc (rows n xs) (row_of r)
unfolding rows
appended n a k xs ys r ea ek h e =
    let w = words xs in
    let w' = words (take a xs ++ (ys ++ drop k (drop a xs))) in
    let s : Stored w (n * 10) (row_numbers r) w' = record { is = stored_behind (n * 10) a k xs ys (row_numbers r) (omega arith) ek (omega arith) e } in
    listed_more n (row_in w') ∙ rw (listed_same n (row_in w') (row_in w) (earlier n r w w' s), latest n r w w' s (omega (arith, length_words xs)))
