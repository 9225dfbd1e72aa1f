-- A part of an area that was lent and has come back: numbers stored at its start are numbers stored behind those before it.
use mathlib.Core.Path.{◌≡◌, refl, ap, sym, ◌∙◌}
use mathlib.Core.List.{List, [], ◌∷◌, ◌++◌, append-nil}
use Prim.Native.Nat.{ℕ, zero, suc, ◌+◌, ◌-◌, ◌*◌, ◌≤◌}
use native.Mathlib.Omega.{arith}
use lib.ListN.{length, take, drop, set, drop_of_length-le, length-drop}
use lib.Seq.{take_all, sets}
use Rattle.words.specs.Words.{words, length_words}

twice : (j : ℕ) → suc j * 2 ≡ suc (suc (j * 2))
twice j = omega arith

pub words_split : (j : ℕ) (l q : List ℕ) → j * 2 ≤ length l → words (take (j * 2) l ++ q) ≡ take j (words l) ++ words q
unfolding words
words_split zero l q h = refl
words_split (suc j) [] q h = absurd (none j h)
  where
    none : (k : ℕ) → suc k * 2 ≤ 0 → ⊥
    none k h = omega arith
words_split (suc j) (x ∷ []) q h = absurd (none j h)
  where
    none : (k : ℕ) → suc k * 2 ≤ 1 → ⊥
    none k h = omega arith
words_split (suc j) (x ∷ y ∷ l) q h =
    rw (twice j) (ap (λ (t : List ℕ). (x + 256 * y) ∷ t) (words_split j l q (less j (length l) h)))
  where
    less : (k m : ℕ) → suc k * 2 ≤ suc (suc m) → k * 2 ≤ m
    less k m h = omega arith

pub words_drop : (j : ℕ) (l : List ℕ) → j * 2 ≤ length l → words (drop (j * 2) l) ≡ drop j (words l)
unfolding words
words_drop zero l h = refl
words_drop (suc j) [] h = absurd (none j h)
  where
    none : (k : ℕ) → suc k * 2 ≤ 0 → ⊥
    none k h = omega arith
words_drop (suc j) (x ∷ []) h = absurd (none j h)
  where
    none : (k : ℕ) → suc k * 2 ≤ 1 → ⊥
    none k h = omega arith
words_drop (suc j) (x ∷ y ∷ l) h = rw (twice j) (words_drop j l (less j (length l) h))
  where
    less : (k m : ℕ) → suc k * 2 ≤ suc (suc m) → k * 2 ≤ m
    less k m h = omega arith

sets_cons : (x : ℕ) (w : List ℕ) (at : ℕ) (xs : List ℕ) → sets (x ∷ w) (suc at) xs ≡ x ∷ sets w at xs
sets_cons x w at [] = refl
sets_cons x w at (y ∷ xs) = sets_cons x (set w at y) (suc at) xs

sets_behind : (j : ℕ) (w xs : List ℕ) → j ≤ length w → take j w ++ sets (drop j w) 0 xs ≡ sets w j xs
sets_behind zero w xs h = refl
sets_behind (suc j) [] xs h = absurd (none j h)
  where
    none : (k : ℕ) → suc k ≤ 0 → ⊥
    none k h = omega arith
sets_behind (suc j) (x ∷ w) xs h = ap (λ (t : List ℕ). x ∷ t) (sets_behind j w xs (less j (length w) h)) ∙ sym (sets_cons x w j xs)
  where
    less : (k m : ℕ) → suc k ≤ suc m → k ≤ m
    less k m h = omega arith

-- `k` bytes from byte `a` = 2 j on were lent, to the area's end
pub stored_behind : (j a k : ℕ) (xs ys ns : List ℕ) → a ≡ j * 2 → k ≡ length xs - a → a ≤ length xs
    → words ys ≡ sets (words (take k (drop a xs))) 0 ns → words (take a xs ++ (ys ++ drop k (drop a xs))) ≡ sets (words xs) j ns
stored_behind j a k xs ys ns ea ek h e =
    let i : j * 2 ≤ length xs = omega arith in
    let g : length (drop a xs) ≤ k = rw length-drop (omega arith) in
    let none_left : drop k (drop a xs) ≡ [] = drop_of_length-le (drop a xs) g in
    let d : words (drop a xs) ≡ drop j (words xs) = rw ea (words_drop j xs i) in
    let f : words ys ≡ sets (drop j (words xs)) 0 ns = rw (take_all k (drop a xs) g, d) at e in
    rw (none_left, append-nil ys, ea) (words_split j xs ys i ∙ rw f (sets_behind j (words xs) ns (omega (arith, length_words xs))))
