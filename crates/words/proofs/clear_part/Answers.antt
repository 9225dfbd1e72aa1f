-- The bytes of a part are 0 now, so the numbers of that part are.
use Rattle.std.proofs.Common.{◌≡◌, ◌∙◌, ◌+◌, ◌-◌, ◌*◌, ◌≤◌, ℕ, zero, suc, List, ◌++◌, ◌∷◌, refl, ap, arith, length, take, drop, replicate, get_or, length-take-le, get_or-take, get_or-drop, length-drop}
use Rattle.std.proofs.lemmas.List.{get_or_append_left, get_or-append_right, get_or-replicate, length-replicate}
use native.Mathlib.Decide.{dec_lt}
use Rattle.words.specs.Words.{words, length_words, Zeroed}
use Rattle.words.proofs.Parts.{words_split, words_drop}
use Rattle.words.proofs.clear_part.Goals as goal

zeros_before : (n : ℕ) (t : List ℕ) → words (replicate (n * 2) 0 ++ t) ≡ replicate n 0 ++ words t
unfolding words
zeros_before zero t = refl
zeros_before (suc n) t =
    let e : suc n * 2 ≡ suc (suc (n * 2)) = omega arith in
    rw e (ap (λ (l : List ℕ). 0 ∷ l) (zeros_before n t))

-- the numbers of an area whose bytes from `from * 2` on have become n times two zeros
numbers : (from n : ℕ) (d : List ℕ) → (from + n) * 2 ≤ length d
    → words (take (from * 2) d ++ (replicate (n * 2) 0 ++ drop (n * 2) (drop (from * 2) d)))
    ≡ take from (words d) ++ (replicate n 0 ++ drop n (drop from (words d)))
numbers from n d h =
    let f : from * 2 ≤ length d = omega arith in
    let g : n * 2 ≤ length (drop (from * 2) d) = rw length-drop (omega arith) in
    rw (words_split from d (replicate (n * 2) 0 ++ drop (n * 2) (drop (from * 2) d)) f, zeros_before n (drop (n * 2) (drop (from * 2) d)), words_drop n (drop (from * 2) d) g, words_drop from d f)

zeroed : (from n : ℕ) (w : List ℕ) → from + n ≤ length w → Zeroed from (from + n) w (take from w ++ (replicate n 0 ++ drop n (drop from w)))
zeroed from n w h =
    let front : length (take from w) ≡ from = length-take-le from w (omega arith) in
    record {
      zeros = λ i p q.
          get_or-append_right (take from w) (replicate n 0 ++ drop n (drop from w)) from i 0 front p
          ∙ (get_or_append_left (replicate n 0) (drop n (drop from w)) 0 (i - from) (omega (arith, length-replicate {A = ℕ} n 0))
          ∙ get_or-replicate n (i - from) 0 0 (omega arith));
      others = λ i p. elim (dec_lt i from) [
        | yes q ↦ get_or_append_left (take from w) (replicate n 0 ++ drop n (drop from w)) 0 i (omega arith) ∙ get_or-take from w i 0 q
        | no q ↦
            let r : from + n ≤ i = omega (arith, p (omega arith)) in
            let e : from + (n + (i - from - n)) ≡ i = omega arith in
            get_or-append_right (take from w) (replicate n 0 ++ drop n (drop from w)) from i 0 front (omega arith)
            ∙ (get_or-append_right (replicate n 0) (drop n (drop from w)) n (i - from) 0 (length-replicate {A = ℕ} n 0) (omega arith)
            ∙ (get_or-drop n (drop from w) (i - from - n) 0 ∙ (get_or-drop from w (n + (i - from - n)) 0 ∙ ap (λ (k : ℕ). get_or w k 0) e)))
      ];
    }

zeroed_part : (from to n : ℕ) (d z : List ℕ) → from + n ≡ to → to * 2 ≤ length d → z ≡ replicate (length (take (to * 2 - from * 2) (drop (from * 2) d))) 0
    → Zeroed from to (words d) (words (take (from * 2) d ++ (z ++ drop (to * 2 - from * 2) (drop (from * 2) d))))
zeroed_part from to n d z e h s =
    let k : to * 2 - from * 2 ≡ n * 2 = omega arith in
    let l : length (take (n * 2) (drop (from * 2) d)) ≡ n * 2 = length-take-le (n * 2) (drop (from * 2) d) (rw length-drop (omega arith)) in
    let zeros : z ≡ replicate (n * 2) 0 = rw (k, l) at s in
    rw (zeros, k, numbers from n d (omega arith), ← e) (zeroed from n (words d) (omega (arith, length_words d)))

pub returns : goal.returns
returns c = zeroed_part c.args.from c.args.to (c.args.to - c.args.from) c.args.s.now c.clear.new.s (omega arith) (omega arith) c.clear.ensures
