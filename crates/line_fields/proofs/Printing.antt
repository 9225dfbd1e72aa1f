-- A loop that prints: in its turn i what `t i` says. And the lists of the definitions, as such turns.
use mathlib.Core.Path.{◌≡◌, refl, ◌∙◌}
use mathlib.Core.Bool.{Bool, true}
use mathlib.Core.List.{List, [], ◌∷◌, ◌++◌, map, append_assoc, append-nil}
use Prim.Native.Nat.{ℕ, zero, suc, ◌+◌, ◌<◌, ◌≤◌}
use native.Mathlib.Nat.{add-zero}
use native.Mathlib.Numerals.{add-one}
use native.Mathlib.Decide.{ℕ_discrete}
use native.Mathlib.Omega.{arith}
use lib.Dec.{ltb}
use lib.ListN.{length, get_or}
use Rattle.rules.specs.Lists.{concat_map, up_to}
use Rattle.rules.proofs.ListLaws.{concat_map_append, up_to_last}
use Rattle.text.specs.declared.Writer.{Writer}
use Rattle.text.specs.Writing.{Writes}
use Rattle.text.proofs.Writing.{nothing, then, stopped}
use Rattle.line_fields.specs.Listed.{texts}

-- ---- the loop

module _ (t : ℕ → List ℕ) where
  texts_none : texts t 0 ≡ []
  unfolding texts concat_map up_to
  texts_none = refl

  texts_more : (i : ℕ) → texts t (i + 1) ≡ texts t i ++ t i
  unfolding texts concat_map
  texts_more i = rw (up_to_last i, concat_map_append, append-nil)

  -- what the turns from i on print
  texts_behind : (i n : ℕ) → i ≤ n → (rest : List ℕ) × (texts t n ≡ texts t i ++ rest)
  texts_behind i zero h = let e : i ≡ 0 = omega arith in ([], rw (e, append-nil))
  texts_behind i (suc n) h = elim (ℕ_discrete i (suc n)) [ yes e ↦ ([], rw (e, append-nil)) | no d ↦ one_more i n (texts_behind i n (omega arith)) ]
    where
      one_more : (i n : ℕ) → (rest : List ℕ) × (texts t n ≡ texts t i ++ rest) → (rest : List ℕ) × (texts t (suc n) ≡ texts t i ++ rest)
      one_more i n (rest, e) = (rest ++ t n, rw (← add-one n, texts_more n, e, append_assoc))

-- before turn i: those before it are printed
module _ (t : ℕ → List ℕ) {w : Writer} where
  pub printing_start : Writes w w (texts t 0)
  printing_start = rw (texts_none t) (nothing w)

  module _ {w1 : Writer} {i : ℕ} (f : Writes w w1 (texts t i)) where
    pub printing_step : {w2 : Writer} → Writes w1 w2 (t i) → Writes w w2 (texts t (i + 1))
    printing_step g = rw (texts_more t) (then f g)

    pub printing_end : {n : ℕ} → n ≤ i → i ≤ n → Writes w w1 (texts t n)
    printing_end {n} g h = let e : i ≡ n = omega arith in rw e at f

    pub printing_over : {b : Bool} (n : ℕ) → i ≤ n → b ≡ ltb w1.room w1.at → b ≡ true → Writes w w1 (texts t n)
    printing_over n h e d = let g = texts_behind t i n h in rw g.1 (stopped g.0 f e d)

-- ---- a list's elements, with their places

module _ {A : Type 0} (f : ℕ → A → List ℕ) where
  unfoldable pub indexed : ℕ → List A → List ℕ
  indexed i [] = []
  indexed i (x ∷ xs) = f i x ++ indexed (suc i) xs

  indexed_from : (t : ℕ → List ℕ) (d : A) (k : ℕ) (xs : List A) → ((i : ℕ) → i < length xs → t (k + i) ≡ f (k + i) (get_or xs i d))
      → concat_map t (up_to k (length xs)) ≡ indexed k xs
  unfolding concat_map up_to indexed
  indexed_from t d k [] h = refl
  indexed_from t d k (x ∷ xs) h =
      let e : t k ≡ f k x = rw (add-zero k) at (h 0 (omega arith)) in
      let step : (i : ℕ) → i < length xs → t (suc k + i) ≡ f (suc k + i) (get_or xs i d) = λ i l. let q : suc k + i ≡ k + suc i = omega arith in rw q (h (suc i) (omega arith)) in
      rw (e, indexed_from t d (suc k) xs step)

  pub indexed_is : (t : ℕ → List ℕ) (d : A) (xs : List A) (n : ℕ) → length xs ≡ n → ((i : ℕ) → i < length xs → t i ≡ f i (get_or xs i d)) → texts t n ≡ indexed 0 xs
  unfolding texts
  indexed_is t d xs n e h = rw (← e) (indexed_from t d 0 xs (λ i l. let q : 0 + i ≡ i = omega arith in rw q (h i l)))

-- the places not used
module _ {A : Type 0} (f : A → List ℕ) where
  indexed_each : (i : ℕ) (xs : List A) → indexed (λ _ x. f x) i xs ≡ concat_map f xs
  unfolding indexed concat_map
  indexed_each i [] = refl
  indexed_each i (x ∷ xs) = rw (indexed_each (suc i) xs)

  pub each_is : (t : ℕ → List ℕ) (d : A) (xs : List A) (n : ℕ) → length xs ≡ n → ((i : ℕ) → i < length xs → t i ≡ f (get_or xs i d)) → texts t n ≡ concat_map f xs
  each_is t d xs n e h = indexed_is (λ _ x. f x) t d xs n e h ∙ indexed_each 0 xs

pub concat_map_map : {A B : Type 0} (f : B → List ℕ) (g : A → B) (xs : List A) → concat_map f (map g xs) ≡ concat_map (λ x. f (g x)) xs
unfolding concat_map
concat_map_map f g [] = refl
concat_map_map f g (x ∷ xs) = rw (concat_map_map f g xs)
