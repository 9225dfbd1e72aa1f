-- Lists, by tests that compute.
use Rattle.std.specs.Prelude.{Bool, true, false, ◌&&◌, ◌||◌, cond, List, [], ◌∷◌, ◌++◌, ℕ, zero, suc, ◌+◌, eqb}

module _ {A : Type 0} where
  unfoldable pub filter : (A → Bool) → List A → List A
  filter p [] = []
  filter p (x ∷ xs) = elim (p x) [ true ↦ x ∷ filter p xs | false ↦ filter p xs ]

  unfoldable pub any : (A → Bool) → List A → Bool
  any p [] = false
  any p (x ∷ xs) = p x || any p xs

  unfoldable pub all : (A → Bool) → List A → Bool
  all p [] = true
  all p (x ∷ xs) = p x && all p xs

  -- how many pass
  unfoldable pub count : (A → Bool) → List A → ℕ
  count p [] = 0
  count p (x ∷ xs) = cond (p x) 1 0 + count p xs

  -- how many stand before the first that passes
  unfoldable pub index_of : (A → Bool) → List A → ℕ
  index_of p [] = 0
  index_of p (x ∷ xs) = elim (p x) [ true ↦ 0 | false ↦ suc (index_of p xs) ]

  unfoldable pub snoc : List A → A → List A
  snoc xs x = xs ++ (x ∷ [])

  unfoldable pub list_if : Bool → List A → List A
  list_if true xs = xs
  list_if false xs = []

  -- what is done to a state only if a test passes, or only if it fails
  unfoldable pub when : Bool → (A → A) → A → A
  when true f s = f s
  when false f s = s

  unfoldable pub unless : Bool → (A → A) → A → A
  unless true f s = s
  unless false f s = f s

module _ {A B : Type 0} where
  unfoldable pub concat_map : (A → List B) → List A → List B
  concat_map f [] = []
  concat_map f (x ∷ xs) = f x ++ concat_map f xs

  -- carries a state through a list, first to last
  unfoldable pub fold : (A → B → B) → List A → B → B
  fold f [] s = s
  fold f (x ∷ xs) s = fold f xs (f x s)

abbrev pub elem : ℕ → List ℕ → Bool
elem n xs = any (eqb n) xs

-- the numbers from i on, n of them
unfoldable pub up_to : ℕ → ℕ → List ℕ
up_to i zero = []
up_to i (suc n) = i ∷ up_to (suc i) n

unfoldable pub sum : List ℕ → ℕ
sum [] = 0
sum (n ∷ ns) = n + sum ns

-- each number once, where it first stands
unfoldable pub distinct : List ℕ → List ℕ
distinct xs = fold (λ x seen. cond (elem x seen) seen (snoc seen x)) xs []
