-- A number's digits: how they follow from its tenth and its last digit, and what holds of each of them.
use mathlib.Core.Path.{◌≡◌, refl}
use mathlib.Core.List.{List, [], ◌∷◌, ◌++◌, append_assoc}
use Prim.Native.Nat.{ℕ, zero, suc, ◌+◌, ◌/◌, ◌%◌, ◌<◌, ◌≤◌}
use native.Mathlib.Omega.{arith}
use native.Mathlib.Decide.{dec_lt}
use borrow.Author.Tests.{lt-ltb, le-ltb}
use Rattle.rules.specs.Listing.{digits, decimal}

pub by_ten : (n : ℕ) (P : Type 0) → (n < 10 → P) → (10 ≤ n → P) → P
by_ten n P f g = elim (dec_lt n 10) [ yes h ↦ f h | no h ↦ g (omega arith) ]

pub digits_one : (k n : ℕ) (acc : List ℕ) → n < 10 → digits (suc k) n acc ≡ (48 + n) ∷ acc
unfolding digits
digits_one k n acc h = rw (lt-ltb n 10 h, digits)

pub digits_more : (k n : ℕ) (acc : List ℕ) → 10 ≤ n → digits (suc k) n acc ≡ digits k (n / 10) ((48 + n % 10) ∷ acc)
unfolding digits
digits_more k n acc h = rw (le-ltb n 10 h, digits)

-- what holds of a list with a digit put before it holds of the digits
pub by_digits : (P : List ℕ → Type 0) → ((d : ℕ) (acc : List ℕ) → d < 10 → P acc → P ((48 + d) ∷ acc)) → (k n : ℕ) (acc : List ℕ) → P acc → P (digits k n acc)
by_digits P f zero n acc p = unfold digits in p
by_digits P f (suc k) n acc p =
    by_ten n _ (λ h. rw (digits_one k n acc h) (f n acc h p))
    (λ h. rw (digits_more k n acc h) (by_digits P f k (n / 10) ((48 + n % 10) ∷ acc) (f (n % 10) acc (omega arith) p)))

digits_append : (k n : ℕ) (acc : List ℕ) → digits k n acc ≡ digits k n [] ++ acc
digits_append zero n acc = unfold digits in refl
digits_append (suc k) n acc =
    by_ten n _ (λ h. rw (digits_one k n acc h, digits_one k n [] h))
    (λ h.
    rw (digits_more k n acc h, digits_more k n [] h, digits_append k (n / 10) ((48 + n % 10) ∷ acc), digits_append k (n / 10) ((48 + n % 10) ∷ []), append_assoc))

-- enough digits are enough
digits_enough : (k j n : ℕ) (acc : List ℕ) → n < k → n < j → digits k n acc ≡ digits j n acc
digits_enough zero j n acc p q = let no_such : ⊥ = omega arith in absurd no_such
digits_enough (suc k) zero n acc p q = let no_such : ⊥ = omega arith in absurd no_such
digits_enough (suc k) (suc j) n acc p q =
    by_ten n _ (λ h. rw (digits_one k n acc h, digits_one j n acc h))
    (λ h. rw (digits_more k n acc h, digits_more j n acc h) (digits_enough k j (n / 10) ((48 + n % 10) ∷ acc) (omega arith) (omega arith)))

pub decimal_digit : (n : ℕ) → n < 10 → decimal n ≡ (48 + n) ∷ []
unfolding decimal
decimal_digit n h = digits_one n n [] h

pub decimal_digits : (n : ℕ) → 10 ≤ n → decimal n ≡ decimal (n / 10) ++ ((48 + n % 10) ∷ [])
unfolding decimal
decimal_digits n h =
    rw (digits_more n n [] h, digits_append n (n / 10) ((48 + n % 10) ∷ []), digits_enough n (suc (n / 10)) (n / 10) [] (omega arith) (omega arith))
