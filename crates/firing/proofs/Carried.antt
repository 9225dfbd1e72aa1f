-- The list of indices that the code carries.
use mathlib.Core.Path.{◌≡◌, refl}
use mathlib.Core.List.{List, [], ◌∷◌, ◌++◌}
use Prim.Native.Nat.{ℕ, ◌+◌, ◌<◌, ◌≤◌}
use native.Mathlib.Numerals.{add-one}
use native.Mathlib.Omega.{arith}
use lib.ListN.{length, set, take, length-append}
use lib.Seq.{take-suc-set, length-take-le}
use Rattle.firing.specs.declared.disjuncts.Indices.{Indices}
use Rattle.firing.specs.Firing.{indices_in, Lists}

pub lists_none : (xs : List ℕ) (b : 0 ≤ 64) → Lists (record { at = xs; len = 0; bounded = b }) []
unfolding indices_in
lists_none xs b = record { len = refl; room = omega arith; is = refl }

pub lists_more : (is : Indices) (i : ℕ) → is.len < 64 → length is.at ≡ 64 → (b : is.len + 1 ≤ 64)
    → Lists (record { at = set is.at is.len i; len = is.len + 1; bounded = b }) (indices_in is ++ (i ∷ []))
unfolding indices_in
lists_more is i h e b =
    let inside : is.len < length is.at = omega arith in
    let long : length (take is.len is.at) ≡ is.len = length-take-le is.len is.at (omega arith) in
    record {
      len = omega (arith, length-append (take is.len is.at) (i ∷ []));
      room = omega arith;
      is = rw (add-one is.len) (take-suc-set is.at is.len i inside);
    }
