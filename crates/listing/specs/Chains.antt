-- Chains of the waiting entries: for each condition its first entry, and for each entry the next one of the same condition.
use Rattle.std.specs.Prelude.{◌≡◌, Bool, true, List, ℕ, ◌+◌, ◌<◌, ◌≤◌, length, get_or}
use Rattle.std.proofs.Math.Option.{some}
use Rattle.rules.specs.Catalogue.{Catalogue, condition_at}
use Rattle.rules.specs.Conditions.{is_condition}
use Rattle.index.specs.Chains.{Skips}
use Rattle.entries.specs.Entries.{no_entry}

-- is entry i of condition k?
unfoldable pub is_under : Catalogue → List (ℕ × ℕ) → ℕ → ℕ → Bool
is_under c es k i = is_condition k (condition_at c (get_or es i no_entry).0)

-- r is the first number from `from` on that is selected, of those below n; or n
pub record Next (n : ℕ) (selected : ℕ → Bool) (from r : ℕ) : Type 0 where
  pub skips : Skips n selected from r
  pub here : r < n → selected r ≡ true

-- of n entries of conditions below `most`, those from `from` on are linked
pub record Linked (c : Catalogue) (es : List (ℕ × ℕ)) (n most from : ℕ) (hs ls : List ℕ) : Type 0 where
  pub wide : most ≤ length hs
  pub long : n ≤ length ls
  pub heads : (k : ℕ) → k < most → Next n (is_under c es k) from (get_or hs k 0)
  pub links : (k i : ℕ) → k < most → from ≤ i → i < n → is_under c es k i ≡ true → Next n (is_under c es k) (i + 1) (get_or ls i 0)

-- entry i is of condition k, which is below `most`
pub record Key (c : Catalogue) (es : List (ℕ × ℕ)) (most i k : ℕ) : Type 0 where
  pub is : condition_at c (get_or es i no_entry).0 ≡ some k
  pub low : k < most
