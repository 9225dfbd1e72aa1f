-- A lent area as regions: region j of a layout is a list of two-byte numbers, and a store changes one number of one region.
use Rattle.std.specs.Prelude.{cond, List, ℕ, ◌+◌, eqb, ltb, get_or, take, drop, set}
use Rattle.rules.specs.Lists.{sum}
use Rattle.words.specs.Words.{words}

-- how many numbers each region has; each starts where the one before it ends
abbrev pub Layout : Type 0
Layout = List ℕ

unfoldable pub start_of : Layout → ℕ → ℕ
start_of sizes j = sum (take j sizes)

unfoldable pub size_of : Layout → ℕ → ℕ
size_of sizes j = get_or sizes j 0

-- `size` numbers from `start` on
unfoldable pub part : (start size : ℕ) → List ℕ → List ℕ
part start size w = take size (drop start w)

-- w with v at place i of that part, if it has such a place
unfoldable pub set_in : List ℕ → (start size i v : ℕ) → List ℕ
set_in w start size i v = cond (ltb i size) (set w (start + i) v) w

-- all regions of an area
unfoldable pub regions : Layout → List ℕ → ℕ → List ℕ
regions sizes bytes j = part (start_of sizes j) (size_of sizes j) (words bytes)

-- with v at place i of region j
unfoldable pub stored : (ℕ → List ℕ) → (j i v : ℕ) → ℕ → List ℕ
stored r j i v m = cond (eqb m j) (set (r m) i v) (r m)
