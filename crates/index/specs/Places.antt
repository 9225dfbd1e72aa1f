-- The places of the chains by name and by owner: apart from each other, and none of them read in a table.
use mathlib.Core.Path.{◌≡◌, refl}
use mathlib.Core.List.{List}
use Prim.Native.Nat.{ℕ, ◌+◌, ◌*◌, ◌<◌, ◌≤◌}
use native.Mathlib.Omega.{arith}
use lib.ListN.{length, set}
use Rattle.words.specs.Words.{words, length_words}
use Rattle.tables.specs.declared.Counts.{Counts}
use Rattle.tables.specs.Tables.{tables_in, Laid}
use Rattle.tables.proofs.Rows.{Free, free_kept}
use Rattle.tables.proofs.Stores.{first}
use Rattle.index.specs.Chains.{parts_by_name, requirements_by_owner, constraints_by_owner}
use Rattle.index.specs.Placed.{Apart, Placed, PlacedIn}

module _ (k : Counts) (t : List ℕ) (l : Laid k (length t)) where
  abbrev room : 25348 ≤ length (words t)
  room = let f = l.fits in omega (arith, length_words t)

  pub parts_apart : Apart parts_by_name k.parts k.names (length (words t))
  parts_apart =
      let r = room in
      let a = l.parts in
      let b = l.names in
      record {
        heads_in = λ x h. omega arith;
        links_in = λ i h. omega arith;
        heads = λ x y h g e. omega arith;
        links = λ i j h g e. omega arith;
        head_link = λ x i h g e. omega arith;
        key_head = λ i x h g e. omega arith;
        key_link = λ i j h g e. omega arith;
      }

  pub requirements_apart : Apart requirements_by_owner k.requirements (k.parts + 1) (length (words t))
  requirements_apart =
      let r = room in
      let a = l.requirements in
      let b = l.parts in
      record {
        heads_in = λ x h. omega arith;
        links_in = λ i h. omega arith;
        heads = λ x y h g e. omega arith;
        links = λ i j h g e. omega arith;
        head_link = λ x i h g e. omega arith;
        key_head = λ i x h g e. omega arith;
        key_link = λ i j h g e. omega arith;
      }

  pub constraints_apart : Apart constraints_by_owner k.constraints (k.parts + 1) (length (words t))
  constraints_apart =
      let r = room in
      let a = l.constraints in
      let b = l.parts in
      record {
        heads_in = λ x h. omega arith;
        links_in = λ i h. omega arith;
        heads = λ x y h g e. omega arith;
        links = λ i j h g e. omega arith;
        head_link = λ x i h g e. omega arith;
        key_head = λ i x h g e. omega arith;
        key_link = λ i j h g e. omega arith;
      }

  -- ---- no table reads a head or a link

  free : (at : ℕ) → Free k at (at + 1) → (w : List ℕ) (v : ℕ) → tables_in k (set w at v) ≡ tables_in k w
  free at f w v = free_kept k (first v refl) f

  pub parts_head_free : (x v : ℕ) (w : List ℕ) → x < k.names → tables_in k (set w (6 * x + 3) v) ≡ tables_in k w
  parts_head_free x v w h =
      let p = l.parts in
      let n = l.names in
      free (6 * x + 3) (record { names = λ a b c d e g. omega arith; parts = λ a b c d e g. omega arith; ranges = λ a b c d e g. omega arith; conditions = λ a b c d e g. omega arith; requirements = λ a b c d e g. omega arith; constraints = λ a b c d e g. omega arith }) w v

  pub parts_link_free : (i v : ℕ) (w : List ℕ) → i < k.parts → tables_in k (set w (384 + 5 * i + 4) v) ≡ tables_in k w
  parts_link_free i v w h =
      let p = l.parts in
      let q = l.requirements in
      let c = l.constraints in
      free (384 + 5 * i + 4) (record { names = λ a b c d e g. omega arith; parts = λ a b c d e g. omega arith; ranges = λ a b c d e g. omega arith; conditions = λ a b c d e g. omega arith; requirements = λ a b c d e g. omega arith; constraints = λ a b c d e g. omega arith }) w v

  pub requirements_head_free : (x v : ℕ) (w : List ℕ) → x < k.parts + 1 → tables_in k (set w (5504 + 4 * x) v) ≡ tables_in k w
  requirements_head_free x v w h =
      let p = l.parts in
      let n = l.names in
      free (5504 + 4 * x) (record { names = λ a b c d e g. omega arith; parts = λ a b c d e g. omega arith; ranges = λ a b c d e g. omega arith; conditions = λ a b c d e g. omega arith; requirements = λ a b c d e g. omega arith; constraints = λ a b c d e g. omega arith }) w v

  pub requirements_link_free : (i v : ℕ) (w : List ℕ) → i < k.requirements → tables_in k (set w (13572 + 6 * i + 4) v) ≡ tables_in k w
  requirements_link_free i v w h =
      let p = l.parts in
      let q = l.requirements in
      let c = l.constraints in
      free (13572 + 6 * i + 4) (record { names = λ a b c d e g. omega arith; parts = λ a b c d e g. omega arith; ranges = λ a b c d e g. omega arith; conditions = λ a b c d e g. omega arith; requirements = λ a b c d e g. omega arith; constraints = λ a b c d e g. omega arith }) w v

  pub constraints_head_free : (x v : ℕ) (w : List ℕ) → x < k.parts + 1 → tables_in k (set w (5504 + 4 * x + 2) v) ≡ tables_in k w
  constraints_head_free x v w h =
      let p = l.parts in
      let n = l.names in
      free (5504 + 4 * x + 2) (record { names = λ a b c d e g. omega arith; parts = λ a b c d e g. omega arith; ranges = λ a b c d e g. omega arith; conditions = λ a b c d e g. omega arith; requirements = λ a b c d e g. omega arith; constraints = λ a b c d e g. omega arith }) w v

  pub constraints_link_free : (i v : ℕ) (w : List ℕ) → i < k.constraints → tables_in k (set w (19716 + 3 * i + 2) v) ≡ tables_in k w
  constraints_link_free i v w h =
      let p = l.parts in
      let q = l.requirements in
      let c = l.constraints in
      free (19716 + 3 * i + 2) (record { names = λ a b c d e g. omega arith; parts = λ a b c d e g. omega arith; ranges = λ a b c d e g. omega arith; conditions = λ a b c d e g. omega arith; requirements = λ a b c d e g. omega arith; constraints = λ a b c d e g. omega arith }) w v

-- ---- and all of it

parts_here : (k : Counts) (t : List ℕ) → Laid k (length t) → Placed parts_by_name k k.parts k.names (length (words t))
parts_here k t l =
    let r = room k t l in
    record {
      few = l.parts;
      low = let a = l.parts in let b = l.names in omega arith;
      apart = parts_apart k t l;
      keys_in = λ i h. (let a = l.parts in omega arith);
      head_free = parts_head_free k t l;
      link_free = parts_link_free k t l;
    }

requirements_here : (k : Counts) (t : List ℕ) → Laid k (length t) → Placed requirements_by_owner k k.requirements (k.parts + 1) (length (words t))
requirements_here k t l =
    let r = room k t l in
    record {
      few = l.requirements;
      low = let a = l.parts in let b = l.names in omega arith;
      apart = requirements_apart k t l;
      keys_in = λ i h. (let a = l.requirements in omega arith);
      head_free = requirements_head_free k t l;
      link_free = requirements_link_free k t l;
    }

constraints_here : (k : Counts) (t : List ℕ) → Laid k (length t) → Placed constraints_by_owner k k.constraints (k.parts + 1) (length (words t))
constraints_here k t l =
    let r = room k t l in
    record {
      few = let a = l.constraints in omega arith;
      low = let a = l.parts in let b = l.names in omega arith;
      apart = constraints_apart k t l;
      keys_in = λ i h. (let a = l.constraints in omega arith);
      head_free = constraints_head_free k t l;
      link_free = constraints_link_free k t l;
    }

pub parts_placed : PlacedIn parts_by_name (λ k. k.parts) (λ k. k.names)
parts_placed = record { at = parts_here }

pub requirements_placed : PlacedIn requirements_by_owner (λ k. k.requirements) (λ k. k.parts + 1)
requirements_placed = record { at = requirements_here }

pub constraints_placed : PlacedIn constraints_by_owner (λ k. k.constraints) (λ k. k.parts + 1)
constraints_placed = record { at = constraints_here }
