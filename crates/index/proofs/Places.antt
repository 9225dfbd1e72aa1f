-- The places of the chains: apart from each other, and none of them read in a table.
use mathlib.Core.Path.{◌≡◌, refl}
use mathlib.Core.List.{List}
use Prim.Native.Nat.{ℕ, ◌+◌, ◌*◌, ◌<◌, ◌≤◌}
use native.Mathlib.Omega.{arith}
use lib.ListN.{length, set}
use Rattle.words.specs.Words.{words, length_words}
use Rattle.tables.specs.declared.Counts.{Counts}
use Rattle.tables.specs.Tables.{tables_in, Laid}
use Rattle.tables.proofs.Rows.{Free}
use Rattle.tables.proofs.Stores.{first}
use Rattle.tables.proofs.Rows.{free_kept}
use Rattle.index.specs.Chains.{parts_by_name, requirements_by_owner, constraints_by_owner, key_of, Only, range_bounds, favoured_bounds, non_matching_heads}
use Rattle.index.specs.Members.{union_heads}
use Rattle.index.specs.Placed.{Apart}
pub use Rattle.index.specs.Places.{parts_apart, requirements_apart, constraints_apart, parts_head_free, parts_link_free, requirements_head_free, requirements_link_free, constraints_head_free, constraints_link_free}
use Rattle.index.proofs.Chaining.{Beside, key_beside}

module _ (k : Counts) (t : List ℕ) (l : Laid k (length t)) where
  abbrev room : 25348 ≤ length (words t)
  room = let f = l.fits in omega (arith, length_words t)

  pub ranges_apart : Apart range_bounds k.ranges k.ranges (length (words t))
  ranges_apart =
      let r = room in
      let a = l.ranges in
      record {
        heads_in = λ x h. omega arith;
        links_in = λ i h. omega arith;
        heads = λ x y h g e. omega arith;
        links = λ i j h g e. omega arith;
        head_link = λ x i h g e. omega arith;
        key_head = λ i x h g e. omega arith;
        key_link = λ i j h g e. omega arith;
      }

  pub favoured_apart : Apart favoured_bounds k.names k.names (length (words t))
  favoured_apart =
      let r = room in
      let a = l.names in
      record {
        heads_in = λ x h. omega arith;
        links_in = λ i h. omega arith;
        heads = λ x y h g e. omega arith;
        links = λ i j h g e. omega arith;
        head_link = λ x i h g e. omega arith;
        key_head = λ i x h g e. omega arith;
        key_link = λ i j h g e. omega arith;
      }

  -- ---- no table reads a head or a link

  free : (at : ℕ) → Free k at (at + 1) → (w : List ℕ) (v : ℕ) → tables_in k (set w at v) ≡ tables_in k w
  free at f w v = free_kept k (first v refl) f

  pub ranges_head_free : (x v : ℕ) (w : List ℕ) → x < k.ranges → tables_in k (set w (9604 + 4 * x + 2) v) ≡ tables_in k w
  ranges_head_free x v w h =
      let p = l.parts in
      let n = l.ranges in
      free (9604 + 4 * x + 2) (record { names = λ a b c d e g. omega arith; parts = λ a b c d e g. omega arith; ranges = λ a b c d e g. omega arith; conditions = λ a b c d e g. omega arith; requirements = λ a b c d e g. omega arith; constraints = λ a b c d e g. omega arith }) w v

  pub ranges_link_free : (i v : ℕ) (w : List ℕ) → i < k.ranges → tables_in k (set w (9604 + 4 * i + 3) v) ≡ tables_in k w
  ranges_link_free i v w h =
      let p = l.parts in
      let n = l.ranges in
      free (9604 + 4 * i + 3) (record { names = λ a b c d e g. omega arith; parts = λ a b c d e g. omega arith; ranges = λ a b c d e g. omega arith; conditions = λ a b c d e g. omega arith; requirements = λ a b c d e g. omega arith; constraints = λ a b c d e g. omega arith }) w v

  pub favoured_head_free : (x v : ℕ) (w : List ℕ) → x < k.names → tables_in k (set w (6 * x + 4) v) ≡ tables_in k w
  favoured_head_free x v w h =
      let p = l.parts in
      let n = l.names in
      free (6 * x + 4) (record { names = λ a b c d e g. omega arith; parts = λ a b c d e g. omega arith; ranges = λ a b c d e g. omega arith; conditions = λ a b c d e g. omega arith; requirements = λ a b c d e g. omega arith; constraints = λ a b c d e g. omega arith }) w v

  pub favoured_link_free : (x v : ℕ) (w : List ℕ) → x < k.names → tables_in k (set w (6 * x + 5) v) ≡ tables_in k w
  favoured_link_free x v w h =
      let p = l.parts in
      let n = l.names in
      free (6 * x + 5) (record { names = λ a b c d e g. omega arith; parts = λ a b c d e g. omega arith; ranges = λ a b c d e g. omega arith; conditions = λ a b c d e g. omega arith; requirements = λ a b c d e g. omega arith; constraints = λ a b c d e g. omega arith }) w v

  pub non_matching_free : (x v : ℕ) (w : List ℕ) → x < k.ranges → tables_in k (set w (9604 + 4 * x + 1) v) ≡ tables_in k w
  non_matching_free x v w h =
      let p = l.parts in
      let n = l.ranges in
      free (9604 + 4 * x + 1) (record { names = λ a b c d e g. omega arith; parts = λ a b c d e g. omega arith; ranges = λ a b c d e g. omega arith; conditions = λ a b c d e g. omega arith; requirements = λ a b c d e g. omega arith; constraints = λ a b c d e g. omega arith }) w v

  pub unions_head_free : (x v : ℕ) (w : List ℕ) → x < k.unions → tables_in k (set w (11652 + 3 * x) v) ≡ tables_in k w
  unions_head_free x v w h =
      let p = l.parts in
      let r = l.ranges in
      let n = l.unions in
      free (11652 + 3 * x) (record { names = λ a b c d e g. omega arith; parts = λ a b c d e g. omega arith; ranges = λ a b c d e g. omega arith; conditions = λ a b c d e g. omega arith; requirements = λ a b c d e g. omega arith; constraints = λ a b c d e g. omega arith }) w v

  -- ---- each chain lies beside the others

  pub parts_beside_requirements : Beside parts_by_name k.parts k.names requirements_by_owner k.requirements (k.parts + 1)
  parts_beside_requirements =
      let p = l.parts in
      let n = l.names in
      let q = l.requirements in
      let c = l.constraints in
      record {
        heads = λ x h. ((λ y g e. omega arith), (λ j g e. omega arith));
        links = λ i h. ((λ y g e. omega arith), (λ j g e. omega arith));
        keys = λ i h. ((λ y g e. omega arith), (λ j g e. omega arith));
      }

  pub parts_beside_constraints : Beside parts_by_name k.parts k.names constraints_by_owner k.constraints (k.parts + 1)
  parts_beside_constraints =
      let p = l.parts in
      let n = l.names in
      let q = l.requirements in
      let c = l.constraints in
      record {
        heads = λ x h. ((λ y g e. omega arith), (λ j g e. omega arith));
        links = λ i h. ((λ y g e. omega arith), (λ j g e. omega arith));
        keys = λ i h. ((λ y g e. omega arith), (λ j g e. omega arith));
      }

  pub requirements_beside_constraints : Beside requirements_by_owner k.requirements (k.parts + 1) constraints_by_owner k.constraints (k.parts + 1)
  requirements_beside_constraints =
      let p = l.parts in
      let n = l.names in
      let q = l.requirements in
      let c = l.constraints in
      record {
        heads = λ x h. ((λ y g e. omega arith), (λ j g e. omega arith));
        links = λ i h. ((λ y g e. omega arith), (λ j g e. omega arith));
        keys = λ i h. ((λ y g e. omega arith), (λ j g e. omega arith));
      }

  pub requirements_beside_parts : Beside requirements_by_owner k.requirements (k.parts + 1) parts_by_name k.parts k.names
  requirements_beside_parts =
      let p = l.parts in
      let n = l.names in
      let q = l.requirements in
      let c = l.constraints in
      record {
        heads = λ x h. ((λ y g e. omega arith), (λ j g e. omega arith));
        links = λ i h. ((λ y g e. omega arith), (λ j g e. omega arith));
        keys = λ i h. ((λ y g e. omega arith), (λ j g e. omega arith));
      }

  pub constraints_beside_parts : Beside constraints_by_owner k.constraints (k.parts + 1) parts_by_name k.parts k.names
  constraints_beside_parts =
      let p = l.parts in
      let n = l.names in
      let q = l.requirements in
      let c = l.constraints in
      record {
        heads = λ x h. ((λ y g e. omega arith), (λ j g e. omega arith));
        links = λ i h. ((λ y g e. omega arith), (λ j g e. omega arith));
        keys = λ i h. ((λ y g e. omega arith), (λ j g e. omega arith));
      }

  pub constraints_beside_requirements : Beside constraints_by_owner k.constraints (k.parts + 1) requirements_by_owner k.requirements (k.parts + 1)
  constraints_beside_requirements =
      let p = l.parts in
      let n = l.names in
      let q = l.requirements in
      let c = l.constraints in
      record {
        heads = λ x h. ((λ y g e. omega arith), (λ j g e. omega arith));
        links = λ i h. ((λ y g e. omega arith), (λ j g e. omega arith));
        keys = λ i h. ((λ y g e. omega arith), (λ j g e. omega arith));
      }

  pub parts_beside_ranges : Beside parts_by_name k.parts k.names range_bounds k.ranges k.ranges
  parts_beside_ranges =
      let p = l.parts in
      let n = l.names in
      let q = l.requirements in
      let c = l.constraints in
      let r = l.ranges in
      record {
        heads = λ x h. ((λ y g e. omega arith), (λ j g e. omega arith));
        links = λ i h. ((λ y g e. omega arith), (λ j g e. omega arith));
        keys = λ i h. ((λ y g e. omega arith), (λ j g e. omega arith));
      }

  pub requirements_beside_ranges : Beside requirements_by_owner k.requirements (k.parts + 1) range_bounds k.ranges k.ranges
  requirements_beside_ranges =
      let p = l.parts in
      let n = l.names in
      let q = l.requirements in
      let c = l.constraints in
      let r = l.ranges in
      record {
        heads = λ x h. ((λ y g e. omega arith), (λ j g e. omega arith));
        links = λ i h. ((λ y g e. omega arith), (λ j g e. omega arith));
        keys = λ i h. ((λ y g e. omega arith), (λ j g e. omega arith));
      }

  pub constraints_beside_ranges : Beside constraints_by_owner k.constraints (k.parts + 1) range_bounds k.ranges k.ranges
  constraints_beside_ranges =
      let p = l.parts in
      let n = l.names in
      let q = l.requirements in
      let c = l.constraints in
      let r = l.ranges in
      record {
        heads = λ x h. ((λ y g e. omega arith), (λ j g e. omega arith));
        links = λ i h. ((λ y g e. omega arith), (λ j g e. omega arith));
        keys = λ i h. ((λ y g e. omega arith), (λ j g e. omega arith));
      }

  pub parts_beside_favoured : Beside parts_by_name k.parts k.names favoured_bounds k.names k.names
  parts_beside_favoured =
      let p = l.parts in
      let n = l.names in
      let q = l.requirements in
      let c = l.constraints in
      record {
        heads = λ x h. ((λ y g e. omega arith), (λ j g e. omega arith));
        links = λ i h. ((λ y g e. omega arith), (λ j g e. omega arith));
        keys = λ i h. ((λ y g e. omega arith), (λ j g e. omega arith));
      }

  pub requirements_beside_favoured : Beside requirements_by_owner k.requirements (k.parts + 1) favoured_bounds k.names k.names
  requirements_beside_favoured =
      let p = l.parts in
      let n = l.names in
      let q = l.requirements in
      let c = l.constraints in
      record {
        heads = λ x h. ((λ y g e. omega arith), (λ j g e. omega arith));
        links = λ i h. ((λ y g e. omega arith), (λ j g e. omega arith));
        keys = λ i h. ((λ y g e. omega arith), (λ j g e. omega arith));
      }

  pub constraints_beside_favoured : Beside constraints_by_owner k.constraints (k.parts + 1) favoured_bounds k.names k.names
  constraints_beside_favoured =
      let p = l.parts in
      let n = l.names in
      let q = l.requirements in
      let c = l.constraints in
      record {
        heads = λ x h. ((λ y g e. omega arith), (λ j g e. omega arith));
        links = λ i h. ((λ y g e. omega arith), (λ j g e. omega arith));
        keys = λ i h. ((λ y g e. omega arith), (λ j g e. omega arith));
      }

  pub ranges_beside_favoured : Beside range_bounds k.ranges k.ranges favoured_bounds k.names k.names
  ranges_beside_favoured =
      let n = l.names in
      let r = l.ranges in
      record {
        heads = λ x h. ((λ y g e. omega arith), (λ j g e. omega arith));
        links = λ i h. ((λ y g e. omega arith), (λ j g e. omega arith));
        keys = λ i h. ((λ y g e. omega arith), (λ j g e. omega arith));
      }

  pub parts_beside_non_matching : Beside parts_by_name k.parts k.names non_matching_heads 0 k.ranges
  parts_beside_non_matching =
      let p = l.parts in
      let n = l.names in
      let q = l.requirements in
      let c = l.constraints in
      let r = l.ranges in
      record {
        heads = λ x h. ((λ y g e. omega arith), (λ j g e. omega arith));
        links = λ i h. ((λ y g e. omega arith), (λ j g e. omega arith));
        keys = λ i h. ((λ y g e. omega arith), (λ j g e. omega arith));
      }

  pub requirements_beside_non_matching : Beside requirements_by_owner k.requirements (k.parts + 1) non_matching_heads 0 k.ranges
  requirements_beside_non_matching =
      let p = l.parts in
      let n = l.names in
      let q = l.requirements in
      let c = l.constraints in
      let r = l.ranges in
      record {
        heads = λ x h. ((λ y g e. omega arith), (λ j g e. omega arith));
        links = λ i h. ((λ y g e. omega arith), (λ j g e. omega arith));
        keys = λ i h. ((λ y g e. omega arith), (λ j g e. omega arith));
      }

  pub constraints_beside_non_matching : Beside constraints_by_owner k.constraints (k.parts + 1) non_matching_heads 0 k.ranges
  constraints_beside_non_matching =
      let p = l.parts in
      let n = l.names in
      let q = l.requirements in
      let c = l.constraints in
      let r = l.ranges in
      record {
        heads = λ x h. ((λ y g e. omega arith), (λ j g e. omega arith));
        links = λ i h. ((λ y g e. omega arith), (λ j g e. omega arith));
        keys = λ i h. ((λ y g e. omega arith), (λ j g e. omega arith));
      }

  pub ranges_beside_non_matching : Beside range_bounds k.ranges k.ranges non_matching_heads 0 k.ranges
  ranges_beside_non_matching =
      let r = l.ranges in
      record {
        heads = λ x h. ((λ y g e. omega arith), (λ j g e. omega arith));
        links = λ i h. ((λ y g e. omega arith), (λ j g e. omega arith));
        keys = λ i h. ((λ y g e. omega arith), (λ j g e. omega arith));
      }

  pub favoured_beside_non_matching : Beside favoured_bounds k.names k.names non_matching_heads 0 k.ranges
  favoured_beside_non_matching =
      let n = l.names in
      let r = l.ranges in
      record {
        heads = λ x h. ((λ y g e. omega arith), (λ j g e. omega arith));
        links = λ i h. ((λ y g e. omega arith), (λ j g e. omega arith));
        keys = λ i h. ((λ y g e. omega arith), (λ j g e. omega arith));
      }

  pub non_matching_beside_unions : Beside non_matching_heads 0 k.ranges union_heads 0 k.unions
  non_matching_beside_unions =
      let r = l.ranges in
      let u = l.unions in
      record {
        heads = λ x h. ((λ y g e. omega arith), (λ j g e. omega arith));
        links = λ i h. ((λ y g e. omega arith), (λ j g e. omega arith));
        keys = λ i h. ((λ y g e. omega arith), (λ j g e. omega arith));
      }

  pub ranges_beside_unions : Beside range_bounds k.ranges k.ranges union_heads 0 k.unions
  ranges_beside_unions =
      let r = l.ranges in
      let u = l.unions in
      record {
        heads = λ x h. ((λ y g e. omega arith), (λ j g e. omega arith));
        links = λ i h. ((λ y g e. omega arith), (λ j g e. omega arith));
        keys = λ i h. ((λ y g e. omega arith), (λ j g e. omega arith));
      }

  pub favoured_beside_unions : Beside favoured_bounds k.names k.names union_heads 0 k.unions
  favoured_beside_unions =
      let n = l.names in
      let u = l.unions in
      record {
        heads = λ x h. ((λ y g e. omega arith), (λ j g e. omega arith));
        links = λ i h. ((λ y g e. omega arith), (λ j g e. omega arith));
        keys = λ i h. ((λ y g e. omega arith), (λ j g e. omega arith));
      }

  pub keys_beside : {w : List ℕ} → Only favoured_bounds k.names k.names (words t) w → (p : ℕ) → p < k.parts → key_of parts_by_name w p ≡ key_of parts_by_name (words t) p
  keys_beside o = key_beside parts_beside_favoured o

  pub parts_beside_unions : Beside parts_by_name k.parts k.names union_heads 0 k.unions
  parts_beside_unions =
      let p = l.parts in
      let n = l.names in
      let q = l.requirements in
      let c = l.constraints in
      let u = l.unions in
      record {
        heads = λ x h. ((λ y g e. omega arith), (λ j g e. omega arith));
        links = λ i h. ((λ y g e. omega arith), (λ j g e. omega arith));
        keys = λ i h. ((λ y g e. omega arith), (λ j g e. omega arith));
      }

  pub requirements_beside_unions : Beside requirements_by_owner k.requirements (k.parts + 1) union_heads 0 k.unions
  requirements_beside_unions =
      let p = l.parts in
      let n = l.names in
      let q = l.requirements in
      let c = l.constraints in
      let u = l.unions in
      record {
        heads = λ x h. ((λ y g e. omega arith), (λ j g e. omega arith));
        links = λ i h. ((λ y g e. omega arith), (λ j g e. omega arith));
        keys = λ i h. ((λ y g e. omega arith), (λ j g e. omega arith));
      }

  pub constraints_beside_unions : Beside constraints_by_owner k.constraints (k.parts + 1) union_heads 0 k.unions
  constraints_beside_unions =
      let p = l.parts in
      let n = l.names in
      let q = l.requirements in
      let c = l.constraints in
      let u = l.unions in
      record {
        heads = λ x h. ((λ y g e. omega arith), (λ j g e. omega arith));
        links = λ i h. ((λ y g e. omega arith), (λ j g e. omega arith));
        keys = λ i h. ((λ y g e. omega arith), (λ j g e. omega arith));
      }
