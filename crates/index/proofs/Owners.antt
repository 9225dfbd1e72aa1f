-- Owners by their rows: the keys of a well-formed catalogue are rows, and a walk along an owner's chain passes none of its records.
use mathlib.Core.Path.{◌≡◌, refl, sym, ap, ◌∙◌}
use mathlib.Core.Bool.{Bool, true, false, cond}
use mathlib.Core.List.{List}
use Prim.Native.Nat.{ℕ, ◌+◌, ◌*◌, ◌<◌, ◌≤◌}
use native.Mathlib.Omega.{arith}
use native.Mathlib.Nat.{add-zero}
use lib.Dec.{eqb}
use lib.ListN.{length, get_or}
use borrow.Author.Tests.{eqb-true}
use Rattle.rules.specs.Catalogue.{Owner, root, part, Requirement, Constraint, Catalogue, name_of, no_requirement, no_constraint, constraint_at, owner_at, same_owner}
use Rattle.rules.specs.Items.{owner_of}
use Rattle.rules.proofs.WellFormed.{OwnerGiven, WellFormed}
use Rattle.words.specs.Words.{words}
use Rattle.requirement.specs.declared.Owner as code
use Rattle.requirement.specs.declared.Owner.TheVariants.{Root, Part}
use Rattle.requirement.specs.Requirements.{OwnerOf}
use Rattle.tables.specs.declared.Counts.{Counts}
use Rattle.tables.specs.Tables.{tables_in, tables, field, requirement_row, requirement_from, constraint_row, constraint_from}
use Rattle.tables.proofs.Listed.{listed_at}
use Rattle.cache.specs.Areas.{catalogue}
use Rattle.cache.proofs.Laws.{names_held, parts_held, requirements_held, constraints_held, requirement_held, constraint_held}
use Rattle.index.specs.Chains.{First, owner_row, row_of, requirements_by_owner, constraints_by_owner, key_of, Keys, Skips}
use Rattle.index.proofs.Selecting.{name_is_key}

-- ---- rows

row_is : (o : ℕ) → owner_row o ≡ row_of (owner_of o)
unfolding owner_row owner_of row_of
row_is o = go (eqb o 65535)
  where
    go : (b : Bool) → cond b 0 (o + 1) ≡ row_of (cond b root (part o))
    go true = refl
    go false = refl

pub root_row_law : {n : ℕ} {o : code.Owner} → OwnerOf n o → o ≡ Root → 0 ≡ owner_row n
unfolding row_of
root_row_law {n} p e = sym (row_is n ∙ rw (← p.is, e))

pub part_row_law : {n x : ℕ} {o : code.Owner} → OwnerOf n o → o ≡ Part x → x + 1 ≡ owner_row n
unfolding row_of
part_row_law {n} p e = sym (row_is n ∙ rw (← p.is, e))

row_low : (c : Catalogue) (o : Owner) → OwnerGiven c o → row_of o < length c.parts + 1
unfolding row_of
row_low c root g = omega arith
row_low c (part p) g = omega arith

same_row : (o q : Owner) → same_owner o q ≡ true → row_of q ≡ row_of o
unfolding row_of
same_row root root e = refl
same_row root (part q) e = let none : ◌≡◌ {A = ℕ} 0 1 = cc in (let f : ⊥ = omega arith in absurd f)
same_row (part p) root e = let none : ◌≡◌ {A = ℕ} 0 1 = cc in (let f : ⊥ = omega arith in absurd f)
same_row (part p) (part q) e = omega (arith, eqb-true p q e)

other_row : (o q : Owner) → (row_of q ≡ row_of o → ⊥) → same_owner o q ≡ false
other_row o q h = go (same_owner o q) refl
  where
    go : (b : Bool) → same_owner o q ≡ b → b ≡ false
    go true e = absurd (h (same_row o q e))
    go false e = refl

module _ (k : Counts) (m u t : List ℕ) where
  requirement_there : (q : ℕ) → q < k.requirements → get_or (tables k t).requirements q no_requirement ≡ requirement_row (words t) q
  unfolding tables tables_in
  requirement_there q h = listed_at k.requirements (requirement_row (words t)) q no_requirement h

  requirement_word : (q : ℕ) → (requirement_row (words t) q).owner ≡ owner_of (get_or (words t) (13572 + 6 * q) 0)
  unfolding requirement_row requirement_from field
  requirement_word q = ap (λ (a : ℕ). owner_of (get_or (words t) a 0)) (add-zero (13572 + 6 * q))

  requirement_owner : (q : ℕ) → q < k.requirements → owner_at (catalogue k m u t) q ≡ owner_of (get_or (words t) (13572 + 6 * q) 0)
  requirement_owner q h = ap (λ (x : Requirement). x.owner) (requirement_held k m u t q ∙ requirement_there q h) ∙ requirement_word q

  constraint_there : (i : ℕ) → i < k.constraints → get_or (tables k t).constraints i no_constraint ≡ constraint_row (words t) i
  unfolding tables tables_in
  constraint_there i h = listed_at k.constraints (constraint_row (words t)) i no_constraint h

  constraint_word : (i : ℕ) → (constraint_row (words t) i).owner ≡ owner_of (get_or (words t) (19716 + 3 * i) 0)
  unfolding constraint_row constraint_from field
  constraint_word i = ap (λ (a : ℕ). owner_of (get_or (words t) a 0)) (add-zero (19716 + 3 * i))

  constraint_owner : (i : ℕ) → i < k.constraints → (constraint_at (catalogue k m u t) i).owner ≡ owner_of (get_or (words t) (19716 + 3 * i) 0)
  constraint_owner i h = ap (λ (x : Constraint). x.owner) (constraint_held k m u t i ∙ constraint_there i h) ∙ constraint_word i

  requirement_key_is : (q : ℕ) → q < k.requirements → key_of requirements_by_owner (words t) q ≡ row_of (owner_at (catalogue k m u t) q)
  unfolding key_of
  requirement_key_is q h = row_is (get_or (words t) (13572 + 6 * q) 0) ∙ ap row_of (sym (requirement_owner q h))

  constraint_key_is : (i : ℕ) → i < k.constraints → key_of constraints_by_owner (words t) i ≡ row_of (constraint_at (catalogue k m u t) i).owner
  unfolding key_of
  constraint_key_is i h = row_is (get_or (words t) (19716 + 3 * i) 0) ∙ ap row_of (sym (constraint_owner i h))

  -- ---- every key is a row

  pub keys_given : WellFormed (catalogue k m u t) → Keys k t
  keys_given f =
      record {
        parts = record { low = λ i h. rw (← name_is_key k m u t i h) (low_name i h) };
        requirements = record { low = λ i h. rw (requirement_key_is i h) (low_requirement i h) };
        constraints = record { low = λ i h. rw (constraint_key_is i h) (low_constraint i h) };
      }
    where
      low_name : (i : ℕ) → i < k.parts → name_of (catalogue k m u t) i < k.names
      low_name i h = omega (arith, names_held k m u t, f.parts i (rw (parts_held k m u t) h))

      low_requirement : (i : ℕ) → i < k.requirements → row_of (owner_at (catalogue k m u t) i) < k.parts + 1
      low_requirement i h = omega (arith, parts_held k m u t, row_low (catalogue k m u t) (owner_at (catalogue k m u t) i) (f.requirements i (rw (requirements_held k m u t) h)).owner)

      low_constraint : (i : ℕ) → i < k.constraints → row_of (constraint_at (catalogue k m u t) i).owner < k.parts + 1
      low_constraint i h = omega (arith, parts_held k m u t, row_low (catalogue k m u t) (constraint_at (catalogue k m u t) i).owner (f.constraints i (rw (constraints_held k m u t) h)).owner)

  -- ---- a walk along an owner's chain

  pub skips_requirements : {x from r : ℕ} (o : Owner) → x ≡ row_of o → First k.requirements (key_of requirements_by_owner (words t)) x from r
      → Skips k.requirements (λ q. same_owner o (owner_at (catalogue k m u t) q)) from r
  skips_requirements {x} {from} {r} o e f =
      record { onward = f.onward; inside = f.inside; none = passed }
    where
      passed : (i : ℕ) → from ≤ i → i < r → same_owner o (owner_at (catalogue k m u t) i) ≡ false
      passed i a b =
          let l : i < k.requirements = (let z = f.inside in omega arith) in
          other_row o _ (λ q. f.none i a b (requirement_key_is i l ∙ (q ∙ sym e)))

  pub skips_constraints : {x from r : ℕ} (o : Owner) → x ≡ row_of o → First k.constraints (key_of constraints_by_owner (words t)) x from r
      → Skips k.constraints (λ i. same_owner o (constraint_at (catalogue k m u t) i).owner) from r
  skips_constraints {x} {from} {r} o e f =
      record { onward = f.onward; inside = f.inside; none = passed }
    where
      passed : (i : ℕ) → from ≤ i → i < r → same_owner o (constraint_at (catalogue k m u t) i).owner ≡ false
      passed i a b =
          let l : i < k.constraints = (let z = f.inside in omega arith) in
          other_row o _ (λ q. f.none i a b (constraint_key_is i l ∙ (q ∙ sym e)))
