-- The map against its code: a law for each way out of each function; and what callers use.
use mathlib.Core.Path.{◌≡◌, refl, sym, ◌∙◌, ap}
use mathlib.Core.Bool.{true, false, false≢true}
use mathlib.Core.List.{List, [], ◌∷◌}
use Prim.Native.Nat.{ℕ, suc, ◌+◌, ◌*◌, ◌-◌, ◌<◌, ◌≤◌}
use native.Mathlib.Omega.{arith}
use lib.ListN.{length, get_or, set, length-set, get_or-eq_default}
use lib.Seq.{get_or-set_same, get_or-set_other}
use Rattle.std.specs.Prelude.{Option, None, Some, SomeIff}
use Rattle.rules.specs.Lists.{any, all, elem, snoc, up_to}
use Rattle.rules.specs.Catalogue.{root}
use Rattle.rules.specs.Variables.{Origin, chosen, same_origin, known, variable_of}
use Rattle.rules.proofs.Bools.{by_cases}
use Rattle.rules.proofs.ListLaws.{length_snoc}
use Rattle.rules.proofs.Places.{origin_same, origin_self, stands}
use Rattle.regions.specs.Regions.{stored}
use Rattle.state.specs.declared.Limits.{Limits}
use Rattle.state.specs.Layout.{held, Fits}
use Rattle.state.specs.Changed.{Changed, Blank}
use Rattle.state.proofs.Changed.{stored_here, changed_stored, changed_none, changed_then, changed_within, length_slots, length_variables}
use Rattle.state.proofs.Rows.{length_rows, row_at_law, rows_more, rows_same}
use Rattle.variable_map.specs.declared.Origin as code
use Rattle.variable_map.specs.declared.Named.{Named}
use Rattle.variable_map.specs.Mapping.{origin_by, origin_of, in_tables, slot_of, found, origin_in, variables, place, Mapped, Free, Rowed, Grown, Made, Naming}
use Rattle.variable_map.proofs.Slots.{slot_apart, slot_below}
use Rattle.variable_map.proofs.Places.{variable_new, place_new, place_other, read_place, found_known, found_none, with_known, with_new}

-- ---- for callers

pub count : (n : ℕ) (st : ℕ → List ℕ) → length (variables n st) ≡ n
unfolding variables
count n st = length_rows (origin_in (st 16)) n

-- what leaves regions 0 and 16 alone keeps the map
module _ {js : List ℕ} {st st' : ℕ → List ℕ} (c : Changed js st st') where
  pub variables_kept : (n : ℕ) → elem 16 js ≡ false → variables n st' ≡ variables n st
  unfolding variables
  variables_kept n e = rw (c.same 16 e)

  pub mapped_kept : {l : Limits} {n : ℕ} → elem 0 js ≡ false → elem 16 js ≡ false → Mapped l n st → Mapped l n st'
  mapped_kept {l} {n} e f m = record { room = m.room; slots = λ o h. rw (c.same 0 e, variables_kept n f) (m.slots o h) }

pub grown_count : {l : Limits} {n : ℕ} {vs : List Origin} {st st' : ℕ → List ℕ} → Grown l n vs st st' → n ≡ length vs
grown_count {n = n} {st' = st'} g = sym (count n st') ∙ ap length g.is

-- what `name` gives, by its answer
pub named_made : {l : Limits} {n : ℕ} {m : Named} {o : Origin} {st st' : ℕ → List ℕ} {r : Option Named} → Naming l n o st st' r → r ≡ Some m → Made l n o m.count m.variable st st'
named_made g e = g.made _ e

pub named_mapped : {l : Limits} {n : ℕ} {m : Named} {o : Origin} {st st' : ℕ → List ℕ} {r : Option Named} → Naming l n o st st' r → r ≡ Some m → Mapped l m.count st'
named_mapped g e = (g.made _ e).grown.mapped

-- ---- reading

pub variable_is : (l : Limits) (n k p : ℕ) (r : Option ℕ) (o : Origin) (st : ℕ → List ℕ) → Mapped l n st → in_tables o ≡ true → k ≡ slot_of o → p ≡ get_or (st 0) k 0
    → SomeIff r (1 ≤ p) (p - 1) → r ≡ found (variables n st) o
variable_is l n k p r o st m h e d x = read_place (variables n st) o p r (d ∙ (ap (λ (i : ℕ). get_or (st 0) i 0) e ∙ m.slots o h)) x

pub origin_in_law : (st : ℕ → List ℕ) (n v x y z : ℕ) (o : code.Origin) → v < n → x ≡ get_or (st 16) (3 * v) 0 → y ≡ get_or (st 16) (3 * v + 1) 0 → z ≡ get_or (st 16) (3 * v + 2) 0
    → origin_of o ≡ origin_by x y z → origin_of o ≡ get_or (variables n st) v (chosen root)
unfolding variables
origin_in_law st n v x y z o h e f g q = rw (row_at_law (origin_in (st 16)) (chosen root) n v h, q, e, f, g) (unfold origin_in in refl)

pub origin_past : (st : ℕ → List ℕ) (n v : ℕ) → n ≤ v → chosen root ≡ get_or (variables n st) v (chosen root)
origin_past st n v h = sym (get_or-eq_default (variables n st) (chosen root) (rw count h))

-- ---- one row more

-- three numbers stored side by side
module _ (w : List ℕ) (k x y z : ℕ) where
  abbrev three : List ℕ
  three = set (set (set w k x) (k + 1) y) (k + 2) z

  three_before : (i : ℕ) → i < k → get_or three i 0 ≡ get_or w i 0
  three_before i h =
      get_or-set_other (set (set w k x) (k + 1) y) (k + 2) i z 0 (λ e. omega arith)
      ∙ (get_or-set_other (set w k x) (k + 1) i y 0 (λ e. omega arith) ∙ get_or-set_other w k i x 0 (λ e. omega arith))

  three_0 : k + 2 < length w → get_or three k 0 ≡ x
  three_0 h =
      get_or-set_other (set (set w k x) (k + 1) y) (k + 2) k z 0 (λ e. omega arith)
      ∙ (get_or-set_other (set w k x) (k + 1) k y 0 (λ e. omega arith) ∙ get_or-set_same w k x 0 (omega arith))

  three_1 : k + 2 < length w → get_or three (k + 1) 0 ≡ y
  three_1 h =
      get_or-set_other (set (set w k x) (k + 1) y) (k + 2) (k + 1) z 0 (λ e. omega arith)
      ∙ get_or-set_same (set w k x) (k + 1) y 0 (rw length-set (omega arith))

  three_2 : k + 2 < length w → get_or three (k + 2) 0 ≡ z
  three_2 h = get_or-set_same (set (set w k x) (k + 1) y) (k + 2) z 0 (simp length-set h)

module _ (w w' : List ℕ) (n x y z : ℕ) (e : w' ≡ three w (3 * n) x y z) (h : 3 * n + 2 < length w) where
  row_before : (i : ℕ) → i < n → origin_in w' i ≡ origin_in w i
  unfolding origin_in
  row_before i g =
      rw (
        e,
        three_before w (3 * n) _ _ _ (3 * i) (omega arith),
        three_before w (3 * n) _ _ _ (3 * i + 1) (omega arith),
        three_before w (3 * n) _ _ _ (3 * i + 2) (omega arith),
      )

  row_new : origin_in w' n ≡ origin_by x y z
  unfolding origin_in
  row_new = rw (e, three_0 w (3 * n) _ _ _ h, three_1 w (3 * n) _ _ _ h, three_2 w (3 * n) _ _ _ h)

module _ (l : Limits) (n x y z : ℕ) (o : Origin) (row : origin_by x y z ≡ o) (b b₁ b₂ b₃ : List ℕ) (fits : Fits l (length b)) (room : n < l.variables)
    (e₁ : held l b₁ ≡ stored (held l b) 16 (3 * n) x) (e₂ : held l b₂ ≡ stored (held l b₁) 16 (3 * n + 1) y)
    (e₃ : held l b₃ ≡ stored (held l b₂) 16 (3 * n + 2) z) where
  at_16 : held l b₃ 16 ≡ three (held l b 16) (3 * n) x y z
  at_16 =
      rw (
        e₃,
        stored_here (held l b₂) 16 (3 * n + 2) z,
        e₂,
        stored_here (held l b₁) 16 (3 * n + 1) y,
        e₁,
        stored_here (held l b) 16 (3 * n) x,
      )

  in_region : 3 * n + 2 < length (held l b 16)
  in_region = rw (length_variables l b fits) (omega arith)

  one_more : variables (n + 1) (held l b₃) ≡ snoc (variables n (held l b)) o
  unfolding variables
  one_more =
      rows_more (origin_in (held l b₃ 16)) n
      ∙ rw (
        rows_same (origin_in (held l b₃ 16)) (origin_in (held l b 16)) n (row_before (held l b 16) (held l b₃ 16) n x y z at_16 in_region),
        row_new (held l b 16) (held l b₃ 16) n x y z at_16 in_region,
        row,
      )

  pub row_pushed : Rowed n o (held l b) (held l b₃)
  row_pushed =
      record {
        is = one_more;
        rest =
            changed_then (changed_stored 16 (3 * n) x e₁ (unfold any in refl))
            (changed_then (changed_stored 16 (3 * n + 1) y e₂ (unfold any in refl)) (changed_stored 16 (3 * n + 2) z e₃ (unfold any in refl)));
      }

-- ---- and its slot

module _ (l : Limits) (n k : ℕ) (o : Origin) (b b₁ b₂ : List ℕ) (fits : Fits l (length b)) (f : Free l n o (held l b)) (g : Rowed n o (held l b) (held l b₁))
    (s : k ≡ slot_of o) (e : held l b₂ ≡ stored (held l b₁) 0 k (n + 1)) where
  at_0 : held l b₂ 0 ≡ set (held l b 0) k (n + 1)
  at_0 = rw (e, stored_here (held l b₁) 0 k (n + 1), g.rest.same 0 (unfold any in refl))

  is_now : variables (n + 1) (held l b₂) ≡ snoc (variables n (held l b)) o
  is_now = variables_kept (changed_stored {js = 0 ∷ []} 0 k (n + 1) e (unfold any in refl)) (n + 1) (unfold any in refl) ∙ g.is

  slot_same : (a : Origin) → in_tables a ≡ true → same_origin a o ≡ true
      → get_or (set (held l b 0) k (n + 1)) (slot_of a) 0 ≡ place (snoc (variables n (held l b)) o) a
  slot_same a h q =
      rw (origin_same a o q, ← s, place_new (variables n (held l b)) o f.unknown, count)
      (get_or-set_same (held l b 0) k (n + 1) 0 (rw (length_slots l b fits, s) (slot_below o f.fits)))

  slot_other : (a : Origin) → in_tables a ≡ true → same_origin a o ≡ false
      → get_or (set (held l b 0) k (n + 1)) (slot_of a) 0 ≡ place (snoc (variables n (held l b)) o) a
  slot_other a h q =
      get_or-set_other (held l b 0) k (slot_of a) (n + 1) 0 apart ∙ (f.mapped.slots a h ∙ sym (place_other (variables n (held l b)) o a q))
    where
      apart : slot_of a ≡ k → ⊥
      apart z =
          let same = slot_apart a o h f.fits (z ∙ s) in
          false≢true (sym q ∙ (ap (λ (x : Origin). same_origin x o) same ∙ origin_self o))

  pub pushed : Grown l (n + 1) (snoc (variables n (held l b)) o) (held l b) (held l b₂)
  pushed =
      let slots : (a : Origin) → in_tables a ≡ true → get_or (held l b₂ 0) (slot_of a) 0 ≡ place (variables (n + 1) (held l b₂)) a =
      λ a h. rw (at_0, is_now) (by_cases (same_origin a o) (slot_same a h) (slot_other a h)) in
      record {
        mapped = record { room = omega (arith, f.room); slots = slots };
        is = is_now;
        rest = changed_then (changed_within {js = 16 ∷ []} (0 ∷ 16 ∷ []) (unfold all any in refl) g.rest) (changed_stored 0 k (n + 1) e (unfold any in refl));
      }

-- ---- an origin named

module _ {A : Type 0} {x : A} where
  some_is : {y : A} → Some x ≡ Some y → x ≡ y
  some_is q = cc

  some_none : Some x ≡ None → ⊥
  some_none q = cc

  none_some : None ≡ Some x → ⊥
  none_some q = cc

module _ (l : Limits) (n : ℕ) (r : Option ℕ) (o : Origin) (st : ℕ → List ℕ) (m : Mapped l n st) (e : r ≡ found (variables n st) o) where
  pub name_known : (x : ℕ) → r ≡ Some x → Naming l n o st st (Some (record { count = n; variable = x }))
  name_known x h = record { made = λ w q. rw (← some_is q) made; lacking = λ q. absurd (some_none q) }
    where
      k : (known (variables n st) o ≡ true) × (x ≡ variable_of (variables n st) o)
      k = found_known (variables n st) o r e x h

      made : Made l n o n x st st
      made =
          let below = (stands (variables n st) o o k.0).0 in
          record {
            grown = record { mapped = m; is = sym (with_known (variables n st) o k.0); rest = changed_none (0 ∷ 16 ∷ []) st };
            variable = rw (with_known (variables n st) o k.0) k.1;
            below = omega (arith, k.1, below, count n st);
          }

  pub name_full : r ≡ None → l.variables ≤ n → Naming l n o st st None
  name_full h g =
      record { made = λ w q. absurd (none_some q); lacking = λ q. record { unknown = found_none (variables n st) o r e h; full = omega (arith, m.room); same = refl } }

pub free : (l : Limits) (n : ℕ) (r : Option ℕ) (o : Origin) (st : ℕ → List ℕ) → Mapped l n st → in_tables o ≡ true → r ≡ found (variables n st) o → r ≡ None → n < l.variables
    → Free l n o st
free l n r o st m t e h q = record { mapped = m; room = q; fits = t; unknown = found_none (variables n st) o r e h }

pub name_new : (l : Limits) (n c : ℕ) (r : Option ℕ) (o : Origin) (st st' : ℕ → List ℕ) → r ≡ found (variables n st) o → r ≡ None
    → Grown l c (snoc (variables n st) o) st st' → Naming l n o st st' (Some (record { count = c; variable = n }))
name_new l n c r o st st' e h g = record { made = λ w q. rw (← some_is q) made; lacking = λ q. absurd (some_none q) }
  where
    d : c ≡ suc n
    d = grown_count g ∙ (length_snoc (variables n st) o ∙ ap suc (count n st))

    u : known (variables n st) o ≡ false
    u = found_none (variables n st) o r e h

    made : Made l n o c n st st'
    made =
        record {
          grown = rw (with_new (variables n st) o u) g;
          variable = rw (with_new (variables n st) o u, variable_new (variables n st) o u) (sym (count n st));
          below = omega (arith, d);
        }

-- ---- the start

pub root_free : (l : Limits) (st : ℕ → List ℕ) → Blank 0 st → 0 < l.variables → Free l 0 (chosen root) st
unfolding variables up_to place known any in_tables
root_free l st z h = record { mapped = record { room = omega arith; slots = λ o t. z.zeros (slot_of o) }; room = h; fits = refl; unknown = refl }

pub started : (l : Limits) (r : ℕ) (st st' : ℕ → List ℕ) → Grown l r (snoc (variables 0 st) (chosen root)) st st' → Grown l r (chosen root ∷ []) st st'
started l r st st' g = rw first at g
  where
    first : snoc (variables 0 st) (chosen root) ≡ chosen root ∷ []
    first = unfold snoc variables up_to in refl
