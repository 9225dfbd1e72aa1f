-- The catalogue that the areas hold, field by field: how many things it gives, and what one thing more makes of it.
use mathlib.Core.Path.{◌≡◌, refl, sym, ◌∙◌, ap}
use mathlib.Core.Bool.{Bool, true, false, ◌||◌}
use mathlib.Core.List.{List, [], ◌∷◌}
use Prim.Native.Nat.{ℕ, suc, ◌<◌, ◌≤◌}
use native.Mathlib.Omega.{arith}
use native.Mathlib.Numerals.{add-one}
use native.Mathlib.Decide.{ℕ_discrete}
use lib.Dec.{eqb}
use lib.ListN.{length, get_or, set, length-set, get_or-append}
use lib.Seq.{get_or_at, get_or-set_same, get_or-set_other, ext_get_or}
use borrow.Author.Tests.{lt-leb, le-leb}
use Rattle.rules.specs.Lists.{snoc}
use Rattle.rules.proofs.ListLaws.{length_snoc}
use Rattle.rules.specs.Catalogue.{Range, Catalogue, no_range}
use Rattle.rules.specs.Refusals.{Thing}
use Rattle.rules.specs.Items.{ceiling, given, at_ceiling, absent, with_member}
use Rattle.tables.specs.declared.Counts.{Counts}
use Rattle.tables.specs.Tables.{Tables, listed, tables, Added}
use Rattle.tables.proofs.Listed.{listed_at, listed_more, listed_same, listed_length}
use Rattle.tables.proofs.Laws.{names_counted, parts_counted, ranges_counted, unions_counted, conditions_counted, requirements_counted, constraints_counted}
use Rattle.marks.specs.Marks.{is_marked}
use Rattle.unions.specs.Unions.{Row, rows, ranges_of, pushed}
use Rattle.unions.proofs.Laws.{ranges_pushed, ranges_pushed_other}
use Rattle.cache.specs.Areas.{assembled}
use Rattle.kept.specs.Kept.{Given}
use Rattle.kept.specs.Entering.{gathered}

-- ---- how many

module _ (k : Counts) (n : ℕ) (m u t : List ℕ) where
  pub names_given : given (gathered k n m u t) Thing.name ≡ k.names
  unfolding given assembled
  names_given = names_counted k t

  pub parts_given : given (gathered k n m u t) Thing.part ≡ k.parts
  unfolding given assembled
  parts_given = parts_counted k t

  pub ranges_given : given (gathered k n m u t) Thing.range ≡ k.ranges
  unfolding given assembled
  ranges_given = listed_length (length (tables k t).ranges) _ ∙ ranges_counted k t

  pub unions_given : given (gathered k n m u t) Thing.union ≡ k.unions
  unfolding given assembled
  unions_given = listed_length (tables k t).unions _ ∙ unions_counted k t

  pub conditions_given : given (gathered k n m u t) Thing.condition ≡ k.conditions
  unfolding given assembled
  conditions_given = conditions_counted k t

  pub requirements_given : given (gathered k n m u t) Thing.requirement ≡ k.requirements
  unfolding given assembled
  requirements_given = requirements_counted k t

  pub constraints_given : given (gathered k n m u t) Thing.constraint ≡ k.constraints
  unfolding given assembled
  constraints_given = constraints_counted k t

-- a test on a count is the definitions' test
module _ (c : Catalogue) (what : Thing) {n : ℕ} (e : given c what ≡ n) where
  pub full : ceiling what ≤ n → at_ceiling c what ≡ true
  unfolding at_ceiling
  full h = rw e (le-leb _ _ h)

  pub not_full : n < ceiling what → at_ceiling c what ≡ false
  unfolding at_ceiling
  not_full h = rw e (lt-leb _ _ h)

  pub none_such : {i : ℕ} → n ≤ i → absent c what i ≡ true
  unfolding absent
  none_such h = rw e (le-leb _ _ h)

  pub one_such : {i : ℕ} → i < n → absent c what i ≡ false
  unfolding absent
  one_such h = rw e (lt-leb _ _ h)

-- ---- lists by number

module _ {A : Type 0} where
  -- one of them changed
  pub listed_set : (n r : ℕ) (f g : ℕ → A) → r < n → ((i : ℕ) → (i ≡ r → ⊥) → g i ≡ f i) → listed n g ≡ set (listed n f) r (g r)
  listed_set n r f g h e = ext_get_or (g r) (listed n g) (set (listed n f) r (g r)) same at
    where
      same : length (listed n g) ≡ length (set (listed n f) r (g r))
      same = rw (length-set, listed_length n g, listed_length n f)

      at : (i : ℕ) → i < length (listed n g) → get_or (listed n g) i (g r) ≡ get_or (set (listed n f) r (g r)) i (g r)
      at i l =
          let j : i < n = rw (listed_length n g) at l in
          let q : r < length (listed n f) = rw (listed_length n f) h in
          elim (ℕ_discrete i r) [
            | yes x ↦ listed_at n g i (g r) j ∙ rw x (sym (get_or-set_same (listed n f) r (g r) (g r) q))
            | no x ↦ listed_at n g i (g r) j ∙ e i x ∙ sym (get_or-set_other (listed n f) r i (g r) (g r) x ∙ listed_at n f i (g r) j)
          ]

-- ---- one thing more

-- tables that one thing was put into
module _ {k r : Counts} {t' : List ℕ} {x : Tables} (a : Added k r t' x) where
  pub put_is : (n : ℕ) (m u : List ℕ) → gathered r n m u t' ≡ assembled x (is_marked m) (rows n u)
  put_is n m u = rw a.is

  pub unions_are : r.unions ≡ x.unions
  unions_are = sym (unions_counted r t') ∙ ap (λ (y : Tables). y.unions) a.is

abbrev range_with : List ℕ → (ℕ → ℕ → Bool) → ℕ → Range
range_with rs member r = record { name = get_or rs r 0; members = member r }

-- a range more, without members
pub range_more : (rs : List ℕ) (n : ℕ) (member member' : ℕ → ℕ → Bool) → member' (length rs) ≡ (λ (q : ℕ). false)
    → ((s : ℕ) → (s ≡ length rs → ⊥) → member' s ≡ member s)
    → listed (length (snoc rs n)) (range_with (snoc rs n) member') ≡ snoc (listed (length rs) (range_with rs member)) (record { name = n; members = λ _. false })
range_more rs n member member' e f = ap (λ (c : ℕ). listed c (range_with (snoc rs n) member')) (length_snoc rs n ∙ sym (add-one (length rs)))
    ∙ listed_more (length rs) (range_with (snoc rs n) member') ∙ rw (old, last, e)
  where
    last : get_or (snoc rs n) (length rs) 0 ≡ n
    last = unfold snoc in get_or_at rs n [] 0 (length rs) refl

    old : listed (length rs) (range_with (snoc rs n) member') ≡ listed (length rs) (range_with rs member)
    old = listed_same (length rs) (range_with (snoc rs n) member') (range_with rs member) (λ i h. rw (f i (λ q. omega arith), before i h))
      where
        before : (i : ℕ) → i < length rs → get_or (snoc rs n) i 0 ≡ get_or rs i 0
        before i h = unfold snoc in get_or-append rs (n ∷ []) 0 i h

-- a member more of range r
pub member_more : (rs : List ℕ) (r p : ℕ) (member member' : ℕ → ℕ → Bool) → r < length rs
    → member' r ≡ (λ (q : ℕ). eqb q p || member r q)
    → ((s : ℕ) → (s ≡ r → ⊥) → member' s ≡ member s)
    → listed (length rs) (range_with rs member')
    ≡ set (listed (length rs) (range_with rs member)) r (with_member p (get_or (listed (length rs) (range_with rs member)) r no_range))
unfolding with_member
member_more rs r p member member' h e f =
    listed_set (length rs) r (range_with rs member) (range_with rs member') h (λ i x. rw (f i x))
    ∙ rw (listed_at (length rs) (range_with rs member) r no_range h, e)

-- a union more, without ranges
pub union_more : (n : ℕ) (rs : List Row) → Given n rs → listed (suc n) (λ (v : ℕ). ranges_of v rs) ≡ snoc (listed n (λ (v : ℕ). ranges_of v rs)) []
union_more n rs g = rw (← add-one n) (listed_more n (λ (v : ℕ). ranges_of v rs) ∙ rw (g.none_yet n (omega arith)))

-- a range more of a union
pub row_more : (n : ℕ) (rs : List Row) (x : Row) → x.union < n
    → listed n (λ (v : ℕ). ranges_of v (pushed rs x))
    ≡ set (listed n (λ (v : ℕ). ranges_of v rs)) x.union (snoc (get_or (listed n (λ (v : ℕ). ranges_of v rs)) x.union []) x.range)
row_more n rs x h =
    listed_set n x.union (λ (v : ℕ). ranges_of v rs) (λ (v : ℕ). ranges_of v (pushed rs x)) h (λ i e. ranges_pushed_other i x rs (λ q. e (sym q)))
    ∙ rw (ranges_pushed x.union x rs refl, listed_at n (λ (v : ℕ). ranges_of v rs) x.union [] h)

pub given_more : (n : ℕ) (rs : List Row) (x : Row) → x.union < n → Given n rs → Given n (pushed rs x)
given_more n rs x h g = record { none_yet = λ v l. ranges_pushed_other v x rs (λ q. omega arith) ∙ g.none_yet v l }
