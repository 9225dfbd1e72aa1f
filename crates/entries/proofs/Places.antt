-- What stands at the places below n that pass a test (`picked`), and what loading and draining do to a list of records: no word of memory.
use mathlib.Core.Path.{◌≡◌, refl, sym, ◌∙◌, ap, subst}
use mathlib.Core.Bool.{Bool, true, false, not}
use mathlib.Core.List.{List, [], ◌∷◌, ◌++◌, tail, map, map-append, append-nil}
use Prim.Native.Nat.{ℕ, zero, suc, ◌+◌, ◌<◌, ◌≤◌}
use native.Mathlib.Nat.{le_refl, add-zero}
use native.Mathlib.Numerals.{add-one}
use native.Mathlib.Omega.{arith}
use lib.ListN.{length, get_or, set, take, drop, length-set, length-map, length-append}
use lib.Seq.{take-suc, take-suc-set, drop-set-lt, drop-cons, get_or-drop, get_or-take}
use borrow.Author.Tests.{eq-eqb, ne_eqb}
use Rattle.rules.specs.Lists.{filter, snoc, up_to}
use Rattle.rules.proofs.ListLaws.{up_to_last, length_up_to, length_filters}
use Rattle.rules.proofs.MemberLaws.{filter_append, filter_pass, filter_stop}
use Rattle.state.proofs.Rows.{row_at_law, rows_more}
use Rattle.entries.specs.declared.Entry.{Entry}
use Rattle.entries.specs.Entries.{no_entry, entry_of, row_at_index}
use Rattle.entries.specs.Deferred.{picked, is_free, held_at, free_at, record_of, record_at, listed, free_records, free_rows}

-- ---- places

module _ {A : Type 0} where
  pub picked_none : (f : ℕ → Bool) (g : ℕ → A) → picked f g 0 ≡ []
  unfolding picked up_to filter
  picked_none f g = refl

  pub picked_pass : (f : ℕ → Bool) (g : ℕ → A) (n : ℕ) → f n ≡ true → picked f g (n + 1) ≡ picked f g n ++ (g n ∷ [])
  unfolding picked
  picked_pass f g n e = rw (up_to_last, filter_append, filter_pass f n e, map-append)

  pub picked_stop : (f : ℕ → Bool) (g : ℕ → A) (n : ℕ) → f n ≡ false → picked f g (n + 1) ≡ picked f g n
  unfolding picked
  picked_stop f g n e = rw (up_to_last, filter_append, filter_stop f n e, append-nil)

  -- a test and a list by places that are the same below n
  pub picked_same : (f f' : ℕ → Bool) (g g' : ℕ → A) (n : ℕ) → ((i : ℕ) → i < n → f i ≡ f' i) → ((i : ℕ) → i < n → g i ≡ g' i) → picked f g n ≡ picked f' g' n
  picked_same f f' g g' zero e d = picked_none f g ∙ sym (picked_none f' g')
  picked_same f f' g g' (suc n) e d =
      rw (← add-one) (by_test (picked_same f f' g g' n (λ i h. e i (omega arith)) (λ i h. d i (omega arith))) (f n) refl)
    where
      by_test : picked f g n ≡ picked f' g' n → (b : Bool) → f n ≡ b → picked f g (n + 1) ≡ picked f' g' (n + 1)
      by_test q true t = picked_pass f g n t ∙ rw (q, d n (omega arith)) (sym (picked_pass f' g' n (sym (e n (omega arith)) ∙ t)))
      by_test q false t = picked_stop f g n t ∙ (q ∙ sym (picked_stop f' g' n (sym (e n (omega arith)) ∙ t)))

  -- those that pass a test of what stands there
  module _ (f : A → Bool) (d : A) (xs : List A) where
    abbrev test : ℕ → Bool
    test i = f (get_or xs i d)

    abbrev elem : ℕ → A
    elem i = get_or xs i d

    pub picked_filter : (n : ℕ) → n ≤ length xs → picked test elem n ≡ filter f (take n xs)
    unfolding filter
    picked_filter zero h = picked_none test elem
    picked_filter (suc n) h = rw (← add-one) (by_test (picked_filter n (omega arith)) (test n) refl)
      where
        last : filter f (take (n + 1) xs) ≡ filter f (take n xs) ++ filter f (elem n ∷ [])
        last = rw (add-one, take-suc xs n d (omega arith)) (filter_append f (take n xs) (elem n ∷ []))

        by_test : picked test elem n ≡ filter f (take n xs) → (b : Bool) → test n ≡ b → picked test elem (n + 1) ≡ filter f (take (n + 1) xs)
        by_test q true t = picked_pass test elem n t ∙ rw (q, last, filter_pass f (elem n) t)
        by_test q false t = picked_stop test elem n t ∙ rw (q, last, filter_stop f (elem n) t, append-nil)

-- each place is free or held
pub picked_both : {A B : Type 0} (held : List Bool) (g : ℕ → A) (h : ℕ → B) (n : ℕ) → length (picked (free_at held) g n) + length (picked (held_at held) h n) ≡ n
unfolding picked free_at
picked_both held g h n = simp length-map (omega (arith, length_filters (held_at held) (up_to 0 n), length_up_to 0 n))

-- where none is held all are free
module _ {A : Type 0} (held : List Bool) (g : ℕ → A) where
  one_more : (n : ℕ) (t : Bool) → held_at held n ≡ t → (length (picked (held_at held) g n) ≡ 0 → picked (free_at held) g n ≡ map g (up_to 0 n))
      → length (picked (held_at held) g (n + 1)) ≡ 0 → picked (free_at held) g (n + 1) ≡ map g (up_to 0 (n + 1))
  unfolding free_at snoc
  one_more n false t q h = picked_pass (free_at held) g n (ap not t) ∙ rw (q (rw (picked_stop (held_at held) g n t) at h)) (sym (rows_more g n))
  one_more n true t q h =
      let e : length (picked (held_at held) g n) + 1 ≡ 0 = sym (length-append (picked (held_at held) g n) (g n ∷ [])) ∙ rw (picked_pass (held_at held) g n t) at h in
      let no : ⊥ = omega arith in
      absurd no

  none_more : picked (free_at held) g 0 ≡ map g (up_to 0 0)
  unfolding up_to
  none_more = picked_none (free_at held) g

  pub picked_all : (n : ℕ) → length (picked (held_at held) g n) ≡ 0 → picked (free_at held) g n ≡ map g (up_to 0 n)
  picked_all zero h = none_more
  picked_all (suc n) h = rw (← add-one) (one_more n (held_at held n) refl (picked_all n) (rw (← add-one) at h))

-- ---- one flag

module _ (held : List Bool) (i : ℕ) where
  pub free_there : get_or held i false ≡ false → free_at held i ≡ true
  unfolding free_at held_at
  free_there h = ap not h

  pub not_free : get_or held i false ≡ true → free_at held i ≡ false
  unfolding free_at held_at
  not_free h = ap not h

-- as a number
module _ (held : List ℕ) (i : ℕ) where
  pub is_free_law : get_or held i 0 ≡ 0 → is_free held i ≡ true
  unfolding is_free
  is_free_law h = eq-eqb (get_or held i 0) 0 h

  pub is_held_law : (get_or held i 0 ≡ 0 → ⊥) → is_free held i ≡ false
  unfolding is_free
  is_held_law h = ne_eqb (get_or held i 0) 0 h

-- ---- loading: the first m rows are pushed

pub record Loading (bytes : List ℕ) (ys : List Entry) (m : ℕ) (zs : List Entry) : Type 0 where
  pub count : length zs ≡ length ys
  pub front : take m zs ≡ listed bytes m

pub loading_start : (bytes : List ℕ) (ys : List Entry) → Loading bytes ys 0 ys
unfolding listed up_to
loading_start bytes ys = record { count = refl; front = refl }

pub loading_step : (bytes : List ℕ) (ys : List Entry) (m : ℕ) (zs : List Entry) → m < length ys → Loading bytes ys m zs → Loading bytes ys (m + 1) (set zs m (record_of (row_at_index bytes m)))
unfolding listed snoc
loading_step bytes ys m zs l r =
    let e : Entry = record_of (row_at_index bytes m) in
    let within : m < length zs = omega (arith, r.count) in
    record {
      count = length-set zs m e ∙ r.count;
      front = ap (λ (k : ℕ). take k (set zs m e)) (add-one m)
          ∙ (take-suc-set zs m e within ∙ (ap (λ (l' : List Entry). l' ++ (e ∷ [])) r.front ∙ sym (rows_more (λ i. record_of (row_at_index bytes i)) m)));
    }

record_is : (e : Entry) (x : ℕ × ℕ) → entry_of e ≡ x → e ≡ record_of x
unfolding entry_of
record_is e x h = ap record_of h

-- as the code has it: a row is read, and pushed
pub loading_more : (bytes : List ℕ) (ys : List Entry) (m : ℕ) (zs : List Entry) (e : Entry) (zs' : List Entry) → m < length ys → Loading bytes ys m zs
    → entry_of e ≡ row_at_index bytes m → zs' ≡ set zs m e → Loading bytes ys (m + 1) zs'
loading_more bytes ys m zs e zs' h r i p = rw (p, record_is e (row_at_index bytes m) i) (loading_step bytes ys m zs h r)

pub loaded : (bytes : List ℕ) (ys : List Entry) (n : ℕ) (zs : List Entry) → Loading bytes ys n zs → take n zs ≡ listed bytes n
loaded bytes ys n zs r = r.front

-- ---- draining: of the first i records the free ones stand in front, and the others are as they were

pub record Draining (held : List Bool) (ys : List Entry) (i : ℕ) (zs : List Entry) (to : ℕ) : Type 0 where
  pub count : length zs ≡ length ys
  pub fewer : to ≤ i
  pub front : take to zs ≡ free_records held i ys
  pub rest : drop i zs ≡ drop i ys

pub draining_start : (held : List Bool) (ys : List Entry) → Draining held ys 0 ys 0
unfolding free_records
draining_start held ys = record { count = refl; fewer = le_refl 0; front = sym (picked_none (free_at held) (record_at ys)); rest = refl }

module _ (held : List Bool) (ys : List Entry) (i : ℕ) (zs : List Entry) (to : ℕ) (l : i < length ys) (r : Draining held ys i zs to) where
  within_i : i < length zs
  within_i = subst (λ (n : ℕ). i < n) (sym r.count) l

  rest_more : drop (i + 1) zs ≡ drop (i + 1) ys
  rest_more =
      ap (λ (n : ℕ). drop n zs) (add-one i) ∙ (ap tail (sym (drop-cons zs i (record_of no_entry) within_i) ∙ (r.rest ∙ drop-cons ys i (record_of no_entry) l))
      ∙ ap (λ (n : ℕ). drop n ys) (sym (add-one i)))

  pub draining_held : get_or held i false ≡ true → Draining held ys (i + 1) zs to
  unfolding free_records
  draining_held h =
      record {
        count = r.count;
        fewer = omega (arith, r.fewer);
        front = r.front ∙ sym (picked_stop (free_at held) (record_at ys) i (not_free held i h));
        rest = rest_more;
      }

  same : record_at zs i ≡ record_at ys i
  same =
      ap (λ (n : ℕ). get_or zs n (record_of no_entry)) (sym (add-zero i))
      ∙ (sym (get_or-drop i zs 0 (record_of no_entry)) ∙ (ap (λ (l' : List Entry). get_or l' 0 (record_of no_entry)) r.rest
      ∙ (get_or-drop i ys 0 (record_of no_entry) ∙ ap (λ (n : ℕ). get_or ys n (record_of no_entry)) (add-zero i))))

  pub draining_free : (e : Entry) (zs' : List Entry) (to' : ℕ) → get_or held i false ≡ false → e ≡ record_at zs i → to' ≡ to + 1 → zs' ≡ set zs to e
      → Draining held ys (i + 1) zs' to'
  unfolding free_records
  draining_free e zs' to' h is c p = rw (p, c) (record { count = length-set zs to e ∙ r.count; fewer = omega (arith, r.fewer); front = front; rest = rest })
    where
      within : to < length zs
      within = omega (arith, within_i, r.fewer)

      front : take (to + 1) (set zs to e) ≡ picked (free_at held) (record_at ys) (i + 1)
      front =
          ap (λ (n : ℕ). take n (set zs to e)) (add-one to)
          ∙ (take-suc-set zs to e within ∙ (rw (r.front, free_records, is, same) (sym (picked_pass (free_at held) (record_at ys) i (free_there held i h)))))

      rest : drop (i + 1) (set zs to e) ≡ drop (i + 1) ys
      rest = ap (λ (n : ℕ). drop n (set zs to e)) (add-one i) ∙ (drop-set-lt (suc i) zs to e (omega (arith, r.fewer)) ∙ (ap (λ (n : ℕ). drop n zs) (sym (add-one i)) ∙ rest_more))

pub drained_all : (held : List Bool) (ys : List Entry) (zs : List Entry) (to n : ℕ) → Draining held ys n zs to → (to ≤ n) × (take to zs ≡ free_records held n ys)
drained_all held ys zs to n r = (r.fewer, r.front)

-- ---- both: the free ones of the rows that were loaded

pub loaded_drained : (held : List Bool) (bytes : List ℕ) (n : ℕ) (zs : List Entry) → n ≤ length zs → take n zs ≡ listed bytes n → free_records held n zs ≡ free_rows held n bytes
unfolding free_records free_rows listed
loaded_drained held bytes n zs h e = picked_same (free_at held) (free_at held) (record_at zs) (λ i. record_of (row_at_index bytes i)) n (λ i l. refl) same
  where
    same : (i : ℕ) → i < n → record_at zs i ≡ record_of (row_at_index bytes i)
    same i l = sym (get_or-take n zs i (record_of no_entry) l) ∙ (ap (λ (l' : List Entry). get_or l' i (record_of no_entry)) e ∙ row_at_law (λ j. record_of (row_at_index bytes j)) (record_of no_entry) n i l)
