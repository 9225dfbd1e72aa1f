-- The locked part of a name: it is looked for; with it there are the others.
use mathlib.Core.Path.{◌≡◌, refl, sym, ◌∙◌}
use mathlib.Core.Bool.{Bool, true, false}
use mathlib.Core.List.{List, [], ◌∷◌, ◌++◌}
use Prim.Native.Nat.{ℕ, suc, ◌+◌, ◌-◌, ◌<◌, ◌≤◌}
use native.Mathlib.Numerals.{add-one}
use native.Mathlib.Omega.{arith}
use Rattle.std.specs.Prelude.{Option, Some, None, slice_get}
use Rattle.rules.specs.Lists.{filter, fold, up_to}
use Rattle.rules.specs.Catalogue.{Catalogue}
use Rattle.rules.specs.Candidates.{locked_part, others, locked_out}
use Rattle.rules.specs.State as rules
use Rattle.rules.proofs.Member.{not_one}
use Rattle.rules.proofs.DistinctEnough.{fold_append}
use Rattle.tables.specs.declared.Counts.{Counts}
use Rattle.cache.specs.Areas.{catalogue}
use Rattle.cache.proofs.Laws.{parts_held}
use Rattle.encoder.specs.declared.State.{State}
use Rattle.encoder.specs.Held.{KnownUnlessFull}
use Rattle.encoder.specs.Does.{StateDoes, ClausesDoes}
use Rattle.encoder.proofs.Does.{does_same, does_then, does_none, clauses_do_none}
use Rattle.index.specs.Chains.{Skips}
use Rattle.index.proofs.Walking.{walk}
use Rattle.parts.specs.declared.Parts.TheVariants.{Locked, Others}
use Rattle.parts.specs.declared.Naming.TheVariants.{Variable}
use Rattle.parts.specs.declared.Adding.TheVariants as Adding
use Rattle.parts.specs.Parts.{selected_of, parts_for, naming_of, adding_of}
use Rattle.parts.proofs.Selecting.{locked_parts, other_parts}

-- ---- it is looked for

-- it is the first of those from part p on
pub record LockedFrom (c : Catalogue) (n count p : ℕ) : Type 0 where
  pub within : p ≤ count
  pub is : slice_get (filter (selected_of c (Locked n)) (up_to p (count - p))) 0 ≡ slice_get (locked_part c n) 0

module _ (k : Counts) (m u t : List ℕ) (n : ℕ) where
  abbrev c : Catalogue
  c = catalogue k m u t

  locked_start : LockedFrom (catalogue k m u t) n k.parts 0
  unfolding parts_for
  locked_start =
      let e : k.parts - 0 ≡ k.parts = omega arith in
      record { within = omega arith; is = rw (e, ← locked_parts c n, parts_held k m u t) }

  module _ (p : ℕ) (x : LockedFrom (catalogue k m u t) n k.parts p) where
    next : p < k.parts → up_to p (k.parts - p) ≡ p ∷ up_to (p + 1) (k.parts - (p + 1))
    unfolding up_to
    next h =
        let e : k.parts - p ≡ suc (k.parts - (p + 1)) = omega arith in
        rw (e, add-one p)

    module _ {b : Bool} (h : p < k.parts) (e : b ≡ selected_of (catalogue k m u t) (Locked n) p) where
      pub locked_found : b ≡ true → Some p ≡ slice_get (locked_part (catalogue k m u t) n) 0
      unfolding filter
      locked_found i =
          let q : selected_of c (Locked n) p ≡ true = sym e ∙ i in
          sym (sym x.is ∙ rw (next h, q, filter))

      locked_more : b ≡ false → LockedFrom (catalogue k m u t) n k.parts (p + 1)
      unfolding filter
      locked_more i =
          let q : selected_of c (Locked n) p ≡ false = sym e ∙ i in
          record { within = omega arith; is = sym (rw (next h, q, filter)) ∙ x.is }

    pub locked_end : k.parts ≤ p → None ≡ slice_get (locked_part (catalogue k m u t) n) 0
    unfolding filter up_to
    locked_end h =
        let e : k.parts - p ≡ 0 = omega arith in
        rw (e, up_to, filter) at x.is

  locked_on : {p x : ℕ} → Skips k.parts (selected_of (catalogue k m u t) (Locked n)) p x → LockedFrom (catalogue k m u t) n k.parts p → LockedFrom (catalogue k m u t) n k.parts x
  locked_on s y = walk (LockedFrom (catalogue k m u t) n k.parts) (λ i h e z. locked_more i z h refl e) s y

  pub locked_first : {x : ℕ} → Skips k.parts (selected_of (catalogue k m u t) (Locked n)) 0 x → LockedFrom (catalogue k m u t) n k.parts x
  locked_first s = locked_on s locked_start

  pub locked_next : {p x : ℕ} {b : Bool} → LockedFrom (catalogue k m u t) n k.parts p → p < k.parts → b ≡ selected_of (catalogue k m u t) (Locked n) p → b ≡ false
      → Skips k.parts (selected_of (catalogue k m u t) (Locked n)) (p + 1) x → LockedFrom (catalogue k m u t) n k.parts x
  locked_next {p} y h e i s = locked_on s (locked_more p y h e i)

-- ---- the others

first_some : (xs : List ℕ) (x : ℕ) → Some x ≡ slice_get xs 0 → (ls : List ℕ) × (xs ≡ x ∷ ls)
first_some [] x e = absurd (not_one (cc))
first_some (y ∷ ys) x e = let q : y ≡ x = cc in (ys, rw q)

first_none : (xs : List ℕ) → None ≡ slice_get xs 0 → xs ≡ []
first_none [] e = refl
first_none (x ∷ xs) e = absurd (not_one (cc))

module _ (k : Counts) (m u t : List ℕ) (n : ℕ) {o : Option ℕ} (e : o ≡ slice_get (locked_part (catalogue k m u t) n) 0) where
  abbrev held : Catalogue
  held = catalogue k m u t

  some_others : {locked : ℕ} → o ≡ Some locked → parts_for held (Others n locked) ≡ locked_out held n
  some_others {locked} h =
      let s = first_some (locked_part held n) locked (rw h at e) in
      other_parts held n locked s.0 s.1

  none_locked : o ≡ None → locked_part held n ≡ []
  none_locked h = first_none (locked_part held n) (rw h at e)

  none_others : o ≡ None → locked_out held n ≡ []
  unfolding locked_out others
  none_others h = rw (none_locked h, others)

  module _ {x : State} where
    pub locked_named : {x' x'' : State} {locked : ℕ} → o ≡ Some locked
        → StateDoes (catalogue k m u t) (λ v. fold (naming_of (catalogue k m u t) Variable) (parts_for (catalogue k m u t) (Locked n))) x x'
        → StateDoes (catalogue k m u t) (λ v. fold (naming_of (catalogue k m u t) Variable) (parts_for (catalogue k m u t) (Others n locked))) x' x''
        → StateDoes (catalogue k m u t) (λ v. fold (naming_of (catalogue k m u t) Variable) (locked_part (catalogue k m u t) n ++ locked_out (catalogue k m u t) n)) x x''
    locked_named h d g =
        does_same (does_then d g)
        (λ v s. rw (locked_parts held n, some_others h) (sym (fold_append (naming_of held Variable) (locked_part held n) (locked_out held n) s)))

    pub locked_none : o ≡ None
        → StateDoes (catalogue k m u t) (λ v. fold (naming_of (catalogue k m u t) Variable) (locked_part (catalogue k m u t) n ++ locked_out (catalogue k m u t) n)) x x
    unfolding fold
    locked_none h = does_none (λ v s. rw (none_locked h, none_others h))

    pub locks_added : (r : rules.Run) {x' : State} {cl cl' : List ℕ} {locked : ℕ} → o ≡ Some locked
        → ClausesDoes (catalogue k m u t) (λ v. fold (adding_of r Adding.Lock) (parts_for (catalogue k m u t) (Others n locked))) x cl x' cl'
        → ClausesDoes (catalogue k m u t) (λ v. fold (adding_of r Adding.Lock) (locked_out (catalogue k m u t) n)) x cl x' cl'
    locks_added r h d = rw (some_others h) at d

    pub locks_none : (r : rules.Run) {cl : List ℕ} → o ≡ None → ClausesDoes (catalogue k m u t) (λ v. fold (adding_of r Adding.Lock) (locked_out (catalogue k m u t) n)) x cl x cl
    unfolding fold
    locks_none r h = clauses_do_none (λ v s. rw (none_others h))

  pub others_known : {full : Bool} {vs : List _} → {locked : ℕ} → o ≡ Some locked → KnownUnlessFull full vs (locked_out (catalogue k m u t) n) → KnownUnlessFull full vs (parts_for (catalogue k m u t) (Others n locked))
  others_known h a = rw (some_others h) a
