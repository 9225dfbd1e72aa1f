-- The candidates of a range, and the variables of a fired one.
use mathlib.Core.Path.{◌≡◌, refl, sym, ◌∙◌}
use mathlib.Core.Bool.{Bool, true, false, not, ◌&&◌}
use mathlib.Core.List.{List, [], ◌∷◌, ◌++◌}
use Prim.Native.Nat.{ℕ}
use native.Mathlib.Omega.{arith}
use lib.Dec.{ltb}
use lib.ListN.{length, get_or}
use borrow.Author.Tests.{ltb-true, ltb-false}
use Rattle.rules.specs.Lists.{filter, fold}
use Rattle.rules.specs.Catalogue.{Catalogue, part_at, range_name}
use Rattle.rules.specs.Candidates.{member, parts_of, matching, non_matching, favoured_first, sorted}
use Rattle.rules.specs.Variables.{one}
use Rattle.rules.specs.State.{State}
use Rattle.rules.proofs.DistinctEnough.{fold_append}
use Rattle.rules.proofs.Capped.{add_variable}
use Rattle.rules.proofs.MemberLaws.{filter_both}
use Rattle.tables.specs.declared.Counts.{Counts}
use Rattle.tables.specs.Tables.{tables}
use Rattle.cache.specs.declared.Choice.TheVariants.{NonMatching, Favoured, Others}
use Rattle.cache.specs.Areas.{catalogue}
use Rattle.cache.specs.Lists.{asked, chosen}
use Rattle.cache.proofs.Laws.{range_name_held}
use Rattle.cache.proofs.Lists.{of_name_law}
use Rattle.encoder.specs.declared.State as encoder
use Rattle.encoder.specs.Does.{StateDoes, PlainDoes}
use Rattle.encoder.proofs.Does.{does_same, does_then, at_catalogue}
use Rattle.parts.specs.declared.Parts.TheVariants.{Chosen}
use Rattle.parts.specs.declared.Naming.TheVariants.{Tracked, Candidate}
use Rattle.parts.specs.Parts.{selected_of, parts_for, naming_of}
use Rattle.parts.proofs.Selecting.{non_matching_parts}
use Rattle.naming.specs.Naming.{name_parts, name_range}

module _ (c : Catalogue) (r : ℕ) where
  favoured_is : parts_for c (Chosen r Favoured) ≡ filter (λ (p : ℕ). (part_at c p).favoured) (matching c r)
  unfolding parts_for selected_of chosen asked matching
  favoured_is =
      sym (filter_both (λ (p : ℕ). (part_at c p).favoured) (member c r) (parts_of c (range_name c r)) ∙ of_name_law c r (λ (p : ℕ). member c r p && (part_at c p).favoured))

  others_is : parts_for c (Chosen r Others) ≡ filter (λ (p : ℕ). not (part_at c p).favoured) (matching c r)
  unfolding parts_for selected_of chosen asked matching
  others_is =
      sym (filter_both (λ (p : ℕ). not (part_at c p).favoured) (member c r) (parts_of c (range_name c r)) ∙ of_name_law c r (λ (p : ℕ). member c r p && not (part_at c p).favoured))

  sorted_is : sorted c r ≡ parts_for c (Chosen r Favoured) ++ parts_for c (Chosen r Others)
  unfolding sorted favoured_first
  sorted_is = rw (favoured_is, others_is)

module _ {c : Catalogue} (r : ℕ) {a a' a'' : encoder.State} where
  pub candidates_named : StateDoes c (λ v. fold (naming_of c Candidate) (parts_for c (Chosen r Favoured))) a a'
      → StateDoes c (λ v. fold (naming_of c Candidate) (parts_for c (Chosen r Others))) a' a''
      → StateDoes c (λ v. fold (naming_of c Candidate) (sorted c r)) a a''
  candidates_named d h =
      does_same (does_then d h)
      (λ v s. rw (sorted_is c r) (sym (fold_append (naming_of c Candidate) (parts_for c (Chosen r Favoured)) (parts_for c (Chosen r Others)) s)))

-- ---- a fired range

parts_none : (c : Catalogue) (x : ℕ) (ps : List ℕ) (s : State) → length ps ≡ 0 → add_variable (one x) s ≡ name_parts c x ps s
unfolding name_parts
parts_none c x [] s h = refl
parts_none c x (p ∷ ps) s h = absurd (omega (arith, h))

parts_some : (c : Catalogue) (x : ℕ) (ps : List ℕ) (s : State) → (length ps ≡ 0 → ⊥) → fold (naming_of c Tracked) ps s ≡ name_parts c x ps s
unfolding name_parts
parts_some c x [] s h = absurd (h refl)
parts_some c x (p ∷ ps) s h = refl

module _ (k : Counts) (m u t : List ℕ) (r : ℕ) where
  module _ {a a' : encoder.State} {b : Bool} (e : b ≡ ltb 0 (length (non_matching (catalogue k m u t) r))) where
    pub one_named : b ≡ false → {x : ℕ} → x ≡ get_or (tables k t).ranges r 0 → PlainDoes (λ c v. add_variable (one x)) a a'
        → StateDoes (catalogue k m u t) (λ v. name_range (catalogue k m u t) r) a a'
    unfolding name_range
    one_named z {x} i d =
        let q : range_name (catalogue k m u t) r ≡ x = range_name_held k m u t r ∙ sym i in
        does_same (at_catalogue d) (λ v s. rw q (parts_none (catalogue k m u t) x (non_matching (catalogue k m u t) r) s (omega (arith, ltb-false 0 (length (non_matching (catalogue k m u t) r)) (sym e ∙ z)))))

    pub rest_named : b ≡ true → StateDoes (catalogue k m u t) (λ v. fold (naming_of (catalogue k m u t) Tracked) (parts_for (catalogue k m u t) (Chosen r NonMatching))) a a'
        → StateDoes (catalogue k m u t) (λ v. name_range (catalogue k m u t) r) a a'
    unfolding name_range
    rest_named z d =
        let c = catalogue k m u t in
        does_same d (λ v s. rw (non_matching_parts c r) (parts_some c (range_name c r) (non_matching c r) s (λ y. omega (arith, ltb-true 0 (length (non_matching c r)) (sym e ∙ z)))))
