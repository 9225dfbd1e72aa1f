-- The first candidate of a range: found along its members, and named for tracking unless one of its name was.
use mathlib.Core.Path.{◌≡◌, refl, sym, ◌∙◌, ap}
use mathlib.Core.Bool.{Bool, true, false}
use mathlib.Core.List.{List, [], ◌∷◌, ◌++◌}
use Prim.Native.Nat.{ℕ, ◌+◌, ◌<◌, ◌≤◌}
use native.Mathlib.Numerals.{add-one}
use native.Mathlib.Omega.{arith}
use lib.ListN.{length, get_or, set, take, replicate, length-replicate, get_or-eq_default}
use lib.Seq.{take_all, take-suc, set_out}
use Rattle.rules.specs.Lists.{fold, unless}
use Rattle.rules.specs.Catalogue.{Catalogue, range_name}
use Rattle.rules.specs.Candidates.{matching}
use Rattle.rules.specs.Opening.{Opening, name_for_tracking}
use Rattle.rules.specs.State.{set_opening}
use Rattle.rules.proofs.DistinctEnough.{fold_append}
use Rattle.tables.specs.declared.Counts.{Counts}
use Rattle.tables.specs.Tables.{tables}
use Rattle.cache.specs.declared.Choice.TheVariants.{Matching}
use Rattle.cache.specs.Areas.{catalogue}
use Rattle.cache.specs.Lists.{chosen}
use Rattle.cache.proofs.Laws.{range_name_held}
use Rattle.index.specs.Chains.{Skips}
use Rattle.index.proofs.Walking.{walk}
use Rattle.marked.specs.Marked.{listed, Marked}
use Rattle.marked.proofs.Laws.{length_listed}
use Rattle.encoder.specs.declared.State as encoder
use Rattle.encoder.specs.Did.{on_opening}
use Rattle.encoder.specs.Does.{StateDoes, IsGood, regions_of}
use Rattle.encoder.proofs.Does.{does_same, does_none, does_then, good_then}
use Rattle.goals.proofs.Parts.{onward, onward_start, onward_here, onward_past, onward_end}
use Rattle.naming.specs.Naming.{FirstOf, name_first, is_seen, first_unless, seen_by, seen_after, NamesFirst, name_firsts}
use Rattle.naming.proofs.Loops.{same_hand}

-- the loop at part p: no matching part stands before it
pub record Searching (c : Catalogue) (r p : ℕ) : Type 0 where
  pub is : onward c r p ≡ matching c r

module _ (k : Counts) (m u t : List ℕ) (r : ℕ) where
  past : (p : ℕ) → p < k.parts → chosen (catalogue k m u t) r Matching p ≡ false → Searching (catalogue k m u t) r p → Searching (catalogue k m u t) r (p + 1)
  past p h e x = record { is = sym (onward_past k m u t r p h e) ∙ x.is }

  onwards : {p x : ℕ} → Skips k.parts (chosen (catalogue k m u t) r Matching) p x → Searching (catalogue k m u t) r p → Searching (catalogue k m u t) r x
  onwards s y = walk (Searching (catalogue k m u t) r) past s y

  pub search_first : {x : ℕ} → Skips k.parts (chosen (catalogue k m u t) r Matching) 0 x → Searching (catalogue k m u t) r x
  search_first s = onwards s (record { is = onward_start k m u t r })

  pub search_next : {p x : ℕ} → Searching (catalogue k m u t) r p → (b : Bool) → p < k.parts → b ≡ chosen (catalogue k m u t) r Matching p → b ≡ false
      → Skips k.parts (chosen (catalogue k m u t) r Matching) (p + 1) x → Searching (catalogue k m u t) r x
  search_next {p} y b h e d s = onwards s (past p h (sym e ∙ d) y)

  pub search_found : {p : ℕ} → Searching (catalogue k m u t) r p → (b : Bool) → p < k.parts → b ≡ chosen (catalogue k m u t) r Matching p → b ≡ true
      → FirstOf (matching (catalogue k m u t) r) k.parts p
  search_found {p} y b h e d =
      record {
        some = λ _. (onward (catalogue k m u t) r (p + 1), sym y.is ∙ onward_here k m u t r p h (sym e ∙ d));
        none = λ z. absurd (omega arith);
      }

  pub search_none : {p : ℕ} → Searching (catalogue k m u t) r p → k.parts ≤ p → FirstOf (matching (catalogue k m u t) r) k.parts p
  search_none {p} y h = record { some = λ z. absurd (omega arith); none = λ _. sym y.is ∙ onward_end k m u t r p h }

-- ---- flags of names

pub seen_past : (seen : List Bool) (i : ℕ) → length seen ≤ i → false ≡ is_seen seen i
unfolding is_seen
seen_past seen i h = rw (get_or-eq_default seen false h)

pub set_past : (seen : List Bool) (i : ℕ) → length seen ≤ i → seen ≡ set seen i true
set_past seen i h = sym (set_out seen i true h)

-- ---- it is named, unless one of its name was

name_is : (k : Counts) (m u t : List ℕ) (r : ℕ) {x : ℕ} → x ≡ get_or (tables k t).ranges r 0 → range_name (catalogue k m u t) r ≡ x
name_is k m u t r e = range_name_held k m u t r ∙ sym e

module _ (k : Counts) (m u t : List ℕ) (r : ℕ) {x : ℕ} (e : x ≡ get_or (tables k t).ranges r 0) (seen : List Bool) {b : Bool} (d : b ≡ is_seen seen x) where
  pub first_seen : b ≡ true → {a : encoder.State} → NamesFirst (catalogue k m u t) r seen a seen a
  first_seen h =
      record {
        did = does_none (λ v s. unfold on_opening first_unless unless in rw (name_is k m u t r e, ← d, h));
        flags = unfold seen_after unless in rw (name_is k m u t r e, ← d, h);
      }

  module _ (h : b ≡ false) {p : ℕ} (f : FirstOf (matching (catalogue k m u t) r) k.parts p) where
    pub first_named : p < k.parts → {a a' : encoder.State} {seen' : List Bool} → seen' ≡ set seen x true
        → StateDoes (catalogue k m u t) (λ v. on_opening (name_for_tracking (catalogue k m u t) p)) a a'
        → NamesFirst (catalogue k m u t) r seen a seen' a'
    first_named low g d' =
        record {
          did = does_same d' (λ v s. unfold on_opening first_unless name_first unless in rw (name_is k m u t r e, ← d, h, (f.some low).1));
          flags = unfold seen_after seen_by unless in rw (name_is k m u t r e, ← d, h, (f.some low).1) g;
        }

    pub none_named : k.parts ≤ p → {a : encoder.State} → NamesFirst (catalogue k m u t) r seen a seen a
    none_named high =
        record {
          did = does_none (λ v s. unfold on_opening first_unless name_first unless in rw (name_is k m u t r e, ← d, h, f.none high));
          flags = unfold seen_after seen_by unless in rw (name_is k m u t r e, ← d, h, f.none high);
        }

-- ---- one range after another

-- the flags after these ranges
unfoldable pub seen_of : Catalogue → List ℕ → List Bool → List Bool
seen_of c rs seen = fold (seen_after c) rs seen

firsts_more : (c : Catalogue) (rs : List ℕ) (r : ℕ) (seen : List Bool) (o : Opening)
    → name_firsts c (rs ++ (r ∷ [])) seen o ≡ first_unless c (seen_of c rs seen) r (name_firsts c rs seen o)
unfolding name_firsts seen_of fold
firsts_more c [] r seen o = refl
firsts_more c (x ∷ rs) r seen o = firsts_more c rs r (seen_after c x seen) (first_unless c seen x o)

seen_more : (c : Catalogue) (rs : List ℕ) (r : ℕ) (seen : List Bool) → seen_of c (rs ++ (r ∷ [])) seen ≡ seen_after c r (seen_of c rs seen)
unfolding seen_of fold
seen_more c rs r seen = fold_append (seen_after c) rs (r ∷ []) seen

-- the first j ranges were passed
pub record FirstsPassed (c : Catalogue) (ranges : ℕ) (x₀ x : encoder.State) (seen : List Bool) (j : ℕ) : Type 0 where
  pub within : j ≤ ranges
  pub good : IsGood c x
  pub long : length seen ≡ 64
  pub flags : seen ≡ seen_of c (take j (listed ranges 14 (regions_of x₀))) (replicate 64 false)
  pub did : StateDoes c (λ v. on_opening (name_firsts c (take j (listed ranges 14 (regions_of x₀))) (replicate 64 false))) x₀ x

module _ {c : Catalogue} {ranges : ℕ} {x₀ : encoder.State} where
  pub firsts_start : IsGood c x₀ → FirstsPassed c ranges x₀ x₀ (replicate 64 false) 0
  firsts_start g =
      record {
        within = omega arith;
        good = g;
        long = length-replicate {A = Bool} 64 false;
        flags = unfold seen_of fold in refl;
        did = does_none (λ v s. unfold on_opening name_firsts in refl);
      }

  module _ {x : encoder.State} {seen : List Bool} {j : ℕ} (p : FirstsPassed c ranges x₀ x seen j) (g : IsGood c x₀) (k : Marked 14 15 ranges (regions_of x₀)) where
    pub firsts_step : {x' : encoder.State} {seen' : List Bool} (y : ℕ) → y ≡ get_or (listed ranges 14 (regions_of x)) j 0 → j < ranges → length seen' ≡ length seen
        → NamesFirst c y seen x seen' x' → FirstsPassed c ranges x₀ x' seen' (j + 1)
    firsts_step y e h w d =
        let xs = listed ranges 14 (regions_of x₀) in
        let here : y ≡ get_or xs j 0 = e ∙ ap (λ (ys : List ℕ). get_or ys j 0) (same_hand p.did g k) in
        let more : take (j + 1) xs ≡ take j xs ++ (y ∷ []) = rw (add-one j, take-suc xs j 0 (rw (length_listed k) h), here) in
        record {
          within = omega arith;
          good = good_then d.did p.good;
          long = w ∙ p.long;
          flags = rw more (d.flags ∙ rw p.flags (sym (seen_more c (take j xs) y (replicate 64 false))));
          did = does_same (does_then p.did d.did)
              (λ v t. rw more (unfold on_opening in rw p.flags (ap (λ o. set_opening o t) (sym (firsts_more c (take j xs) y (replicate 64 false) t.opening)))));
        }

    pub firsts_end : ranges ≤ j → StateDoes c (λ v. on_opening (name_firsts c (listed ranges 14 (regions_of x₀)) (replicate 64 false))) x₀ x
    firsts_end h = does_same p.did (λ v t. rw (take_all j (listed ranges 14 (regions_of x₀)) (rw (length_listed k) h)))
