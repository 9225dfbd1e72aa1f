-- Laws of a writer, for those who write: one piece behind another, stopped; the pieces of a line.
use mathlib.Core.Path.{◌≡◌, refl, ap, sym, ◌∙◌}
use mathlib.Core.Bool.{Bool, true}
use mathlib.Core.List.{List, [], ◌∷◌, ◌++◌, append_assoc, append-nil}
use Prim.Native.Nat.{ℕ, ◌+◌, ◌-◌, ◌≤◌}
use native.Mathlib.Omega.{arith}
use lib.Dec.{ltb}
use lib.ListN.{length}
use borrow.Author.Tests.{ltb-true}
use Rattle.rules.specs.Lists.{concat_map}
use Rattle.rules.specs.Listing.{line}
use Rattle.text.specs.Text.{Wrote, fields}
use Rattle.text.specs.declared.Writer.{Writer}
use Rattle.text.specs.Writing.{Writes, writes, Stands}
use Rattle.text.proofs.Written as written

module _ {w w1 : Writer} {bs : List ℕ} where
  pub wrote : Writes w w1 bs → Wrote w.at w1.at bs w.room w.out.now w1.out.now
  wrote (writes e d f) = f

  pub same_room : Writes w w1 bs → w1.room ≡ w.room
  same_room (writes e d f) = e

  pub same_reference : Writes w w1 bs → w1.out.ghost_name ≡ w.out.ghost_name
  same_reference (writes e d f) = d

-- ---- one behind another

pub nothing : (w : Writer) → Writes w w []
nothing w = writes refl refl (written.nothing w.room w.at w.out.now)

module _ {w w1 : Writer} {us : List ℕ} where
  pub then : {w2 : Writer} {vs : List ℕ} → Writes w w1 us → Writes w1 w2 vs → Writes w w2 (us ++ vs)
  then (writes e d f) (writes h g i) = writes (h ∙ e) (g ∙ d) (written.then f (rw e at i))

  -- once over, no byte more counts
  pub stopped : {b : Bool} (vs : List ℕ) → Writes w w1 us → b ≡ ltb w1.room w1.at → b ≡ true → Writes w w1 (us ++ vs)
  stopped vs (writes e d f) g h = writes e d (written.stopped vs f (rw e at (ltb-true w1.room w1.at (sym g ∙ h))))

-- ---- what stands already

pub onward : {w w1 : Writer} {us : List ℕ} → Writes w w1 us → w.at ≤ w1.at
onward f = written.onward (wrote f)

-- writing goes on behind it
pub stands_still : {w w1 : Writer} {bs us : List ℕ} {begin n : ℕ} → Stands bs w begin n → Writes w w1 us → Stands bs w1 begin n
stands_still {begin = begin} s f = record {
  counted = s.counted;
  before = omega (arith, s.before, onward f);
  bytes = λ i h l. written.before_kept (begin + i) (wrote f) (omega (arith, s.before)) ∙ s.bytes i h (omega (arith, written.same_length (wrote f)));
}

-- what was just written, if all of it fitted
pub stands_new : {w w1 : Writer} {bs : List ℕ} → Writes w w1 bs → w1.at ≤ w1.room → Stands bs w1 w.at (w1.at - w.at)
stands_new {w} {w1} {bs} f h =
    let fits : w1.at ≡ w.at + length bs = written.fitted (wrote f) (omega (arith, same_room f)) in
    record {
      counted = omega (arith, fits);
      before = omega (arith, onward f);
      bytes = λ i l m. written.there i (wrote f) (omega (arith, same_room f)) (omega (arith, fits)) (omega (arith, written.same_length (wrote f)));
    }

-- ---- fields and lines

line_of : (f : List ℕ) (fs : List (List ℕ)) → line (f ∷ fs) ≡ f ++ (fields fs ++ (10 ∷ []))
unfolding line fields concat_map
line_of f [] = refl
line_of f (g ∷ fs) = ap (λ (l : List ℕ). f ++ (32 ∷ l)) (line_of g fs ∙ sym (append_assoc g (fields fs) (10 ∷ [])))

fields_append : (fs gs : List (List ℕ)) → fields (fs ++ gs) ≡ fields fs ++ fields gs
unfolding fields concat_map
fields_append [] gs = refl
fields_append (f ∷ fs) gs = ap (λ (l : List ℕ). 32 ∷ l) (ap (λ (l : List ℕ). f ++ l) (fields_append fs gs) ∙ sym (append_assoc f (fields fs) (fields gs)))

module _ {w w1 : Writer} {f : List ℕ} where
  pub fields_one : Writes w w1 (32 ∷ f) → Writes w w1 (fields (f ∷ []))
  unfolding fields concat_map
  fields_one v = rw append-nil v

  module _ {w2 : Writer} (fs : List (List ℕ)) where
    pub fields_first : Writes w w1 (32 ∷ f) → Writes w1 w2 (fields fs) → Writes w w2 (fields (f ∷ fs))
    unfolding fields concat_map
    fields_first u v = then u v

    pub line_is : {w3 : Writer} → Writes w w1 f → Writes w1 w2 (fields fs) → Writes w2 w3 (10 ∷ []) → Writes w w3 (line (f ∷ fs))
    line_is u v x = rw (line_of f fs) (then u (then v x))

pub fields_then : {w w1 w2 : Writer} (fs gs : List (List ℕ)) → Writes w w1 (fields fs) → Writes w1 w2 (fields gs) → Writes w w2 (fields (fs ++ gs))
fields_then fs gs u v = rw (fields_append fs gs) (then u v)
