-- Condition literals as they are stored, and the ranges of a disjunct.
use mathlib.Core.Path.{◌≡◌, refl, sym, ◌∙◌}
use mathlib.Core.Bool.{Bool}
use mathlib.Core.List.{List, ◌∷◌, map}
use Prim.Native.Nat.{ℕ, ◌+◌, ◌≤◌}
use native.Mathlib.Omega.{arith}
use lib.ListN.{length, get_or, take, drop, length-drop}
use lib.Seq.{get_or-take, get_or-drop, length-take-le}
use Rattle.rules.specs.Listing.{decimal}
use Rattle.rules.specs.Listing as listing
use Rattle.clause.specs.Literals.{literal_of, signed}
use Rattle.text.specs.Text.{fields}
use Rattle.text.specs.declared.Writer.{Writer}
use Rattle.text.specs.Writing.{Writes}
use Rattle.text.specs.Text as text
use Rattle.regions.specs.Regions.{size_of}
use Rattle.state.specs.declared.Limits.{Limits}
use Rattle.state.specs.Layout.{sizes, held, Fits}
use Rattle.state.proofs.Changed.{length_held}
use Rattle.encoder.specs.Held.{literal_in, literals_in}
use Rattle.line_fields.specs.Listed.{texts, literal_text, number_text}
use Rattle.line_fields.proofs.Printing.{printing_end, each_is, concat_map_map}

-- ---- condition literals

pub literal_field : {w w1 : Writer} (codes : List ℕ) (start j y x : ℕ) (b : Bool) → y ≡ get_or codes (start + j) 0 → x ≡ (literal_of (record { code = y })).variable
    → b ≡ (literal_of (record { code = y })).positive → Writes w w1 (32 ∷ listing.signed (text.literal_of x b)) → Writes w w1 (literal_text codes start j)
unfolding literal_text literal_in literal_of signed
literal_field codes start j y x b e f g v = rw (← e, ← f, ← g) v

literals_text : (w : List ℕ) (start count : ℕ) → start + count ≤ length w → texts (literal_text w start) count ≡ fields (map listing.signed (literals_in w start count))
unfolding literals_in fields
literals_text w start count h =
    each_is (λ x. 32 ∷ listing.signed (literal_in x)) (literal_text w start) 0 (take count (drop start w)) count
    (length-take-le count (drop start w) (rw length-drop (omega arith)))
    (λ i l. unfold literal_text in rw (get_or-take count (drop start w) i 0 (omega (arith, length-take-le count (drop start w) (rw length-drop (omega arith)))), get_or-drop))
    ∙ sym (concat_map_map (λ f. 32 ∷ f) listing.signed (map literal_in (take count (drop start w))) ∙ concat_map_map (λ x. 32 ∷ listing.signed x) literal_in (take count (drop start w)))

pub literals_end : (l : Limits) (b : List ℕ) (start count : ℕ) {w w1 : Writer} → Fits l (length b) → start + count ≤ l.literals
    → Writes w w1 (texts (literal_text (held l b 19) start) count) → Writes w w1 (fields (map listing.signed (literals_in (held l b 19) start count)))
literals_end l b start count f h g =
    let long : length (held l b 19) ≡ l.literals = length_held l b 19 f ∙ unfold size_of sizes in refl in
    rw (← literals_text (held l b 19) start count (omega arith)) g

-- ---- a list of numbers, as a disjunct's ranges

numbers_text : (xs : List ℕ) → texts (number_text xs) (length xs) ≡ fields (map decimal xs)
unfolding fields
numbers_text xs =
    each_is (λ x. 32 ∷ decimal x) (number_text xs) 0 xs (length xs) refl (λ i h. unfold number_text in refl)
    ∙ sym (concat_map_map (λ f. 32 ∷ f) decimal xs)

module _ {w w1 : Writer} (xs : List ℕ) where
  pub number_text_law : (j x : ℕ) → x ≡ get_or xs j 0 → Writes w w1 (32 ∷ decimal x) → Writes w w1 (number_text xs j)
  unfolding number_text
  number_text_law j x e f = rw (← e) f

  pub numbers_end : {ys : List ℕ} {j : ℕ} → xs ≡ ys → Writes w w1 (texts (number_text xs) j) → j ≤ length xs → length xs ≤ j → Writes w w1 (fields (map decimal ys))
  numbers_end e f g h = rw (← e, ← numbers_text xs) (printing_end _ f h g)
