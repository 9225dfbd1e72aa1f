-- The literals of a range's parts, in the order of the clause: the favoured ones of them first.
use mathlib.Core.Path.{◌≡◌, refl, ap, sym, ◌∙◌}
use mathlib.Core.Bool.{Bool, true, false}
use mathlib.Core.List.{List, [], ◌∷◌, ◌++◌}
use Prim.Native.Nat.{ℕ, ◌+◌, ◌<◌, ◌≤◌}
use native.Mathlib.Omega.{arith}
use lib.ListN.{length}
use borrow.Author.Tests.{lt-ltb}
use Rattle.rules.specs.Lists.{filter, concat_map, list_if, up_to}
use Rattle.rules.specs.Literal.{pos}
use Rattle.rules.specs.Catalogue.{Catalogue}
use Rattle.rules.specs.Candidates.{sorted}
use Rattle.rules.specs.Variables.{Origin, known, part_origin, part_variable}
use Rattle.rules.specs.Listing.{signed}
use Rattle.rules.proofs.Bools.{by_cases}
use Rattle.rules.proofs.Each.{each_out, each_left, each_right}
use Rattle.rules.proofs.Membership.{filter_in}
use Rattle.rules.proofs.ListLaws.{concat_map_append, up_to_member}
use Rattle.text.specs.Text.{fields, literal_of}
use Rattle.text.specs.declared.Writer.{Writer}
use Rattle.text.specs.Writing.{Writes}
use Rattle.text.proofs.Writing.{then, nothing, fields_one}
use Rattle.tables.specs.declared.Counts.{Counts}
use Rattle.cache.specs.declared.Choice.{Choice}
use Rattle.cache.specs.declared.Choice.TheVariants.{Favoured, Others}
use Rattle.cache.specs.Areas.{catalogue}
use Rattle.cache.specs.Lists.{chosen, choice}
use Rattle.cache.proofs.Laws.{parts_held}
use Rattle.cache.proofs.Lists.{sorted_is}
use Rattle.index.specs.Chains.{Skips}
use Rattle.index.specs.Indexed.{Indexed}
use Rattle.index.proofs.Walking.{walk}
use Rattle.variable_map.specs.Mapping.{in_tables, AllKnown}
use Rattle.encoder.specs.Did.{Looked}
use Rattle.line_fields.specs.Listed.{texts, part_text, chosen_text}
use Rattle.line_fields.proofs.Printing.{printing_start, printing_step, printing_end}

-- ---- the literals of parts

module _ (vs : List Origin) where
  abbrev one : ℕ → List ℕ
  one p = 32 ∷ signed (pos (part_variable vs p))

  parts_each : (ps : List ℕ) → part_text vs ps ≡ concat_map one ps
  unfolding part_text fields concat_map
  parts_each [] = refl
  parts_each (p ∷ ps) = ap (λ (l : List ℕ). one p ++ l) (parts_each ps)

  pub parts_append : (ps qs : List ℕ) → part_text vs (ps ++ qs) ≡ part_text vs ps ++ part_text vs qs
  parts_append ps qs = rw (parts_each (ps ++ qs), parts_each ps, parts_each qs) (concat_map_append one ps qs)

  pub parts_none : part_text vs [] ≡ []
  unfolding concat_map
  parts_none = parts_each []

  -- one part after another, if it passes
  filtered : (f : ℕ → Bool) (ps : List ℕ) → concat_map (λ p. part_text vs (list_if (f p) (p ∷ []))) ps ≡ part_text vs (filter f ps)
  unfolding concat_map filter list_if
  filtered f [] = sym parts_none
  filtered f (p ∷ ps) = by_cases (f p)
      (λ e. rw (e, list_if, filter, filtered f ps) (sym (parts_append (p ∷ []) (filter f ps))))
      (λ e. rw (e, list_if, filter, filtered f ps, parts_none))

pub part_in_tables : (k : Counts) (m u t : List ℕ) (p : ℕ) → Indexed k m u t → p < k.parts → in_tables (part_origin p) ≡ true
unfolding in_tables
part_in_tables k m u t p f h = lt-ltb p 1024 (omega (arith, f.held.laid.parts))

-- ---- a choice among the parts of a range's name

module _ (k : Counts) (m u t : List ℕ) (vs : List Origin) (r : ℕ) (w : Choice) where
  part_known : (p : ℕ) → AllKnown vs (choice (catalogue k m u t) r w) → p < k.parts → chosen (catalogue k m u t) r w p ≡ true → known vs (part_origin p) ≡ true
  unfolding choice
  part_known p a h e =
      each_out a.known (filter_in (chosen (catalogue k m u t) r w) (up_to 0 (length (catalogue k m u t).parts))
      (up_to_member (length (catalogue k m u t).parts) p (omega (arith, parts_held k m u t))) e)

  pub chosen_yes : {a b : Writer} (p : ℕ) (y : Bool) (v : ℕ) → AllKnown vs (choice (catalogue k m u t) r w) → p < k.parts → y ≡ chosen (catalogue k m u t) r w p → y ≡ true
      → Looked vs (part_origin p) v → Writes a b (32 ∷ signed (literal_of v true)) → Writes a b (chosen_text (catalogue k m u t) vs r w p)
  unfolding chosen_text list_if part_text
  chosen_yes p y v a h e d g i =
      let q : chosen (catalogue k m u t) r w p ≡ true = sym e ∙ d in
      let z : v ≡ part_variable vs p = g.is (part_known p a h q) in
      rw (q, list_if, ← z) (fields_one i)

  pub chosen_no : (a : Writer) (p : ℕ) (y : Bool) → y ≡ chosen (catalogue k m u t) r w p → y ≡ false → Writes a a (chosen_text (catalogue k m u t) vs r w p)
  unfolding chosen_text list_if
  chosen_no a p y e d = rw (← e, d, list_if, parts_none vs) (nothing a)

  -- the first p turns
  abbrev turns : ℕ → List ℕ
  turns p = texts (chosen_text (catalogue k m u t) vs r w) p

  chosen_on : {a b : Writer} {p x : ℕ} → Skips k.parts (chosen (catalogue k m u t) r w) p x → Writes a b (turns p) → Writes a b (turns x)
  chosen_on {a} {b} s y =
      walk (λ q. Writes a b (turns q)) (λ i h e z. printing_step _ z (chosen_no b i (chosen (catalogue k m u t) r w i) refl e)) s y

  pub chosen_first : {a : Writer} {x : ℕ} → Skips k.parts (chosen (catalogue k m u t) r w) 0 x → Writes a a (turns x)
  chosen_first s = chosen_on s (printing_start _)

  pub chosen_next : {a b d : Writer} (p : ℕ) {x : ℕ} → Writes a b (turns p) → Writes b d (chosen_text (catalogue k m u t) vs r w p)
      → Skips k.parts (chosen (catalogue k m u t) r w) (p + 1) x → Writes a d (turns x)
  chosen_next p y g s = chosen_on s (printing_step _ y g)

  pub chosen_end : {a b : Writer} {p : ℕ} → Writes a b (turns p) → p ≤ k.parts → k.parts ≤ p → Writes a b (part_text vs (choice (catalogue k m u t) r w))
  unfolding choice texts chosen_text
  chosen_end f g h =
      rw (← filtered vs (chosen (catalogue k m u t) r w) (up_to 0 (length (catalogue k m u t).parts)), parts_held k m u t) (printing_end _ f h g)

-- ---- the two choices of a range, one behind the other

module _ (c : Catalogue) (vs : List Origin) (r : ℕ) where
  pub known_favoured : AllKnown vs (sorted c r) → AllKnown vs (choice c r Favoured)
  known_favoured a = record { known = each_left (choice c r Favoured) (choice c r Others) (rw (← sorted_is c r) at a.known) }

  pub known_others : AllKnown vs (sorted c r) → AllKnown vs (choice c r Others)
  known_others a = record { known = each_right (choice c r Favoured) (rw (← sorted_is c r) at a.known) }

  pub sorted_text : {a b d : Writer} → Writes a b (part_text vs (choice c r Favoured)) → Writes b d (part_text vs (choice c r Others)) → Writes a d (part_text vs (sorted c r))
  sorted_text v w = rw (← sorted_is c r, parts_append vs (choice c r Favoured) (choice c r Others)) (then v w)
