-- The two halves of a listing, and that they are the listing.
use mathlib.Core.Path.{◌≡◌, refl, sym, ◌∙◌}
use mathlib.Core.List.{List, [], ◌∷◌, ◌++◌, map, append_assoc, append-nil}
use Prim.Native.Nat.{ℕ, suc, ◌≤◌}
use native.Mathlib.Omega.{arith}
use lib.ListN.{length}
use Rattle.rules.specs.Lists.{filter, concat_map, up_to}
use Rattle.rules.specs.Clause.{Clause, install, asserted}
use Rattle.rules.specs.Catalogue.{root, Catalogue, condition_at}
use Rattle.rules.specs.Conditions.{is_condition}
use Rattle.rules.specs.Variables.{Origin, chosen}
use Rattle.rules.specs.Listing.{ascii, decimal, line, numbered, owner_field, origin_fields, clause_fields, decision_line, assertions, waiting_lines, listing}
use Rattle.rules.proofs.Bools.{by_cases}
use Rattle.rules.proofs.ListLaws.{concat_map_append}
use Rattle.text.specs.declared.Writer.{Writer}
use Rattle.text.specs.Writing.{Writes}
use Rattle.text.proofs.Writing.{wrote, then}
use Rattle.tables.specs.declared.Counts.{Counts}
use Rattle.cache.specs.Areas.{catalogue}
use Rattle.cache.proofs.Laws.{conditions_held}
use Rattle.state.specs.declared.Limits.{Limits}
use Rattle.state.specs.Layout.{held}
use Rattle.variable_map.specs.Mapping.{variables}
use Rattle.variable_map.proofs.Laws as variables
use Rattle.decision_tracker.specs.Tracking.{decisions, no_decision}
use Rattle.decision_tracker.proofs.Laws as decisions
use Rattle.marked.specs.Marked.{listed, owner_of}
use Rattle.marked.proofs.Laws.{length_listed}
use Rattle.entries.specs.Entries.{no_entry, waiting_in, Long}
use Rattle.solver.specs.Rows.{Row, no_row, rows}
use Rattle.encoder.specs.declared.Counters.{Counters}
use Rattle.encoder.specs.Held.{Reading, conflict_if, conflicts_from, opening_of, state_of, Good, LongEnough}
use Rattle.encoder.proofs.Frames.{clauses_counted, waiting_counted}
use Rattle.line_fields.specs.Listed.{texts, variable_text, clause_text, owner_text, name_text, conflict_lines, conflict_text, assertion_text, decision_text, entry_text, condition_text, clauses_of, first_half, clause_notes, state_notes, second_half, GoodRows, Lists}
use Rattle.line_fields.proofs.Printing.{indexed, indexed_is, each_is, concat_map_map}
use Rattle.clause_lines.proofs.Clauses.{rows_counted}

-- ---- the lists of the definitions, place by place

numbered_is : {A : Type 0} (w : List ℕ) (f : A → List (List ℕ)) (i : ℕ) (xs : List A) → indexed (λ j x. line (w ∷ decimal j ∷ f x)) i xs ≡ numbered w f i xs
unfolding indexed numbered
numbered_is w f i [] = refl
numbered_is w f i (x ∷ xs) = rw (numbered_is w f (suc i) xs)

assertions_is : (i : ℕ) (ks : List Clause) → indexed (λ j k. concat_map (λ x. line (ascii "n" ∷ decimal x ∷ decimal j ∷ [])) (asserted k)) i ks ≡ assertions i ks
unfolding indexed assertions
assertions_is i [] = refl
assertions_is i (k ∷ ks) = rw (assertions_is (suc i) ks)

conflicts_is : (i : ℕ) (rs : List Row) → indexed (λ j r. conflict_lines (conflict_if r.conflict j)) i rs ≡ conflict_lines (conflicts_from i rs)
unfolding indexed conflicts_from conflict_lines concat_map
conflicts_is i [] = refl
conflicts_is i (r ∷ rs) = rw (conflicts_is (suc i) rs) (sym (concat_map_append _ (conflict_if r.conflict i) (conflicts_from (suc i) rs)))

entries_is : (c : Catalogue) (k : ℕ) (es : List (ℕ × ℕ)) → concat_map (λ e. waiting_lines c (e ∷ []) k) es ≡ waiting_lines c es k
unfolding concat_map waiting_lines filter
entries_is c k [] = refl
entries_is c k (e ∷ es) = by_cases (is_condition k (condition_at c e.0))
    (λ q. rw (q, filter, concat_map, append-nil, entries_is c k es))
    (λ q. rw (q, filter, concat_map, entries_is c k es))

regroup : (a b c d e f g h : List ℕ) → (((a ++ b) ++ c) ++ d) ++ ((e ++ f) ++ (g ++ h)) ≡ a ++ (b ++ (c ++ (d ++ (e ++ (f ++ (g ++ h))))))
regroup a b c d e f g h = simp append_assoc

concat_map_same : {A : Type 0} (f g : A → List ℕ) → ((x : A) → f x ≡ g x) → (xs : List A) → concat_map f xs ≡ concat_map g xs
unfolding concat_map
concat_map_same f g h [] = refl
concat_map_same f g h (x ∷ xs) = rw (h x, concat_map_same f g h xs)

module _ (c : Catalogue) (l : Limits) (n : Counters) (st : ℕ → List ℕ) (cl wt : List ℕ) where
  variables_text : texts (variable_text (variables n.variables st)) n.variables ≡ numbered (ascii "v") origin_fields 0 (variables n.variables st)
  variables_text =
      indexed_is (λ (i : ℕ) (x : Origin). line (ascii "v" ∷ decimal i ∷ origin_fields x)) (variable_text (variables n.variables st)) (chosen root) (variables n.variables st) n.variables (variables.count n.variables st)
      (λ i h. unfold variable_text in refl)
      ∙ numbered_is (ascii "v") origin_fields 0 (variables n.variables st)

  clauses_text : texts (clause_text c (clauses_of c n st cl)) n.clauses ≡ numbered (ascii "c") (clause_fields c) 0 (clauses_of c n st cl)
  clauses_text =
      indexed_is (λ (i : ℕ) (k : Clause). line (ascii "c" ∷ decimal i ∷ clause_fields c k)) (clause_text c (clauses_of c n st cl)) install (clauses_of c n st cl) n.clauses (unfold clauses_of in clauses_counted c _ _ n.clauses cl)
      (λ i h. unfold clause_text in refl)
      ∙ numbered_is (ascii "c") (clause_fields c) 0 (clauses_of c n st cl)

  owners_text : length (listed n.owners 1 st) ≡ n.owners
      → texts (owner_text (listed n.owners 1 st)) n.owners ≡ concat_map (λ o. line (ascii "o" ∷ owner_field o ∷ [])) (map owner_of (listed n.owners 1 st))
  owners_text e =
      each_is (λ (x : ℕ). line (ascii "o" ∷ owner_field (owner_of x) ∷ [])) (owner_text (listed n.owners 1 st)) 0 (listed n.owners 1 st) n.owners e (λ i h. unfold owner_text in refl)
      ∙ sym (concat_map_map (λ o. line (ascii "o" ∷ owner_field o ∷ [])) owner_of (listed n.owners 1 st))

  names_text : length (listed n.names 3 st) ≡ n.names
      → texts (name_text (listed n.names 3 st)) n.names ≡ concat_map (λ x. line (ascii "p" ∷ decimal x ∷ [])) (listed n.names 3 st)
  names_text e = each_is (λ (x : ℕ). line (ascii "p" ∷ decimal x ∷ [])) (name_text (listed n.names 3 st)) 0 (listed n.names 3 st) n.names e (λ i h. unfold name_text in refl)

  conflicts_text : texts (conflict_text (rows n.clauses cl)) n.clauses ≡ conflict_lines (conflicts_from 0 (rows n.clauses cl))
  conflicts_text =
      indexed_is (λ (i : ℕ) (r : Row). conflict_lines (conflict_if r.conflict i)) (conflict_text (rows n.clauses cl)) no_row (rows n.clauses cl) n.clauses (rows_counted n.clauses cl) (λ i h. unfold conflict_text in refl)
      ∙ conflicts_is 0 (rows n.clauses cl)

  assertions_text : texts (assertion_text (clauses_of c n st cl)) n.clauses ≡ assertions 0 (clauses_of c n st cl)
  assertions_text =
      indexed_is (λ (i : ℕ) (k : Clause). concat_map (λ x. line (ascii "n" ∷ decimal x ∷ decimal i ∷ [])) (asserted k)) (assertion_text (clauses_of c n st cl)) install (clauses_of c n st cl) n.clauses (unfold clauses_of in clauses_counted c _ _ n.clauses cl)
      (λ i h. unfold assertion_text in refl)
      ∙ assertions_is 0 (clauses_of c n st cl)

  decisions_text : texts (decision_text (decisions n.decisions st)) n.decisions ≡ concat_map decision_line (decisions n.decisions st)
  decisions_text =
      each_is decision_line (decision_text (decisions n.decisions st)) no_decision (decisions n.decisions st) n.decisions (decisions.count n.decisions st)
      (λ i h. unfold decision_text in refl)

  condition_text_law : (k : ℕ) → condition_text c (waiting_in l n.waiting wt) n.waiting k ≡ waiting_lines c (waiting_in l n.waiting wt) k
  unfolding condition_text
  condition_text_law k =
      each_is (λ e. waiting_lines c (e ∷ []) k) (entry_text c (waiting_in l n.waiting wt) k) no_entry (waiting_in l n.waiting wt) n.waiting (waiting_counted l n.waiting wt)
      (λ i h. unfold entry_text in refl)
      ∙ entries_is c k (waiting_in l n.waiting wt)

  conditions_text : (k : ℕ) → texts (condition_text c (waiting_in l n.waiting wt) n.waiting) k ≡ concat_map (waiting_lines c (waiting_in l n.waiting wt)) (up_to 0 k)
  unfolding texts
  conditions_text k = concat_map_same (condition_text c (waiting_in l n.waiting wt) n.waiting) (waiting_lines c (waiting_in l n.waiting wt)) condition_text_law (up_to 0 k)

-- ---- the halves

module _ {w w1 w2 w3 w4 : Writer} where
  pub first_half_law : (c : Catalogue) (n : Counters) (st : ℕ → List ℕ) (cl : List ℕ) → Writes w w1 (texts (variable_text (variables n.variables st)) n.variables)
      → Writes w1 w2 (texts (clause_text c (clauses_of c n st cl)) n.clauses) → Writes w2 w3 (texts (owner_text (listed n.owners 1 st)) n.owners)
      → Writes w3 w4 (texts (name_text (listed n.names 3 st)) n.names) → Writes w w4 (first_half c n st cl)
  unfolding first_half
  first_half_law c n st cl u v x y = then (then (then u v) x) y

module _ {w w1 w2 : Writer} (c : Catalogue) (n : Counters) (st : ℕ → List ℕ) where
  pub clause_notes_law : (cl : List ℕ) → Writes w w1 (texts (conflict_text (rows n.clauses cl)) n.clauses)
      → Writes w1 w2 (texts (assertion_text (clauses_of c n st cl)) n.clauses) → Writes w w2 (clause_notes c n st cl)
  unfolding clause_notes
  clause_notes_law cl u v = then u v

  module _ (conditions : ℕ) (l : Limits) (wt : List ℕ) where
    pub state_notes_law : Writes w w1 (texts (decision_text (decisions n.decisions st)) n.decisions)
        → Writes w1 w2 (texts (condition_text c (waiting_in l n.waiting wt) n.waiting) conditions) → Writes w w2 (state_notes c conditions l n st wt)
    unfolding state_notes
    state_notes_law u v = then u v

    pub second_half_law : (cl : List ℕ) → Writes w w1 (clause_notes c n st cl) → Writes w1 w2 (state_notes c conditions l n st wt)
        → Writes w w2 (second_half c conditions l n st cl wt)
    unfolding second_half
    second_half_law cl u v = then u v

-- ---- the whole

pub decisions_fit : {c : Catalogue} {l : Limits} {n : Counters} {st : ℕ → List ℕ} {cl wt : List ℕ} → Good c l n st cl wt → n.decisions ≤ l.variables
decisions_fit g = g.state.kept.room

pub waiting_long : {l : Limits} {x y : ℕ} → LongEnough l x y → Long l y
waiting_long e = record { waiting = e.waiting; long = e.entries }

module _ (k : Counts) (m u t : List ℕ) (l : Limits) (n : Counters) (b cl wt : List ℕ) where
  pub good_rows : LongEnough l (length cl) (length wt) → Good (catalogue k m u t) l n (held l b) cl wt → GoodRows (catalogue k m u t) l n (held l b) cl
  good_rows e g =
      record { few = omega (arith, g.clauses.room, e.most); long = omega (arith, g.clauses.room, e.clauses); literals = g.state.literals; sound = g.clauses.sound }

  module _ (g : Good (catalogue k m u t) l n (held l b) cl wt) where
    first_is : first_half (catalogue k m u t) n (held l b) cl
        ≡ ((numbered (ascii "v") origin_fields 0 (variables n.variables (held l b))
        ++ numbered (ascii "c") (clause_fields (catalogue k m u t)) 0 (clauses_of (catalogue k m u t) n (held l b) cl))
        ++ concat_map (λ o. line (ascii "o" ∷ owner_field o ∷ [])) (map owner_of (listed n.owners 1 (held l b))))
        ++ concat_map (λ x. line (ascii "p" ∷ decimal x ∷ [])) (listed n.names 3 (held l b))
    unfolding first_half
    first_is =
        rw (
          variables_text (catalogue k m u t) l n (held l b) cl wt,
          clauses_text (catalogue k m u t) l n (held l b) cl wt,
          owners_text (catalogue k m u t) l n (held l b) cl wt (length_listed g.state.owners),
          names_text (catalogue k m u t) l n (held l b) cl wt (length_listed g.state.names),
        )

    second_is : second_half (catalogue k m u t) k.conditions l n (held l b) cl wt
        ≡ (conflict_lines (conflicts_from 0 (rows n.clauses cl)) ++ assertions 0 (clauses_of (catalogue k m u t) n (held l b) cl))
        ++ (concat_map decision_line (decisions n.decisions (held l b))
        ++ concat_map (waiting_lines (catalogue k m u t) (waiting_in l n.waiting wt)) (up_to 0 k.conditions))
    unfolding second_half clause_notes state_notes
    second_is =
        rw (
          conflicts_text (catalogue k m u t) l n (held l b) cl wt,
          assertions_text (catalogue k m u t) l n (held l b) cl wt,
          decisions_text (catalogue k m u t) l n (held l b) cl wt,
          conditions_text (catalogue k m u t) l n (held l b) cl wt k.conditions,
        )

    halves_are : (v : Reading) → first_half (catalogue k m u t) n (held l b) cl ++ second_half (catalogue k m u t) k.conditions l n (held l b) cl wt
        ≡ listing (catalogue k m u t) (state_of (catalogue k m u t) l v n (held l b) cl wt)
    unfolding listing state_of opening_of conflict_lines clauses_of
    halves_are v = rw (first_is, second_is, conditions_held k m u t) (regroup
        (numbered (ascii "v") origin_fields 0 (variables n.variables (held l b)))
        (numbered (ascii "c") (clause_fields (catalogue k m u t)) 0 (clauses_of (catalogue k m u t) n (held l b) cl))
        (concat_map (λ o. line (ascii "o" ∷ owner_field o ∷ [])) (map owner_of (listed n.owners 1 (held l b))))
        (concat_map (λ x. line (ascii "p" ∷ decimal x ∷ [])) (listed n.names 3 (held l b)))
        (conflict_lines (conflicts_from 0 (rows n.clauses cl)))
        (assertions 0 (clauses_of (catalogue k m u t) n (held l b) cl))
        (concat_map decision_line (decisions n.decisions (held l b)))
        (concat_map (waiting_lines (catalogue k m u t) (waiting_in l n.waiting wt)) (up_to 0 k.conditions)))

    -- by a writer that begins at the start of an area
    pub whole : {w w1 w2 : Writer} (room : ℕ) {o o' : List ℕ} → w.at ≡ 0 → w.room ≡ room → w.out.now ≡ o → w2.out.now ≡ o'
        → Writes w w1 (first_half (catalogue k m u t) n (held l b) cl) → Writes w1 w2 (second_half (catalogue k m u t) k.conditions l n (held l b) cl wt)
        → Lists (catalogue k m u t) l n (held l b) cl wt room w2.at o o'
    whole room e d f h x y = record { is = λ v. rw (← halves_are v) (rw (e, d, f, h) at (wrote (then x y))) }
