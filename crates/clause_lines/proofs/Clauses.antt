-- The fields of a stored row, by its kind; and its line.
use mathlib.Core.Path.{◌≡◌, ap, sym, ◌∙◌}
use mathlib.Core.Bool.{Bool, true, false}
use mathlib.Core.List.{List, [], ◌∷◌, map, map-append}
use Prim.Native.Nat.{ℕ, ◌+◌, ◌<◌, ◌≤◌}
use native.Mathlib.Omega.{arith}
use lib.ListN.{length, get_or, get_or-map}
use Rattle.rules.specs.Clause as rules
use Rattle.rules.specs.Clause.{install, literals}
use Rattle.rules.specs.Catalogue.{Part, Catalogue, no_part, part_at, exclusion_reason}
use Rattle.rules.specs.Candidates.{candidates}
use Rattle.rules.specs.Literal.{pos}
use Rattle.rules.specs.Variables.{Origin, known, part_origin, part_variable}
use Rattle.rules.specs.Listing.{ascii, decimal, signed, reason_number, word_fields, clause_fields}
use Rattle.rules.proofs.Each.{Each, each_at}
use Rattle.clause.specs.declared.Literal.{Literal}
use Rattle.clause.specs.Literals as clause
use Rattle.text.specs.Text.{fields, literal_of}
use Rattle.text.specs.declared.Writer.{Writer}
use Rattle.text.specs.Writing.{Writes}
use Rattle.text.proofs.Writing.{fields_first, fields_then, line_is}
use Rattle.requirement.specs.declared.Requirement.{Requirement}
use Rattle.requirement.specs.Requirements.{goal_of}
use Rattle.tables.specs.declared.Counts.{Counts}
use Rattle.tables.specs.Tables.{tables}
use Rattle.tables.proofs.Listed.{listed_length}
use Rattle.cache.specs.Areas.{catalogue}
use Rattle.cache.proofs.Laws.{part_held}
use Rattle.state.specs.declared.Limits.{Limits}
use Rattle.variable_map.specs.Mapping.{variables, AllKnown}
use Rattle.solver.specs.declared.Clause.{Clause}
use Rattle.solver.specs.declared.Clause.TheVariants as clauses
use Rattle.solver.specs.declared.Stored.{Stored}
use Rattle.solver.specs.Clauses.{Says}
use Rattle.solver.specs.Rows.{Row, no_row, row_of, rows}
use Rattle.encoder.specs.declared.Counters.{Counters}
use Rattle.encoder.specs.Clauses.{candidate_variables, clause_is}
use Rattle.encoder.specs.Held.{literals_in, clause_in, clauses_in, Sound}
use Rattle.encoder.proofs.Clauses.{says_clause, says_sound, requires_sound, gated_sound}
use Rattle.line_fields.specs.Listed.{part_text, clause_text, clauses_of, GoodRows}
use Rattle.line_fields.proofs.Fields.{two_fields}
use Rattle.clause_lines.specs.Spans.{goal_text}

-- ---- what holds of a clause that was read from a sound row

module _ {c : Catalogue} {vs : List Origin} {m : ℕ} {r : Row} (s : Sound c vs m r) {k : Clause} (y : Says k r) where
  module _ (o start count : ℕ) (g : Requirement) (e : k ≡ clauses.Requires o start count g) where
    required : (start + count ≤ m) × Each (λ p. known vs (part_origin p) ≡ true) (candidates c (goal_of g))
    required = requires_sound g o start count r.conflict (rw e at (says_sound r s k y))

    pub stored_within : (l : ℕ) → m ≤ l → start + count ≤ l
    stored_within l h = omega (arith, required.0)

    pub requires_known : AllKnown vs (candidates c (goal_of g))
    requires_known = record { known = required.1 }

  pub gated_known : (x : ℕ) (g : Requirement) → k ≡ clauses.Gated x g → AllKnown vs (candidates c (goal_of g))
  gated_known x g e = record { known = gated_sound g x r.conflict (rw e at (says_sound r s k y)) }

-- ---- fields by clause

is : (c : Catalogue) (vs : List Origin) (w : List ℕ) (r : Row) {k : Clause} → Says k r → (j : Clause) → k ≡ j → clause_in c vs w r ≡ clause_is c vs w j
is c vs w r {k} y j e = says_clause c vs w k r y ∙ ap (clause_is c vs w) e

module _ (c : Catalogue) (vs : List Origin) (w : List ℕ) (r : Row) {k : Clause} (y : Says k r) {a b : Writer} where
  module _ {d : Writer} where
    pub install_fields : k ≡ clauses.Install → Writes a b (32 ∷ 105 ∷ 110 ∷ 115 ∷ 116 ∷ 97 ∷ 108 ∷ 108 ∷ []) → Writes b d (32 ∷ signed (literal_of 0 true))
        → Writes a d (fields (clause_fields c (clause_in c vs w r)))
    unfolding clause_fields word_fields clause_is literals ascii
    install_fields e f g = rw (is c vs w r y _ e) (two_fields f g)

    pub requires_fields : (o start count : ℕ) (g : Requirement) → k ≡ clauses.Requires o start count g
        → Writes a b (fields (ascii "requires" ∷ signed (literal_of o false) ∷ map signed (literals_in w start count)))
        → Writes b d (goal_text c vs g) → Writes a d (fields (clause_fields c (clause_in c vs w r)))
    unfolding clause_fields word_fields clause_is literals candidate_variables part_text goal_text
    requires_fields o start count g e f h =
        rw (is c vs w r y _ e, map-append signed (literals_in w start count) (map pos (map (part_variable vs) (candidates c (goal_of g)))))
        (fields_then (ascii "requires" ∷ signed (literal_of o false) ∷ map signed (literals_in w start count)) _ f h)

    pub gated_fields : (x : ℕ) (g : Requirement) → k ≡ clauses.Gated x g → Writes a b (fields (ascii "requires" ∷ signed (literal_of x false) ∷ []))
        → Writes b d (goal_text c vs g) → Writes a d (fields (clause_fields c (clause_in c vs w r)))
    unfolding clause_fields word_fields clause_is literals candidate_variables part_text goal_text
    gated_fields x g e f h = rw (is c vs w r y _ e) (fields_then (_ ∷ _ ∷ []) _ f h)

  pub constrains_fields : (o x : ℕ) → k ≡ clauses.Constrains o x
      → Writes a b (fields ((99 ∷ 111 ∷ 110 ∷ 115 ∷ 116 ∷ 114 ∷ 97 ∷ 105 ∷ 110 ∷ 115 ∷ []) ∷ signed (literal_of o false) ∷ signed (literal_of x false) ∷ []))
      → Writes a b (fields (clause_fields c (clause_in c vs w r)))
  unfolding clause_fields word_fields clause_is literals ascii
  constrains_fields o x e f = rw (is c vs w r y _ e) f

  pub forbid_fields : (x : ℕ) (h : Literal) (v : ℕ) (t : Bool) → k ≡ clauses.Forbid x h → v ≡ (clause.literal_of h).variable → t ≡ (clause.literal_of h).positive
      → Writes a b (fields ((102 ∷ 111 ∷ 114 ∷ 98 ∷ 105 ∷ 100 ∷ []) ∷ signed (literal_of x false) ∷ signed (literal_of v t) ∷ []))
      → Writes a b (fields (clause_fields c (clause_in c vs w r)))
  unfolding clause_fields word_fields clause_is literals ascii clause.literal_of clause.signed
  forbid_fields x h v t e p q f = rw (is c vs w r y _ e) (rw (p, q) at f)

  pub out_fields : (x v : ℕ) → k ≡ clauses.AuxOut x v
      → Writes a b (fields ((97 ∷ 117 ∷ 120 ∷ 45 ∷ 111 ∷ 117 ∷ 116 ∷ []) ∷ signed (literal_of x false) ∷ signed (literal_of v true) ∷ []))
      → Writes a b (fields (clause_fields c (clause_in c vs w r)))
  unfolding clause_fields word_fields clause_is literals ascii
  out_fields x v e f = rw (is c vs w r y _ e) f

  pub owner_fields : (o v : ℕ) → k ≡ clauses.AuxOwner o v
      → Writes a b (fields ((97 ∷ 117 ∷ 120 ∷ 45 ∷ 111 ∷ 119 ∷ 110 ∷ 101 ∷ 114 ∷ []) ∷ signed (literal_of o false) ∷ signed (literal_of v false) ∷ []))
      → Writes a b (fields (clause_fields c (clause_in c vs w r)))
  unfolding clause_fields word_fields clause_is literals ascii
  owner_fields o v e f = rw (is c vs w r y _ e) f

  pub lock_fields : (x : ℕ) → k ≡ clauses.Lock x → Writes a b (fields ((108 ∷ 111 ∷ 99 ∷ 107 ∷ []) ∷ signed (literal_of 0 false) ∷ signed (literal_of x false) ∷ []))
      → Writes a b (fields (clause_fields c (clause_in c vs w r)))
  unfolding clause_fields word_fields clause_is literals ascii
  lock_fields x e f = rw (is c vs w r y _ e) f

  module _ (x z : ℕ) (f : Writes a b (fields ((97 ∷ 110 ∷ 121 ∷ []) ∷ signed (literal_of x true) ∷ signed (literal_of z false) ∷ []))) where
    pub gate_fields : k ≡ clauses.AnyGate x z → Writes a b (fields (clause_fields c (clause_in c vs w r)))
    unfolding clause_fields word_fields clause_is literals ascii
    gate_fields e = rw (is c vs w r y _ e) f

    pub one_fields : k ≡ clauses.AnyOne x z → Writes a b (fields (clause_fields c (clause_in c vs w r)))
    unfolding clause_fields word_fields clause_is literals ascii
    one_fields e = rw (is c vs w r y _ e) f

-- ---- an exclusion, with its reason from the tables

module _ (k : Counts) (m u t : List ℕ) (vs : List Origin) (w : List ℕ) (r : Row) {j : Clause} (y : Says j r) (x p v : ℕ) {a b : Writer}
    (f : Writes a b (fields (ascii "excluded" ∷ decimal v ∷ signed (literal_of x false) ∷ []))) where
  pub excluded_fields : j ≡ clauses.Excluded x p → v ≡ (get_or (tables k t).parts p no_part).exclusion_reason
      → Writes a b (fields (clause_fields (catalogue k m u t) (clause_in (catalogue k m u t) vs w r)))
  unfolding clause_fields word_fields clause_is literals reason_number exclusion_reason
  excluded_fields e d =
      let z : v ≡ exclusion_reason (catalogue k m u t) p = d ∙ sym (ap (λ (q : Part). q.exclusion_reason) (part_held k m u t p)) in
      rw (is (catalogue k m u t) vs w r y _ e) (rw z at f)

  pub unknown_fields : j ≡ clauses.Unknown x p → v ≡ (get_or (tables k t).parts p no_part).unknown_reason
      → Writes a b (fields (clause_fields (catalogue k m u t) (clause_in (catalogue k m u t) vs w r)))
  unfolding clause_fields word_fields clause_is literals reason_number
  unknown_fields e d =
      let z : v ≡ (part_at (catalogue k m u t) p).unknown_reason = d ∙ sym (ap (λ (q : Part). q.unknown_reason) (part_held k m u t p)) in
      rw (is (catalogue k m u t) vs w r y _ e) (rw z at f)

-- ---- the row at place i

pub rows_counted : (n : ℕ) (cl : List ℕ) → length (rows n cl) ≡ n
unfolding rows
rows_counted n cl = listed_length n _

module _ (c : Catalogue) (n : Counters) (st : ℕ → List ℕ) (cl : List ℕ) (i : ℕ) (x : Stored) (e : row_of x ≡ get_or (rows n.clauses cl) i no_row) where
  pub clause_at : get_or (clauses_of c n st cl) i install ≡ clause_in c (variables n.variables st) (st 19) (row_of x)
  unfolding clauses_of clauses_in clause_in
  clause_at = rw e (get_or-map (clause_in c (variables n.variables st) (st 19)) (rows n.clauses cl) i no_row)

  pub row_sound : (l : Limits) → GoodRows c l n st cl → i < n.clauses → Sound c (variables n.variables st) n.literals (row_of x)
  row_sound l g h = rw e (each_at g.sound i no_row (rw (rows_counted n.clauses cl) h))

  pub row_fields : {a b : Writer} → Writes a b (fields (clause_fields c (clause_in c (variables n.variables st) (st 19) (row_of x))))
      → Writes a b (fields (clause_fields c (get_or (clauses_of c n st cl) i install)))
  row_fields w = rw clause_at w

pub clause_line : (c : Catalogue) (ks : List rules.Clause) (i : ℕ) {w w1 w2 w3 w4 : Writer} → Writes w w1 (99 ∷ []) → Writes w1 w2 (32 ∷ decimal i)
    → Writes w2 w3 (fields (clause_fields c (get_or ks i install))) → Writes w3 w4 (10 ∷ []) → Writes w w4 (clause_text c ks i)
unfolding clause_text ascii
clause_line c ks i t u v x = line_is _ t (fields_first _ u v) x
