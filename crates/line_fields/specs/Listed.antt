-- What the listing prints of a state's areas, line by line.
use Rattle.std.specs.Prelude.{cond, List, [], ◌∷◌, ◌++◌, map, ℕ, ◌+◌, ◌*◌, ◌≤◌, length, get_or}
use Rattle.rules.specs.Lists.{concat_map, list_if, up_to}
use Rattle.rules.specs.Literal.{pos}
use Rattle.rules.specs.Clause.{Clause, install, asserted}
use Rattle.rules.specs.Catalogue.{root, Requirement, Catalogue}
use Rattle.rules.specs.Decisions.{Decision}
use Rattle.rules.specs.Variables.{Origin, chosen, part_variable}
use Rattle.rules.specs.Listing.{ascii, decimal, signed, line, owner_field, goal_fields, origin_fields, clause_field, decision_line, clause_fields, waiting_lines, listing}
use Rattle.rules.proofs.Each.{Each}
use Rattle.text.specs.Text.{Wrote, fields}
use Rattle.cache.specs.declared.Choice.{Choice}
use Rattle.cache.specs.Lists as cache
use Rattle.state.specs.declared.Limits.{Limits}
use Rattle.variable_map.specs.Mapping.{variables}
use Rattle.decision_tracker.specs.Tracking.{decisions, no_decision}
use Rattle.marked.specs.Marked.{listed, owner_of}
use Rattle.entries.specs.Entries.{no_entry, waiting_in}
use Rattle.solver.specs.Rows.{Row, no_row, rows}
use Rattle.encoder.specs.declared.Counters.{Counters}
use Rattle.encoder.specs.declared.state_ref.StateRef.{StateRef}
use Rattle.encoder.specs.Held.{Reading, literal_in, clauses_in, conflict_if, state_of, Sound}
use Rattle.encoder.specs.StateRefs.{regions_at}

-- ---- fields

unfoldable pub decision_fields : Decision → List (List ℕ)
decision_fields d = decimal d.variable ∷ decimal (cond d.value 1 0) ∷ decimal d.level ∷ clause_field d.clause ∷ []

unfoldable pub entry_fields : Requirement → List ℕ → List (List ℕ)
entry_fields q rs = owner_field q.owner ∷ (goal_fields q.goal ++ map decimal rs)

-- a positive literal for each part
unfoldable pub part_text : List Origin → List ℕ → List ℕ
part_text vs ps = fields (map signed (map pos (map (part_variable vs) ps)))

-- ---- what a loop prints in its turn i, and in n turns

unfoldable pub texts : (ℕ → List ℕ) → ℕ → List ℕ
texts t n = concat_map t (up_to 0 n)

unfoldable pub chosen_text : Catalogue → List Origin → ℕ → Choice → ℕ → List ℕ
chosen_text c vs r w p = part_text vs (list_if (cache.chosen c r w p) (p ∷ []))

unfoldable pub literal_text : List ℕ → ℕ → ℕ → List ℕ
literal_text w start j = 32 ∷ signed (literal_in (get_or w (start + j) 0))

unfoldable pub number_text : List ℕ → ℕ → List ℕ
number_text xs j = 32 ∷ decimal (get_or xs j 0)

unfoldable pub variable_text : List Origin → ℕ → List ℕ
variable_text vs i = line (ascii "v" ∷ decimal i ∷ origin_fields (get_or vs i (chosen root)))

unfoldable pub clause_text : Catalogue → List Clause → ℕ → List ℕ
clause_text c ks i = line (ascii "c" ∷ decimal i ∷ clause_fields c (get_or ks i install))

unfoldable pub owner_text : List ℕ → ℕ → List ℕ
owner_text os i = line (ascii "o" ∷ owner_field (owner_of (get_or os i 0)) ∷ [])

unfoldable pub name_text : List ℕ → ℕ → List ℕ
name_text ns i = line (ascii "p" ∷ decimal (get_or ns i 0) ∷ [])

unfoldable pub conflict_lines : List (ℕ × ℕ) → List ℕ
conflict_lines es = concat_map (λ (e : ℕ × ℕ). line (ascii "x" ∷ decimal e.0 ∷ decimal e.1 ∷ [])) es

unfoldable pub conflict_text : List Row → ℕ → List ℕ
conflict_text rs i = conflict_lines (conflict_if (get_or rs i no_row).conflict i)

unfoldable pub assertion_text : List Clause → ℕ → List ℕ
assertion_text ks i = concat_map (λ x. line (ascii "n" ∷ decimal x ∷ decimal i ∷ [])) (asserted (get_or ks i install))

unfoldable pub decision_text : List Decision → ℕ → List ℕ
decision_text ds i = decision_line (get_or ds i no_decision)

-- of the entries that wait: the line of entry i under condition k, and all of the first n under it
unfoldable pub entry_text : Catalogue → List (ℕ × ℕ) → ℕ → ℕ → List ℕ
entry_text c es k i = waiting_lines c (get_or es i no_entry ∷ []) k

unfoldable pub condition_text : Catalogue → List (ℕ × ℕ) → ℕ → ℕ → List ℕ
condition_text c es n k = texts (entry_text c es k) n

-- the waiting entries of a state
abbrev pub entries_waiting : StateRef → (wt : List ℕ) → List (ℕ × ℕ)
entries_waiting x wt = waiting_in x.limits x.used.waiting wt

-- ---- the whole

module _ (c : Catalogue) (n : Counters) (st : ℕ → List ℕ) (cl : List ℕ) where
  unfoldable pub clauses_of : List Clause
  clauses_of = clauses_in c (variables n.variables st) (st 19) (rows n.clauses cl)

  unfoldable pub first_half : List ℕ
  first_half =
      ((texts (variable_text (variables n.variables st)) n.variables ++ texts (clause_text c clauses_of) n.clauses)
      ++ texts (owner_text (listed n.owners 1 st)) n.owners)
      ++ texts (name_text (listed n.names 3 st)) n.names

  unfoldable pub clause_notes : List ℕ
  clause_notes = texts (conflict_text (rows n.clauses cl)) n.clauses ++ texts (assertion_text clauses_of) n.clauses

-- the stored clauses of a state
abbrev pub clauses_stored : Catalogue → StateRef → (cl : List ℕ) → List Clause
clauses_stored c x cl = clauses_of c x.used (regions_at x) cl

unfoldable pub state_notes : Catalogue → (conditions : ℕ) → Limits → Counters → (ℕ → List ℕ) → (wt : List ℕ) → List ℕ
state_notes c conditions l n st wt =
    texts (decision_text (decisions n.decisions st)) n.decisions ++ texts (condition_text c (waiting_in l n.waiting wt) n.waiting) conditions

unfoldable pub second_half : Catalogue → (conditions : ℕ) → Limits → Counters → (ℕ → List ℕ) → (cl wt : List ℕ) → List ℕ
second_half c conditions l n st cl wt = clause_notes c n st cl ++ state_notes c conditions l n st wt

-- ---- what the functions ask for and give

-- the stored rows can be printed
pub record GoodRows (c : Catalogue) (l : Limits) (n : Counters) (st : ℕ → List ℕ) (cl : List ℕ) : Type 0 where
  pub few : n.clauses ≤ 16384
  pub long : n.clauses * 20 ≤ length cl
  pub literals : n.literals ≤ l.literals
  pub sound : Each (Sound c (variables n.variables st) n.literals) (rows n.clauses cl)

-- the same of a state's rows
abbrev pub HasGoodRows : Catalogue → StateRef → (cl : List ℕ) → Type 0
HasGoodRows c x cl = GoodRows c x.limits x.used (regions_at x) cl

-- the listing of the state was written, whatever the tasks of a run are read by
pub record Lists (c : Catalogue) (l : Limits) (n : Counters) (st : ℕ → List ℕ) (cl wt : List ℕ) (room r : ℕ) (out out' : List ℕ) : Type 0 where
  pub is : (v : Reading) → Wrote 0 r (listing c (state_of c l v n st cl wt)) room out out'

-- the same of this state
abbrev pub IsListed : Catalogue → StateRef → (cl wt : List ℕ) → (room r : ℕ) → (out out' : List ℕ) → Type 0
IsListed c x cl wt room r out out' = Lists c x.limits x.used (regions_at x) cl wt room r out out'
