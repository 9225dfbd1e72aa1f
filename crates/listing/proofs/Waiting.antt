-- The lines of the entries that wait.
use mathlib.Core.Path.{◌≡◌, refl, ap, sym, ◌∙◌}
use mathlib.Core.Bool.{true, false, false≢true}
use mathlib.Core.List.{List, [], ◌∷◌, map, append-nil}
use mathlib.Core.Option.{Option, none, some}
use Prim.Native.Nat.{ℕ, ◌<◌}
use native.Mathlib.Omega.{arith}
use lib.ListN.{length, get_or}
use borrow.Author.Tests.{eqb-true, eq-eqb}
use Rattle.rules.specs.Lists.{filter, concat_map, up_to}
use Rattle.rules.specs.Catalogue.{Requirement, Catalogue, no_requirement, requirement_at, condition_at}
use Rattle.rules.specs.Conditions.{disjuncts, disjuncts_if, is_condition, disjuncts_of, disjunct_at}
use Rattle.rules.specs.Listing.{ascii, decimal, line, owner_field, goal_fields, waiting_line, waiting_lines}
use Rattle.rules.proofs.Each.{Each, each_at}
use Rattle.rules.proofs.Valid.{Entry}
use Rattle.text.specs.Text.{fields}
use Rattle.text.specs.declared.Writer.{Writer}
use Rattle.text.specs.Writing.{Writes}
use Rattle.text.proofs.Writing.{fields_first, fields_then, line_is, nothing}
use Rattle.requirement.specs.declared.ConditionalRequirement.{ConditionalRequirement}
use Rattle.requirement.specs.Requirements.{owner_is, goal_of, condition_is, requirement_is}
use Rattle.tables.specs.declared.Counts.{Counts}
use Rattle.tables.specs.declared.Tables.{Tables}
use Rattle.tables.specs.Tables.{tables}
use Rattle.tables.specs.Views.{tables_of}
use Rattle.cache.specs.Areas.{catalogue}
use Rattle.cache.proofs.Laws.{conditions_same, requirement_held}
use Rattle.state.specs.declared.Limits.{Limits}
use Rattle.entries.specs.declared.Entry as entries
use Rattle.entries.specs.Entries.{no_entry, entry_of, waiting_in}
use Rattle.encoder.proofs.Frames.{waiting_counted}
use Rattle.goals.specs.Goals.{AllGiven}
use Rattle.line_fields.specs.Listed.{entry_fields, entry_text, condition_text, texts}
use Rattle.listing.specs.Chains.{is_under}

-- ---- an entry's fields and its line

module _ {w w1 w2 w3 : Writer} where
  pub entry_fields_law : (q : ConditionalRequirement) (rs : List ℕ) → Writes w w1 (fields (owner_field (owner_is q.owner) ∷ []))
      → Writes w1 w2 (fields (goal_fields (goal_of q.requirement))) → Writes w2 w3 (fields (map decimal rs)) → Writes w w3 (fields (entry_fields (requirement_is q) rs))
  unfolding entry_fields requirement_is
  entry_fields_law q rs u v x = fields_then (_ ∷ []) _ u (fields_then (goal_fields (goal_of q.requirement)) _ v x)

  pub entry_line : {w4 : Writer} (q : Requirement) (rs : List ℕ) (c : ℕ) → Writes w w1 (119 ∷ []) → Writes w1 w2 (32 ∷ decimal c)
      → Writes w2 w3 (fields (entry_fields q rs)) → Writes w3 w4 (10 ∷ []) → Writes w w4 (line (ascii "w" ∷ decimal c ∷ entry_fields q rs))
  unfolding ascii
  entry_line q rs c t u v x = line_is _ t (fields_first _ u v) x

-- ---- the line of one entry under a condition

module _ (c : Catalogue) (k q : ℕ) where
  same_disjuncts : condition_at c q ≡ some k → disjuncts_of c q ≡ disjuncts c.conditions k
  unfolding disjuncts_of disjuncts_if
  same_disjuncts e = ap (disjuncts_if c.conditions) e

  printed : (d : ℕ) → condition_at c q ≡ some k → waiting_line c k (q, d) ≡ line (ascii "w" ∷ decimal k ∷ entry_fields (requirement_at c q) (get_or (disjuncts c.conditions k) d []))
  unfolding waiting_line entry_fields disjunct_at
  printed d e = rw (same_disjuncts e)

  alone : (d : ℕ) (bytes : List ℕ) → condition_at c q ≡ some k → waiting_line c k (q, d) ≡ bytes → waiting_lines c ((q, d) ∷ []) k ≡ bytes
  unfolding waiting_lines filter concat_map
  alone d bytes e f = rw (e, eq-eqb k k refl, filter, concat_map, append-nil) f

  one_entry : (d : ℕ) → condition_at c q ≡ some k
      → waiting_lines c ((q, d) ∷ []) k ≡ line (ascii "w" ∷ decimal k ∷ entry_fields (requirement_at c q) (get_or (disjuncts c.conditions k) d []))
  one_entry d e = alone d _ e (printed d e)

  no_entry_law : (d : ℕ) → is_condition k (condition_at c q) ≡ false → waiting_lines c ((q, d) ∷ []) k ≡ []
  unfolding waiting_lines filter concat_map
  no_entry_law d e = rw (e, filter, concat_map)

module _ (k : Counts) (m u t : List ℕ) (x : entries.Entry) (q : ConditionalRequirement) (d : requirement_is q ≡ get_or (tables k t).requirements x.requirement no_requirement) where
  named : requirement_at (catalogue k m u t) x.requirement ≡ requirement_is q
  named = requirement_held k m u t x.requirement ∙ sym d

  pub condition_named : condition_at (catalogue k m u t) x.requirement ≡ condition_is q.condition
  unfolding requirement_is
  condition_named = ap (λ (r : Requirement). r.condition) named

  pub under : {w w1 : Writer} {rs : List ℕ} (c : ℕ) → rs ≡ get_or (disjuncts (tables k t).conditions c) x.disjunct [] → condition_at (catalogue k m u t) x.requirement ≡ some c
      → Writes w w1 (line (ascii "w" ∷ decimal c ∷ entry_fields (requirement_is q) rs)) → Writes w w1 (waiting_lines (catalogue k m u t) (entry_of x ∷ []) c)
  unfolding entry_of
  under c g z f = rw (one_entry (catalogue k m u t) c x.requirement x.disjunct z, named, conditions_same k m u t, ← g) f

-- the disjunct is one of the condition's, since the entry is given
pub entry_disjunct : (k : Counts) (m u t : List ℕ) (x : entries.Entry) (c : ℕ) → condition_at (catalogue k m u t) x.requirement ≡ some c
    → AllGiven (catalogue k m u t) (entry_of x ∷ []) → x.disjunct < length (disjuncts (tables k t).conditions c)
unfolding entry_of
entry_disjunct k m u t x c z a =
    let s : Entry (catalogue k m u t) (entry_of x) = each_at a.given 0 no_entry (omega arith) in
    rw (same_disjuncts (catalogue k m u t) c x.requirement z, conditions_same k m u t) at s.disjunct

-- in other tables that are the same
pub disjunct_there : {ts ts' : Tables} (c i : ℕ) → ts ≡ ts' → i < length (disjuncts (tables_of ts').conditions c) → i < length (disjuncts (tables_of ts).conditions c)
disjunct_there c i e h = rw (sym e) at h

-- ---- entry i

under_is : (k : ℕ) (o : Option ℕ) → is_condition k o ≡ true → o ≡ some k
under_is k none e = absurd (false≢true e)
under_is k (some j) e = ap some (eqb-true j k e)

module _ (c : Catalogue) (l : Limits) (n : ℕ) (wt : List ℕ) (i : ℕ) (x : entries.Entry) (e : entry_of x ≡ get_or (waiting_in l n wt) i no_entry) where
  pub entry_given : AllGiven c (waiting_in l n wt) → i < n → AllGiven c (entry_of x ∷ [])
  entry_given a h = record { given = Each.cons {x = entry_of x} (rw e (each_at a.given i no_entry (rw (waiting_counted l n wt) h))) Each.nil }

  pub entry_under : (k : ℕ) → is_under c (waiting_in l n wt) k i ≡ true → condition_at c x.requirement ≡ some k
  unfolding is_under entry_of
  entry_under k h = under_is k _ (rw (← e) at h)

  pub waiting_line_law : {w w1 : Writer} (k : ℕ) → Writes w w1 (waiting_lines c (entry_of x ∷ []) k)
      → Writes w w1 (entry_text c (waiting_in l n wt) k i)
  unfolding entry_text
  waiting_line_law k v = rw (← e) v

-- another entry has no line under the condition
pub no_line : (c : Catalogue) (es : List (ℕ × ℕ)) (k i : ℕ) → is_under c es k i ≡ false → entry_text c es k i ≡ []
unfolding is_under entry_text
no_line c es k i e = no_entry_law c k (get_or es i no_entry).0 (get_or es i no_entry).1 e

-- ---- no entry

no_lines : (c : Catalogue) (es : List (ℕ × ℕ)) (ks : List ℕ) → concat_map (condition_text c es 0) ks ≡ []
unfolding concat_map condition_text texts up_to
no_lines c es [] = refl
no_lines c es (k ∷ ks) = no_lines c es ks

-- where none waits nothing is printed
pub none_waiting : (c : Catalogue) (es : List (ℕ × ℕ)) (n conditions : ℕ) {w : Writer} → n ≡ 0 → Writes w w (texts (condition_text c es n) conditions)
unfolding texts
none_waiting c es n conditions {w} e = rw (e, no_lines c es (up_to 0 conditions)) (nothing w)
