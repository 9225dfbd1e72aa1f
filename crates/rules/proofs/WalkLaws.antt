-- The walk over a job's records: one record at a time, past the end, and after a refusal; and what a step of `run` or `check` does with a
-- record while the catalogue is read.
use mathlib.Core.Path.{◌≡◌, refl, sym, ◌∙◌, ap}
use mathlib.Core.Bool.{Bool, true, false, not, ◌&&◌, false≢true}
use mathlib.Core.List.{List, [], ◌∷◌}
use mathlib.Core.Option.{Option, none, some}
use Prim.Native.Nat.{ℕ, zero, suc, ◌+◌, ◌<◌, ◌≤◌}
use native.Mathlib.Omega.{arith}
use native.Mathlib.Nat.{add-zero}
use native.Mathlib.Numerals.{add-one}
use lib.Dec.{ltb}
use lib.ListN.{length, get_or, take, drop, drop_of_length-le}
use lib.Seq.{drop-cons, drop-drop}
use borrow.Author.Tests.{ltb-false}
use Rattle.rules.specs.Compute.{computing}
use Rattle.rules.specs.Truth.{same}
use Rattle.rules.specs.Lists.{all}
use Rattle.rules.proofs.KindTable.{not_one, looked_up}
use Rattle.rules.specs.Catalogue.{Catalogue}
use Rattle.rules.specs.Refusals.{Refusal, ok, refuse, number_and_place}
use Rattle.rules.specs.Records.{Kind, kinds, kind_of, of_sheet, Item, Command, Record, catalogue, sheet, record_of, read_body, read_kind, read}
use Rattle.rules.specs.Items.{add_item}
use Rattle.rules.specs.State.{start}
use Rattle.rules.specs.Limits.{Terms}
use Rattle.rules.specs.Job.{Progress, reading, carrying, stopped, body_of, walk, after_item, after_record, run_step, starts_sheet, check_by, check_step}

-- ---- the walk

module _ (step : ℕ → ℕ → List ℕ → Progress → Progress) where
  -- bytes of the record before
  walk_skip : (skip at : ℕ) (bs : List ℕ) (p : Progress) → walk step skip at bs p ≡ walk step 0 (at + skip) (drop skip bs) p
  unfolding walk
  walk_skip zero at bs p = rw (add-zero at)
  walk_skip (suc skip) at [] p = refl
  walk_skip (suc skip) at (b ∷ bs) p =
      let q : suc at + skip ≡ at + suc skip = omega arith in
      walk_skip skip (suc at) bs p ∙ rw q

  -- one record: its kind, and then past its body
  pub walk_record : (job : List ℕ) (at : ℕ) (p : Progress) → at < length job
      → walk step 0 at (drop at job) p
      ≡ walk step 0 (at + 1 + body_of (kind_of (get_or job at 0))) (drop (at + 1 + body_of (kind_of (get_or job at 0))) job)
      (step at (get_or job at 0) (drop (at + 1) job) p)
  unfolding walk
  walk_record job at p h =
      ap (λ (bs : List ℕ). walk step 0 at bs p) (drop-cons job at 0 h)
      ∙ walk_skip (body_of (kind_of (get_or job at 0))) (suc at) (drop (suc at) job) (step at (get_or job at 0) (drop (suc at) job) p)
      ∙ rw (drop-drop (body_of (kind_of (get_or job at 0))) (suc at) job, add-one)

  pub walk_end : (job : List ℕ) (at : ℕ) (p : Progress) → length job ≤ at → walk step 0 at (drop at job) p ≡ p
  unfolding walk
  walk_end job at p h = ap (λ (bs : List ℕ). walk step 0 at bs p) (drop_of_length-le job h)

  -- progress that no step changes
  pub walk_still : (p : Progress) → ((at b : ℕ) (rest : List ℕ) → step at b rest p ≡ p) → (skip at : ℕ) (bs : List ℕ) → walk step skip at bs p ≡ p
  unfolding walk
  walk_still p e skip at [] = refl
  walk_still p e (suc skip) at (b ∷ bs) = walk_still p e skip (suc at) bs
  walk_still p e zero at (b ∷ bs) = ap (walk step (body_of (kind_of b)) (suc at) bs) (e at b bs) ∙ walk_still p e (body_of (kind_of b)) (suc at) bs

-- ---- a record that was read

-- its kind, and its body whole
pub record ReadAs (b : ℕ) (rest : List ℕ) (x : Record) : Type 0 where
  pub kind : Kind
  pub body : ℕ
  pub found : kind_of b ≡ some (kind, body)
  pub whole : body ≤ length rest
  pub is : record_of kind (take body rest) ≡ x

pub read_ok : (begun : Bool) (b : ℕ) (rest : List ℕ) (x : Record) → read begun b rest ≡ ok x → ReadAs b rest x
unfolding read
read_ok begun b rest x e = by_kind (begun && not (of_sheet b)) (kind_of b) refl e
  where
    by_length : (short : Bool) (k : Kind × ℕ) → kind_of b ≡ some k → ltb (length rest) k.1 ≡ short → read_body short k.0 (take k.1 rest) ≡ ok x → ReadAs b rest x
    by_length true k f s e = unfold read_body in absurd (not_one (cc))
    by_length false k f s e = unfold read_body in
        let l = ltb-false (length rest) k.1 s in
        record { kind = k.0; body = k.1; found = f; whole = omega arith; is = cc }

    by_kind : (misplaced : Bool) (o : Option (Kind × ℕ)) → kind_of b ≡ o → read_kind misplaced o rest ≡ ok x → ReadAs b rest x
    by_kind misplaced none f e = unfold read_kind in absurd (not_one (cc))
    by_kind true (some k) f e = unfold read_kind in absurd (not_one (cc))
    by_kind false (some k) f e = unfold read_kind in by_length (ltb (length rest) k.1) k f refl e

-- what a kind's records are, whatever their bodies
of_command : Record → Bool
of_command (catalogue i) = false
of_command (sheet o) = true

by_kind : (k : Kind) (b : List ℕ) → of_command (record_of k b) ≡ of_command (record_of k [])
unfolding of_command record_of
by_kind Kind.name b = refl
by_kind Kind.part b = refl
by_kind Kind.range b = refl
by_kind Kind.member b = refl
by_kind Kind.union b = refl
by_kind Kind.union_member b = refl
by_kind Kind.leaf b = refl
by_kind Kind.joined b = refl
by_kind Kind.requirement b = refl
by_kind Kind.constraint b = refl
by_kind Kind.add b = refl
by_kind Kind.draw b = refl
by_kind Kind.run b = refl
by_kind Kind.decide b = refl
by_kind Kind.undo b = refl

abbrev right_class : ℕ × Kind × ℕ → Bool
right_class e = same (of_sheet e.0) (of_command (record_of e.1 []))

table : all right_class kinds ≡ true
unfolding computing of_command
table = refl

-- a command's kind starts the sheet
pub read_sheet : (begun : Bool) (b : ℕ) (rest : List ℕ) (o : Command) → read begun b rest ≡ ok (sheet o) → starts_sheet b (kind_of b) ≡ true
unfolding starts_sheet kind_of
read_sheet begun b rest o e =
    let r = read_ok begun b rest (sheet o) e in
    rw r.found (same_true (of_sheet b) (looked_up right_class b kinds (r.kind, r.body) table r.found) (sym (by_kind r.kind (take r.body rest)) ∙ ap of_command r.is))
  where
    same_true : (s : Bool) {c : Bool} → same s c ≡ true → c ≡ of_command (sheet o) → s ≡ true
    same_true true h q = refl
    same_true false h q = unfold of_command in absurd (false≢true (rw q at h))

-- ---- a step while the catalogue is read

-- what `run` and `check` have in common: they stay stopped, and take a catalogue's record as the definitions say
pub record Reads (job : List ℕ) (step : ℕ → ℕ → List ℕ → Progress → Progress) : Type 0 where
  pub over : (n : ℕ × ℕ) (at b : ℕ) (rest : List ℕ) → step at b rest (stopped n) ≡ stopped n
  pub item : (c d : Catalogue) (at b : ℕ) (rest : List ℕ) (i : Item) → starts_sheet b (kind_of b) ≡ false
      → read false b rest ≡ ok (catalogue i) → add_item c i ≡ ok d → step at b rest (reading c) ≡ reading d
  pub item_refused : (c : Catalogue) (at b : ℕ) (rest : List ℕ) (i : Item) (f : Refusal) → starts_sheet b (kind_of b) ≡ false
      → read false b rest ≡ ok (catalogue i) → add_item c i ≡ refuse f → step at b rest (reading c) ≡ stopped (number_and_place (length job) at f)
  pub refused : (c : Catalogue) (at b : ℕ) (rest : List ℕ) (f : Refusal) → starts_sheet b (kind_of b) ≡ false
      → read false b rest ≡ refuse f → step at b rest (reading c) ≡ stopped (number_and_place (length job) at f)

module _ (t : Terms) (job : List ℕ) where
  pub run_reads : Reads job (run_step t job)
  unfolding run_step after_record after_item
  run_reads =
      record {
        over = λ n at b rest. refl;
        item = λ c d at b rest i s e g. rw (e, g);
        item_refused = λ c at b rest i f s e g. rw (e, g);
        refused = λ c at b rest f s e. rw e;
      }

  pub check_reads : Reads job (check_step t job)
  unfolding check_step check_by after_record after_item
  check_reads =
      record {
        over = λ n at b rest. refl;
        item = λ c d at b rest i s e g. rw (s, e, g);
        item_refused = λ c at b rest i f s e g. rw (s, e, g);
        refused = λ c at b rest f s e. rw (s, e);
      }

  -- `check` goes no further than the first sheet record
  pub check_sheet : (c : Catalogue) (at b : ℕ) (rest : List ℕ) → starts_sheet b (kind_of b) ≡ true → check_step t job at b rest (reading c) ≡ carrying c start
  unfolding check_step check_by
  check_sheet c at b rest s = rw s

  pub check_carries : (c : Catalogue) (at b : ℕ) (rest : List ℕ) → check_step t job at b rest (carrying c start) ≡ carrying c start
  unfolding check_step
  check_carries c at b rest = refl
