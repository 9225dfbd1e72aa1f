-- A job's bytes in parts. Where bytes are not refused they end with a record (refusal 1), and what follows them is carried out from there
-- (`walk_on`); the bytes of a command are read back as that command (`walk_command`); an accepted job is what its records lead to (`accepted_led`).
use mathlib.Core.Path.{◌≡◌, refl, ◌∙◌, ap}
use mathlib.Core.Bool.{Bool, true, false, not, ◌&&◌}
use mathlib.Core.List.{List, [], ◌∷◌, ◌++◌, append-nil}
use mathlib.Core.Option.{Option, none, some}
use Prim.Native.Nat.{ℕ, zero, suc, ◌+◌, ◌*◌, ◌/◌, ◌%◌, ◌≤◌, zero-le}
use native.Mathlib.Nat.{le_trans, le_of_suc-le-suc, not-suc-le-zero, add-zero}
use native.Mathlib.Omega.{arith}
use lib.Dec.{ltb}
use lib.ListN.{length, take, length-append}
use lib.Seq.{take-append-le, take-append_seam}
use borrow.Author.Tests.{ltb-false, le-ltb}
use Rattle.rules.specs.Compute.{computing}
use Rattle.rules.specs.Catalogue.{Catalogue, empty_catalogue}
use Rattle.rules.specs.Refusals.{Refusal, unfit, overlong, ◌if◌, Result, ok, refuse, unless_any}
use Rattle.rules.specs.Records.{Kind, kind_of, of_sheet, Command, Record, catalogue, sheet, record_of, read_body, read_kind, read}
use Rattle.rules.specs.State.{State, start}
use Rattle.rules.specs.Limits.{Terms, fits}
use Rattle.rules.specs.Sheet.{command_refusals, carried_out, carry_out}
use Rattle.rules.specs.Job.{Progress, reading, carrying, stopped, body_of, walk, after_item, after_command, after_record, run_step, begun_with, progress, accepted, ending, ended_by, ended, outcome}
use Rattle.rules.proofs.Bools.{and_false}
use Rattle.rules.proofs.KindTable.{not_one}
use Rattle.rules.proofs.Reached.{Passed, none_left, passed, unless_any_ok}

-- ---- more bytes behind those that are read

not_refused : {A : Type 0} {f : Refusal} {x : A} → ◌≡◌ {A = Result A} (refuse f) (ok x) → ⊥
not_refused e = not_one (cc)

-- a record that is read is whole, so what follows it makes no difference
read_on : (begun : Bool) (b : ℕ) (bs more : List ℕ) (x : Record) → read begun b bs ≡ ok x → (body_of (kind_of b) ≤ length bs) × (read begun b (bs ++ more) ≡ ok x)
unfolding read
read_on begun b bs more x = go (begun && not (of_sheet b)) (kind_of b)
  where
    body : (short : Bool) (k : Kind × ℕ) → ltb (length bs) k.1 ≡ short → read_body short k.0 (take k.1 bs) ≡ ok x
        → (k.1 ≤ length bs) × (read_body (ltb (length (bs ++ more)) k.1) k.0 (take k.1 (bs ++ more)) ≡ ok x)
    body true k q e = unfold read_body in absurd (not_refused e)
    body false k q e =
        let l = ltb-false (length bs) k.1 q in
        let l' : k.1 ≤ length (bs ++ more) = rw (length-append bs more) (omega arith) in
        (l, rw (le-ltb _ _ l', take-append-le k.1 bs more l) e)

    go : (misplaced : Bool) (k : Option (Kind × ℕ)) → read_kind misplaced k bs ≡ ok x → (body_of k ≤ length bs) × (read_kind misplaced k (bs ++ more) ≡ ok x)
    go misplaced none e = unfold read_kind in absurd (not_refused e)
    go true (some k) e = unfold read_kind in absurd (not_refused e)
    go false (some k) e = unfold read_kind body_of in body (ltb (length bs) k.1) k refl e

-- ---- what is not refused

pub data Goes : Progress → Type 0 where
  reads : {c : Catalogue} → Goes (reading c)
  carries : {c : Catalogue} {s : State} → Goes (carrying c s)

-- The job and a record's place are told by a refusal alone.
module _ (t : Terms) (job job' : List ℕ) (at at' : ℕ) where
  item_goes : (x : Result Catalogue) → Goes (after_item t job at x) → after_item t job' at' x ≡ after_item t job at x
  unfolding after_item
  item_goes (ok c) g = refl
  item_goes (refuse f) g = elim g [ ]

  command_goes : (c : Catalogue) (x : Result State) → Goes (after_command t job at c x) → after_command t job' at' c x ≡ after_command t job at c x
  unfolding after_command
  command_goes c (ok s) g = refl
  command_goes c (refuse f) g = elim g [ ]

  record_goes : (c : Catalogue) (s : State) (begun : Bool) (b : ℕ) (bs more : List ℕ) → Goes (after_record t job at c s (read begun b bs))
      → (body_of (kind_of b) ≤ length bs) × (after_record t job' at' c s (read begun b (bs ++ more)) ≡ after_record t job at c s (read begun b bs))
  record_goes c s begun b bs more = go (read begun b bs) refl
    where
      same : (x : Record) → Goes (after_record t job at c s (ok x)) → after_record t job' at' c s (ok x) ≡ after_record t job at c s (ok x)
      same (catalogue i) g = unfold after_record in item_goes _ (unfold after_record in g)
      same (sheet o) g = unfold after_record in command_goes c _ (unfold after_record in g)

      go : (x : Result Record) → read begun b bs ≡ x → Goes (after_record t job at c s x)
          → (body_of (kind_of b) ≤ length bs) × (after_record t job' at' c s (read begun b (bs ++ more)) ≡ after_record t job at c s x)
      go (ok x) e g = let r = read_on begun b bs more x e in (r.0, rw r.1 (same x g))
      go (refuse f) e g = unfold after_record in elim g [ ]

  step_goes : (b : ℕ) (bs more : List ℕ) (p : Progress) → Goes (run_step t job at b bs p)
      → (body_of (kind_of b) ≤ length bs) × (run_step t job' at' b (bs ++ more) p ≡ run_step t job at b bs p)
  unfolding run_step
  step_goes b bs more (reading c) g = record_goes c start false b bs more g
  step_goes b bs more (carrying c s) g = record_goes c s true b bs more g
  step_goes b bs more (stopped n) g = elim g [ ]

module _ (t : Terms) (job : List ℕ) where
  walk_stopped : (skip at : ℕ) (bs : List ℕ) (n : ℕ × ℕ) → walk (run_step t job) skip at bs (stopped n) ≡ stopped n
  unfolding walk run_step
  walk_stopped skip at [] n = refl
  walk_stopped (suc skip) at (b ∷ bs) n = walk_stopped skip (suc at) bs n
  walk_stopped zero at (b ∷ bs) n = walk_stopped (body_of (kind_of b)) (suc at) bs n

  -- a job that is not refused at its end was not refused before
  pub went : (skip at : ℕ) (bs : List ℕ) (p : Progress) → Goes (walk (run_step t job) skip at bs p) → Goes p
  went skip at bs (reading c) g = reads
  went skip at bs (carrying c s) g = carries
  went skip at bs (stopped n) g = rw (walk_stopped skip at bs n) at g

next_place : (m n : ℕ) → m + suc n ≡ suc m + n
next_place m n = omega arith

-- `bs` in one job, and in another job, elsewhere, with more behind them
pub walk_on : (t : Terms) (job job' : List ℕ) (skip at at' : ℕ) (bs more : List ℕ) (p : Progress) → skip ≤ length bs
    → Goes (walk (run_step t job) skip at bs p)
    → walk (run_step t job') skip at' (bs ++ more) p ≡ walk (run_step t job') 0 (at' + length bs) more (walk (run_step t job) skip at bs p)
unfolding walk
walk_on t job job' zero at at' [] more p h g = rw (add-zero at') refl
walk_on t job job' (suc skip) at at' [] more p h g = absurd (not-suc-le-zero h)
walk_on t job job' (suc skip) at at' (b ∷ bs) more p h g =
    rw (next_place at' (length bs)) (walk_on t job job' skip (suc at) (suc at') bs more p (le_of_suc-le-suc h) g)
walk_on t job job' zero at at' (b ∷ bs) more p h g =
    let r = step_goes t job job' at at' b bs more p (went t job _ (suc at) bs _ g) in
    ap (walk (run_step t job') (body_of (kind_of b)) (suc at') (bs ++ more)) r.1
    ∙ rw (next_place at' (length bs)) (walk_on t job job' (body_of (kind_of b)) (suc at) (suc at') bs more _ r.0 g)

-- the same bytes elsewhere, in another job
pub walk_elsewhere : (t : Terms) (job job' : List ℕ) (at at' : ℕ) (bs : List ℕ) (p : Progress) → Goes (walk (run_step t job) 0 at bs p)
    → walk (run_step t job') 0 at' bs p ≡ walk (run_step t job) 0 at bs p
unfolding walk
walk_elsewhere t job job' at at' bs p g = rw (append-nil bs) at (walk_on t job job' 0 at at' bs [] p zero-le g)

-- ---- the bytes of a command

-- Two bytes, if the number is below 65,536. What follows holds for other numbers too.
unfoldable pub word_bytes : ℕ → List ℕ
word_bytes n = (n % 256) ∷ (n / 256) ∷ []

unfoldable pub kind_byte : Command → ℕ
kind_byte (Command.add o) = 32
kind_byte (Command.draw k) = 33
kind_byte (Command.run level) = 34
kind_byte (Command.decide x value level) = 35
kind_byte (Command.undo level) = 36

unfoldable pub body_bytes : Command → List ℕ
body_bytes (Command.add o) = word_bytes o
body_bytes (Command.draw k) = word_bytes k
body_bytes (Command.run level) = word_bytes level
body_bytes (Command.decide x value level) = word_bytes x ++ (value ∷ word_bytes level)
body_bytes (Command.undo level) = word_bytes level

unfoldable pub bytes_of : Command → List ℕ
bytes_of o = kind_byte o ∷ body_bytes o

word_back : (n : ℕ) → n % 256 + 256 * (n / 256) ≡ n
word_back n = omega arith

-- its kind's row of the table, and the record that its body gives
record ReadsBack (o : Command) : Type 0 where
  kind : Kind
  row : kind_of (kind_byte o) ≡ some (kind, length (body_bytes o))
  of_sheet_law : of_sheet (kind_byte o) ≡ true
  is_read : record_of kind (body_bytes o) ≡ sheet o

reads_back : (o : Command) → ReadsBack o
unfolding computing kind_byte body_bytes word_bytes
reads_back (Command.add o) = record { kind = Kind.add; row = refl; of_sheet_law = refl; is_read = rw (word_back o) }
reads_back (Command.draw k) = record { kind = Kind.draw; row = refl; of_sheet_law = refl; is_read = rw (word_back k) }
reads_back (Command.run level) = record { kind = Kind.run; row = refl; of_sheet_law = refl; is_read = rw (word_back level) }
reads_back (Command.decide x value level) = record { kind = Kind.decide; row = refl; of_sheet_law = refl; is_read = rw (word_back x, word_back level) }
reads_back (Command.undo level) = record { kind = Kind.undo; row = refl; of_sheet_law = refl; is_read = rw (word_back level) }

read_whole : (k : Kind) (n : ℕ) (rest : List ℕ) → n ≤ length rest → read_kind false (some (k, n)) rest ≡ ok (record_of k (take n rest))
unfolding read_kind read_body
read_whole k n rest h = rw (le-ltb _ _ h)

read_back : (begun : Bool) (o : Command) (rest : List ℕ) → read begun (kind_byte o) (body_bytes o ++ rest) ≡ ok (sheet o)
unfolding read
read_back begun o rest =
    let r = reads_back o in
    let whole : length (body_bytes o) ≤ length (body_bytes o ++ rest) = rw (length-append (body_bytes o) rest) (omega arith) in
    rw (r.of_sheet_law, and_false begun, r.row, read_whole _ _ _ whole, take-append_seam (body_bytes o) rest, r.is_read)

-- the records so far have led to this catalogue and this state
pub data Leads : Catalogue → State → Progress → Type 0 where
  none_carried : {c : Catalogue} → Leads c start (reading c)
  carried : {c : Catalogue} {s : State} → Leads c s (carrying c s)

pub leads_goes : {c : Catalogue} {s : State} {p : Progress} → Leads c s p → Goes p
leads_goes none_carried = reads
leads_goes carried = carries

pub leads_once : {c c' : Catalogue} {s s' : State} {p : Progress} → Leads c s p → Leads c' s' p → (c ≡ c') × (s ≡ s')
leads_once none_carried none_carried = (refl, refl)
leads_once carried carried = (refl, refl)

walk_body : (step : ℕ → ℕ → List ℕ → Progress → Progress) (at : ℕ) (xs rest : List ℕ) (p : Progress)
    → walk step (length xs) at (xs ++ rest) p ≡ walk step 0 (at + length xs) rest p
unfolding walk
walk_body step at [] rest p = rw (add-zero at)
walk_body step at (x ∷ xs) rest p = rw (next_place at (length xs)) (walk_body step (suc at) xs rest p)

module _ (t : Terms) (job : List ℕ) (at : ℕ) where
  step_command : (o : Command) (rest : List ℕ) {c : Catalogue} {s : State} {p : Progress} → Leads c s p
      → run_step t job at (kind_byte o) (body_bytes o ++ rest) p ≡ after_command t job at c (carry_out t.limits c o s)
  unfolding run_step after_record
  step_command o rest none_carried = rw (read_back false o rest, after_record)
  step_command o rest carried = rw (read_back true o rest, after_record)

  -- the bytes of a command are that command carried out
  pub walk_command : (o : Command) (rest : List ℕ) {c : Catalogue} {s : State} {p : Progress} → Leads c s p
      → walk (run_step t job) 0 at (bytes_of o ++ rest) p
      ≡ walk (run_step t job) 0 (at + length (bytes_of o)) rest (after_command t job at c (carry_out t.limits c o s))
  unfolding walk bytes_of body_of
  walk_command o rest h =
      ap (walk (run_step t job) (body_of (kind_of (kind_byte o))) (suc at) (body_bytes o ++ rest)) (step_command o rest h)
      ∙ rw ((reads_back o).row, body_of, next_place at (length (body_bytes o))) (walk_body (run_step t job) (suc at) (body_bytes o) rest _)

pub passed_ok : {A : Type 0} {ts : List (Refusal × Bool)} → Passed ts → (x : A) → unless_any ts x ≡ ok x
unfolding unless_any
passed_ok none_left x = refl
passed_ok (passed p) x = passed_ok p x

module _ (t : Terms) (job : List ℕ) (at : ℕ) (o : Command) (rest : List ℕ) {c : Catalogue} {s : State} {p : Progress} (h : Leads c s p) where
  -- and of a command that is not refused
  pub walk_passed : Passed (command_refusals t.limits c o s)
      → walk (run_step t job) 0 at (bytes_of o ++ rest) p
      ≡ walk (run_step t job) 0 (at + length (bytes_of o)) rest (carrying c (carried_out t.limits c o s))
  unfolding carry_out after_command
  walk_passed q = walk_command t job at o rest h ∙ ap (λ x. walk (run_step t job) 0 (at + length (bytes_of o)) rest (after_command t job at c x)) (passed_ok q _)

  -- what is not refused passed its refusals
  pub walk_passes : Goes (walk (run_step t job) 0 at (bytes_of o ++ rest) p) → Passed (command_refusals t.limits c o s)
  unfolding carry_out
  walk_passes g = go _ refl (went t job 0 _ rest _ (rw (walk_command t job at o rest h) at g))
    where
      go : (x : Result State) → unless_any (command_refusals t.limits c o s) (carried_out t.limits c o s) ≡ x → Goes (after_command t job at c x)
          → Passed (command_refusals t.limits c o s)
      go (ok d) e g = (unless_any_ok _ _ d e).0
      go (refuse f) e g = unfold after_command in elim g [ ]

-- ---- an accepted job

-- its records, carried out one after another
abbrev pub walked : Terms → List ℕ → Progress
walked t job = walk (run_step t job) 0 0 job (reading empty_catalogue)

-- neither unfit nor overlong, and so decided by where its records lead
pub record Taken (t : Terms) (job : List ℕ) : Type 0 where
  pub fit : fits t ≡ true
  pub short : ltb 65536 (length job) ≡ false

pub taken_shorter : (t : Terms) (job job' : List ℕ) → length job' ≤ length job → Taken t job → Taken t job'
taken_shorter t job job' l h = record { fit = h.fit; short = le-ltb 65536 (length job') (le_trans l (ltb-false 65536 (length job) h.short)) }

module _ (t : Terms) (job : List ℕ) where
  pub taken_progress : Taken t job → progress t job (run_step t job) ≡ walked t job
  unfolding progress begun_with unless_any
  taken_progress h = rw (h.fit, h.short, unless_any, begun_with)

  pub goes_taken : Goes (progress t job (run_step t job)) → Taken t job
  unfolding progress
  goes_taken = go (fits t) (ltb 65536 (length job)) refl refl
    where
      go : (a b : Bool) → fits t ≡ a → ltb 65536 (length job) ≡ b
          → Goes (begun_with t job (unless_any ((unfit if not a) ∷ (overlong if b) ∷ []) (walked t job))) → Taken t job
      go false b f l g = unfold unless_any begun_with in elim g [ ]
      go true true f l g = unfold unless_any begun_with in elim g [ ]
      go true false f l g = record { fit = f; short = l }

  by_leads : {c c' : Catalogue} {s : State} (s' : State) (p : Progress) → Leads c' s' p
      → ended_by t job c' (unless_any (ending t job c' s') s') ≡ accepted c s → Leads c s p
  unfolding ended_by
  by_leads {c} {c'} {s} s' p h = go (unless_any (ending t job c' s') s') refl
    where
      go : (x : Result State) → unless_any (ending t job c' s') s' ≡ x → ended_by t job c' x ≡ accepted c s → Leads c s p
      go (ok d) q e = let i = (unless_any_ok (ending t job c' s') s' d q).1 in let a : c' ≡ c = cc in let b : s' ≡ s = cc in rw (a, b) at h
      go (refuse f) q e = absurd (not_one (cc))

  ended_leads : {c : Catalogue} {s : State} (p : Progress) → ended t job p ≡ accepted c s → Leads c s p
  unfolding ended
  ended_leads (reading c') e = by_leads start _ none_carried e
  ended_leads (carrying c' s') e = by_leads s' _ carried e
  ended_leads (stopped n) e = absurd (not_one (cc))

  pub accepted_taken : {c : Catalogue} {s : State} → outcome t job ≡ accepted c s → Taken t job
  unfolding outcome
  accepted_taken e = goes_taken (leads_goes (ended_leads _ e))

  pub accepted_led : {c : Catalogue} {s : State} → outcome t job ≡ accepted c s → Leads c s (walked t job)
  unfolding outcome
  accepted_led e = rw (taken_progress (accepted_taken e)) at (ended_leads _ e)

-- two jobs whose records lead to the same
module _ (t : Terms) (job job' : List ℕ) {c : Catalogue} {s : State} where
  by_alike : (c' : Catalogue) (x : Result State) → ended_by t job c' x ≡ accepted c s → ended_by t job' c' x ≡ accepted c s
  unfolding ended_by
  by_alike c' (ok d) e = e
  by_alike c' (refuse f) e = absurd (not_one (cc))

  ended_alike : (p : Progress) → ended t job p ≡ accepted c s → ended t job' p ≡ accepted c s
  unfolding ended ending
  ended_alike (reading c') e = by_alike c' _ e
  ended_alike (carrying c' s') e = by_alike c' _ e
  ended_alike (stopped n) e = absurd (not_one (cc))

  pub accepted_alike : Taken t job' → walked t job' ≡ walked t job → outcome t job ≡ accepted c s → outcome t job' ≡ accepted c s
  unfolding outcome
  accepted_alike h w e = rw (taken_progress t job' h, w) (ended_alike _ (rw (taken_progress t job (accepted_taken t job e)) at e))
