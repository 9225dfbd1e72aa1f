-- What holds at the start and is kept by every record holds of every job: the catalogues that items give (`Given`), the states that
-- commands reach (`Reached`), and the proof that a job's bytes lead to nothing else.
use mathlib.Core.Path.{◌≡◌, refl}
use mathlib.Core.Bool.{Bool, true, false, not, ◌&&◌, false≢true}
use mathlib.Core.List.{List, [], ◌∷◌}
use mathlib.Core.Logic.{◌⊎◌, inl, inr}
use mathlib.Core.Option.{Option, none, some}
use Prim.Native.Nat.{ℕ, zero, suc}
use lib.Dec.{ltb}
use lib.ListN.{length, get_or, take}
use Rattle.rules.specs.Truth.{same}
use Rattle.rules.specs.Compute.{computing}
use Rattle.rules.specs.Lists.{all}
use Rattle.rules.proofs.Bools.{and_left, and_right}
use Rattle.rules.proofs.KindTable.{not_one, looked_up}
use Rattle.rules.specs.Catalogue.{Catalogue, empty_catalogue}
use Rattle.rules.specs.Refusals.{Refusal, unfit, overlong, not_run, listing_full, ◌if◌, Result, ok, refuse, unless_any}
use Rattle.rules.specs.Records.{Kind, kinds, look_up, kind_of, of_sheet, Item, Command, Record, catalogue, sheet, record_of, read_body, read_kind, read}
use Rattle.rules.specs.Items.{item_refusals, with_item, add_item}
use Rattle.rules.specs.State.{State, start}
use Rattle.rules.specs.Limits.{Limits, Terms, fits}
use Rattle.rules.specs.Sheet.{command_refusals, carried_out, carry_out}
use Rattle.rules.specs.Job.{Progress, reading, carrying, stopped, body_of, walk, after_item, after_command, after_record, run_step, begun_with, progress, accepted, is_empty, ending, ended_by, ended, outcome}
use Rattle.rules.specs.Job.{starts_sheet, check_by, check_step}

-- ---- a step that refuses nothing

-- no test of the list holds
pub data Passed : List (Refusal × Bool) → Type 0 where
  none_left : Passed []
  passed : {f : Refusal} {ts : List (Refusal × Bool)} → Passed ts → Passed ((f if false) ∷ ts)

-- test n of a list of refusals
unfoldable pub tested : List (Refusal × Bool) → ℕ → Bool
tested ts n = (get_or ts n (unfit if false)).1

pub passes : {ts : List (Refusal × Bool)} → Passed ts → (n : ℕ) → tested ts n ≡ false
unfolding tested
passes none_left n = refl
passes (passed p) zero = refl
passes (passed p) (suc n) = passes p n

pub unless_any_ok : {A : Type 0} (ts : List (Refusal × Bool)) (x y : A) → unless_any ts x ≡ ok y → Passed ts × (x ≡ y)
unfolding unless_any
unless_any_ok [] x y e = (none_left, cc)
unless_any_ok {A} (t ∷ ts) x y e = go t.0 t.1 e (unless_any_ok ts x y)
  where
    go : (f : Refusal) (b : Bool) → ◌≡◌ {A = Result A} (elim b [ true ↦ refuse f | false ↦ unless_any ts x ]) (ok y)
        → (unless_any ts x ≡ ok y → Passed ts × (x ≡ y)) → Passed ((f if b) ∷ ts) × (x ≡ y)
    go f true e h = let z : ◌≡◌ {A = ℕ} 0 1 = cc in absurd (not_one z)
    go f false e h = let p = h e in (passed p.0, p.1)

-- ---- what is given and reached

-- a catalogue that items, each accepted, have given
pub data Given : Catalogue → Type 0 where
  nothing : Given empty_catalogue
  item : {c : Catalogue} → Given c → (i : Item) → Passed (item_refusals c i) → Given (with_item c i)

-- a state that commands, each accepted, have reached
pub data Reached (l : Limits) (c : Catalogue) : State → Type 0 where
  begun : Reached l c start
  command : {s : State} → Reached l c s → (o : Command) → Passed (command_refusals l c o s) → Reached l c (carried_out l c o s)

-- ---- every job

-- what a job's bytes can lead to
data Sound (l : Limits) : Progress → Type 0 where
  reads : {c : Catalogue} → Given c → Sound l (reading c)
  carries : {c : Catalogue} {s : State} → Given c → Reached l c s → Sound l (carrying c s)
  stops : {n : ℕ × ℕ} → Sound l (stopped n)

-- a kind from 32 on gives no item: the table, tested once
sheet_kind : Kind → Bool
sheet_kind k = elim (record_of k []) [ catalogue i ↦ false | sheet o ↦ true ]

abbrev right_class : ℕ × Kind × ℕ → Bool
right_class e = same (of_sheet e.0) (sheet_kind e.1)

table : all right_class kinds ≡ true
unfolding computing sheet_kind
table = refl

module _ (t : Terms) (job : List ℕ) where
  after_item_law : (at : ℕ) {c : Catalogue} → Given c → (i : Item) → Sound t.limits (after_item t job at (add_item c i))
  unfolding add_item
  after_item_law at {c} g i = go (unless_any (item_refusals c i) (with_item c i)) refl
    where
      go : (r : Result Catalogue) → unless_any (item_refusals c i) (with_item c i) ≡ r → Sound t.limits (after_item t job at r)
      go (ok d) e = let p = unless_any_ok (item_refusals c i) (with_item c i) d e in unfold after_item in reads (rw p.1 at (item g i p.0))
      go (refuse f) e = unfold after_item in stops

  after_command_law : (at : ℕ) {c : Catalogue} {s : State} → Given c → Reached t.limits c s → (o : Command)
      → Sound t.limits (after_command t job at c (carry_out t.limits c o s))
  unfolding carry_out
  after_command_law at {c} {s} g r o = go (unless_any (command_refusals t.limits c o s) (carried_out t.limits c o s)) refl
    where
      go : (x : Result State) → unless_any (command_refusals t.limits c o s) (carried_out t.limits c o s) ≡ x → Sound t.limits (after_command t job at c x)
      go (ok d) e =
          let p = unless_any_ok (command_refusals t.limits c o s) (carried_out t.limits c o s) d e in
          unfold after_command in carries g (rw p.1 at (command r o p.0))
      go (refuse f) e = unfold after_command in stops

-- after a sheet record nothing is read as an item
not_item : (k : Kind) (b : List ℕ) (i : Item) → sheet_kind k ≡ true → record_of k b ≡ catalogue i → ⊥
unfolding sheet_kind record_of
not_item Kind.name b i h e = false≢true h
not_item Kind.part b i h e = false≢true h
not_item Kind.range b i h e = false≢true h
not_item Kind.member b i h e = false≢true h
not_item Kind.union b i h e = false≢true h
not_item Kind.union_member b i h e = false≢true h
not_item Kind.leaf b i h e = false≢true h
not_item Kind.joined b i h e = false≢true h
not_item Kind.requirement b i h e = false≢true h
not_item Kind.constraint b i h e = false≢true h
not_item Kind.add b i h e = not_one (cc)
not_item Kind.draw b i h e = not_one (cc)
not_item Kind.run b i h e = not_one (cc)
not_item Kind.decide b i h e = not_one (cc)
not_item Kind.undo b i h e = not_one (cc)

pub no_item : (b : ℕ) (rest : List ℕ) (i : Item) → read true b rest ≡ ok (catalogue i) → ⊥
unfolding read kind_of
no_item b rest i e = go (of_sheet b) (look_up b kinds) (λ k h. looked_up right_class b kinds k table h) e
  where
    body : (short : Bool) (k : Kind) (bytes : List ℕ) → sheet_kind k ≡ true → read_body short k bytes ≡ ok (catalogue i) → ⊥
    body true k bytes h e = unfold read_body in not_one (cc)
    body false k bytes h e = unfold read_body in not_item k bytes i h (cc)

    go : (s : Bool) (k : Option (Kind × ℕ)) → ((x : Kind × ℕ) → k ≡ some x → same s (sheet_kind x.0) ≡ true)
        → read_kind (true && not s) k rest ≡ ok (catalogue i) → ⊥
    go s none h e = unfold read_kind in not_one (cc)
    go false (some k) h e = unfold read_kind in not_one (cc)
    go true (some k) h e = unfold read_kind in body (ltb (length rest) k.1) k.0 (take k.1 rest) (h k refl) e

module _ (t : Terms) (job : List ℕ) where
  from_reading : (at : ℕ) {c : Catalogue} → Given c → (r : Result Record) → Sound t.limits (after_record t job at c start r)
  unfolding after_record
  from_reading at g (ok (catalogue i)) = after_item_law t job at g i
  from_reading at g (ok (sheet o)) = after_command_law t job at g begun o
  from_reading at g (refuse f) = stops

  from_carrying : (at b : ℕ) (rest : List ℕ) {c : Catalogue} {s : State} → Given c → Reached t.limits c s → Sound t.limits (after_record t job at c s (read true b rest))
  from_carrying at b rest {c} {s} g r = go (read true b rest) refl
    where
      go : (x : Result Record) → read true b rest ≡ x → Sound t.limits (after_record t job at c s x)
      go (ok (catalogue i)) e = absurd (no_item b rest i e)
      go (ok (sheet o)) e = unfold after_record in after_command_law t job at g r o
      go (refuse f) e = unfold after_record in stops

  step_sound : (at b : ℕ) (rest : List ℕ) {p : Progress} → Sound t.limits p → Sound t.limits (run_step t job at b rest p)
  unfolding run_step
  step_sound at b rest (reads g) = from_reading at g (read false b rest)
  step_sound at b rest (carries g r) = from_carrying at b rest g r
  step_sound at b rest stops = stops

  check_step_sound : (at b : ℕ) (rest : List ℕ) {p : Progress} → Sound t.limits p → Sound t.limits (check_step t job at b rest p)
  unfolding check_step
  check_step_sound at b rest (reads {c} g) = go (starts_sheet b (kind_of b))
    where
      go : (s : Bool) → Sound t.limits (check_by t job s at b rest c)
      go true = unfold check_by in carries g begun
      go false = unfold check_by in from_reading at g (read false b rest)
  check_step_sound at b rest (carries g r) = carries g r
  check_step_sound at b rest stops = stops

  walk_sound : {step : ℕ → ℕ → List ℕ → Progress → Progress}
      → ((at b : ℕ) (rest : List ℕ) (p : Progress) → Sound t.limits p → Sound t.limits (step at b rest p))
      → (skip at : ℕ) (bs : List ℕ) {p : Progress} → Sound t.limits p → Sound t.limits (walk step skip at bs p)
  unfolding walk
  walk_sound k skip at [] h = h
  walk_sound k (suc skip) at (b ∷ bs) h = walk_sound k skip (suc at) bs h
  walk_sound k zero at (b ∷ bs) h = walk_sound k (body_of (kind_of b)) (suc at) bs (k at b bs _ h)

  -- a catalogue that `check` has read is given
  pub checked_given : {c : Catalogue} {p : Progress} → walk (check_step t job) 0 0 job (reading empty_catalogue) ≡ p → (p ≡ reading c) ⊎ (p ≡ carrying c start) → Given c
  checked_given {c} e k = go (rw e at (walk_sound (λ at b rest p. check_step_sound at b rest) 0 0 job (reads nothing))) k
    where
      go : {p : Progress} → Sound t.limits p → (p ≡ reading c) ⊎ (p ≡ carrying c start) → Given c
      go (reads {c = d} g) (inl e) = let a : d ≡ c = cc in rw a at g
      go (reads g) (inr e) = absurd (not_one (cc))
      go (carries g r) (inl e) = absurd (not_one (cc))
      go (carries {c = d} g r) (inr e) = let a : d ≡ c = cc in rw a at g
      go stops (inl e) = absurd (not_one (cc))
      go stops (inr e) = absurd (not_one (cc))

  progress_sound : Sound t.limits (progress t job (run_step t job))
  unfolding progress
  progress_sound = go (not (fits t)) (ltb 65536 (length job))
    where
      go : (a b : Bool) → Sound t.limits (begun_with t job (unless_any ((unfit if a) ∷ (overlong if b) ∷ []) (walk (run_step t job) 0 0 job (reading empty_catalogue))))
      go true b = unfold unless_any begun_with in stops
      go false true = unfold unless_any begun_with in stops
      go false false = unfold unless_any begun_with in walk_sound (λ at b rest p. step_sound at b rest) 0 0 job (reads nothing)

-- ---- an accepted job

-- its catalogue is given, its state reached, and nothing that was added or drawn is left
pub record Accepted (l : Limits) (c : Catalogue) (s : State) : Type 0 where
  pub given : Given c
  pub reached : Reached l c s
  pub none_added_law : s.opening.added ≡ []
  pub none_drawn : s.opening.drawn ≡ []

empty_list : {A : Type 0} (xs : List A) → is_empty xs ≡ true → xs ≡ []
empty_list [] e = refl
empty_list (x ∷ xs) e = absurd (false≢true e)

module _ (t : Terms) (job : List ℕ) where
  -- where a job's records have led, with any limits: also where a later record or the end refuses it
  pub carried_job : {c : Catalogue} {s : State} → progress t job (run_step t job) ≡ carrying c s → Given c × Reached t.limits c s
  carried_job {c} {s} e = go (progress_sound t job) e
    where
      go : {p : Progress} → Sound t.limits p → p ≡ carrying c s → Given c × Reached t.limits c s
      go (reads g) e = absurd (not_one (cc))
      go (carries {c = c'} {s = s'} g r) e = let a : c' ≡ c = cc in let b : s' ≡ s = cc in (rw a at g, rw (a, b) at r)
      go stops e = absurd (not_one (cc))

  at_end : {c c' : Catalogue} {s s' : State} → Given c → Reached t.limits c s → ended_by t job c (unless_any (ending t job c s) s) ≡ accepted c' s'
      → Accepted t.limits c' s'
  unfolding ending ended_by
  at_end {c} {c'} {s} {s'} g r e = go (unless_any (ending t job c s) s) refl e
    where
      left : (b f : Bool) → Passed ((not_run if not b) ∷ (listing_full if f) ∷ []) → b ≡ true
      left true f p = refl
      left false f p = elim p [ ]

      go : (x : Result State) → unless_any (ending t job c s) s ≡ x → ended_by t job c x ≡ accepted c' s' → Accepted t.limits c' s'
      go (ok d) q e =
          let p = unless_any_ok (ending t job c s) s d q in
          let b = left (is_empty s.opening.added && is_empty s.opening.drawn) _ p.0 in
          let same_c : c ≡ c' = cc in
          let same_s : s ≡ s' = cc p.1 in
          let a : Accepted t.limits c s = record {
            given = g;
            reached = r;
            none_added_law = empty_list s.opening.added (and_left (is_empty s.opening.added) (is_empty s.opening.drawn) b);
            none_drawn = empty_list s.opening.drawn (and_right (is_empty s.opening.added) (is_empty s.opening.drawn) b);
          } in
          rw (same_c, same_s) at a
      go (refuse f) q e = absurd (not_one (cc))

  pub accepted_job : {c : Catalogue} {s : State} → outcome t job ≡ accepted c s → Accepted t.limits c s
  unfolding outcome
  accepted_job {c} {s} e = go (progress_sound t job) e
    where
      go : {p : Progress} → Sound t.limits p → ended t job p ≡ accepted c s → Accepted t.limits c s
      go (reads g) e = unfold ended in at_end g begun e
      go (carries g r) e = unfold ended in at_end g r e
      go stops e = unfold ended in absurd (not_one (cc))
