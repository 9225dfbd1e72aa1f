-- `check` and `run` agree on what `check` reads (`check_agrees`), and every refusal has a number from 1 to 11 and a place in the job or its end.
-- Both walks do the same up to the first sheet record. There `check` accepts; whatever `run` refuses from there on has its place there or later.
use mathlib.Core.Path.{◌≡◌, refl, sym, ◌∙◌, ap}
use mathlib.Core.Logic.{◌↔◌, ◌⊎◌, inl, inr, ⊎_elim}
use mathlib.Core.Bool.{Bool, true, false, not, ◌&&◌, false≢true}
use mathlib.Core.List.{List, [], ◌∷◌}
use mathlib.Core.Option.{Option, none, some}
use Prim.Native.Nat.{ℕ, zero, suc, ◌+◌, ◌<◌, ◌≤◌}
use native.Mathlib.Omega.{arith}
use lib.Dec.{eqb, ltb}
use lib.ListN.{length, take}
use borrow.Author.Tests.{ltb-true, ltb-false}
use Rattle.rules.specs.Lists.{all}
use Rattle.rules.specs.Catalogue.{Catalogue, empty_catalogue}
use Rattle.rules.specs.Refusals.{Refusal, unfit, overlong, unknown_kind, out_of_place, cut_short, too_many, missing, missing_variable, contradicts, disjuncts_over, ranges_over, level_low, decided_against, run_full, not_run, listing_full, number_and_place, ◌if◌, Result, ok, refuse, unless_any}
use Rattle.rules.specs.Records.{Kind, kind_of, of_sheet, Item, Command, Record, catalogue, sheet, read_body, read_kind, read}
use Rattle.rules.specs.Items.{item_refusals, with_item, add_item}
use Rattle.rules.specs.State.{State, start}
use Rattle.rules.specs.Limits.{Terms, fits}
use Rattle.rules.specs.Sheet.{command_refusals, carried_out, carry_out}
use Rattle.rules.specs.Job.{Progress, reading, carrying, stopped, body_of, walk, after_item, after_command, after_record, run_step, begun_with, progress, is_empty, ending, ended_by, ended, outcome, accepts, refuses, answer_of, answer, starts_sheet, check_by, check_step, checked, check_answer}
use Rattle.rules.specs.CheckRun.{before_sheet, sheet_place, CheckAgrees, Numbered, Placed, PlacedFirst}
use Rattle.rules.proofs.Bools.{and_left, and_right}
use Rattle.rules.proofs.KindTable.{not_one}
use Rattle.rules.proofs.WalkLaws.{walk_still, read_sheet}

-- ---- what is told of a record

-- the refusals whose place is the record's
of_record : Refusal → Bool
of_record f = eqb (number_and_place 0 1 f).1 1

-- the numbers that a record or a job's end can have
ordinary : ℕ → Bool
ordinary n = ltb 0 n && (ltb n 12 && not (eqb n 7))

record Told (from last : ℕ) (r : ℕ × ℕ) : Type 0 where
  number : ordinary r.0 ≡ true
  not_before : from ≤ r.1
  not_after : r.1 ≤ last

told_at : (n at : ℕ) → ordinary n ≡ true → Told at at (n, at)
told_at n at h = record { number = h; not_before = omega arith; not_after = omega arith }

told : (l at : ℕ) (f : Refusal) → of_record f ≡ true → Told at at (number_and_place l at f)
unfolding of_record number_and_place ordinary
told l at unfit h = absurd (false≢true h)
told l at overlong h = absurd (false≢true h)
told l at unknown_kind h = told_at 2 at refl
told l at out_of_place h = told_at 2 at refl
told l at cut_short h = told_at 1 at refl
told l at (too_many t) h = told_at 3 at refl
told l at (missing t byte) h = told_at 4 at refl
told l at (missing_variable byte) h = told_at 4 at refl
told l at (contradicts w) h = told_at 5 at refl
told l at disjuncts_over h = told_at 6 at refl
told l at ranges_over h = told_at 6 at refl
told l at level_low h = told_at 9 at refl
told l at decided_against h = told_at 8 at refl
told l at run_full h = told_at 10 at refl
told l at not_run h = absurd (false≢true h)
told l at listing_full h = absurd (false≢true h)

-- of a result: if it is a refusal, it is one of a record
abbrev Fine : {A : Type 0} → Result A → Type 0
Fine (ok x) = Unit {0}
Fine (refuse f) = of_record f ≡ true

abbrev of_records : List (Refusal × Bool) → Bool
of_records ts = all (λ (t : Refusal × Bool). of_record t.0) ts

unless_fine : {A : Type 0} (ts : List (Refusal × Bool)) (x : A) → of_records ts ≡ true → Fine (unless_any ts x)
unfolding unless_any all
unless_fine [] x h = tt
unless_fine {A} (t ∷ ts) x h = go t.1 (unless_fine ts x (and_right (of_record t.0) (of_records ts) h))
  where
    go : (b : Bool) → Fine (unless_any ts x) → Fine {A = A} (elim b [ true ↦ refuse t.0 | false ↦ unless_any ts x ])
    go true f = and_left (of_record t.0) (of_records ts) h
    go false f = f

items : (c : Catalogue) (i : Item) → of_records (item_refusals c i) ≡ true
unfolding item_refusals all of_record number_and_place
items c (Item.name flags) = refl
items c (Item.part n flags u e) = refl
items c (Item.range n) = refl
items c (Item.member r p) = refl
items c Item.union = refl
items c (Item.union_member u r) = refl
items c (Item.leaf r) = refl
items c (Item.joined o l r) = refl
items c (Item.requirement o form n k) = refl
items c (Item.constraint o r) = refl

read_fine : (begun : Bool) (b : ℕ) (rest : List ℕ) → Fine (read begun b rest)
unfolding read
read_fine begun b rest = go (begun && not (of_sheet b)) (kind_of b)
  where
    body : (short : Bool) (k : Kind × ℕ) → Fine (read_body short k.0 (take k.1 rest))
    body true k = unfold read_body of_record number_and_place in refl
    body false k = unfold read_body in tt

    go : (misplaced : Bool) (k : Option (Kind × ℕ)) → Fine (read_kind misplaced k rest)
    go misplaced none = unfold read_kind of_record number_and_place in refl
    go true (some k) = unfold read_kind of_record number_and_place in refl
    go false (some k) = unfold read_kind in body (ltb (length rest) k.1) k

-- ---- how a walk stands

-- if it is stopped, then with a place from `from` to `last`
data Stands (from last : ℕ) : Progress → Type 0 where
  reads : {c : Catalogue} → Stands from last (reading c)
  carries : {c : Catalogue} {s : State} → Stands from last (carrying c s)
  stops : {r : ℕ × ℕ} → Told from last r → Stands from last (stopped r)

widened : {at from last : ℕ} {p : Progress} → from ≤ at → at ≤ last → Stands at at p → Stands from last p
widened h k reads = reads
widened h k carries = carries
widened {at} {from} {last} h k (stops {r = r} b) =
    let l = b.not_before in
    let m = b.not_after in
    stops {r = r} (record { number = b.number; not_before = omega arith; not_after = omega arith })

module _ (t : Terms) (job : List ℕ) where
  commands : (c : Catalogue) (o : Command) (s : State) → of_records (command_refusals t.limits c o s) ≡ true
  unfolding command_refusals all of_record number_and_place
  commands c (Command.add o) s = refl
  commands c (Command.draw k) s = refl
  commands c (Command.run level) s = refl
  commands c (Command.decide x value level) s = refl
  commands c (Command.undo level) s = refl

  after_item_law : (at : ℕ) (r : Result Catalogue) → Fine r → Stands at at (after_item t job at r)
  unfolding after_item
  after_item_law at (ok c) h = reads
  after_item_law at (refuse f) h = stops (told (length job) at f h)

  after_command_law : (at : ℕ) (c : Catalogue) (r : Result State) → Fine r → Stands at at (after_command t job at c r)
  unfolding after_command
  after_command_law at c (ok s) h = carries
  after_command_law at c (refuse f) h = stops (told (length job) at f h)

  after_record_law : (at : ℕ) (c : Catalogue) (s : State) (r : Result Record) → Fine r → Stands at at (after_record t job at c s r)
  unfolding after_record add_item carry_out
  after_record_law at c s (ok (catalogue i)) h = after_item_law at (add_item c i) (unless_fine (item_refusals c i) (with_item c i) (items c i))
  after_record_law at c s (ok (sheet o)) h = after_command_law at c (carry_out t.limits c o s) (unless_fine (command_refusals t.limits c o s) (carried_out t.limits c o s) (commands c o s))
  after_record_law at c s (refuse f) h = stops (told (length job) at f h)

  run_stands : (from last at b : ℕ) (rest : List ℕ) {p : Progress} → from ≤ at → at ≤ last → Stands from last p → Stands from last (run_step t job at b rest p)
  unfolding run_step
  run_stands from last at b rest h k (reads {c = c}) = widened h k (after_record_law at c start (read false b rest) (read_fine false b rest))
  run_stands from last at b rest h k (carries {c = c} {s = s}) = widened h k (after_record_law at c s (read true b rest) (read_fine true b rest))
  run_stands from last at b rest h k (stops u) = stops u

  walk_stands : (from last skip at : ℕ) (bs : List ℕ) {p : Progress} → from ≤ at → at + length bs ≡ last → Stands from last p
      → Stands from last (walk (run_step t job) skip at bs p)
  unfolding walk
  walk_stands from last skip at [] h k s = s
  walk_stands from last (suc skip) at (b ∷ bs) h k s = walk_stands from last skip (suc at) bs (omega arith) (omega arith) s
  walk_stands from last zero at (b ∷ bs) h k s =
      walk_stands from last (body_of (kind_of b)) (suc at) bs (omega arith) (omega arith) (run_stands from last at b bs h (omega arith) s)

-- ---- both walks, record by record

-- the walks of `run` and `check`: stopped alike before the first sheet record, or `check` accepts and `run` stops at its place or later, if at all
data Agree (place last : ℕ) : (run check : Progress) → Type 0 where
  both : {r : ℕ × ℕ} → r.1 < place → Agree place last (stopped r) (stopped r)
  apart : {p q : Progress} → Stands place last p → checked q ≡ accepts 0 0 0 → Agree place last p q

module _ (t : Terms) (job : List ℕ) where
  -- before the first sheet record nothing is carried out
  not_carried : (at b : ℕ) (rest : List ℕ) (c d : Catalogue) (s : State) → starts_sheet b (kind_of b) ≡ false → after_record t job at c start (read false b rest) ≡ carrying d s → ⊥
  not_carried at b rest c d s h e = go (read false b rest) refl e
    where
      item : (x : Result Catalogue) → after_item t job at x ≡ carrying d s → ⊥
      item (ok d') e = unfold after_item in not_one (cc)
      item (refuse f) e = unfold after_item in not_one (cc)

      go : (x : Result Record) → read false b rest ≡ x → after_record t job at c start x ≡ carrying d s → ⊥
      go (ok (catalogue i)) q e = unfold after_record in item (add_item c i) e
      go (ok (sheet o)) q e = false≢true (sym h ∙ read_sheet false b rest o q)
      go (refuse f) q e = unfold after_record in not_one (cc)

  module _ (place last skip at : ℕ) (bs : List ℕ) where
    abbrev Rest : Progress → Type 0
    Rest p = Agree place last (walk (run_step t job) skip (suc at) bs p) (walk (check_step t job) skip (suc at) bs p)

    after_both : (p : Progress) → at < place → Stands at at p → ((d : Catalogue) (s : State) → p ≡ carrying d s → ⊥) → ((d : Catalogue) → Rest (reading d)) → Rest p
    unfolding run_step check_step
    after_both (reading d) h u n rest = rest d
    after_both (carrying d s) h u n rest = absurd (n d s refl)
    after_both (stopped r) h (stops u) n rest =
        let l = u.not_after in
        rw (walk_still (run_step t job) (stopped r) (λ at b rest. refl), walk_still (check_step t job) (stopped r) (λ at b rest. refl)) (both {r = r} (omega arith))

  agree : (last skip at : ℕ) (bs : List ℕ) (c : Catalogue) → at + length bs ≡ last
      → Agree (at + before_sheet skip bs) last (walk (run_step t job) skip at bs (reading c)) (walk (check_step t job) skip at bs (reading c))
  unfolding walk before_sheet run_step check_step check_by checked
  agree last skip at [] c k = apart reads refl
  agree last (suc skip) at (b ∷ bs) c k =
      let q : at + suc (before_sheet skip bs) ≡ suc at + before_sheet skip bs = omega arith in
      rw q (agree last skip (suc at) bs c (omega arith))
  agree last zero at (b ∷ bs) c k =
      let body = body_of (kind_of b) in
      let q : suc at + before_sheet body bs ≡ at + suc (before_sheet body bs) = omega arith in
      by_sheet (starts_sheet b (kind_of b)) refl (λ d. rw q at (agree last body (suc at) bs d (omega arith)))
    where
      by_sheet : (s : Bool) → starts_sheet b (kind_of b) ≡ s
          → ((d : Catalogue) → Rest (at + suc (before_sheet (body_of (kind_of b)) bs)) last (body_of (kind_of b)) at bs (reading d))
          → Agree (at + elim s [ true ↦ 0 | false ↦ suc (before_sheet (body_of (kind_of b)) bs) ]) last
          (walk (run_step t job) (body_of (kind_of b)) (suc at) bs (after_record t job at c start (read false b bs)))
          (walk (check_step t job) (body_of (kind_of b)) (suc at) bs (check_by t job s at b bs c))
      by_sheet true e rest =
          apart (walk_stands t job (at + 0) last (body_of (kind_of b)) (suc at) bs (omega arith) (omega arith) (run_stands t job (at + 0) last at b bs (omega arith) (omega arith) reads))
          (ap checked (walk_still (check_step t job) (carrying c start) (λ at b rest. refl) (body_of (kind_of b)) (suc at) bs))
      by_sheet false e rest =
          after_both (at + suc (before_sheet (body_of (kind_of b)) bs)) last (body_of (kind_of b)) at bs
          (after_record t job at c start (read false b bs)) (omega arith) (after_record_law t job at c start (read false b bs) (read_fine false b bs)) (λ d s. not_carried at b bs c d s e) rest

-- ---- the answers

module _ (t : Terms) (job : List ℕ) where
  at_end : (from n p : ℕ) (c : Catalogue) (s : State) → from ≤ length job → answer_of (ended_by t job c (unless_any (ending t job c s) s)) ≡ refuses n p → Told from (length job) (n, p)
  unfolding ending
  at_end from n p c s h = go (not (is_empty s.opening.added && is_empty s.opening.drawn)) _
    where
      last : (k : ℕ) → ordinary k ≡ true → refuses k (length job) ≡ refuses n p → Told from (length job) (n, p)
      last k o e = let a : k ≡ n = cc in let b : length job ≡ p = cc in rw (← a, ← b) (record { number = o; not_before = h; not_after = omega arith })

      go : (a b : Bool) → answer_of (ended_by t job c (unless_any ((not_run if a) ∷ (listing_full if b) ∷ []) s)) ≡ refuses n p → Told from (length job) (n, p)
      go true b e = last 11 (unfold ordinary in refl) (unfold unless_any ended_by number_and_place answer_of in e)
      go false true e = last 10 (unfold ordinary in refl) (unfold unless_any ended_by number_and_place answer_of in e)
      go false false e = unfold unless_any ended_by answer_of in absurd (not_one (cc))

  run_end_law : (from n p : ℕ) {r : Progress} → from ≤ length job → Stands from (length job) r → answer_of (ended t job r) ≡ refuses n p → Told from (length job) (n, p)
  unfolding ended
  run_end_law from n p h (reads {c = c}) e = at_end from n p c start h e
  run_end_law from n p h (carries {c = c} {s = s}) e = at_end from n p c s h e
  run_end_law from n p h (stops {r = r} u) e = unfold answer_of in
      let a : r.0 ≡ n = cc in
      let b : r.1 ≡ p = cc in
      rw (← a, ← b) u

in_range : (n : ℕ) → ordinary n ≡ true → (1 ≤ n) × (n ≤ 11)
unfolding ordinary
in_range n h =
    let l = ltb-true 0 n (and_left (ltb 0 n) _ h) in
    let m = ltb-true n 12 (and_left (ltb n 12) _ (and_right (ltb 0 n) _ h)) in
    (omega arith, omega arith)

not_seven : (n : ℕ) → ordinary n ≡ true → n ≡ 7 → ⊥
unfolding ordinary
not_seven n h e = false≢true (rw e at h)

sheet_within : (skip : ℕ) (bs : List ℕ) → before_sheet skip bs ≤ length bs
unfolding before_sheet
sheet_within skip [] = omega arith
sheet_within (suc skip) (b ∷ bs) = let h = sheet_within skip bs in omega arith
sheet_within zero (b ∷ bs) = go (starts_sheet b (kind_of b)) (sheet_within (body_of (kind_of b)) bs)
  where
    go : (s : Bool) → before_sheet (body_of (kind_of b)) bs ≤ length bs → elim s [ true ↦ 0 | false ↦ suc (before_sheet (body_of (kind_of b)) bs) ] ≤ suc (length bs)
    go true h = omega arith
    go false h = omega arith

-- ---- the theorems

told_same : {a b n p : ℕ} → refuses a b ≡ refuses n p → (a ≡ n) × (b ≡ p)
told_same e = (cc, cc)

-- 7, then the job's length, then the walk
data Begins (t : Terms) (job : List ℕ) : Type 0 where
  not_fit : ((step : ℕ → ℕ → List ℕ → Progress → Progress) → progress t job step ≡ stopped (7, 0)) → Begins t job
  too_long : 65536 < length job → ((step : ℕ → ℕ → List ℕ → Progress → Progress) → progress t job step ≡ stopped (3, 0)) → Begins t job
  walks : length job ≤ 65536 → ((step : ℕ → ℕ → List ℕ → Progress → Progress) → progress t job step ≡ walk step 0 0 job (reading empty_catalogue)) → Begins t job

begins : (t : Terms) (job : List ℕ) → Begins t job
unfolding progress unless_any begun_with number_and_place
begins t job = go (not (fits t)) (ltb 65536 (length job)) refl refl
  where
    go : (a b : Bool) → not (fits t) ≡ a → ltb 65536 (length job) ≡ b → Begins t job
    go true b e q = not_fit (λ step. rw e)
    go false true e q = too_long (ltb-true 65536 (length job) q) (λ step. rw (e, q))
    go false false e q = walks (ltb-false 65536 (length job) q) (λ step. rw (e, q))

module _ (t : Terms) (job : List ℕ) (n p : ℕ) where
  abbrev Same : (run check : Progress) → Type 0
  Same r q = (checked q ≡ refuses n p) ↔ ((answer_of (ended t job r) ≡ refuses n p) × ((n ≡ 7) ⊎ ((65536 < length job) ⊎ (p < before_sheet 0 job))))

  same_walked : length job ≤ 65536 → {r q : Progress} → Agree (0 + before_sheet 0 job) (length job) r q → Same r q
  unfolding checked ended answer_of
  same_walked h (both {r = r} l) = (λ e. let q = (told_same e).1 in (e, inr (inr (omega arith))), λ e. e.0)
  same_walked h {r} {q} (apart s a) = (
    λ e. absurd (not_one (cc)),
    λ e.
        let w = sheet_within 0 job in
        let u = run_end_law t job (0 + before_sheet 0 job) n p (omega arith) s e.0 in
        let l = u.not_before in
        absurd (⊎_elim (not_seven n u.number) (⊎_elim (λ m. omega arith) (λ m. omega arith)) e.1),
  )

  same_begun : Begins t job → Same (progress t job (run_step t job)) (progress t job (check_step t job))
  unfolding checked ended answer_of
  same_begun (not_fit e) = rw (e (run_step t job), e (check_step t job)) (λ q. (q, inl (sym (told_same q).0)), λ q. q.0)
  same_begun (too_long l e) = rw (e (run_step t job), e (check_step t job)) (λ q. (q, inr (inl l)), λ q. q.0)
  same_begun (walks l e) = rw (e (run_step t job), e (check_step t job)) (same_walked l (agree t job (length job) 0 0 job empty_catalogue (omega arith)))

  -- refused before the walk, at 0, or by it
  refused_as : answer t job ≡ refuses n p → (((1 ≤ n) × (n ≤ 11)) × (p ≡ 0)) ⊎ ((length job ≤ 65536) × Told 0 (length job) (n, p))
  unfolding answer outcome ended answer_of
  refused_as e = go (begins t job)
    where
      at_start : (k : ℕ) → (1 ≤ k) × (k ≤ 11) → refuses k 0 ≡ refuses n p → ((1 ≤ n) × (n ≤ 11)) × (p ≡ 0)
      at_start k h e = let s = told_same e in (rw s.0 at h, sym s.1)

      go : Begins t job → (((1 ≤ n) × (n ≤ 11)) × (p ≡ 0)) ⊎ ((length job ≤ 65536) × Told 0 (length job) (n, p))
      go (not_fit q) = inl (at_start 7 (omega arith, omega arith) (rw (q (run_step t job)) at e))
      go (too_long l q) = inl (at_start 3 (omega arith, omega arith) (rw (q (run_step t job)) at e))
      go (walks l q) = inr (l, run_end_law t job 0 n p (omega arith) (walk_stands t job 0 (length job) 0 0 job (omega arith) (omega arith) reads) (rw (q (run_step t job)) at e))

pub check_agrees : CheckAgrees
unfolding check_answer answer outcome sheet_place
check_agrees t job n p = same_begun t job n p (begins t job)

pub numbered : Numbered
numbered t job n p e = ⊎_elim (λ s. s.0) (λ u. in_range n u.1.number) (refused_as t job n p e)

pub placed : Placed
placed t job n p e = ⊎_elim (λ s. let q = s.1 in omega arith) (λ u. u.1.not_after) (refused_as t job n p e)

pub placed_first : PlacedFirst
placed_first t job n p e w = ⊎_elim (λ s. s.1) (λ u. let l = u.0 in absurd (⊎_elim (not_seven n u.1.number) (λ m. omega arith) w)) (refused_as t job n p e)
