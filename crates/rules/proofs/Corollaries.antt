-- Two things that a reader of document 01 may look for, of every job:
--     lines-kept               decide and undo records behind a job leave every v, c, o, p, x, n and w line of its listing as it is
--     add-left-out, add-put-in an add of an owner already added or opened, with a run after it in any case, gives the same catalogue and state, and
--                              so the same listing
use mathlib.Core.Path.{◌≡◌, refl, sym, ◌∙◌, ap}
use mathlib.Core.Logic.{⊎_elim}
use mathlib.Core.Bool.{Bool, true, false, not, ◌&&◌, cond}
use mathlib.Core.List.Memᴰ
use mathlib.Core.List.{List, [], ◌∷◌, ◌++◌, append_assoc}
use Prim.Native.Nat.{ℕ, ◌+◌, ◌≤◌, zero-le}
use native.Mathlib.Omega.{arith}
use lib.Dec.{eqb}
use lib.ListN.{length, length-append}
use borrow.Author.Tests.{lt-leb, le-ltb}
use Rattle.rules.specs.Lists.{concat_map, up_to}
use Rattle.rules.specs.Catalogue.{Owner, root, part, Catalogue, empty_catalogue}
use Rattle.rules.specs.Records.{Command}
use Rattle.rules.specs.Items.{owner_of, given, absent, owner_absent}
use Rattle.rules.specs.Refusals.{Thing}
use Rattle.rules.specs.State.{State, set_decisions}
use Rattle.rules.specs.Limits.{Limits, Terms}
use Rattle.rules.specs.Sheet.{decide, command_refusals, carried_out}
use Rattle.rules.specs.Listing.{ascii, decimal, line, owner_field, origin_fields, numbered, assertions, clause_fields, decision_line, waiting_lines, listing}
use Rattle.rules.specs.Job.{Progress, reading, carrying, walk, run_step, progress, accepted, outcome}
use Rattle.rules.specs.Called.{◌∈◌}
use Rattle.rules.proofs.MemberLaws.{all_in}
use Rattle.rules.proofs.Each.{Each, when_cases}
use Rattle.rules.proofs.Reached.{Passed, none_left, passed, Given, Reached, carried_job}
use Rattle.rules.proofs.WellFormed.{OwnerGiven}
use Rattle.rules.proofs.Valid.{valid}
use Rattle.rules.proofs.JobBytes.{Goes, carries, bytes_of, Leads, carried, leads_goes, leads_once, walk_on, walk_elsewhere, walk_passed, walk_passes}
use Rattle.rules.proofs.JobBytes.{walked, Taken, taken_shorter, taken_progress, goes_taken, accepted_taken, accepted_led, accepted_alike}
use Rattle.rules.proofs.AddedAgain.{Alike, alike_sym, run_alike, after_alike, refused_alike, Already, added_again}

-- ---- decide and undo: on states

pub data OfDecisions : Command → Type 0 where
  decides : {x value level : ℕ} → OfDecisions (Command.decide x value level)
  undoes : {level : ℕ} → OfDecisions (Command.undo level)

-- its decisions apart, s' is s
pub record Redecided (s s' : State) : Type 0 where
  pub is : s' ≡ set_decisions s'.decisions s

redecided_then : {s s' s'' : State} → Redecided s s' → Redecided s' s'' → Redecided s s''
redecided_then {s'' = s''} p q = record { is = q.is ∙ ap (set_decisions s''.decisions) p.is }

pub only_decisions : (l : Limits) (c : Catalogue) {o : Command} → OfDecisions o → (s : State) → Redecided s (carried_out l c o s)
unfolding carried_out decide
only_decisions l c decides s = when_cases (Redecided s) _ _ s (record { is = refl }) (λ e. record { is = refl })
only_decisions l c undoes s = record { is = refl }

-- ---- on listings

-- the d lines
unfoldable pub d_lines : State → List ℕ
d_lines s = concat_map decision_line s.decisions

module _ (c : Catalogue) (s : State) where
  -- the v, c, o, p, x and n lines
  unfoldable pub front_lines : List ℕ
  front_lines =
      numbered (ascii "v") origin_fields 0 s.variables
      ++ (numbered (ascii "c") (clause_fields c) 0 s.clauses
      ++ (concat_map (λ o. line (ascii "o" ∷ owner_field o ∷ [])) s.opening.owners
      ++ (concat_map (λ n. line (ascii "p" ∷ decimal n ∷ [])) s.opening.names
      ++ (concat_map (λ (e : ℕ × ℕ). line (ascii "x" ∷ decimal e.0 ∷ decimal e.1 ∷ [])) s.conflicts
      ++ assertions 0 s.clauses))))

  -- the w lines
  unfoldable pub w_lines : List ℕ
  w_lines = concat_map (waiting_lines c s.opening.waiting) (up_to 0 (length c.conditions))

  pub listing_is : listing c s ≡ front_lines ++ (d_lines s ++ w_lines)
  unfolding listing front_lines d_lines w_lines
  listing_is = simp append_assoc

-- the same catalogue, and the same lines but for the d lines
pub record SameLines (c c' : Catalogue) (s s' : State) : Type 0 where
  pub catalogue : c ≡ c'
  pub front : front_lines c s ≡ front_lines c' s'
  pub waiting : w_lines c s ≡ w_lines c' s'

pub same_lines : {c c' : Catalogue} {s s' : State} → c ≡ c' → Redecided s s' → SameLines c c' s s'
unfolding front_lines w_lines
same_lines {c} e h = rw (← e) (record { catalogue = refl; front = sym (ap (front_lines c) h.is); waiting = sym (ap (w_lines c) h.is) })

-- ---- on jobs

module _ (t : Terms) (job : List ℕ) where
  decisions_walked : (at : ℕ) {os : List Command} → Each OfDecisions os → {c c' : Catalogue} {s s' : State} {p : Progress} → Leads c s p
      → Leads c' s' (walk (run_step t job) 0 at (concat_map bytes_of os) p) → (c ≡ c') × Redecided s s'
  unfolding walk concat_map
  decisions_walked at Each.nil h h' = let e = leads_once h h' in (e.0, rw e.1 (record { is = refl }))
  decisions_walked at (Each.cons {x = o} d ds) {c} {s} h h' =
      let q = walk_passes t job at o _ h (leads_goes h') in
      let r = decisions_walked (at + length (bytes_of o)) ds carried (rw (walk_passed t job at o _ h q) at h') in
      (r.0, redecided_then (only_decisions t.limits c d s) r.1)

-- Of the bytes of decide and undo records behind those of an accepted job. The job so made is taken to be accepted: a record of it may be
-- refused, and its listing may not fit.
module _ (t : Terms) (job : List ℕ) {os : List Command} (ds : Each OfDecisions os) {c c' : Catalogue} {s s' : State} where
  pub redecided : outcome t job ≡ accepted c s → outcome t (job ++ concat_map bytes_of os) ≡ accepted c' s' → (c ≡ c') × Redecided s s'
  redecided e e' =
      let h = accepted_led t job e in
      let on = walk_on t job (job ++ concat_map bytes_of os) 0 0 0 job (concat_map bytes_of os) _ zero-le (leads_goes h) in
      decisions_walked t _ _ ds h (rw on at (accepted_led t (job ++ concat_map bytes_of os) e'))

  pub lines_kept : outcome t job ≡ accepted c s → outcome t (job ++ concat_map bytes_of os) ≡ accepted c' s' → SameLines c c' s s'
  lines_kept e e' = let r = redecided e e' in same_lines r.0 r.1

-- ---- an owner added again

-- an owner that is added or opened is given, and an add of it is not refused
owner_there : (c : Catalogue) (n : ℕ) → OwnerGiven c (owner_of n) → owner_absent c n ≡ false
unfolding owner_absent owner_of absent given
owner_there c n = go (eqb n 65535)
  where
    go : (b : Bool) → OwnerGiven c (cond b root (part n)) → (not b && absent c Thing.part n) ≡ false
    go true h = refl
    go false h = unfold absent given in lt-leb _ n h

add_passes : {l : Limits} {c : Catalogue} {s : State} → Given c → Reached l c s → (n : ℕ) → Already (owner_of n) s.opening
    → Passed (command_refusals l c (Command.add n) s)
unfolding command_refusals
add_passes {c = c} {s = s} g r n a =
    let v = (valid g r).opening in
    rw (owner_there c n (⊎_elim (all_in _ s.opening.added v.added) (all_in _ s.opening.owners v.owners) a)) (passed none_left)

module _ (t : Terms) (job job' : List ℕ) (c : Catalogue) where
  -- bytes that the one job carries out from s lead to the same in the other, where they start from s'
  abbrev SameEnd : (at at' : ℕ) → List ℕ → State → State → Type 0
  SameEnd at at' bs s s' =
      Goes (walk (run_step t job) 0 at bs (carrying c s)) → walk (run_step t job') 0 at' bs (carrying c s') ≡ walk (run_step t job) 0 at bs (carrying c s)

  command_walked : {o : Owner} (at at' : ℕ) (k : Command) (rest : List ℕ) {s s' : State} → Alike o s s'
      → SameEnd (at + length (bytes_of k)) (at' + length (bytes_of k)) rest (carried_out t.limits c k s) (carried_out t.limits c k s')
      → SameEnd at at' (bytes_of k ++ rest) s s'
  command_walked at at' k rest h f g =
      let q = walk_passes t job at k rest carried g in
      let w = walk_passed t job at k rest carried q in
      walk_passed t job' at' k rest carried (rw (refused_alike t.limits c k h) q) ∙ (f (rw w at g) ∙ sym w)

  alike_walked : (at at' : ℕ) {level : ℕ} (ks : List Command) → Command.run level ∈ ks → {o : Owner} {s s' : State} → Alike o s s'
      → SameEnd at at' (concat_map bytes_of ks) s s'
  unfolding concat_map
  alike_walked at at' [] m h = elim m [ ]
  alike_walked at at' (k ∷ ks) (Memᴰ.head q) h =
      command_walked at at' k _ h (rw (← q) (λ g. rw (run_alike t.limits c _ h) (walk_elsewhere t job job' _ _ (concat_map bytes_of ks) _ g)))
  alike_walked at at' (k ∷ ks) (Memᴰ.tail m) h = command_walked at at' k _ h (alike_walked (at + length (bytes_of k)) (at' + length (bytes_of k)) ks m (after_alike t.limits c k h))

-- The bytes `first` lead to c and s, in which the owner of number n is added or opened. Behind them stand an add of it and other commands,
-- with a run among them; or those commands alone.
module _ (t : Terms) (first : List ℕ) {c : Catalogue} {s : State} (e : progress t first (run_step t first) ≡ carrying c s) where
  first_led : walked t first ≡ carrying c s
  first_led = sym (taken_progress t first (goes_taken t first (rw e carries))) ∙ e

  behind_first : (job more : List ℕ)
      → walk (run_step t job) 0 0 (first ++ more) (reading empty_catalogue) ≡ walk (run_step t job) 0 (0 + length first) more (carrying c s)
  behind_first job more = rw (← first_led) (walk_on t first job 0 0 0 first more (reading empty_catalogue) zero-le (rw first_led carries))

  module _ (n : ℕ) (a : Already (owner_of n) s.opening) {level : ℕ} (ks : List Command) (m : Command.run level ∈ ks) where
    abbrev with_add : List ℕ
    with_add = first ++ concat_map bytes_of (Command.add n ∷ ks)

    abbrev without_add : List ℕ
    without_add = first ++ concat_map bytes_of ks

    without_walked : walked t without_add ≡ walk (run_step t without_add) 0 (0 + length first) (concat_map bytes_of ks) (carrying c s)
    without_walked = behind_first without_add (concat_map bytes_of ks)

    with_walked : walked t with_add
        ≡ walk (run_step t with_add) 0 (0 + length first + length (bytes_of (Command.add n))) (concat_map bytes_of ks)
        (carrying c (carried_out t.limits c (Command.add n) s))
    unfolding concat_map
    with_walked =
        let j = carried_job t first e in
        behind_first with_add (concat_map bytes_of (Command.add n ∷ ks))
        ∙ walk_passed t with_add _ (Command.add n) (concat_map bytes_of ks) carried (add_passes j.0 j.1 n a)

    shorter : length without_add ≤ length with_add
    unfolding concat_map
    shorter = simp length-append (omega arith)

    alike_added : Alike (owner_of n) s (carried_out t.limits c (Command.add n) s)
    alike_added = added_again t.limits c n s a

    -- accepted with the add, the job is accepted without it
    pub add_left_out : {c' : Catalogue} {s' : State}
        → outcome t (first ++ concat_map bytes_of (Command.add n ∷ ks)) ≡ accepted c' s' → outcome t (first ++ concat_map bytes_of ks) ≡ accepted c' s'
    add_left_out r =
        let g = leads_goes (accepted_led t with_add r) in
        let same = alike_walked t with_add without_add c _ _ ks m (alike_sym alike_added) (rw with_walked at g) in
        let taken = taken_shorter t with_add without_add shorter (accepted_taken t with_add r) in
        accepted_alike t with_add without_add taken (without_walked ∙ (same ∙ sym with_walked)) r

    -- accepted without it, the job is accepted with the add, if that is not overlong
    pub add_put_in : {c' : Catalogue} {s' : State} → length (first ++ concat_map bytes_of (Command.add n ∷ ks)) ≤ 65536
        → outcome t (first ++ concat_map bytes_of ks) ≡ accepted c' s' → outcome t (first ++ concat_map bytes_of (Command.add n ∷ ks)) ≡ accepted c' s'
    add_put_in b r =
        let g = leads_goes (accepted_led t without_add r) in
        let same = alike_walked t without_add with_add c _ _ ks m alike_added (rw without_walked at g) in
        let taken : Taken t with_add = record { fit = (accepted_taken t without_add r).fit; short = le-ltb 65536 (length with_add) b } in
        accepted_alike t without_add with_add taken (with_walked ∙ (same ∙ sym without_walked)) r
