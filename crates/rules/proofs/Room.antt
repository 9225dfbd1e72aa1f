-- Tables of fixed size have room: the lists of an opening are no longer than the catalogue's own, whose ceilings are 1,024 parts and 64 names, and
-- there are no more decisions than variables; so it is between two records and at every point of a run.
use mathlib.Core.Path.{◌≡◌, refl, ap}
use mathlib.Core.Logic.{◌≢◌}
use mathlib.Core.List.{List, [], ◌∷◌, ◌++◌, map}
use Prim.Native.Nat.{ℕ, suc, ◌<◌, ◌≤◌}
use native.Mathlib.Nat.{le_refl}
use native.Mathlib.Omega.{arith}
use lib.ListN.{length, length-map}
use Rattle.rules.specs.Catalogue.{Owner, root, part, Catalogue}
use Rattle.rules.specs.Items.{ceiling}
use Rattle.rules.specs.Decisions.{Decision}
use Rattle.rules.specs.Opening.{Task, requirement, Opening, queue, open_owner, open_name, mark_handled, name_for_tracking, open_ready}
use Rattle.rules.specs.State.{State, decided_true, Run}
use Rattle.rules.specs.Run.{begun}
use Rattle.rules.specs.Limits.{Limits}
use Rattle.rules.proofs.ListLaws.{All, all_weaken, all_map}
use Rattle.rules.proofs.MemberLaws.{all_in}
use Rattle.rules.proofs.Each.{Pairwise, each_out}
use Rattle.rules.proofs.Membership.{in_left, map_out, Once, empty, once}
use Rattle.rules.proofs.Reached.{Given, Reached}
use Rattle.rules.proofs.WellFormed.{OwnerGiven, WellFormed, well_formed}
use Rattle.rules.proofs.Line.{serve_task_opening, After, begins, serves, first_line, first_state, run_from}
use Rattle.rules.proofs.Valid.{TaskGiven, ValidOpening, ValidPoint, queue_valid, open_owner_valid, open_name_valid, naming_valid, ready_valid, mark_handled_valid, valid, first_valid, point_valid}
use Rattle.rules.proofs.RunLaws.{Within, serve_task_within}
use Rattle.rules.proofs.Decided.{DecidedIn, InRun, within_run, decided}
use Rattle.rules.proofs.Queueing.{queue_keeps, open_owner_keeps, open_name_keeps, ready_keeps}
use Rattle.rules.proofs.NamedOnce.{NamedOnce, stable, naming_once, begin_once, serve_once}
use Rattle.rules.proofs.HelperCounts.{few_below, tracked_once}
use Rattle.rules.proofs.Unrepeated.{name_in, Unrepeated, queue_unrepeated, open_owner_unrepeated, open_name_unrepeated, naming_unrepeated, ready_unrepeated, unrepeated, unrepeated_at}

-- ---- lists without repeats, by numbers that tell the elements apart

once_map : {A B : Type 0} (f : A → B) → ((x y : A) → f x ≡ f y → x ≡ y) → {xs : List A} → Once xs → Once (map f xs)
once_map f apart empty = empty
once_map f apart (once {x = x} {xs = xs} n p) =
    once (λ m. let z = map_out f xs m in n (rw (apart x z.0 z.2) z.1)) (once_map f apart p)

-- a list without repeats of numbers below n has at most n
pub pigeonhole : (n : ℕ) {xs : List ℕ} → Once xs → All (λ x. x < n) xs → length xs ≤ n
pigeonhole n {xs} p h = few_below n p (λ x m. all_in (λ x. x < n) xs h m)

owner_number : Owner → ℕ
owner_number root = 0
owner_number (part p) = suc p

owners_apart : (v w : Owner) → owner_number v ≡ owner_number w → v ≡ w
unfolding owner_number
owners_apart root root e = refl
owners_apart root (part q) e = let none : ⊥ = omega arith in absurd none
owners_apart (part p) root e = let none : ⊥ = omega arith in absurd none
owners_apart (part p) (part q) e = ap part (omega arith)

owner_below : (c : Catalogue) (w : Owner) → OwnerGiven c w → owner_number w < suc (length c.parts)
unfolding owner_number
owner_below c root h = omega arith
owner_below c (part p) h = omega arith

owners_fit : (c : Catalogue) {ws : List Owner} → Once ws → All (OwnerGiven c) ws → length ws ≤ suc (length c.parts)
owners_fit c {ws} p h =
    rw (length-map ws owner_number) at (pigeonhole (suc (length c.parts)) (once_map owner_number owners_apart p)
    (all_map (λ x. x < suc (length c.parts)) owner_number ws (all_weaken (OwnerGiven c) _ (owner_below c) ws h)))

-- ---- the opening

pub record Roomy (c : Catalogue) (o : Opening) : Type 0 where
  pub owners : length o.owners ≤ suc (length c.parts)
  pub added : length o.added ≤ suc (length c.parts)
  pub names : length o.names ≤ length c.names
  pub several : length o.several ≤ length c.names
  pub named : length o.named ≤ length c.parts
  pub tracked : length o.tracked ≤ length c.parts

once_left : {A : Type 0} (xs ys : List A) → Once (xs ++ ys) → Once xs
once_left [] ys p = empty
once_left (x ∷ xs) ys (once n p) = once (λ m. n (in_left ys m)) (once_left xs ys p)

pub several_once : {ts : List Task} {o : Opening} → Unrepeated ts o → Once o.several
several_once {o = o} u = once_left o.several _ u.due

pub roomy : {c : Catalogue} {ts : List Task} {o : Opening} → ValidOpening c o → Unrepeated ts o → NamedOnce o → Roomy c o
roomy {c} v u n =
    record {
      owners = owners_fit c u.owners v.owners;
      added = owners_fit c u.added v.added;
      names = pigeonhole (length c.names) u.names v.names;
      several = pigeonhole (length c.names) (several_once u) v.several;
      named = pigeonhole (length c.parts) n.0 v.named;
      tracked = pigeonhole (length c.parts) n.1 v.tracked;
    }

-- by the catalogue's ceilings
pub record Fits (o : Opening) : Type 0 where
  pub owners : length o.owners ≤ 1025
  pub added : length o.added ≤ 1025
  pub names : length o.names ≤ 64
  pub several : length o.several ≤ 64
  pub named : length o.named ≤ 1024
  pub tracked : length o.tracked ≤ 1024

pub fits : {c : Catalogue} {o : Opening} → WellFormed c → Roomy c o → Fits o
unfolding ceiling
fits w r =
    let parts = w.ceilings.parts in
    let names = w.ceilings.names in
    record {
      owners = omega (arith, r.owners);
      added = omega (arith, r.added);
      names = omega (arith, r.names);
      several = omega (arith, r.several);
      named = omega (arith, r.named);
      tracked = omega (arith, r.tracked);
    }

-- ---- within a task, step by step

-- an opening behind which the tasks `ts` are in the line: its numbers are given, its lists without repeats
pub record Orderly (c : Catalogue) (ts : List Task) (o : Opening) : Type 0 where
  pub valid : ValidOpening c o
  pub unrepeated : Unrepeated ts o
  pub named_once : NamedOnce o

pub orderly_fits : {c : Catalogue} → WellFormed c → {ts : List Task} {o : Opening} → Orderly c ts o → Fits o
orderly_fits w p = fits w (roomy p.valid p.unrepeated p.named_once)

module _ (c : Catalogue) (w : WellFormed c) (ts : List Task) where
  pub queue_orderly : (t : Task) → TaskGiven c t → name_in t ≡ [] → (o : Opening) → Orderly c ts o → Orderly c ts (queue t o)
  queue_orderly t h e o p =
      record {
        valid = queue_valid c w t o h p.valid;
        unrepeated = queue_unrepeated ts t e o p.unrepeated;
        named_once = queue_keeps NamedOnce stable t o p.named_once;
      }

  pub open_owner_orderly : (v : Owner) → OwnerGiven c v → (o : Opening) → Orderly c ts o → Orderly c ts (open_owner v o)
  open_owner_orderly v h o p =
      record {
        valid = open_owner_valid c w v o h p.valid;
        unrepeated = open_owner_unrepeated ts v o p.unrepeated;
        named_once = open_owner_keeps NamedOnce stable v o p.named_once;
      }

  pub open_name_orderly : (n : ℕ) → n < length c.names → (o : Opening) → Orderly c ts o → Orderly c ts (open_name n o)
  open_name_orderly n h o p =
      record {
        valid = open_name_valid c w n o h p.valid;
        unrepeated = open_name_unrepeated ts n o p.unrepeated;
        named_once = open_name_keeps NamedOnce stable n o p.named_once;
      }

  pub naming_orderly : (q : ℕ) → q < length c.parts → (o : Opening) → Orderly c ts o → Orderly c ts (name_for_tracking c q o)
  naming_orderly q h o p =
      record {
        valid = naming_valid c w q o h p.valid;
        unrepeated = naming_unrepeated ts c q o p.unrepeated;
        named_once = naming_once c q o p.named_once;
      }

  pub ready_orderly : (q : ℕ) → q < length c.parts → (o : Opening) → Orderly c ts o → Orderly c ts (open_ready c q o)
  ready_orderly q h o p =
      record {
        valid = ready_valid c w q o h p.valid;
        unrepeated = ready_unrepeated ts c q o p.unrepeated;
        named_once = ready_keeps NamedOnce stable c q o p.named_once;
      }

  pub handled_orderly : (q : ℕ) (is : List ℕ) → TaskGiven c (requirement q is) → (o : Opening) → Orderly c ts o → Orderly c ts (mark_handled q is o)
  handled_orderly q is h o p =
      let u = p.unrepeated in
      record {
        valid = mark_handled_valid c w q is o h p.valid;
        unrepeated = unfold mark_handled in record { owners = u.owners; names = u.names; added = u.added; due = u.due; opened = u.opened };
        named_once = unfold mark_handled in p.named_once;
      }

-- ---- decisions: their variables are apart, and each is below the number of variables

variables_apart : {ds : List Decision} → Pairwise (λ (d e : Decision). d.variable ≢ e.variable) ds → Once (map (λ (d : Decision). d.variable) ds)
variables_apart Pairwise.nil = empty
variables_apart (Pairwise.cons {x = d} {xs = ds} apart p) =
    once (λ m. let z = map_out (λ (e : Decision). e.variable) ds m in each_out apart z.1 z.2) (variables_apart p)

pub decisions_few : (s : State) → DecidedIn s → length s.decisions ≤ length s.variables
decisions_few s v =
    let ds = s.decisions in
    let f : Decision → ℕ = λ d. d.variable in
    rw (length-map ds f) at (few_below (length s.variables) (variables_apart v.once)
    (λ x m. let z = map_out f ds m in rw z.2 (each_out v.below z.1)))

-- ---- every reached state, and every point of a run from one

module _ {l : Limits} {c : Catalogue} {s : State} (g : Given c) (reached : Reached l c s) where
  named_once : NamedOnce s.opening
  named_once = (rw (valid g reached).named_empty empty, tracked_once reached)

  pub reached_roomy : Roomy c s.opening
  reached_roomy = roomy (valid g reached).opening (unrepeated g reached) named_once

  pub reached_fits : Fits s.opening
  reached_fits = fits (well_formed g) reached_roomy

  pub reached_decisions : length s.decisions ≤ length s.variables
  reached_decisions = decisions_few s (decided reached)

  module _ (r : Run) where
    -- every number at a point is given: of its tasks' requirements, constraints, owners and names too
    pub point_given : {n : ℕ} {ts : List Task} {u : State} → After c r (first_line c s) (first_state c s) n ts u → ValidPoint c ts u
    point_given a = point_valid c (well_formed g) r (first_valid c (well_formed g) s (valid g reached).opening) a

    pub point_named_once : {n : ℕ} {ts : List Task} {u : State} → After c r (first_line c s) (first_state c s) n ts u → NamedOnce u.opening
    unfolding begun
    point_named_once begins = begin_once c s.opening named_once
    point_named_once (serves {t = t} {s = u} a) = rw (serve_task_opening c r t u) (serve_once c (decided_true u) t u.opening (point_named_once a))

    pub point_orderly : {n : ℕ} {ts : List Task} {u : State} → After c r (first_line c s) (first_state c s) n ts u → Orderly c ts u.opening
    point_orderly a = record { valid = (point_given a).opening; unrepeated = unrepeated_at g reached r a; named_once = point_named_once a }

    pub point_roomy : {n : ℕ} {ts : List Task} {u : State} → After c r (first_line c s) (first_state c s) n ts u → Roomy c u.opening
    point_roomy a = let p = point_orderly a in roomy p.valid p.unrepeated p.named_once

    pub point_fits : {n : ℕ} {ts : List Task} {u : State} → After c r (first_line c s) (first_state c s) n ts u → Fits u.opening
    point_fits a = fits (well_formed g) (point_roomy a)

    point_within : {n : ℕ} {ts : List Task} {u : State} → After c r (first_line c s) (first_state c s) n ts u → Within c r (first_state c s) u
    point_within begins = Within.begins
    point_within (serves {t = t} a) = Within.opens (serve_task_within c (point_within a) t) _

  -- also within a task, an event and a run's end
  pub within_decisions : (r : Run) → r.before ≤ length s.variables → {u : State} → Within c r (first_state c s) u → length u.decisions ≤ length u.variables
  within_decisions r b {u} w = decisions_few u (within_run (first_in_run r b) w).decided_in
    where
      first_in_run : (r : Run) → r.before ≤ length s.variables → InRun r (first_state c s)
      first_in_run r b = unfold begun in record { before = b; decided_in = decided reached }

  pub point_decisions : (level : ℕ) {n : ℕ} {ts : List Task} {u : State} → After c (run_from level s) (first_line c s) (first_state c s) n ts u
      → length u.decisions ≤ length u.variables
  point_decisions level a = within_decisions (run_from level s) (le_refl _) (point_within (run_from level s) a)
