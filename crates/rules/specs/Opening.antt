-- The opening: which owners and names a job opens, what is handled, fired, waiting, drawn and tracked.
-- A machine of its own. It knows no variable and no clause; of the decisions it asks only "is this part decided true".
use Rattle.std.specs.Prelude.{Bool, true, false, not, ◌&&◌, ◌||◌, List, [], ◌∷◌, ◌++◌, map, ℕ, eqb}
use Rattle.rules.specs.Lists.{filter, any, all, elem, snoc, concat_map, fold, when, unless, distinct}
use Rattle.rules.specs.Catalogue.{Owner, part, Catalogue, part_at, constraint_at, several_allowed, name_of, range_name, goal_at, condition_at, same_owner, unknown_owner}
use Rattle.rules.specs.Candidates.{matching, non_matching, goal_ranges, candidates, requirements_of, constraints_of}
use Rattle.rules.specs.Conditions.{Disjunct, disjunct_at, indices, unconditional, is_condition}

-- Requirements and constraints by record number. A requirement's task has the disjuncts that it is fired for; an unconditional one has none.
pub data Task : Type 0 where
  owner : Owner → Task
  name : ℕ → Task
  condition : (requirement : ℕ) → Task
  requirement : (requirement : ℕ) (fired : List ℕ) → Task
  constraint : (constraint : ℕ) → Task

pub record Opening : Type 0 where
  pub owners : List Owner  -- opened owners, in order
  pub names : List ℕ  -- opened names, in order
  pub several : List ℕ  -- names whose own task was served, with several allowed
  pub handled : List ℕ  -- requirement records handled
  pub fired : List (ℕ × ℕ)  -- fired disjuncts: requirement record and index
  pub waiting : List (ℕ × ℕ)  -- the same of those that wait, in order of arrival
  pub drawn : List (ℕ × ℕ)  -- drawn since the last run
  pub added : List Owner  -- added since the last run
  pub named : List ℕ  -- parts that this run named for tracking, once each
  pub tracked : List ℕ  -- parts in order of joining
  pub line : List Task  -- tasks queued and not yet in the line of the run

abbrev pub set_owners : List Owner → Opening → Opening
set_owners x s = record { owners = x; names = s.names; several = s.several; handled = s.handled; fired = s.fired; waiting = s.waiting; drawn = s.drawn; added = s.added; named = s.named; tracked = s.tracked; line = s.line }

abbrev pub set_names : List ℕ → Opening → Opening
set_names x s = record { owners = s.owners; names = x; several = s.several; handled = s.handled; fired = s.fired; waiting = s.waiting; drawn = s.drawn; added = s.added; named = s.named; tracked = s.tracked; line = s.line }

abbrev pub set_several : List ℕ → Opening → Opening
set_several x s = record { owners = s.owners; names = s.names; several = x; handled = s.handled; fired = s.fired; waiting = s.waiting; drawn = s.drawn; added = s.added; named = s.named; tracked = s.tracked; line = s.line }

abbrev pub set_handled : List ℕ → Opening → Opening
set_handled x s = record { owners = s.owners; names = s.names; several = s.several; handled = x; fired = s.fired; waiting = s.waiting; drawn = s.drawn; added = s.added; named = s.named; tracked = s.tracked; line = s.line }

abbrev pub set_fired : List (ℕ × ℕ) → Opening → Opening
set_fired x s = record { owners = s.owners; names = s.names; several = s.several; handled = s.handled; fired = x; waiting = s.waiting; drawn = s.drawn; added = s.added; named = s.named; tracked = s.tracked; line = s.line }

abbrev pub set_waiting : List (ℕ × ℕ) → Opening → Opening
set_waiting x s = record { owners = s.owners; names = s.names; several = s.several; handled = s.handled; fired = s.fired; waiting = x; drawn = s.drawn; added = s.added; named = s.named; tracked = s.tracked; line = s.line }

abbrev pub set_drawn : List (ℕ × ℕ) → Opening → Opening
set_drawn x s = record { owners = s.owners; names = s.names; several = s.several; handled = s.handled; fired = s.fired; waiting = s.waiting; drawn = x; added = s.added; named = s.named; tracked = s.tracked; line = s.line }

abbrev pub set_added : List Owner → Opening → Opening
set_added x s = record { owners = s.owners; names = s.names; several = s.several; handled = s.handled; fired = s.fired; waiting = s.waiting; drawn = s.drawn; added = x; named = s.named; tracked = s.tracked; line = s.line }

abbrev pub set_named : List ℕ → Opening → Opening
set_named x s = record { owners = s.owners; names = s.names; several = s.several; handled = s.handled; fired = s.fired; waiting = s.waiting; drawn = s.drawn; added = s.added; named = x; tracked = s.tracked; line = s.line }

abbrev pub set_tracked : List ℕ → Opening → Opening
set_tracked x s = record { owners = s.owners; names = s.names; several = s.several; handled = s.handled; fired = s.fired; waiting = s.waiting; drawn = s.drawn; added = s.added; named = s.named; tracked = x; line = s.line }

abbrev pub set_line : List Task → Opening → Opening
set_line x s = record { owners = s.owners; names = s.names; several = s.several; handled = s.handled; fired = s.fired; waiting = s.waiting; drawn = s.drawn; added = s.added; named = s.named; tracked = s.tracked; line = x }

abbrev pub unopened : Opening
unopened = record { owners = []; names = []; several = []; handled = []; fired = []; waiting = []; drawn = []; added = []; named = []; tracked = []; line = [] }

-- ---- "Owners and names open once in a job": opening is queueing

unfoldable pub queue : Task → Opening → Opening
queue t s = set_line (snoc s.line t) s

unfoldable pub open_owner : Owner → Opening → Opening
open_owner o s = unless (any (same_owner o) s.owners) (λ (u : Opening). queue (owner o) (set_owners (snoc u.owners o) u)) s

unfoldable pub open_name : ℕ → Opening → Opening
open_name n s = unless (elem n s.names) (λ (u : Opening). queue (name n) (set_names (snoc u.names n) u)) s

unfoldable pub mark_handled : ℕ → List ℕ → Opening → Opening
mark_handled q is s = set_fired (s.fired ++ map (λ i. (q, i)) is) (set_handled (snoc s.handled q) s)

unfoldable pub add : Owner → Opening → Opening
add o s = set_added (unless (any (same_owner o) s.added) (λ os. snoc os o) s.added) s

module _ (c : Catalogue) where
  unfoldable pub open_names : List ℕ → Opening → Opening
  open_names rs s = fold (λ r. open_name (range_name c r)) rs s

  abbrev pub ranges_of : ℕ → List ℕ
  ranges_of q = goal_ranges c (goal_at c q)

  -- ---- "A known owner's unconditional requirements and its constraints open their names first"

  unfoldable pub ranges_first : Owner → List ℕ
  ranges_first o = concat_map ranges_of (filter (unconditional c) (requirements_of c o)) ++ map (λ k. (constraint_at c k).range) (constraints_of c o)

  unfoldable pub task_by : Bool → ℕ → Task
  task_by true q = requirement q []
  task_by false q = condition q

  unfoldable pub tasks_of : Owner → List Task
  tasks_of o = map (λ q. task_by (unconditional c q) q) (requirements_of c o) ++ map constraint (constraints_of c o)

  unfoldable pub serve_owner : Owner → Opening → Opening
  serve_owner o s = unless (unknown_owner c o) (λ u. fold queue (tasks_of o) (open_names (ranges_first o) u)) s

  unfoldable pub serve_name : ℕ → Opening → Opening
  serve_name n s = when (several_allowed c n) (λ (u : Opening). set_several (snoc u.several n) u) s

  -- ---- conditions; `true?` says which parts are decided true

  -- "each range has a matching part decided true"
  unfoldable pub holds_now : (ℕ → Bool) → Disjunct → Bool
  holds_now true? d = all (λ r. any true? (matching c r)) d

  unfoldable pub entry_holds : (ℕ → Bool) → ℕ → ℕ → Bool
  entry_holds true? q i = holds_now true? (disjunct_at c q i)

  -- "A fired or drawn requirement opens its names before it is handled"
  unfoldable pub fire : ℕ → List ℕ → Opening → Opening
  fire q [] s = s
  fire q (i ∷ is) s = queue (requirement q (i ∷ is)) (open_names (ranges_of q) s)

  -- "When its task is served a disjunct fires if ..; otherwise it waits"
  unfoldable pub serve_condition : (ℕ → Bool) → ℕ → Opening → Opening
  serve_condition true? q s =
      let stay = filter (λ i. not (entry_holds true? q i)) (indices c q) in
      fire q (filter (entry_holds true? q) (indices c q)) (set_waiting (s.waiting ++ map (λ i. (q, i)) stay) s)

  -- ---- a requirement is handled

  -- "the non-matching parts of a fired range"
  unfoldable pub fired_parts : ℕ → List ℕ → List ℕ
  fired_parts q is = concat_map (λ i. concat_map (non_matching c) (disjunct_at c q i)) is

  -- "unless their name has by then been opened with several allowed": its task served, not merely queued
  unfoldable pub name_for_tracking : ℕ → Opening → Opening
  name_for_tracking p s = unless (elem (name_of c p) s.several || elem p s.named) (λ (u : Opening). set_named (snoc u.named p) u) s

  -- "A handled requirement opens those candidates that are ready"
  unfoldable pub open_ready : ℕ → Opening → Opening
  open_ready p s = when (part_at c p).ready (open_owner (part p)) s

  unfoldable pub serve_requirement : ℕ → List ℕ → Opening → Opening
  serve_requirement q is s =
      let ps = candidates c (goal_at c q) in
      fold open_ready ps (fold name_for_tracking (ps ++ fired_parts q is) (mark_handled q is s))

  unfoldable pub serve : (ℕ → Bool) → Task → Opening → Opening
  serve true? (owner o) s = serve_owner o s
  serve true? (name n) s = serve_name n s
  serve true? (condition q) s = serve_condition true? q s
  serve true? (requirement q is) s = serve_requirement q is s
  serve true? (constraint k) s = s

  -- ---- the sheet's part, and a run's two ends

  -- "Draw removes exactly the entries that then hold, in order"
  unfoldable pub is_drawn : (ℕ → Bool) → ℕ → ℕ × ℕ → Bool
  is_drawn true? k e = is_condition k (condition_at c e.0) && entry_holds true? e.0 e.1

  unfoldable pub draw : (ℕ → Bool) → ℕ → Opening → Opening
  draw true? k s =
      set_drawn (s.drawn ++ filter (is_drawn true? k) s.waiting)
      (set_waiting (filter (λ (e : ℕ × ℕ). not (is_drawn true? k e)) s.waiting) s)

  -- the added owners in order, then the drawn entries, each a task of its own
  unfoldable pub begin_run : Opening → Opening
  begin_run s = fold (λ (e : ℕ × ℕ). fire e.0 (e.1 ∷ [])) s.drawn (fold open_owner s.added (set_added [] (set_drawn [] s)))

  -- "They join at the end of the run": name by name as first named, within a name as named
  unfoldable pub joining : Opening → List ℕ
  joining s =
      let names = distinct (map (name_of c) s.named) in
      filter (λ p. not (elem p s.tracked)) (concat_map (λ n. filter (λ p. eqb (name_of c p) n) s.named) names)

  unfoldable pub end_run : Opening → Opening
  end_run s = set_named [] (set_tracked (s.tracked ++ joining s) s)

  unfoldable pub tracked_of : ℕ → List ℕ → List ℕ
  tracked_of n ps = filter (λ p. eqb (name_of c p) n) ps
