-- The flags of goals: a served requirement settles its goal's candidates, and no task unsettles any.
use mathlib.Core.Path.{◌≡◌, refl, sym, ◌∙◌}
use mathlib.Core.Bool.{Bool, true, false, true≢false}
use mathlib.Core.List.Memᴰ
use mathlib.Core.List.{List, [], ◌++◌}
use Prim.Native.Nat.{ℕ, zero, suc, ◌+◌, ◌-◌, ◌<◌}
use native.Mathlib.Omega.{arith}
use lib.Dec.{eqb, ltb}
use lib.ListN.{length, get_or, set, replicate}
use lib.Seq.{get_or-set_other}
use borrow.Author.Tests.{eqb-true, eqb-false, lt-ltb, le-ltb}
use Rattle.rules.specs.Lists.{elem, distinct, fold}
use Rattle.rules.specs.Catalogue.{Goal, range, union, Catalogue, no_requirement, goal_at}
use Rattle.rules.specs.Candidates.{sorted, goal_ranges, candidates}
use Rattle.rules.specs.Variables.{part_origin}
use Rattle.rules.specs.Opening.{requirement, Opening, fired_parts, name_for_tracking, open_ready, mark_handled, serve_requirement, serve}
use Rattle.rules.specs.Encoding.{origins, task_origins, served}
use Rattle.rules.specs.State.{State, set_opening, Run}
use Rattle.rules.specs.Run.{serve_task}
use Rattle.rules.specs.Called.{◌∈◌}
use Rattle.rules.proofs.Bools.{by_cases, or_right}
use Rattle.rules.proofs.Membership.{in_left, map_in, concat_map_in, fold_gives}
use Rattle.rules.proofs.Effects.{emit_leaves}
use Rattle.rules.proofs.Grows.{either}
use Rattle.rules.proofs.Places.{with_variables_known}
use Rattle.rules.proofs.DistinctEnough.{distinct_out, passed_over, tracking_once, ReadyOpened, ready_once}
use Rattle.rules.proofs.WellFormed.{GoalGiven}
use Rattle.requirement.specs.declared.ConditionalRequirement.{ConditionalRequirement}
use Rattle.requirement.specs.declared.Requirement.TheVariants.{Single, Union}
use Rattle.requirement.specs.Requirements.{goal_of, requirement_is}
use Rattle.tables.specs.declared.Counts.{Counts}
use Rattle.tables.specs.Tables.{tables}
use Rattle.cache.specs.Areas.{catalogue}
use Rattle.cache.proofs.Laws.{ranges_held, unions_held}
use Rattle.state.specs.declared.Limits.{Limits}
use Rattle.line.specs.declared.Task.{Task}
use Rattle.encoder.specs.declared.Counters.{Counters}
use Rattle.encoder.specs.declared.State as encoder
use Rattle.encoder.specs.Held.{Reading, opening_of, state_of}
use Rattle.encoder.specs.Does.{IsGoodWith, Does}
use Rattle.index.specs.Catalogued.{Catalogued}
use Rattle.owners.specs.Owners.{serving}
use Rattle.firing.proofs.Required.{goal_is, goal_given}
use Rattle.naming.specs.Settled.{Settled, AllSettled, Settles}
use Rattle.naming.specs.Alike.{AlikeDoes, ClausesDoAlike}
use Rattle.naming.proofs.Settled.{any_stands, Stands}
use Rattle.naming.proofs.AlikeDid.{settled_done, settled_stand, clauses_alike_all, does_alike}
use Rattle.serving.specs.Flags.{goal_from, Flagged, AreFlagged}
use Rattle.serving.specs.Line.{from}
use Rattle.serving.specs.Serving.{served_as}
use Rattle.serving.proofs.Stands.{each_stands, ready_stands, serving_stands, served_stands}
use Rattle.serving.proofs.Tasks.{as_kind}

-- ---- a served requirement settles its goal's candidates

module _ (c : Catalogue) (q : ℕ) (is : List ℕ) (p : ℕ) (m : p ∈ candidates c (goal_at c q)) where
  abbrev ps : List ℕ
  ps = candidates c (goal_at c q)

  tracked_after : (o : Opening) → passed_over c p (serve_requirement c q is o) ≡ true
  unfolding serve_requirement
  tracked_after o =
      let u = fold (name_for_tracking c) (ps ++ fired_parts c q is) (mark_handled q is o) in
      let t : passed_over c p u ≡ true = fold_gives (λ w. passed_over c p w ≡ true) (name_for_tracking c) (ps ++ fired_parts c q is) (in_left (fired_parts c q is) m)
      ((tracking_once c).does p) (λ y. (tracking_once c).keeps p y) (mark_handled q is o) in
      let k = each_stands (open_ready c) (ready_stands c) ps u in
      either _ _ _ _ (any_stands _ k.several) (any_stands _ k.named) t

  opened_after : (o : Opening) → ReadyOpened c p (serve_requirement c q is o)
  unfolding serve_requirement
  opened_after o = fold_gives (ReadyOpened c p) (open_ready c) ps m ((ready_once c).does p) (λ y. (ready_once c).keeps p y) _

  settled_after : (r : Run) (s : State) → Settled c (serving c r (requirement q is) s) p
  unfolding serving serve_task serve
  settled_after r s =
      let o = serve_requirement c q is s.opening in
      let k = emit_leaves c r (served (requirement q is)) (set_opening o s) in
      record {
        known = rw k.variables (unfold origins task_origins in with_variables_known _ s.variables (part_origin p) (Memᴰ.tail (in_left _ (map_in part_origin m))));
        noted = rw k.opening (or_right (elem p (serve_requirement c q is s.opening).tracked) _ (tracked_after s.opening));
        opened = rw k.opening (opened_after s.opening);
      }

pub requirement_settles : (c : Catalogue) (r : Run) (q : ℕ) (is : List ℕ) (s : State)
    → AllSettled c (distinct (goal_ranges c (goal_at c q))) (serving c r (requirement q is) s)
unfolding candidates
requirement_settles c r q is s =
    record { each = λ x p a b. settled_after c q is p (concat_map_in (sorted c) (goal_ranges c (goal_at c q)) (distinct_out (goal_ranges c (goal_at c q)) x a) b) r s }

-- ---- the flags

pub none_in : (k i : ℕ) → get_or (replicate k false) i false ≡ false
none_in zero i = refl
none_in (suc k) zero = refl
none_in (suc k) (suc i) = none_in k i

-- none is set
pub flagged_none : {c : Catalogue} {l : Limits} {n : Counters} {st : ℕ → List ℕ} (k : ℕ) → Flagged c l (replicate k false) n st
flagged_none k = record { settles = λ i h. absurd (true≢false (sym h ∙ none_in k i)) }

-- one more
flagged_set : {c : Catalogue} {l : Limits} {flags : List Bool} {n : Counters} {st : ℕ → List ℕ} (i : ℕ) → Settles c l (distinct (goal_ranges c (goal_from i))) n st → Flagged c l flags n st
    → Flagged c l (set flags i true) n st
flagged_set {flags = flags} i h f =
    record {
      settles = λ j k. by_cases (eqb j i) (λ e. rw (eqb-true j i e) h) (λ e. f.settles j (sym (get_or-set_other flags i j true false (eqb-false j i e)) ∙ k));
    }

-- none is lost where nothing is unsettled
module _ {c : Catalogue} {flags : List Bool} {x x' : encoder.State} where
  pub flagged_stand : {F : Reading → State → State} {cl wt cl' wt' : List ℕ} → AlikeDoes c F x cl wt x' cl' wt' → IsGoodWith c x cl wt
      → ((v : Reading) (s : State) → Stands s.opening (F v s).opening) → AreFlagged c flags x → AreFlagged c flags x'
  flagged_stand d g k f = record { settles = λ i h. settled_stand d g k (f.settles i h) }

  -- a requirement is, and its goal flagged
  pub flagged_more : (r : Run) (q : ℕ) (is : List ℕ) (i : ℕ) {cl cl' : List ℕ} → goal_from i ≡ goal_at c q
      → ClausesDoAlike c (λ v. serving c r (requirement q is)) x cl x' cl' → IsGoodWith c x cl [] → AreFlagged c flags x → AreFlagged c (set flags i true) x'
  flagged_more r q is i e d g f =
      let k = clauses_alike_all {wt = []} d in
      flagged_set i (rw e (settled_done k g (λ v. requirement_settles c r q is))) (flagged_stand k g (λ v. serving_stands c r (requirement q is)) f)

  -- any task is served
  pub kind_served : (r : Run) (ds : List (ℕ × ℕ)) {cl wt cl' wt' : List ℕ} {t k : Task} → t ≡ k → Does c (λ v. served_as c r ds v k) x cl wt x' cl' wt'
      → IsGoodWith c x cl wt → AreFlagged c flags x → AlikeDoes c (λ v. served_as c r ds v t) x cl wt x' cl' wt' × AreFlagged c flags x'
  kind_served r ds {k = k} i d g f = (as_kind r ds i (does_alike d), flagged_stand (does_alike d) g (λ v. served_stands c r ds v k) f)

-- the flag says that the requirement's candidates are settled
pub flag_settles : {c : Catalogue} {l : Limits} {flags : List Bool} {n : Counters} {st : ℕ → List ℕ} (q i : ℕ) → goal_from i ≡ goal_at c q → Flagged c l flags n st
    → get_or flags i false ≡ true → Settles c l (distinct (goal_ranges c (goal_at c q))) n st
flag_settles q i e f h = rw e at (f.settles i h)

-- the line's head is moved
pub flagged_from : {c : Catalogue} {l : Limits} {flags : List Bool} {n : Counters} {st : ℕ → List ℕ} (first : ℕ) → Flagged c l flags n st → Flagged c l flags (from first n) st
flagged_from first f = record { settles = λ i h. from_settles (f.settles i h) }
  where
    from_settles : {c : Catalogue} {l : Limits} {rs : List ℕ} {n : Counters} {st : ℕ → List ℕ} → Settles c l rs n st → Settles c l rs (from first n) st
    from_settles h =
        unfold from state_of opening_of in
        record {
          held = λ e v cl wt. let x = h.held e v cl wt in
              record { each = λ r p a b. let y = x.each r p a b in record { known = y.known; noted = y.noted; opened = y.opened } };
        }

-- ---- places

range_from : (r : ℕ) → r < 512 → goal_from r ≡ range r
unfolding goal_from
range_from r h = rw (lt-ltb r 512 h)

union_from : (u : ℕ) → goal_from (512 + u) ≡ union u
unfolding goal_from
union_from u =
    let past : ltb (512 + u) 512 ≡ false = le-ltb (512 + u) 512 (omega arith) in
    let same : 512 + u - 512 ≡ u = omega arith in
    rw (past, same)

-- the place of a requirement's goal
module _ (k : Counts) (m us t : List ℕ) (q : ℕ) (it : ConditionalRequirement) (e : requirement_is it ≡ get_or (tables k t).requirements q no_requirement)
    (w : Catalogued k m us t) (h : q < k.requirements) where
  goal_here : (g : Goal) → goal_of it.requirement ≡ g → GoalGiven (catalogue k m us t) g × (goal_at (catalogue k m us t) q ≡ g)
  goal_here g i = (rw i at (goal_given k m us t q it e w h), goal_is k m us t q it e ∙ i)

  pub range_placed : (r : ℕ) → it.requirement ≡ Single r → (r < 640) × (goal_from r ≡ goal_at (catalogue k m us t) q)
  range_placed r i =
      let here = goal_here (range r) (unfold goal_of in rw i) in
      let low : r < length (catalogue k m us t).ranges = here.0 in
      let below : r < 512 = omega (arith, ranges_held k m us t, w.kept.held.laid.ranges) in
      (omega arith, range_from r below ∙ sym here.1)

  pub union_placed : (u : ℕ) → it.requirement ≡ Union u → (512 + u < 640) × (goal_from (512 + u) ≡ goal_at (catalogue k m us t) q)
  union_placed u i =
      let here = goal_here (union u) (unfold goal_of in rw i) in
      let low : u < length (catalogue k m us t).unions = here.0 in
      (omega (arith, unions_held k m us t, w.kept.held.laid.unions), union_from u ∙ sym here.1)
