-- The list at hand against its code: one number more, and the ranges of a goal, each once.
use mathlib.Core.Path.{◌≡◌, refl, sym, ap, ◌∙◌}
use mathlib.Core.Bool.{Bool, true, false}
use mathlib.Core.List.{List, [], ◌∷◌}
use Prim.Native.Nat.{ℕ, ◌+◌, ◌<◌, ◌≤◌}
use native.Mathlib.Omega.{arith}
use lib.ListN.{length, get_or}
use Rattle.rules.specs.Lists.{fold, distinct}
use Rattle.rules.specs.Catalogue.{Catalogue, union}
use Rattle.rules.specs.Candidates.{goal_ranges}
use Rattle.rules.proofs.WellFormed.{GoalGiven}
use Rattle.requirement.specs.declared.Requirement.{Requirement}
use Rattle.requirement.specs.declared.Requirement.TheVariants.{Single, Union}
use Rattle.requirement.specs.Requirements.{goal_of}
use Rattle.tables.specs.declared.Counts.{Counts}
use Rattle.unions.specs.declared.Member.{Member}
use Rattle.unions.specs.Unions.{Row, no_row, rows, row_of, before}
use Rattle.unions.proofs.Laws.{range_low}
use Rattle.cache.specs.Areas.{catalogue}
use Rattle.cache.proofs.Laws.{ranges_held, unions_held}
use Rattle.index.specs.Members.{At, Passes}
use Rattle.index.proofs.Unions.{union_ranges, distinct_start, distinct_step, ranges_end, at_next}
use Rattle.state.specs.declared.Limits.{Limits}
use Rattle.state.specs.Layout.{held, Fits}
use Rattle.state.specs.Changed.{Changed}
use Rattle.state.proofs.Changed.{changed_none, changed_then}
use Rattle.marked.specs.Marked.{listed, is_marked, Marked, Free, Pushed}
use Rattle.marked.proofs.Laws.{free_after, listed_after, mark_room}
use Rattle.index.specs.Catalogued.{Catalogued}
use Rattle.encoder.specs.declared.State.{State}
use Rattle.encoder.specs.Does.{regions_of}
use Rattle.goals.specs.Goals.{noted, Notes, Written, HandNotes, HandGathers}

-- ---- the area alone is written

pub written_same : {x : State} → Written x x
written_same = record { limits = refl; area = refl; used = refl }

pub written_then : {x x' x'' : State} → Written x x' → Written x' x'' → Written x x''
written_then d k = record { limits = k.limits ∙ d.limits; area = k.area ∙ d.area; used = k.used ∙ d.used }

-- ---- one number more

pub note_free : (l : Limits) (bytes : List ℕ) {m x : ℕ} (b : Bool) → Fits l (length bytes) → Marked 14 15 m (held l bytes) → x < 512
    → b ≡ is_marked 15 x (held l bytes) → b ≡ false → Free 14 15 m x (held l bytes)
note_free l bytes {m} {x} b f k h e d = free_after b k (mark_room l bytes 15 x (omega arith) h f) e d

module _ {m x : ℕ} {st : ℕ → List ℕ} (b : Bool) (k : Marked 14 15 m st) (e : b ≡ is_marked 15 x st) where
  pub note_there : b ≡ true → Notes x m st m st
  unfolding noted
  note_there h = record { marked = k; is = rw (sym (listed_after x b k e) ∙ h); others = changed_none (14 ∷ 15 ∷ []) st }

  pub note_new : {r : ℕ} {st' : ℕ → List ℕ} → b ≡ false → Pushed 14 15 m x st r st' → Notes x m st r st'
  unfolding noted
  note_new h p = record { marked = p.marked; is = p.list ∙ rw (sym (listed_after x b k e) ∙ h); others = p.others }

-- ---- the ranges of a union

-- a row as the lent rows have it
pub member_is : {n n' : ℕ} {us us' : List ℕ} (i : ℕ) (a : Member) → us' ≡ us → n' ≡ n → row_of a ≡ get_or (rows n' us') i no_row → row_of a ≡ get_or (rows n us) i no_row
member_is i a e f q = rw (e, f) at q

-- the loop at place i: the list at hand is that of the rows before
pub record Gathering (k : Counts) (us : List ℕ) (u : ℕ) (x₀ x : State) (m i : ℕ) : Type 0 where
  pub written : Written x₀ x
  pub marked : Marked 14 15 m (regions_of x)
  pub others : Changed (14 ∷ 15 ∷ []) (regions_of x₀) (regions_of x)
  pub at : At k.members (rows k.members us) u i
  pub is : listed m 14 (regions_of x) ≡ distinct (before u i (rows k.members us))

module _ (k : Counts) (ms us t : List ℕ) (u : ℕ) (c : Catalogued k ms us t) where
  pub gather_start : (x : State) (i : ℕ) → Marked 14 15 0 (regions_of x) → Passes k (rows k.members us) u 0 i → Gathering k us u x x 0 i
  unfolding listed
  gather_start x i d p =
      record { written = written_same; marked = d; others = changed_none (14 ∷ 15 ∷ []) (regions_of x); at = p.at; is = sym (distinct_start k ms us t c.kept p) }

  module _ {x₀ x : State} {m i : ℕ} (g : Gathering k us u x₀ x m i) where
    pub gather_step : (a : Member) {x' : State} {m' i' : ℕ} → i < k.members → row_of a ≡ get_or (rows k.members us) i no_row → HandNotes a.range m x m' x'
        → Passes k (rows k.members us) (get_or (rows k.members us) i no_row).union (i + 1) i' → Gathering k us u x₀ x' m' i'
    unfolding noted
    gather_step a h e q y =
        record {
          written = written_then g.written q.written;
          marked = rw q.written.limits q.notes.marked;
          others = rw q.written.limits (changed_then g.others q.notes.others);
          at = at_next k ms us t c.kept g.at a h e y;
          is = rw (q.written.limits, distinct_step k ms us t c.kept g.at a h e y) (rw g.is at q.notes.is);
        }

    pub gather_end : k.members ≤ i → HandGathers (distinct (goal_ranges (catalogue k ms us t) (union u))) x₀ m x
    gather_end h =
        record {
          written = g.written;
          gathers = record {
            marked = rw g.written.limits at g.marked;
            is = (rw g.written.limits at g.is) ∙ rw (ranges_end k ms us t c.kept u i h, union_ranges k ms us t c.kept u);
            others = rw g.written.limits at g.others;
          };
        }

pub gather_low : (k : Counts) (us : List ℕ) (i : ℕ) (a : Member) → i < k.members → row_of a ≡ get_or (rows k.members us) i no_row → a.range < 512
unfolding row_of
gather_low k us i a h e =
    let is : a.range ≡ (get_or (rows k.members us) i no_row).range = ap (λ (r : Row). r.range) e in
    omega (arith, range_low k.members us i h)

-- ---- the ranges of a goal

module _ (k : Counts) (ms us t : List ℕ) (q : Requirement) (c : Catalogued k ms us t) (g : GoalGiven (catalogue k ms us t) (goal_of q)) where
  pub range_given : (r : ℕ) → q ≡ Single r → r < 512
  unfolding goal_of
  range_given r e =
      let h : r < length (catalogue k ms us t).ranges = rw e at g in
      omega (arith, ranges_held k ms us t)

  pub union_given : (u : ℕ) → q ≡ Union u → u < k.unions
  unfolding goal_of
  union_given u e =
      let h : u < length (catalogue k ms us t).unions = rw e at g in
      omega (arith, unions_held k ms us t)

module _ (c : Catalogue) (q : Requirement) {m : ℕ} {x x' : State} where
  pub gather_range : (r : ℕ) → q ≡ Single r → HandNotes r 0 x m x' → HandGathers (distinct (goal_ranges c (goal_of q))) x m x'
  unfolding goal_of goal_ranges distinct fold noted listed
  gather_range r e n = record { written = n.written; gathers = record { marked = n.notes.marked; is = rw e n.notes.is; others = n.notes.others } }

  pub gather_union : (u : ℕ) → q ≡ Union u → HandGathers (distinct (goal_ranges c (union u))) x m x' → HandGathers (distinct (goal_ranges c (goal_of q))) x m x'
  unfolding goal_of
  gather_union u e n = rw e n
