-- Whether a disjunct of a condition holds, and conditions that are blocked: as long as no watched part is decided true, none of their disjuncts holds.
use Prim.Native.Nat.{zero-le}
use Rattle.std.specs.Prelude.{◌≡◌, Bool, true, false, not, ◌||◌, List, [], Option, Some, None, ℕ, ◌%◌, ◌<◌, ◌≤◌, eqb, length, get_or, set}
use Rattle.rules.specs.AtMostOne.{bit}
use Rattle.rules.specs.Lists.{any, all}
use Rattle.rules.specs.Called.{◌∈◌}
use Rattle.rules.specs.Catalogue.{Catalogue, Condition}
use Rattle.rules.specs.Candidates.{matching}
use Rattle.rules.specs.Conditions.{Disjunct, disjuncts}
use Rattle.rules.specs.Opening.{holds_now}
use Rattle.tables.specs.declared.Counts.{Counts}
use Rattle.conditions.specs.declared.Disjunct as code
use Rattle.conditions.specs.Disjuncts.{Carries}
use Rattle.marks.specs.Marks.{is_marked}
use Rattle.cache.specs.Areas.{catalogue}
use Rattle.entries.specs.Deferred.{is_held}
use Rattle.encoder.specs.declared.State.{State}
use Rattle.encoder.specs.Does.{IsMapped, IsTracked}
use Rattle.blocking.specs.declared.Shared.{Shared}
use Rattle.blocking.specs.declared.Listing.{Listing}
use Rattle.blocking.specs.declared.Verdict.{Verdict}
use Rattle.blocking.specs.declared.Known.{Known}
use Rattle.blocking.specs.declared.Barrier.{Barrier}
use Rattle.blocking.specs.declared.Blocking.{Blocking}

-- each disjunct of condition x has a range that passes
pub record Barred (cs : List Condition) (f : ℕ → Bool) (x : ℕ) : Type 0 where
  pub each : (d : Disjunct) → d ∈ disjuncts cs x → any f d ≡ true

-- ---- watched parts: range r is of class r % 16, and bit j of what stands at a part tells whether it is watched for a range of class j

-- part p is watched for range r, or for another of its class
unfoldable pub watched_for : (watched : List ℕ) → (r p : ℕ) → Bool
watched_for watched r p = bit (r % 16) (get_or watched p 0)

-- every matching part of range r is watched for it
unfoldable pub all_watched : Catalogue → (watched : List ℕ) → ℕ → Bool
all_watched c watched r = all (watched_for watched r) (matching c r)

-- no watched part is decided true
pub record Unmet (true? : ℕ → Bool) (watched : List ℕ) : Type 0 where
  pub none : (p : ℕ) → is_held watched p ≡ true → true? p ≡ false

-- matching parts of range r are watched besides: if b is true all of them
pub record PartsWatched (c : Catalogue) (r : ℕ) (b : Bool) (watched watched' : List ℕ) : Type 0 where
  pub still : (i p : ℕ) → watched_for watched i p ≡ true → watched_for watched' i p ≡ true
  pub all : b ≡ true → all_watched c watched' r ≡ true
  pub unmet : (f : ℕ → Bool) → any f (matching c r) ≡ false → Unmet f watched → Unmet f watched'

-- ---- what is blocked

-- condition x is
unfoldable pub is_blocked : Blocking → ℕ → Bool
is_blocked s x = get_or s.conditions x false

-- range r is
abbrev pub blocks_range : Barrier → Bool
blocks_range Barrier.Open = false
blocks_range Barrier.Blocked = true
blocks_range Barrier.TooWide = false

unfoldable pub range_blocked : Blocking → ℕ → Bool
range_blocked s r = blocks_range (get_or s.ranges r Barrier.Open)

-- nothing is blocked or watched
pub record NothingBlocked (s : Blocking) : Type 0 where
  pub conditions : (x : ℕ) → is_blocked s x ≡ false
  pub ranges : (r : ℕ) → range_blocked s r ≡ false
  pub watched : (p : ℕ) → is_held s.watched p ≡ false

-- each disjunct of a blocked condition has a range whose matching parts are watched, so are those of a blocked range, and no watched part is decided true
pub record Blocked (c : Catalogue) (true? : ℕ → Bool) (s : Blocking) : Type 0 where
  pub given : (x : ℕ) → is_blocked s x ≡ true → x < length c.conditions
  pub barred : (x : ℕ) → is_blocked s x ≡ true → Barred c.conditions (all_watched c s.watched) x
  pub ranges : (r : ℕ) → range_blocked s r ≡ true → (r < length c.ranges) × (all_watched c s.watched r ≡ true)
  pub unmet : Unmet true? s.watched

-- each origin has one variable, and each variable one value at most
pub record Sees (x : State) : Type 0 where
  pub mapped : IsMapped x
  pub kept : IsTracked x

-- if b is true no disjunct of condition x holds; what is blocked stays so
pub record Blocks (c : Catalogue) (true? : ℕ → Bool) (x : ℕ) (b : Bool) (s s' : Blocking) : Type 0 where
  pub none : b ≡ true → Blocked c true? s → (d : Disjunct) → d ∈ disjuncts c.conditions x → holds_now c true? d ≡ false
  pub keeps : Blocked c true? s → Blocked c true? s'

-- ---- blocked ranges

-- range r is blocked if b is true, and what was blocked still is: rightly if the range does not hold
pub record RangeBars (c : Catalogue) (r : ℕ) (b : Bool) (s s' : Blocking) : Type 0 where
  pub still : (i : ℕ) → range_blocked s i ≡ true → range_blocked s' i ≡ true
  pub is : b ≡ true → range_blocked s' r ≡ true
  pub keeps : (f : ℕ → Bool) → any f (matching c r) ≡ false → Blocked c f s → Blocked c f s'

-- ---- verdicts

-- none of the matching parts of range r is decided true
unfoldable pub fails : Catalogue → (true? : ℕ → Bool) → ℕ → Bool
fails c true? r = not (any true? (matching c r))

-- the verdicts of condition x and of range r
abbrev pub condition_at : Known → ℕ → Verdict
condition_at vs x = get_or vs.conditions x Verdict.Unasked

abbrev pub range_at : Known → ℕ → Verdict
range_at vs r = get_or vs.ranges r Verdict.Unasked

-- nothing was asked
pub record NothingAsked (vs : Known) : Type 0 where
  pub conditions : (x : ℕ) → condition_at vs x ≡ Verdict.Unasked
  pub ranges : (r : ℕ) → range_at vs r ≡ Verdict.Unasked

-- what verdict v of range r says: that it holds, nothing, any other, that it does not hold, and that it is barred, that it is blocked
pub record RangeSays (c : Catalogue) (true? : ℕ → Bool) (s : Blocking) (r : ℕ) (v : Verdict) : Type 0 where
  pub fails : (v ≡ Verdict.Holds → ⊥) → fails c true? r ≡ true
  pub barred : v ≡ Verdict.Barred → range_blocked s r ≡ true

-- the same of condition x: each disjunct has such a range
pub record Says (c : Catalogue) (true? : ℕ → Bool) (s : Blocking) (x : ℕ) (v : Verdict) : Type 0 where
  pub fails : (v ≡ Verdict.Holds → ⊥) → Barred c.conditions (fails c true?) x
  pub barred : v ≡ Verdict.Barred → Barred c.conditions (range_blocked s) x

-- what is blocked is so rightly, and the verdicts are right of what was asked
pub record Right (c : Catalogue) (true? : ℕ → Bool) (vs : Known) (s : Blocking) : Type 0 where
  pub flags : Blocked c true? s
  pub ranges : (r : ℕ) → (range_at vs r ≡ Verdict.Unasked → ⊥) → RangeSays c true? s r (range_at vs r)
  pub conditions : (x : ℕ) → (condition_at vs x ≡ Verdict.Unasked → ⊥) → Says c true? s x (condition_at vs x)

-- more was asked: ranges are blocked besides, and what is right stays so
pub record Grows (c : Catalogue) (true? : ℕ → Bool) (vs : Known) (s : Blocking) (vs' : Known) (s' : Blocking) : Type 0 where
  pub still : (r : ℕ) → range_blocked s r ≡ true → range_blocked s' r ≡ true
  pub keeps : Right c true? vs s → Right c true? vs' s'

-- range r was: v is its verdict
pub record RangeJudged (c : Catalogue) (true? : ℕ → Bool) (r : ℕ) (v : Verdict) (vs : Known) (s : Blocking) (vs' : Known) (s' : Blocking) : Type 0 where
  pub grows : Grows c true? vs s vs' s'
  pub says : Right c true? vs s → RangeSays c true? s' r v

-- condition x was
pub record Judged (c : Catalogue) (true? : ℕ → Bool) (x : ℕ) (v : Verdict) (vs : Known) (s : Blocking) (vs' : Known) (s' : Blocking) : Type 0 where
  pub grows : Grows c true? vs s vs' s'
  pub says : Right c true? vs s → Says c true? s' x v

-- the verdict of condition x is kept, which has a place
pub record KeptVerdict (x : ℕ) (v : Verdict) (vs vs' : Known) : Type 0 where
  pub inside : x < length vs.conditions
  pub is : vs' ≡ record vs { conditions = set vs.conditions x v }

-- where the left half of an `or` does not hold the right one tells; but not that it is barred: the left half tells that
abbrev pub of_or : (first second : Verdict) → Verdict
of_or first Verdict.Barred = first
of_or first Verdict.Unasked = Verdict.Unasked
of_or first Verdict.Holds = Verdict.Holds
of_or first Verdict.Fails = Verdict.Fails

-- ---- part p is decided true

-- nothing else is blocked than before
pub record Fewer (s s' : Blocking) : Type 0 where
  pub conditions : s'.conditions ≡ s.conditions
  pub before : (r : ℕ) → range_blocked s' r ≡ true → range_blocked s r ≡ true
  pub watched : s'.watched ≡ s.watched

-- if p is a member of range r, that is not blocked
pub record ReleasesRange (m : List ℕ) (p r : ℕ) (s s' : Blocking) : Type 0 where
  pub fewer : Fewer s s'
  pub free : is_marked m r p ≡ true → range_blocked s' r ≡ false

-- no range of class j is that p is a member of
pub record ReleasesClass (ranges : ℕ) (m : List ℕ) (p j : ℕ) (s s' : Blocking) : Type 0 where
  pub fewer : Fewer s s'
  pub free : (r : ℕ) → r < ranges → r % 16 ≡ j → is_marked m r p ≡ true → range_blocked s' r ≡ false

-- nor is one of a class whose bit is set in v
pub record ReleasesWatched (ranges : ℕ) (m : List ℕ) (p v : ℕ) (s s' : Blocking) : Type 0 where
  pub fewer : Fewer s s'
  pub free : (r : ℕ) → r < ranges → bit (r % 16) v ≡ true → is_marked m r p ≡ true → range_blocked s' r ≡ false

-- where no part but p was made true, and there are so many ranges, what is blocked now is so rightly
pub record Releases (ranges : ℕ) (m : List ℕ) (p : ℕ) (s s' : Blocking) : Type 0 where
  pub is : (k : Counts) (u t : List ℕ) → k.ranges ≡ ranges → {true? now? : ℕ → Bool} → ((q : ℕ) → (q ≡ p → ⊥) → now? q ≡ true? q)
      → Blocked (catalogue k m u t) true? s → Blocked (catalogue k m u t) now? s'

-- ---- the disjuncts of one condition, listed

abbrev pub no_disjunct : code.Disjunct
no_disjunct = record { ranges = []; len = 0; bounded = zero-le }

abbrev pub disjunct_in : Listing → ℕ → code.Disjunct
disjunct_in l i = get_or l.disjuncts i no_disjunct

-- disjunct i of condition x stands in the listing
pub record Stands (cs : List Condition) (l : Listing) (x i : ℕ) : Type 0 where
  pub is : Carries (disjunct_in l i) (get_or (disjuncts cs x) i [])

-- all disjuncts of condition x do
pub record AllStand (cs : List Condition) (l : Listing) (x : ℕ) : Type 0 where
  pub few : length (disjuncts cs x) ≤ 64
  pub each : (i : ℕ) → i < length (disjuncts cs x) → Stands cs l x i

-- the range that is named, if one is, is below `most`
pub record Named (most : ℕ) (v : Option ℕ) : Type 0 where
  pub low : (r : ℕ) → v ≡ Some r → r < most

-- and each disjunct of condition x has it
pub record Shares (cs : List Condition) (x : ℕ) (v : Option ℕ) : Type 0 where
  pub named : Named 512 v
  pub is : (r : ℕ) → v ≡ Some r → Barred cs (eqb r) x

-- two ranges, if they are named, that each disjunct of condition x has
abbrev pub shared_of : Listing → ℕ → Shared
shared_of l x = get_or l.shared x (record { first = None; second = None })

-- all disjuncts of the condition do that is listed, if one is; and two ranges are shared of each condition, if they are named
pub record Listed (cs : List Condition) (l : Listing) : Type 0 where
  pub is : (x : ℕ) → l.listed ≡ Some x → AllStand cs l x
  pub first : (x : ℕ) → Shares cs x (shared_of l x).first
  pub second : (x : ℕ) → Shares cs x (shared_of l x).second

-- nothing is listed
pub record NothingListed (l : Listing) : Type 0 where
  pub listed : l.listed ≡ None
  pub first : (x : ℕ) → (shared_of l x).first ≡ None
  pub second : (x : ℕ) → (shared_of l x).second ≡ None

-- ---- a condition by the ranges that its disjuncts share

-- a blocked range is named
abbrev pub names_blocked : Blocking → Option ℕ → Bool
names_blocked s None = false
names_blocked s (Some r) = range_blocked s r

-- one that the disjuncts of condition x share is
unfoldable pub shared_bars : Listing → Blocking → (x : ℕ) → Bool
shared_bars l s x = names_blocked s (shared_of l x).first || names_blocked s (shared_of l x).second

-- if b is true a range is named that is blocked now; what is blocked stays so
pub record AskedBars (c : Catalogue) (true? : ℕ → Bool) (v : Option ℕ) (b : Bool) (s s' : Blocking) : Type 0 where
  pub is : b ≡ true → names_blocked s' v ≡ true
  pub keeps : Blocked c true? s → Blocked c true? s'

-- ---- a condition by its list

-- the ranges of a disjunct are below `most`
pub record Row (most : ℕ) (d : code.Disjunct) : Type 0 where
  pub short : d.len ≤ 16
  pub given : (j : ℕ) → j < d.len → get_or d.ranges j 0 < most

-- range `place` of it is blocked
pub record RowBarred (d : code.Disjunct) (s : Blocking) : Type 0 where
  pub place : ℕ
  pub inside : place < d.len
  pub is : range_blocked s (get_or d.ranges place 0) ≡ true

-- if b is true a range of it is
pub record RowBars (d : code.Disjunct) (s : Blocking) (b : Bool) : Type 0 where
  pub is : b ≡ true → RowBarred d s

-- a range of the disjunct is blocked if b is true
pub record DisjunctBars (c : Catalogue) (true? : ℕ → Bool) (d : code.Disjunct) (b : Bool) (vs : Known) (s : Blocking) (vs' : Known) (s' : Blocking) : Type 0 where
  pub grows : Grows c true? vs s vs' s'
  pub is : b ≡ true → Right c true? vs s → RowBarred d s'

-- a range of each disjunct of condition x is
pub record EachBars (c : Catalogue) (true? : ℕ → Bool) (x : ℕ) (b : Bool) (vs : Known) (s : Blocking) (vs' : Known) (s' : Blocking) : Type 0 where
  pub grows : Grows c true? vs s vs' s'
  pub barred : b ≡ true → Right c true? vs s → Barred c.conditions (range_blocked s') x
