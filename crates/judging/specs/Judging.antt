-- What is kept while the disjuncts of a condition are judged: verdicts for the disjuncts of each condition that is worked out, and the flags that come of them.
use Rattle.std.specs.Prelude.{◌≡◌, Bool, true, false, List, [], ℕ, ◌+◌, ◌*◌, ◌<◌, length, get_or}
use Rattle.rules.specs.Lists.{any}
use Rattle.rules.specs.Candidates.{matching}
use Rattle.rules.specs.Catalogue.{Condition, Catalogue}
use Rattle.rules.specs.Conditions.{Disjunct, disjuncts}
use Rattle.rules.specs.Opening.{holds_now}
use Rattle.tables.specs.declared.Counts.{Counts}
use Rattle.tables.specs.Tables.{tables}
use Rattle.cache.specs.Areas.{catalogue}
use Rattle.encoder.specs.declared.State.{State}
use Rattle.encoder.specs.Does.{IsMapped, IsTracked}
use Rattle.goals.specs.Goals.{truth_of}
use Rattle.index.specs.Catalogued.{Catalogued}
use Rattle.judging.specs.declared.Verdict.{Verdict}
use Rattle.judging.specs.declared.Verdict.TheVariants.{Unknown, Holds, Fails}
use Rattle.judging.specs.declared.Known.{Known}

-- ---- verdicts of disjuncts

-- the verdict of a range or a disjunct, by whether it holds
abbrev pub verdict_of : Bool → Verdict
verdict_of true = Holds
verdict_of false = Fails

-- that of two together
abbrev pub both : Verdict → Verdict → Verdict
both Unknown w = w
both Holds w = w
both Fails w = Fails

-- whether it says that a disjunct holds
abbrev pub says_holds : Verdict → Bool
says_holds Unknown = false
says_holds Holds = true
says_holds Fails = false

-- the verdicts of each of vs together with each of ws stand in a row
pub record Pairs (vs ws row : List Verdict) : Type 0 where
  pub here : (i j : ℕ) → i < length vs → j < length ws → get_or row (i * length ws + j) Unknown ≡ both (get_or vs i Unknown) (get_or ws j Unknown)

-- those of vs stand in a row, and behind them those of ws
pub record Either (vs ws row : List Verdict) : Type 0 where
  pub ahead : (i : ℕ) → i < length vs → get_or row i Unknown ≡ get_or vs i Unknown
  pub behind : (j : ℕ) → j < length ws → get_or row (length vs + j) Unknown ≡ get_or ws j Unknown

-- ---- conditions that are worked out

-- the verdicts of condition x, where it is worked out, and that of range r
abbrev pub row_of : Known → ℕ → List Verdict
row_of known x = get_or known.disjuncts x []

abbrev pub verdict_at : Known → (x i : ℕ) → Verdict
verdict_at known x i = get_or (row_of known x) i Unknown

abbrev pub range_at : Known → ℕ → Verdict
range_at known r = get_or known.ranges r Unknown

-- nothing is worked out
pub record Nothing (known : Known) : Type 0 where
  pub disjuncts : (x i : ℕ) → verdict_at known x i ≡ Unknown
  pub ranges : (r : ℕ) → range_at known r ≡ Unknown

-- the verdicts are right: where the first one of a condition is there, all of them are
pub record Verdicts (c : Catalogue) (cs : List Condition) (true? : ℕ → Bool) (known : Known) : Type 0 where
  pub is : (x i : ℕ) → (verdict_at known x 0 ≡ Unknown → ⊥) → i < length (disjuncts cs x) → verdict_at known x i ≡ verdict_of (holds_now c true? (get_or (disjuncts cs x) i []))
  pub ranges : (r : ℕ) → (range_at known r ≡ Unknown → ⊥) → range_at known r ≡ verdict_of (any true? (matching c r))

-- there is a place for range r, and the verdicts that are kept are right
pub record AsksRange (k : Counts) (m u t : List ℕ) (state : State) (known : Known) (r : ℕ) : Type 0 where
  pub catalogued : Catalogued k m u t
  pub mapped : IsMapped state
  pub kept : IsTracked state
  pub right : Verdicts (catalogue k m u t) (tables k t).conditions (truth_of state) known
  pub given : r < 512

-- v is the verdict of range r, and the conditions that were worked out still are
pub record RangeAsked (c : Catalogue) (cs : List Condition) (true? : ℕ → Bool) (r : ℕ) (v : Verdict) (known known' : Known) : Type 0 where
  pub is : v ≡ verdict_of (any true? (matching c r))
  pub right : Verdicts c cs true? known'
  pub still : (y : ℕ) → (verdict_at known y 0 ≡ Unknown → ⊥) → verdict_at known' y 0 ≡ Unknown → ⊥

-- condition x is there, and the verdicts that are kept are right
pub record Asks (k : Counts) (m u t : List ℕ) (state : State) (known : Known) (x : ℕ) : Type 0 where
  pub catalogued : Catalogued k m u t
  pub mapped : IsMapped state
  pub kept : IsTracked state
  pub right : Verdicts (catalogue k m u t) (tables k t).conditions (truth_of state) known
  pub given : x < k.conditions

-- condition x is worked out, as are those that were
pub record WorkedOut (c : Catalogue) (cs : List Condition) (true? : ℕ → Bool) (x : ℕ) (before after : Known) : Type 0 where
  pub right : Verdicts c cs true? after
  pub known : verdict_at after x 0 ≡ Unknown → ⊥
  pub still : (y : ℕ) → (verdict_at before y 0 ≡ Unknown → ⊥) → verdict_at after y 0 ≡ Unknown → ⊥

-- ---- flags

-- a flag for each of these verdicts
pub record Flags (row : List Verdict) (flags : List Bool) : Type 0 where
  pub is : (i : ℕ) → get_or flags i false ≡ says_holds (get_or row i Unknown)

-- a flag for each of these disjuncts, by whether it holds
pub record Judged (c : Catalogue) (true? : ℕ → Bool) (ds : List Disjunct) (flags : List Bool) : Type 0 where
  pub is : (i : ℕ) → i < length ds → get_or flags i false ≡ holds_now c true? (get_or ds i [])
