-- Names are opened: of a range, of a union's ranges one after another, of a goal.
use mathlib.Core.Path.{◌≡◌, refl, sym, ap, ◌∙◌}
use mathlib.Core.Bool.{Bool, true}
use mathlib.Core.List.{List, [], ◌∷◌, ◌++◌}
use Prim.Native.Nat.{ℕ, ◌+◌, ◌<◌, ◌≤◌}
use native.Mathlib.Omega.{arith}
use lib.ListN.{length, get_or}
use Rattle.rules.specs.Lists.{snoc, fold, distinct}
use Rattle.rules.specs.Catalogue.{union, Catalogue, range_name}
use Rattle.rules.specs.Candidates.{goal_ranges}
use Rattle.rules.specs.Opening.{Opening, open_name, open_names}
use Rattle.rules.proofs.ListLaws.{All}
use Rattle.rules.proofs.DistinctEnough.{fold_append, names_distinct}
use Rattle.rules.proofs.WellFormed.{GoalGiven, WellFormed}
use Rattle.requirement.specs.declared.Requirement.{Requirement}
use Rattle.requirement.specs.declared.Requirement.TheVariants.{Single, Union}
use Rattle.requirement.specs.Requirements.{goal_of}
use Rattle.tables.specs.declared.Counts.{Counts}
use Rattle.tables.specs.Tables.{tables}
use Rattle.unions.specs.declared.Member.{Member}
use Rattle.unions.specs.Unions.{no_row, rows, row_of, ranges_of, left, before}
use Rattle.unions.proofs.Laws.{length_rows, left_here, before_left}
use Rattle.cache.specs.Areas.{catalogue}
use Rattle.cache.proofs.Laws.{names_held, ranges_held, unions_held, range_name_held, union_held}
use Rattle.index.specs.Members.{At, Passes}
use Rattle.index.specs.Indexed.{Indexed}
use Rattle.index.proofs.Unions.{union_ranges, distinct_snoc, distinct_start, distinct_step, ranges_end, at_next}
use Rattle.marked.specs.Marked.{is_marked}
use Rattle.encoder.specs.declared.State.{State}
use Rattle.encoder.specs.Did.{on_opening}
use Rattle.encoder.specs.Does.{StateDoes, PlainDoes, IsGood, regions_of}
use Rattle.encoder.proofs.Does.{does_same, does_then, does_none, at_catalogue, good_then}
use Rattle.opening.proofs.Opens.{open_name_again}

-- ---- a range

module _ (k : Counts) (m us t : List ℕ) where
  pub range_low : {r x : ℕ} → WellFormed (catalogue k m us t) → Indexed k m us t → r < k.ranges → x ≡ get_or (tables k t).ranges r 0 → x < 64
  range_low {r} {x} w h b e =
      let given : r < length (catalogue k m us t).ranges = rw ranges_held b in
      let low = (w.ranges r given).name in
      let is : x ≡ range_name (catalogue k m us t) r = e ∙ sym (range_name_held k m us t r) in
      omega (arith, names_held k m us t, h.held.laid.names)

  pub range_opened : {z z' : State} (r x : ℕ) → x ≡ get_or (tables k t).ranges r 0 → PlainDoes (λ c v. on_opening (open_name x)) z z'
      → StateDoes (catalogue k m us t) (λ v. on_opening (open_name (range_name (catalogue k m us t) r))) z z'
  range_opened r x e d = does_same (at_catalogue d) (λ v s. rw (range_name_held k m us t r, ← e))

  pub range_open : {z : State} (r x : ℕ) {b : Bool} → x ≡ get_or (tables k t).ranges r 0 → IsGood (catalogue k m us t) z → b ≡ is_marked 4 x (regions_of z) → b ≡ true
      → StateDoes (catalogue k m us t) (λ v. on_opening (open_name (range_name (catalogue k m us t) r))) z z
  range_open {z} r x e g i h = range_opened r x e (record { limits = refl; area = refl; did = λ c. open_name_again c z.limits z.used x g.good.state.names i h })

-- ---- a union

names_none : (c : Catalogue) (o : Opening) → open_names c [] o ≡ o
unfolding open_names fold
names_none c o = refl

names_more : (c : Catalogue) (rs : List ℕ) (r : ℕ) (o : Opening) → open_name (range_name c r) (open_names c rs o) ≡ open_names c (snoc rs r) o
unfolding open_names snoc fold
names_more c rs r o = sym (fold_append (λ (x : ℕ). open_name (range_name c x)) rs (r ∷ []) o)

all_middle : {A : Type 0} (P : A → Type 0) (xs : List A) (y : A) (ys : List A) → All P (xs ++ (y ∷ ys)) → P y
all_middle P [] y ys a = a.0
all_middle P (x ∷ xs) y ys a = all_middle P xs y ys a.1

-- the names of ranges with the same distinct ones
names_alike : (c : Catalogue) (xs ys : List ℕ) (o : Opening) → distinct xs ≡ distinct ys → open_names c xs o ≡ open_names c ys o
names_alike c xs ys o e = names_distinct c xs o ∙ (rw e (sym (names_distinct c ys o)))

-- the loop at place i: the names of the ranges seen are opened, those of the rows before but for repeats
pub record Opened (k : Counts) (m us t : List ℕ) (u : ℕ) (z₀ : State) (i : ℕ) (z : State) : Type 0 where
  pub indexed : Indexed k m us t
  pub seen : List ℕ
  pub at : At k.members (rows k.members us) u i
  pub ranges : distinct seen ≡ distinct (before u i (rows k.members us))
  pub good : IsGood (catalogue k m us t) z
  pub does : StateDoes (catalogue k m us t) (λ v. on_opening (open_names (catalogue k m us t) seen)) z₀ z

-- a row as the lent rows have it
pub member_is : {n n' : ℕ} {us us' : List ℕ} (i : ℕ) (x : Member) → us' ≡ us → n' ≡ n → row_of x ≡ get_or (rows n' us') i no_row → row_of x ≡ get_or (rows n us) i no_row
member_is i x e f q = rw (e, f) at q

module _ {k : Counts} {m us t : List ℕ} {u : ℕ} where
  pub opened_start : {z : State} {i : ℕ} → Indexed k m us t → IsGood (catalogue k m us t) z → Passes k (rows k.members us) u 0 i → Opened k m us t u z i z
  unfolding distinct fold
  opened_start d g x =
      record {
        indexed = d;
        seen = [];
        at = x.at;
        ranges = sym (distinct_start k m us t d x);
        good = g;
        does = does_none (λ v s. unfold on_opening in rw (names_none (catalogue k m us t) s.opening));
      }

  module _ {z₀ z : State} {i : ℕ} (o : Opened k m us t u z₀ i z) where
    pub union_range : (x : Member) → WellFormed (catalogue k m us t) → u < k.unions → i < k.members
        → row_of x ≡ get_or (rows k.members us) i no_row → x.range < k.ranges
    union_range x w h b e =
        let rs = rows k.members us in
        let given : u < length (catalogue k m us t).unions = rw unions_held h in
        let all = rw (union_held k m us t u h, ← before_left u i rs, left_here u i rs (rw length_rows b) (o.at.here b)) at (w.unions u given) in
        let low : (get_or rs i no_row).range < length (catalogue k m us t).ranges = all_middle _ (before u i rs) (get_or rs i no_row).range (left u (i + 1) rs) all in
        let is : x.range ≡ (get_or rs i no_row).range = rw (← e) (unfold row_of in refl) in
        omega (arith, ranges_held k m us t)

    pub opened_step : {z' : State} {j : ℕ} (x : Member) → i < k.members → row_of x ≡ get_or (rows k.members us) i no_row
        → StateDoes (catalogue k m us t) (λ v. on_opening (open_name (range_name (catalogue k m us t) x.range))) z z'
        → Passes k (rows k.members us) (get_or (rows k.members us) i no_row).union (i + 1) j → Opened k m us t u z₀ j z'
    opened_step x h e d y =
        record {
          indexed = o.indexed;
          seen = snoc o.seen x.range;
          at = at_next k m us t o.indexed o.at x h e y;
          ranges = distinct_snoc o.seen x.range ∙ rw (o.ranges, ← distinct_step k m us t o.indexed o.at x h e y);
          good = good_then d o.good;
          does = does_same (does_then o.does d) (λ v s. unfold on_opening in rw (names_more (catalogue k m us t) o.seen x.range s.opening));
        }

    pub opened_end : k.members ≤ i
        → StateDoes (catalogue k m us t) (λ v. on_opening (open_names (catalogue k m us t) (goal_ranges (catalogue k m us t) (union u)))) z₀ z
    opened_end h =
        does_same o.does
        (λ v s. unfold on_opening in
        rw (
          union_ranges k m us t o.indexed u,
          names_alike (catalogue k m us t) o.seen (ranges_of u (rows k.members us)) s.opening (o.ranges ∙ ap distinct (ranges_end k m us t o.indexed u i h)),
        ))

-- ---- a goal

module _ (k : Counts) (m us t : List ℕ) {g : Requirement} {x : ℕ} where
  pub single_given : g ≡ Single x → GoalGiven (catalogue k m us t) (goal_of g) → x < k.ranges
  single_given e h =
      let low : x < length (catalogue k m us t).ranges = unfold goal_of in rw e at h in
      omega (arith, ranges_held k m us t)

  pub union_given : g ≡ Union x → GoalGiven (catalogue k m us t) (goal_of g) → x < k.unions
  union_given e h =
      let low : x < length (catalogue k m us t).unions = unfold goal_of in rw e at h in
      omega (arith, unions_held k m us t)

module _ {g : Requirement} {x : ℕ} {c : Catalogue} {z z' : State} where
  pub single_opened : g ≡ Single x → StateDoes c (λ v. on_opening (open_name (range_name c x))) z z' → StateDoes c (λ v. on_opening (open_names c (goal_ranges c (goal_of g)))) z z'
  single_opened e d = does_same d (λ v s. rw e (unfold goal_of goal_ranges open_names fold in refl))

  pub union_opened : g ≡ Union x → StateDoes c (λ v. on_opening (open_names c (goal_ranges c (union x)))) z z' → StateDoes c (λ v. on_opening (open_names c (goal_ranges c (goal_of g)))) z z'
  union_opened e d = does_same d (λ v s. rw e (unfold goal_of in refl))
