-- The parts outside a range: a law for each way out of what goes through them.
use mathlib.Core.Path.{◌≡◌, refl, sym, ◌∙◌}
use mathlib.Core.Bool.{Bool, true, false, not, ◌&&◌, true≢false}
use mathlib.Core.List.{List, []}
use Prim.Native.Nat.{ℕ, ◌+◌, ◌<◌, ◌≤◌}
use native.Mathlib.Omega.{arith}
use native.Mathlib.Nat.{add-zero}
use native.Mathlib.Decide.{dec_lt}
use lib.ListN.{length}
use Rattle.std.specs.Prelude.{Option, is_some}
use Rattle.rules.specs.Lists.{snoc, when}
use Rattle.rules.specs.Catalogue.{Catalogue}
use Rattle.rules.specs.Variables.{Origin, known, part_origin}
use Rattle.rules.specs.Decisions.{is_true}
use Rattle.rules.proofs.Capped.{add_variable}
use Rattle.rules.proofs.Bools.{by_cases}
use Rattle.tables.specs.declared.Counts.{Counts}
use Rattle.cache.specs.Areas.{catalogue}
use Rattle.cache.specs.Lists.{chosen}
use Rattle.cache.specs.declared.Choice.TheVariants.{NonMatching}
use Rattle.index.specs.Chains.{Skips}
use Rattle.index.proofs.Walking.{walk}
use Rattle.state.specs.declared.Limits.{Limits}
use Rattle.variable_map.specs.Mapping.{found}
use Rattle.solver.specs.declared.Clause.TheVariants as clauses
use Rattle.solver.specs.Rows.{Row, rows}
use Rattle.solver.specs.Clauses.{clause_row, literal_count}
use Rattle.encoder.specs.declared.Run.{Run}
use Rattle.encoder.specs.declared.State as encoder
use Rattle.encoder.specs.Held.{run_of, LongEnough, KnownUnlessFull}
use Rattle.encoder.specs.Did.{Looked, is_full}
use Rattle.encoder.specs.Does.{StateDoes, PlainDoes, ClausesDoes, IsGood, IsGoodWith, variables_of, decisions_of}
use Rattle.encoder.proofs.Does.{does_same, at_catalogue}
use Rattle.storing.specs.Adding.{Stores}
use Rattle.storing.proofs.Storing.{counting, store_more}
use Rattle.storing.proofs.Added.{aux_out_idle}
use Rattle.storing.proofs.Adding.{good_can_add}
use Rattle.parts.specs.declared.Naming.TheVariants.{Variable}
use Rattle.parts.specs.declared.Adding.TheVariants.{AuxOut}
use Rattle.parts.specs.Parts.{selected_of, naming_of, adding_of, parts_for, CanAdd}
use Rattle.parts.proofs.Names.{NamedSoFar, naming_first, naming_step, naming_other, naming_variable, naming_due, due_selected, variable_some, variable_none, known_idle}
use Rattle.parts.proofs.Clauses.{AddedSoFar, aux_out_added, selected_known, adding_selected, adding_other, adding_next}
use Rattle.constraints.specs.Outside.{outside, lacks, Finds, Appends}

-- ---- which parts

pub outside_skips : (c : Catalogue) (r : ℕ) {n from x : ℕ} → Skips n (chosen c r NonMatching) from x → Skips n (selected_of c (outside r)) from x
unfolding selected_of
outside_skips c r s = s

-- ---- those without variables

and_false : (b : Bool) → false ≡ (b && false)
and_false true = refl
and_false false = refl

and_true : (b : Bool) → b ≡ (b && true)
and_true true = refl
and_true false = refl

module _ (c : Catalogue) (vs : List Origin) (r p : ℕ) {x : Option ℕ} (h : x ≡ found vs (part_origin p)) where
  module _ {none : Bool} (z : is_some x ≡ not none) where
    pub lacks_not : none ≡ false → false ≡ lacks c vs r p
    unfolding lacks
    lacks_not i = rw (variable_some vs p x h (rw i at z)) (and_false (selected_of c (outside r) p))

    pub lacks_chosen : {b : Bool} → none ≡ true → b ≡ chosen c r NonMatching p → b ≡ lacks c vs r p
    unfolding lacks selected_of
    lacks_chosen i d = rw (variable_none vs p x h (rw i at z), ← d) (and_true _)

module _ (c : Catalogue) (vs : List Origin) (r : ℕ) {n : ℕ} where
  -- a part that is not outside the range lacks nothing
  fewer : {from x : ℕ} → Skips n (selected_of c (outside r)) from x → Skips n (lacks c vs r) from x
  unfolding lacks
  fewer s = record { onward = s.onward; inside = s.inside; none = λ i a b. rw (s.none i a b) }

  pub find_next : {from p x : ℕ} {b : Bool} → Skips n (lacks c vs r) from p → b ≡ lacks c vs r p → b ≡ false → Skips n (chosen c r NonMatching) (p + 1) x
      → Skips n (lacks c vs r) from x
  find_next {from} {p} {x} s e f z =
      record { onward = (let y = s.onward in let w = z.onward in omega arith); inside = z.inside; none = both }
    where
      here : (i : ℕ) → p ≤ i → i < p + 1 → lacks c vs r i ≡ false
      here i a b = let q : i ≡ p = omega arith in rw q (sym e ∙ f)

      both : (i : ℕ) → from ≤ i → i < x → lacks c vs r i ≡ false
      both i a b = elim (dec_lt i p) [ yes l ↦ s.none i a l | no l ↦ elim (dec_lt i (p + 1)) [ yes w ↦ here i (omega arith) w | no w ↦ (fewer (outside_skips c r z)).none i (omega arith) b ] ]

-- ---- they are named

module _ {c : Catalogue} (r : ℕ) {x : encoder.State} where
  -- a part that is not outside the range, or has its variable, is passed
  name_passed : (i : ℕ) → lacks c (variables_of x) r i ≡ false → StateDoes c (λ v. when (selected_of c (outside r) i) (naming_of c Variable i)) x x
  unfolding lacks
  name_passed i e = by_cases (selected_of c (outside r) i) selected (λ f. naming_other i (outside r) Variable refl f)
    where
      has : (b : Bool) → not b ≡ false → b ≡ true
      has true f = refl
      has false f = sym f

      selected : selected_of c (outside r) i ≡ true → StateDoes c (λ v. when (selected_of c (outside r) i) (naming_of c Variable i)) x x
      selected f =
          let q : not (known (variables_of x) (part_origin i)) ≡ false = rw f at e in
          does_same (known_idle i (has _ q)) (λ v u. unfold when naming_of in rw f)

name_on : {c : Catalogue} {r count p q : ℕ} {x₀ x : encoder.State} → Finds count (lacks c (variables_of x) r) p q
    → NamedSoFar c (outside r) Variable count x₀ x p → NamedSoFar c (outside r) Variable count x₀ x q
name_on {c} {r} {count} {x₀ = x₀} {x} f y =
    walk (NamedSoFar c (outside r) Variable count x₀ x) (λ i h e z. naming_step z h (name_passed r i e)) f.skips y

-- those below p are named, and p is to be
pub record ToName (c : Catalogue) (r count : ℕ) (x₀ x : encoder.State) (p : ℕ) : Type 0 where
  pub done : NamedSoFar c (outside r) Variable count x₀ x p
  pub next : p < count → lacks c (variables_of x) r p ≡ true

module _ {c : Catalogue} {r count : ℕ} {x₀ : encoder.State} where
  pub name_first_law : {p q : ℕ} → IsGood c x₀ → Skips count (chosen c r NonMatching) 0 p → Finds count (lacks c (variables_of x₀) r) p q → ToName c r count x₀ x₀ q
  name_first_law g z f = record { done = name_on f (naming_first g (outside_skips c r z)); next = f.here }

  pub name_next : {x x' : encoder.State} {p q y : ℕ} → ToName c r count x₀ x p → p < count → PlainDoes (λ c v. add_variable (part_origin p)) x x'
      → Skips count (chosen c r NonMatching) (p + 1) q → Finds count (lacks c (variables_of x') r) q y → ToName c r count x₀ x' y
  name_next {x} {p = p} a h d z f =
      record {
        done = name_on f (naming_due a.done h (outside_skips c r z) (due_selected (outside r) p {b = true} (sym is_outside)) refl (naming_variable p (at_catalogue d) Variable refl));
        next = f.here;
      }
    where
      first : (b d : Bool) → (b && d) ≡ true → b ≡ true
      first true d q = refl
      first false d q = q

      is_outside : selected_of c (outside r) p ≡ true
      is_outside = first (selected_of c (outside r) p) (not (known (variables_of x) (part_origin p))) (unfold lacks in a.next h)

-- ---- their clauses

pub append_left : {c : Catalogue} {r y p : ℕ} {x : encoder.State} {cl : List ℕ} → Appends c r y p x cl false x cl
append_left = record { does = λ e. absurd (true≢false (sym e)); state = λ e. refl; clauses = λ e. refl }

is_selected : (c : Catalogue) (r p : ℕ) (b : Bool) → b ≡ chosen c r NonMatching p → b ≡ selected_of c (outside r) p
unfolding selected_of
is_selected c r p b e = e

stored_as : {c : Catalogue} {r y p : ℕ} {x x' : encoder.State} {cl cl' : List ℕ}
    → ((run : Run) → ClausesDoes c (λ v. when (selected_of c (outside r) p) (adding_of (run_of run) (AuxOut y) p)) x cl x' cl') → Appends c r y p x cl true x' cl'
stored_as d = record { does = λ e. d; state = λ e. absurd (true≢false e); clauses = λ e. absurd (true≢false e) }

pub append_other : {c : Catalogue} {r y p : ℕ} {x : encoder.State} {cl : List ℕ} {b : Bool} → b ≡ chosen c r NonMatching p → not b ≡ true → Appends c r y p x cl true x cl
append_other {c} {r} {y} {p} {b = b} e f =
    stored_as (λ run. adding_other (run_of run) (outside r) (AuxOut y) p (is_selected c r p b e) (unless b f))
  where
    unless : (d : Bool) → not d ≡ true → d ≡ false
    unless true q = sym q
    unless false q = refl

-- the part has its variable z, which is not true
module _ (k : Counts) (m u t : List ℕ) (r y : ℕ) {x : encoder.State} {p : ℕ} {cl : List ℕ} {b : Bool}
    (e : b ≡ chosen (catalogue k m u t) r NonMatching p) (f : not b ≡ false) (h : p < k.parts)
    (g : IsGoodWith (catalogue k m u t) x cl []) {bytes w : ℕ} (long : LongEnough x.limits bytes w)
    (a : KnownUnlessFull (is_full x.used) (variables_of x) (parts_for (catalogue k m u t) (outside r))) {z : ℕ}
    (looked : Looked (variables_of x) (part_origin p) z) {d : Bool} (i : d ≡ is_true (decisions_of x) z) (v : d ≡ false) where
  pub append_more : {row : Row} {more : ℕ} {x' : encoder.State} {cl' : List ℕ} → x'.limits ≡ x.limits → x'.area ≡ x.area → x'.used ≡ counting more x.used.literals x.used
      → x.used.clauses < x.limits.clauses → row ≡ clause_row (clauses.AuxOut z y) 0 → more ≡ x.used.clauses + 1 → rows more cl' ≡ snoc (rows x.used.clauses cl) row
      → Appends (catalogue k m u t) r y p x cl true x' cl'
  append_more {more = more} {x'} {cl'} la lb lc room j q rs = stored_as added
    where
      told : b ≡ selected_of (catalogue k m u t) (outside r) p
      told = is_selected (catalogue k m u t) r p b e

      selected : (s : Bool) → not s ≡ false → s ≡ true
      selected true i = refl
      selected false i = sym i

      stored : Stores (clauses.AuxOut z y) 0 x cl x' cl'
      stored = store_more la lb {literals = 0} room (rw add-zero lc) q rs j (unfold literal_count clause_row in refl)

      added : (run : Run) → ClausesDoes (catalogue k m u t) (λ v. when (selected_of (catalogue k m u t) (outside r) p) (adding_of (run_of run) (AuxOut y) p)) x cl x' cl'
      added run =
          adding_selected (run_of run) (outside r) (AuxOut y) p told (selected b f)
          (aux_out_added x looked (selected_known k m u t (outside r) a h told (selected b f)) (AuxOut y) refl (aux_out_idle {r = run} (good_can_add g long) i stored v))

-- ---- one after another

pub can_out : {l l' : Limits} {run : Run} {y : ℕ} → l' ≡ l → 0 < run.number → y < l.variables → CanAdd l' run (AuxOut y)
can_out e h i = rw e (record { number = h; settable = i })

module _ {c : Catalogue} (run : Run) {r y parts : ℕ} {x₀ x x' : encoder.State} {cl₀ cl cl' : List ℕ} {p : ℕ} {b : Bool}
    (a : AddedSoFar c (run_of run) (outside r) (AuxOut y) parts x₀ cl₀ x cl p) (d : Appends c r y p x cl b x' cl') where
  pub appended : {q : ℕ} → b ≡ true → p < parts → length cl' ≡ length cl → Skips parts (chosen c r NonMatching) (p + 1) q
      → AddedSoFar c (run_of run) (outside r) (AuxOut y) parts x₀ cl₀ x' cl' q
  appended e h i z = adding_next a h i (d.does e run) (outside_skips c r z)

  -- the part is left: all is as it was
  pub still_added : b ≡ false → AddedSoFar c (run_of run) (outside r) (AuxOut y) parts x₀ cl₀ x' cl' p
  still_added e = rw (d.state e, d.clauses e) a

  pub left_added : {x'' : encoder.State} {cl'' : List ℕ} {q : ℕ} → b ≡ false → p < parts → length cl'' ≡ length cl'
      → ClausesDoes c (λ v. when (selected_of c (outside r) p) (adding_of (run_of run) (AuxOut y) p)) x' cl' x'' cl''
      → Skips parts (chosen c r NonMatching) (p + 1) q → AddedSoFar c (run_of run) (outside r) (AuxOut y) parts x₀ cl₀ x'' cl'' q
  left_added e h j b z = adding_next (still_added e) h j b (outside_skips c r z)
