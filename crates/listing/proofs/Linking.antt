-- The chains of the waiting entries: an entry is put before those that are linked, and a walk along a chain prints the lines of its condition.
use mathlib.Core.Path.{◌≡◌, refl, sym}
use mathlib.Core.Bool.{Bool, true, false, true≢false}
use mathlib.Core.List.{List}
use mathlib.Core.Option.{some}
use Prim.Native.Nat.{ℕ, ◌+◌, ◌-◌, ◌<◌, ◌≤◌}
use native.Mathlib.Omega.{arith}
use native.Mathlib.Decide.{ℕ_discrete}
use lib.ListN.{get_or, set, replicate, length-set, length-replicate, get_or-replicate}
use lib.Seq.{get_or-set_same, get_or-set_other}
use borrow.Author.Tests.{eqb-true, eq-eqb, ne_eqb}
use Rattle.std.specs.Prelude as code
use Rattle.std.specs.Prelude.{Some, None, is_some}
use Rattle.rules.specs.Catalogue.{Catalogue, no_requirement, condition_at}
use Rattle.rules.specs.Conditions.{is_none, unconditional}
use Rattle.rules.proofs.Each.{each_at}
use Rattle.rules.proofs.Valid as valid
use Rattle.rules.proofs.WellFormed.{WellFormed}
use Rattle.text.specs.declared.Writer.{Writer}
use Rattle.text.specs.Writing.{Writes}
use Rattle.text.proofs.Writing.{nothing}
use Rattle.requirement.specs.declared.ConditionalRequirement.{ConditionalRequirement}
use Rattle.requirement.specs.Requirements.{condition_is, requirement_is}
use Rattle.tables.specs.declared.Counts.{Counts}
use Rattle.tables.specs.Tables.{tables}
use Rattle.cache.specs.Areas.{catalogue}
use Rattle.cache.proofs.Laws.{conditions_held}
use Rattle.index.specs.Indexed.{Indexed}
use Rattle.index.proofs.Walking.{walk}
use Rattle.state.specs.declared.Limits.{Limits}
use Rattle.entries.specs.declared.Entry as entries
use Rattle.entries.specs.Entries.{no_entry, entry_of, waiting_in, Long}
use Rattle.encoder.proofs.Frames.{waiting_counted}
use Rattle.goals.specs.Goals.{AllGiven}
use Rattle.line_fields.specs.Listed.{texts, entry_text, condition_text}
use Rattle.line_fields.proofs.Printing.{printing_start, printing_step, printing_end}
use Rattle.listing.specs.Chains.{is_under, Next, Linked, Key}
use Rattle.listing.proofs.Waiting.{condition_named, no_line}

-- ---- the condition of an entry

module _ (k : Counts) (m u t : List ℕ) (l : Limits) (n : ℕ) (w : List ℕ) (i : ℕ) (x : entries.Entry) (q : ConditionalRequirement)
    (d : requirement_is q ≡ get_or (tables k t).requirements x.requirement no_requirement) (e : entry_of x ≡ get_or (waiting_in l n w) i no_entry)
    (a : AllGiven (catalogue k m u t) (waiting_in l n w)) (h : i < n) where
  given : valid.Entry (catalogue k m u t) (entry_of x)
  given = rw e (each_at a.given i no_entry (rw (waiting_counted l n w) h))

  pub has_condition : is_some q.condition ≡ true
  unfolding entry_of unconditional
  has_condition = go q.condition (rw (condition_named k m u t x q d) at given.conditional)
    where
      go : (c : code.Option ℕ) → is_none (condition_is c) ≡ false → is_some c ≡ true
      go None f = absurd (true≢false f)
      go (Some c) f = refl

  pub entry_key : WellFormed (catalogue k m u t) → (j : ℕ) → q.condition ≡ Some j → Key (catalogue k m u t) (waiting_in l n w) k.conditions i j
  unfolding entry_of
  entry_key f j z =
      let c : condition_at (catalogue k m u t) x.requirement ≡ some j = rw z at (condition_named k m u t x q d) in
      record { is = rw (← e) c; low = rw conditions_held at (rw c at (f.requirements x.requirement given.requirement).condition) }

-- ---- no entry, and one more

module _ {n : ℕ} {f : ℕ → Bool} where
  next_none : Next n f n n
  next_none = record { skips = record { onward = omega arith; inside = omega arith; none = λ i a b. (let no : ⊥ = omega arith in absurd no) }; here = λ h. (let no : ⊥ = omega arith in absurd no) }

  next_here : {i : ℕ} → i < n → f i ≡ true → Next n f i i
  next_here h e = record { skips = record { onward = omega arith; inside = omega arith; none = λ j a b. (let no : ⊥ = omega arith in absurd no) }; here = λ _. e }

  next_earlier : {i r : ℕ} → f i ≡ false → Next n f (i + 1) r → Next n f i r
  next_earlier {i} {r} e g =
      record { skips = record { onward = (let o = g.skips.onward in omega arith); inside = g.skips.inside; none = passed }; here = g.here }
    where
      passed : (j : ℕ) → i ≤ j → j < r → f j ≡ false
      passed j a b = elim (ℕ_discrete j i) [ yes q ↦ rw q e | no q ↦ g.skips.none j (omega arith) b ]

pub linked_none : {c : Catalogue} {es : List (ℕ × ℕ)} {k : Counts} {m u t : List ℕ} {l : Limits} {x n : ℕ} {hs ls : List ℕ} → Indexed k m u t → Long l x → n ≤ l.waiting
    → hs ≡ replicate 256 n → ls ≡ replicate 2048 0 → Linked c es n k.conditions n hs ls
linked_none {k = k} {n = n} {hs = hs} h g a e f =
    record {
      wide = rw (e, length-replicate 256 n) h.held.laid.conditions;
      long = rw (f, length-replicate {A = ℕ} 2048 0) (omega (arith, g.waiting, a));
      heads = λ x b. (let same : get_or hs x 0 ≡ n = rw e (get_or-replicate 256 x n 0 (omega (arith, h.held.laid.conditions))) in rw same next_none);
      links = λ x i b d e _. (let no : ⊥ = omega arith in absurd no);
    }

module _ {c : Catalogue} {es : List (ℕ × ℕ)} {n most i x : ℕ} {hs ls hs' ls' : List ℕ} (key : Key c es most i x) (l : Linked c es n most (i + 1) hs ls) (here : i < n)
    (links : ls' ≡ set ls i (get_or hs x 0)) (heads : hs' ≡ set hs x i) where
  of_key : (k : ℕ) → k ≡ x → is_under c es k i ≡ true
  unfolding is_under
  of_key k e = rw key.is (eq-eqb x k (sym e))

  of_other : (k : ℕ) → (k ≡ x → ⊥) → is_under c es k i ≡ false
  unfolding is_under
  of_other k e = rw key.is (ne_eqb x k (λ f. e (sym f)))

  its_key : (k : ℕ) → is_under c es k i ≡ true → k ≡ x
  unfolding is_under
  its_key k e = sym (eqb-true x k (rw key.is at e))

  head_first : (k : ℕ) → k < most → Next n (is_under c es k) i (get_or hs' k 0)
  head_first k h =
      elim (ℕ_discrete k x) [
        | yes q ↦ (let same : get_or hs' k 0 ≡ i = rw (heads, q) (get_or-set_same hs x i 0 (omega (arith, key.low, l.wide))) in rw same (next_here here (of_key k q)))
        | no q ↦ (let same : get_or hs' k 0 ≡ get_or hs k 0 = rw heads (get_or-set_other hs x k i 0 q) in rw same (next_earlier (of_other k q) (l.heads k h)))
      ]

  link_first : (k j : ℕ) → k < most → i ≤ j → j < n → is_under c es k j ≡ true → Next n (is_under c es k) (j + 1) (get_or ls' j 0)
  link_first k j h a b e =
      elim (ℕ_discrete j i) [
        | yes q ↦ (let same : get_or ls' j 0 ≡ get_or hs k 0 = rw (links, q, its_key k (rw q at e)) (get_or-set_same ls i (get_or hs x 0) 0 (omega (arith, l.long))) in rw (same, q) (l.heads k h))
        | no q ↦ (let same : get_or ls' j 0 ≡ get_or ls j 0 = rw links (get_or-set_other ls i j (get_or hs x 0) 0 q) in rw same (l.links k j h (omega arith) b e))
      ]

  pub linked_more : Linked c es n most i hs' ls'
  linked_more = record { wide = rw (heads, length-set) l.wide; long = rw (links, length-set) l.long; heads = head_first; links = link_first }

-- the loop that links the entries, downwards: before entry i - 1, and behind the last turn
module _ {c : Catalogue} {es : List (ℕ × ℕ)} {n most i : ℕ} {hs ls : List ℕ} (l : Linked c es n most i hs ls) where
  pub linked_on : 0 < i → Linked c es n most (i - 1 + 1) hs ls
  linked_on h = (let e : i - 1 + 1 ≡ i = omega arith in rw e l)

  pub linked_all : i ≤ 0 → Linked c es n most 0 hs ls
  linked_all h = (let e : i ≡ 0 = omega arith in rw e at l)

-- ---- a walk along the chain of condition k

-- before entry i, which is of the condition unless it is the end
pub record Walking (c : Catalogue) (es : List (ℕ × ℕ)) (n most : ℕ) (hs ls : List ℕ) (k i : ℕ) (w w1 : Writer) : Type 0 where
  pub linked : Linked c es n most 0 hs ls
  pub low : k < most
  pub few : n ≤ 2048
  pub within : i ≤ n
  pub printed : Writes w w1 (texts (entry_text c es k) i)
  pub here : i < n → is_under c es k i ≡ true

module _ {c : Catalogue} {es : List (ℕ × ℕ)} {n most : ℕ} {hs ls : List ℕ} {k : ℕ} {w : Writer} where
  -- nothing is printed for the entries between
  printed_on : {i r : ℕ} {w1 : Writer} → Linked c es n most 0 hs ls → k < most → n ≤ 2048 → Next n (is_under c es k) i r → Writes w w1 (texts (entry_text c es k) i)
      → Walking c es n most hs ls k r w w1
  printed_on {i} {r} {w1} l h m x y =
      record {
        linked = l;
        low = h;
        few = m;
        within = x.skips.inside;
        printed = walk (λ j. Writes w w1 (texts (entry_text c es k) j)) (λ j b e z. printing_step _ z (rw (no_line c es k j e) (nothing w1))) x.skips y;
        here = x.here;
      }

  pub walking_start : {i x : ℕ} {p : Limits} → Linked c es n most 0 hs ls → k < most → Long p x → n ≤ p.waiting → i ≡ get_or hs k 0
      → Walking c es n most hs ls k i w w
  walking_start l h g a e = rw e (printed_on l h (omega (arith, g.waiting, a)) (l.heads k h) (printing_start _))

  module _ {i : ℕ} {w1 : Writer} (f : Walking c es n most hs ls k i w w1) where
    following : i < n → Next n (is_under c es k) (i + 1) (get_or ls i 0)
    following h = f.linked.links k i f.low (omega arith) h (f.here h)

    pub walking_here : i < n → is_under c es k i ≡ true
    walking_here h = f.here h

    pub walking_less : {j : ℕ} → i < n → j ≡ get_or ls i 0 → n - j < n - i
    walking_less h e = (let x = (following h).skips.onward in omega (arith, x, e))

    pub walking_step : {j : ℕ} {w2 : Writer} → i < n → Writes w1 w2 (entry_text c es k i) → j ≡ get_or ls i 0 → Walking c es n most hs ls k j w w2
    walking_step h g q = rw q (printed_on f.linked f.low f.few (following h) (printing_step _ f.printed g))

    pub walking_end : n ≤ i → Writes w w1 (condition_text c es n k)
    unfolding condition_text
    walking_end h = printing_end _ f.printed h f.within
