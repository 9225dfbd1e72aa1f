-- The disjuncts of a requirement are judged, and those that hold now are listed, or those that do not.
use mathlib.Core.Path.{◌≡◌, refl, sym, ◌∙◌, ap}
use mathlib.Core.Bool.{Bool, true, false, not, beq}
use mathlib.Core.List.{List, [], ◌∷◌, ◌++◌, append-nil, append_assoc}
use Prim.Native.Nat.{ℕ, zero, suc, ◌+◌, ◌-◌, ◌<◌, ◌≤◌}
use native.Mathlib.Numerals.{add-one}
use native.Mathlib.Omega.{arith}
use lib.ListN.{length, get_or, length-append}
use Rattle.rules.specs.Lists.{filter, up_to}
use Rattle.rules.specs.Catalogue.{Catalogue, no_requirement}
use Rattle.rules.specs.Conditions.{disjuncts, disjunct_at, indices, unconditional}
use Rattle.rules.specs.Opening.{entry_holds}
use Rattle.rules.proofs.Bools.{by_cases}
use Rattle.requirement.specs.declared.ConditionalRequirement.{ConditionalRequirement}
use Rattle.requirement.specs.Requirements.{requirement_is}
use Rattle.tables.specs.declared.Counts.{Counts}
use Rattle.tables.specs.Tables.{tables}
use Rattle.std.specs.Prelude.{Some}
use Rattle.conditions.specs.Sizes.{Counted}
use Rattle.cache.specs.Areas.{catalogue}
use Rattle.index.specs.Catalogued.{Catalogued}
use Rattle.judging.specs.Judging.{Judged}
use Rattle.firing.specs.declared.disjuncts.Judgement.{Judgement}
use Rattle.firing.specs.declared.disjuncts.Indices.{Indices}
use Rattle.firing.specs.Firing.{judging, Judges, flagging, indices_in, Lists}
use Rattle.firing.proofs.Required.{its_disjuncts}

-- ---- a flag for each disjunct of a requirement

pub judges : (k : Counts) (m us t : List ℕ) {f : ℕ → Bool} (q : ℕ) (it : ConditionalRequirement) {count : ℕ} (flags : List Bool)
    → requirement_is it ≡ get_or (tables k t).requirements q no_requirement → Catalogued k m us t → q < k.requirements → unconditional (catalogue k m us t) q ≡ false
    → (x : ℕ) → it.condition ≡ Some x → Counted (tables k t).conditions x count → Judged (catalogue k m us t) f (disjuncts (tables k t).conditions x) flags
    → (b : count ≤ 64) → Judges (catalogue k m us t) f q (record { flags = flags; count = count; bounded = b })
unfolding entry_holds disjunct_at
judges k m us t q it flags e w h u x f n j b =
    let own = its_disjuncts k m us t q it e w h u x f in
    record { few = n.most; all = n.is ∙ sym (ap length own); is = λ i l. rw own (j.is i (omega (arith, n.is))) }

-- ---- one disjunct

module _ (p : ℕ → Bool) (x : ℕ) (xs : List ℕ) where
  filter_takes : p x ≡ true → filter p (x ∷ xs) ≡ x ∷ filter p xs
  unfolding filter
  filter_takes e = rw (e, filter)

  filter_passes : p x ≡ false → filter p (x ∷ xs) ≡ filter p xs
  unfolding filter
  filter_passes e = rw (e, filter)

beq_true : (b : Bool) → b ≡ beq b true
beq_true true = refl
beq_true false = refl

beq_false : (b : Bool) → not b ≡ beq b false
beq_false true = refl
beq_false false = refl

judging_is : (c : Catalogue) (f : ℕ → Bool) (q : ℕ) (holds : Bool) (i : ℕ) → judging c f q holds i ≡ beq (entry_holds c f q i) holds
unfolding judging
judging_is c f q true i = beq_true (entry_holds c f q i)
judging_is c f q false i = beq_false (entry_holds c f q i)

-- those that pass by the flags are those that pass by the rules
passing_same : (p r : ℕ → Bool) (i n m : ℕ) → i + n ≤ m → ((j : ℕ) → j < m → p j ≡ r j) → filter p (up_to i n) ≡ filter r (up_to i n)
unfolding up_to
passing_same p r i zero m h e = unfold filter in refl
passing_same p r i (suc n) m h e =
    let same : p i ≡ r i = e i (omega arith) in
    let rest : filter p (up_to (suc i) n) ≡ filter r (up_to (suc i) n) = passing_same p r (suc i) n m (omega arith) e in
    by_cases (r i)
    (λ t. filter_takes p i (up_to (suc i) n) (same ∙ t) ∙ (ap (λ (xs : List ℕ). i ∷ xs) rest ∙ sym (filter_takes r i (up_to (suc i) n) t)))
    (λ t. filter_passes p i (up_to (suc i) n) (same ∙ t) ∙ (rest ∙ sym (filter_passes r i (up_to (suc i) n) t)))

module _ {c : Catalogue} {f : ℕ → Bool} {q : ℕ} {j : Judgement} (d : Judges c f q j) where
  pub judged_listed : (holds : Bool) {is : Indices} → Lists is (filter (flagging j.flags holds) (up_to 0 j.count)) → Lists is (filter (judging c f q holds) (indices c q))
  unfolding indices
  judged_listed holds x =
      rw (← d.all, ← passing_same (flagging j.flags holds) (judging c f q holds) 0 j.count j.count (omega arith) same) x
    where
      same : (i : ℕ) → i < j.count → flagging j.flags holds i ≡ judging c f q holds i
      same i h = unfold flagging in rw (d.is i h) (sym (judging_is c f q holds i))

-- ---- the loop at disjunct i: what is listed, with what passes of those that are left, is what passes of all

pub record Listing (flags : List Bool) (count : ℕ) (holds : Bool) (is : Indices) (i : ℕ) : Type 0 where
  pub few : count ≤ 64
  pub passed : i ≤ count
  pub room : is.len ≤ i
  pub len : is.len ≡ length (indices_in is)
  pub listed : indices_in is ++ filter (flagging flags holds) (up_to i (count - i)) ≡ filter (flagging flags holds) (up_to 0 count)

pub listing_start : (flags : List Bool) {count : ℕ} (holds : Bool) {is : Indices} → count ≤ 64 → Lists is [] → Listing flags count holds is 0
listing_start flags {count} holds h x =
    let all : count - 0 ≡ count = omega arith in
    record {
      few = h;
      passed = omega arith;
      room = omega (arith, x.len);
      len = x.len ∙ ap length (sym x.is);
      listed = rw (x.is, all);
    }

module _ {flags : List Bool} {count : ℕ} {holds : Bool} {is : Indices} {i : ℕ} (x : Listing flags count holds is i) where
  module _ (h : i < count) where
    left_is : up_to i (count - i) ≡ i ∷ up_to (i + 1) (count - (i + 1))
    unfolding up_to
    left_is =
        let e : count - i ≡ suc (count - (i + 1)) = omega arith in
        rw (e, add-one i)

    tested : (b : Bool) → beq (get_or flags i false) holds ≡ b → flagging flags holds i ≡ b
    unfolding flagging
    tested b e = e

    pub listing_take : {is' is'' : Indices} → beq (get_or flags i false) holds ≡ true → Lists is' (indices_in is ++ (i ∷ [])) → is'' ≡ is'
        → Listing flags count holds is'' (i + 1)
    listing_take {is'} e y z =
        let p : ℕ → Bool = flagging flags holds in
        let rest : List ℕ = filter p (up_to (i + 1) (count - (i + 1))) in
        let all : filter p (up_to i (count - i)) ≡ i ∷ rest = ap (filter p) left_is ∙ filter_takes p i (up_to (i + 1) (count - (i + 1))) (tested true e) in
        rw z (record {
          few = x.few;
          passed = omega arith;
          room = omega (arith, y.len, length-append (indices_in is) (i ∷ []), x.len, x.room);
          len = y.len ∙ ap length (sym y.is);
          listed = rw y.is (append_assoc (indices_in is) (i ∷ []) rest ∙ (ap (λ (ys : List ℕ). indices_in is ++ ys) (sym all) ∙ x.listed));
        })

    pub listing_pass : {is'' : Indices} → beq (get_or flags i false) holds ≡ false → is'' ≡ is → Listing flags count holds is'' (i + 1)
    listing_pass e z =
        let p : ℕ → Bool = flagging flags holds in
        let all : filter p (up_to i (count - i)) ≡ filter p (up_to (i + 1) (count - (i + 1))) = ap (filter p) left_is ∙ filter_passes p i (up_to (i + 1) (count - (i + 1))) (tested false e) in
        rw z (record {
          few = x.few;
          passed = omega arith;
          room = omega (arith, x.room);
          len = x.len;
          listed = ap (λ (ys : List ℕ). indices_in is ++ ys) (sym all) ∙ x.listed;
        })

  pub listing_end : count ≤ i → Lists is (filter (flagging flags holds) (up_to 0 count))
  listing_end h =
      let done : count - i ≡ 0 = omega arith in
      let none : filter (flagging flags holds) (up_to i (count - i)) ≡ [] = rw done (unfold up_to filter in refl) in
      let same : indices_in is ≡ filter (flagging flags holds) (up_to 0 count) = rw (none, append-nil) at x.listed in
      record { len = x.len ∙ ap length same; room = omega (arith, x.room, x.passed, x.few); is = same }
