-- The tracker against its code: a law for each way out of each function; and what callers use.
use mathlib.Core.Path.{◌≡◌, refl, sym, ◌∙◌, ap, subst}
use mathlib.Core.Logic.{◌≢◌}
use mathlib.Core.Bool.{Bool, true, false}
use mathlib.Core.List.{List, [], ◌∷◌, map}
use mathlib.Core.Option.{some}
use Prim.Native.Nat.{ℕ, zero, suc, ◌+◌, ◌*◌, ◌-◌, ◌<◌, ◌≤◌}
use native.Mathlib.Numerals.{add-one}
use native.Mathlib.Decide.{dec_lt, ℕ_discrete}
use native.Mathlib.Omega.{arith}
use lib.Dec.{eqb, leb}
use mir.Val.{bool_byte}
use lib.ListN.{length, get_or, set, length-set, length-map, get_or-eq_default}
use lib.Seq.{get_or-set_same, get_or-set_other}
use borrow.Author.Tests.{le-leb, lt-leb}
use Rattle.rules.specs.Lists.{any, all, elem, snoc, up_to}
use Rattle.rules.specs.Literal.{Literal, pos}
use Rattle.rules.specs.Decisions.{Decision, evaluate, is_undecided, last_level, up_to_level}
use Rattle.rules.proofs.Each.{Each, each_imp, each_snoc, each_map, Pairwise, pairwise_snoc}
use Rattle.rules.proofs.Evaluation.{Undecided, undecided_out, undecided_in}
use Rattle.rules.proofs.Levels.{Rising, last_highest}
use Rattle.regions.specs.Regions.{stored}
use Rattle.clause.specs.declared.Literal as clause
use Rattle.std.specs.Prelude.{Option, None, Some, SomeIff}
use Rattle.clause.specs.Literals.{literal_of}
use Rattle.clause.specs.Literals as literals
use Rattle.state.specs.declared.Limits.{Limits}
use Rattle.state.specs.Layout.{held, Fits}
use Rattle.state.specs.Changed.{Changed, Blank}
use Rattle.state.proofs.Changed.{stored_here, changed_stored, changed_then, changed_within, length_values, length_decisions}
use Rattle.state.proofs.Rows.{length_rows, row_at_law, rows_more, rows_same}
use Rattle.decision_tracker.specs.declared.Decision as code
use Rattle.decision_tracker.specs.Tracking.{clause_of, clause_number, clause_by, decision_by, decision_of, decision_in, decisions, no_decision, seen, number_of, Kept, Free, Rowed, Told, Dropped}
use Rattle.decision_tracker.proofs.Lists.{filter_all, filter_last, each_first, pairwise_first, pairwise_last, few}
use Rattle.decision_tracker.proofs.Values.{evaluate_other, evaluate_new, seen_decided, literal_value, reads_undecided}

-- ---- for callers

pub count : (d : ℕ) (st : ℕ → List ℕ) → length (decisions d st) ≡ d
unfolding decisions
count d st = length_rows (decision_in (st 18)) d

-- what leaves regions 17 and 18 alone keeps the decisions
module _ {js : List ℕ} {st st' : ℕ → List ℕ} (c : Changed js st st') where
  pub decisions_kept : (d : ℕ) → elem 18 js ≡ false → decisions d st' ≡ decisions d st
  unfolding decisions
  decisions_kept d e = rw (c.same 18 e)

  pub kept_kept : {l : Limits} {d : ℕ} → elem 17 js ≡ false → elem 18 js ≡ false → Kept l d st → Kept l d st'
  kept_kept {l} {d} e f k =
      let q = decisions_kept d f in
      record { room = k.room; values = λ x. rw (c.same 17 e, q) (k.values x); below = rw q k.below; once = rw q k.once }

-- no decisions, in an area whose values are all 0
pub kept_none : (l : Limits) (st : ℕ → List ℕ) → Blank 17 st → Kept l 0 st
unfolding decisions up_to evaluate seen number_of
kept_none l st z = record { room = omega arith; values = z.zeros; below = Each.nil; once = Pairwise.nil }

-- while a variable below n is undecided, there are fewer than n decisions
pub fewer : (n x : ℕ) {ds : List Decision} → Each (λ (e : Decision). e.variable < n) ds → Pairwise (λ (e f : Decision). e.variable ≢ f.variable) ds
    → x < n → is_undecided (evaluate ds (pos x)) ≡ true → length ds < n
fewer n x {ds} b o h u =
    let e : length (x ∷ map (λ (d : Decision). d.variable) ds) ≤ n =
    few n (x ∷ map (λ (d : Decision). d.variable) ds) (Each.cons h (each_map (λ (d : Decision). d.variable) ds b))
    (Pairwise.cons (each_map (λ (d : Decision). d.variable) ds (each_imp (λ d n q. n (sym q)) (undecided_out ds (pos x) u))) (variables o)) in
    omega (arith, e, length-map ds (λ (d : Decision). d.variable))
  where
    variables : {ds : List Decision} → Pairwise (λ (e f : Decision). e.variable ≢ f.variable) ds → Pairwise (λ (x y : ℕ). x ≢ y) (map (λ (d : Decision). d.variable) ds)
    variables Pairwise.nil = Pairwise.nil
    variables (Pairwise.cons {x} {xs} q qs) = Pairwise.cons (each_map (λ (d : Decision). d.variable) xs q) (variables qs)

pub room_for : {l : Limits} {d x : ℕ} {st : ℕ → List ℕ} → Free l d x st → d < l.variables
room_for {l} {d} {x} {st} f = rw (count d st) at (fewer l.variables x f.kept.below f.kept.once f.exists f.free)

-- a literal is undecided where its variable is
pub variable_free : (ds : List Decision) (k : Literal) → is_undecided (evaluate ds k) ≡ true → is_undecided (evaluate ds (pos k.variable)) ≡ true
variable_free ds k u = ap is_undecided (undecided_in ds (pos k.variable) (undecided_out ds k u))

pub literal_free : {l : Limits} {d y : ℕ} {st : ℕ → List ℕ} {v : Option Bool} (x : clause.Literal) → Kept l d st → y ≡ (literal_of x).variable
    → (literal_of x).variable < l.variables → v ≡ seen (evaluate (decisions d st) (literal_of x)) → v ≡ None → Free l d y st
literal_free {d = d} {st = st} {v = v} x p n h e q =
    record { kept = p; exists = rw n h; free = rw n (variable_free (decisions d st) (literal_of x) (reads_undecided (decisions d st) (literal_of x) v e q)) }

-- ---- values

none_law : (v : Option Bool) → number_of v ≡ 0 → None ≡ v
unfolding number_of
none_law None e = refl
none_law (Some false) e = let no : ⊥ = omega arith in absurd no
none_law (Some true) e = let no : ⊥ = omega arith in absurd no

false_law : (v : Option Bool) → number_of v ≡ 1 → Some false ≡ v
unfolding number_of
false_law None e = let no : ⊥ = omega arith in absurd no
false_law (Some false) e = refl
false_law (Some true) e = let no : ⊥ = omega arith in absurd no

true_law : (v : Option Bool) → (number_of v ≡ 0 → ⊥) → (number_of v ≡ 1 → ⊥) → Some true ≡ v
unfolding number_of
true_law None a b = absurd (a refl)
true_law (Some false) a b = absurd (b refl)
true_law (Some true) a b = refl

module _ (l : Limits) (d x n : ℕ) (st : ℕ → List ℕ) (k : Kept l d st) (e : n ≡ get_or (st 17) x 0) where
  pub value_undecided : n ≡ 0 → None ≡ seen (evaluate (decisions d st) (pos x))
  value_undecided z = none_law _ (sym (k.values x) ∙ (sym e ∙ z))

  pub value_false : n ≡ 1 → Some false ≡ seen (evaluate (decisions d st) (pos x))
  value_false z = false_law _ (sym (k.values x) ∙ (sym e ∙ z))

  pub value_true : (n ≡ 0 → ⊥) → (n ≡ 1 → ⊥) → Some true ≡ seen (evaluate (decisions d st) (pos x))
  value_true a b = true_law _ (λ z. a (e ∙ (k.values x ∙ z))) (λ z. b (e ∙ (k.values x ∙ z)))

pub eval_is : (ds : List Decision) (k : clause.Literal) (x : ℕ) (v r : Option Bool) → x ≡ (literal_of k).variable → v ≡ seen (evaluate ds (pos x))
    → r ≡ literals.held (literal_of k) v → r ≡ seen (evaluate ds (literal_of k))
eval_is ds k x v r e f g = g ∙ rw (f, e) (literal_value ds (literal_of k))

-- ---- rows

clause_read : (r : Option ℕ) (n : ℕ) → SomeIff r (1 ≤ n) (n - 1) → clause_of r ≡ clause_by n
unfolding clause_of clause_by
clause_read None zero h = refl
clause_read None (suc n) h = absurd (h (omega arith))
clause_read (Some i) zero h = let no : ⊥ = omega (arith, h.0) in absurd no
clause_read (Some i) (suc n) h = ap some (omega (arith, h.1))

clause_stored : (r : Option ℕ) → clause_by (clause_number r) ≡ clause_of r
unfolding clause_of clause_by clause_number
clause_stored None = refl
clause_stored (Some i) = rw add-one

pub decision_is : (st : ℕ → List ℕ) (d i x y k n : ℕ) (c : Option ℕ) → i < d → x ≡ get_or (st 18) (4 * i) 0 → y ≡ get_or (st 18) (4 * i + 1) 0 → k ≡ get_or (st 18) (4 * i + 2) 0
    → n ≡ get_or (st 18) (4 * i + 3) 0 → SomeIff c (1 ≤ n) (n - 1) → decision_of (record { variable = x; value = eqb y 1; level = k; clause = c }) ≡ get_or (decisions d st) i no_decision
unfolding decision_of decisions
decision_is st d i x y k n c h e₀ e₁ e₂ e₃ r =
    rw (row_at_law (decision_in (st 18)) no_decision d i h, clause_read c n r, e₀, e₁, e₂, e₃) (unfold decision_in decision_by in refl)

split : (d : ℕ) (st : ℕ → List ℕ) → decisions (d + 1) st ≡ snoc (decisions d st) (decision_in (st 18) d)
unfolding decisions
split d st = rows_more (decision_in (st 18)) d

last_snoc : (ds : List Decision) (e : Decision) → last_level (snoc ds e) ≡ e.level
unfolding last_level snoc
last_snoc [] e = refl
last_snoc (d ∷ []) e = refl
last_snoc (d ∷ f ∷ ds) e = last_snoc (f ∷ ds) e

last_at : (st : ℕ → List ℕ) (d : ℕ) → last_level (decisions (d + 1) st) ≡ get_or (st 18) (4 * d + 2) 0
last_at st d = rw (split d st, last_snoc (decisions d st) (decision_in (st 18) d)) (unfold decision_in decision_by in refl)

pub last_none : (d : ℕ) (st : ℕ → List ℕ) → d ≡ 0 → 0 ≡ last_level (decisions d st)
unfolding decisions up_to last_level
last_none d st e = rw e

pub last_is : (d r : ℕ) (st : ℕ → List ℕ) → (d ≡ 0 → ⊥) → r ≡ get_or (st 18) (4 * d - 2) 0 → r ≡ last_level (decisions d st)
last_is d r st n e = go (dec_lt 0 d)
  where
    go : Dec (0 < d) → r ≡ last_level (decisions d st)
    go (no h) = absurd (n (omega arith))
    go (yes h) =
        let p : d ≡ d - 1 + 1 = omega arith in
        let q : 4 * d - 2 ≡ 4 * (d - 1) + 2 = omega arith in
        e ∙ (ap (λ (i : ℕ). get_or (st 18) i 0) q ∙ (sym (last_at st (d - 1)) ∙ ap (λ (i : ℕ). last_level (decisions i st)) (sym p)))

-- four numbers stored side by side
module _ (w : List ℕ) (k x y z u : ℕ) where
  abbrev four : List ℕ
  four = set (set (set (set w k x) (k + 1) y) (k + 2) z) (k + 3) u

  four_before : (i : ℕ) → i < k → get_or four i 0 ≡ get_or w i 0
  four_before i h =
      get_or-set_other (set (set (set w k x) (k + 1) y) (k + 2) z) (k + 3) i u 0 (λ e. omega arith)
      ∙ (get_or-set_other (set (set w k x) (k + 1) y) (k + 2) i z 0 (λ e. omega arith)
      ∙ (get_or-set_other (set w k x) (k + 1) i y 0 (λ e. omega arith) ∙ get_or-set_other w k i x 0 (λ e. omega arith)))

  module _ (h : k + 3 < length w) where
    four_0 : get_or four k 0 ≡ x
    four_0 =
        get_or-set_other (set (set (set w k x) (k + 1) y) (k + 2) z) (k + 3) k u 0 (λ e. omega arith)
        ∙ (get_or-set_other (set (set w k x) (k + 1) y) (k + 2) k z 0 (λ e. omega arith)
        ∙ (get_or-set_other (set w k x) (k + 1) k y 0 (λ e. omega arith) ∙ get_or-set_same w k x 0 (omega arith)))

    four_1 : get_or four (k + 1) 0 ≡ y
    four_1 =
        get_or-set_other (set (set (set w k x) (k + 1) y) (k + 2) z) (k + 3) (k + 1) u 0 (λ e. omega arith)
        ∙ (get_or-set_other (set (set w k x) (k + 1) y) (k + 2) (k + 1) z 0 (λ e. omega arith)
        ∙ get_or-set_same (set w k x) (k + 1) y 0 (rw length-set (omega arith)))

    four_2 : get_or four (k + 2) 0 ≡ z
    four_2 =
        get_or-set_other (set (set (set w k x) (k + 1) y) (k + 2) z) (k + 3) (k + 2) u 0 (λ e. omega arith)
        ∙ get_or-set_same (set (set w k x) (k + 1) y) (k + 2) z 0 (simp length-set (omega arith))

    four_3 : get_or four (k + 3) 0 ≡ u
    four_3 = get_or-set_same (set (set (set w k x) (k + 1) y) (k + 2) z) (k + 3) u 0 (simp length-set h)

module _ (w w' : List ℕ) (d x y k c : ℕ) (e : w' ≡ four w (4 * d) x y k c) (h : 4 * d + 3 < length w) where
  row_before : (i : ℕ) → i < d → decision_in w' i ≡ decision_in w i
  unfolding decision_in
  row_before i g =
      rw (
        e,
        four_before w (4 * d) _ _ _ _ (4 * i) (omega arith),
        four_before w (4 * d) _ _ _ _ (4 * i + 1) (omega arith),
        four_before w (4 * d) _ _ _ _ (4 * i + 2) (omega arith),
        four_before w (4 * d) _ _ _ _ (4 * i + 3) (omega arith),
      )

  row_new : decision_in w' d ≡ decision_by x (eqb y 1) k c
  unfolding decision_in
  row_new = rw (e, four_0 w (4 * d) _ _ _ _ h, four_1 w (4 * d) _ _ _ _ h, four_2 w (4 * d) _ _ _ _ h, four_3 w (4 * d) _ _ _ _ h)

module _ (l : Limits) (d x y k c : ℕ) (b b₁ b₂ b₃ b₄ : List ℕ) (fits : Fits l (length b)) (room : d < l.variables)
    (e₁ : held l b₁ ≡ stored (held l b) 18 (4 * d) x) (e₂ : held l b₂ ≡ stored (held l b₁) 18 (4 * d + 1) y)
    (e₃ : held l b₃ ≡ stored (held l b₂) 18 (4 * d + 2) k) (e₄ : held l b₄ ≡ stored (held l b₃) 18 (4 * d + 3) c) where
  at_18 : held l b₄ 18 ≡ four (held l b 18) (4 * d) x y k c
  at_18 =
      rw (
        e₄,
        stored_here (held l b₃) 18 (4 * d + 3) c,
        e₃,
        stored_here (held l b₂) 18 (4 * d + 2) k,
        e₂,
        stored_here (held l b₁) 18 (4 * d + 1) y,
        e₁,
        stored_here (held l b) 18 (4 * d) x,
      )

  in_region : 4 * d + 3 < length (held l b 18)
  in_region = rw (length_decisions l b fits) (omega arith)

  one_more : decisions (d + 1) (held l b₄) ≡ snoc (decisions d (held l b)) (decision_by x (eqb y 1) k c)
  unfolding decisions
  one_more =
      rows_more (decision_in (held l b₄ 18)) d
      ∙ rw (
        rows_same (decision_in (held l b₄ 18)) (decision_in (held l b 18)) d (row_before (held l b 18) (held l b₄ 18) d x y k c at_18 in_region),
        row_new (held l b 18) (held l b₄ 18) d x y k c at_18 in_region,
      )

  pub row_pushed : (new : Decision) → decision_by x (eqb y 1) k c ≡ new → Rowed d new (held l b) (held l b₄)
  row_pushed new e =
      record {
        is = rw (← e) one_more;
        rest =
            changed_then (changed_stored 18 (4 * d) x e₁ (unfold any in refl))
            (changed_then (changed_stored 18 (4 * d + 1) y e₂ (unfold any in refl))
            (changed_then (changed_stored 18 (4 * d + 2) k e₃ (unfold any in refl)) (changed_stored 18 (4 * d + 3) c e₄ (unfold any in refl))));
      }

value_stored : (b : Bool) → eqb (bool_byte b) 1 ≡ b
value_stored true = refl
value_stored false = refl

pub stored_is : (new : code.Decision) (y c : ℕ) → y ≡ bool_byte new.value → c ≡ clause_number new.clause → decision_by new.variable (eqb y 1) new.level c ≡ decision_of new
unfolding decision_by decision_of
stored_is new y c e f = rw (e, f, value_stored, clause_stored)

-- ---- one decision more

module _ (l : Limits) (d n : ℕ) (new : code.Decision) (b b₁ b₂ : List ℕ) (fits : Fits l (length b)) (f : Free l d new.variable (held l b))
    (g : Rowed d (decision_of new) (held l b) (held l b₁)) (q : n ≡ number_of (Some new.value)) (e : held l b₂ ≡ stored (held l b₁) 17 new.variable n) where
  at_17 : held l b₂ 17 ≡ set (held l b 17) new.variable n
  at_17 = rw (e, stored_here (held l b₁) 17 new.variable n, g.rest.same 17 (unfold any in refl))

  is_now : decisions (d + 1) (held l b₂) ≡ snoc (decisions d (held l b)) (decision_of new)
  is_now = decisions_kept (changed_stored {js = 17 ∷ []} 17 new.variable n e (unfold any in refl)) (d + 1) (unfold any in refl) ∙ g.is

  free : Undecided (decisions d (held l b)) new.variable
  free = undecided_out (decisions d (held l b)) (pos new.variable) f.free

  value_now : (x : ℕ) → Dec (x ≡ new.variable)
      → get_or (set (held l b 17) new.variable n) x 0 ≡ number_of (seen (evaluate (snoc (decisions d (held l b)) (decision_of new)) (pos x)))
  unfolding decision_of
  value_now x (yes z) =
      rw (z, evaluate_new (decision_of new) (pos new.variable) free refl, seen_decided new.value new.level)
      (get_or-set_same (held l b 17) new.variable n 0 (rw (length_values l b fits) f.exists) ∙ q)
  value_now x (no z) =
      rw (evaluate_other (decisions d (held l b)) (decision_of new) (pos x) z) (get_or-set_other (held l b 17) new.variable x n 0 z ∙ f.kept.values x)

  pub decided : Told l (d + 1) (snoc (decisions d (held l b)) (decision_of new)) (held l b) (held l b₂)
  decided =
      let r = room_for f in
      let kept : Kept l (d + 1) (held l b₂) =
      record {
        room = omega arith;
        values = λ x. rw (at_17, is_now) (value_now x (ℕ_discrete x new.variable));
        below = rw is_now (each_snoc f.kept.below (unfold decision_of in f.exists));
        once = rw is_now (pairwise_snoc f.kept.once (unfold decision_of in free));
      } in
      record {
        kept = kept;
        is = is_now;
        rest = changed_then (changed_within {js = 18 ∷ []} (17 ∷ 18 ∷ []) (unfold all any in refl) g.rest) (changed_stored 17 new.variable n e (unfold any in refl));
      }

-- ---- one decision less

set_zero : (w : List ℕ) (x : ℕ) → get_or (set w x 0) x 0 ≡ 0
set_zero w x = elim (dec_lt x (length w)) [
  | yes h ↦ get_or-set_same w x 0 0 h
  | no h ↦ get_or-eq_default (set w x 0) 0 (rw length-set (omega arith))
]

module _ (l : Limits) (r x : ℕ) (st st' : ℕ → List ℕ) (k : Kept l (r + 1) st) (e : x ≡ get_or (st 18) (4 * r) 0) (g : st' ≡ stored st 17 x 0) where
  abbrev last : Decision
  last = decision_in (st 18) r

  last_variable : last.variable ≡ x
  last_variable = unfold decision_in decision_by in sym e

  at_17' : st' 17 ≡ set (st 17) x 0
  at_17' = rw g (stored_here st 17 x 0)

  others : Changed (17 ∷ []) st st'
  others = changed_stored 17 x 0 g (unfold any in refl)

  left : decisions r st' ≡ decisions r st
  left = decisions_kept others r (unfold any in refl)

  once : Pairwise (λ (e f : Decision). e.variable ≢ f.variable) (snoc (decisions r st) last)
  once = rw (split r st) at k.once

  value_left : (y : ℕ) → Dec (y ≡ x) → get_or (set (st 17) x 0) y 0 ≡ number_of (seen (evaluate (decisions r st) (pos y)))
  value_left y (yes z) =
      let u : Undecided (decisions r st) x = rw last_variable at (pairwise_last (decisions r st) last once) in
      rw (z, undecided_in (decisions r st) (pos x) u) (set_zero (st 17) x ∙ unfold seen number_of in refl)
  value_left y (no z) =
      let n : y ≡ last.variable → ⊥ = λ q. z (q ∙ last_variable) in
      get_or-set_other (st 17) x y 0 0 z ∙ (k.values y ∙ rw (split r st) (ap (λ v. number_of (seen v)) (evaluate_other (decisions r st) last (pos y) n)))

  kept_left : Kept l r st'
  kept_left =
      record {
        room = omega (arith, k.room);
        values = λ y. rw (at_17', left) (value_left y (ℕ_discrete y x));
        below = rw left (each_first (decisions r st) (decision_in (st 18) r) (rw (split r st) at k.below));
        once = rw left (pairwise_first (decisions r st) last once);
      }

pub dropped : (l : Limits) (d x n : ℕ) (st st' : ℕ → List ℕ) → 0 < d → Kept l d st → x ≡ get_or (st 18) (4 * (d - 1)) 0 → n ≡ number_of None → st' ≡ stored st 17 x n
    → Dropped l d (d - 1) st st'
unfolding number_of
dropped l d x n st st' h k e z q =
    let g : st' ≡ stored st 17 x 0 = rw z at q in
    let p : d ≡ d - 1 + 1 = omega arith in
    record { less = p; kept = kept_left l (d - 1) x st st' (subst (λ (n : ℕ). Kept l n st) p k) e g; rest = others l (d - 1) x st st' (subst (λ (n : ℕ). Kept l n st) p k) e g }

-- ---- undo

drops : (level : ℕ) (ds : List Decision) (e : Decision) → level < e.level → up_to_level level (snoc ds e) ≡ up_to_level level ds
unfolding up_to_level
drops level ds e h = filter_last (λ (c : Decision). leb c.level level) ds e (lt-leb e.level level h)

keeps_all : (level : ℕ) {ds : List Decision} → Each (λ (c : Decision). c.level ≤ level) ds → up_to_level level ds ≡ ds
unfolding up_to_level
keeps_all level es = filter_all (λ (c : Decision). leb c.level level) (each_imp (λ c g. le-leb c.level level g) es)

-- k decisions are left of d, and all that were dropped are above the level
pub record Undoing (l : Limits) (level d : ℕ) (b₀ : List ℕ) (k : ℕ) (b : List ℕ) : Type 0 where
  pub fits : Fits l (length b)
  pub long : length b ≡ length b₀
  pub kept : Kept l k (held l b)
  pub rising : Rising (decisions k (held l b))
  pub same : up_to_level level (decisions k (held l b)) ≡ up_to_level level (decisions d (held l b₀))
  pub rest : Changed (17 ∷ 18 ∷ []) (held l b₀) (held l b)

-- a last level above another is that of some decision
pub some_left : (d r level : ℕ) (st : ℕ → List ℕ) → r ≡ last_level (decisions d st) → level < r → 0 < d
some_left d r level st e h = elim (dec_lt 0 d) [
  | yes p ↦ p
  | no p ↦
      let z : d ≡ 0 = omega arith in
      omega (arith, e ∙ sym (last_none d st z))
]

module _ {l : Limits} {level d : ℕ} {b₀ : List ℕ} {k : ℕ} {b : List ℕ} (r : ℕ) (u : Undoing l level d b₀ k b) (e : r ≡ last_level (decisions k (held l b))) where
  pub undo_step : (k' : ℕ) (b' : List ℕ) → length b' ≡ length b → level < r → Dropped l k k' (held l b) (held l b') → Undoing l level d b₀ k' b'
  undo_step k' b' n h g =
      record {
        fits = rw n u.fits;
        long = n ∙ u.long;
        kept = g.kept;
        rising = rw left (pairwise_first (decisions k' (held l b)) (decision_in (held l b 18) k') (rw split_now at u.rising));
        same = rw left (sym (drops level (decisions k' (held l b)) (decision_in (held l b 18) k') above) ∙ rw split_now at u.same);
        rest = changed_then u.rest (changed_within {js = 17 ∷ []} (17 ∷ 18 ∷ []) (unfold all any in refl) g.rest);
      }
    where
      left : decisions k' (held l b') ≡ decisions k' (held l b)
      left = decisions_kept g.rest k' (unfold any in refl)

      split_now : decisions k (held l b) ≡ snoc (decisions k' (held l b)) (decision_in (held l b 18) k')
      split_now = rw g.less (split k' (held l b))

      above : level < (decision_in (held l b 18) k').level
      above =
          let q : r ≡ (decision_in (held l b 18) k').level = e ∙ (rw split_now (last_snoc (decisions k' (held l b)) (decision_in (held l b 18) k'))) in
          rw q at h

  pub undo_end : r ≤ level → Told l k (up_to_level level (decisions d (held l b₀))) (held l b₀) (held l b)
  undo_end h =
      let low : Each (λ (c : Decision). c.level ≤ level) (decisions k (held l b)) = each_imp (λ c g. omega (arith, e)) (last_highest u.rising) in
      record { kept = u.kept; is = sym (keeps_all level low) ∙ u.same; rest = u.rest }
