-- A requirement's steps one after another: what they keep, the fired disjuncts one by one, and all by its shape.
use mathlib.Core.Path.{◌≡◌, refl, sym, ◌∙◌, ap}
use mathlib.Core.Bool.{Bool, true, false}
use mathlib.Core.List.{List, []}
use Prim.Native.Nat.{ℕ, ◌+◌, ◌<◌, ◌≤◌}
use native.Mathlib.Omega.{arith}
use lib.ListN.{length, get_or, take, drop, take-append-drop}
use lib.Seq.{take_all}
use Rattle.rules.specs.Lists.{fold, distinct}
use Rattle.rules.specs.Catalogue.{Catalogue, owner_at, goal_at}
use Rattle.rules.specs.Candidates.{goal_ranges}
use Rattle.rules.specs.Conditions.{disjunct_at, unconditional}
use Rattle.rules.specs.Variables.{Origin, chosen, known, part_origin}
use Rattle.rules.specs.Encoding.{Shape, direct, through_gate, shape_of}
use Rattle.rules.specs.State.{State, Run}
use Rattle.rules.proofs.Each.{each_imp, each_at}
use Rattle.rules.proofs.Capped.{add_variable}
use Rattle.rules.proofs.DistinctEnough.{fold_append}
use Rattle.variable_map.specs.declared.Origin as code
use Rattle.variable_map.specs.Mapping.{origin_of}
use Rattle.marked.specs.Marked.{listed}
use Rattle.encoder.specs.declared.State as encoder
use Rattle.encoder.specs.Held.{Reading, LongEnough, state_of}
use Rattle.encoder.specs.Did.{is_full}
use Rattle.encoder.specs.Does.{StateDoes, PlainDoes, ClausesDoes, IsGoodWith, regions_of, variables_of}
use Rattle.encoder.proofs.Did.{widens_fold}
use Rattle.encoder.proofs.Steps.{not_full, still_known}
use Rattle.encoder.proofs.Does.{does_then, at_catalogue, clauses_do_same, clauses_do_then, state_then_clauses_do, state_does_clauses, clauses_do_none, good_with_then, good_with_later, long_then}
use Rattle.naming.specs.Naming.{name_candidates, name_disjuncts}
use Rattle.naming.specs.Settled.{AreSettled}
use Rattle.naming.proofs.Loops.{one_more}
use Rattle.condition_literals.specs.Literals.{AtHand, DisjunctKnown, FiredKnown, Named}
use Rattle.handling.specs.Handling.{add_direct, add_through_gate, add_fired, add_all_fired, add_by, add_unconditional, handled}
use Rattle.handling.proofs.Adding.{clauses_do_stop, variables_with}
use Rattle.handling.proofs.Named.{handled_known, fired_known, added_unconditional, added_conditional}
use Rattle.handling.proofs.Widening.{fired_widens, all_fired_widen, added_widens}

-- ---- what a step keeps

module _ {c : Catalogue} {q : ℕ} {vs ws : List Origin} (k : (o : Origin) → known vs o ≡ true → known ws o ≡ true) where
  named_kept : Named c q vs → Named c q ws
  named_kept h = record { owner = k (chosen (owner_at c q)) h.owner; candidates = each_imp (λ p. k (part_origin p)) h.candidates }

  fired_kept : {is : List ℕ} → FiredKnown c vs q is → FiredKnown c ws q is
  fired_kept h = record { known = each_imp (λ i d. record { known = each_imp k d.known }) h.known }

known_still : {c : Catalogue} {F : Reading → State → State} {x x' : encoder.State} {cl cl' : List ℕ} → ClausesDoes c F x cl x' cl' → IsGoodWith c x cl [] → is_full x'.used ≡ false
    → (o : Origin) → known (variables_of x) o ≡ true → known (variables_of x') o ≡ true
known_still d g e o k = rw d.limits (still_known (d.did.is []) g e o k)

module _ {c : Catalogue} {F : Reading → State → State} {x x' : encoder.State} {cl cl' : List ℕ} {q : ℕ} where
  pub hand_later : {ranges : ℕ} → ClausesDoes c F x cl x' cl' → IsGoodWith c x cl [] → AtHand c q ranges (regions_of x) → AtHand c q ranges (regions_of x')
  hand_later {ranges} d g h =
      let b = (d.did.is []).beside g in
      rw d.limits (record { marked = b.marked ranges h.marked; is = b.list ranges h.marked ∙ h.is })

  named_later : ClausesDoes c F x cl x' cl' → IsGoodWith c x cl [] → is_full x'.used ≡ false → Named c q (variables_of x) → Named c q (variables_of x')
  named_later d g e h = named_kept (known_still d g e) h

  fired_later : {is : List ℕ} → ClausesDoes c F x cl x' cl' → IsGoodWith c x cl [] → is_full x'.used ≡ false → FiredKnown c (variables_of x) q is
      → FiredKnown c (variables_of x') q is
  fired_later d g e h = fired_kept (known_still d g e) h

module _ {c : Catalogue} {F : Reading → State → State} {x x' : encoder.State} {cl : List ℕ} {q : ℕ} where
  pub hand_after : {ranges : ℕ} → StateDoes c F x x' → IsGoodWith c x cl [] → AtHand c q ranges (regions_of x) → AtHand c q ranges (regions_of x')
  hand_after d g h = hand_later (state_does_clauses d) g h

  pub named_after : StateDoes c F x x' → IsGoodWith c x cl [] → is_full x'.used ≡ false → Named c q (variables_of x) → Named c q (variables_of x')
  named_after d g e h = named_later (state_does_clauses d) g e h

anything : Reading
anything = record { truth = λ p. false; drawn = [] }

-- ---- the fired disjuncts, one by one

-- the first j of them have their clauses
pub record Firing (c : Catalogue) (r : Run) (q ranges : ℕ) (is : List ℕ) (x₀ : encoder.State) (cl₀ : List ℕ) (x : encoder.State) (cl : List ℕ) (j : ℕ) : Type 0 where
  pub within : j ≤ length is
  pub long : LongEnough x.limits (length cl) 16384
  pub same_clauses : length cl ≡ length cl₀
  pub good : IsGoodWith c x cl []
  pub hand : AtHand c q ranges (regions_of x)
  pub named : is_full x.used ≡ false → Named c q (variables_of x)
  pub fired : is_full x.used ≡ false → FiredKnown c (variables_of x) q is
  pub did : ClausesDoes c (λ v. fold (add_fired c r q) (take j is)) x₀ cl₀ x cl

all_of_them : (f : ℕ → State → State) (xs : List ℕ) (j : ℕ) (s : State) → fold f (drop j xs) (fold f (take j xs) s) ≡ fold f xs s
all_of_them f xs j s = sym (fold_append f (take j xs) (drop j xs) s) ∙ ap (λ (ys : List ℕ). fold f ys s) (take-append-drop j xs)

none_left : (f : ℕ → State → State) (xs : List ℕ) (j : ℕ) (s : State) → length xs ≤ j → fold f (take j xs) s ≡ fold f xs s
none_left f xs j s h = ap (λ (ys : List ℕ). fold f ys s) (take_all j xs h)

pub firing_start : {c : Catalogue} (r : Run) {q ranges : ℕ} {x : encoder.State} {cl is : List ℕ} → IsGoodWith c x cl [] → LongEnough x.limits (length cl) 16384
    → AtHand c q ranges (regions_of x) → Named c q (variables_of x) → FiredKnown c (variables_of x) q is → Firing c r q ranges is x cl x cl 0
unfolding fold
firing_start r g y h a f =
    record {
      within = omega arith;
      long = y;
      same_clauses = refl;
      good = g;
      hand = h;
      named = λ _. a;
      fired = λ _. f;
      did = clauses_do_none (λ v s. refl);
    }

module _ {c : Catalogue} {r : Run} {q ranges : ℕ} {x₀ : encoder.State} {cl₀ is : List ℕ} {x : encoder.State} {cl : List ℕ} {j : ℕ}
    (p : Firing c r q ranges is x₀ cl₀ x cl j) where
  pub firing_known : is_full x.used ≡ false → j < length is → DisjunctKnown c (variables_of x) (disjunct_at c q (get_or is j 0))
  firing_known e h = each_at (p.fired e).known j 0 h

  pub firing_step : is_full x.used ≡ false → j < length is → {x' : encoder.State} {cl' : List ℕ} → length cl' ≡ length cl
      → ClausesDoes c (λ v. add_fired c r q (get_or is j 0)) x cl x' cl' → Firing c r q ranges is x₀ cl₀ x' cl' (j + 1)
  firing_step e h k d =
      record {
        within = omega arith;
        long = long_then d.limits k p.long;
        same_clauses = k ∙ p.same_clauses;
        good = good_with_later d p.good;
        hand = hand_later d p.good p.hand;
        named = λ f. named_later d p.good f (p.named e);
        fired = λ f. fired_later d p.good f (p.fired e);
        did = clauses_do_same (clauses_do_then p.did d) (λ v t. one_more (add_fired c r q) is j t h);
      }

  pub firing_end : length is ≤ j → ClausesDoes c (λ v. add_all_fired c r q is) x₀ cl₀ x cl
  firing_end h = clauses_do_same p.did (λ v t. unfold add_all_fired in none_left (add_fired c r q) is j t h)

  pub firing_full : is_full x.used ≡ true → ClausesDoes c (λ v. add_all_fired c r q is) x₀ cl₀ x cl
  firing_full f =
      clauses_do_same (clauses_do_stop {G = λ v. fold (add_fired c r q) (drop j is)} p.did (λ v t. widens_fold (add_fired c r q) (fired_widens c r q) (drop j is) t) f)
      (λ v t. unfold add_all_fired in all_of_them (add_fired c r q) is j t)

-- ---- with a condition: first all that the fired disjuncts name

module _ {c : Catalogue} (q : ℕ) (is : List ℕ) {x x₁ : encoder.State} {cl : List ℕ} (d : StateDoes c (λ v. name_disjuncts c q is) x x₁) where
  pub fired_after : IsGoodWith c x cl [] → is_full x₁.used ≡ false → FiredKnown c (variables_of x₁) q is
  fired_after g e = rw (variables_with d g e anything) (fired_known c q is (state_of c x.limits anything x.used (regions_of x) cl []))

  pub conditional_full : (r : Run) → is_full x₁.used ≡ true → ClausesDoes c (λ v u. add_all_fired c r q is (name_disjuncts c q is u)) x cl x₁ cl
  conditional_full r f = clauses_do_stop {G = λ v. add_all_fired c r q is} (state_does_clauses d) (λ v s. all_fired_widen c r q is s) f

-- ---- without

module _ (c : Catalogue) (r : Run) (q : ℕ) where
  by_direct : (h : Shape) → h ≡ direct → (s : State) → add_direct c r q s ≡ add_by c r q h [] s
  by_direct h e s = rw e (unfold add_by in refl)

  by_gate : (h : Shape) → h ≡ through_gate → (s : State) → add_through_gate c r q s ≡ add_by c r q h [] s
  by_gate h e s = rw e (unfold add_by in refl)

module _ (c : Catalogue) (r : Run) (q : ℕ) {x x₁ : encoder.State} {cl cl₁ : List ℕ} where
  pub directly : shape_of c q ≡ direct → ClausesDoes c (λ v. add_direct c r q) x cl x₁ cl₁ → ClausesDoes c (λ v. add_unconditional c r q) x cl x₁ cl₁
  directly e d = clauses_do_same d (λ v s. unfold add_unconditional in by_direct c r q (shape_of c q) e s)

  pub by_a_gate : shape_of c q ≡ through_gate → ClausesDoes c (λ v. add_through_gate c r q) x cl x₁ cl₁ → ClausesDoes c (λ v. add_unconditional c r q) x cl x₁ cl₁
  by_a_gate e d = clauses_do_same d (λ v s. unfold add_unconditional in by_gate c r q (shape_of c q) e s)

-- ---- the owner and the candidates, then the clauses

module _ {c : Catalogue} {q ranges : ℕ} (settled : Bool) (w : code.Origin) {x x₁ x₂ : encoder.State}
    (i : origin_of w ≡ chosen (owner_at c q)) (d : PlainDoes (λ c v. add_variable (origin_of w)) x x₁) (h : AtHand c q ranges (regions_of x₁))
    (k : StateDoes c (λ v. name_candidates c settled (listed ranges 14 (regions_of x₁))) x₁ x₂) where
  named : StateDoes c (λ v s. name_candidates c settled (distinct (goal_ranges c (goal_at c q))) (add_variable (chosen (owner_at c q)) s)) x x₂
  named = rw (i, h.is) at (does_then (at_catalogue {c = c} d) k)

  pub handle_good : {cl : List ℕ} → IsGoodWith c x cl [] → IsGoodWith c x₂ cl []
  handle_good g = good_with_then named g

  pub handle_long : (cl : List ℕ) → LongEnough x.limits (length cl) 16384 → LongEnough x₂.limits (length cl) 16384
  handle_long cl e = long_then named.limits refl e

  pub handle_named : {cl : List ℕ} → IsGoodWith c x cl [] → (settled ≡ true → AreSettled c (distinct (goal_ranges c (goal_at c q))) x) → is_full x₂.used ≡ false
      → Named c q (variables_of x₂)
  handle_named {cl} g f e =
      rw (variables_with named g e anything)
      (handled_known c q settled (state_of c x.limits anything x.used (regions_of x) cl []) (λ z. (f z).held (not_full (named.did.is cl []) g e) anything cl []))

  pub handle_hand : {cl : List ℕ} → IsGoodWith c x cl [] → AtHand c q ranges (regions_of x) → AtHand c q ranges (regions_of x₂)
  handle_hand g a = hand_after named g a

  module _ (r : Run) (is : List ℕ) {cl : List ℕ} where
    pub handled_full : is_full x₂.used ≡ true → ClausesDoes c (λ v. handled c r q settled is) x cl x₂ cl
    handled_full f =
        clauses_do_same (clauses_do_stop {G = λ v. add_by c r q (shape_of c q) is} (state_does_clauses named) (λ v s. added_widens c r q (shape_of c q) is s) f)
        (λ v s. unfold handled in refl)

    pub handled_unconditional : {x₃ : encoder.State} {cl₃ : List ℕ} → unconditional c q ≡ true
        → ClausesDoes c (λ v. add_unconditional c r q) x₂ cl x₃ cl₃ → ClausesDoes c (λ v. handled c r q settled is) x cl x₃ cl₃
    handled_unconditional u a = clauses_do_same (state_then_clauses_do named a) (λ v s. unfold handled in sym (added_unconditional c r q is _ u))

    pub handled_conditional : {x₃ : encoder.State} {cl₃ : List ℕ} → unconditional c q ≡ false
        → ClausesDoes c (λ v u. add_all_fired c r q is (name_disjuncts c q is u)) x₂ cl x₃ cl₃ → ClausesDoes c (λ v. handled c r q settled is) x cl x₃ cl₃
    handled_conditional u a = clauses_do_same (state_then_clauses_do named a) (λ v s. unfold handled in sym (added_conditional c r q is _ u))
