-- A step with a list at hand that is gathered before it and released after it.
use mathlib.Core.Path.{◌≡◌, refl, sym, ◌∙◌, ap}
use mathlib.Core.Bool.{Bool, true, cond}
use mathlib.Core.List.Memᴰ
use mathlib.Core.List.{List, [], ◌∷◌}
use Prim.Native.Nat.{ℕ, zero, suc, ◌≤◌}
use native.Mathlib.Omega.{arith}
use lib.ListN.{length, get_or, take}
use Rattle.rules.specs.Lists.{any, elem}
use Rattle.rules.specs.Catalogue.{Catalogue}
use Rattle.rules.specs.State.{State}
use Rattle.rules.proofs.Membership.{elem_in}
use Rattle.state.specs.declared.Limits.{Limits}
use Rattle.state.specs.Changed.{Changed}
use Rattle.variable_map.proofs.Laws.{variables_kept}
use Rattle.decision_tracker.proofs.Laws.{decisions_kept}
use Rattle.marked.specs.Marked.{listed, Marked, Emptied}
use Rattle.encoder.specs.declared.Counters.{Counters}
use Rattle.encoder.specs.Held.{Reading, opening_of, state_of, Good}
use Rattle.encoder.specs.Did.{Beside, Did, ClausesDid, room_of, beyond}
use Rattle.encoder.specs.declared.State as encoder
use Rattle.encoder.specs.Does.{ClausesDoes, IsGoodWith, regions_of}
use Rattle.goals.specs.Goals.{HandGathers, HandReleased}
use Rattle.encoder.proofs.Frames.{good_kept, list_kept, line_kept}

module _ {st st' : ℕ → List ℕ} (ch : Changed (14 ∷ 15 ∷ []) st st') where
  pub good_hand : {c : Catalogue} {l : Limits} {n : Counters} {cl wt : List ℕ} → Good c l n st cl wt → Good c l n st' cl wt
  unfolding any
  good_hand g = good_kept ch g (search) refl refl refl refl refl g.entries

  state_hand : (c : Catalogue) (l : Limits) (v : Reading) (n : Counters) (cl wt : List ℕ) → state_of c l v n st' cl wt ≡ state_of c l v n st cl wt
  unfolding state_of opening_of any
  state_hand c l v n cl wt = simp (list_kept ch, line_kept ch, variables_kept ch, decisions_kept ch, ch.same)

  line_hand : (first : ℕ) → take first (st' 20) ≡ take first (st 20)
  line_hand first = ap (take first) (ch.same 20 (unfold any in refl))

-- no other number of things was at hand
one_if : (b : Bool) (x : ℕ) → x ≡ cond b 1 0 → b ≡ true → x ≡ 1
one_if b x e f = rw f at e

none_other : {st : ℕ → List ℕ} → Marked 14 15 0 st → (m : ℕ) → Marked 14 15 m st → m ≡ 0
unfolding listed any
none_other {st} z zero k = refl
none_other {st} z (suc m) k = go (st 14) k.most k.marks
  where
    go : (xs : List ℕ) → suc m ≤ length xs → ((x : ℕ) → get_or (st 15) x 0 ≡ cond (elem x (take (suc m) xs)) 1 0) → suc m ≡ 0
    go [] h f = let no : ⊥ = omega arith in absurd no
    go (x ∷ xs) h f =
        let a : get_or (st 15) x 0 ≡ 0 = z.marks x in
        let b : get_or (st 15) x 0 ≡ 1 = one_if _ _ (f x) (elem_in (x ∷ take m xs) (Memᴰ.head refl)) in
        let no : ⊥ = omega arith in
        absurd no

module _ {st st₁ st₂ st₃ : ℕ → List ℕ} (z : Marked 14 15 0 st) (a : Changed (14 ∷ 15 ∷ []) st st₁) (b : Emptied 14 15 st₂ st₃) where
  beside_all : (first : ℕ) → Beside first st₁ st₂ → Beside first st st₃
  beside_all first w =
      record {
        marked = λ m k. rw (none_other z m k) b.marked;
        list = λ m k. rw (none_other z m k) (unfold listed in refl);
        line = line_hand b.others first ∙ (w.line ∙ line_hand a first);
      }

  module _ {c : Catalogue} {l : Limits} (F : Reading → State → State) {n n' : Counters} {cl cl' : List ℕ} where
    did_all : (wt : List ℕ) → Did c l F n st₁ cl wt n' st₂ cl' wt → Did c l F n st cl wt n' st₃ cl' wt
    did_all wt k =
        let start : (v : Reading) → state_of c l v n st₁ cl wt ≡ state_of c l v n st cl wt = λ v. state_hand a c l v n cl wt in
        record {
          wide = k.wide;
          good = λ g. good_hand b.others (k.good (good_hand a g));
          first = k.first;
          beside = λ g. beside_all n.first (k.beside (good_hand a g));
          fewer = k.fewer;
          drawn = k.drawn;
          stays = k.stays;
          done = λ g e f v. state_hand b.others c l v n' cl' wt ∙ (k.done (good_hand a g) e f v ∙ ap (F v) (start v));
          over = λ g e f v. ap (λ (s : State). beyond l (room_of l n) (F v s)) (sym (start v)) ∙ k.over (good_hand a g) e f v;
        }

    pub did_released : ClausesDid c l F n st₁ cl n' st₂ cl' → ClausesDid c l F n st cl n' st₃ cl'
    did_released d = record { is = λ wt. did_all wt (d.is wt) }

-- ---- of the encoder's state

module _ {c : Catalogue} {xs : List ℕ} {m : ℕ} {x x₁ : encoder.State} (a : HandGathers xs x m x₁) where
  pub good_gathered : {cl wt : List ℕ} → IsGoodWith c x cl wt → IsGoodWith c x₁ cl wt
  good_gathered g = rw (a.written.limits, a.written.used) (good_hand a.gathers.others g)

  pub clauses_do_released : {F : Reading → State → State} {x₂ x₃ : encoder.State} {cl cl' : List ℕ} → Marked 14 15 0 (regions_of x) → ClausesDoes c F x₁ cl x₂ cl'
      → HandReleased x₂ x₃ → ClausesDoes c F x cl x₃ cl'
  clauses_do_released {F = F} z d b =
      let limits = d.limits ∙ a.written.limits in
      record {
        limits = b.written.limits ∙ limits;
        area = b.written.area ∙ (d.area ∙ a.written.area);
        did = rw b.written.used (did_released z a.gathers.others (rw limits at b.emptied) F (rw (a.written.limits, a.written.used) at d.did));
      }
