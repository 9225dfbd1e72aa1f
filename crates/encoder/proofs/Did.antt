-- Steps one after another.
use mathlib.Core.Path.{◌≡◌, refl, sym, ◌∙◌, ap}
use mathlib.Core.Bool.{true, false, not, true≢false}
use mathlib.Core.List.{List, [], ◌∷◌}
use Prim.Native.Nat.{ℕ}
use native.Mathlib.Omega.{arith}
use lib.Dec.{eqb}
use lib.ListN.{take}
use borrow.Author.Tests.{eq-eqb, ne_eqb}
use Rattle.rules.specs.Catalogue.{Catalogue}
use Rattle.rules.specs.Lists.{fold, elem}
use Rattle.rules.specs.State.{State}
use Rattle.rules.proofs.Bools.{by_cases}
use Rattle.rules.proofs.Grows.{same, and_then, stays_above, more_than, either}
use Rattle.state.specs.declared.Limits.{Limits}
use Rattle.state.specs.Changed.{Changed}
use Rattle.entries.specs.Entries.{drawn_in}
use Rattle.marked.proofs.Laws.{listed_same, marked_same}
use Rattle.encoder.specs.declared.Counters.{Counters}
use Rattle.encoder.specs.Held.{Reading, state_of, Good}
use Rattle.encoder.specs.Did.{room_of, beyond, Widens, filled, Beside, Did, PlainDid, is_full}
use Rattle.state.specs.Limits.{limits_of}
use Rattle.encoder.proofs.Frames.{good_filled}

-- ---- the test for a limit that would have been passed

-- x is the counters' `full`
pub told_full : {x : ℕ} → (x ≡ 0 → ⊥) → not (eqb x 0) ≡ true
told_full {x} h = ap not (ne_eqb x 0 h)

pub told_going : {x : ℕ} → x ≡ 0 → not (eqb x 0) ≡ false
told_going {x} h = ap not (eq-eqb x 0 h)

-- ---- widening

pub widens_same : {s : State} → Widens s s
widens_same = record { grows = same; line = omega arith; several = omega arith }

pub widens_then : {s s' s'' : State} → Widens s s' → Widens s' s'' → Widens s s''
widens_then p q = record { grows = and_then p.grows q.grows; line = omega (arith, p.line, q.line); several = omega (arith, p.several, q.several) }

pub widens_fold : {A : Type 0} (f : A → State → State) → ((x : A) (s : State) → Widens s (f x s)) → (xs : List A) (s : State) → Widens s (fold f xs s)
unfolding fold
widens_fold f h [] s = widens_same
widens_fold f h (x ∷ xs) s = widens_then (h x s) (widens_fold f h xs (f x s))

pub stays_beyond : (l : Limits) (room : ℕ) {s s' : State} → Widens s s' → beyond l room s ≡ true → beyond l room s' ≡ true
unfolding beyond
stays_beyond l room w =
    either _ _ _ _ (stays_above (limits_of l) w.grows) (either _ _ _ _ (more_than room _ _ w.line) (more_than 64 _ _ w.several))

same_room : (l : Limits) (n n' : Counters) → n'.first ≡ n.first → room_of l n' ≡ room_of l n
unfolding room_of
same_room l n n' e = rw e

-- ---- what every step leaves

pub beside_same : {first : ℕ} {st : ℕ → List ℕ} → Beside first st st
beside_same = record { marked = λ m k. k; list = λ m k. refl; line = refl }

pub beside_then : {first : ℕ} {st st' st'' : ℕ → List ℕ} → Beside first st st' → Beside first st' st'' → Beside first st st''
beside_then p q =
    record { marked = λ m k. q.marked m (p.marked m k); list = λ m k. q.list m (p.marked m k) ∙ p.list m k; line = q.line ∙ p.line }

pub beside_kept : {first : ℕ} {js : List ℕ} {st st' : ℕ → List ℕ} → Changed js st st' → elem 14 js ≡ false → elem 15 js ≡ false → elem 20 js ≡ false
    → Beside first st st'
beside_kept {first} ch p q r =
    record { marked = λ m k. marked_same k ch p q; list = λ m k. listed_same m 14 ch p; line = ap (take first) (ch.same 20 r) }

-- ---- steps

module _ {c : Catalogue} {l : Limits} where
  module _ {n : Counters} {st : ℕ → List ℕ} {cl wt : List ℕ} where
    -- nothing
    pub did_nothing : Did c l (λ v s. s) n st cl wt n st cl wt
    did_nothing =
        record {
          wide = λ v s. widens_same;
          good = λ g. g;
          first = refl;
          beside = λ g. beside_same;
          fewer = refl;
          drawn = λ k. refl;
          stays = λ e. e;
          done = λ g e e' v. refl;
          over = λ g e e' v. absurd (true≢false (sym e' ∙ e));
        }

    -- nothing, where it is full already
    pub did_full : {F : Reading → State → State} → is_full n ≡ true → ((v : Reading) (s : State) → Widens s (F v s)) → Did c l F n st cl wt n st cl wt
    did_full f w =
        record {
          wide = w;
          good = λ g. g;
          first = refl;
          beside = λ g. beside_same;
          fewer = refl;
          drawn = λ k. refl;
          stays = λ e. e;
          done = λ g e e' v. absurd (true≢false (sym f ∙ e));
          over = λ g e e' v. absurd (true≢false (sym f ∙ e));
        }

    -- nothing, where F would change nothing
    pub did_idle : {F : Reading → State → State} → ((v : Reading) (s : State) → Widens s (F v s))
        → (Good c l n st cl wt → is_full n ≡ false → (v : Reading) → F v (state_of c l v n st cl wt) ≡ state_of c l v n st cl wt)
        → Did c l F n st cl wt n st cl wt
    did_idle w h =
        record {
          wide = w;
          good = λ g. g;
          first = refl;
          beside = λ g. beside_same;
          fewer = refl;
          drawn = λ k. refl;
          stays = λ e. e;
          done = λ g e e' v. sym (h g e v);
          over = λ g e e' v. absurd (true≢false (sym e' ∙ e));
        }

    -- nothing but to say that it is full, where F would pass a limit
    pub did_filled : {F : Reading → State → State} → ((v : Reading) (s : State) → Widens s (F v s))
        → (Good c l n st cl wt → (v : Reading) → beyond l (room_of l n) (F v (state_of c l v n st cl wt)) ≡ true)
        → Did c l F n st cl wt (filled n) st cl wt
    did_filled w h =
        record {
          wide = w;
          good = good_filled;
          first = unfold filled in refl;
          beside = λ g. beside_same;
          fewer = unfold filled in refl;
          drawn = λ k. refl;
          stays = λ e. unfold filled in refl;
          done = λ g e e' v. absurd (true≢false (unfold filled in e'));
          over = λ g e e' v. h g v;
        }

  module _ {F : Reading → State → State} {n : Counters} {st : ℕ → List ℕ} {cl wt : List ℕ} {n' : Counters} {st' : ℕ → List ℕ} {cl' wt' : List ℕ} where
    -- F, and nothing becomes full
    pub did_made : ((v : Reading) (s : State) → Widens s (F v s)) → n'.first ≡ n.first → (Good c l n st cl wt → Beside n.first st st') → n'.drawn ≡ n.drawn → is_full n' ≡ is_full n
        → ((k : ℕ) → drawn_in l k wt' ≡ drawn_in l k wt)
        → (Good c l n st cl wt → Good c l n' st' cl' wt')
        → (Good c l n st cl wt → (v : Reading) → state_of c l v n' st' cl' wt' ≡ F v (state_of c l v n st cl wt))
        → Did c l F n st cl wt n' st' cl' wt'
    did_made w a i j f d g h =
        record {
          wide = w;
          good = g;
          first = a;
          beside = i;
          fewer = j;
          drawn = d;
          stays = λ e. f ∙ e;
          done = λ k e e' v. h k v;
          over = λ k e e' v. absurd (true≢false (sym e' ∙ (f ∙ e)));
        }

    -- the same by another name
    pub did_as : {G : Reading → State → State} → Did c l F n st cl wt n' st' cl' wt' → ((v : Reading) (s : State) → Widens s (G v s))
        → (Good c l n st cl wt → is_full n ≡ false → (v : Reading) → F v (state_of c l v n st cl wt) ≡ G v (state_of c l v n st cl wt))
        → Did c l G n st cl wt n' st' cl' wt'
    did_as d w h =
        record {
          wide = w;
          good = d.good;
          first = d.first;
          beside = d.beside;
          fewer = d.fewer;
          drawn = d.drawn;
          stays = d.stays;
          done = λ g e e' v. d.done g e e' v ∙ h g e v;
          over = λ g e e' v. ap (beyond l (room_of l n)) (sym (h g e v)) ∙ d.over g e e' v;
        }

    -- the next step is not taken where it is full
    pub did_stop : {G : Reading → State → State} → Did c l F n st cl wt n' st' cl' wt' → is_full n' ≡ true → ((v : Reading) (s : State) → Widens s (G v s))
        → Did c l (λ v s. G v (F v s)) n st cl wt n' st' cl' wt'
    did_stop d f w =
        record {
          wide = λ v s. widens_then (d.wide v s) (w v (F v s));
          good = d.good;
          first = d.first;
          beside = d.beside;
          fewer = d.fewer;
          drawn = d.drawn;
          stays = d.stays;
          done = λ g e e' v. absurd (true≢false (sym f ∙ e'));
          over = λ g e e' v. stays_beyond l (room_of l n) (w v _) (d.over g e e' v);
        }

    module _ {G : Reading → State → State} {n'' : Counters} {st'' : ℕ → List ℕ} {cl'' wt'' : List ℕ} where
      -- one step and then another
      pub did_then : Did c l F n st cl wt n' st' cl' wt' → Did c l G n' st' cl' wt' n'' st'' cl'' wt'' → Did c l (λ v s. G v (F v s)) n st cl wt n'' st'' cl'' wt''
      did_then d k =
          record {
            wide = λ v s. widens_then (d.wide v s) (k.wide v (F v s));
            good = λ g. k.good (d.good g);
            first = k.first ∙ d.first;
            beside = λ g. beside_then (d.beside g) (rw d.first at (k.beside (d.good g)));
            fewer = k.fewer ∙ d.fewer;
            drawn = λ i. k.drawn i ∙ d.drawn i;
            stays = λ e. k.stays (d.stays e);
            done = λ g e e'' v. let e' = not_full e'' in k.done (d.good g) e' e'' v ∙ ap (G v) (d.done g e e' v);
            over = λ g e e'' v. by_cases (is_full n')
                (λ e'. stays_beyond l (room_of l n) (k.wide v _) (d.over g e e' v))
                (λ e'. ap (λ s. beyond l (room_of l n) (G v s)) (sym (d.done g e e' v))
                ∙ (ap (λ m. beyond l m (G v (state_of c l v n' st' cl' wt'))) (sym (same_room l n n' d.first)) ∙ k.over (d.good g) e' e'' v));
          }
        where
          not_full : is_full n'' ≡ false → is_full n' ≡ false
          not_full e'' = by_cases (is_full n') (λ e'. absurd (true≢false (sym (k.stays e') ∙ e''))) (λ e'. e')

-- a step that does not read the catalogue, where it is full already
pub plain_full : {l : Limits} {n : Counters} {st : ℕ → List ℕ} {F : Catalogue → Reading → State → State}
    → ((c : Catalogue) (v : Reading) (s : State) → Widens s (F c v s)) → is_full n ≡ true → PlainDid l F n st n st
plain_full w f = record { is = λ c. record { is = λ cl wt. did_full f (w c) } }
