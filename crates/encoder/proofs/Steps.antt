-- For callers too: steps of the state area, and of it and the clauses', one after another; what they keep.
use mathlib.Core.Path.{◌≡◌, refl, sym, ◌∙◌, ap, subst}
use mathlib.Core.Bool.{true, false, true≢false}
use mathlib.Core.List.{List, []}
use Prim.Native.Nat.{ℕ}
use Rattle.rules.specs.Catalogue.{Catalogue}
use Rattle.rules.specs.Variables.{Origin, known, part_origin}
use Rattle.rules.specs.State.{State}
use Rattle.rules.proofs.Bools.{by_cases}
use Rattle.rules.proofs.Each.{each_imp}
use Rattle.rules.proofs.Grows.{Prefix}
use Rattle.rules.proofs.Places.{keeps_variable}
use Rattle.rules.proofs.Forgotten.{forget}
use Rattle.state.specs.declared.Limits.{Limits}
use Rattle.variable_map.specs.Mapping.{variables}
use Rattle.encoder.specs.declared.Counters.{Counters}
use Rattle.encoder.specs.Held.{Reading, opening_of, state_of, Good, GoodAlone, KnownUnlessFull, LongEnough}
use Rattle.encoder.specs.Did.{Widens, Did, StateDid, ClausesDid, is_full}
use Rattle.encoder.proofs.Did.{did_as, did_then, did_idle, widens_same}

-- the waiting area has no part in it
pub good_waiting : {c : Catalogue} {l : Limits} {n : Counters} {st : ℕ → List ℕ} {cl wt : List ℕ} (wt' : List ℕ) → Good c l n st cl wt → Good c l n st cl wt'
good_waiting wt' g = record { state = g.state; clauses = g.clauses; entries = g.entries }

pub good_alone : {c : Catalogue} {l : Limits} {n : Counters} {st : ℕ → List ℕ} {cl wt : List ℕ} → Good c l n st cl wt → GoodAlone c l n st
good_alone {cl = cl} g = record { clauses = cl; good = good_waiting [] g }

-- the areas keep their lengths
pub long_same : {l : Limits} {a b k : ℕ} → b ≡ a → LongEnough l a k → LongEnough l b k
long_same e f = rw e f

-- ---- the same by another name

module _ {c : Catalogue} {l : Limits} {F G : Reading → State → State} {n n' : Counters} {st st' : ℕ → List ℕ} where
  pub did_same : {cl wt cl' wt' : List ℕ} → Did c l F n st cl wt n' st' cl' wt' → ((v : Reading) (s : State) → F v s ≡ G v s) → Did c l G n st cl wt n' st' cl' wt'
  did_same d h = did_as d (λ v s. subst (Widens s) (h v s) (d.wide v s)) (λ g e v. h v _)

  pub state_same : StateDid c l F n st n' st' → ((v : Reading) (s : State) → F v s ≡ G v s) → StateDid c l G n st n' st'
  state_same d h = record { is = λ cl wt. did_same (d.is cl wt) h }

  pub clauses_same : {cl cl' : List ℕ} → ClausesDid c l F n st cl n' st' cl' → ((v : Reading) (s : State) → F v s ≡ G v s) → ClausesDid c l G n st cl n' st' cl'
  clauses_same d h = record { is = λ wt. did_same (d.is wt) h }

-- ---- nothing, where F changes nothing

module _ {c : Catalogue} {l : Limits} {F : Reading → State → State} {n : Counters} {st : ℕ → List ℕ} (h : (v : Reading) (s : State) → s ≡ F v s) where
  pub did_none : {cl wt : List ℕ} → Did c l F n st cl wt n st cl wt
  did_none = did_idle (λ v s. subst (Widens s) (h v s) widens_same) (λ g e v. sym (h v _))

  pub state_none : StateDid c l F n st n st
  state_none = record { is = λ cl wt. did_none }

  pub clauses_none : {cl : List ℕ} → ClausesDid c l F n st cl n st cl
  clauses_none = record { is = λ wt. did_none }

-- ---- one after another

module _ {c : Catalogue} {l : Limits} {F G : Reading → State → State} {n n' n'' : Counters} {st st' st'' : ℕ → List ℕ} where
  pub state_then : StateDid c l F n st n' st' → StateDid c l G n' st' n'' st'' → StateDid c l (λ v s. G v (F v s)) n st n'' st''
  state_then d k = record { is = λ cl wt. did_then (d.is cl wt) (k.is cl wt) }

  pub clauses_then : {cl cl' cl'' : List ℕ} → ClausesDid c l F n st cl n' st' cl' → ClausesDid c l G n' st' cl' n'' st'' cl''
      → ClausesDid c l (λ v s. G v (F v s)) n st cl n'' st'' cl''
  clauses_then d k = record { is = λ wt. did_then (d.is wt) (k.is wt) }

  pub state_then_clauses : {cl cl' : List ℕ} → StateDid c l F n st n' st' → ClausesDid c l G n' st' cl n'' st'' cl' → ClausesDid c l (λ v s. G v (F v s)) n st cl n'' st'' cl'
  state_then_clauses {cl} d k = record { is = λ wt. did_then (d.is cl wt) (k.is wt) }

module _ {c : Catalogue} {l : Limits} {F : Reading → State → State} {n n' : Counters} {st st' : ℕ → List ℕ} where
  pub state_clauses : {cl : List ℕ} → StateDid c l F n st n' st' → ClausesDid c l F n st cl n' st' cl
  state_clauses {cl} d = record { is = λ wt. d.is cl wt }

  -- ---- what holds between two steps

  pub alone_after : StateDid c l F n st n' st' → GoodAlone c l n st → GoodAlone c l n' st'
  alone_after d g = record { clauses = g.clauses; good = (d.is g.clauses []).good g.good }

  pub good_after : {cl : List ℕ} → StateDid c l F n st n' st' → Good c l n st cl [] → Good c l n' st' cl []
  good_after {cl} d g = (d.is cl []).good g

  pub good_later : {cl cl' : List ℕ} → ClausesDid c l F n st cl n' st' cl' → Good c l n st cl [] → Good c l n' st' cl' []
  good_later d g = (d.is []).good g

-- ---- variables: none is lost

some : Reading
some = record { truth = λ p. false; drawn = [] }

module _ {c : Catalogue} {l : Limits} {F : Reading → State → State} {n n' : Counters} {st st' : ℕ → List ℕ} {cl wt cl' wt' : List ℕ}
    (d : Did c l F n st cl wt n' st' cl' wt') (g : Good c l n st cl wt) (e : is_full n' ≡ false) where
  pub not_full : is_full n ≡ false
  not_full = by_cases (is_full n) (λ f. absurd (true≢false (sym (d.stays f) ∙ e))) (λ f. f)

  -- the variables are those of F
  pub variables_after_law : (v : Reading) → variables n'.variables st' ≡ (F v (state_of c l v n st cl wt)).variables
  variables_after_law v = unfold state_of in ap (λ (s : State). s.variables) (d.done g not_full e v)

  prefix : Prefix (variables n.variables st) (variables n'.variables st')
  prefix = rw (variables_after_law some) (unfold state_of in (d.wide some (state_of c l some n st cl wt)).grows.variables)

  pub still_known : (o : Origin) → known (variables n.variables st) o ≡ true → known (variables n'.variables st') o ≡ true
  still_known o k = (keeps_variable prefix o k).0

module _ {c : Catalogue} {l : Limits} {F : Reading → State → State} {n n' : Counters} {st st' : ℕ → List ℕ} {ps : List ℕ} where
  did_known : {cl wt cl' wt' : List ℕ} → Did c l F n st cl wt n' st' cl' wt' → Good c l n st cl wt → KnownUnlessFull (is_full n) (variables n.variables st) ps
      → KnownUnlessFull (is_full n') (variables n'.variables st') ps
  did_known d g a = record { known = λ e. record { known = each_imp (λ p k. still_known d g e (part_origin p) k) (a.known (not_full d g e)).known } }

  pub known_after : StateDid c l F n st n' st' → GoodAlone c l n st → KnownUnlessFull (is_full n) (variables n.variables st) ps
      → KnownUnlessFull (is_full n') (variables n'.variables st') ps
  known_after d g a = did_known (d.is g.clauses []) g.good a

  pub known_later : {cl cl' : List ℕ} → ClausesDid c l F n st cl n' st' cl' → Good c l n st cl [] → KnownUnlessFull (is_full n) (variables n.variables st) ps
      → KnownUnlessFull (is_full n') (variables n'.variables st') ps
  known_later d g a = did_known (d.is []) g a

-- ---- what was handled and fired is not kept

pub forget_widens : {s s' : State} → Widens s s' → Widens s (forget s')
forget_widens w =
    record {
      grows = record { variables = w.grows.variables; clauses = w.grows.clauses; waiting = w.grows.waiting };
      line = w.line;
      several = w.several;
    }

pub nothing_kept : (c : Catalogue) (l : Limits) (v : Reading) (n : Counters) (st : ℕ → List ℕ) (cl wt : List ℕ) → forget (state_of c l v n st cl wt) ≡ state_of c l v n st cl wt
unfolding state_of opening_of
nothing_kept c l v n st cl wt = refl
