-- For callers too: steps of the encoder's state, one after another.
use mathlib.Core.Path.{◌≡◌, refl, ◌∙◌}
use mathlib.Core.Bool.{false}
use mathlib.Core.List.{List, []}
use Prim.Native.Nat.{ℕ}
use Rattle.rules.specs.Catalogue.{Catalogue}
use Rattle.rules.specs.State as rules
use Rattle.encoder.specs.declared.State.{State}
use Rattle.variable_map.specs.Mapping.{variables}
use Rattle.encoder.specs.Held.{Reading, state_of, Good, KnownUnlessFull, LongEnough}
use Rattle.encoder.specs.Did.{Widens, is_full}
use Rattle.state.specs.declared.Limits.{Limits}
use Rattle.encoder.specs.Does.{StateDoes, PlainDoes, ClausesDoes, Does, IsGood, IsGoodWith, regions_of, variables_of}
use Rattle.encoder.proofs.Did.{did_full, did_idle, did_then, told_full}
use Rattle.encoder.proofs.Steps.{did_same, state_same, clauses_same, state_none, clauses_none, state_then, clauses_then, state_then_clauses, state_clauses, alone_after, good_after, good_later, known_after, known_later, variables_after_law}

module _ {c : Catalogue} {F G : Reading → rules.State → rules.State} {x x' : State} where
  -- the same by another name
  pub does_same : StateDoes c F x x' → ((v : Reading) (s : rules.State) → F v s ≡ G v s) → StateDoes c G x x'
  does_same d h = record { limits = d.limits; area = d.area; did = state_same d.did h }

  -- one after another
  pub does_then : {x'' : State} → StateDoes c F x x' → StateDoes c G x' x'' → StateDoes c (λ v s. G v (F v s)) x x''
  does_then d k = record { limits = k.limits ∙ d.limits; area = k.area ∙ d.area; did = state_then d.did (rw d.limits at k.did) }

-- nothing, where it is full already
pub does_full : {c : Catalogue} {F : Reading → rules.State → rules.State} {x : State} → (x.used.full ≡ 0 → ⊥) → ((v : Reading) (s : rules.State) → Widens s (F v s)) → StateDoes c F x x
does_full f w = record { limits = refl; area = refl; did = record { is = λ cl wt. did_full (told_full f) w } }

pub plain_full : {F : Catalogue → Reading → rules.State → rules.State} {x : State} → (x.used.full ≡ 0 → ⊥) → ((c : Catalogue) (v : Reading) (s : rules.State) → Widens s (F c v s)) → PlainDoes F x x
plain_full f w = record { limits = refl; area = refl; did = λ c. record { is = λ cl wt. did_full (told_full f) (w c) } }

-- of this catalogue
pub at_catalogue : {c : Catalogue} {F : Catalogue → Reading → rules.State → rules.State} {x x' : State} → PlainDoes F x x' → StateDoes c (F c) x x'
at_catalogue {c} d = record { limits = d.limits; area = d.area; did = d.did c }

-- nothing, where F changes nothing
pub does_none : {c : Catalogue} {F : Reading → rules.State → rules.State} {x : State} → ((v : Reading) (s : rules.State) → s ≡ F v s) → StateDoes c F x x
does_none h = record { limits = refl; area = refl; did = state_none h }

pub good_then : {c : Catalogue} {F : Reading → rules.State → rules.State} {x x' : State} → StateDoes c F x x' → IsGood c x → IsGood c x'
good_then d g = rw d.limits (alone_after d.did g)

-- nothing, where F would change nothing
pub does_idle : {c : Catalogue} {F : Reading → rules.State → rules.State} {x : State} → ((v : Reading) (s : rules.State) → Widens s (F v s))
    → ((cl wt : List ℕ) → Good c x.limits x.used (regions_of x) cl wt → is_full x.used ≡ false → (v : Reading)
    → F v (state_of c x.limits v x.used (regions_of x) cl wt) ≡ state_of c x.limits v x.used (regions_of x) cl wt)
    → StateDoes c F x x
does_idle w h = record { limits = refl; area = refl; did = record { is = λ cl wt. did_idle w (h cl wt) } }

-- the variables are those of F
pub variables_now : {c : Catalogue} {F : Reading → rules.State → rules.State} {x x' : State} → StateDoes c F x x' → (g : IsGood c x) → is_full x'.used ≡ false → (v : Reading)
    → variables x'.used.variables (regions_of x') ≡ (F v (state_of c x.limits v x.used (regions_of x) g.clauses [])).variables
variables_now d g e v = rw d.limits (variables_after_law (d.did.is g.clauses []) g.good e v)

-- ---- steps of the state and the clauses

module _ {c : Catalogue} {F G : Reading → rules.State → rules.State} {x x' : State} where
  pub clauses_do_same : {cl cl' : List ℕ} → ClausesDoes c F x cl x' cl' → ((v : Reading) (s : rules.State) → F v s ≡ G v s) → ClausesDoes c G x cl x' cl'
  clauses_do_same d h = record { limits = d.limits; area = d.area; did = clauses_same d.did h }

  pub clauses_do_then : {x'' : State} {cl cl' cl'' : List ℕ} → ClausesDoes c F x cl x' cl' → ClausesDoes c G x' cl' x'' cl'' → ClausesDoes c (λ v s. G v (F v s)) x cl x'' cl''
  clauses_do_then d k = record { limits = k.limits ∙ d.limits; area = k.area ∙ d.area; did = clauses_then d.did (rw d.limits at k.did) }

  pub state_then_clauses_do : {x'' : State} {cl cl' : List ℕ} → StateDoes c F x x' → ClausesDoes c G x' cl x'' cl' → ClausesDoes c (λ v s. G v (F v s)) x cl x'' cl'
  state_then_clauses_do d k = record { limits = k.limits ∙ d.limits; area = k.area ∙ d.area; did = state_then_clauses d.did (rw d.limits at k.did) }

-- the clauses have no part in it
pub state_does_clauses : {c : Catalogue} {F : Reading → rules.State → rules.State} {x x' : State} {cl : List ℕ} → StateDoes c F x x' → ClausesDoes c F x cl x' cl
state_does_clauses d = record { limits = d.limits; area = d.area; did = state_clauses d.did }

pub clauses_do_none : {c : Catalogue} {F : Reading → rules.State → rules.State} {x : State} {cl : List ℕ} → ((v : Reading) (s : rules.State) → s ≡ F v s) → ClausesDoes c F x cl x cl
clauses_do_none h = record { limits = refl; area = refl; did = clauses_none h }

pub clauses_do_full : {c : Catalogue} {F : Reading → rules.State → rules.State} {x : State} {cl : List ℕ} → (x.used.full ≡ 0 → ⊥) → ((v : Reading) (s : rules.State) → Widens s (F v s)) → ClausesDoes c F x cl x cl
clauses_do_full f w = state_does_clauses (does_full f w)

-- ---- steps of these and the waiting entries

module _ {c : Catalogue} {F G : Reading → rules.State → rules.State} {x x' : State} {cl wt cl' wt' : List ℕ} where
  pub all_do_same : Does c F x cl wt x' cl' wt' → ((v : Reading) (s : rules.State) → F v s ≡ G v s) → Does c G x cl wt x' cl' wt'
  all_do_same d h = record { limits = d.limits; area = d.area; did = did_same d.did h }

  pub all_do_then : {x'' : State} {cl'' wt'' : List ℕ} → Does c F x cl wt x' cl' wt' → Does c G x' cl' wt' x'' cl'' wt'' → Does c (λ v s. G v (F v s)) x cl wt x'' cl'' wt''
  all_do_then d k = record { limits = k.limits ∙ d.limits; area = k.area ∙ d.area; did = did_then d.did (rw d.limits at k.did) }

pub clauses_do_all : {c : Catalogue} {F : Reading → rules.State → rules.State} {x x' : State} {cl cl' wt : List ℕ} → ClausesDoes c F x cl x' cl' → Does c F x cl wt x' cl' wt
clauses_do_all {wt = wt} d = record { limits = d.limits; area = d.area; did = d.did.is wt }

pub state_does_all : {c : Catalogue} {F : Reading → rules.State → rules.State} {x x' : State} {cl wt : List ℕ} → StateDoes c F x x' → Does c F x cl wt x' cl wt
state_does_all {cl = cl} {wt = wt} d = record { limits = d.limits; area = d.area; did = d.did.is cl wt }

-- ---- what holds between two steps

module _ {c : Catalogue} {F : Reading → rules.State → rules.State} {x x' : State} where
  pub good_with_then : {cl : List ℕ} → StateDoes c F x x' → IsGoodWith c x cl [] → IsGoodWith c x' cl []
  good_with_then d g = rw d.limits (good_after d.did g)

  pub good_with_later : {cl cl' : List ℕ} → ClausesDoes c F x cl x' cl' → IsGoodWith c x cl [] → IsGoodWith c x' cl' []
  good_with_later d g = rw d.limits (good_later d.did g)

  pub good_with_all : {cl wt cl' wt' : List ℕ} → Does c F x cl wt x' cl' wt' → IsGoodWith c x cl wt → IsGoodWith c x' cl' wt'
  good_with_all d g = rw d.limits (d.did.good g)

  pub known_then : {ps : List ℕ} → StateDoes c F x x' → IsGood c x → KnownUnlessFull (is_full x.used) (variables_of x) ps → KnownUnlessFull (is_full x'.used) (variables_of x') ps
  known_then d g a = rw d.limits (known_after d.did g a)

  pub known_clauses_then : {ps cl cl' : List ℕ} → ClausesDoes c F x cl x' cl' → IsGoodWith c x cl [] → KnownUnlessFull (is_full x.used) (variables_of x) ps → KnownUnlessFull (is_full x'.used) (variables_of x') ps
  known_clauses_then d g a = rw d.limits (known_later d.did g a)

-- the areas stay as long as they were
pub long_then : {l l' : Limits} {a b k : ℕ} → l' ≡ l → b ≡ a → LongEnough l a k → LongEnough l' b k
long_then d e f = rw (d, e) f
