-- States that differ at most in the parts that the run has named for tracking: the same names are named, in the same order, and the same parts will join.
use Rattle.std.specs.Prelude.{◌≡◌, not, false, List, map, ℕ}
use Rattle.rules.specs.Lists.{filter, elem, distinct}
use Rattle.rules.specs.Catalogue.{Catalogue, name_of}
use Rattle.rules.specs.Opening.{Opening, set_named}
use Rattle.rules.specs.State.{State, set_opening}
use Rattle.state.specs.declared.Limits.{Limits}
use Rattle.state.specs.Layout.{held}
use Rattle.encoder.specs.declared.Counters.{Counters}
use Rattle.encoder.specs.declared.State as encoder
use Rattle.encoder.specs.Held.{Reading, state_of}
use Rattle.encoder.specs.Did.{Did, is_full}
use Rattle.encoder.specs.Does.{regions_of}

-- the names of these parts, each where it first stands
unfoldable pub names_in : Catalogue → List ℕ → List ℕ
names_in c ps = distinct (map (name_of c) ps)

unfoldable pub untracked : (tracked : List ℕ) → List ℕ → List ℕ
untracked ts ps = filter (λ p. not (elem p ts)) ps

pub record Alike (c : Catalogue) (o o' : Opening) : Type 0 where
  pub rest : o' ≡ set_named o'.named o
  pub names : names_in c o'.named ≡ names_in c o.named
  pub joining : untracked o.tracked o'.named ≡ untracked o.tracked o.named

pub record AlikeIn (c : Catalogue) (s s' : State) : Type 0 where
  pub rest : s' ≡ set_opening s'.opening s
  pub opening : Alike c s.opening s'.opening

-- From entry to exit a step was done that gives what G gives, or a state alike.
pub record AlikeDid (c : Catalogue) (l : Limits) (G : Reading → State → State) (n : Counters) (st : ℕ → List ℕ) (cl wt : List ℕ)
    (n' : Counters) (st' : ℕ → List ℕ) (cl' wt' : List ℕ) : Type 0 where
  pub step : Reading → State → State
  pub did : Did c l step n st cl wt n' st' cl' wt'
  pub like : is_full n ≡ false → (v : Reading) → AlikeIn c (G v (state_of c l v n st cl wt)) (step v (state_of c l v n st cl wt))

-- the same of the state area and the clauses', whatever the waiting area holds
pub record ClausesAlike (c : Catalogue) (l : Limits) (G : Reading → State → State) (n : Counters) (st : ℕ → List ℕ) (cl : List ℕ)
    (n' : Counters) (st' : ℕ → List ℕ) (cl' : List ℕ) : Type 0 where
  pub is : (wt : List ℕ) → AlikeDid c l G n st cl wt n' st' cl' wt

-- ---- the same of the encoder's state: in the same area and within the same limits

pub record AlikeDoes (c : Catalogue) (G : Reading → State → State) (x : encoder.State) (cl wt : List ℕ) (x' : encoder.State) (cl' wt' : List ℕ) : Type 0 where
  pub limits : x'.limits ≡ x.limits
  pub area : x'.area.ghost_name ≡ x.area.ghost_name
  pub did : AlikeDid c x.limits G x.used (regions_of x) cl wt x'.used (held x.limits x'.area.now) cl' wt'

pub record ClausesDoAlike (c : Catalogue) (G : Reading → State → State) (x : encoder.State) (cl : List ℕ) (x' : encoder.State) (cl' : List ℕ) : Type 0 where
  pub limits : x'.limits ≡ x.limits
  pub area : x'.area.ghost_name ≡ x.area.ghost_name
  pub did : ClausesAlike c x.limits G x.used (regions_of x) cl x'.used (held x.limits x'.area.now) cl'
