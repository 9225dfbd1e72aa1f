-- Steps one after another, and what they leave as it was.
use mathlib.Core.Path.{◌≡◌, refl, sym, ◌∙◌, ap}
use mathlib.Core.Bool.{true, false, true≢false}
use mathlib.Core.List.{List, [], ◌∷◌, ◌++◌, append-nil, append_assoc}
use Prim.Native.Nat.{ℕ}
use lib.ListN.{length}
use Rattle.rules.specs.Lists.{snoc, fold}
use Rattle.rules.specs.Clause.{Clause}
use Rattle.rules.specs.Catalogue.{Catalogue, empty_catalogue}
use Rattle.rules.specs.Variables.{Origin}
use Rattle.rules.specs.Opening.{Opening}
use Rattle.rules.specs.State.{State, Run}
use Rattle.rules.proofs.Bools.{by_cases}
use Rattle.rules.proofs.DistinctEnough.{fold_append}
use Rattle.rules.proofs.Capped.{add_variable}
use Rattle.rules.proofs.ClauseByClause.{add_clause}
use Rattle.tables.specs.declared.Counts.{Counts}
use Rattle.cache.specs.Areas.{catalogue}
use Rattle.variable_map.specs.Mapping.{AllKnown}
use Rattle.variable_map.proofs.Laws as variables
use Rattle.marked.specs.Marked.{Marked}
use Rattle.marked.proofs.Laws.{length_listed}
use Rattle.encoder.specs.declared.Run as code
use Rattle.encoder.specs.declared.State as encoder
use Rattle.encoder.specs.Held.{run_of, Reading, opening_of, state_of, LongEnough}
use Rattle.encoder.specs.Did.{Widens, is_full}
use Rattle.encoder.specs.Does.{StateDoes, PlainDoes, IsGoodWith, IsMapped, regions_of, variables_of}
use Rattle.encoder.proofs.Did.{widens_fold, did_as, did_stop}
use Rattle.encoder.proofs.Does.{does_same, does_then, does_none, at_catalogue, clauses_do_then, clauses_do_none, good_with_then, good_with_later}
use Rattle.encoder.proofs.Widening.{add_clause_widens, add_clause_variables, add_clause_opening}
use Rattle.encoder.proofs.Steps.{good_waiting}
use Rattle.storing.specs.Adding.{Adds}
use Rattle.storing.proofs.Adding.{adds_do}
use Rattle.tracking.specs.Joining.{Makes, AddsAll, NamesAll, GoodOf, GoodSome, GoodAny, tracked_in, named_in}

-- nothing is read
abbrev pub blind : Reading
blind = record { truth = λ p. false; drawn = [] }

-- the state, whatever waits
abbrev pub state_now : Catalogue → encoder.State → List ℕ → State
state_now c x cl = state_of c x.limits blind x.used (regions_of x) cl []

-- ---- what holds between two steps

module _ {k : Counts} {t : List ℕ} {x : encoder.State} {cl : List ℕ} where
  pub of_some : GoodOf k t x cl → GoodSome x cl
  of_some (GoodOf.good m u g) = GoodSome.some (catalogue k m u t) g

  pub of_any : GoodOf k t x cl → GoodAny x
  of_any (GoodOf.good m u g) = GoodAny.any (catalogue k m u t) cl g

module _ {x : encoder.State} {cl : List ℕ} where
  abbrev pub catalogue_in : GoodSome x cl → Catalogue
  catalogue_in (GoodSome.some c g) = c

  pub some_good : (g : GoodSome x cl) → IsGoodWith (catalogue_in g) x cl []
  some_good (GoodSome.some c g) = g

  pub some_mapped : GoodSome x cl → IsMapped x
  some_mapped g = (some_good g).state.mapped

  pub some_tracked : GoodSome x cl → Marked 10 11 x.used.tracked (regions_of x)
  some_tracked g = (some_good g).state.tracked

pub any_mapped : {x : encoder.State} → GoodAny x → IsMapped x
any_mapped (GoodAny.any c cl g) = g.state.mapped

-- ---- variables

pub any_named : (o : Origin) {x x' : encoder.State} → GoodAny x → PlainDoes (λ c v. add_variable o) x x' → GoodAny x'
any_named o (GoodAny.any c cl g) d = GoodAny.any c cl (good_with_then (at_catalogue d) g)

-- with every catalogue
pub plain_of : {F : Catalogue → Reading → State → State} {x x' : encoder.State} → ((c : Catalogue) → StateDoes c (F c) x x') → PlainDoes F x x'
plain_of f = record { limits = (f empty_catalogue).limits; area = (f empty_catalogue).area; did = λ c. (f c).did }

pub names_none : {x : encoder.State} → NamesAll [] x x
names_none = record { does = plain_of (λ c. does_none (λ v s. unfold fold in refl)) }

module _ {x x' x'' : encoder.State} (o : Origin) {os : List Origin} where
  -- one origin more
  pub names_more : NamesAll os x x' → PlainDoes (λ c v. add_variable o) x' x'' → NamesAll (snoc os o) x x''
  names_more a b =
      record {
        does = plain_of (λ c. does_same (does_then (at_catalogue a.does) (at_catalogue b))
            (λ v s. unfold snoc in sym (fold_append add_variable os (o ∷ []) s ∙ unfold fold in refl)));
      }

  pub names_first : PlainDoes (λ c v. add_variable o) x x' → NamesAll os x' x'' → NamesAll (o ∷ os) x x''
  names_first a b = record { does = plain_of (λ c. does_same (does_then (at_catalogue a) (at_catalogue b.does)) (λ v s. unfold fold in refl)) }

-- ---- steps

module _ {c : Catalogue} {F : State → State} {x x' : encoder.State} {cl cl' : List ℕ} (m : Makes c F x cl x' cl') where
  pub makes_good : IsGoodWith c x cl [] → IsGoodWith c x' cl' []
  makes_good g = good_with_later m.is g

  pub makes_widens : (s : State) → Widens s (F s)
  makes_widens s = (m.is.did.is []).wide blind s

  -- it was not full before
  pub makes_going : is_full x'.used ≡ false → is_full x.used ≡ false
  makes_going e = by_cases (is_full x.used) (λ t. absurd (true≢false (sym ((m.is.did.is []).stays t) ∙ e))) (λ t. t)

  pub makes_state : IsGoodWith c x cl [] → is_full x'.used ≡ false → state_now c x' cl' ≡ F (state_now c x cl)
  makes_state g e = rw m.is.limits ((m.is.did.is []).done g (makes_going e) e blind)

  -- by another name
  pub makes_as : {G : State → State} → ((s : State) → Widens s (G s))
      → (IsGoodWith c x cl [] → is_full x.used ≡ false → (v : Reading) (wt : List ℕ)
      → F (state_of c x.limits v x.used (regions_of x) cl wt) ≡ G (state_of c x.limits v x.used (regions_of x) cl wt))
      → Makes c G x cl x' cl'
  makes_as w h =
      record {
        is = record {
          limits = m.is.limits;
          area = m.is.area;
          did = record { is = λ wt. did_as (m.is.did.is wt) (λ v. w) (λ g e v. h (good_waiting [] g) e v wt) };
        };
      }

  pub makes_same : {G : State → State} → ((s : State) → F s ≡ G s) → Makes c G x cl x' cl'
  makes_same e = makes_as (λ s. rw (← e s) (makes_widens s)) (λ g f v wt. e _)

  -- the next step is not taken where it is full
  pub makes_stop : {G : State → State} → is_full x'.used ≡ true → ((s : State) → Widens s (G s)) → Makes c (λ s. G (F s)) x cl x' cl'
  makes_stop f w =
      record { is = record { limits = m.is.limits; area = m.is.area; did = record { is = λ wt. did_stop (m.is.did.is wt) f (λ v. w) } } }

pub makes_then : {c : Catalogue} {F G : State → State} {x x' x'' : encoder.State} {cl cl' cl'' : List ℕ}
    → Makes c F x cl x' cl' → Makes c G x' cl' x'' cl'' → Makes c (λ s. G (F s)) x cl x'' cl''
makes_then a b = record { is = clauses_do_then a.is b.is }

pub makes_nothing : {c : Catalogue} {x : encoder.State} {cl : List ℕ} → Makes c (λ s. s) x cl x cl
makes_nothing = record { is = clauses_do_none (λ v s. refl) }

-- nothing, where F would change nothing
pub makes_idle : {c : Catalogue} {F : State → State} {x : encoder.State} {cl : List ℕ} → ((s : State) → Widens s (F s))
    → (IsGoodWith c x cl [] → is_full x.used ≡ false → (v : Reading) (wt : List ℕ)
    → F (state_of c x.limits v x.used (regions_of x) cl wt) ≡ state_of c x.limits v x.used (regions_of x) cl wt) → Makes c F x cl x cl
makes_idle w h = makes_as makes_nothing w (λ g e v wt. sym (h g e v wt))

pub adds_makes : {r : code.Run} {k : Clause} {x x' : encoder.State} {cl cl' : List ℕ} (c : Catalogue) → Adds r k x cl x' cl' → Makes c (add_clause (run_of r) k) x cl x' cl'
adds_makes c a = record { is = adds_do a }

pub clauses_widen : (r : Run) (ks : List Clause) (s : State) → Widens s (fold (add_clause r) ks s)
clauses_widen r ks s = widens_fold (add_clause r) (add_clause_widens r) ks s

-- ---- a fold, element by element: `rest` is to be done yet

pub record Folded {A : Type 0} (c : Catalogue) (f : A → State → State) (all rest : List A) (x₀ : encoder.State) (cl₀ : List ℕ) (x : encoder.State) (cl : List ℕ) : Type 0 where
  pub seen : List A
  pub split : seen ++ rest ≡ all
  pub did : Makes c (fold f seen) x₀ cl₀ x cl

module _ {A : Type 0} {c : Catalogue} {f : A → State → State} {all : List A} where
  pub folded_start : {x : encoder.State} {cl : List ℕ} → Folded c f all all x cl x cl
  folded_start = record { seen = []; split = refl; did = makes_same makes_nothing (λ s. unfold fold in refl) }

  module _ {rest : List A} {x₀ x : encoder.State} {cl₀ cl : List ℕ} where
    pub folded_step : {y : A} {x' : encoder.State} {cl' : List ℕ} → Folded c f all (y ∷ rest) x₀ cl₀ x cl → Makes c (f y) x cl x' cl' → Folded c f all rest x₀ cl₀ x' cl'
    folded_step {y} a b =
        record {
          seen = a.seen ++ (y ∷ []);
          split = append_assoc a.seen (y ∷ []) rest ∙ a.split;
          did = makes_same (makes_then a.did b) (λ s. sym (fold_append f a.seen (y ∷ []) s ∙ unfold fold in refl));
        }

    pub folded_stop : Folded c f all rest x₀ cl₀ x cl → is_full x.used ≡ true → ((y : A) (s : State) → Widens s (f y s)) → Makes c (fold f all) x₀ cl₀ x cl
    folded_stop a e w = makes_same (makes_stop a.did {G = fold f rest} e (widens_fold f w rest)) (λ s. sym (fold_append f a.seen rest s) ∙ ap (λ ys. fold f ys s) a.split)

  pub folded_end : {x₀ x : encoder.State} {cl₀ cl : List ℕ} → Folded c f all [] x₀ cl₀ x cl → Makes c (fold f all) x₀ cl₀ x cl
  folded_end a = makes_same a.did (λ s. ap (λ ys. fold f ys s) (sym (append-nil a.seen) ∙ a.split))

-- ---- clauses added one after another: `rest` are to be added yet

pub record Adding (r : code.Run) (all rest : List Clause) (x₀ : encoder.State) (cl₀ : List ℕ) (x : encoder.State) (cl : List ℕ) : Type 0 where
  pub is : (c : Catalogue) → Folded c (add_clause (run_of r)) all rest x₀ cl₀ x cl

module _ {r : code.Run} {all : List Clause} where
  pub adding_start : {x : encoder.State} {cl : List ℕ} → Adding r all all x cl x cl
  adding_start = record { is = λ c. folded_start }

  module _ {x₀ x : encoder.State} {cl₀ cl : List ℕ} where
    pub adding_step : {rest : List Clause} {k : Clause} {x' : encoder.State} {cl' : List ℕ} → Adding r all (k ∷ rest) x₀ cl₀ x cl → Adds r k x cl x' cl' → Adding r all rest x₀ cl₀ x' cl'
    adding_step a b = record { is = λ c. folded_step (a.is c) (adds_makes c b) }

    pub adding_stop : {rest : List Clause} → Adding r all rest x₀ cl₀ x cl → is_full x.used ≡ true → AddsAll r all x₀ cl₀ x cl
    adding_stop a e = record { is = λ c. folded_stop (a.is c) e (add_clause_widens (run_of r)) }

    pub adding_end : Adding r all [] x₀ cl₀ x cl → AddsAll r all x₀ cl₀ x cl
    adding_end a = record { is = λ c. folded_end (a.is c) }

module _ {r : code.Run} where
  pub adds_none : {x : encoder.State} {cl : List ℕ} → AddsAll r [] x cl x cl
  adds_none = adding_end adding_start

  pub adds_one : {k : Clause} {x x' : encoder.State} {cl cl' : List ℕ} → Adds r k x cl x' cl' → AddsAll r (k ∷ []) x cl x' cl'
  adds_one a = adding_end (adding_step adding_start a)

  module _ {ks : List Clause} {x x' : encoder.State} {cl cl' : List ℕ} where
    pub adds_limits : AddsAll r ks x cl x' cl' → x'.limits ≡ x.limits
    adds_limits a = (a.is empty_catalogue).is.limits

    pub adds_then : {is : List Clause} {x'' : encoder.State} {cl'' : List ℕ} → AddsAll r ks x cl x' cl' → AddsAll r is x' cl' x'' cl'' → AddsAll r (ks ++ is) x cl x'' cl''
    adds_then {is} a b = record { is = λ c. makes_same (makes_then (a.is c) (b.is c)) (λ s. sym (fold_append (add_clause (run_of r)) ks is s)) }

    pub adds_stop : (is : List Clause) → AddsAll r ks x cl x' cl' → is_full x'.used ≡ true → AddsAll r (ks ++ is) x cl x' cl'
    adds_stop is a e =
        record {
          is = λ c. makes_same (makes_stop (a.is c) {G = fold (add_clause (run_of r)) is} e (clauses_widen (run_of r) is))
              (λ s. sym (fold_append (add_clause (run_of r)) ks is s));
        }

  -- the same clauses by another name
  pub adds_as : {ks is : List Clause} {x x' : encoder.State} {cl cl' : List ℕ} → AddsAll r ks x cl x' cl' → ks ≡ is → AddsAll r is x cl x' cl'
  adds_as a e = rw (← e) a

-- ---- the limits stay, and the clauses' area is as long

pub record Areas (x₀ x : encoder.State) (cl : List ℕ) : Type 0 where
  pub limits : x.limits ≡ x₀.limits
  pub long : LongEnough x.limits (length cl) 16384

pub areas_start : {x : encoder.State} {cl : List ℕ} → LongEnough x.limits (length cl) 16384 → Areas x x cl
areas_start h = record { limits = refl; long = h }

pub areas_then : {x₀ x x' : encoder.State} {cl cl' : List ℕ} → Areas x₀ x cl → x'.limits ≡ x.limits → length cl' ≡ length cl → Areas x₀ x' cl'
areas_then a e d = record { limits = e ∙ a.limits; long = rw (e, d) a.long }

-- ---- what clauses leave as it was

-- variables, tracked and named parts are the same
pub record Same (x x' : encoder.State) : Type 0 where
  pub variables : variables_of x' ≡ variables_of x
  pub tracked : tracked_in x' ≡ tracked_in x
  pub named : named_in x' ≡ named_in x

module _ {x x' : encoder.State} (a : Same x x') where
  pub same_then : {x'' : encoder.State} → Same x' x'' → Same x x''
  same_then b = record { variables = b.variables ∙ a.variables; tracked = b.tracked ∙ a.tracked; named = b.named ∙ a.named }

  pub same_count : x'.used.variables ≡ x.used.variables
  same_count = sym (variables.count x'.used.variables (regions_of x')) ∙ (ap length a.variables ∙ variables.count x.used.variables (regions_of x))

  pub same_tracked : Marked 10 11 x.used.tracked (regions_of x) → Marked 10 11 x'.used.tracked (regions_of x') → x'.used.tracked ≡ x.used.tracked
  same_tracked k k' = sym (length_listed k') ∙ (ap length a.tracked ∙ length_listed k)

-- an added clause leaves them
module _ (r : Run) where
  pub clauses_opening : (ks : List Clause) (s : State) → (fold (add_clause r) ks s).opening ≡ s.opening
  unfolding fold
  clauses_opening [] s = refl
  clauses_opening (k ∷ ks) s = clauses_opening ks (add_clause r k s) ∙ add_clause_opening r k s

  pub clauses_variables : (ks : List Clause) (s : State) → (fold (add_clause r) ks s).variables ≡ s.variables
  unfolding fold
  clauses_variables [] s = refl
  clauses_variables (k ∷ ks) s = clauses_variables ks (add_clause r k s) ∙ add_clause_variables r k s

module _ {c : Catalogue} {x x' : encoder.State} {cl cl' : List ℕ} where
  -- what the areas show of the state after F
  pub same_after : {F : State → State} → ((s : State) → (F s).opening ≡ s.opening) → ((s : State) → (F s).variables ≡ s.variables)
      → Makes c F x cl x' cl' → IsGoodWith c x cl [] → is_full x'.used ≡ false → Same x x'
  unfolding state_of opening_of
  same_after o w m g e =
      let d = makes_state m g e in
      let opening = ap (λ (s : State). s.opening) d ∙ o _ in
      record {
        variables = ap (λ (s : State). s.variables) d ∙ w _;
        tracked = ap (λ (p : Opening). p.tracked) opening;
        named = ap (λ (p : Opening). p.named) opening;
      }

  pub clauses_same : {r : code.Run} {ks : List Clause} → AddsAll r ks x cl x' cl' → IsGoodWith c x cl [] → is_full x'.used ≡ false → Same x x'
  clauses_same {r} {ks} m g e = same_after (clauses_opening (run_of r) ks) (clauses_variables (run_of r) ks) (m.is c) g e

  pub clause_same : {r : code.Run} {k : Clause} → Adds r k x cl x' cl' → IsGoodWith c x cl [] → is_full x'.used ≡ false → Same x x'
  clause_same {r} {k} a g e = same_after (add_clause_opening (run_of r) k) (add_clause_variables (run_of r) k) (adds_makes c a) g e

module _ {x x' : encoder.State} {cl cl' : List ℕ} where
  pub some_after : {r : code.Run} {k : Clause} → GoodSome x cl → Adds r k x cl x' cl' → GoodSome x' cl'
  some_after (GoodSome.some c g) a = GoodSome.some c (makes_good (adds_makes c a) g)

  pub some_all : {r : code.Run} {ks : List Clause} → GoodSome x cl → AddsAll r ks x cl x' cl' → GoodSome x' cl'
  some_all (GoodSome.some c g) a = GoodSome.some c (makes_good (a.is c) g)

pub known_same : {x x' : encoder.State} → Same x x' → AllKnown (variables_of x) (tracked_in x) → AllKnown (variables_of x') (tracked_in x')
known_same s k = rw (s.variables, s.tracked) k

pub some_named : {os : List Origin} {x x' : encoder.State} {cl : List ℕ} → GoodSome x cl → NamesAll os x x' → GoodSome x' cl
some_named (GoodSome.some c g) d = GoodSome.some c (good_with_then (at_catalogue d.does) g)
