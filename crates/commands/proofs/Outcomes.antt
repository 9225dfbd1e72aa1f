-- From a change of the state to a command's outcome: carried out where no refusal holds, or refused.
use mathlib.Core.Path.{◌≡◌, refl, sym, ◌∙◌, ap, subst}
use mathlib.Core.List.{List}
use Prim.Native.Nat.{ℕ}
use lib.ListN.{length}
use Rattle.std.specs.Prelude.{Result, Ok, Err}
use Rattle.std.specs.Coded.{le_prop}
use Rattle.rules.specs.Catalogue.{Catalogue}
use Rattle.rules.specs.Refusals.{ok, refuse}
use Rattle.rules.specs.Records.{Command}
use Rattle.rules.specs.State as rules
use Rattle.rules.specs.Sheet.{carry_out}
use Rattle.rules.proofs.Member.{not_one}
use Rattle.refusal.specs.declared.Refusal.{Refusal}
use Rattle.refusal.specs.Refusing.{refusal_of}
use Rattle.state.specs.declared.Limits.{Limits}
use Rattle.state.specs.Layout.{held, Fits}
use Rattle.tables.specs.declared.Counts.{Counts}
use Rattle.cache.specs.Areas.{catalogue}
use Rattle.cache.proofs.Laws.{parts_held}
use Rattle.encoder.specs.declared.Counters.{Counters}
use Rattle.encoder.specs.declared.State.{State}
use Rattle.encoder.specs.Held.{Reading, state_of}
use Rattle.encoder.specs.Does.{regions_of}
use Rattle.state.specs.Limits.{limits_of}
use Rattle.commands.specs.Commands.{ChangesOf, StateChanges, CarriedOut, Outcomes, PartOutcomes}

-- ---- changes

-- nothing
pub unchanged : {c : Catalogue} {l : Limits} {n : Counters} {st : ℕ → List ℕ} {cl wt : List ℕ} → ChangesOf c l (λ s. s) n st cl wt n st
unchanged = record { good = λ g. g; hand = λ h. h; full = refl; runs = refl; is = λ v. refl }

-- the same by another name
pub changes_as : {c : Catalogue} {l : Limits} {F G : rules.State → rules.State} {n n' : Counters} {st st' : ℕ → List ℕ} {cl wt : List ℕ} → ChangesOf c l F n st cl wt n' st'
    → ((v : Reading) → F (state_of c l v n st cl wt) ≡ G (state_of c l v n st cl wt)) → ChangesOf c l G n st cl wt n' st'
changes_as h e = record { good = h.good; hand = h.hand; full = h.full; runs = h.runs; is = λ v. h.is v ∙ e v }

-- ---- outcomes

pub carried_out_law : {c : Catalogue} {l : Limits} {o : Command} {F : rules.State → rules.State} {n m : Counters} {st st' : ℕ → List ℕ} {cl wt : List ℕ} → ChangesOf c l F n st cl wt m st'
    → ((v : Reading) → carry_out (limits_of l) c o (state_of c l v n st cl wt) ≡ ok (F (state_of c l v n st cl wt))) → CarriedOut c l o n st cl wt m st'
carried_out_law h e = record { good = h.good; hand = h.hand; full = h.full; runs = h.runs; is = λ v. e v ∙ ap ok (sym (h.is v)) }

module _ {c : Catalogue} {o : Command} {x : State} where
  pub outcome_done : {x' : State} → x'.limits ≡ x.limits → x'.area.ghost_name ≡ x.area.ghost_name
      → ((cl wt : List ℕ) → CarriedOut c x.limits o x.used (regions_of x) cl wt x'.used (held x.limits x'.area.now)) → Outcomes c o x (Ok tt) x'
  outcome_done limits area h =
      record {
        limits = limits;
        area = area;
        carried = λ e. h;
        refused = λ f e. absurd (not_one (cc));
        same = λ f e. absurd (not_one (cc));
      }

  pub outcome_carried : {F : rules.State → rules.State} {x' : State} → StateChanges F x x'
      → ((cl wt : List ℕ) (v : Reading) → carry_out (limits_of x.limits) c o (state_of c x.limits v x.used (regions_of x) cl wt) ≡ ok (F (state_of c x.limits v x.used (regions_of x) cl wt)))
      → Outcomes c o x (Ok tt) x'
  outcome_carried h p = outcome_done h.limits h.area (λ cl wt. carried_out_law (h.changes.is c cl wt) (p cl wt))

  pub outcome_refused : {f : Refusal}
      → ((cl wt : List ℕ) (v : Reading) → carry_out (limits_of x.limits) c o (state_of c x.limits v x.used (regions_of x) cl wt) ≡ refuse (refusal_of f))
      → Outcomes c o x (Err f) x
  outcome_refused {f} p =
      record {
        limits = refl;
        area = refl;
        carried = λ e. absurd (not_one (cc));
        refused = λ g e cl wt v. let q : g ≡ f = cc in rw q (p cl wt v);
        same = λ g e. refl;
      }

-- ---- a state whose area has its bytes again is the same

fits_prop : (l : Limits) (bytes : ℕ) → IsProp (Fits l bytes)
fits_prop l bytes = Prim.hlevel le_prop

pub state_same : (x : State) {s : List ℕ} (h : Fits x.limits (length s)) → s ≡ x.area.now → record x { area = record (x.area) { now = s }; fits = h } ≡ x
state_same x h e = subst (λ (t : List ℕ). (h : Fits x.limits (length t)) → record x { area = record (x.area) { now = t }; fits = h } ≡ x)
    (sym e) (λ h. ap (λ (f : Fits x.limits (length x.area.now)). record x { fits = f }) (fits_prop x.limits (length x.area.now) h x.fits)) h

-- ---- for callers: of the catalogue that the areas hold

pub part_outcome : (k : Counts) (m u t : List ℕ) {o : Command} {x x' : State} {r : Result (Unit {0}) Refusal}
    → PartOutcomes k.parts o x r x' → Outcomes (catalogue k m u t) o x r x'
part_outcome k m u t h = h.is (catalogue k m u t) (parts_held k m u t)
