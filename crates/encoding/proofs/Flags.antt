-- Goals that are flagged stay so over a run's two ends: no variable, no opened owner and no tracked part is lost, and what was named for tracking is tracked
-- when the named parts have joined.
use mathlib.Core.Path.{◌≡◌, refl}
use mathlib.Core.Bool.{Bool, true, false, not, ◌||◌}
use mathlib.Core.List.{List, [], ◌∷◌, ◌++◌, map}
use Prim.Native.Nat.{ℕ}
use lib.Dec.{eqb}
use borrow.Author.Tests.{eq-eqb}
use Rattle.rules.specs.Lists.{filter, any, elem, distinct}
use Rattle.rules.specs.Catalogue.{Catalogue, name_of}
use Rattle.rules.specs.Variables.{part_origin}
use Rattle.rules.specs.Opening.{Opening, set_added, set_drawn, open_owner, fire, begin_run, joining, end_run}
use Rattle.rules.specs.Called.{◌∈◌}
use Rattle.rules.specs.State.{State, Run}
use Rattle.rules.specs.Run.{begun, join_all, link_all}
use Rattle.rules.proofs.Bools.{by_cases, or_none, or_true}
use Rattle.rules.proofs.Membership.{in_left, in_right, filter_in, elem_in, elem_out, map_in, concat_map_in, distinct_in}
use Rattle.rules.proofs.Grows.{whole, join_all_grows, link_all_grows}
use Rattle.rules.proofs.Places.{keeps_variable}
use Rattle.rules.proofs.Line.{join_all_opening, link_all_opening}
use Rattle.rules.proofs.Forgotten.{forget}
use Rattle.state.specs.declared.Limits.{Limits}
use Rattle.encoder.specs.declared.Counters.{Counters}
use Rattle.encoder.specs.declared.State as encoder
use Rattle.encoder.specs.Does.{ClausesDoes, IsGoodWith}
use Rattle.encoder.proofs.Does.{clauses_do_all}
use Rattle.naming.specs.Settled.{Noted, AllSettled, Settles}
use Rattle.naming.proofs.Settled.{Stands, settled_stands, other_areas}
use Rattle.naming.proofs.AlikeDid.{does_alike, settled_by}
use Rattle.beginning.specs.Beginning.{reading_of, Reaches, Begins, IsReached, RunBegins}
use Rattle.serving.specs.Flags.{AreFlagged}
use Rattle.serving.proofs.Stands.{then, each_stands, open_owner_stands, fire_stands}

-- ---- a run begins

begun_stands : (c : Catalogue) (o : Opening) → Stands o (begin_run c o)
unfolding begin_run
begun_stands c o =
    then {o' = set_added [] (set_drawn [] o)} (record { owners = whole; several = whole; named = whole; tracked = whole })
    (then (each_stands open_owner open_owner_stands o.added _) (each_stands (λ (e : ℕ × ℕ). fire c e.0 (e.1 ∷ [])) (λ e. fire_stands c e.0 _) o.drawn _))

module _ {c : Catalogue} {l : Limits} {n a : Counters} {st st₁ : ℕ → List ℕ} {cl wt : List ℕ} (x : Begins c l n st cl wt a st₁) (h : Reaches c l n st cl wt) where
  begun_settles : {rs : List ℕ} → Settles c l rs n st → Settles c l rs a st₁
  begun_settles {rs} k =
      record {
        held = λ f v cl' wt'.
            let s = h.state in
            let y = rw (h.holds.is v) at (k.held h.holds.room v cl wt) in
            let p = begun_stands c s.opening in
            let now : AllSettled c rs (forget (begun c s)) =
            record { each = λ r q i j. unfold begun in settled_stands whole (record { owners = p.owners; several = p.several; named = p.named; tracked = p.tracked }) (y.each r q i j) } in
            other_areas l (reading_of s) v a st₁ cl wt cl' wt' (rw (x.done s h.given h.reached h.holds f) now);
      }

pub begun_flagged : {c : Catalogue} {x a : encoder.State} {cl wt : List ℕ} {flags : List Bool} → RunBegins c x cl wt a → IsReached c x cl wt → AreFlagged c flags x → AreFlagged c flags a
begun_flagged d h k = rw d.limits (record { settles = λ i z. begun_settles d.did h (k.settles i z) })

-- ---- the named parts join

module _ (c : Catalogue) where
  -- what is named is tracked then
  named_joins : (p : ℕ) (o : Opening) → elem p o.named ≡ true → elem p (o.tracked ++ joining c o) ≡ true
  named_joins p o h =
      by_cases (elem p o.tracked) (λ e. elem_in _ (in_left (joining c o) (elem_out p o.tracked e)))
      (λ e. elem_in _ (in_right o.tracked (joins e)))
    where
      m : p ∈ o.named
      m = elem_out p o.named h

      joins : elem p o.tracked ≡ false → p ∈ joining c o
      joins e =
          unfold joining in
          filter_in (λ x. not (elem x o.tracked)) _
          (concat_map_in (λ n. filter (λ x. eqb (name_of c x) n) o.named) (distinct (map (name_of c) o.named))
          (distinct_in (map (name_of c) o.named) (name_of c p) (map_in (name_of c) m)) (filter_in (λ x. eqb (name_of c x) (name_of c p)) o.named m (eq-eqb (name_of c p) _ refl))) (rw e)

  end_noted : (p : ℕ) (o : Opening) → Noted c p o → Noted c p (end_run c o)
  end_noted p o h = unfold end_run any in rw (or_none (elem (name_of c p) o.several)) (go (elem p o.tracked) refl (elem (name_of c p) o.several) h)
    where
      go : (a : Bool) → elem p o.tracked ≡ a → (b : Bool) → (a || (b || elem p o.named)) ≡ true → (elem p (o.tracked ++ joining c o) || b) ≡ true
      go true e b k = rw (elem_in _ (in_left (joining c o) (elem_out p o.tracked e)))
      go false e true k = or_true (elem p (o.tracked ++ joining c o))
      go false e false k = rw (named_joins p o k)

  module _ (r : Run) {rs : List ℕ} (s : State) where
    joined_settled : AllSettled c rs s → AllSettled c rs (join_all c r s)
    joined_settled h =
        record {
          each = λ x p a b. let y = h.each x p a b in
              record {
                known = (keeps_variable (join_all_grows c r s).variables (part_origin p) y.known).0;
                noted = rw (join_all_opening c r s) (end_noted p s.opening y.noted);
                opened = λ e. rw (join_all_opening c r s) (unfold end_run in y.opened e);
              };
        }

    linked_settled : AllSettled c rs s → AllSettled c rs (link_all c r s)
    linked_settled h =
        record {
          each = λ x p a b. let y = h.each x p a b in
              record {
                known = (keeps_variable (link_all_grows c r s).variables (part_origin p) y.known).0;
                noted = rw (link_all_opening c r s) y.noted;
                opened = λ e. rw (link_all_opening c r s) (y.opened e);
              };
        }

module _ {c : Catalogue} (r : Run) {x x' : encoder.State} {cl cl' : List ℕ} {flags : List Bool} (g : IsGoodWith c x cl []) where
  pub joined_flagged : ClausesDoes c (λ v. join_all c r) x cl x' cl' → AreFlagged c flags x → AreFlagged c flags x'
  joined_flagged d f =
      record { settles = λ i z. settled_by (does_alike (clauses_do_all {wt = []} d)) g (λ v e. joined_settled c r _ ((f.settles i z).held e v cl [])) }

  pub linked_flagged : ClausesDoes c (λ v. link_all c r) x cl x' cl' → AreFlagged c flags x → AreFlagged c flags x'
  linked_flagged d f =
      record { settles = λ i z. settled_by (does_alike (clauses_do_all {wt = []} d)) g (λ v e. linked_settled c r _ ((f.settles i z).held e v cl [])) }
