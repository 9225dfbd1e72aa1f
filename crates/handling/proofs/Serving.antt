-- A requirement's task: its goal's ranges are at hand while it is handled, and what was handled and fired is not kept.
use mathlib.Core.Path.{◌≡◌, refl}
use mathlib.Core.Bool.{Bool, true, false}
use mathlib.Core.List.{List}
use Prim.Native.Nat.{ℕ}
use lib.ListN.{get_or}
use Rattle.rules.specs.Lists.{distinct}
use Rattle.rules.specs.Catalogue.{Catalogue, no_requirement, owner_at, goal_at}
use Rattle.rules.specs.Candidates.{goal_ranges}
use Rattle.rules.specs.Variables.{chosen}
use Rattle.rules.specs.Opening.{requirement}
use Rattle.rules.specs.State.{Run}
use Rattle.requirement.specs.declared.ConditionalRequirement.{ConditionalRequirement}
use Rattle.requirement.specs.Requirements.{goal_of, requirement_is}
use Rattle.tables.specs.declared.Counts.{Counts}
use Rattle.tables.specs.Tables.{tables}
use Rattle.cache.specs.Areas.{catalogue}
use Rattle.state.specs.declared.Limits.{Limits}
use Rattle.marked.specs.Marked.{Marked}
use Rattle.encoder.specs.declared.Counters.{Counters}
use Rattle.encoder.specs.declared.State as encoder
use Rattle.encoder.specs.Held.{Reading, opening_of, state_of}
use Rattle.encoder.specs.Does.{ClausesDoes, regions_of}
use Rattle.goals.specs.Goals.{HandGathers, HandReleased}
use Rattle.goals.proofs.Released.{clauses_do_released}
use Rattle.owners.specs.Owners.{serving}
use Rattle.firing.proofs.Required.{goal_is}
use Rattle.naming.specs.Settled.{AllSettled, AreSettled}
use Rattle.naming.specs.Alike.{AlikeIn, ClausesDoAlike}
use Rattle.naming.proofs.Alike.{in_same}
use Rattle.condition_literals.specs.Literals.{AtHand}
use Rattle.handling.specs.Handling.{handled}
use Rattle.handling.proofs.Handled.{handled_served}
use Rattle.handling.proofs.Settled.{variable_settled}
use Rattle.handling.proofs.Alike.{handled_alike}

-- ---- the ranges at hand

pub gathered : (k : Counts) (m us t : List ℕ) (q : ℕ) (it : ConditionalRequirement) → requirement_is it ≡ get_or (tables k t).requirements q no_requirement
    → {ranges : ℕ} {x x₁ : encoder.State} → HandGathers (distinct (goal_ranges (catalogue k m us t) (goal_of it.requirement))) x ranges x₁
    → AtHand (catalogue k m us t) q ranges (regions_of x₁)
gathered k m us t q it e g = rw g.written.limits (record { marked = g.gathers.marked; is = rw (goal_is k m us t q it e) g.gathers.is })

-- ---- served

module _ (c : Catalogue) (r : Run) (q : ℕ) (is : List ℕ) where
  module _ (l : Limits) (v : Reading) (n : Counters) (st : ℕ → List ℕ) (cl wt : List ℕ) where
    held_served : handled c r q false is (state_of c l v n st cl wt) ≡ serving c r (requirement q is) (state_of c l v n st cl wt)
    unfolding state_of opening_of
    held_served = handled_served c r q is (state_of c l v n st cl wt) refl refl

    held_alike : (settled : Bool) → (settled ≡ true → AllSettled c (distinct (goal_ranges c (goal_at c q))) (state_of c l v n st cl wt))
        → AlikeIn c (serving c r (requirement q is) (state_of c l v n st cl wt)) (handled c r q settled is (state_of c l v n st cl wt))
    held_alike false h = rw held_served in_same
    held_alike true h = rw (← held_served) (handled_alike c r q is (state_of c l v n st cl wt) (variable_settled (chosen (owner_at c q)) (state_of c l v n st cl wt) (h refl)))

  module _ (settled : Bool) {ranges : ℕ} {xs : List ℕ} {x x₁ x₂ x₃ : encoder.State} {cl cl' : List ℕ} (z : Marked 14 15 0 (regions_of x)) (a : HandGathers xs x ranges x₁)
      (d : ClausesDoes c (λ v. handled c r q settled is) x₁ cl x₂ cl') (b : HandReleased x₂ x₃) where
    pub requirement_served : (settled ≡ true → AreSettled c (distinct (goal_ranges c (goal_at c q))) x) → ClausesDoAlike c (λ v. serving c r (requirement q is)) x cl x₃ cl'
    requirement_served h =
        let e = clauses_do_released a z d b in
        record {
          limits = e.limits;
          area = e.area;
          did = record {
            is = λ wt.
                record {
                  step = λ v. handled c r q settled is;
                  did = e.did.is wt;
                  like = λ f v. held_alike x.limits v x.used (regions_of x) cl wt settled (λ i. (h i).held f v cl wt);
                };
          };
        }
