-- A constraint's clauses, few or through a violation: a law for each way out.
use mathlib.Core.Path.{◌≡◌, refl, sym, ◌∙◌, ap}
use mathlib.Core.Bool.{Bool, true, false, not, true≢false}
use mathlib.Core.List.{List, []}
use Prim.Native.Nat.{ℕ, ◌<◌}
use native.Mathlib.Omega.{arith}
use Rattle.std.specs.Prelude.{Option, None, Some, is_some}
use Rattle.rules.specs.Lists.{fold, when}
use Rattle.rules.specs.Clause.{aux_owner}
use Rattle.rules.specs.Catalogue.{Owner, Catalogue}
use Rattle.rules.specs.Candidates.{non_matching}
use Rattle.rules.specs.Variables.{Origin, chosen, violation, known, variable_of}
use Rattle.rules.specs.State.{State}
use Rattle.rules.specs.State as rules
use Rattle.rules.proofs.Places.{with_variable_known}
use Rattle.rules.proofs.Capped.{add_variable}
use Rattle.rules.proofs.ClauseByClause.{add_clause}
use Rattle.variable_map.specs.declared.Origin as code
use Rattle.variable_map.specs.Mapping.{origin_of, found}
use Rattle.variable_map.proofs.Laws.{count}
use Rattle.variable_map.proofs.Places.{found_known, found_none}
use Rattle.encoder.specs.declared.Run.{Run}
use Rattle.encoder.specs.declared.State as encoder
use Rattle.encoder.specs.Held.{run_of, Reading, state_of, KnownUnlessFull}
use Rattle.encoder.specs.Did.{Widens, Looked, is_full}
use Rattle.encoder.specs.Does.{StateDoes, PlainDoes, ClausesDoes, IsGood, IsMapped, regions_of, variables_of}
use Rattle.encoder.proofs.Did.{widens_then, widens_fold, did_as, did_stop, told_full}
use Rattle.encoder.proofs.Widening.{widens_when, add_variable_widens, add_clause_widens}
use Rattle.cache.specs.declared.Choice.TheVariants.{NonMatching}
use Rattle.encoder.proofs.Steps.{not_full, still_known}
use Rattle.encoder.proofs.Does.{does_then, at_catalogue, variables_now, clauses_do_same, clauses_do_then, state_then_clauses_do}
use Rattle.storing.specs.Adding.{Adds}
use Rattle.storing.proofs.Adding.{adds_do}
use Rattle.parts.specs.declared.Parts.TheVariants.{Chosen}
use Rattle.parts.specs.declared.Naming.TheVariants.{Variable}
use Rattle.parts.specs.declared.Adding.{Adding}
use Rattle.parts.specs.declared.Adding.TheVariants.{Constrains, AuxOut}
use Rattle.parts.specs.Parts.{parts_for, naming_of, adding_of}
use Rattle.parts.proofs.Selecting.{non_matching_parts}
use Rattle.constraints.specs.Constraints.{Knows, constrain_few, add_violation, constrain_many}

-- ---- origins that have their variables

pub new_is : (vs : List Origin) (o : Origin) (r : Option ℕ) (b : Bool) → is_some r ≡ not b → r ≡ found vs o → b ≡ not (known vs o)
new_is vs o (Some x) true e f = absurd (true≢false e)
new_is vs o (Some x) false e f = rw (found_known vs o (Some x) f x refl).0
new_is vs o None true e f = rw (found_none vs o None f refl)
new_is vs o None false e f = absurd (true≢false (sym e))

module _ {c : Catalogue} {x x' : encoder.State} where
  pub knows_after : {F : Reading → State → State} {o : Origin} → StateDoes c F x x' → IsGood c x → Knows (is_full x.used) (variables_of x) o → Knows (is_full x'.used) (variables_of x') o
  knows_after {o = o} d g k =
      let b = d.did.is g.clauses [] in
      record { known = λ e. rw d.limits (still_known b g.good e o (k.known (not_full b g.good e))) }

  pub named_knows : {o : Origin} → PlainDoes (λ c v. add_variable o) x x' → IsGood c x → Knows (is_full x'.used) (variables_of x') o
  named_knows {o} d g =
      let v : Reading = record { truth = λ p. false; drawn = [] } in
      record { known = λ e. rw (variables_now (at_catalogue d) g e v) (unfold add_variable in with_variable_known o _) }

  -- of an origin by the code's
  pub owner_knows : (w : code.Origin) {o : Origin} → origin_of w ≡ o → PlainDoes (λ c v. add_variable (origin_of w)) x x' → IsGood c x → Knows (is_full x'.used) (variables_of x') o
  owner_knows w i d g = rw i at (named_knows d g)

pub looked_is : {vs : List Origin} {x : ℕ} (w : code.Origin) {o : Origin} → origin_of w ≡ o → Looked vs (origin_of w) x → known vs o ≡ true → x ≡ variable_of vs o
looked_is {vs} w i k h = k.is (rw i h) ∙ ap (variable_of vs) i

pub looked_below : (z : encoder.State) {x : ℕ} {o : Origin} → IsMapped z → Looked (variables_of z) o x → known (variables_of z) o ≡ true → x < z.limits.variables
looked_below z m k h = omega (arith, m.room, k.below h, count z.used.variables (regions_of z))

pub non_matching_known : (c : Catalogue) (r : ℕ) {full : Bool} {vs : List Origin} → KnownUnlessFull full vs (non_matching c r) → KnownUnlessFull full vs (parts_for c (Chosen r NonMatching))
non_matching_known c r a = rw (non_matching_parts c r) a

pub known_non_matching : (c : Catalogue) (r : ℕ) {full : Bool} {vs : List Origin} → KnownUnlessFull full vs (parts_for c (Chosen r NonMatching)) → KnownUnlessFull full vs (non_matching c r)
known_non_matching c r a = rw (non_matching_parts c r) at a

-- ---- the steps

adds_widens : (r : rules.Run) (a : Adding) (ps : List ℕ) (s : State) → Widens s (fold (adding_of r a) ps s)
adds_widens r a ps s = widens_fold (adding_of r a) (λ p u. unfold adding_of in add_clause_widens _ _ u) ps s

names_widens : (c : Catalogue) (ps : List ℕ) (s : State) → Widens s (fold (naming_of c Variable) ps s)
names_widens c ps s = widens_fold (naming_of c Variable) (λ p u. unfold naming_of in add_variable_widens _ u) ps s

module _ (c : Catalogue) (run : rules.Run) (o : Owner) (r : ℕ) where
  violation_widens : (new : Bool) (s : State) → Widens s (add_violation c run o r new s)
  unfolding add_violation
  violation_widens new s = widens_then (widens_when new _ (λ u. adds_widens run _ (non_matching c r) u) s) (add_clause_widens _ _ _)

  many_widens : (s : State) → Widens s (constrain_many c run o r s)
  unfolding constrain_many
  many_widens s = widens_then (add_variable_widens (violation r) s) (widens_then (names_widens c (non_matching c r) _) (violation_widens _ _))

-- ---- few

module _ {c : Catalogue} (run : Run) (o : Owner) (r : ℕ) {x x' x'' : encoder.State} {cl cl' : List ℕ} where
  pub few_added : (w : code.Origin) {z : ℕ} → Knows (is_full x'.used) (variables_of x') (chosen o) → origin_of w ≡ chosen o → Looked (variables_of x') (origin_of w) z
      → StateDoes c (λ v. fold (naming_of c Variable) (parts_for c (Chosen r NonMatching))) x x'
      → ClausesDoes c (λ v. fold (adding_of (run_of run) (Constrains z)) (parts_for c (Chosen r NonMatching))) x' cl x'' cl'
      → ClausesDoes c (λ v. constrain_few c (run_of run) o r) x cl x'' cl'
  few_added w {z} k i h d g =
      clauses_do_same (state_then_clauses_do d right) (λ v s. unfold constrain_few in rw (non_matching_parts c r))
    where
      right : ClausesDoes c (λ v s. fold (adding_of (run_of run) (Constrains (variable_of s.variables (chosen o)))) (parts_for c (Chosen r NonMatching)) s) x' cl x'' cl'
      right =
          record {
            limits = g.limits;
            area = g.area;
            did = record {
              is = λ wt. did_as (g.did.is wt) (λ v s. adds_widens (run_of run) _ (parts_for c (Chosen r NonMatching)) s)
                  (λ _ f v. unfold state_of in rw (looked_is w i h (k.known f)));
            };
          }

-- ---- through a violation

module _ {c : Catalogue} (run : Run) (o : Owner) (r : ℕ) {x x' : encoder.State} {cl cl' : List ℕ} {new : Bool} {z y : ℕ}
    (i : z ≡ variable_of (variables_of x) (chosen o)) (j : y ≡ variable_of (variables_of x) (violation r)) where
  pub violation_new : {x'' : encoder.State} {cl'' : List ℕ} → new ≡ true → ClausesDoes c (λ v. fold (adding_of (run_of run) (AuxOut y)) (parts_for c (Chosen r NonMatching))) x cl x' cl'
      → Adds run (aux_owner z y) x' cl' x'' cl'' → ClausesDoes c (λ v. add_violation c (run_of run) o r new) x cl x'' cl''
  violation_new {x''} {cl''} e d g =
      record {
        limits = both.limits;
        area = both.area;
        did = record {
          is = λ wt. did_as (both.did.is wt) (λ v s. violation_widens c (run_of run) o r new s)
              (λ _ f v. unfold add_violation state_of when in rw (e, non_matching_parts c r, ← i, ← j));
        };
      }
    where
      both : ClausesDoes c (λ v s. add_clause (run_of run) (aux_owner z y) (fold (adding_of (run_of run) (AuxOut y)) (parts_for c (Chosen r NonMatching)) s)) x cl x'' cl''
      both = clauses_do_then d (adds_do g)

  pub violation_old : new ≡ false → Adds run (aux_owner z y) x cl x' cl' → ClausesDoes c (λ v. add_violation c (run_of run) o r new) x cl x' cl'
  violation_old e g =
      record {
        limits = g.limits;
        area = g.area;
        did = record {
          is = λ wt. did_as (g.is c wt) (λ v s. violation_widens c (run_of run) o r new s) (λ _ f v. unfold add_violation state_of when in rw (e, ← i, ← j));
        };
      }

module _ {c : Catalogue} (run : Run) (o : Owner) (r : ℕ) {x x₁ x₂ : encoder.State} {new : Bool}
    (e : new ≡ not (known (variables_of x) (violation r)))
    (d₁ : PlainDoes (λ c v. add_variable (violation r)) x x₁)
    (d₂ : StateDoes c (λ v. fold (naming_of c Variable) (parts_for c (Chosen r NonMatching))) x₁ x₂) where
  -- all variables are there
  named : StateDoes c (λ v s. fold (naming_of c Variable) (non_matching c r) (add_variable (violation r) s)) x x₂
  named = rw (non_matching_parts c r) at (does_then (at_catalogue d₁) d₂)

  many : (cl : List ℕ) (v : Reading) (wt : List ℕ)
      → add_violation c (run_of run) o r new (fold (naming_of c Variable) (non_matching c r) (add_variable (violation r) (state_of c x.limits v x.used (regions_of x) cl wt)))
      ≡ constrain_many c (run_of run) o r (state_of c x.limits v x.used (regions_of x) cl wt)
  many cl v wt = unfold constrain_many state_of in rw e

  pub many_full : {cl : List ℕ} → (x₂.used.full ≡ 0 → ⊥) → ClausesDoes c (λ v. constrain_many c (run_of run) o r) x cl x₂ cl
  many_full {cl} f =
      record {
        limits = named.limits;
        area = named.area;
        did = record {
          is = λ wt. did_as (did_stop {G = λ v. add_violation c (run_of run) o r new} (named.did.is cl wt) (told_full f) (λ v s. violation_widens c (run_of run) o r new s))
              (λ v s. many_widens c (run_of run) o r s) (λ _ _ v. many cl v wt);
        };
      }

  pub many_added : {x₃ : encoder.State} {cl cl' : List ℕ} → ClausesDoes c (λ v. add_violation c (run_of run) o r new) x₂ cl x₃ cl'
      → ClausesDoes c (λ v. constrain_many c (run_of run) o r) x cl x₃ cl'
  many_added {x₃} {cl} {cl'} g =
      record {
        limits = both.limits;
        area = both.area;
        did = record { is = λ wt. did_as (both.did.is wt) (λ v s. many_widens c (run_of run) o r s) (λ _ _ v. many cl v wt) };
      }
    where
      both : ClausesDoes c (λ v s. add_violation c (run_of run) o r new (fold (naming_of c Variable) (non_matching c r) (add_variable (violation r) s))) x cl x₃ cl'
      both = state_then_clauses_do named g
