-- An owner's task: a known owner's is a step of the opening; a part with unknown dependencies gets its variable and is excluded.
use mathlib.Core.Path.{◌≡◌, refl, sym, ◌∙◌, ap}
use mathlib.Core.Bool.{Bool, true, false}
use mathlib.Core.List.{List, [], ◌∷◌}
use Prim.Native.Nat.{ℕ, ◌<◌}
use native.Mathlib.Omega.{arith}
use lib.ListN.{length, get_or}
use borrow.Author.Tests.{lt-ltb}
use Rattle.rules.specs.Lists.{fold, list_if, unless}
use Rattle.rules.specs.Clause.{excluded, unknown_dependencies}
use Rattle.rules.specs.Catalogue as rules
use Rattle.rules.specs.Catalogue.{Owner, root, part, Catalogue, no_part, part_at, unknown_owner}
use Rattle.rules.specs.Variables.{Origin, known, with_variables, part_origin, part_variable}
use Rattle.rules.specs.Opening.{owner, serve_owner, serve}
use Rattle.rules.specs.Encoding.{served, task_origins, origins, task_clauses, clauses}
use Rattle.rules.specs.State.{State, Run, emit}
use Rattle.rules.specs.Run.{serve_task}
use Rattle.rules.proofs.WellFormed.{OwnerGiven}
use Rattle.rules.proofs.Places.{with_variable_known}
use Rattle.rules.proofs.ClauseByClause.{add_clause, emit_one_by_one}
use Rattle.rules.proofs.Capped.{add_variable}
use Rattle.rules.proofs.Forgotten.{erased, forget, emit_forgets, owner_erased}
use Rattle.tables.specs.declared.Counts.{Counts}
use Rattle.tables.specs.Tables.{tables}
use Rattle.cache.specs.Areas.{catalogue}
use Rattle.cache.proofs.Laws.{parts_held, part_held}
use Rattle.index.specs.Indexed.{Indexed}
use Rattle.variable_map.specs.Mapping.{in_tables}
use Rattle.requirement.specs.declared.Owner as code
use Rattle.requirement.specs.declared.Owner.TheVariants.{Root, Part}
use Rattle.requirement.specs.Requirements.{owner_is}
use Rattle.marked.specs.Marked.{owner_of}
use Rattle.encoder.specs.declared.Run as runs
use Rattle.encoder.specs.declared.State as encoder
use Rattle.encoder.specs.Held.{run_of, Reading, state_of}
use Rattle.encoder.specs.Did.{Widens, on_opening, Looked}
use Rattle.encoder.specs.Does.{StateDoes, PlainDoes, ClausesDoes, IsGoodWith, regions_of, variables_of}
use Rattle.encoder.proofs.Did.{widens_then, did_as, did_stop, told_full, told_going}
use Rattle.encoder.proofs.Widening.{add_variable_widens, add_clause_widens}
use Rattle.encoder.proofs.Steps.{good_alone, forget_widens, nothing_kept}
use Rattle.encoder.proofs.Does.{at_catalogue, variables_now, state_then_clauses_do, good_with_then}
use Rattle.storing.specs.Adding.{reason_for, Adds}
use Rattle.owners.specs.Owners.{serving}

-- ---- a known owner

known_part : (c : Catalogue) (p : ℕ) {b : Bool} → unknown_owner c (part p) ≡ b → (part_at c p).unknown ≡ b
unfolding unknown_owner
known_part c p e = e

module _ (c : Catalogue) where
  no_origins : (w : Owner) → unknown_owner c w ≡ false → origins c (served (owner w)) ≡ []
  unfolding origins task_origins list_if
  no_origins root e = refl
  no_origins (part p) e = rw (known_part c p e)

  no_clauses : (w : Owner) → unknown_owner c w ≡ false → (old new : List Origin) (before : ℕ) → clauses c old new before (served (owner w)) ≡ []
  unfolding clauses task_clauses list_if
  no_clauses root e old new before = refl
  no_clauses (part p) e old new before = rw (known_part c p e)

module _ (c : Catalogue) (w : Owner) (e : unknown_owner c w ≡ false) where
  nothing_emitted : (r : Run) (s : State) → emit c r (served (owner w)) s ≡ s
  nothing_emitted r s = rw (emit_one_by_one c r (served (owner w)) s, no_origins c w e, no_clauses c w e) (unfold fold with_variables in refl)

  serving_known : (r : Run) (s : State) → serving c r (owner w) s ≡ forget (on_opening (serve_owner c w) s)
  unfolding serving serve_task serve on_opening
  serving_known r s = rw (nothing_emitted r)

  kept_known : (s : State) → forget s ≡ s → forget (on_opening (serve_owner c w) s) ≡ on_opening (serve_owner c w) s
  unfolding on_opening
  kept_known s f = let g : erased s.opening ≡ s.opening = ap (λ (u : State). u.opening) f in rw (← owner_erased c w s.opening, g)

  pub served_known : (r : runs.Run) {x x' : encoder.State} (cl : List ℕ) → StateDoes c (λ v. on_opening (serve_owner c w)) x x'
      → ClausesDoes c (λ v. serving c (run_of r) (owner w)) x cl x' cl
  served_known r {x} cl d =
      record {
        limits = d.limits;
        area = d.area;
        did = record {
          is = λ wt. did_as (d.did.is cl wt)
              (λ v s. rw (serving_known (run_of r) s) (forget_widens ((d.did.is cl wt).wide v s)))
              (λ g f v. let s = state_of c x.limits v x.used (regions_of x) cl wt in sym (serving_known (run_of r) s ∙ kept_known s (nothing_kept c x.limits v x.used (regions_of x) cl wt)));
        };
      }

-- ---- a part with unknown dependencies

-- it has its variable
unfoldable exclude_unknown : Run → ℕ → State → State
exclude_unknown r p s = add_clause r (excluded (part_variable s.variables p) p unknown_dependencies) s

exclude_widens : (r : Run) (p : ℕ) (s : State) → Widens s (exclude_unknown r p s)
unfolding exclude_unknown
exclude_widens r p s = add_clause_widens r _ s

module _ (c : Catalogue) (r : Run) (p : ℕ) (e : unknown_owner c (part p) ≡ true) where
  one_origin : origins c (served (owner (part p))) ≡ part_origin p ∷ []
  unfolding origins task_origins list_if
  one_origin = rw (known_part c p e)

  one_clause_law : (old new : List Origin) (before : ℕ) → clauses c old new before (served (owner (part p))) ≡ excluded (part_variable new p) p unknown_dependencies ∷ []
  unfolding clauses task_clauses list_if
  one_clause_law old new before = rw (known_part c p e)

  one_emitted : (s : State) → emit c r (served (owner (part p))) s ≡ exclude_unknown r p (add_variable (part_origin p) s)
  one_emitted s = rw (emit_one_by_one c r (served (owner (part p))) s, one_origin, one_clause_law) (unfold fold with_variables exclude_unknown add_variable in refl)

  serving_unknown : (s : State) → serving c r (owner (part p)) s ≡ forget (emit c r (served (owner (part p))) s)
  unfolding serving serve_task serve serve_owner unless
  serving_unknown s = rw e

  unknown_widens : (s : State) → Widens s (serving c r (owner (part p)) s)
  unknown_widens s =
      rw (serving_unknown s, one_emitted s) (forget_widens (widens_then (add_variable_widens (part_origin p) s) (exclude_widens r p (add_variable (part_origin p) s))))

  unknown_is : (s : State) → forget s ≡ s → serving c r (owner (part p)) s ≡ exclude_unknown r p (add_variable (part_origin p) s)
  unknown_is s f = serving_unknown s ∙ (sym (emit_forgets c r (served (owner (part p))) s) ∙ (ap (emit c r (served (owner (part p)))) f ∙ one_emitted s))

pub part_in_tables : (k : Counts) (m us t : List ℕ) {p : ℕ} → Indexed k m us t → p < k.parts → in_tables (part_origin p) ≡ true
unfolding in_tables
part_in_tables k m us t {p} h b = lt-ltb p 1024 (omega (arith, h.held.laid.parts))

module _ (c : Catalogue) (r : runs.Run) (p : ℕ) {x x' : encoder.State} (e : unknown_owner c (part p) ≡ true) (d : PlainDoes (λ c v. add_variable (part_origin p)) x x') where
  pub unknown_full : {cl : List ℕ} → (x'.used.full ≡ 0 → ⊥) → ClausesDoes c (λ v. serving c (run_of r) (owner (part p))) x cl x' cl
  unknown_full {cl} f =
      record {
        limits = d.limits;
        area = d.area;
        did = record {
          is = λ wt. did_as (did_stop {G = λ v. exclude_unknown (run_of r) p} ((d.did c).is cl wt) (told_full f) (λ v s. exclude_widens (run_of r) p s))
              (λ v s. unknown_widens c (run_of r) p e s)
              (λ g u v. sym (unknown_is c (run_of r) p e (state_of c x.limits v x.used (regions_of x) cl wt) (nothing_kept c x.limits v x.used (regions_of x) cl wt)));
        };
      }

  pub unknown_excluded : {cl cl' : List ℕ} {x'' : encoder.State} {y : ℕ} → IsGoodWith c x cl [] → x'.used.full ≡ 0 → Looked (variables_of x') (part_origin p) y
      → Adds r (excluded y p (reason_for true)) x' cl x'' cl'
      → ClausesDoes c (λ v. serving c (run_of r) (owner (part p))) x cl x'' cl'
  unknown_excluded {cl} {cl'} {x''} {y} good f k g =
      record {
        limits = both.limits;
        area = both.area;
        did = record {
          is = λ wt. did_as (both.did.is wt) (λ v s. unknown_widens c (run_of r) p e s)
              (λ _ _ v. sym (unknown_is c (run_of r) p e (state_of c x.limits v x.used (regions_of x) cl wt) (nothing_kept c x.limits v x.used (regions_of x) cl wt)));
        };
      }
    where
      there : known (variables_of x') (part_origin p) ≡ true
      there = let v : Reading = record { truth = λ p. false; drawn = [] } in
          rw (variables_now (at_catalogue d) (good_alone good) (told_going f) v) (unfold add_variable in with_variable_known (part_origin p) _)

      excludes : ClausesDoes c (λ v. exclude_unknown (run_of r) p) x' cl x'' cl'
      excludes =
          record {
            limits = g.limits;
            area = g.area;
            did = record { is = λ wt. did_as (g.is c wt) (λ v s. exclude_widens (run_of r) p s) (λ _ _ v. unfold exclude_unknown reason_for state_of in rw (k.is there)) };
          }

      both : ClausesDoes c (λ v s. exclude_unknown (run_of r) p (add_variable (part_origin p) s)) x cl x'' cl'
      both = state_then_clauses_do (at_catalogue d) excludes

-- what a clause needs
pub named_good : {c : Catalogue} {F : Catalogue → Reading → State → State} {x x' : encoder.State} {cl : List ℕ} → IsGoodWith c x cl [] → PlainDoes F x x' → IsGoodWith c x' cl []
named_good g d = good_with_then (at_catalogue d) g

-- ---- which of the two

pub root_known : (c : Catalogue) (o : code.Owner) → ((p : ℕ) → o ≡ Part p → ⊥) → unknown_owner c (owner_is o) ≡ false
unfolding unknown_owner
root_known c Root n = refl
root_known c (Part p) n = absurd (n p refl)

pub part_of_law : (o : ℕ) {p : ℕ} {w : code.Owner} → owner_is w ≡ owner_of o → w ≡ Part p → owner_of o ≡ part p
part_of_law o f q = sym f ∙ ap owner_is q

module _ (k : Counts) (m us t : List ℕ) (o p : ℕ) (w : code.Owner) (f : owner_is w ≡ owner_of o) (q : w ≡ Part p) where
  pub part_given : OwnerGiven (catalogue k m us t) (owner_of o) → p < k.parts
  part_given g = let low : p < length (catalogue k m us t).parts = rw (part_of_law o f q) at g in omega (arith, parts_held k m us t)

  module _ {b : Bool} (e : b ≡ (get_or (tables k t).parts p no_part).unknown) where
    pub part_unknown : b ≡ true → unknown_owner (catalogue k m us t) (part p) ≡ true
    unfolding unknown_owner
    part_unknown h = ap (λ (x : rules.Part). x.unknown) (part_held k m us t p) ∙ (sym e ∙ h)

    pub part_known : b ≡ false → unknown_owner (catalogue k m us t) (part p) ≡ false
    unfolding unknown_owner
    part_known h = ap (λ (x : rules.Part). x.unknown) (part_held k m us t p) ∙ (sym e ∙ h)

  pub served_unknown : (r : Run) {x x' : encoder.State} {cl cl' : List ℕ} → ClausesDoes (catalogue k m us t) (λ v. serving (catalogue k m us t) r (owner (part p))) x cl x' cl'
      → ClausesDoes (catalogue k m us t) (λ v. serving (catalogue k m us t) r (owner (owner_of o))) x cl x' cl'
  served_unknown r d = rw (part_of_law o f q) d

pub served_as : {c : Catalogue} {o w : Owner} → w ≡ o → (r : runs.Run) {x x' : encoder.State} (cl : List ℕ) → unknown_owner c w ≡ false
    → StateDoes c (λ v. on_opening (serve_owner c w)) x x' → ClausesDoes c (λ v. serving c (run_of r) (owner o)) x cl x' cl
served_as {c} {w = w} e r cl h d = rw e at (served_known c w h r cl d)
