-- New one-of-name variables are linked, variable by variable.
use mathlib.Core.Path.{◌≡◌, refl, sym, ◌∙◌, ap}
use mathlib.Core.Bool.{true, false}
use mathlib.Core.List.{List, [], ◌∷◌, map, map-map, append-nil}
use Prim.Native.Nat.{ℕ, ◌+◌, ◌<◌, ◌≤◌}
use native.Mathlib.Numerals.{add-one}
use native.Mathlib.Omega.{arith}
use lib.ListN.{length, get_or, drop, drop_of_length-le}
use lib.Seq.{drop-cons}
use Rattle.rules.specs.Lists.{concat_map, fold}
use Rattle.rules.specs.Clause.{Clause, any_one}
use Rattle.rules.specs.Catalogue.{root, Catalogue}
use Rattle.rules.specs.Variables.{Origin, chosen, forbid, one, violation, gate, known, variable_of, with_variables, part_origin, part_variable}
use Rattle.rules.specs.Opening.{tracked_of}
use Rattle.rules.specs.Encoding.{links, origins, clauses}
use Rattle.rules.specs.State.{State, Run}
use Rattle.rules.specs.Run.{name_if_one, link_all}
use Rattle.rules.proofs.Each.{Each, each_filter, each_map, each_out}
use Rattle.rules.proofs.Grows.{link_all_grows}
use Rattle.rules.proofs.Known.{unchanged}
use Rattle.rules.proofs.Places.{Distinct, at_known, variable_at_law}
use Rattle.rules.proofs.Line.{link_all_opening}
use Rattle.rules.proofs.ClauseByClause.{add_clause, emit_one_by_one}
use Rattle.tables.specs.declared.Counts.{Counts}
use Rattle.cache.specs.Areas.{catalogue}
use Rattle.variable_map.specs.declared.Origin as variable_map
use Rattle.variable_map.specs.declared.Origin.TheVariants.{Root, Part, Forbid, One, Violation, Gate}
use Rattle.variable_map.specs.Mapping.{origin_of, AllKnown}
use Rattle.variable_map.proofs.Laws as variables
use Rattle.encoder.specs.declared.Run as code
use Rattle.encoder.specs.declared.State as encoder
use Rattle.encoder.specs.Held.{run_of, opening_of, state_of, LongEnough}
use Rattle.encoder.specs.Did.{Widens, is_full}
use Rattle.encoder.specs.Does.{ClausesDoes, IsGoodWith, regions_of, variables_of}
use Rattle.encoder.proofs.Did.{widens_fold}
use Rattle.tracking.specs.Joining.{Makes, AddsAll, GoodSome, of_name, tracked_in, tracked_variables, any_clauses, link_clauses, CanLink}
use Rattle.tracking.proofs.Steps.{some_good, some_all, makes_as, Folded, folded_start, folded_step, folded_stop, folded_end, adds_none, adds_limits, adds_as, Areas, areas_start, areas_then, Same, same_count, clauses_same, known_same}
use Rattle.binary_encoding.proofs.Track.{of_name_held}
use Rattle.binary_encoding.proofs.Joins.{emit_widens}
use Rattle.binary_encoding.proofs.All.{link_step, link_if, all_linked}

-- ---- the clauses of a variable, by its origin

other_none : (o : variable_map.Origin) → ((name : ℕ) → o ≡ One name → ⊥) → name_if_one (origin_of o) ≡ []
unfolding name_if_one
other_none Root q = refl
other_none (Part p) q = refl
other_none (Forbid name bit) q = refl
other_none (One name) q = absurd (q name refl)
other_none (Violation range) q = refl
other_none (Gate goal) q = refl

module _ (k : Counts) (t : List ℕ) (r : code.Run) (x : encoder.State) (cl : List ℕ) (y : ℕ) (o : variable_map.Origin)
    (e : origin_of o ≡ get_or (variables_of x) y (chosen root)) where
  pub link_one : {x' : encoder.State} {cl' : List ℕ} {name : ℕ} → o ≡ One name → AddsAll r (any_clauses y (tracked_variables k t x name)) x cl x' cl'
      → AddsAll r (link_clauses k t (variables_of x) y (tracked_in x)) x cl x' cl'
  unfolding link_clauses tracked_variables concat_map name_if_one any_clauses
  link_one q a = adds_as a (rw (← e, q) (sym (append-nil _)))

  pub link_none : ((name : ℕ) → o ≡ One name → ⊥) → AddsAll r (link_clauses k t (variables_of x) y (tracked_in x)) x cl x cl
  unfolding link_clauses concat_map
  link_none q = adds_as adds_none (rw (← e, other_none o q))

-- ---- the rules' step, by its clauses

module _ (k : Counts) (m u t : List ℕ) (r : Run) (s : State) (y : ℕ) (h : y < length s.variables) (d : Distinct s.variables)
    (q : AllKnown s.variables s.opening.tracked) where
  abbrev c : Catalogue
  c = catalogue k m u t

  abbrev of_that : ℕ → List ℕ
  of_that name = tracked_of c name s.opening.tracked

  module _ (name : ℕ) (e : get_or s.variables y (chosen root) ≡ one name) where
    no_more : with_variables (origins c (links name (of_that name))) s.variables ≡ s.variables
    unfolding origins tracked_of
    no_more =
        let mine : known s.variables (one name) ≡ true = rw (← e) (at_known s.variables y (chosen root) h) in
        let parts : Each (λ o. known s.variables o ≡ true) (map part_origin (of_that name)) = each_map part_origin (of_that name) (each_filter _ q.known) in
        unchanged (one name ∷ map part_origin (of_that name)) s.variables (λ x i. each_out (Each.cons mine parts) i)

    its_clauses : clauses c s.variables s.variables r.before (links name (of_that name)) ≡ any_clauses y (map (part_variable s.variables) (of_that name))
    unfolding clauses any_clauses
    its_clauses =
        let mine : variable_of s.variables (one name) ≡ y = rw (← e) (variable_at_law d (chosen root) y h) in
        rw mine (sym (map-map (any_one y) (part_variable s.variables) (of_that name)))

    step_is : link_step r name c s ≡ fold (add_clause r) (any_clauses y (map (part_variable s.variables) (of_name k t name s.opening.tracked))) s
    unfolding link_step
    step_is =
        emit_one_by_one c r (links name (of_that name)) s
        ∙ rw (no_more, its_clauses, of_name_held k m u t name s.opening.tracked)

  by_origin : (o : Origin) → get_or s.variables y (chosen root) ≡ o
      → fold (λ n. link_step r n c) (name_if_one o) s ≡ fold (add_clause r) (concat_map (λ n. any_clauses y (map (part_variable s.variables) (of_name k t n s.opening.tracked))) (name_if_one o)) s
  unfolding name_if_one fold concat_map
  by_origin (chosen x) e = refl
  by_origin (forbid n j) e = refl
  by_origin (one n) e = step_is n e ∙ ap (λ (ks : List Clause). fold (add_clause r) ks s) (sym (append-nil (any_clauses y (map (part_variable s.variables) (of_name k t n s.opening.tracked)))))
  by_origin (violation x) e = refl
  by_origin (gate g) e = refl

  link_if_is : fold (add_clause r) (link_clauses k t s.variables y s.opening.tracked) s ≡ link_if r (get_or s.variables y (chosen root)) c s
  unfolding link_if link_clauses
  link_if_is = sym (by_origin (get_or s.variables y (chosen root)) refl)

link_if_widens : (r : Run) (o : Origin) (c : Catalogue) (s : State) → Widens s (link_if r o c s)
unfolding link_if link_step
link_if_widens r o c s = widens_fold (λ n. link_step r n c) (λ n s. emit_widens c r _ s) (name_if_one o) s

link_all_widens : (c : Catalogue) (r : Run) (s : State) → Widens s (link_all c r s)
link_all_widens c r s =
    let o = link_all_opening c r s in
    record { grows = link_all_grows c r s; line = rw o (omega arith); several = rw o (omega arith) }

-- ---- the loop at variable y

pub record Linked (k : Counts) (m u t : List ℕ) (r : code.Run) (x₀ : encoder.State) (cl₀ : List ℕ) (x : encoder.State) (cl : List ℕ) (y : ℕ) : Type 0 where
  pub areas : Areas x₀ x cl
  pub good : GoodSome x cl
  pub can : CanLink x
  pub count : x.used.variables ≡ x₀.used.variables
  pub did : Folded (catalogue k m u t) (λ o. link_if (run_of r) o (catalogue k m u t)) (drop r.before (variables_of x₀)) (drop y (variables_of x)) x₀ cl₀ x cl

pub linked_start : (k : Counts) (m u t : List ℕ) (r : code.Run) (x : encoder.State) (cl : List ℕ) → LongEnough x.limits (length cl) 16384
    → IsGoodWith (catalogue k m u t) x cl [] → CanLink x → Linked k m u t r x cl x cl r.before
linked_start k m u t r x cl h g c = record { areas = areas_start h; good = GoodSome.some (catalogue k m u t) g; can = c; count = refl; did = folded_start }

module _ {k : Counts} {m u t : List ℕ} {r : code.Run} {x₀ x : encoder.State} {cl₀ cl : List ℕ} {y : ℕ} (w : Linked k m u t r x₀ cl₀ x cl y) where
  pub linked_place : y < x₀.used.variables → y < x.used.variables
  linked_place h = rw w.count h

  all_makes : {x' : encoder.State} {cl' : List ℕ} → Makes (catalogue k m u t) (fold (λ o. link_if (run_of r) o (catalogue k m u t)) (drop r.before (variables_of x₀))) x₀ cl₀ x' cl'
      → ClausesDoes (catalogue k m u t) (λ v. link_all (catalogue k m u t) (run_of r)) x₀ cl₀ x' cl'
  all_makes z =
      let c = catalogue k m u t in
      (makes_as z (link_all_widens c (run_of r)) (λ g e v wt. unfold state_of run_of in all_linked c (run_of r) (state_of c x₀.limits v x₀.used (regions_of x₀) cl₀ wt))).is

  pub linked_end : x₀.used.variables ≤ y → ClausesDoes (catalogue k m u t) (λ v. link_all (catalogue k m u t) (run_of r)) x₀ cl₀ x cl
  linked_end h =
      let vs = variables_of x in
      let none : drop y vs ≡ [] = drop_of_length-le vs {i = y} (omega (arith, w.count, variables.count x.used.variables (regions_of x))) in
      all_makes (folded_end (rw none at w.did))

  module _ {x' : encoder.State} {cl' : List ℕ} (h : y < x₀.used.variables) (a : AddsAll r (link_clauses k t (variables_of x) y (tracked_in x)) x cl x' cl') where
    here : Makes (catalogue k m u t) (link_if (run_of r) (get_or (variables_of x) y (chosen root)) (catalogue k m u t)) x cl x' cl'
    here =
        makes_as (a.is (catalogue k m u t)) (link_if_widens (run_of r) _ (catalogue k m u t))
        (λ g e v wt. same (state_of (catalogue k m u t) x.limits v x.used (regions_of x) cl wt) (unfold state_of in refl) (unfold state_of opening_of in refl))
      where
        same : (s : State) → s.variables ≡ variables_of x → s.opening.tracked ≡ tracked_in x
            → fold (add_clause (run_of r)) (link_clauses k t (variables_of x) y (tracked_in x)) s ≡ link_if (run_of r) (get_or (variables_of x) y (chosen root)) (catalogue k m u t) s
        same s e f =
            rw (← e, ← f)
            (link_if_is k m u t (run_of r) s y (rw e (omega (arith, w.count, variables.count x.used.variables (regions_of x)))) (rw e w.can.apart) (rw (e, f) w.can.known))

    stepped : Folded (catalogue k m u t) (λ o. link_if (run_of r) o (catalogue k m u t)) (drop r.before (variables_of x₀)) (drop (y + 1) (variables_of x)) x₀ cl₀ x' cl'
    stepped =
        let vs = variables_of x in
        let left : drop y vs ≡ get_or vs y (chosen root) ∷ drop (y + 1) vs = drop-cons vs y (chosen root) (omega (arith, w.count, variables.count x.used.variables (regions_of x))) ∙ rw (add-one y) in
        folded_step (rw left at w.did) here

    pub linked_stop : is_full x'.used ≡ true → ClausesDoes (catalogue k m u t) (λ v. link_all (catalogue k m u t) (run_of r)) x₀ cl₀ x' cl'
    linked_stop f = all_makes (folded_stop stepped f (λ o. link_if_widens (run_of r) o (catalogue k m u t)))

    pub linked_step : is_full x'.used ≡ false → length cl' ≡ length cl → Linked k m u t r x₀ cl₀ x' cl' (y + 1)
    linked_step f s =
        let z : Same x x' = clauses_same a (some_good w.good) f in
        record {
          areas = areas_then w.areas (adds_limits a) s;
          good = some_all w.good a;
          can = record { going = f; known = known_same z w.can.known; apart = rw z.variables w.can.apart };
          count = same_count z ∙ w.count;
          did = rw z.variables stepped;
        }
