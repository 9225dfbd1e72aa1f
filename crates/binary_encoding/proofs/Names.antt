-- The named parts join, name by name: the loops, and what they keep.
use mathlib.Core.Path.{◌≡◌, refl, sym, ◌∙◌, ap}
use mathlib.Core.Bool.{true, false}
use mathlib.Core.List.Memᴰ
use mathlib.Core.List.{List, [], ◌∷◌}
use Prim.Native.Nat.{ℕ, ◌+◌, ◌<◌, ◌≤◌}
use native.Mathlib.Numerals.{add-one}
use native.Mathlib.Omega.{arith}
use lib.ListN.{length, get_or, drop, drop_of_length-le}
use lib.Seq.{drop-cons}
use Rattle.rules.specs.Lists.{fold}
use Rattle.rules.specs.Catalogue.{Catalogue, name_of}
use Rattle.rules.specs.Variables.{known, with_variables, part_origin}
use Rattle.rules.specs.Opening.{Opening, tracked_of}
use Rattle.rules.specs.Encoding.{joins, origins}
use Rattle.rules.specs.State.{State, Run}
use Rattle.rules.proofs.Each.{each_imp, each_snoc, when_cases}
use Rattle.rules.proofs.Effects.{emit_leaves}
use Rattle.rules.proofs.Grows.{with_variables_prefix, prefix_length}
use Rattle.rules.proofs.Places.{keeps_variable, with_variables_known}
use Rattle.rules.proofs.ListLaws.{fold_every}
use Rattle.tables.specs.declared.Counts.{Counts}
use Rattle.cache.specs.Areas.{catalogue}
use Rattle.state.proofs.Sizes.{length_fixed}
use Rattle.variable_map.specs.Mapping.{AllKnown}
use Rattle.variable_map.proofs.Laws as variables
use Rattle.marked.specs.Marked.{listed, Marked}
use Rattle.marked.proofs.Laws.{length_listed, at_low}
use Rattle.encoder.specs.declared.Run as code
use Rattle.encoder.specs.declared.State as encoder
use Rattle.encoder.specs.Held.{run_of, opening_of, state_of, LongEnough}
use Rattle.encoder.specs.Did.{Widens, on_opening, Beside, is_full}
use Rattle.encoder.specs.Does.{regions_of, variables_of}
use Rattle.encoder.proofs.Did.{widens_fold}
use Rattle.tracking.specs.Joining.{Makes, GoodOf, tracked_in, named_in, tracking, MakesOf, join_step, join_if, join_name, join_names, CanJoin}
use Rattle.tracking.proofs.Steps.{state_now, makes_good, makes_state, makes_as, makes_same, Folded, folded_start, folded_step, folded_stop, folded_end, Areas, areas_start, areas_then}
use Rattle.binary_encoding.proofs.Joins.{join_if_widens}

-- ---- what a part that joins keeps, by the state

pub record Fine (before : ℕ) (qs : List ℕ) (s : State) : Type 0 where
  pub older : before ≤ length s.variables
  pub known : AllKnown s.variables s.opening.tracked
  pub named : s.opening.named ≡ qs

module _ {before : ℕ} {qs : List ℕ} where
  joined_fine : (r : Run) (p : ℕ) (c : Catalogue) (s : State) → Fine before qs s → Fine before qs (join_step r p c s)
  unfolding join_step on_opening tracking
  joined_fine r p c s f =
      let e = joins p (tracked_of c (name_of c p) s.opening.tracked) in
      let x = emit_leaves c r e s in
      let vs = s.variables in
      let grown = with_variables_prefix (origins c e) vs in
      let mine : known (with_variables (origins c e) vs) (part_origin p) ≡ true = with_variables_known (origins c e) vs (part_origin p) (unfold origins in Memᴰ.head refl) in
      record {
        older = rw x.variables (omega (arith, f.older, prefix_length grown));
        known = rw (x.variables, x.opening) (record { known = each_snoc (each_imp (λ q k. (keeps_variable grown (part_origin q) k).0) f.known.known) mine });
        named = ap (λ (o : Opening). o.named) x.opening ∙ f.named;
      }

  join_if_fine : (r : Run) (name p : ℕ) (c : Catalogue) (s : State) → Fine before qs s → Fine before qs (join_if r name p c s)
  unfolding join_if
  join_if_fine r name p c s f = when_cases (Fine before qs) _ (join_step r p c) s f (λ e. joined_fine r p c s f)

  join_name_fine : (r : Run) (name : ℕ) (c : Catalogue) (s : State) → Fine before qs s → Fine before qs (join_name r name c s)
  unfolding join_name
  join_name_fine r name c s f = fold_every (Fine before qs) (λ p. join_if r name p c) (λ p. join_if_fine r name p c) s.opening.named s f

pub join_name_widens : (r : Run) (name : ℕ) (c : Catalogue) (s : State) → Widens s (join_name r name c s)
unfolding join_name
join_name_widens r name c s = widens_fold (λ p. join_if r name p c) (λ p. join_if_widens r name p c) s.opening.named s

-- ---- and by the areas

-- what the loops need of the areas
pub record Ready (k : Counts) (t : List ℕ) (r : code.Run) (x₀ x : encoder.State) (cl : List ℕ) : Type 0 where
  pub areas : Areas x₀ x cl
  pub good : GoodOf k t x cl
  pub can : CanJoin x r
  pub list : named_in x ≡ named_in x₀

pub of_named : {k : Counts} {t : List ℕ} {x : encoder.State} {cl : List ℕ} → GoodOf k t x cl → Marked 8 9 x.used.named (regions_of x)
of_named (GoodOf.good m u g) = g.state.named

pub of_limits : {k : Counts} {t : List ℕ} (F : Catalogue → State → State) {x x' : encoder.State} {cl cl' : List ℕ} → MakesOf k t F x cl x' cl' → x'.limits ≡ x.limits
of_limits F d = (d.is [] []).is.limits

module _ {k : Counts} {t : List ℕ} (F : Catalogue → State → State) {x x' : encoder.State} {cl cl' : List ℕ} where
  pub of_after : GoodOf k t x cl → MakesOf k t F x cl x' cl' → GoodOf k t x' cl'
  of_after (GoodOf.good m u g) d = GoodOf.good m u (makes_good (d.is m u) g)

  pub of_beside : GoodOf k t x cl → MakesOf k t F x cl x' cl' → Beside x.used.first (regions_of x) (regions_of x')
  of_beside (GoodOf.good m u g) d = let y = (d.is m u).is in rw y.limits ((y.did.is []).beside g)

record Shown (before : ℕ) (qs : List ℕ) (x : encoder.State) : Type 0 where
  older : before ≤ x.used.variables
  known : AllKnown (variables_of x) (tracked_in x)
  list : named_in x ≡ qs

module _ {k : Counts} {t : List ℕ} {r : code.Run} {x₀ x : encoder.State} {cl : List ℕ} (y : Ready k t r x₀ x cl)
    (F : Catalogue → State → State) {x' : encoder.State} {cl' : List ℕ} (d : MakesOf k t F x cl x' cl') where
  module _ (w : (c : Catalogue) (s : State) → Fine r.before (named_in x) s → Fine r.before (named_in x) (F c s)) (f : is_full x'.used ≡ false) where
    fine_after : GoodOf k t x cl → Shown r.before (named_in x) x'
    unfolding state_of opening_of
    fine_after (GoodOf.good m u g) =
        let c = catalogue k m u t in
        let before : Fine r.before (named_in x) (state_now c x cl)
        = record { older = omega (arith, y.can.older, variables.count x.used.variables (regions_of x)); known = y.can.known; named = refl } in
        let after = rw (← makes_state (d.is m u) g f) at (w c (state_now c x cl) before) in
        record { older = omega (arith, after.older, variables.count x'.used.variables (regions_of x')); known = after.known; list = after.named }

    pub ready_after : length cl' ≡ length cl → Ready k t r x₀ x' cl'
    ready_after s =
        let z = fine_after y.good in
        record {
          areas = areas_then y.areas (of_limits F d) s;
          good = of_after F y.good d;
          can = record { going = f; number = y.can.number; older = z.older; known = z.known };
          list = z.list ∙ y.list;
        }

    pub ready_count : x'.used.named ≡ x.used.named
    ready_count = sym (length_listed (of_named (of_after F y.good d))) ∙ (ap length (fine_after y.good).list ∙ length_listed (of_named y.good))

-- ---- the named parts of one name

pub record Parting (k : Counts) (t : List ℕ) (r : code.Run) (name : ℕ) (x₀ : encoder.State) (cl₀ : List ℕ) (x : encoder.State) (cl : List ℕ) (i : ℕ) : Type 0 where
  pub ready : Ready k t r x₀ x cl
  pub count : x.used.named ≡ x₀.used.named
  pub few : x.used.named ≤ 1025
  pub did : (m u : List ℕ) → Folded (catalogue k m u t) (λ p. join_if (run_of r) name p (catalogue k m u t)) (named_in x₀) (drop i (named_in x)) x₀ cl₀ x cl

of_few : {k : Counts} {t : List ℕ} {x : encoder.State} {cl : List ℕ} → GoodOf k t x cl → x.used.named ≤ 1025
of_few g = let w = of_named g in omega (arith, w.most, w.short)

pub parting_start : (k : Counts) (t : List ℕ) (r : code.Run) (name : ℕ) (x : encoder.State) (cl : List ℕ) → LongEnough x.limits (length cl) 16384
    → GoodOf k t x cl → CanJoin x r → Parting k t r name x cl x cl 0
parting_start k t r name x cl h g c =
    record { ready = record { areas = areas_start h; good = g; can = c; list = refl }; count = refl; few = of_few g; did = λ m u. folded_start }

module _ {k : Counts} {t : List ℕ} {r : code.Run} {name : ℕ} {x₀ x : encoder.State} {cl₀ cl : List ℕ} {i : ℕ} (y : Parting k t r name x₀ cl₀ x cl i) where
  pub parting_low : (p : ℕ) → i < x₀.used.named → p ≡ get_or (listed x₀.used.named 8 (regions_of x)) i 0 → p < 1024
  parting_low p h e = omega (arith, at_low (of_named y.ready.good) i p (rw y.count h) (rw y.count e), length_fixed x.limits x.area.now 9 (omega arith) x.fits)

  name_makes : {x' : encoder.State} {cl' : List ℕ}
      → ((m u : List ℕ) → Makes (catalogue k m u t) (fold (λ p. join_if (run_of r) name p (catalogue k m u t)) (named_in x₀)) x₀ cl₀ x' cl')
      → MakesOf k t (join_name (run_of r) name) x₀ cl₀ x' cl'
  name_makes z = record { is = λ m u. makes_as (z m u) (join_name_widens (run_of r) name (catalogue k m u t)) (λ g e v wt. unfold join_name state_of opening_of in refl) }

  pub parting_end : x₀.used.named ≤ i → MakesOf k t (join_name (run_of r) name) x₀ cl₀ x cl
  parting_end h =
      let none : drop i (named_in x) ≡ [] = drop_of_length-le (named_in x) {i = i} (omega (arith, y.count, length_listed (of_named y.ready.good))) in
      name_makes (λ m u. folded_end (rw none at (y.did m u)))

  module _ {x' : encoder.State} {cl' : List ℕ} {p : ℕ} (h : i < x₀.used.named) (e : p ≡ get_or (listed x₀.used.named 8 (regions_of x)) i 0)
      (d : MakesOf k t (join_if (run_of r) name p) x cl x' cl') where
    stepped : (m u : List ℕ) → Folded (catalogue k m u t) (λ q. join_if (run_of r) name q (catalogue k m u t)) (named_in x₀) (drop (i + 1) (named_in x)) x₀ cl₀ x' cl'
    stepped m u =
        let ps = named_in x in
        let here : p ≡ get_or ps i 0 = rw y.count e in
        let left : drop i ps ≡ p ∷ drop (i + 1) ps = drop-cons ps i 0 (omega (arith, y.count, length_listed (of_named y.ready.good))) ∙ rw (add-one i, ← here) in
        folded_step (rw left at (y.did m u)) (d.is m u)

    pub parting_stop : is_full x'.used ≡ true → MakesOf k t (join_name (run_of r) name) x₀ cl₀ x' cl'
    parting_stop f = name_makes (λ m u. folded_stop (stepped m u) f (λ q. join_if_widens (run_of r) name q (catalogue k m u t)))

    pub parting_step : is_full x'.used ≡ false → length cl' ≡ length cl → Parting k t r name x₀ cl₀ x' cl' (i + 1)
    parting_step f s =
        let kept = join_if_fine (run_of r) name p in
        let z = ready_after y.ready (join_if (run_of r) name p) d kept f s in
        record {
          ready = z;
          count = ready_count y.ready (join_if (run_of r) name p) d kept f ∙ y.count;
          few = of_few z.good;
          did = λ m u. rw (z.list ∙ sym y.ready.list) (stepped m u);
        }

-- ---- the names at hand

pub record Naming (k : Counts) (t : List ℕ) (r : code.Run) (names : ℕ) (x₀ : encoder.State) (cl₀ : List ℕ) (x : encoder.State) (cl : List ℕ) (i : ℕ) : Type 0 where
  pub ready : Ready k t r x₀ x cl
  pub marked : Marked 14 15 names (regions_of x)
  pub did : (m u : List ℕ) → Folded (catalogue k m u t) (λ y. join_name (run_of r) y (catalogue k m u t)) (listed names 14 (regions_of x₀)) (drop i (listed names 14 (regions_of x))) x₀ cl₀ x cl

pub naming_start : (k : Counts) (t : List ℕ) (r : code.Run) (names : ℕ) (x : encoder.State) (cl : List ℕ) → LongEnough x.limits (length cl) 16384
    → GoodOf k t x cl → CanJoin x r → Marked 14 15 names (regions_of x) → Naming k t r names x cl x cl 0
naming_start k t r names x cl h g c w =
    record { ready = record { areas = areas_start h; good = g; can = c; list = refl }; marked = w; did = λ m u. folded_start }

module _ {k : Counts} {t : List ℕ} {r : code.Run} {names : ℕ} {x₀ x : encoder.State} {cl₀ cl : List ℕ} {i : ℕ} (y : Naming k t r names x₀ cl₀ x cl i) where
  names_make : {x' : encoder.State} {cl' : List ℕ}
      → ((m u : List ℕ) → Makes (catalogue k m u t) (fold (λ n. join_name (run_of r) n (catalogue k m u t)) (listed names 14 (regions_of x₀))) x₀ cl₀ x' cl')
      → MakesOf k t (join_names (run_of r) (listed names 14 (regions_of x₀))) x₀ cl₀ x' cl'
  names_make z = record { is = λ m u. makes_same (z m u) (λ s. unfold join_names in refl) }

  pub naming_end : names ≤ i → MakesOf k t (join_names (run_of r) (listed names 14 (regions_of x₀))) x₀ cl₀ x cl
  naming_end h =
      let none : drop i (listed names 14 (regions_of x)) ≡ [] = drop_of_length-le (listed names 14 (regions_of x)) {i = i} (omega (arith, length_listed y.marked)) in
      names_make (λ m u. folded_end (rw none at (y.did m u)))

  module _ {x' : encoder.State} {cl' : List ℕ} {name : ℕ} (h : i < names) (e : name ≡ get_or (listed names 14 (regions_of x)) i 0)
      (d : MakesOf k t (join_name (run_of r) name) x cl x' cl') where
    stepped_name : (m u : List ℕ) → Folded (catalogue k m u t) (λ n. join_name (run_of r) n (catalogue k m u t)) (listed names 14 (regions_of x₀)) (drop (i + 1) (listed names 14 (regions_of x)))
        x₀ cl₀ x' cl'
    stepped_name m u =
        let ns = listed names 14 (regions_of x) in
        let left : drop i ns ≡ name ∷ drop (i + 1) ns = drop-cons ns i 0 (omega (arith, length_listed y.marked)) ∙ rw (add-one i, ← e) in
        folded_step (rw left at (y.did m u)) (d.is m u)

    pub naming_stop : is_full x'.used ≡ true → MakesOf k t (join_names (run_of r) (listed names 14 (regions_of x₀))) x₀ cl₀ x' cl'
    naming_stop f = names_make (λ m u. folded_stop (stepped_name m u) f (λ n. join_name_widens (run_of r) n (catalogue k m u t)))

    pub naming_step : is_full x'.used ≡ false → length cl' ≡ length cl → Naming k t r names x₀ cl₀ x' cl' (i + 1)
    naming_step f s =
        let beside = of_beside (join_name (run_of r) name) y.ready.good d in
        record {
          ready = ready_after y.ready (join_name (run_of r) name) d (join_name_fine (run_of r) name) f s;
          marked = beside.marked names y.marked;
          did = λ m u. rw (beside.list names y.marked) (stepped_name m u);
        }
