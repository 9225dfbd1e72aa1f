-- The named parts join: their names are at hand while they do, and then none is named any more.
use mathlib.Core.Path.{◌≡◌, refl, sym, ◌∙◌, ap}
use mathlib.Core.Bool.{Bool, false, not}
use mathlib.Core.List.{List, [], ◌∷◌, map}
use Prim.Native.Nat.{ℕ}
use native.Mathlib.Decide.{dec_lt}
use native.Mathlib.Omega.{arith}
use lib.Dec.{eqb}
use lib.ListN.{length, get_or-eq_default}
use Rattle.rules.specs.Lists.{filter, any, elem, distinct}
use Rattle.rules.specs.Catalogue.{no_part, Part, Catalogue, part_at, name_of}
use Rattle.rules.specs.Items.{ceiling}
use Rattle.rules.specs.State.{State, Run}
use Rattle.rules.specs.Opening.{end_run, tracked_of}
use Rattle.rules.specs.Run.{join_all}
use Rattle.rules.proofs.WellFormed.{WellFormed}
use Rattle.rules.proofs.Grows.{join_all_grows}
use Rattle.rules.proofs.Line.{join_all_opening}
use Rattle.tables.specs.declared.Counts.{Counts}
use Rattle.cache.specs.Areas.{catalogue}
use Rattle.state.specs.Changed.{Changed}
use Rattle.variable_map.proofs.Laws.{variables_kept}
use Rattle.marked.specs.Marked.{listed, Marked}
use Rattle.marked.proofs.Laws.{length_listed, listed_same, marked_same, marked_is}
use Rattle.encoder.specs.declared.Run as code
use Rattle.encoder.specs.declared.State as encoder
use Rattle.encoder.specs.Held.{run_of, opening_of, state_of}
use Rattle.encoder.specs.Did.{Widens, on_opening}
use Rattle.encoder.specs.Does.{ClausesDoes, IsGoodWith, regions_of}
use Rattle.encoder.proofs.Does.{at_catalogue}
use Rattle.goals.specs.Goals.{HandGathers, HandReleased}
use Rattle.goals.proofs.Released.{good_gathered, clauses_do_released}
use Rattle.tracking.specs.Joining.{Makes, GoodOf, part_name, of_name, NamesLow, tracked_in, named_in, MakesOf, join_names, forget_named, Forgets, CanJoin}
use Rattle.tracking.proofs.Steps.{makes_as, makes_then}
use Rattle.binary_encoding.specs.Joiners.{flagged, JoinersNoted, flagged_names}
use Rattle.binary_encoding.proofs.Track.{name_held, of_name_held}
use Rattle.binary_encoding.proofs.Joiners.{joiners_idle}
use Rattle.binary_encoding.proofs.Joins.{state_makes}
use Rattle.binary_encoding.proofs.Names.{of_named, of_beside, of_after}
use Rattle.binary_encoding.proofs.All.{all_join}

-- ---- names by the area t

module _ (k : Counts) (m u t : List ℕ) where
  pub names_low : WellFormed (catalogue k m u t) → NamesLow k t
  unfolding ceiling part_at
  names_low w =
      record {
        low = λ p. elim (dec_lt p (length (catalogue k m u t).parts)) [
          | yes h ↦ omega (arith, w.parts p h, w.ceilings.names, name_held k m u t p)
          | no h ↦
              let e : name_of (catalogue k m u t) p ≡ 0 = ap (λ (x : Part). x.name) (get_or-eq_default (catalogue k m u t).parts no_part {n = p} (omega arith)) in
              omega (arith, e, name_held k m u t p)
        ];
      }

  all_held : (ps : List ℕ) → map (part_name k t) ps ≡ map (name_of (catalogue k m u t)) ps
  all_held [] = refl
  all_held (p ∷ ps) = rw (name_held k m u t p, all_held ps)

  names_held : (flags : List Bool) (ps : List ℕ) → flagged_names k t flags ps ≡ distinct (filter (flagged flags) (map (name_of (catalogue k m u t)) ps))
  unfolding flagged_names
  names_held flags ps = ap (λ (ns : List ℕ). distinct (filter (flagged flags) ns)) (all_held ps)

-- ---- while the names are at hand

module _ {xs : List ℕ} {names : ℕ} {x x₁ : encoder.State} (w : HandGathers xs x names x₁) where
  hand_changed : Changed (14 ∷ 15 ∷ []) (regions_of x) (regions_of x₁)
  hand_changed = rw w.written.limits w.gathers.others

  pub hand_at : Marked 14 15 names (regions_of x₁)
  hand_at = rw w.written.limits w.gathers.marked

  pub hand_can : {r : code.Run} → CanJoin x r → CanJoin x₁ r
  unfolding any
  hand_can c =
      rw w.written.used (record {
        going = c.going;
        number = c.number;
        older = c.older;
        known = rw (variables_kept hand_changed x.used.variables refl, listed_same x.used.tracked 10 hand_changed refl) c.known;
      })

  module _ (k : Counts) (m u t : List ℕ) {cl : List ℕ} (g : IsGoodWith (catalogue k m u t) x cl []) where
    pub hand_good : GoodOf k t x₁ cl
    hand_good = GoodOf.good m u (good_gathered w g)

    module _ (F : Catalogue → State → State) {x₂ : encoder.State} {cl' : List ℕ} (d : MakesOf k t F x₁ cl x₂ cl') where
      pub hand_marked : Marked 14 15 names (regions_of x₂)
      hand_marked = (of_beside F hand_good d).marked names hand_at

      pub hand_named : {x₃ : encoder.State} → HandReleased x₂ x₃ → Marked 8 9 x₃.used.named (regions_of x₃)
      unfolding any
      hand_named y = rw (y.written.used, y.written.limits) (marked_same (of_named (of_after F hand_good d)) y.emptied.others refl refl)

-- ---- all of it

join_all_widens : (c : Catalogue) (r : Run) (s : State) → Widens s (join_all c r s)
unfolding end_run
join_all_widens c r s =
    let o = join_all_opening c r s in
    record { grows = join_all_grows c r s; line = rw o (omega arith); several = rw o (omega arith) }

module _ (k : Counts) (m u t : List ℕ) (r : code.Run) {x x₁ x₂ x₃ x₄ : encoder.State} {cl cl' : List ℕ} {flags : List Bool} {names : ℕ} (z : Marked 14 15 0 (regions_of x))
    (j : JoinersNoted k t x.used.named (regions_of x) x.used.named flags)
    (w : HandGathers (flagged_names k t flags (named_in x)) x names x₁) (d : MakesOf k t (join_names (run_of r) (listed names 14 (regions_of x₁))) x₁ cl x₂ cl')
    (y : HandReleased x₂ x₃) (f : Forgets x₃ x₄) where
  idle : IsGoodWith (catalogue k m u t) x cl [] → (y : ℕ) → flagged flags y ≡ false
      → filter (λ p. not (elem p (tracked_in x))) (filter (λ p. eqb (name_of (catalogue k m u t) p) y) (named_in x)) ≡ []
  unfolding of_name tracked_of
  idle g y f =
      let held : filter (λ p. eqb (part_name k t p) y) (named_in x) ≡ filter (λ p. eqb (name_of (catalogue k m u t) p) y) (named_in x)
      = of_name_held k m u t y (named_in x) in
      ap (λ (ps : List ℕ). filter (λ p. not (elem p (tracked_in x))) ps) (sym held)
      ∙ joiners_idle k t flags (tracked_in x) x.used.named (regions_of x) (length_listed g.state.named) (marked_is g.state.tracked) j y f

  -- the names that are gathered
  gathered : listed names 14 (regions_of x₁) ≡ flagged_names k t flags (named_in x)
  gathered = rw w.written.limits w.gathers.is

  both : Makes (catalogue k m u t) (λ s. on_opening forget_named (join_names (run_of r) (listed names 14 (regions_of x₁)) (catalogue k m u t) s)) x cl x₄ cl'
  both =
      makes_then (record { is = clauses_do_released w z (d.is m u).is y })
      (state_makes (on_opening forget_named) (at_catalogue f.does))

  pub joined_all : ClausesDoes (catalogue k m u t) (λ v. join_all (catalogue k m u t) (run_of r)) x cl x₄ cl'
  joined_all =
      (makes_as both (join_all_widens (catalogue k m u t) (run_of r))
      (λ g e v wt. same g (state_of (catalogue k m u t) x.limits v x.used (regions_of x) cl wt) (unfold state_of opening_of in refl) (unfold state_of opening_of in refl))).is
    where
      same : IsGoodWith (catalogue k m u t) x cl [] → (s : State) → s.opening.named ≡ named_in x → s.opening.tracked ≡ tracked_in x
          → on_opening forget_named (join_names (run_of r) (listed names 14 (regions_of x₁)) (catalogue k m u t) s) ≡ join_all (catalogue k m u t) (run_of r) s
      same g s e d =
          rw (gathered, names_held k m u t flags (named_in x), ← e)
          (all_join (catalogue k m u t) (run_of r) (flagged flags) s (λ y f. rw (d, e) (idle g y f)) (rw e g.state.named.once))
