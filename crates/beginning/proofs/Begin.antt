-- A run begins: one run more and an empty line, the added owners opened and forgotten, the drawn entries fired. The state is then the rules' `begun`.
use mathlib.Core.Path.{◌≡◌, refl, sym, ◌∙◌, ap}
use mathlib.Core.Bool.{Bool, true, false, ◌||◌, false≢true}
use mathlib.Core.List.{List, [], ◌∷◌, ◌++◌}
use Prim.Native.Nat.{ℕ, suc, ◌+◌, ◌-◌, ◌≤◌, zero-le}
use native.Mathlib.Numerals.{add-one}
use native.Mathlib.Omega.{arith}
use lib.ListN.{length, get_or}
use lib.Seq.{append_snoc, get_or-append_seam}
use borrow.Author.Tests.{le-ltb}
use Rattle.rules.specs.Lists.{fold, any, snoc, up_to}
use Rattle.rules.specs.Catalogue.{Owner, Catalogue}
use Rattle.rules.specs.Items.{ceiling}
use Rattle.rules.specs.Opening.{Opening, set_added, set_drawn, set_line, queue, open_owner, requirement, fire, begin_run}
use Rattle.rules.specs.State.{State}
use Rattle.rules.specs.Run.{begun, run_once}
use Rattle.rules.specs.Limits.{above}
use Rattle.rules.proofs.ListLaws.{length_snoc}
use Rattle.rules.proofs.Reached.{Given, Reached}
use Rattle.rules.proofs.Valid.{valid}
use Rattle.rules.proofs.Line.{begins, run_from}
use Rattle.rules.proofs.Ends.{room}
use Rattle.rules.proofs.Drawn.{places}
use Rattle.rules.proofs.Room.{point_fits}
use Rattle.rules.proofs.Grows.{whole, stays_above}
use Rattle.rules.proofs.StoppedRun.{point_grows}
use Rattle.rules.proofs.Forgotten.{unless_commutes, fold_commutes, forget, begun_forgets}
use Rattle.state.specs.declared.Limits.{Limits}
use Rattle.state.proofs.Changed.{changed_none}
use Rattle.variable_map.proofs.Laws.{variables_kept}
use Rattle.decision_tracker.proofs.Laws.{decisions_kept}
use Rattle.marked.specs.Marked.{listed, Marked, Emptied}
use Rattle.line.proofs.Line.{queued_none}
use Rattle.line.proofs.Tasks.{task_drawn}
use Rattle.entries.specs.Entries.{drawn_in}
use Rattle.encoder.specs.declared.Counters.{Counters}
use Rattle.encoder.specs.declared.State as encoder
use Rattle.encoder.specs.Held.{Reading, drawn_task, no_such, task_from, task_in, opening_of, state_of, Good}
use Rattle.encoder.specs.Did.{room_of, beyond, on_opening, Did, StateDid, is_full}
use Rattle.encoder.specs.Does.{StateDoes, PlainDoes, IsGood, IsGoodWith, regions_of}
use Rattle.state.specs.Limits.{limits_of}
use Rattle.encoder.proofs.Did.{beside_kept, did_made}
use Rattle.encoder.proofs.Frames.{good_kept, list_kept, line_kept}
use Rattle.encoder.proofs.Widening.{Lengthens, widens_opening}
use Rattle.encoder.proofs.Steps.{good_alone}
use Rattle.encoder.proofs.Does.{does_then, at_catalogue, good_then}
use Rattle.goals.specs.Goals.{AllGiven}
use Rattle.goals.proofs.Given.{all_given}
use Rattle.firing.proofs.Callers.{queued_fire}
use Rattle.beginning.proofs.Drawn.{drawn_counted}
use Rattle.beginning.specs.Beginning.{reading_of, Holds, Reaches, GoodSome, open_added, forget_added, fire_from, fire_drawn, emptied, Empties, Begins, RunBegins}

-- of three tests the first, where the others are false
pub only_first : (a b d : Bool) → (a || (b || d)) ≡ true → b ≡ false → d ≡ false → a ≡ true
only_first true b d e f h = refl
only_first false b d e f h = absurd (false≢true (rw (f, h) at e))

-- ---- one run more, nothing drawn and nothing in the line

abbrev new_run : State → State
new_run s =
    record {
      opening = set_line [] (set_drawn [] s.opening);
      variables = s.variables;
      clauses = s.clauses;
      decisions = s.decisions;
      conflicts = s.conflicts;
      runs = suc s.runs;
    }

emptied_is : (c : Catalogue) (l : Limits) (v : Reading) (n : Counters) (st : ℕ → List ℕ) (cl wt : List ℕ)
    → state_of c l v (emptied n) st cl wt ≡ new_run (state_of c l v n st cl wt)
unfolding state_of opening_of emptied drawn_in up_to
emptied_is c l v n st cl wt = rw (queued_none 0 st, add-one n.runs)

pub emptied_good : {c : Catalogue} {l : Limits} {n : Counters} {st : ℕ → List ℕ} {cl wt : List ℕ} → Good c l n st cl wt → Good c l (emptied n) st cl wt
unfolding emptied any
emptied_good {n = n} {st = st} g = good_kept (changed_none [] st) g (search zero-le) refl refl refl refl refl (omega (arith, g.entries))

-- ---- no owner is added any more

module _ (l : Limits) (n : Counters) {st st' : ℕ → List ℕ} (x : Emptied 6 7 st st') where
  abbrev none_added : Counters
  none_added =
      record {
        variables = n.variables;
        clauses = n.clauses;
        literals = n.literals;
        decisions = n.decisions;
        owners = n.owners;
        names = n.names;
        several = n.several;
        added = 0;
        named = n.named;
        tracked = n.tracked;
        waiting = n.waiting;
        drawn = n.drawn;
        first = n.first;
        tail = n.tail;
        runs = n.runs;
        full = n.full;
      }

  forget_lengthens : (o : Opening) → Lengthens o (forget_added o)
  unfolding forget_added
  forget_lengthens o = record { waiting = whole; line = omega arith; several = omega arith }

  module _ (c : Catalogue) (cl wt : List ℕ) where
    forgotten_good : Good c l n st cl wt → Good c l none_added st' cl wt
    unfolding any
    forgotten_good g = good_kept x.others g (search) refl refl refl refl refl g.entries

    forgotten_state : (v : Reading) → state_of c l v none_added st' cl wt ≡ on_opening forget_added (state_of c l v n st cl wt)
    unfolding state_of opening_of on_opening forget_added any
    forgotten_state v =
        let ch = x.others in
        let none : listed 0 6 st' ≡ [] = unfold listed in refl in
        simp (none, list_kept ch, line_kept ch, variables_kept ch, decisions_kept ch, ch.same)

    forgotten_did : Did c l (λ v. on_opening forget_added) n st cl wt none_added st' cl wt
    forgotten_did =
        did_made (λ v. widens_opening forget_added forget_lengthens) refl (λ g. unfold any in beside_kept x.others refl refl refl) refl refl (λ j. refl)
        forgotten_good (λ g. forgotten_state)

  pub forgotten : (c : Catalogue) → StateDid c l (λ v. on_opening forget_added) n st none_added st'
  forgotten c = record { is = λ cl wt. forgotten_did c cl wt }

-- ---- the rules' beginning of a run

open_owner_forgets : (w : Owner) (o : Opening) → open_owner w (forget_added o) ≡ forget_added (open_owner w o)
unfolding open_owner queue forget_added
open_owner_forgets w o = unless_commutes (λ u. set_added [] u) _ _ (λ u. refl) o

-- an opened owner may be forgotten before or after
opened_forgets : (o : Opening) → forget_added (open_added o) ≡ fold open_owner o.added (forget_added o)
unfolding open_added
opened_forgets o = sym (fold_commutes forget_added open_owner open_owner_forgets o.added o)

module _ (c : Catalogue) (v : Reading) where
  drawn_task_law : (e : ℕ) → task_in c v (3649 + e) ≡ drawn_task (get_or v.drawn e no_such)
  unfolding task_in task_from
  drawn_task_law e =
      let same : 3649 + e - 3649 ≡ e = omega arith in
      rw (← task_drawn (3649 + e) (omega arith), same)

  -- xs: the drawn entries before ys
  from_fires : (xs ys : List (ℕ × ℕ)) → v.drawn ≡ xs ++ ys → (o : Opening)
      → fire_from c v (length xs) ys o ≡ fold (λ (e : ℕ × ℕ). fire c e.0 (e.1 ∷ [])) ys o
  unfolding fire_from fold
  from_fires xs [] h o = refl
  from_fires xs (y ∷ ys) h o =
      let task : task_in c v (3649 + length xs) ≡ requirement y.0 (y.1 ∷ []) =
      drawn_task_law (length xs) ∙ (unfold drawn_task in rw (h, get_or-append_seam xs y ys no_such)) in
      let more : length (xs ++ (y ∷ [])) ≡ suc (length xs) = unfold snoc in length_snoc xs y in
      rw (task, queued_fire c y.0 y.1 [] o)
      (rw more at (from_fires (xs ++ (y ∷ [])) ys (h ∙ sym (append_snoc xs y ys)) (fire c y.0 (y.1 ∷ []) o)))

  drawn_fires : (ds : List (ℕ × ℕ)) → ds ≡ v.drawn → (o : Opening) → fire_drawn c v ds o ≡ fold (λ (e : ℕ × ℕ). fire c e.0 (e.1 ∷ [])) ds o
  unfolding fire_drawn
  drawn_fires ds e o = from_fires [] ds (sym e) o

  abbrev beginning : List (ℕ × ℕ) → State → State
  beginning ds s = on_opening (fire_drawn c v ds) (on_opening forget_added (on_opening open_added s))

  beginning_is : (ds : List (ℕ × ℕ)) (s : State) → ds ≡ v.drawn → ds ≡ s.opening.drawn → s.opening.line ≡ [] → beginning ds (new_run s) ≡ begun c s
  unfolding on_opening begun begin_run
  beginning_is ds s d e z =
      let o = s.opening in
      let u : Opening = set_drawn [] o in
      let empty : set_line [] u ≡ u = ap (λ x. set_line x u) (sym z) in
      let same : fire_drawn c v ds (forget_added (open_added (set_line [] u))) ≡ begin_run c o =
      ap (λ w. fire_drawn c v ds (forget_added (open_added w))) empty
      ∙ (ap (fire_drawn c v ds) (opened_forgets u)
      ∙ (drawn_fires ds d _ ∙ (unfold forget_added in rw e))) in
      rw same

-- ---- what a reached state brings

module _ {c : Catalogue} {l : Limits} {s : State} {n : Counters} {st : ℕ → List ℕ} {cl wt : List ℕ} (h : Holds c l s n st cl wt) where
  -- the drawn entries, and how many
  pub held_drawn : drawn_in l n.drawn wt ≡ s.opening.drawn
  unfolding state_of opening_of
  held_drawn = ap (λ (u : State). u.opening.drawn) (h.is (reading_of s))

  pub held_count : n.drawn ≡ length s.opening.drawn
  held_count = sym (drawn_counted l n.drawn wt) ∙ ap length held_drawn

pub drawn_given : {c : Catalogue} {l : Limits} {n : Counters} {st : ℕ → List ℕ} {cl wt : List ℕ} → Reaches c l n st cl wt → AllGiven c (drawn_in l n.drawn wt)
drawn_given h = rw (held_drawn h.holds) (all_given (valid h.given h.reached).opening.drawn)

pub drawn_few : {c : Catalogue} {l : Limits} {n : Counters} {st : ℕ → List ℕ} {cl wt : List ℕ} → Reaches c l n st cl wt → n.drawn ≤ l.waiting
drawn_few h = omega (arith, h.holds.good.entries)

-- ---- what holds between the steps

module _ {c : Catalogue} {x x₀ : encoder.State} {cl wt : List ℕ} (g : IsGoodWith c x cl wt) (e : Empties x x₀) where
  some_emptied : IsGood c x₀
  some_emptied = rw (e.limits, e.used, e.same) (good_alone (emptied_good g))

  pub good_emptied : GoodSome x₀
  good_emptied = record { catalogue = c; good = some_emptied }

  module _ {a : encoder.State} (d : PlainDoes (λ c v. on_opening open_added) x₀ a) where
    good_added : IsGood c a
    good_added = good_then (at_catalogue d) some_emptied

    pub added_after : Marked 6 7 a.used.added (regions_of a)
    added_after = good_added.good.state.added

    module _ {b : encoder.State} (f : PlainDoes (λ c v. on_opening forget_added) a b) where
      pub good_begun : IsGood c b
      good_begun = good_then (at_catalogue f) good_added

      pub begun_limits : b.limits ≡ x.limits
      begun_limits = f.limits ∙ (d.limits ∙ e.limits)

-- ---- the steps together

module _ {c : Catalogue} {l : Limits} {n m : Counters} {st st' : ℕ → List ℕ} {cl wt : List ℕ}
    (whole_did : Did c l (λ v. beginning c v (drawn_in l n.drawn wt)) (emptied n) st cl wt m st' cl wt) where
  module _ {s : State} (g : Given c) (reached : Reached (limits_of l) c s) (h : Holds c l s n st cl wt) where
    begun_is : beginning c (reading_of s) (drawn_in l n.drawn wt) (state_of c l (reading_of s) (emptied n) st cl wt) ≡ forget (begun c s)
    begun_is =
        ap (beginning c (reading_of s) (drawn_in l n.drawn wt)) (emptied_is c l (reading_of s) n st cl wt ∙ ap new_run (h.is (reading_of s)))
        ∙ (beginning_is c (reading_of s) (drawn_in l n.drawn wt) (forget s) (held_drawn h) (held_drawn h) (valid g reached).line_empty ∙ begun_forgets c s)

    going : is_full (emptied n) ≡ false
    unfolding emptied
    going = h.room

    begun_now : is_full m ≡ false → state_of c l (reading_of s) m st' cl wt ≡ forget (begun c s)
    begun_now f = whole_did.done (emptied_good h.good) going f (reading_of s) ∙ begun_is

    begun_over : is_full m ≡ true → (level : ℕ) → above (limits_of l) (run_once c level s) ≡ true
    unfolding beyond room_of emptied above limits_of ceiling
    begun_over f level =
        let u = begun c s in
        let r = run_from level s in
        let b : beyond l (room_of l (emptied n)) (forget u) ≡ true = rw begun_is at (whole_did.over (emptied_good h.good) going f (reading_of s)) in
        let few : length u.opening.line ≤ 3649 + l.waiting - 0 = omega (arith, room g reached r begins, places g reached) in
        stays_above (limits_of l) (point_grows g reached level begins)
        (only_first (above (limits_of l) u) _ _ b (le-ltb (3649 + l.waiting - 0) (length u.opening.line) few)
        (le-ltb 64 (length u.opening.several) (point_fits g reached r begins).several))

  begins_all : Good c l n st cl wt → Marked 14 15 0 st → Begins c l n st cl wt m st'
  unfolding emptied
  begins_all g h =
      record {
        good = whole_did.good (emptied_good g);
        hand = (whole_did.beside (emptied_good g)).marked 0 h;
        first = whole_did.first;
        none = whole_did.fewer;
        done = λ s d i k f. begun_now d i k f;
        over = λ s d i k f. begun_over d i k f;
      }

pub run_begins : {c : Catalogue} {l : Limits} {x x₀ a b x' : encoder.State} {cl wt : List ℕ} → IsGoodWith c x cl wt → Marked 14 15 0 (regions_of x) → Empties x x₀
    → PlainDoes (λ c v. on_opening open_added) x₀ a → PlainDoes (λ c v. on_opening forget_added) a b
    → l ≡ x.limits → StateDoes c (λ v. on_opening (fire_drawn c v (drawn_in l x.used.drawn wt))) b x' → RunBegins c x cl wt x'
run_begins {cl = cl} {wt = wt} g h e d f same z =
    let steps = does_then (does_then (at_catalogue d) (at_catalogue f)) (rw same at z) in
    record {
      limits = steps.limits ∙ e.limits;
      area = steps.area ∙ e.area;
      did = begins_all (rw (e.limits, e.used, e.same) at (steps.did.is cl wt)) g h;
    }
