-- A part is tracked; the parts named for tracking are forgotten; their names become the list at hand.
use mathlib.Core.Path.{◌≡◌, refl, sym, ◌∙◌, ap}
use mathlib.Core.Logic.{⊎_elim}
use mathlib.Core.Bool.{Bool, true, false}
use mathlib.Core.List.{List, [], ◌∷◌, ◌++◌, map}
use Prim.Native.Nat.{ℕ, ◌+◌, ◌<◌, ◌≤◌}
use native.Mathlib.Numerals.{add-one}
use native.Mathlib.Omega.{arith}
use lib.Dec.{eqb}
use lib.ListN.{length, get_or, drop, set, drop_of_length-le}
use lib.Seq.{drop-cons, get_or-set_same, get_or-set_other}
use borrow.Author.Tests.{eqb-true, eqb-false}
use Rattle.rules.specs.Lists.{filter, any, all, elem, snoc, fold, distinct}
use Rattle.rules.specs.Catalogue.{no_part, Catalogue, name_of}
use Rattle.rules.specs.Opening.{Opening, tracked_of}
use Rattle.rules.proofs.Bools.{by_cases}
use Rattle.rules.proofs.ListLaws.{length_snoc}
use Rattle.rules.proofs.TrackedOf.{own_name, other_name}
use Rattle.rules.proofs.Grows.{whole}
use Rattle.tables.specs.declared.Counts.{Counts}
use Rattle.tables.specs.Tables.{tables}
use Rattle.cache.specs.Areas.{catalogue}
use Rattle.cache.proofs.Laws.{part_name_held}
use Rattle.regions.specs.Regions.{stored}
use Rattle.state.specs.declared.Limits.{Limits}
use Rattle.state.specs.Layout.{held, Fits}
use Rattle.state.specs.Changed.{Changed}
use Rattle.state.proofs.Changed.{stored_here, changed_none, changed_stored, changed_then, changed_within}
use Rattle.state.proofs.Sizes.{length_fixed}
use Rattle.variable_map.proofs.Laws.{variables_kept}
use Rattle.decision_tracker.proofs.Laws.{decisions_kept}
use Rattle.marked.specs.Marked.{listed, Marked, Free, Pushed, Emptied}
use Rattle.marked.proofs.Laws.{length_listed, mark_room, listed_same, marked_same}
use Rattle.encoder.specs.declared.Counters.{Counters}
use Rattle.encoder.specs.declared.State.{State}
use Rattle.encoder.specs.Held.{Reading, opening_of, state_of, Good}
use Rattle.encoder.specs.Did.{on_opening, Did, StateDid}
use Rattle.encoder.specs.Does.{regions_of}
use Rattle.encoder.proofs.Counted as counted
use Rattle.encoder.proofs.Frames.{good_kept, list_kept, line_kept}
use Rattle.encoder.proofs.Did.{did_made, beside_kept}
use Rattle.encoder.proofs.Widening.{Lengthens, widens_opening}
use Rattle.goals.specs.Goals.{noted, Notes, Gathers, Written, HandNotes, HandGathers}
use Rattle.goals.proofs.Hand.{written_same, written_then}
use Rattle.tracking.specs.Joining.{part_name, of_name, NamesLow, named_in, tracking, forget_named}
use Rattle.binary_encoding.specs.Joiners.{flagged, NotesIf, flagged_names}

-- ---- names by the area t

pub name_held : (k : Counts) (m u t : List ℕ) (p : ℕ) → name_of (catalogue k m u t) p ≡ part_name k t p
unfolding part_name
name_held k m u t p = part_name_held k m u t p

pub of_name_held : (k : Counts) (m u t : List ℕ) (name : ℕ) (ps : List ℕ) → of_name k t name ps ≡ tracked_of (catalogue k m u t) name ps
unfolding of_name tracked_of filter
of_name_held k m u t name [] = refl
of_name_held k m u t name (p ∷ ps) =
    by_cases (eqb (part_name k t p) name) (λ e. rw (name_held k m u t p, e, filter) (ap (λ (qs : List ℕ). p ∷ qs) (of_name_held k m u t name ps)))
    (λ e. rw (name_held k m u t p, e, filter) (of_name_held k m u t name ps))

-- ---- a part is tracked

abbrev with_tracked : ℕ → Counters → Counters
with_tracked x n =
    record {
      variables = n.variables;
      clauses = n.clauses;
      literals = n.literals;
      decisions = n.decisions;
      owners = n.owners;
      names = n.names;
      several = n.several;
      added = n.added;
      named = n.named;
      tracked = x;
      waiting = n.waiting;
      drawn = n.drawn;
      first = n.first;
      tail = n.tail;
      runs = n.runs;
      full = n.full;
    }

pub track_free : (l : Limits) (n : Counters) (b : List ℕ) (p : ℕ) → Fits l (length b) → Marked 10 11 n.tracked (held l b) → p < 1024
    → elem p (listed n.tracked 10 (held l b)) ≡ false → Free 10 11 n.tracked p (held l b)
track_free l n b p f w h e = record { marked = w; low = mark_room l b 11 p (omega arith) h f; new = e }

pub tracking_lengthens : (p : ℕ) (o : Opening) → Lengthens o (tracking p o)
unfolding tracking
tracking_lengthens p o = record { waiting = whole; line = omega arith; several = omega arith }

module _ (k : Counts) (t : List ℕ) (l : Limits) (n : Counters) (b : List ℕ) {name p i count : ℕ} {st' st'' : ℕ → List ℕ} (f : Fits l (length b)) (q : part_name k t p ≡ name)
    (e : i ≡ length (of_name k t name (listed n.tracked 10 (held l b)))) (x : Pushed 10 11 n.tracked p (held l b) count st') (d : st'' ≡ stored st' 12 name (i + 1)) where
  ch : Changed (10 ∷ 11 ∷ 12 ∷ []) (held l b) st''
  ch = changed_then (changed_within {js = 10 ∷ 11 ∷ []} (10 ∷ 11 ∷ 12 ∷ []) (unfold all any in refl) x.others) (changed_stored 12 name (i + 1) d (unfold any in refl))

  last : Changed (12 ∷ []) st' st''
  last = changed_stored 12 name (i + 1) d (unfold any in refl)

  list : listed count 10 st'' ≡ snoc (listed n.tracked 10 (held l b)) p
  list = listed_same count 10 last (unfold any in refl) ∙ x.list

  marked : Marked 10 11 count st''
  marked = marked_same x.marked last (unfold any in refl) (unfold any in refl)

  counts : st'' 12 ≡ set (held l b 12) name (i + 1)
  counts = ap (λ (g : ℕ → List ℕ). g 12) d ∙ (stored_here st' 12 name (i + 1) ∙ ap (λ (w : List ℕ). set w name (i + 1)) (x.others.same 12 (unfold any in refl)))

  module _ (m u : List ℕ) where
    counted_now : ((j : ℕ) → j < 64 → get_or (held l b 12) j 0 ≡ length (tracked_of (catalogue k m u t) j (listed n.tracked 10 (held l b))))
        → (j : ℕ) → j < 64 → get_or (st'' 12) j 0 ≡ length (tracked_of (catalogue k m u t) j (listed count 10 st''))
    unfolding snoc
    counted_now g j h = rw (counts, list) (by_cases (eqb j name) here there)
      where
        here : eqb j name ≡ true → get_or (set (held l b 12) name (i + 1)) j 0 ≡ length (tracked_of (catalogue k m u t) j (listed n.tracked 10 (held l b) ++ (p ∷ [])))
        here z =
            let is : j ≡ name_of (catalogue k m u t) p = eqb-true j name z ∙ (sym q ∙ sym (name_held k m u t p)) in
            let c = catalogue k m u t in
            let ps = listed n.tracked 10 (held l b) in
            let now : i ≡ length (tracked_of c j ps) = rw (eqb-true j name z) (e ∙ ap length (of_name_held k m u t name ps)) in
            let room : j < length (held l b 12) = rw (length_fixed l b 12 (omega arith) f) h in
            let more : tracked_of c j (ps ++ (p ∷ [])) ≡ tracked_of c j ps ++ (p ∷ []) = rw is (own_name c ps p) in
            rw (← eqb-true j name z, more)
            (get_or-set_same (held l b 12) j (i + 1) 0 room ∙ (ap (λ (y : ℕ). y + 1) now ∙ (add-one _ ∙ sym (unfold snoc in length_snoc (tracked_of c j ps) p))))

        there : eqb j name ≡ false → get_or (set (held l b 12) name (i + 1)) j 0 ≡ length (tracked_of (catalogue k m u t) j (listed n.tracked 10 (held l b) ++ (p ∷ [])))
        there z =
            let apart = eqb-false j name z in
            get_or-set_other (held l b 12) name j (i + 1) 0 apart
            ∙ (g j h ∙ ⊎_elim (λ y. absurd (apart (sym y ∙ (name_held k m u t p ∙ q)))) (λ y. ap length (sym y)) (other_name (catalogue k m u t) j (listed n.tracked 10 (held l b)) p))

    module _ (cl wt : List ℕ) where
      tracked_good : Good (catalogue k m u t) l n (held l b) cl wt → Good (catalogue k m u t) l (with_tracked count n) st'' cl wt
      unfolding any
      tracked_good g =
          let now = counted_now g.state.counted in
          good_kept ch g (search (marked)) refl refl refl refl refl g.entries

      tracked_state : (v : Reading) → state_of (catalogue k m u t) l v (with_tracked count n) st'' cl wt ≡ on_opening (tracking p) (state_of (catalogue k m u t) l v n (held l b) cl wt)
      unfolding state_of opening_of on_opening tracking any
      tracked_state v = simp (list, list_kept ch, line_kept ch, variables_kept ch, decisions_kept ch, ch.same)

      tracked_did : Did (catalogue k m u t) l (λ v. on_opening (tracking p)) n (held l b) cl wt (with_tracked count n) st'' cl wt
      tracked_did =
          did_made (λ v. widens_opening (tracking p) (tracking_lengthens p)) refl (λ g. unfold any in beside_kept ch refl refl refl) refl refl (λ j. refl) tracked_good (λ g. tracked_state)

  pub tracked_pushed : (m u : List ℕ) → StateDid (catalogue k m u t) l (λ v. on_opening (tracking p)) n (held l b) (with_tracked count n) st''
  tracked_pushed m u = record { is = λ cl wt. tracked_did m u cl wt }

-- ---- no part is named any more

pub forget_lengthens : (o : Opening) → Lengthens o (forget_named o)
unfolding forget_named
forget_lengthens o = record { waiting = whole; line = omega arith; several = omega arith }

module _ (l : Limits) (n : Counters) {st st' : ℕ → List ℕ} (x : Emptied 8 9 st st') where
  module _ (c : Catalogue) (cl wt : List ℕ) where
    forgotten_good : Good c l n st cl wt → Good c l (counted.with_named 0 n) st' cl wt
    unfolding any
    forgotten_good g = good_kept x.others g (search) refl refl refl refl refl g.entries

    forgotten_state : (v : Reading) → state_of c l v (counted.with_named 0 n) st' cl wt ≡ on_opening forget_named (state_of c l v n st cl wt)
    unfolding state_of opening_of on_opening forget_named any
    forgotten_state v =
        let ch = x.others in
        let none : listed 0 8 st' ≡ [] = unfold listed in refl in
        simp (none, list_kept ch, line_kept ch, variables_kept ch, decisions_kept ch, ch.same)

    forgotten_did : Did c l (λ v. on_opening forget_named) n st cl wt (counted.with_named 0 n) st' cl wt
    forgotten_did =
        did_made (λ v. widens_opening forget_named forget_lengthens) refl (λ g. unfold any in beside_kept x.others refl refl refl) refl refl (λ j. refl) forgotten_good (λ g. forgotten_state)

  pub forgotten : (c : Catalogue) → StateDid c l (λ v. on_opening forget_named) n st (counted.with_named 0 n) st'
  forgotten c = record { is = λ cl wt. forgotten_did c cl wt }

-- ---- the flagged names of the named parts

-- the loop at part i: what is left of the list's making is the whole of it
pub record Gathering (k : Counts) (t : List ℕ) (flags : List Bool) (x₀ x : State) (m i : ℕ) : Type 0 where
  pub written : Written x₀ x
  pub marked : Marked 14 15 m (regions_of x)
  pub named : Marked 8 9 x.used.named (regions_of x)
  pub others : Changed (14 ∷ 15 ∷ []) (regions_of x₀) (regions_of x)
  pub is : fold noted (filter (flagged flags) (map (part_name k t) (drop i (named_in x)))) (listed m 14 (regions_of x)) ≡ flagged_names k t flags (named_in x₀)

pub gather_start : (k : Counts) (t : List ℕ) (flags : List Bool) (x : State) → Marked 8 9 x.used.named (regions_of x) → Marked 14 15 0 (regions_of x) → Gathering k t flags x x 0 0
unfolding flagged_names distinct noted listed
gather_start k t flags x w d = record { written = written_same; marked = d; named = w; others = changed_none (14 ∷ 15 ∷ []) (regions_of x); is = refl }

module _ {k : Counts} {t : List ℕ} {flags : List Bool} {x₀ x : State} {m i : ℕ} (y : Gathering k t flags x₀ x m i) where
  module _ {p a : ℕ} (h : i < x₀.used.named) (e : p ≡ get_or (listed x₀.used.named 8 (regions_of x)) i 0) (d : a ≡ (get_or (tables k t).parts p no_part).name) where
    here : p ≡ get_or (named_in x) i 0
    here = rw y.written.used e

    left : map (part_name k t) (drop i (named_in x)) ≡ a ∷ map (part_name k t) (drop (i + 1) (named_in x))
    left =
        let ps = named_in x in
        let inside : i < x.used.named = rw y.written.used h in
        let name : a ≡ part_name k t (get_or ps i 0) = unfold part_name in rw (← here) d in
        rw (drop-cons ps i 0 (omega (arith, length_listed y.named, inside)), add-one i, name)

    step_noted : {x' : State} {m' : ℕ} → flagged flags a ≡ true → HandNotes a m x m' x' → Gathering k t flags x₀ x' m' (i + 1)
    unfolding fold filter
    step_noted {x'} {m'} f z =
        let notes : Notes a m (regions_of x) m' (regions_of x') = rw z.written.limits z.notes in
        let kept : named_in x' ≡ named_in x = rw z.written.used (listed_same x.used.named 8 notes.others (unfold any in refl)) in
        record {
          written = written_then y.written z.written;
          marked = notes.marked;
          named = rw z.written.used (marked_same y.named notes.others (unfold any in refl) (unfold any in refl));
          others = changed_then y.others notes.others;
          is = rw (kept, notes.is) (rw (left, filter, f) at y.is);
        }

    step_passed : {x' : State} {m' : ℕ} → flagged flags a ≡ false → m' ≡ m → x' ≡ x → Gathering k t flags x₀ x' m' (i + 1)
    unfolding fold filter
    step_passed f c z =
        rw (c, z) (record { written = y.written; marked = y.marked; named = y.named; others = y.others; is = rw (left, filter, f) at y.is })

    pub gather_step : {x' : State} {m' : ℕ} → NotesIf (flagged flags a) a m x m' x' → Gathering k t flags x₀ x' m' (i + 1)
    gather_step z = by_cases (flagged flags a) (λ f. step_noted f (z.noted f)) (λ f. step_passed f (z.same f) (z.kept f))

  pub gather_end : x₀.used.named ≤ i → HandGathers (flagged_names k t flags (named_in x₀)) x₀ m x
  unfolding fold filter
  gather_end h =
      let none : drop i (named_in x) ≡ [] = drop_of_length-le (named_in x) {i = i} (rw (length_listed y.named, y.written.used) h) in
      let z : Gathers (flagged_names k t flags (named_in x₀)) (regions_of x₀) m (regions_of x) = record { marked = y.marked; is = rw none at y.is; others = y.others } in
      record { written = y.written; gathers = rw y.written.limits at z }

pub gather_low : (k : Counts) (t : List ℕ) (p a : ℕ) → NamesLow k t → a ≡ (get_or (tables k t).parts p no_part).name → a < 64
gather_low k t p a w e = let low = w.low p in let q : a ≡ part_name k t p = unfold part_name in e in omega arith
