-- Candidates that are settled: to name one of each name gives a state alike to that in which all are named; and they stay settled where no variable,
-- no opened owner, no name that was served with several allowed and no part that was named for tracking or is tracked is lost.
use mathlib.Core.Path.{◌≡◌, refl, sym, ◌∙◌, ap}
use mathlib.Core.Logic.{⊎_elim}
use mathlib.Core.Bool.{Bool, true, false, not, ◌||◌, false≢true}
use mathlib.Core.List.Memᴰ
use mathlib.Core.List.{List, [], ◌∷◌, ◌++◌}
use Prim.Native.Nat.{ℕ, zero, suc}
use lib.Dec.{eqb}
use lib.ListN.{replicate}
use lib.Seq.{get_or-set_other}
use borrow.Author.Tests.{eqb-true, eqb-false}
use Rattle.rules.specs.Lists.{filter, any, elem, snoc, fold, unless}
use Rattle.rules.specs.Catalogue.{Catalogue, part_at, name_of, range_name}
use Rattle.rules.specs.Candidates.{parts_of, matching, favoured_first, sorted}
use Rattle.rules.specs.Variables.{part_origin}
use Rattle.rules.specs.Opening.{Opening, set_named, name_for_tracking, open_ready}
use Rattle.rules.specs.State.{State}
use Rattle.rules.specs.Called.{◌∈◌}
use Rattle.rules.proofs.Bools.{by_cases, or_right}
use Rattle.rules.proofs.Membership.{in_left, in_right, in_either, filter_out, filter_either, any_in, any_out, unless_either}
use Rattle.rules.proofs.Grows.{Prefix, whole, ending, either}
use Rattle.rules.proofs.Places.{keeps_variable}
use Rattle.rules.proofs.Known.{known_again}
use Rattle.rules.proofs.Capped.{add_variable}
use Rattle.rules.proofs.DistinctEnough.{passed_over, tracking_once, ready_once}
use Rattle.state.specs.declared.Limits.{Limits}
use Rattle.encoder.specs.declared.Counters.{Counters}
use Rattle.encoder.specs.Held.{Reading, opening_of, state_of}
use Rattle.encoder.specs.Did.{on_opening}
use Rattle.parts.specs.declared.Naming.{Naming}
use Rattle.parts.specs.declared.Naming.TheVariants.{Variable, Tracked, Candidate}
use Rattle.parts.specs.Parts.{naming_of}
use Rattle.naming.specs.Naming.{name_first, is_seen, first_unless, seen_by, seen_after, name_firsts, name_candidates}
use Rattle.naming.specs.Settled.{Noted, Settled, AllSettled}
use Rattle.naming.specs.Alike.{untracked, Alike, AlikeIn}
use Rattle.naming.proofs.Alike.{alike_same, alike_then, tracking_is, added, names_added, there, untracked_added, tracking_alike, ready_alike, in_same, in_then, in_opening, in_fold, in_step, variable_alone}

-- ---- what is not lost

-- owners stay opened, names served with several allowed, and parts named for tracking or tracked
pub record Stands (o o' : Opening) : Type 0 where
  pub owners : Prefix o.owners o'.owners
  pub several : Prefix o.several o'.several
  pub named : Prefix o.named o'.named
  pub tracked : Prefix o.tracked o'.tracked

pub stands_same : {o : Opening} → Stands o o
stands_same = record { owners = whole; several = whole; named = whole; tracked = whole }

pub tracking_stands : (c : Catalogue) (p : ℕ) (o : Opening) → Stands o (name_for_tracking c p o)
unfolding name_for_tracking snoc
tracking_stands c p o =
    unless_either (Stands o) _ _ o (λ _. stands_same) (λ _. record { owners = whole; several = whole; named = ending o.named _; tracked = whole })

pub any_stands : {A : Type 0} (f : A → Bool) {xs ys : List A} → Prefix xs ys → any f xs ≡ true → any f ys ≡ true
any_stands f {xs} p e =
    let x = any_out f xs e in
    rw p.is (any_in f (xs ++ p.more) (in_left p.more x.1) x.2)

pub settled_stands : {c : Catalogue} {s s' : State} {p : ℕ} → Prefix s.variables s'.variables → Stands s.opening s'.opening → Settled c s p → Settled c s' p
settled_stands {p = p} v o h =
    record {
      known = (keeps_variable v (part_origin p) h.known).0;
      noted = either _ _ _ _ (any_stands _ o.tracked) (either _ _ _ _ (any_stands _ o.several) (any_stands _ o.named)) h.noted;
      opened = λ e. any_stands _ o.owners (h.opened e);
    }

-- ---- naming them again

module _ (c : Catalogue) where
  -- where the opening is the same but for what is named
  tracking_owners : (p : ℕ) (o : Opening) → (name_for_tracking c p o).owners ≡ o.owners
  tracking_owners p o = ap (λ (u : Opening). u.owners) (tracking_is c p o)

  tracking_tracked : (p : ℕ) (o : Opening) → (name_for_tracking c p o).tracked ≡ o.tracked
  tracking_tracked p o = ap (λ (u : Opening). u.tracked) (tracking_is c p o)

  noted_kept : (p q : ℕ) (o : Opening) → Noted c p o → Noted c p (name_for_tracking c q o)
  noted_kept p q o h =
      rw (tracking_tracked q o)
      (either (elem p o.tracked) (elem p o.tracked) (passed_over c p o) (passed_over c p (name_for_tracking c q o)) (λ e. e) ((tracking_once c).keeps p q o) h)

  -- two noted parts of one name do the same for it
  module _ (p q : ℕ) (o : Opening) (same : name_of c p ≡ name_of c q) where
    nothing_joins : (x : ℕ) → (elem x o.tracked || elem x o.named) ≡ true → untracked o.tracked (added c x false o.named) ≡ untracked o.tracked o.named
    nothing_joins x h =
        untracked_added c x o.tracked o.named
        ∙ by_cases (elem x o.tracked) (λ e. rw e) (λ e. rw (e, there c x o.tracked o.named e (rw e at h)))

    pub either_named : Noted c p o → Noted c q o → Alike c (name_for_tracking c p o) (name_for_tracking c q o)
    either_named h k = rw (tracking_is c p o, tracking_is c q o, same) (go (elem (name_of c q) o.several) (rw same at h) k)
      where
        go : (b : Bool) → (elem p o.tracked || (b || elem p o.named)) ≡ true → (elem q o.tracked || (b || elem q o.named)) ≡ true
            → Alike c (set_named (added c p b o.named) o) (set_named (added c q b o.named) o)
        go true x y = unfold unless in alike_same
        go false x y =
            record { rest = refl; names = rw (names_added c q o.named, names_added c p o.named, same); joining = rw (nothing_joins q y, nothing_joins p x) }

  -- all of them do what one does
  one_named : (q p : ℕ) (ps : List ℕ) (o : Opening) → ((x : ℕ) → x ∈ (p ∷ ps) → Noted c x o × (name_of c x ≡ name_of c q)) → Noted c q o
      → Alike c (fold (name_for_tracking c) (p ∷ ps) o) (name_for_tracking c q o)
  unfolding fold
  one_named q p [] o h k = let x = h p (Memᴰ.head refl) in either_named p q o x.1 x.0 k
  one_named q p (x ∷ ps) o h k =
      let y = h p (Memᴰ.head refl) in
      let u = name_for_tracking c p o in
      let again : name_for_tracking c p u ≡ u = (tracking_once c).again p u ((tracking_once c).does p o) in
      let later = one_named p x ps u (λ z m. let w = h z (Memᴰ.tail m) in (noted_kept z p o w.0, w.1 ∙ sym y.1)) (noted_kept p p o y.0) in
      alike_then (rw again at later) (either_named p q o y.1 y.0 k)

  -- the candidates of a range are of its name, and are its matching parts
  of_range : (r : ℕ) {p : ℕ} → p ∈ matching c r → name_of c p ≡ range_name c r
  unfolding matching parts_of
  of_range r m = eqb-true _ _ (filter_out _ _ (filter_out _ _ m).0).1

  sorted_out : (r : ℕ) {p : ℕ} → p ∈ sorted c r → p ∈ matching c r
  unfolding sorted favoured_first
  sorted_out r {p} m =
      let f : ℕ → Bool = λ x. (part_at c x).favoured in
      let g : ℕ → Bool = λ x. not (part_at c x).favoured in
      ⊎_elim (λ (n : p ∈ filter f (matching c r)). (filter_out f (matching c r) n).0) (λ (n : p ∈ filter g (matching c r)). (filter_out g (matching c r) n).0)
      (in_either (filter f (matching c r)) {ys = filter g (matching c r)} m)

  sorted_in : (r : ℕ) {p : ℕ} → p ∈ matching c r → p ∈ sorted c r
  unfolding sorted favoured_first
  sorted_in r m =
      ⊎_elim (λ n. in_left (filter (λ x. not (part_at c x).favoured) (matching c r)) n) (λ n. in_right (filter (λ x. (part_at c x).favoured) (matching c r)) n)
      (filter_either (λ x. (part_at c x).favoured) (matching c r) m)

  some_named : (n : ℕ) (o : Opening) (ss ms : List ℕ) → ((p : ℕ) → p ∈ ss → Noted c p o × (name_of c p ≡ n)) → ((p : ℕ) → p ∈ ss → p ∈ ms) → ((p : ℕ) → p ∈ ms → p ∈ ss)
      → Alike c (fold (name_for_tracking c) ss o) (name_first c ms o)
  unfolding name_first
  some_named n o [] [] h f g = unfold fold in alike_same
  some_named n o [] (q ∷ qs) h f g = absurd (Memᴰ.not-nil (g q (Memᴰ.head refl)))
  some_named n o (p ∷ ps) [] h f g = absurd (Memᴰ.not-nil (f p (Memᴰ.head refl)))
  some_named n o (p ∷ ps) (q ∷ qs) h f g =
      let x = h q (g q (Memᴰ.head refl)) in
      one_named q p ps o (λ z m. let w = h z m in (w.0, w.1 ∙ sym x.1)) x.0

  range_named : (r : ℕ) (o : Opening) → ((p : ℕ) → p ∈ sorted c r → Noted c p o) → Alike c (fold (name_for_tracking c) (sorted c r) o) (name_first c (matching c r) o)
  range_named r o h =
      some_named (range_name c r) o (sorted c r) (matching c r) (λ p m. (h p m, of_range r (sorted_out r m))) (λ p m. sorted_out r m) (λ p m. sorted_in r m)

  -- ---- with variables and opening

  first_stands : (ps : List ℕ) (o : Opening) → Stands o (name_first c ps o)
  unfolding name_first
  first_stands [] o = stands_same
  first_stands (p ∷ ps) o = tracking_stands c p o

  unless_stands : (seen : List Bool) (r : ℕ) (o : Opening) → Stands o (first_unless c seen r o)
  unfolding first_unless
  unless_stands seen r o = unless_either (Stands o) _ _ o (λ _. stands_same) (λ _. first_stands (matching c r) o)

  naming_settled : (p : ℕ) (s : State) → Settled c s p → naming_of c Candidate p s ≡ on_opening (name_for_tracking c p) s
  unfolding naming_of on_opening add_variable
  naming_settled p s h =
      rw (known_again (part_origin p) s.variables h.known, (ready_once c).again p (name_for_tracking c p s.opening) (λ e. rw (tracking_owners p s.opening) (h.opened e)))

  each_settled : (ps : List ℕ) (s : State) → ((p : ℕ) → p ∈ ps → Settled c s p) → fold (naming_of c Candidate) ps s ≡ on_opening (fold (name_for_tracking c) ps) s
  unfolding fold
  each_settled [] s h = unfold on_opening in refl
  each_settled (p ∷ ps) s h =
      rw (naming_settled p s (h p (Memᴰ.head refl)))
      (each_settled ps (on_opening (name_for_tracking c p) s) (λ q m. stays q (h q (Memᴰ.tail m))) ∙ (unfold on_opening in refl))
    where
      stays : (q : ℕ) → Settled c s q → Settled c (on_opening (name_for_tracking c p) s) q
      stays q x = unfold on_opening in settled_stands whole (tracking_stands c p s.opening) x

  tracked_alike : (p : ℕ) {s s' : State} → AlikeIn c s s'
      → AlikeIn c (on_opening (name_for_tracking c p) (add_variable (part_origin p) s)) (on_opening (name_for_tracking c p) (add_variable (part_origin p) s'))
  tracked_alike p a = in_opening (name_for_tracking c p) (λ o o'. tracking_alike c p) (in_step (add_variable (part_origin p)) (variable_alone (part_origin p)) a)

  naming_alike : (w : Naming) (p : ℕ) {s s' : State} → AlikeIn c s s' → AlikeIn c (naming_of c w p s) (naming_of c w p s')
  unfolding naming_of
  naming_alike Variable p a = in_step (add_variable (part_origin p)) (variable_alone (part_origin p)) a
  naming_alike Tracked p a = tracked_alike p a
  naming_alike Candidate p a = in_opening (open_ready c p) (λ o o'. ready_alike c p) (tracked_alike p a)

  pub namings_alike : (w : Naming) (ps : List ℕ) {s s' : State} → AlikeIn c s s' → AlikeIn c (fold (naming_of c w) ps s) (fold (naming_of c w) ps s')
  namings_alike w ps a = in_fold (naming_of c w) (λ p s s'. naming_alike w p) ps a

  -- ---- of each name one

  -- a part of name n needs no naming any more
  record One (n : ℕ) (o : Opening) : Type 0 where
    pub part : ℕ
    pub of_name_law : name_of c part ≡ n
    pub passed : passed_over c part o ≡ true

  -- there is one of each name that is flagged
  record Seen (seen : List Bool) (o : Opening) : Type 0 where
    pub one : (n : ℕ) → is_seen seen n ≡ true → One n o

  one_noted : {n : ℕ} {o : Opening} (x : One n o) → Noted c x.part o
  one_noted {o = o} x = or_right (elem x.part o.tracked) _ x.passed

  one_kept : {n : ℕ} {o : Opening} (p : ℕ) → One n o → One n (name_for_tracking c p o)
  one_kept {o = o} p x = record { part = x.part; of_name_law = x.of_name_law; passed = (tracking_once c).keeps x.part p o x.passed }

  none_seen : (k : ℕ) (o : Opening) → Seen (replicate k false) o
  none_seen k o = record { one = λ n e. absurd (false≢true (none k n e)) }
    where
      none : (k n : ℕ) → is_seen (replicate k false) n ≡ true → false ≡ true
      none zero n e = unfold is_seen in e
      none (suc k) zero e = unfold is_seen in e
      none (suc k) (suc n) e = none k n (unfold is_seen in e)

  -- where there is one, to name another of its name does nothing more
  seen_idle : (ps : List ℕ) {n : ℕ} (o : Opening) → One n o → ((p : ℕ) → p ∈ ps → Noted c p o × (name_of c p ≡ n)) → Alike c (name_first c ps o) o
  unfolding name_first
  seen_idle [] o x h = alike_same
  seen_idle (p ∷ ps) o x h =
      let y = h p (Memᴰ.head refl) in
      rw ((tracking_once c).again x.part o x.passed) at (either_named p x.part o (y.1 ∙ sym x.of_name_law) y.0 (one_noted x))

  module _ (r : ℕ) (o : Opening) (h : (p : ℕ) → p ∈ sorted c r → Noted c p o) (seen : List Bool) (k : Seen seen o) where
    unless_named : Alike c (fold (name_for_tracking c) (sorted c r) o) (first_unless c seen r o)
    unfolding first_unless
    unless_named = alike_then (range_named r o h) (go (is_seen seen (range_name c r)) refl)
      where
        go : (b : Bool) → is_seen seen (range_name c r) ≡ b → Alike c (name_first c (matching c r) o) (unless b (name_first c (matching c r)) o)
        go true e = unfold unless in seen_idle (matching c r) o (k.one (range_name c r) e) (λ p m. (h p (sorted_in r m), of_range r m))
        go false e = unfold unless in alike_same

    seen_named : Seen (seen_after c r seen) (first_unless c seen r o)
    unfolding first_unless seen_after
    seen_named = go (is_seen seen (range_name c r))
      where
        more : (ps : List ℕ) → ((p : ℕ) → p ∈ ps → name_of c p ≡ range_name c r) → Seen (seen_by ps (range_name c r) seen) (name_first c ps o)
        more [] f = unfold seen_by name_first in k
        more (p ∷ ps) f =
            unfold seen_by name_first in
            record {
              one = λ n e. by_cases (eqb n (range_name c r))
                  (λ i. record { part = p; of_name_law = f p (Memᴰ.head refl) ∙ sym (eqb-true n (range_name c r) i); passed = (tracking_once c).does p o })
                  (λ i. one_kept p (k.one n (unfold is_seen in (rw (get_or-set_other seen (range_name c r) n true false (eqb-false n (range_name c r) i)) at e))));
            }

        go : (b : Bool) → Seen (unless b (seen_by (matching c r) (range_name c r)) seen) (unless b (name_first c (matching c r)) o)
        go true = unfold unless in k
        go false = unfold unless in more (matching c r) (λ p m. of_range r m)

  range_alike : (r : ℕ) (seen : List Bool) (s : State) → ((p : ℕ) → p ∈ sorted c r → Settled c s p) → Seen seen s.opening
      → AlikeIn c (fold (naming_of c Candidate) (sorted c r) s) (on_opening (first_unless c seen r) s)
  unfolding on_opening
  range_alike r seen s h k =
      rw (each_settled (sorted c r) s h) (record { rest = refl; opening = unless_named r s.opening (λ p m. (h p m).noted) seen k })

  seen_alike : (r : ℕ) (seen : List Bool) (s : State) → ((p : ℕ) → p ∈ sorted c r → Settled c s p) → Seen seen s.opening
      → Seen (seen_after c r seen) (on_opening (first_unless c seen r) s).opening
  unfolding on_opening
  seen_alike r seen s h k = seen_named r s.opening (λ p m. (h p m).noted) seen k

  firsts_enough : (rs : List ℕ) (seen : List Bool) (s : State) → AllSettled c rs s → Seen seen s.opening
      → AlikeIn c (fold (λ r. fold (naming_of c Candidate) (sorted c r)) rs s) (on_opening (name_firsts c rs seen) s)
  unfolding fold
  firsts_enough [] seen s h k = unfold on_opening name_firsts in in_same
  firsts_enough (r ∷ rs) seen s h k =
      let u = on_opening (first_unless c seen r) s in
      let here : (p : ℕ) → p ∈ sorted c r → Settled c s p = λ p m. h.each r p (Memᴰ.head refl) m in
      in_then (in_fold (λ x. fold (naming_of c Candidate) (sorted c x)) (λ x t t'. namings_alike Candidate (sorted c x)) rs (range_alike r seen s here k))
      (rw (← same) (firsts_enough rs (seen_after c r seen) u (record { each = λ x p a b. later p (h.each x p (Memᴰ.tail a) b) }) (seen_alike r seen s here k)))
    where
      same : on_opening (name_firsts c rs (seen_after c r seen)) (on_opening (first_unless c seen r) s) ≡ on_opening (name_firsts c (r ∷ rs) seen) s
      same = unfold on_opening name_firsts in refl

      later : (p : ℕ) → Settled c s p → Settled c (on_opening (first_unless c seen r) s) p
      later p y = unfold on_opening in settled_stands whole (unless_stands seen r s.opening) y

  -- NAMING ONE OF EACH NAME WILL DO
  pub first_enough : (rs : List ℕ) (s : State) → AllSettled c rs s → AlikeIn c (name_candidates c false rs s) (name_candidates c true rs s)
  unfolding name_candidates
  first_enough rs s h = firsts_enough rs (replicate 64 false) s h (none_seen 64 s.opening)

  -- which leaves the variables alone
  pub first_variables : (rs : List ℕ) (s : State) → (name_candidates c true rs s).variables ≡ s.variables
  unfolding name_candidates on_opening
  first_variables rs s = refl

-- ---- in the areas

-- none of this is read from the other areas, nor from the tasks of the line
pub other_areas : {c : Catalogue} {rs : List ℕ} (l : Limits) (v v' : Reading) (n : Counters) (st : ℕ → List ℕ) (cl wt cl' wt' : List ℕ)
    → AllSettled c rs (state_of c l v n st cl wt) → AllSettled c rs (state_of c l v' n st cl' wt')
unfolding state_of opening_of
other_areas l v v' n st cl wt cl' wt' h = record { each = λ r p a b. let x = h.each r p a b in record { known = x.known; noted = x.noted; opened = x.opened } }
