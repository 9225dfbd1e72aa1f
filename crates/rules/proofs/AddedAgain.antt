-- An owner added again, already added or opened, with a run after it in any case, makes no difference to what the commands lead to: the entry in
-- `added` changes no other command, and the run that opens the added owners passes over an opened one.
use mathlib.Core.Path.{◌≡◌, refl, sym, ◌∙◌, ap}
use mathlib.Core.Logic.{◌⊎◌, ⊎_elim}
use mathlib.Core.Bool.{Bool, true, false, not, ◌||◌}
use mathlib.Core.List.Memᴰ
use mathlib.Core.List.{List, [], ◌∷◌, append-nil}
use Prim.Native.Nat.{ℕ}
use borrow.Author.Tests.{eqb-false, ne_eqb}
use Rattle.rules.specs.Lists.{filter, any, snoc, fold, when, unless}
use Rattle.rules.specs.Catalogue.{Owner, root, part, Catalogue, same_owner}
use Rattle.rules.specs.Opening.{Opening, set_added, queue, open_owner, add, draw, begin_run}
use Rattle.rules.specs.State.{State, set_opening, decided_true}
use Rattle.rules.specs.Run.{begun, most_tasks, run_once}
use Rattle.rules.specs.Records.{Command}
use Rattle.rules.specs.Items.{owner_of}
use Rattle.rules.specs.Limits.{Limits}
use Rattle.rules.specs.Sheet.{too_low, decide, command_refusals, carried_out}
use Rattle.rules.specs.Called.{◌∈◌}
use Rattle.rules.proofs.Bools.{by_cases}
use Rattle.rules.proofs.ListLaws.{any_snoc}
use Rattle.rules.proofs.MemberLaws.{filter_append, filter_pass, filter_stop}
use Rattle.rules.proofs.Membership.{any_in}
use Rattle.rules.proofs.Each.{unless_cases}
use Rattle.rules.proofs.OwnerTasks.{same_owner_law}
use Rattle.rules.proofs.Ends.{owner_self}

-- ---- a run begins

-- these owners but for o
abbrev without : Owner → List Owner → List Owner
without o ws = filter (λ w. not (same_owner o w)) ws

-- o is opened
abbrev IsOpened : Owner → Opening → Type 0
IsOpened o s = any (same_owner o) s.owners ≡ true

open_again : (o : Owner) (s : Opening) → IsOpened o s → open_owner o s ≡ s
unfolding open_owner unless
open_again o s e = rw (e, unless)

open_other : (o w : Owner) (s : Opening) → IsOpened o s → IsOpened o (open_owner w s)
unfolding open_owner queue
open_other o w s e = unless_cases (IsOpened o) _ _ s (λ _. e) (λ _. rw (any_snoc (same_owner o) s.owners w, e))

opens_alike : (o : Owner) (ws : List Owner) (s : Opening) → IsOpened o s → fold open_owner (without o ws) s ≡ fold open_owner ws s
unfolding fold filter
opens_alike o [] s e = refl
opens_alike o (w ∷ ws) s e =
    by_cases (same_owner o w)
    (λ q. rw (q, filter, same_owner_law o w q, open_again o s e) (opens_alike o ws s e))
    (λ q. rw (q, filter) (opens_alike o ws (open_owner w s) (open_other o w s e)))

begin_alike : (c : Catalogue) (o : Owner) (ws : List Owner) (s : Opening) → IsOpened o s → without o ws ≡ without o s.added
    → begin_run c (set_added ws s) ≡ begin_run c s
unfolding begin_run
begin_alike c o ws s e q = ap (fold _ s.drawn) (opens_same _ e)
  where
    opens_same : (u : Opening) → IsOpened o u → fold open_owner ws u ≡ fold open_owner s.added u
    opens_same u e = sym (opens_alike o ws u e) ∙ (ap (λ vs. fold open_owner vs u) q ∙ opens_alike o s.added u e)

-- ---- what is added: but for o, the same with o there or not

other_owner : (o w : Owner) → same_owner o w ≡ false → same_owner w o ≡ false
other_owner root root e = e
other_owner root (part q) e = refl
other_owner (part p) root e = refl
other_owner (part p) (part q) e = ne_eqb q p (λ h. eqb-false p q e (sym h))

-- the added owners, when w is added to them
abbrev extended : Owner → List Owner → List Owner
extended w ws = unless (any (same_owner w) ws) (λ vs. snoc vs w) ws

any_without : (o w : Owner) → same_owner o w ≡ false → (ws : List Owner) → any (same_owner w) (without o ws) ≡ any (same_owner w) ws
unfolding any filter
any_without o w e [] = refl
any_without o w e (v ∷ ws) =
    by_cases (same_owner o v)
    (λ q. rw (q, filter, same_owner_law o v q, other_owner o w e) (any_without o w e ws))
    (λ q. rw (q, filter) (ap (λ b. same_owner w v || b) (any_without o w e ws)))

extended_same : (o w : Owner) → same_owner o w ≡ true → (ws : List Owner) → without o (extended w ws) ≡ without o ws
unfolding snoc
extended_same o w e ws =
    unless_cases (λ vs. without o vs ≡ without o ws) _ _ ws (λ _. refl)
    (λ _. filter_append _ ws (w ∷ []) ∙ rw (filter_stop _ w (ap not e)) (append-nil _))

extended_other : (o w : Owner) → same_owner o w ≡ false → (ws : List Owner) → without o (extended w ws) ≡ extended w (without o ws)
extended_other o w e ws = rw (any_without o w e ws) (go (any (same_owner w) ws))
  where
    go : (b : Bool) → without o (unless b (λ vs. snoc vs w) ws) ≡ unless b (λ vs. snoc vs w) (without o ws)
    go true = unfold unless in refl
    go false = unfold unless snoc in filter_append _ ws (w ∷ []) ∙ rw (filter_pass _ w (ap not e))

extended_alike : (o w : Owner) (vs ws : List Owner) → without o vs ≡ without o ws → without o (extended w vs) ≡ without o (extended w ws)
extended_alike o w vs ws q =
    by_cases (same_owner o w)
    (λ e. extended_same o w e vs ∙ (q ∙ sym (extended_same o w e ws)))
    (λ e. extended_other o w e vs ∙ (ap (extended w) q ∙ sym (extended_other o w e ws)))

-- ---- every command

abbrev with_added : List Owner → State → State
with_added ws s = set_opening (set_added ws s.opening) s

-- s' is s, or o is opened and s' is s but for o among the added owners
pub data Alike (o : Owner) (s : State) : State → Type 0 where
  same : Alike o s s
  but_added : {ws : List Owner} → IsOpened o s.opening → without o ws ≡ without o s.opening.added → Alike o s (with_added ws s)

pub alike_sym : {o : Owner} {s s' : State} → Alike o s s' → Alike o s' s
alike_sym same = same
alike_sym (but_added e q) = but_added e (sym q)

when_alike : {o : Owner} (b : Bool) (f : State → State) {s s' : State} → Alike o s s' → Alike o (f s) (f s') → Alike o (when b f s) (when b f s')
unfolding when
when_alike true f h h' = h'
when_alike false f h h' = h

module _ (l : Limits) (c : Catalogue) {o : Owner} where
  pub run_alike : (level : ℕ) {s s' : State} → Alike o s s' → carried_out l c (Command.run level) s' ≡ carried_out l c (Command.run level) s
  unfolding carried_out run_once begun most_tasks
  run_alike level same = refl
  run_alike level {s} (but_added {ws} e q) = rw (begin_alike c o ws s.opening e q)

  pub after_alike : (k : Command) {s s' : State} → Alike o s s' → Alike o (carried_out l c k s) (carried_out l c k s')
  unfolding carried_out add draw decided_true decide
  after_alike k same = same
  after_alike (Command.add n) {s} (but_added {ws} e q) = but_added e (extended_alike o (owner_of n) ws s.opening.added q)
  after_alike (Command.draw k) (but_added e q) = but_added e q
  after_alike (Command.run level) {s} (but_added e q) = rw (run_alike level {s = s} (but_added e q)) same
  after_alike (Command.decide x value level) (but_added e q) = when_alike _ _ (but_added e q) (but_added e q)
  after_alike (Command.undo level) (but_added e q) = but_added e q

  pub refused_alike : (k : Command) {s s' : State} → Alike o s s' → command_refusals l c k s' ≡ command_refusals l c k s
  unfolding command_refusals too_low carried_out
  refused_alike k same = refl
  refused_alike (Command.add n) (but_added e q) = refl
  refused_alike (Command.draw k) (but_added e q) = refl
  refused_alike (Command.run level) {s} (but_added e q) = rw (run_alike level {s = s} (but_added e q))
  refused_alike (Command.decide x value level) (but_added e q) = refl
  refused_alike (Command.undo level) (but_added e q) = refl

-- ---- the theorem

-- added since the last run, or opened
abbrev pub Already : Owner → Opening → Type 0
Already o s = (o ∈ s.added) ⊎ (o ∈ s.owners)

-- commands carried out, first to last
abbrev pub carried_out_all : Limits → Catalogue → List Command → State → State
carried_out_all l c ks s = fold (carried_out l c) ks s

module _ (l : Limits) (c : Catalogue) where
  pub added_again : (n : ℕ) (s : State) → Already (owner_of n) s.opening → Alike (owner_of n) s (carried_out l c (Command.add n) s)
  unfolding carried_out add unless
  added_again n s =
      let o = owner_of n in
      let self = owner_self c o in
      ⊎_elim (λ m. rw (any_in (same_owner o) s.opening.added m self, unless) same)
      (λ m. but_added (any_in (same_owner o) s.opening.owners m self) (extended_same o o self s.opening.added))

  all_alike : {level : ℕ} (ks : List Command) → Command.run level ∈ ks → {o : Owner} {s s' : State} → Alike o s s' → carried_out_all l c ks s' ≡ carried_out_all l c ks s
  unfolding fold
  all_alike [] m h = elim m [ ]
  all_alike (k ∷ ks) (Memᴰ.head q) h = rw (← q) (ap (carried_out_all l c ks) (run_alike l c _ h))
  all_alike (k ∷ ks) (Memᴰ.tail m) h = all_alike ks m (after_alike l c k h)

  -- AN OWNER ADDED AGAIN, of number n; among the commands after the add there is a run
  pub added_again_run : (n : ℕ) (s : State) → Already (owner_of n) s.opening → {level : ℕ} (ks : List Command) → Command.run level ∈ ks
      → carried_out_all l c (Command.add n ∷ ks) s ≡ carried_out_all l c ks s
  unfolding fold
  added_again_run n s a ks m = all_alike ks m (added_again n s a)
