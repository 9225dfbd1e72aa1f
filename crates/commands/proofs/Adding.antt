-- An owner is added, unless it is already.
use mathlib.Core.Path.{◌≡◌, refl}
use mathlib.Core.Bool.{Bool, true, false, not, ◌&&◌}
use mathlib.Core.List.{List}
use Prim.Native.Nat.{ℕ, ◌<◌, ◌≤◌}
use native.Mathlib.Omega.{arith}
use lib.Dec.{eqb, leb}
use lib.ListN.{length}
use borrow.Author.Tests.{ne_eqb, le-leb, lt-leb}
use Rattle.std.specs.Prelude.{Ok, Err}
use Rattle.rules.specs.Lists.{any, snoc, unless}
use Rattle.rules.specs.Catalogue.{Catalogue, root, part}
use Rattle.rules.specs.Records.{Command}
use Rattle.rules.specs.Refusals.{ok, refuse, unless_any}
use Rattle.rules.specs.Items as items
use Rattle.rules.specs.Items.{given, absent, owner_absent}
use Rattle.rules.specs.Opening.{Opening, set_added, add}
use Rattle.rules.specs.State as rules
use Rattle.rules.specs.Sheet.{command_refusals, carried_out, carry_out}
use Rattle.rules.proofs.Member.{not_one}
use Rattle.refusal.specs.declared.Refusal.{Refusal}
use Rattle.refusal.specs.declared.Refusal.TheVariants.{Missing}
use Rattle.refusal.specs.declared.Thing.TheVariants.{Part}
use Rattle.refusal.specs.Refusing.{thing_of, refusal_of}
use Rattle.requirement.specs.declared.Owner.TheVariants as owners
use Rattle.requirement.specs.Requirements.{OwnerOf}
use Rattle.state.specs.declared.Limits.{Limits}
use Rattle.state.specs.Layout.{held, Fits}
use Rattle.variable_map.proofs.Laws.{variables_kept}
use Rattle.decision_tracker.proofs.Laws.{decisions_kept}
use Rattle.marked.specs.Marked.{is_marked, owner_of, Marked, Free, Pushed}
use Rattle.marked.proofs.Laws.{free_after, mark_room, marked_same}
use Rattle.marked.proofs.Owners.{root_is, part_is, owners_snoc, owner_after}
use Rattle.encoder.specs.declared.Counters.{Counters}
use Rattle.encoder.specs.declared.State.{State}
use Rattle.encoder.specs.Held.{Reading, opening_of, state_of, Good}
use Rattle.encoder.specs.Did.{on_opening}
use Rattle.state.specs.Limits.{limits_of}
use Rattle.encoder.proofs.Frames.{good_kept, list_kept, line_kept}
use Rattle.commands.specs.Commands.{ChangesOf, Changes, StateChanges, with_added, AddsOwner, AddsTo, Adds}
use Rattle.commands.proofs.Outcomes.{unchanged, changes_as, carried_out_law, outcome_done, outcome_carried, outcome_refused}

pub added_free : (l : Limits) (b : List ℕ) (n o : ℕ) (f : Bool) → Fits l (length b) → Marked 6 7 n (held l b) → o < 1025 → f ≡ is_marked 7 o (held l b)
    → f ≡ false → Free 6 7 n o (held l b)
added_free l b n o f h m k e d = free_after f m (mark_room l b 7 o (omega arith) k h) e d

-- one owner more
unfoldable add_owner : ℕ → Opening → Opening
add_owner x u = set_added (snoc u.added (owner_of x)) u

module _ (l : Limits) (n : Counters) where
  module _ {x count : ℕ} {st st' : ℕ → List ℕ} (p : Pushed 6 7 n.added x st count st') (c : Catalogue) (cl wt : List ℕ) where
    added_state : (v : Reading) → state_of c l v (with_added count n) st' cl wt ≡ on_opening (add_owner x) (state_of c l v n st cl wt)
    unfolding state_of opening_of on_opening add_owner any
    added_state v =
        let ch = p.others in
        simp (p.list, owners_snoc, list_kept ch, line_kept ch, variables_kept ch, decisions_kept ch, ch.same)

    added_good : Good c l n st cl wt → Good c l (with_added count n) st' cl wt
    unfolding any
    added_good g = good_kept p.others g (search) refl refl refl refl refl g.entries

    added_changes : ChangesOf c l (on_opening (add_owner x)) n st cl wt (with_added count n) st'
    unfolding any
    added_changes = record { good = added_good; hand = λ h. marked_same h p.others refl refl; full = refl; runs = refl; is = added_state }

  module _ (o : ℕ) {b : Bool} {st : ℕ → List ℕ} (m : Marked 6 7 n.added st) (e : b ≡ is_marked 7 o st) where
    again : b ≡ true → Changes l (on_opening (add (owner_of o))) n st n st
    again t = record { is = λ c cl wt. changes_as unchanged (idle c cl wt) }
      where
        idle : (c : Catalogue) (cl wt : List ℕ) (v : Reading) → state_of c l v n st cl wt ≡ on_opening (add (owner_of o)) (state_of c l v n st cl wt)
        idle c cl wt v = unfold on_opening add state_of opening_of unless in rw (← owner_after o b m e, t)

    pub new_owner : b ≡ false → {count : ℕ} {st' : ℕ → List ℕ} → Pushed 6 7 n.added o st count st' → Changes l (on_opening (add (owner_of o))) n st (with_added count n) st'
    new_owner t p = record { is = λ c cl wt. changes_as (added_changes p c cl wt) (new c cl wt) }
      where
        new : (c : Catalogue) (cl wt : List ℕ) (v : Reading)
            → on_opening (add_owner o) (state_of c l v n st cl wt) ≡ on_opening (add (owner_of o)) (state_of c l v n st cl wt)
        new c cl wt v = unfold on_opening add_owner add state_of opening_of unless in rw (← owner_after o b m e, t)

-- of whatever counters have this number
module _ (l : Limits) (o : ℕ) {k : ℕ} {b : Bool} {st : ℕ → List ℕ} (m : Marked 6 7 k st) (e : b ≡ is_marked 7 o st) where
  pub add_again : b ≡ true → AddsOwner l (owner_of o) k st k st
  add_again t = record { changes = λ n z. let same : with_added k n ≡ n = rw (← z) in rw same (again l n o (rw z m) e t) }

  pub add_new : b ≡ false → {count : ℕ} {st' : ℕ → List ℕ} → Pushed 6 7 k o st count st' → AddsOwner l (owner_of o) k st count st'
  add_new t p = record { changes = λ n z. new_owner l n o (rw z m) e t (rw z p) }

-- ---- the command

not_root : (owner p : ℕ) → part p ≡ items.owner_of owner → owner ≡ 65535 → ⊥
unfolding items.owner_of
not_root owner p e z = let root_too : part p ≡ root = rw z at e in cc

-- by the definitions, if the owner is there
carried : (l : Limits) (c : Catalogue) (o owner : ℕ) (s : rules.State) → owner_absent c owner ≡ false → owner_of o ≡ items.owner_of owner
    → carry_out (limits_of l) c (Command.add owner) s ≡ ok (on_opening (add (owner_of o)) s)
unfolding carry_out command_refusals carried_out unless_any on_opening
carried l c o owner s a e = rw (a, e)

present : (c : Catalogue) (owner : ℕ) → owner < length c.parts → owner_absent c owner ≡ false
unfolding owner_absent absent given
present c owner h = go (eqb owner 65535)
  where
    go : (b : Bool) → (not b && leb (length c.parts) owner) ≡ false
    go true = refl
    go false = lt-leb (length c.parts) owner h

missing_part : (c : Catalogue) (owner : ℕ) → (owner ≡ 65535 → ⊥) → length c.parts ≤ owner → owner_absent c owner ≡ true
unfolding owner_absent absent given
missing_part c owner n h = rw (ne_eqb owner 65535 n, le-leb (length c.parts) owner h)

module _ {owner : ℕ} (e : OwnerOf owner owners.Root) where
  root_there : (c : Catalogue) → owner_absent c owner ≡ false
  root_there c = unfold owner_absent in rw (← e.number)

  root_number : owner_of 1024 ≡ items.owner_of owner
  root_number = unfold items.owner_of in rw (← e.number) root_is

module _ {parts owner p : ℕ} (e : OwnerOf owner (owners.Part p)) (b : p < parts) where
  part_there : (c : Catalogue) → length c.parts ≡ parts → owner_absent c owner ≡ false
  part_there c i = let same : p ≡ owner = e.number in present c owner (rw (i, ← same) b)

  part_number : parts ≤ 1024 → owner_of owner ≡ items.owner_of owner
  part_number a = let same : p ≡ owner = e.number in number (omega (arith, same))
    where
      number : owner < 1024 → owner_of owner ≡ items.owner_of owner
      number d = unfold items.owner_of in rw (ne_eqb owner 65535 (λ q. omega arith)) (part_is owner d)

module _ {parts owner : ℕ} {l : Limits} {k : ℕ} {s : List ℕ} where
  module _ {d : ℕ} {s' : List ℕ} where
    add_to_law : (o : ℕ) → ((c : Catalogue) → length c.parts ≡ parts → owner_absent c owner ≡ false) → owner_of o ≡ items.owner_of owner
        → AddsOwner l (owner_of o) k (held l s) d (held l s') → AddsTo parts l (Command.add owner) k s (Ok d) s'
    add_to_law o there same h =
        record {
          to = λ e q n z c i cl wt. let p : e ≡ d = cc in rw p (carried_out_law ((h.changes n z).is c cl wt) (λ v. carried l c o owner _ (there c i) same));
          refused = λ f q. absurd (not_one (cc));
          same = λ f q. absurd (not_one (cc));
        }

    pub add_root : OwnerOf owner owners.Root → AddsOwner l (owner_of 1024) k (held l s) d (held l s') → AddsTo parts l (Command.add owner) k s (Ok d) s'
    add_root e h = add_to_law 1024 (λ c _. root_there e c) (root_number e) h

    pub add_part : {p : ℕ} → OwnerOf owner (owners.Part p) → parts ≤ 1024 → p < parts → AddsOwner l (owner_of p) k (held l s) d (held l s')
        → AddsTo parts l (Command.add owner) k s (Ok d) s'
    add_part {p} e a b h =
        let same : p ≡ owner = e.number in
        add_to_law owner (part_there e b) (part_number e b a) (rw same at h)

  pub add_missing : {p : ℕ} → OwnerOf owner (owners.Part p) → parts ≤ p → AddsTo parts l (Command.add owner) k s (Err (Missing Part 1)) s
  add_missing {p} e h =
      let same : p ≡ owner = e.number in
      record {
        to = λ d q. absurd (not_one (cc));
        refused = λ f q n z c i cl wt v. let g : f ≡ Missing Part 1 = cc in rw g (refused c (missing_part c owner (not_root owner p e.is) (rw (i, ← same) h)) _);
        same = λ f q. refl;
      }
    where
      refused : (c : Catalogue) → owner_absent c owner ≡ true → (u : rules.State) → carry_out (limits_of l) c (Command.add owner) u ≡ refuse (refusal_of (Missing Part 1))
      refused c a u = unfold carry_out command_refusals unless_any refusal_of thing_of in rw a

-- the same of the encoder's state
module _ {parts : ℕ} {o : Command} {x x' : State} where
  pub added_to : {d : ℕ} → AddsTo parts x.limits o x.used.added x.area.now (Ok d) x'.area.now → x'.limits ≡ x.limits → x'.area.ghost_name ≡ x.area.ghost_name
      → x'.used ≡ with_added d x.used → Adds parts o x (Ok tt) x'
  added_to h limits area e = record { outcomes = record { is = λ c i. outcome_done limits area (λ cl wt. rw e (h.to _ refl x.used refl c i cl wt)) }; counters = rw e }

  pub added_refused : {f : Refusal} {s : List ℕ} → AddsTo parts x.limits o x.used.added x.area.now (Err f) s → x' ≡ x → Adds parts o x (Err f) x'
  added_refused h e = rw e (record { outcomes = record { is = λ c i. outcome_refused (h.refused _ refl x.used refl c i) }; counters = refl })

-- the same of a state to which an owner was added, by whatever did it
module _ {parts owner : ℕ} {x x' : State} where
  owner_added : (o : ℕ) → ((c : Catalogue) → length c.parts ≡ parts → owner_absent c owner ≡ false) → owner_of o ≡ items.owner_of owner
      → StateChanges (on_opening (add (owner_of o))) x x' → x'.used ≡ with_added x'.used.added x.used → Adds parts (Command.add owner) x (Ok tt) x'
  owner_added o there same h q = record { outcomes = record { is = λ c i. outcome_carried h (λ cl wt v. carried _ c o owner _ (there c i) same) }; counters = q }

  pub root_added : OwnerOf owner owners.Root → StateChanges (on_opening (add (owner_of 1024))) x x' → x'.used ≡ with_added x'.used.added x.used
      → Adds parts (Command.add owner) x (Ok tt) x'
  root_added e h q = owner_added 1024 (λ c _. root_there e c) (root_number e) h q

  pub part_added : {p : ℕ} → OwnerOf owner (owners.Part p) → parts ≤ 1024 → p < parts → StateChanges (on_opening (add (owner_of p))) x x'
      → x'.used ≡ with_added x'.used.added x.used → Adds parts (Command.add owner) x (Ok tt) x'
  part_added {p} e a b h q =
      let same : p ≡ owner = e.number in
      owner_added owner (part_there e b) (part_number e b a) (rw same at h) q
