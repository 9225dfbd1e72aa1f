-- The entries of a condition that hold are drawn.
use mathlib.Core.Path.{◌≡◌, refl, sym, ◌∙◌, ap}
use mathlib.Core.Bool.{Bool, true, false, not, ◌&&◌}
use mathlib.Core.List.{List, []}
use mathlib.Core.Option.{Option, none, some}
use Prim.Native.Nat.{ℕ, ◌+◌, ◌<◌, ◌≤◌}
use native.Mathlib.Omega.{arith}
use native.Mathlib.Decide.{dec_lt}
use lib.Dec.{eqb}
use lib.ListN.{length, get_or, set, length-set, get_or-eq_default}
use borrow.Author.Tests.{not-true, eqb-true, le-leb, lt-leb}
use Rattle.std.specs.Prelude as code
use Rattle.std.specs.Prelude.{Some, None}
use Rattle.std.specs.Option.{option_eq}
use Rattle.std.specs.List.{list_all}
use Rattle.std.proofs.lemmas.List.Sums.{AllPass-from_list_all}
use Rattle.rules.specs.Lists.{any}
use Rattle.rules.specs.Catalogue as rules
use Rattle.rules.specs.Catalogue.{Catalogue, no_requirement, condition_at}
use Rattle.rules.specs.Conditions.{is_condition, disjuncts, disjuncts_if, disjuncts_of, disjunct_at}
use Rattle.rules.specs.Records.{Command}
use Rattle.rules.specs.Refusals.{ok, refuse, unless_any}
use Rattle.rules.specs.Items.{given, absent}
use Rattle.rules.specs.Opening.{Opening, holds_now, entry_holds, is_drawn, draw}
use Rattle.rules.specs.State.{State, decided_true}
use Rattle.rules.specs.Sheet.{command_refusals, carried_out, carry_out}
use Rattle.rules.proofs.Each.{Each, each_at, each_imp}
use Rattle.rules.proofs.Bools.{by_cases, and_false}
use Rattle.rules.proofs.Valid.{Entry}
use Rattle.refusal.specs.declared.Refusal.TheVariants.{Missing}
use Rattle.refusal.specs.declared.Thing.TheVariants as things
use Rattle.refusal.specs.Refusing.{thing_of, refusal_of}
use Rattle.requirement.specs.declared.ConditionalRequirement.{ConditionalRequirement}
use Rattle.requirement.specs.Requirements.{condition_is, requirement_is}
use Rattle.tables.specs.declared.Counts.{Counts}
use Rattle.tables.specs.Tables.{tables}
use Rattle.cache.specs.Areas.{catalogue}
use Rattle.cache.proofs.Laws.{requirement_held, conditions_same}
use Rattle.state.specs.declared.Limits.{Limits}
use Rattle.state.proofs.Changed.{changed_none}
use Rattle.variable_map.specs.Mapping.{variables}
use Rattle.decision_tracker.specs.Tracking.{decisions}
use Rattle.entries.specs.declared.Entry as entries
use Rattle.entries.specs.Entries.{no_entry, entry_of, waiting_in, Long}
use Rattle.entries.specs.Deferred.{Flags, Drawn}
use Rattle.entries.proofs.Drain.{length_waiting, flags_start, flags_step, Drained, drained}
use Rattle.encoder.specs.declared.Counters.{Counters}
use Rattle.encoder.specs.Held.{Reading, opening_of, state_of, Good}
use Rattle.encoder.specs.Did.{on_opening}
use Rattle.state.specs.Limits.{limits_of}
use Rattle.encoder.proofs.Frames.{good_kept}
use Rattle.goals.specs.Goals.{true_of, AllGiven}
use Rattle.judging.specs.Judging.{Judged}
use Rattle.commands.specs.Commands.{NoneSet, is_flagged, Idle, Draws}
use Rattle.commands.proofs.Idling.{idle_draw}

-- ---- is no flag set?

pub none_of : {flags : List Bool} {b : Bool} → b ≡ list_all not flags → NoneSet b flags
none_of {flags} {b} e = record { none = λ t i. at t i }
  where
    at : b ≡ true → (i : ℕ) → get_or flags i false ≡ false
    at t i =
        elim (dec_lt i (length flags)) [
          | yes h ↦ not-true (get_or flags i false) (AllPass-from_list_all not flags (sym e ∙ t) i false h)
          | no h ↦ get_or-eq_default flags false (omega arith)
        ]

-- ---- one entry: is it drawn?

-- by a comparison with the condition that is wanted
this_condition : (c : ℕ) (v : code.Option ℕ) → option_eq eqb v (Some c) ≡ is_condition c (condition_is v)
this_condition c None = refl
this_condition c (Some k) = refl

module _ (rs : List rules.Requirement) (flags : List Bool) (c : ℕ) (e : ℕ × ℕ) (x : entries.Entry) (it : ConditionalRequirement) (ex : entry_of x ≡ e)
    (ei : requirement_is it ≡ get_or rs x.requirement no_requirement) where
  condition_is_law : (get_or rs e.0 no_requirement).condition ≡ condition_is it.condition
  unfolding requirement_is entry_of
  condition_is_law = rw (← ex) (ap (λ (q : rules.Requirement). q.condition) (sym ei))

  pub other_entry : option_eq eqb it.condition (Some c) ≡ false → false ≡ is_flagged rs flags c e
  unfolding is_flagged
  other_entry n = rw (condition_is_law, ← this_condition c it.condition, n)

  pub its_flag : (b : Bool) → option_eq eqb it.condition (Some c) ≡ true → b ≡ get_or flags x.disjunct false → b ≡ is_flagged rs flags c e
  unfolding is_flagged entry_of
  its_flag b q p = rw (condition_is_law, ← this_condition c it.condition, q, ← ex) p

entry_given : {c : Catalogue} (l : Limits) (n i : ℕ) (b : List ℕ) → AllGiven c (waiting_in l n b) → i < n → Entry c (get_or (waiting_in l n b) i no_entry)
entry_given l n i b a h = each_at a.given i no_entry (omega (arith, length_waiting l n b))

-- an entry that is given is flagged just where it is drawn
module _ (k : Counts) (m u t : List ℕ) {f : ℕ → Bool} (c : ℕ) {flags : List Bool} (j : Judged (catalogue k m u t) f (disjuncts (tables k t).conditions c) flags) where
  judged_in : (cs : List rules.Condition) → cs ≡ (tables k t).conditions → (i : ℕ) → i < length (disjuncts cs c)
      → get_or flags i false ≡ holds_now (catalogue k m u t) f (get_or (disjuncts cs c) i [])
  judged_in cs e i h = rw e (j.is i (rw e at h))

  flagged_drawn : (e : ℕ × ℕ) → Entry (catalogue k m u t) e → is_flagged (tables k t).requirements flags c e ≡ is_drawn (catalogue k m u t) f c e
  unfolding is_flagged is_drawn entry_holds disjunct_at disjuncts_of disjuncts_if
  flagged_drawn e g = rw (← requirement_held k m u t e.0) (go (condition_at (catalogue k m u t) e.0) g.disjunct)
    where
      go : (o : Option ℕ) → e.1 < length (disjuncts_if (catalogue k m u t).conditions o)
          → (is_condition c o && get_or flags e.1 false) ≡ (is_condition c o && holds_now (catalogue k m u t) f (get_or (disjuncts_if (catalogue k m u t).conditions o) e.1 []))
      go none h = refl
      go (some i) h = by_cases (eqb i c) (λ q. same i (eqb-true i c q) h) (λ q. rw q)
        where
          same : (i : ℕ) → i ≡ c → e.1 < length (disjuncts (catalogue k m u t).conditions i)
              → (eqb i c && get_or flags e.1 false) ≡ (eqb i c && holds_now (catalogue k m u t) f (get_or (disjuncts (catalogue k m u t).conditions i) e.1 []))
          same i q h = rw q (ap (λ b. eqb c c && b) (judged_in (catalogue k m u t).conditions (conditions_same k m u t) e.1 (rw q at h)))

  module _ (l : Limits) (n : ℕ) (b : List ℕ) (a : AllGiven (catalogue k m u t) (waiting_in l n b)) where
    pub flags_drawn : {held : List Bool} → Flags (is_flagged (tables k t).requirements flags c) n (waiting_in l n b) held
        → Flags (is_drawn (catalogue k m u t) f c) n (waiting_in l n b) held
    flags_drawn h = record { is = λ i q. h.is i q ∙ flagged_drawn _ (entry_given l n i b a q) }

    pub none_drawn : NoneSet true flags → (s : Opening) → s.waiting ≡ waiting_in l n b → Idle (catalogue k m u t) f c s
    unfolding is_flagged
    none_drawn h s e = record { none = rw e (each_of_given a.given) }
      where
        fails : (x : ℕ × ℕ) → is_flagged (tables k t).requirements flags c x ≡ false
        fails x = rw (h.none refl x.1) (and_false (is_condition c (get_or (tables k t).requirements x.0 no_requirement).condition))

        each_of_given : {xs : List (ℕ × ℕ)} → Each (Entry (catalogue k m u t)) xs → Each (λ (x : ℕ × ℕ). is_drawn (catalogue k m u t) f c x ≡ false) xs
        each_of_given gs = each_imp (λ x g. sym (flagged_drawn x g) ∙ fails x) gs

-- ---- a flag for each entry

-- those of the first i entries
pub record Flagging (f : ℕ × ℕ → Bool) (n : ℕ) (xs : List (ℕ × ℕ)) (i : ℕ) (held : List Bool) : Type 0 where
  pub count : length held ≡ 2048
  pub small : n ≤ 2048
  pub flags : Flags f i xs held

pub flagging_start : {f : ℕ × ℕ → Bool} {n : ℕ} {xs : List (ℕ × ℕ)} {held : List Bool} {l : Limits} {bytes : ℕ} → length held ≡ 2048 → Long l bytes → n ≤ l.waiting → Flagging f n xs 0 held
flagging_start e a h = record { count = e; small = omega (arith, a.waiting); flags = flags_start }

module _ {f : ℕ × ℕ → Bool} {n i : ℕ} {xs : List (ℕ × ℕ)} {held : List Bool} (r : Flagging f n xs i held) where
  pub flagging_step : {b : Bool} → i < n → b ≡ f (get_or xs i no_entry) → Flagging f n xs (i + 1) (set held i b)
  flagging_step {b} h t = record { count = length-set held i b ∙ r.count; small = r.small; flags = flags_step r.flags (omega (arith, r.count, r.small)) t }

  pub flagging_end : i ≡ n → Flags f n xs held
  flagging_end e = rw e at r.flags

-- ---- the end

-- counters with other numbers of waiting and drawn entries
abbrev pub drawing : ℕ → ℕ → Counters → Counters
drawing x y n =
    record {
      variables = n.variables;
      clauses = n.clauses;
      literals = n.literals;
      decisions = n.decisions;
      owners = n.owners;
      names = n.names;
      several = n.several;
      added = n.added;
      named = n.named;
      tracked = n.tracked;
      waiting = x;
      drawn = y;
      first = n.first;
      tail = n.tail;
      runs = n.runs;
      full = n.full;
    }

pub draw_end : {c : Catalogue} {l : Limits} {k : ℕ} {n : Counters} {st : ℕ → List ℕ} {held : List Bool} {j d : ℕ} {wt wt' : List ℕ}
    → Flags (is_drawn c (true_of (variables n.variables st) (decisions n.decisions st)) k) n.waiting (waiting_in l n.waiting wt) held
    → Drawn l held n.waiting n.drawn wt j d wt' → Draws c l k n st wt (drawing j d n) wt'
draw_end {c} {l} {k} {n} {st} {held} {j} {d} {wt} {wt'} f s = record { good = good; full = refl; runs = refl; is = state }
  where
    r : Drained l (is_drawn c (true_of (variables n.variables st) (decisions n.decisions st)) k) n.waiting n.drawn wt j d wt'
    r = drained s f

    good : (cl : List ℕ) → Good c l n st cl wt → Good c l (drawing j d n) st cl wt'
    good cl g = unfold any in good_kept (changed_none [] st) g (search) refl refl refl refl refl (omega (arith, r.total, g.entries))

    state : (cl : List ℕ) (v : Reading) → state_of c l v (drawing j d n) st cl wt' ≡ on_opening (draw c (decided_true (state_of c l v n st cl wt)) k) (state_of c l v n st cl wt)
    state cl v = unfold state_of opening_of on_opening draw decided_true true_of in rw (r.waiting, r.drawn)

-- nothing is drawn where no disjunct holds
pub draw_none : (k : Counts) (m u t : List ℕ) {l : Limits} {c : ℕ} {n : Counters} {st : ℕ → List ℕ} {wt : List ℕ} {flags : List Bool} {b : Bool}
    → Judged (catalogue k m u t) (true_of (variables n.variables st) (decisions n.decisions st)) (disjuncts (tables k t).conditions c) flags
    → AllGiven (catalogue k m u t) (waiting_in l n.waiting wt) → NoneSet b flags → b ≡ true → Draws (catalogue k m u t) l c n st wt n wt
draw_none k m u t {l} {c} {n} {st} {wt} j a h e = record { good = λ cl g. g; full = refl; runs = refl; is = state }
  where
    state : (cl : List ℕ) (v : Reading) → state_of (catalogue k m u t) l v n st cl wt
        ≡ on_opening (draw (catalogue k m u t) (decided_true (state_of (catalogue k m u t) l v n st cl wt)) c) (state_of (catalogue k m u t) l v n st cl wt)
    state cl v = unfold state_of on_opening decided_true true_of in rw (idle_draw (catalogue k m u t) (true_of (variables n.variables st) (decisions n.decisions st)) c (opening_of (catalogue k m u t) l v n st wt) (none_drawn k m u t c j l n.waiting wt a (rw e at h) (opening_of (catalogue k m u t) l v n st wt) (unfold opening_of in refl)))

-- ---- for callers

-- the command, carried out or refused
module _ (l : Limits) (c : Catalogue) (k : ℕ) where
  pub draw_carried : {n m : Counters} {st : ℕ → List ℕ} {wt wt' : List ℕ} → Draws c l k n st wt m wt' → k < length c.conditions → (cl : List ℕ) (v : Reading)
      → carry_out (limits_of l) c (Command.draw k) (state_of c l v n st cl wt) ≡ ok (state_of c l v m st cl wt')
  unfolding carry_out command_refusals carried_out unless_any absent given on_opening
  draw_carried d h cl v = rw (lt-leb (length c.conditions) k h) (ap ok (sym (d.is cl v)))

  pub draw_missing : length c.conditions ≤ k → (s : State) → carry_out (limits_of l) c (Command.draw k) s ≡ refuse (refusal_of (Missing things.Condition 1))
  unfolding carry_out command_refusals unless_any absent given refusal_of thing_of
  draw_missing h s = rw (le-leb (length c.conditions) k h)
