-- Goals that are flagged stay so over a command: one that is no run loses no variable, no opened owner and no part that is named or tracked.
use mathlib.Core.Path.{◌≡◌}
use mathlib.Core.Bool.{Bool}
use mathlib.Core.List.{List}
use Prim.Native.Nat.{ℕ}
use Rattle.std.specs.Prelude.{Result, Ok, Err}
use Rattle.rules.specs.Catalogue.{Catalogue}
use Rattle.rules.specs.Refusals.{ok}
use Rattle.rules.specs.Records.{Command}
use Rattle.rules.specs.Opening.{add, draw}
use Rattle.rules.specs.State.{State}
use Rattle.rules.specs.Limits as rules
use Rattle.rules.specs.Sheet.{decide, command_refusals, carried_out, carry_out}
use Rattle.rules.proofs.Member.{not_one}
use Rattle.rules.proofs.Membership.{when_either}
use Rattle.rules.proofs.Grows.{Prefix, whole}
use Rattle.rules.proofs.Reached.{unless_any_ok}
use Rattle.rules.proofs.Forgotten.{forget}
use Rattle.refusal.specs.declared.Refusal.{Refusal}
use Rattle.reader.specs.declared.Command as code
use Rattle.reader.specs.declared.Command.TheVariants as C
use Rattle.reader.specs.Reading.{command_of}
use Rattle.state.specs.declared.Limits.{Limits}
use Rattle.encoder.specs.declared.Counters.{Counters}
use Rattle.encoder.specs.declared.State as encoder
use Rattle.state.specs.Limits.{limits_of}
use Rattle.naming.specs.Settled.{AllSettled, Settles}
use Rattle.naming.proofs.Settled.{Stands, stands_same, settled_stands, other_areas}
use Rattle.beginning.specs.Beginning.{Reaches, IsReached}
use Rattle.serving.specs.Flags.{AreFlagged}
use Rattle.sheet.specs.Sheet.{Gives, CommandDid, FlaggedAfter}

module _ {c : Catalogue} {flags : List Bool} {x : encoder.State} where
  pub after_refused : {f : Refusal} → FlaggedAfter c flags (Err f) x
  after_refused = record { flagged = λ e. absurd (not_one (cc)) }

  pub after_carried : AreFlagged c flags x → FlaggedAfter c flags (Ok tt) x
  after_carried f = record { flagged = λ e. f }

-- ---- by the definitions

abbrev pub NoRun : Command → Type 0
NoRun (Command.add o) = Unit {0}
NoRun (Command.draw k) = Unit {0}
NoRun (Command.run level) = ⊥
NoRun (Command.decide x value level) = Unit {0}
NoRun (Command.undo level) = Unit {0}

-- the code's command
module _ (x : code.Command) where
  pub add_no_run : (o : ℕ) → x ≡ C.Add o → NoRun (command_of x)
  unfolding command_of
  add_no_run o e = rw e tt

  pub draw_no_run : (o : ℕ) → x ≡ C.Draw o → NoRun (command_of x)
  unfolding command_of
  draw_no_run o e = rw e tt

  pub decide_no_run : (y v i : ℕ) → x ≡ C.Decide y v i → NoRun (command_of x)
  unfolding command_of
  decide_no_run y v i e = rw e tt

  pub undo_no_run : (i : ℕ) → x ≡ C.Undo i → NoRun (command_of x)
  unfolding command_of
  undo_no_run i e = rw e tt

-- nothing that settles a part is lost
record Kept (s s' : State) : Type 0 where
  pub variables : Prefix s.variables s'.variables
  pub opening : Stands s.opening s'.opening

module _ (l : rules.Limits) (c : Catalogue) where
  command_keeps : (o : Command) → NoRun o → (s : State) → Kept s (carried_out l c o s)
  unfolding carried_out add draw decide
  command_keeps (Command.add o) h s = record { variables = whole; opening = record { owners = whole; several = whole; named = whole; tracked = whole } }
  command_keeps (Command.draw k) h s = record { variables = whole; opening = record { owners = whole; several = whole; named = whole; tracked = whole } }
  command_keeps (Command.run level) h s = absurd h
  command_keeps (Command.decide x value level) h s =
      when_either (Kept s) _ _ s (λ _. record { variables = whole; opening = stands_same }) (λ _. record { variables = whole; opening = stands_same })
  command_keeps (Command.undo level) h s = record { variables = whole; opening = stands_same }

  carried_keeps : (o : Command) → NoRun o → (s s' : State) → carry_out l c o s ≡ ok s' → Kept s s'
  unfolding carry_out
  carried_keeps o h s s' e = rw (unless_any_ok (command_refusals l c o s) (carried_out l c o s) s' e).1 at (command_keeps o h s)

-- ---- of the areas

module _ {c : Catalogue} {l : Limits} {n : Counters} {st : ℕ → List ℕ} {cl wt : List ℕ} (h : Reaches c l n st cl wt) {m : Counters} {st' : ℕ → List ℕ} {cl' wt' : List ℕ} where
  gives_settled : {rs : List ℕ} (o : Command) → NoRun o → Gives c l o h.state n m st' cl' wt' → Settles c l rs n st → Settles c l rs m st'
  gives_settled {rs} o z y k =
      let kept = carried_keeps (limits_of l) c o z h.state y.state y.is in
      let p = kept.opening in
      record {
        held = λ f v cl'' wt''.
            let x = rw (h.holds.is v) at (k.held h.holds.room v cl wt) in
            let now : AllSettled c rs (forget y.state) =
            record {
              each = λ r q i j. settled_stands kept.variables (record { owners = p.owners; several = p.several; named = p.named; tracked = p.tracked }) (x.each r q i j);
            } in
            other_areas l v v m st' cl' wt' cl'' wt'' (rw (y.holds.is v) now);
      }

pub command_flagged : {c : Catalogue} {x : encoder.State} {cl wt : List ℕ} (o : Command) → NoRun o → IsReached c x cl wt
    → {r : Result (Unit {0}) Refusal} {x' : encoder.State} {cl' wt' : List ℕ} {flags : List Bool} → CommandDid c o x cl wt r x' cl' wt' → AreFlagged c flags x → FlaggedAfter c flags r x'
command_flagged o z h d f =
    record {
      flagged = λ e. rw d.limits (record { settles = λ i k. gives_settled h o z (d.carried e h.state h.given h.reached h.holds) (f.settles i k) });
    }
