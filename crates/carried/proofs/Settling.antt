-- The flags of conditions of which nothing is to be drawn: what they say of a draw, and what each command leaves of them.
use mathlib.Core.Path.{◌≡◌, sym, ◌∙◌}
use mathlib.Core.Bool.{Bool, true, false, true≢false}
use mathlib.Core.List.{List}
use mathlib.Core.Logic.{◌⊎◌, ⊎_elim}
use Prim.Native.Nat.{ℕ, ◌<◌}
use native.Mathlib.Omega.{arith}
use native.Mathlib.Decide.{dec_lt}
use lib.Dec.{eqb}
use lib.ListN.{length, get_or, set, replicate}
use lib.Seq.{get_or-set_other}
use borrow.Author.Tests.{eqb-true, eqb-false, le-leb, lt-leb}
use Rattle.rules.specs.Catalogue.{Catalogue}
use Rattle.rules.specs.Refusals.{Refusal, ok, refuse, unless_any}
use Rattle.rules.specs.Records.{Command}
use Rattle.rules.specs.Items.{given, absent}
use Rattle.rules.specs.Opening as opening
use Rattle.rules.specs.State.{State, set_opening, decided_true}
use Rattle.rules.specs.Limits as rules
use Rattle.rules.specs.Sheet.{command_refusals, carried_out, carry_out}
use Rattle.rules.proofs.Bools.{by_cases}
use Rattle.rules.proofs.KindTable.{not_one}
use Rattle.rules.proofs.Reached.{Reached, unless_any_ok}
use Rattle.reader.specs.declared.Command as code
use Rattle.reader.specs.declared.Command.TheVariants as C
use Rattle.reader.specs.Reading.{command_of}
use Rattle.serving.proofs.Flags.{none_in}
use Rattle.commands.proofs.Idling.{idle_draw, idle_after, idle_kept}
use Rattle.carried.specs.Carrying.{Settled, Notes}
use Rattle.carried.proofs.Undoing.{idle_undone}
use Rattle.carried.proofs.Running.{idle_run}

-- ---- by the definitions

module _ (l : rules.Limits) (c : Catalogue) (s : State) where
  -- a draw of a condition that is given
  pub drawn_is : (k : ℕ) → k < length c.conditions → carry_out l c (Command.draw k) s ≡ ok (set_opening (opening.draw c (decided_true s) k s.opening) s)
  unfolding carry_out command_refusals carried_out unless_any absent given
  drawn_is k h = rw (lt-leb (length c.conditions) k h)

  drawn_given : (k : ℕ) (s' : State) → carry_out l c (Command.draw k) s ≡ ok s' → k < length c.conditions
  unfolding carry_out command_refusals carried_out unless_any absent given
  drawn_given k s' e = elim (dec_lt k (length c.conditions)) [ yes h ↦ h | no h ↦ absurd (refused (rw (le-leb (length c.conditions) k (omega arith)) at e)) ]
    where
      refused : {f : Refusal} → refuse f ≡ ok s' → ⊥
      refused q = not_one (cc)

  pub carried_is : (o : Command) (s' : State) → carry_out l c o s ≡ ok s' → carried_out l c o s ≡ s'
  unfolding carry_out
  carried_is o s' e = (unless_any_ok (command_refusals l c o s) (carried_out l c o s) s' e).1

  module _ {flags : List Bool} (h : Settled c flags s) where
    pub settled_draw : (k : ℕ) → get_or flags k false ≡ true → carry_out l c (Command.draw k) s ≡ ok s
    settled_draw k e = drawn_is k (h.given k e) ∙ rw (idle_draw c (decided_true s) k s.opening (h.idle k e))

    settled_added : (o : ℕ) → Settled c flags (carried_out l c (Command.add o) s)
    unfolding carried_out opening.add decided_true
    settled_added o = record { given = h.given; idle = λ k e. record { none = (h.idle k e).none } }

    settled_run : Reached l c s → (level : ℕ) → Settled c flags (carried_out l c (Command.run level) s)
    unfolding carried_out
    settled_run r level = record { given = h.given; idle = λ k e. idle_run r level k (h.idle k e) }

    settled_undone : Reached l c s → (level : ℕ) → Settled c flags (carried_out l c (Command.undo level) s)
    unfolding carried_out
    settled_undone r level = record { given = h.given; idle = λ k e. idle_undone r level k (h.idle k e) }

    settled_drawn : (k : ℕ) → k < length c.conditions → Settled c (set flags k true) (carried_out l c (Command.draw k) s)
    unfolding carried_out decided_true
    settled_drawn k g =
        record {
          given = λ j e. by_cases (eqb j k) (λ q. rw (eqb-true j k q) g) (λ q. h.given j (before j q e));
          idle = λ j e. by_cases (eqb j k) (λ q. rw (eqb-true j k q) (idle_after c (decided_true s) k s.opening)) (λ q. idle_kept c (decided_true s) j s.opening k (h.idle j (before j q e)));
        }
      where
        before : (j : ℕ) → eqb j k ≡ false → get_or (set flags k true) j false ≡ true → get_or flags j false ≡ true
        before j q e = rw (get_or-set_other flags k j true false (eqb-false j k q)) at e

-- no flag is set
pub settled_none : (c : Catalogue) (n : ℕ) (s : State) → Settled c (replicate n false) s
settled_none c n s = record { given = λ k e. absurd (unset k e); idle = λ k e. absurd (unset k e) }
  where
    unset : (k : ℕ) → get_or (replicate n false) k false ≡ true → ⊥
    unset k e = true≢false (sym e ∙ none_in n k)

-- ---- the code's command

module _ (x : code.Command) {flags : List Bool} where
  pub notes_add : (o : ℕ) → x ≡ C.Add o → Notes (command_of x) flags flags
  unfolding command_of
  notes_add o q = rw q (record { is = λ l c s s' r e h. rw (← carried_is l c s (Command.add o) s' e) (settled_added l c s h o) })

  pub notes_run : (level : ℕ) → x ≡ C.Run level → Notes (command_of x) flags flags
  unfolding command_of
  notes_run level q = rw q (record { is = λ l c s s' r e h. rw (← carried_is l c s (Command.run level) s' e) (settled_run l c s h r level) })

  pub notes_undo : (level : ℕ) → x ≡ C.Undo level → Notes (command_of x) flags flags
  unfolding command_of
  notes_undo level q = rw q (record { is = λ l c s s' r e h. rw (← carried_is l c s (Command.undo level) s' e) (settled_undone l c s h r level) })

  -- any of these
  pub notes_same : ((o : ℕ) × (x ≡ C.Add o)) ⊎ (((level : ℕ) × (x ≡ C.Run level)) ⊎ ((level : ℕ) × (x ≡ C.Undo level))) → Notes (command_of x) flags flags
  notes_same e = ⊎_elim (λ a. notes_add a.0 a.1) (λ b. ⊎_elim (λ a. notes_run a.0 a.1) (λ a. notes_undo a.0 a.1) b) e

  pub notes_draw : (k : ℕ) {flags' : List Bool} → x ≡ C.Draw k → flags' ≡ set flags k true → Notes (command_of x) flags flags'
  unfolding command_of
  notes_draw k q z =
      rw (q, z) (record { is = λ l c s s' r e h. rw (← carried_is l c s (Command.draw k) s' e) (settled_drawn l c s h k (drawn_given l c s k s' e)) })

  pub notes_none : {flags' : List Bool} → flags' ≡ replicate (length flags) false → Notes (command_of x) flags flags'
  notes_none z = rw z (record { is = λ l c s s' r e h. settled_none c (length flags) s' })
