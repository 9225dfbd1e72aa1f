-- 01, the record table: what each sheet record does, and its refusals in the order 4, 5, 9, 8, 10.
use Rattle.std.specs.Prelude.{Bool, ◌||◌, List, [], ◌∷◌, ℕ, eqb, ltb, leb, length}
use Rattle.std.proofs.Math.Option.{none}
use Rattle.rules.specs.Lists.{snoc, when}
use Rattle.rules.specs.Literal.{Literal}
use Rattle.rules.specs.Catalogue.{Catalogue}
use Rattle.rules.specs.Refusals.{Thing, other_value, Refusal, missing, missing_variable, contradicts, level_low, decided_against, run_full, ◌if◌, Result, unless_any}
use Rattle.rules.specs.Records.{Command}
use Rattle.rules.specs.Items.{owner_of, owner_absent, absent}
use Rattle.rules.specs.Decisions.{evaluate, is_falsified, is_undecided, last_level, up_to_level}
use Rattle.rules.specs.Opening.{add, draw}
use Rattle.rules.specs.State.{State, set_opening, set_decisions, decided_true}
use Rattle.rules.specs.Run.{run_once}
use Rattle.rules.specs.Limits.{Limits, above}

unfoldable pub too_low : ℕ → State → Bool
too_low level s = eqb level 0 || ltb level (last_level s.decisions)

abbrev pub wanted : ℕ → ℕ → Literal
wanted x value = record { variable = x; positive = eqb value 1 }

-- "Deciding the present value again changes nothing"
unfoldable pub decide : ℕ → ℕ → ℕ → State → State
decide x value level s =
    when (is_undecided (evaluate s.decisions (wanted x value)))
    (λ (u : State). set_decisions (snoc u.decisions (record { variable = x; value = eqb value 1; level = level; clause = none })) u) s

module _ (l : Limits) (c : Catalogue) where
  unfoldable pub command_refusals : Command → State → List (Refusal × Bool)
  command_refusals (Command.add o) s = (missing Thing.part 1 if owner_absent c o) ∷ []
  command_refusals (Command.draw k) s = (missing Thing.condition 1 if absent c Thing.condition k) ∷ []
  command_refusals (Command.run level) s =
      (level_low if too_low level s)
      ∷ (run_full if above l (run_once c level s)) ∷ []
  command_refusals (Command.decide x value level) s =
      (missing_variable 1 if leb (length s.variables) x)
      ∷ (contradicts other_value if ltb 1 value)
      ∷ (level_low if too_low level s)
      ∷ (decided_against if is_falsified (evaluate s.decisions (wanted x value))) ∷ []
  command_refusals (Command.undo level) s = []

  unfoldable pub carried_out : Command → State → State
  carried_out (Command.add o) s = set_opening (add (owner_of o) s.opening) s
  carried_out (Command.draw k) s = set_opening (draw c (decided_true s) k s.opening) s
  carried_out (Command.run level) s = run_once c level s
  carried_out (Command.decide x value level) s = decide x value level s
  carried_out (Command.undo level) s = set_decisions (up_to_level level s.decisions) s

  unfoldable pub carry_out : Command → State → Result State
  carry_out o s = unless_any (command_refusals o s) (carried_out o s)
