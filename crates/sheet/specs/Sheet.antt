-- A command of a sheet, of the state that the areas hold.
use Rattle.std.specs.Prelude.{◌≡◌, ℕ, ◌+◌, ◌≤◌, Bool, List, Result, Ok, Err}
use Rattle.rules.specs.Catalogue.{Catalogue}
use Rattle.rules.specs.Refusals.{ok, refuse}
use Rattle.rules.specs.Records.{Command}
use Rattle.rules.specs.State.{State}
use Rattle.rules.specs.Sheet.{carry_out}
use Rattle.rules.proofs.Reached.{Given, Reached}
use Rattle.refusal.specs.declared.Refusal.{Refusal}
use Rattle.refusal.specs.Refusing.{refusal_of}
use Rattle.state.specs.declared.Limits.{Limits}
use Rattle.state.specs.Layout.{held}
use Rattle.encoder.specs.declared.Counters.{Counters}
use Rattle.encoder.specs.declared.State as encoder
use Rattle.state.specs.Limits.{limits_of}
use Rattle.serving.specs.Flags.{AreFlagged}
use Rattle.encoding.specs.Running.{Holds, IsHolding}

-- the state that the command gives, in the areas
pub record Gives (c : Catalogue) (l : Limits) (o : Command) (s : State) (n m : Counters) (st' : ℕ → List ℕ) (cl' wt' : List ℕ) : Type 0 where
  pub state : State
  pub is : carry_out (limits_of l) c o s ≡ ok state
  pub holds : Holds c l state m st' cl' wt'
  pub runs : m.runs ≤ n.runs + 1

-- a command of the encoder's state and the two other areas: carried out, or refused with its refusal
pub record CommandDid (c : Catalogue) (o : Command) (x : encoder.State) (cl wt : List ℕ) (r : Result (Unit {0}) Refusal) (x' : encoder.State) (cl' wt' : List ℕ) : Type 0 where
  pub limits : x'.limits ≡ x.limits
  pub area : x'.area.ghost_name ≡ x.area.ghost_name
  pub carried : r ≡ Ok tt → (s : State) → Given c → Reached (limits_of x.limits) c s → IsHolding c s x cl wt → Gives c x.limits o s x.used x'.used (held x.limits x'.area.now) cl' wt'
  pub refused : (f : Refusal) → r ≡ Err f → (s : State) → Given c → Reached (limits_of x.limits) c s → IsHolding c s x cl wt
      → carry_out (limits_of x.limits) c o s ≡ refuse (refusal_of f)

-- goals that are flagged are so after a command that was carried out
pub record FlaggedAfter (c : Catalogue) (flags : List Bool) (r : Result (Unit {0}) Refusal) (x' : encoder.State) : Type 0 where
  pub flagged : r ≡ Ok tt → AreFlagged c flags x'
