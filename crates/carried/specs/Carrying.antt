-- A job's state at the start, and its sheet carried out record by record.
use Rattle.std.specs.Prelude.{◌≡◌, ◌⊎◌, Bool, true, false, List, ℕ, ◌+◌, ◌<◌, ◌≤◌, length, get_or, replicate, drop, Option, Some, Result, Ok, Err}
use Rattle.rules.specs.Catalogue.{root, Catalogue}
use Rattle.rules.specs.Refusals.{ok, refuse, number_and_place}
use Rattle.rules.specs.Records.{Command}
use Rattle.rules.specs.Variables.{Origin, chosen, part_origin}
use Rattle.rules.specs.Decisions.{Decision}
use Rattle.rules.specs.State.{State, start, decided_true}
use Rattle.rules.specs.Limits.{Terms}
use Rattle.rules.specs.Limits as rules
use Rattle.rules.specs.Sheet.{carry_out}
use Rattle.rules.specs.Job.{Progress, reading, carrying, walk, run_step, Outcome, refused, ended}
use Rattle.rules.proofs.Reached.{Given, Reached}
use Rattle.refusal.specs.declared.Refusal.{Refusal}
use Rattle.refusal.specs.declared.RefusedAt.{RefusedAt}
use Rattle.refusal.specs.Refusing.{refusal_of}
use Rattle.tables.specs.declared.Counts.{Counts}
use Rattle.cache.specs.Areas.{catalogue}
use Rattle.state.specs.Limits.{limits_of}
use Rattle.state.specs.Layout.{held}
use Rattle.encoder.specs.declared.State as encoder
use Rattle.encoder.specs.Does.{variables_of, decisions_of}
use Rattle.blocking.specs.declared.Blocking.{Blocking}
use Rattle.blocking.specs.declared.Listing.{Listing}
use Rattle.blocking.specs.Blocking.{is_blocked, NothingBlocked, Blocked, NothingListed, shared_bars}
use Rattle.serving.specs.Flags.{AreFlagged}
use Rattle.encoding.specs.Running.{Holds, IsHolding}
use Rattle.commands.specs.Commands.{Idle}
use Rattle.sheet.specs.Sheet.{Gives}
use Rattle.carried.specs.declared.Memory.{Memory}

-- the areas hold the state at the start, whatever the catalogue and the waiting area
pub record Started (x : encoder.State) (cl : List ℕ) : Type 0 where
  pub holds : (c : Catalogue) (wt : List ℕ) → IsHolding c start x cl wt

-- what comes of a job from byte `at` on, with this progress
unfoldable pub end_from : Terms → (job : List ℕ) → (at : ℕ) → Progress → Outcome
end_from t job at p = ended t job (walk (run_step t job) 0 at (drop at job) p)

-- ---- draws that change nothing

-- nothing of a condition that is flagged is to be drawn
pub record Settled (c : Catalogue) (flags : List Bool) (s : State) : Type 0 where
  pub given : (k : ℕ) → get_or flags k false ≡ true → k < length c.conditions
  pub idle : (k : ℕ) → get_or flags k false ≡ true → Idle c (decided_true s) k s.opening

-- nothing is remembered
pub record Fresh (memory : Memory) : Type 0 where
  pub settled : memory.settled ≡ replicate 256 false
  pub blocking : NothingBlocked memory.blocking
  pub listing : NothingListed memory.listing

-- these are its variables and decisions
pub record Has (vs : List Origin) (ds : List Decision) (s : State) : Type 0 where
  pub variables : s.variables ≡ vs
  pub decisions : s.decisions ≡ ds

-- after the command the flagged conditions are blocked
pub record Guards (c : Catalogue) (vs : List Origin) (ds : List Decision) (o : Command) (blocking blocking' : Blocking) : Type 0 where
  pub is : (l : rules.Limits) (s s' : State) → Reached l c s → Has vs ds s → carry_out l c o s ≡ ok s' → Blocked c (decided_true s) blocking
      → Blocked c (decided_true s') blocking'

-- b says that the command changes nothing, where nothing of the settled conditions is to be drawn
pub record Idles (c : Catalogue) (vs : List Origin) (ds : List Decision) (o : Command) (settled : List Bool) (blocking : Blocking) (b : Bool) (blocking' : Blocking) : Type 0 where
  pub is : b ≡ true → (l : rules.Limits) (s : State) → Given c → Reached l c s → Has vs ds s → Settled c settled s → Blocked c (decided_true s) blocking
      → carry_out l c o s ≡ ok s
  pub guards : Guards c vs ds o blocking blocking'

-- only this part, if any, can be made true by value `value` of variable x
pub record MakesTrue (vs : List Origin) (x value : ℕ) (part : Option ℕ) : Type 0 where
  pub is : value ≡ 1 → (q : ℕ) → get_or vs x (chosen root) ≡ part_origin q → part ≡ Some q

-- where no part was made true but that of variable x, by value 1, what is flagged is blocked
pub record Unblocks (k : Counts) (m : List ℕ) (vs : List Origin) (x value : ℕ) (blocking blocking' : Blocking) : Type 0 where
  pub is : (u t : List ℕ) {true? now? : ℕ → Bool} → ((p : ℕ) → (value ≡ 1 → get_or vs x (chosen root) ≡ part_origin p → ⊥) → now? p ≡ true? p)
      → Blocked (catalogue k m u t) true? blocking → Blocked (catalogue k m u t) now? blocking'

-- after the command these are flags of that kind
pub record Notes (o : Command) (flags flags' : List Bool) : Type 0 where
  pub is : (l : rules.Limits) (c : Catalogue) (s s' : State) → Reached l c s → carry_out l c o s ≡ ok s' → Settled c flags s → Settled c flags' s'

-- the command was carried out, and noted, or refused, where nothing of the flagged conditions was to be drawn
pub record SettledDid (c : Catalogue) (o : Command) (flags : List Bool) (blocking : Blocking) (x : encoder.State) (cl wt : List ℕ)
    (r : Result (Unit {0}) Refusal) (flags' : List Bool) (blocking' : Blocking) (x' : encoder.State) (cl' wt' : List ℕ) : Type 0 where
  pub limits : x'.limits ≡ x.limits
  pub area : x'.area.ghost_name ≡ x.area.ghost_name
  pub carried : r ≡ Ok tt → (s : State) → Given c → Reached (limits_of x.limits) c s → IsHolding c s x cl wt → Settled c flags s
      → Blocked c (decided_true s) blocking → Gives c x.limits o s x.used x'.used (held x.limits x'.area.now) cl' wt'
  pub notes : r ≡ Ok tt → Notes o flags flags'
  pub guards : Guards c (variables_of x) (decisions_of x) o blocking blocking'
  pub refused : (f : Refusal) → r ≡ Err f → (s : State) → Given c → Reached (limits_of x.limits) c s → IsHolding c s x cl wt
      → carry_out (limits_of x.limits) c o s ≡ refuse (refusal_of f)

-- if b is true condition x is flagged, or blocked, or a range is that its disjuncts share
pub record IsFlagged (flags : List Bool) (blocking : Blocking) (listing : Listing) (conditions x : ℕ) (b : Bool) : Type 0 where
  pub is : b ≡ true → (get_or flags x false ≡ true) ⊎ ((x < conditions) × ((is_blocked blocking x ≡ true) ⊎ (shared_bars listing blocking x ≡ true)))

-- ---- a record

-- the record at `at` was a command, carried out in state s, and `next` is past it
pub record Passed (c : Catalogue) (job : List ℕ) (at next : ℕ) (s : State) (x : encoder.State) (flags' : List Bool) (blocking' : Blocking) (x' : encoder.State)
    (cl' wt' : List ℕ) : Type 0 where
  pub onward : at + 3 ≤ next
  pub inside : next ≤ length job
  pub runs : x'.used.runs ≤ x.used.runs + 1
  pub state : State
  pub reached : Reached (limits_of x.limits) c state
  pub holds : Holds c x.limits state x'.used (held x.limits x'.area.now) cl' wt'
  pub settled : Settled c flags' state
  pub blocked : Blocked c (decided_true state) blocking'
  pub alike : (t : Terms) → t.limits ≡ limits_of x.limits → end_from t job at (carrying c s) ≡ end_from t job next (carrying c state)

-- it was carried out or refused, where nothing of the flagged conditions was to be drawn
pub record StepDid (c : Catalogue) (job : List ℕ) (at : ℕ) (flags : List Bool) (blocking : Blocking) (x : encoder.State) (cl wt : List ℕ)
    (r : Result ℕ Refusal) (flags' : List Bool) (blocking' : Blocking) (x' : encoder.State) (cl' wt' : List ℕ) : Type 0 where
  pub limits : x'.limits ≡ x.limits
  pub area : x'.area.ghost_name ≡ x.area.ghost_name
  pub next : (y : ℕ) → r ≡ Ok y → (s : State) → Given c → Reached (limits_of x.limits) c s → IsHolding c s x cl wt
      → Settled c flags s → Blocked c (decided_true s) blocking → Passed c job at y s x flags' blocking' x' cl' wt'
  pub refused : (f : Refusal) → r ≡ Err f → (s : State) → Given c → Reached (limits_of x.limits) c s → IsHolding c s x cl wt
      → (t : Terms) → t.limits ≡ limits_of x.limits → end_from t job at (carrying c s) ≡ refused (number_and_place (length job) at (refusal_of f))

-- goals that are flagged are so after a record that was carried out
pub record FlaggedNext (c : Catalogue) (goals : List Bool) (r : Result ℕ Refusal) (x' : encoder.State) : Type 0 where
  pub flagged : (y : ℕ) → r ≡ Ok y → AreFlagged c goals x'

-- ---- a sheet

-- the whole sheet was carried out, and the areas hold the state after it
pub record Came (c : Catalogue) (job : List ℕ) (from : ℕ) (x x' : encoder.State) (cl' wt' : List ℕ) : Type 0 where
  pub state : State
  pub reached : Reached (limits_of x.limits) c state
  pub holds : Holds c x.limits state x'.used (held x.limits x'.area.now) cl' wt'
  pub alike : (t : Terms) → t.limits ≡ limits_of x.limits → end_from t job from (reading c) ≡ ended t job (carrying c state)

-- the sheet from byte `from` on was carried out or refused
pub record SheetDid (c : Catalogue) (job : List ℕ) (from : ℕ) (x : encoder.State) (r : Result (Unit {0}) RefusedAt) (x' : encoder.State) (cl' wt' : List ℕ) : Type 0 where
  pub limits : x'.limits ≡ x.limits
  pub area : x'.area.ghost_name ≡ x.area.ghost_name
  pub carried : r ≡ Ok tt → Came c job from x x' cl' wt'
  pub refused : (e : RefusedAt) → r ≡ Err e → (t : Terms) → t.limits ≡ limits_of x.limits
      → end_from t job from (reading c) ≡ refused (number_and_place (length job) e.at (refusal_of e.refusal))
