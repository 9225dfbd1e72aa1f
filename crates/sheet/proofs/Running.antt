-- A run of a sheet: refused where its level is too low or it would end above a limit.
use mathlib.Core.Path.{◌≡◌, refl, sym, ◌∙◌}
use mathlib.Core.Bool.{Bool, true, false, ◌||◌}
use mathlib.Core.List.{List}
use Prim.Native.Nat.{ℕ, suc}
use native.Mathlib.Omega.{arith}
use lib.Dec.{eqb, ltb}
use Rattle.std.specs.Prelude.{Ok, Err}
use Rattle.rules.specs.Catalogue.{Catalogue}
use Rattle.rules.specs.Refusals.{ok, refuse, unless_any}
use Rattle.rules.specs.Records.{Command}
use Rattle.rules.specs.Decisions.{last_level}
use Rattle.rules.specs.State.{State, Run}
use Rattle.rules.specs.Run.{begun, run_once}
use Rattle.rules.specs.Limits.{above}
use Rattle.rules.specs.Limits as rules
use Rattle.rules.specs.Sheet.{too_low, command_refusals, carried_out, carry_out}
use Rattle.rules.proofs.Reached.{Given, Reached}
use Rattle.rules.proofs.RunLaws.{Within, every_run}
use Rattle.rules.proofs.Forgotten.{forget_above}
use Rattle.refusal.specs.declared.Refusal.TheVariants.{LevelLow, RunFull}
use Rattle.refusal.specs.Refusing.{refusal_of}
use Rattle.state.specs.declared.Limits.{Limits}
use Rattle.state.specs.Layout.{held}
use Rattle.encoder.specs.declared.State as encoder
use Rattle.encoder.specs.Did.{is_full}
use Rattle.encoder.specs.Does.{decisions_of}
use Rattle.state.specs.Limits.{limits_of}
use Rattle.encoder.proofs.Frames.{good_within}
use Rattle.encoding.specs.Running.{Holds, IsHolding, RunsOnce}
use Rattle.sheet.specs.Sheet.{Gives, CommandDid}
use Rattle.beginning.proofs.Held.{any_reading, held_decisions, held_runs}
use Rattle.sheet.proofs.Outcomes.{did_carried, did_refused}

-- ---- runs are counted

within_runs : {c : Catalogue} {r : Run} {s₀ s : State} → Within c r s₀ s → s.runs ≡ s₀.runs
within_runs Within.begins = refl
within_runs (Within.opens w o) = within_runs w
within_runs (Within.stores w e n) = within_runs w
within_runs (Within.reports w i l) = within_runs w
within_runs (Within.sets w t n) = within_runs w

run_counted : {c : Catalogue} {l : rules.Limits} {s : State} → Reached l c s → (level : ℕ) → (run_once c level s).runs ≡ suc s.runs
unfolding begun
run_counted r level = within_runs (every_run r level).within

-- ---- by the definitions

module _ (l : Limits) (c : Catalogue) (level : ℕ) (s : State) where
  low_run : too_low level s ≡ true → carry_out (limits_of l) c (Command.run level) s ≡ refuse (refusal_of LevelLow)
  unfolding carry_out command_refusals unless_any refusal_of
  low_run e = rw e

  full_run : too_low level s ≡ false → above (limits_of l) (run_once c level s) ≡ true → carry_out (limits_of l) c (Command.run level) s ≡ refuse (refusal_of RunFull)
  unfolding carry_out command_refusals unless_any refusal_of
  full_run e f = rw (e, f)

  carried_run : too_low level s ≡ false → above (limits_of l) (run_once c level s) ≡ false → carry_out (limits_of l) c (Command.run level) s ≡ ok (run_once c level s)
  unfolding carry_out command_refusals carried_out unless_any
  carried_run e f = rw (e, f)

-- ---- of the areas

module _ {c : Catalogue} (x : encoder.State) {cl wt : List ℕ} (level : ℕ) {b : Bool} (e : b ≡ (eqb level 0 || ltb level (last_level (decisions_of x)))) where
  low_as : {s : State} → IsHolding c s x cl wt → too_low level s ≡ b
  unfolding too_low
  low_as h = sym (rw (held_decisions h) at e)

  pub run_low : b ≡ true → CommandDid c (Command.run level) x cl wt (Err LevelLow) x cl wt
  run_low t = did_refused refl refl (λ s _ _ h. low_run x.limits c level s (low_as h ∙ t))

  module _ {x' : encoder.State} {cl' wt' : List ℕ} (f : b ≡ false) (d : RunsOnce c level x cl wt x' cl' wt') where
    pub run_full_law : is_full x'.used ≡ true → CommandDid c (Command.run level) x cl wt (Err RunFull) x' cl' wt'
    run_full_law t = did_refused d.limits d.area (λ s g r h. full_run x.limits c level s (low_as h ∙ f) (d.did.over s g r h t))

    pub run_done : is_full x'.used ≡ false → CommandDid c (Command.run level) x cl wt (Ok tt) x' cl' wt'
    run_done t = did_carried d.limits d.area gives
      where
        held_within : {s : State} → Holds c x.limits s x'.used (held x.limits x'.area.now) cl' wt' → above (limits_of x.limits) s ≡ false
        held_within {s} h = sym (forget_above (limits_of x.limits) s) ∙ (rw (h.is any_reading) at (good_within h.good any_reading))

        gives : (s : State) → Given c → Reached (limits_of x.limits) c s → IsHolding c s x cl wt → Gives c x.limits (Command.run level) s x.used x'.used (held x.limits x'.area.now) cl' wt'
        gives s g r h =
            let y = d.did.done s g r h t in
            record {
              state = run_once c level s;
              is = carried_run x.limits c level s (low_as h ∙ f) (held_within y);
              holds = y;
              runs = omega (arith, held_runs y, held_runs h, run_counted r level);
            }
