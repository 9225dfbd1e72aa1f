-- In a run no part is made true, and only entries begin to wait that do not hold. So where nothing of a condition was to be drawn, nothing is after it.
use mathlib.Core.Path.{◌≡◌, refl, fun_ext}
use mathlib.Core.Bool.{Bool, false, not}
use mathlib.Core.List.{List, [], ◌∷◌}
use Prim.Native.Nat.{ℕ, zero, suc}
use Rattle.rules.specs.Lists.{filter}
use Rattle.rules.specs.Catalogue.{Catalogue, condition_at}
use Rattle.rules.specs.Conditions.{indices, is_condition}
use Rattle.rules.specs.Records.{Command}
use Rattle.rules.specs.Opening.{Task, owner, name, condition, requirement, constraint, Opening, set_line, entry_holds, serve, is_drawn, begin_run, end_run}
use Rattle.rules.specs.State.{State, decided_true}
use Rattle.rules.specs.Run.{run_once}
use Rattle.rules.specs.Limits.{Limits}
use Rattle.rules.specs.Sheet.{carried_out}
use Rattle.rules.proofs.Bools.{and_false}
use Rattle.rules.proofs.Each.{Each, each_append, each_imp, each_map}
use Rattle.rules.proofs.Capped.{begin_waiting, new_waiting, serve_waiting}
use Rattle.rules.proofs.Reached.{Reached}
use Rattle.rules.proofs.Decided.{run_once_same}
use Rattle.rules.proofs.OpeningAlone.{serve_alone, run_alone, carried_out_alone, opening_alone}
use Rattle.commands.specs.Commands.{Idle}
use Rattle.commands.proofs.Idling.{stay_fails}

-- ---- the opening of a run, where the parts decided true are those of f

module _ (c : Catalogue) (f : ℕ → Bool) (k : ℕ) where
  not_drawn : (q i : ℕ) → entry_holds c f q i ≡ false → is_drawn c f k (q, i) ≡ false
  unfolding is_drawn
  not_drawn q i e = rw e (and_false (is_condition k (condition_at c q)))

  new_idle : (t : Task) → Each (λ (e : ℕ × ℕ). is_drawn c f k e ≡ false) (new_waiting c f t)
  unfolding new_waiting
  new_idle (owner o) = Each.nil
  new_idle (name n) = Each.nil
  new_idle (condition q) =
      each_map (λ i. (q, i)) (filter (λ i. not (entry_holds c f q i)) (indices c q)) (each_imp (not_drawn q) (stay_fails (entry_holds c f q) (indices c q)))
  new_idle (requirement q is) = Each.nil
  new_idle (constraint n) = Each.nil

  serve_idle : (t : Task) (o : Opening) → Idle c f k o → Idle c f k (serve c f t o)
  serve_idle t o h = record { none = rw (serve_waiting c f t o) (each_append h.none (new_idle t)) }

  line_idle : (fuel : ℕ) (ts : List Task) (o : Opening) → Idle c f k o → Idle c f k (serve_alone c f fuel ts o)
  unfolding serve_alone
  line_idle zero ts o h = h
  line_idle (suc fuel) [] o h = h
  line_idle (suc fuel) (t ∷ ts) o h = line_idle fuel _ _ (record { none = (serve_idle t o h).none })

  run_idle : (o : Opening) → Idle c f k o → Idle c f k (run_alone c f o)
  unfolding run_alone end_run
  run_idle o h =
      let begun : Idle c f k (set_line [] (begin_run c o)) = record { none = rw (begin_waiting o.waiting c o refl) h.none } in
      record { none = (line_idle _ _ _ begun).none }

-- ---- a run that begins in a reached state

pub idle_run : {l : Limits} {c : Catalogue} {s : State} → Reached l c s → (level k : ℕ) → Idle c (decided_true s) k s.opening
    → Idle c (decided_true (run_once c level s)) k (run_once c level s).opening
idle_run {l} {c} {s} r level k h =
    let same : decided_true (run_once c level s) ≡ decided_true s = fun_ext (run_once_same r level) in
    let opened : (run_once c level s).opening ≡ run_alone c (decided_true s) s.opening = unfold carried_out carried_out_alone in opening_alone r (Command.run level) in
    rw (same, opened) (run_idle c (decided_true s) k s.opening h)
