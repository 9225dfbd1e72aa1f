-- Each conflict is of a stored clause, and the conflicts' clauses have rising numbers: so a clause has at most one conflict, which can be kept with it,
-- and conflicts in the order of their clauses are conflicts in the order of arrival.
use mathlib.Core.List.{List, [], ◌∷◌}
use Prim.Native.Nat.{ℕ, zero, suc, ◌<◌}
use native.Mathlib.Omega.{arith}
use lib.ListN.{length}
use Rattle.rules.specs.Lists.{snoc}
use Rattle.rules.specs.Clause.{Clause}
use Rattle.rules.specs.Catalogue.{Catalogue}
use Rattle.rules.specs.Records.{Command}
use Rattle.rules.specs.Opening.{Task}
use Rattle.rules.specs.Encoding.{Event, served}
use Rattle.rules.specs.State.{State, set_clauses, Run, emit, emit_all}
use Rattle.rules.specs.Run.{serve_task, serve_line, join_all, link_all, begun, run_once}
use Rattle.rules.specs.Limits.{Limits}
use Rattle.rules.specs.Sheet.{decide, carried_out}
use Rattle.rules.proofs.ListLaws.{length_snoc, fold_every}
use Rattle.rules.proofs.Each.{Each, each_imp, each_snoc, Pairwise, pairwise_snoc, when_cases}
use Rattle.rules.proofs.Reached.{Reached, command}
use Rattle.rules.proofs.Effects.{Effect, effect_is}
use Rattle.rules.proofs.Line.{After, begins, serves}
use Rattle.rules.proofs.ClauseByClause.{add_clause, emit_one_by_one}

pub record Rising (clauses : List Clause) (conflicts : List (ℕ × ℕ)) : Type 0 where
  pub below : Each (λ (x : ℕ × ℕ). x.1 < length clauses) conflicts
  pub rising : Pairwise (λ (x y : ℕ × ℕ). x.1 < y.1) conflicts

abbrev pub RisingIn : State → Type 0
RisingIn s = Rising s.clauses s.conflicts

-- ---- a clause is stored and heeded

longer_below : (ks : List Clause) (k : Clause) {xs : List (ℕ × ℕ)} → Each (λ (x : ℕ × ℕ). x.1 < length ks) xs → Each (λ (x : ℕ × ℕ). x.1 < length (snoc ks k)) xs
longer_below ks k p = each_imp (λ x l. omega (arith, length_snoc ks k)) p

pub add_rising : (r : Run) (k : Clause) (s : State) → RisingIn s → RisingIn (add_clause r k s)
unfolding add_clause
add_rising r k s h = go (effect_is r (length s.clauses) k (set_clauses (snoc s.clauses k) s))
  where
    go : {u : State} → Effect r (length s.clauses) k (set_clauses (snoc s.clauses k) s) u → RisingIn u
    go Effect.nothing = record { below = longer_below s.clauses k h.below; rising = h.rising }
    go Effect.reports =
        record {
          below = each_snoc (longer_below s.clauses k h.below) (omega (arith, length_snoc s.clauses k));
          rising = pairwise_snoc h.rising h.below;
        }
    go (Effect.sets m n) = record { below = longer_below s.clauses k h.below; rising = h.rising }

-- ---- a run

module _ (c : Catalogue) (r : Run) where
  pub emit_rising : (e : Event) (s : State) → RisingIn s → RisingIn (emit c r e s)
  emit_rising e s h = rw (emit_one_by_one c r e s) (fold_every RisingIn (add_clause r) (add_rising r) _ _ h)

  emit_all_rising : (es : List Event) (s : State) → RisingIn s → RisingIn (emit_all c r es s)
  unfolding emit_all
  emit_all_rising es s h = fold_every RisingIn (emit c r) emit_rising es s h

  serve_task_rising : (t : Task) (s : State) → RisingIn s → RisingIn (serve_task c r t s)
  unfolding serve_task
  serve_task_rising t s h = emit_rising (served t) _ h

  serve_line_rising : (fuel : ℕ) (ts : List Task) (s : State) → RisingIn s → RisingIn (serve_line c r fuel ts s)
  unfolding serve_line
  serve_line_rising zero ts s h = h
  serve_line_rising (suc fuel) [] s h = h
  serve_line_rising (suc fuel) (t ∷ ts) s h = serve_line_rising fuel _ _ (serve_task_rising t s h)

  pub point_rising : {ts₀ : List Task} {s₀ : State} → RisingIn s₀ → {n : ℕ} {ts : List Task} {s : State} → After c r ts₀ s₀ n ts s → RisingIn s
  point_rising h begins = h
  point_rising h (serves {t = t} {s = s} a) = serve_task_rising t s (point_rising h a)

  end_rising : (s : State) → RisingIn s → RisingIn (link_all c r (join_all c r s))
  unfolding link_all join_all
  end_rising s h = emit_all_rising _ _ (emit_all_rising _ _ h)

run_rising : (c : Catalogue) (level : ℕ) (s : State) → RisingIn s → RisingIn (run_once c level s)
unfolding run_once begun
run_rising c level s h = end_rising c _ _ (serve_line_rising c _ _ _ _ h)

-- ---- every job

pub conflicts_rise : {l : Limits} {c : Catalogue} {s : State} → Reached l c s → RisingIn s
unfolding carried_out decide
conflicts_rise Reached.begun = record { below = Each.nil; rising = Pairwise.nil }
conflicts_rise (command r (Command.add o) p) = conflicts_rise r
conflicts_rise (command r (Command.draw k) p) = conflicts_rise r
conflicts_rise {c = c} (command {s = s} r (Command.run level) p) = run_rising c level s (conflicts_rise r)
conflicts_rise (command {s = s} r (Command.decide x value level) p) = let h = conflicts_rise r in when_cases RisingIn _ _ s h (λ e. h)
conflicts_rise (command r (Command.undo level) p) = conflicts_rise r
