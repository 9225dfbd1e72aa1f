-- What is decided true after an undo was so before it, so where nothing of a condition was to be drawn, nothing is.
use mathlib.Core.Path.{◌≡◌}
use mathlib.Core.Bool.{Bool, true, false, false≢true}
use mathlib.Core.List.{List, [], ◌∷◌, ◌++◌}
use Prim.Native.Nat.{ℕ}
use lib.Dec.{eqb}
use Rattle.rules.specs.Lists.{any}
use Rattle.rules.specs.Truth.{same}
use Rattle.rules.specs.Literal.{Literal, pos}
use Rattle.rules.specs.Catalogue.{Catalogue, condition_at}
use Rattle.rules.specs.Candidates.{matching}
use Rattle.rules.specs.Conditions.{Disjunct, is_condition, disjunct_at}
use Rattle.rules.specs.Variables.{known, part_origin, part_variable}
use Rattle.rules.specs.Decisions.{Decision, Evaluation, decided_as, evaluate, is_satisfied, is_true, up_to_level}
use Rattle.rules.specs.Opening.{Opening, holds_now, entry_holds, is_drawn}
use Rattle.rules.specs.State.{State, set_decisions, decided_true}
use Rattle.rules.specs.Limits.{Limits}
use Rattle.rules.proofs.Bools.{and_left, and_right, and_both}
use Rattle.rules.proofs.Each.{each_imp}
use Rattle.rules.proofs.Levels.{undo_removes}
use Rattle.rules.proofs.Member.{contrary, all_out, all_in, any_out, any_in}
use Rattle.rules.proofs.Reached.{Reached}
use Rattle.commands.specs.Commands.{Idle}

-- ---- fewer parts are decided true

module _ (c : Catalogue) (f g : ℕ → Bool) (fewer : (p : ℕ) → f p ≡ true → g p ≡ true) where
  some_more : (ps : List ℕ) → any f ps ≡ true → any g ps ≡ true
  some_more ps e = let q = any_out f ps e in any_in g ps q.0 q.1 (fewer q.0 q.2)

  holds_more : (d : Disjunct) → holds_now c f d ≡ true → holds_now c g d ≡ true
  unfolding holds_now
  holds_more d e = all_in (λ r. any g (matching c r)) d (λ r m. some_more (matching c r) (all_out (λ r. any f (matching c r)) d e r m))

  drawn_more : (k : ℕ) (x : ℕ × ℕ) → is_drawn c f k x ≡ true → is_drawn c g k x ≡ true
  unfolding is_drawn entry_holds
  drawn_more k x e =
      and_both (is_condition k (condition_at c x.0)) (holds_now c g (disjunct_at c x.0 x.1)) (and_left (is_condition k (condition_at c x.0)) (holds_now c f (disjunct_at c x.0 x.1)) e)
      (holds_more (disjunct_at c x.0 x.1) (and_right (is_condition k (condition_at c x.0)) (holds_now c f (disjunct_at c x.0 x.1)) e))

  idle_fewer : (k : ℕ) (s : Opening) → Idle c g k s → Idle c f k s
  idle_fewer k s h = record { none = each_imp (λ x e. contrary (is_drawn c f k x) (is_drawn c g k x) (drawn_more k x) e) h.none }

-- ---- an undo leaves the first of the decisions

by_first : (b : Bool) (v w w' : Evaluation) → is_satisfied (elim b [ true ↦ v | false ↦ w ]) ≡ true → (is_satisfied w ≡ true → is_satisfied w' ≡ true)
    → is_satisfied (elim b [ true ↦ v | false ↦ w' ]) ≡ true
by_first true v w w' e h = e
by_first false v w w' e h = h e

-- a literal that the first of some decisions make true is true by them all
first_decide : (ds es : List Decision) (x : Literal) → is_satisfied (evaluate ds x) ≡ true → is_satisfied (evaluate (ds ++ es) x) ≡ true
unfolding evaluate
first_decide [] es x e = absurd (false≢true e)
first_decide (d ∷ ds) es x e =
    by_first (eqb x.variable d.variable) (decided_as (same x.positive d.value) d.level) (evaluate ds x) (evaluate (ds ++ es) x) e (first_decide ds es x)

module _ {l : Limits} {c : Catalogue} {s : State} (r : Reached l c s) (level : ℕ) where
  still_true : (x : ℕ) → is_true (up_to_level level s.decisions) x ≡ true → is_true s.decisions x ≡ true
  unfolding is_true
  still_true x e =
      let u = undo_removes r level in
      rw u.is (first_decide (up_to_level level s.decisions) u.removed (pos x) e)

  pub decided_before : (p : ℕ) → decided_true (set_decisions (up_to_level level s.decisions) s) p ≡ true → decided_true s p ≡ true
  unfolding decided_true
  decided_before p e =
      let v : ℕ = part_variable s.variables p in
      and_both (known s.variables (part_origin p)) (is_true s.decisions v) (and_left (known s.variables (part_origin p)) (is_true (up_to_level level s.decisions) v) e)
      (still_true v (and_right (known s.variables (part_origin p)) (is_true (up_to_level level s.decisions) v) e))

  pub idle_undone : (k : ℕ) → Idle c (decided_true s) k s.opening → Idle c (decided_true (set_decisions (up_to_level level s.decisions) s)) k s.opening
  idle_undone k h = idle_fewer c (decided_true (set_decisions (up_to_level level s.decisions) s)) (decided_true s) decided_before k s.opening h
