-- Where nothing of a condition is to be drawn, drawing it changes nothing. After a draw of it nothing of it is, and another draw keeps that.
use mathlib.Core.Path.{◌≡◌, refl}
use mathlib.Core.Bool.{Bool, false, not}
use mathlib.Core.List.{List, [], ◌∷◌, append-nil}
use Prim.Native.Nat.{ℕ}
use Rattle.rules.specs.Lists.{filter}
use Rattle.rules.specs.Catalogue.{Catalogue}
use Rattle.rules.specs.Opening.{Opening, is_drawn, draw}
use Rattle.rules.proofs.Bools.{by_cases}
use Rattle.rules.proofs.Each.{Each, each_filter}
use Rattle.commands.specs.Commands.{Idle}

module _ {A : Type 0} (p : A → Bool) where
  none_pass : {xs : List A} → Each (λ x. p x ≡ false) xs → filter p xs ≡ []
  unfolding filter
  none_pass Each.nil = refl
  none_pass (Each.cons e es) = rw (e, filter) (none_pass es)

  all_stay : {xs : List A} → Each (λ x. p x ≡ false) xs → filter (λ x. not (p x)) xs ≡ xs
  unfolding filter
  all_stay Each.nil = refl
  all_stay (Each.cons e es) = rw (e, filter, all_stay es)

  -- those that stay do not pass
  pub stay_fails : (xs : List A) → Each (λ x. p x ≡ false) (filter (λ x. not (p x)) xs)
  unfolding filter
  stay_fails [] = Each.nil
  stay_fails (x ∷ xs) = by_cases (p x) (λ e. rw (e, filter) (stay_fails xs)) (λ e. rw (e, filter) (Each.cons e (stay_fails xs)))

module _ (c : Catalogue) (f : ℕ → Bool) (k : ℕ) (s : Opening) where
  pub idle_draw : Idle c f k s → draw c f k s ≡ s
  unfolding draw
  idle_draw h = rw (none_pass (is_drawn c f k) h.none, all_stay (is_drawn c f k) h.none, append-nil s.drawn)

  pub idle_after : Idle c f k (draw c f k s)
  unfolding draw
  idle_after = record { none = stay_fails (is_drawn c f k) s.waiting }

  pub idle_kept : (j : ℕ) → Idle c f k s → Idle c f k (draw c f j s)
  unfolding draw
  idle_kept j h = record { none = each_filter (λ (e : ℕ × ℕ). not (is_drawn c f j e)) h.none }
