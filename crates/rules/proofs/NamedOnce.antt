-- No part is named for tracking twice in a run, none that joins is tracked already, and none is tracked twice. What joins is what was named.
use mathlib.Core.Path.{◌≡◌, refl, ap}
use mathlib.Core.Logic.{◌⊎◌, inl, inr, ⊎_elim}
use mathlib.Core.Bool.{Bool, true, false, not, ◌||◌, true≢false}
use mathlib.Core.List.{◌++◌}
use Prim.Native.Nat.{ℕ}
use borrow.Author.Tests.{eqb-true, eq-eqb, not-true}
use Rattle.rules.specs.Lists.{elem}
use Rattle.rules.specs.Catalogue.{Owner, Catalogue, name_of}
use Rattle.rules.specs.Opening.{Task, Opening, unopened, mark_handled, add, name_for_tracking, serve_requirement, serve, draw, begin_run, joining, end_run}
use Rattle.rules.specs.Called.{◌∈◌}
use Rattle.rules.proofs.Membership.{in_left, in_right, in_either, filter_in, filter_out, filter_within, elem_out, not_elem, elem_not, map_in, concat_map_in, concat_map_out, unless_either, fold_keeps, Once, empty, once_append, once_snoc, once_filter, once_concat_map, distinct_once, distinct_in}
use Rattle.rules.proofs.Queueing.{Stable, add_keeps, ready_keeps, serve_keeps, begin_keeps, draw_keeps}

-- ---- naming

-- neither the parts that a run named nor those tracked have repeats
abbrev pub NamedOnce : Opening → Type 0
NamedOnce o = Once o.named × Once o.tracked

pub stable : Stable NamedOnce
stable = record { kept = λ s ws ns p. p }

pub start_once : NamedOnce unopened
start_once = (empty, empty)

module _ (c : Catalogue) where
  pub naming_once : (p : ℕ) (s : Opening) → NamedOnce s → NamedOnce (name_for_tracking c p s)
  unfolding name_for_tracking
  naming_once p s h =
      unless_either NamedOnce _ _ s (λ e. h) (λ e. (once_snoc h.0 (not_elem p s.named (or_right (elem (name_of c p) s.several) _ e)), h.1))
    where
      or_right : (a b : Bool) → (a || b) ≡ false → b ≡ false
      or_right true b e = absurd (true≢false e)
      or_right false b e = e

  pub serve_once : (f : ℕ → Bool) (t : Task) (s : Opening) → NamedOnce s → NamedOnce (serve c f t s)
  unfolding serve_requirement mark_handled
  serve_once = serve_keeps NamedOnce stable c (λ n s p. p)
      (λ q is s p. fold_keeps NamedOnce _ _ (λ x m. ready_keeps NamedOnce stable c x) _
      (fold_keeps NamedOnce _ _ (λ x m. naming_once x) _ p))

  pub begin_once : (s : Opening) → NamedOnce s → NamedOnce (begin_run c s)
  begin_once = begin_keeps NamedOnce stable c

  -- ---- joining

  pub joining_from : (s : Opening) (p : ℕ) → p ∈ joining c s → p ∈ s.named
  unfolding joining
  joining_from s p m = let x = concat_map_out _ _ (filter_within _ _ p m) in filter_within _ s.named p x.2

  pub joining_new : (s : Opening) (p : ℕ) → p ∈ joining c s → p ∈ s.tracked → ⊥
  unfolding joining
  joining_new s p m = not_elem p s.tracked (not-true _ (filter_out _ _ m).1)

  pub joining_in : (s : Opening) (p : ℕ) → p ∈ s.named → (p ∈ s.tracked → ⊥) → p ∈ joining c s
  unfolding joining
  joining_in s p m new =
      filter_in _ _ (concat_map_in _ _ (distinct_in _ _ (map_in (name_of c) m)) (filter_in _ s.named m (eq-eqb (name_of c p) _ refl)))
      (ap not (elem_not p s.tracked new))

  pub joining_once : (s : Opening) → Once s.named → Once (joining c s)
  unfolding joining
  joining_once s p =
      once_filter _ (once_concat_map _ (name_of c) (λ n q m. eqb-true (name_of c q) n (filter_out _ s.named m).1) (λ n. once_filter _ p) (distinct_once _))

  -- at a run's end what it named is tracked, and nothing else new
  pub joined_in : (s : Opening) (p : ℕ) → (p ∈ s.tracked) ⊎ (p ∈ s.named) → p ∈ (end_run c s).tracked
  unfolding end_run
  joined_in s p (inl m) = in_left _ m
  joined_in s p (inr m) = go (elem p s.tracked) refl
    where
      go : (b : Bool) → elem p s.tracked ≡ b → p ∈ (s.tracked ++ joining c s)
      go true e = in_left _ (elem_out p s.tracked e)
      go false e = in_right s.tracked (joining_in s p m (not_elem p s.tracked e))

  pub joined_out : (s : Opening) (p : ℕ) → p ∈ (end_run c s).tracked → (p ∈ s.tracked) ⊎ (p ∈ s.named)
  unfolding end_run
  joined_out s p m = ⊎_elim inl (λ k. inr (joining_from s p k)) (in_either s.tracked m)

  pub end_once : (s : Opening) → NamedOnce s → NamedOnce (end_run c s)
  unfolding end_run
  end_once s p = (empty, once_append p.1 (joining_once s p.0) (λ q m k. joining_new s q k m))

  pub draw_once : (f : ℕ → Bool) (k : ℕ) (s : Opening) → NamedOnce s → NamedOnce (draw c f k s)
  draw_once = draw_keeps NamedOnce stable c

pub add_once : (w : Owner) (s : Opening) → NamedOnce s → NamedOnce (add w s)
add_once = add_keeps NamedOnce stable
