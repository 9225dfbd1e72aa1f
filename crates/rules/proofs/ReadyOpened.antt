-- 01, "A handled requirement opens those candidates that are ready".
use mathlib.Core.Path.{◌≡◌, sym, ◌∙◌}
use mathlib.Core.Logic.{◌⊎◌, inl, inr, ⊎_elim}
use mathlib.Core.Bool.{Bool, true, true≢false}
use mathlib.Core.List.Memᴰ
use mathlib.Core.List.{List, [], ◌∷◌, ◌++◌}
use Prim.Native.Nat.{ℕ}
use Rattle.rules.specs.Lists.{snoc}
use Rattle.rules.specs.Catalogue.{Owner, part, Catalogue, part_at, goal_at, same_owner}
use Rattle.rules.specs.Candidates.{candidates}
use Rattle.rules.specs.Opening.{Task, Opening, unopened, queue, open_owner, mark_handled, add, name_for_tracking, open_ready, serve_requirement, serve, draw, begin_run, end_run}
use Rattle.rules.specs.Called.{◌∈◌}
use Rattle.rules.proofs.Membership.{◌⊆◌, ⊆-refl, in_left, at_end, before_or_end, any_out, when_either, unless_either, unless_keeps, fold_keeps, fold_through}
use Rattle.rules.proofs.OwnerTasks.{same_owner_law}
use Rattle.rules.proofs.Queueing.{Stable, add_keeps, serve_keeps, begin_keeps, draw_keeps}

module _ (c : Catalogue) where
  -- `due`: candidates of the requirement being handled that are still to be looked at
  abbrev Opens : List ℕ → Opening → Type 0
  Opens due s = (q : ℕ) → q ∈ s.handled → (p : ℕ) → p ∈ candidates c (goal_at c q) → (part_at c p).ready ≡ true → (part p ∈ s.owners) ⊎ (p ∈ due)

  -- every ready candidate of a handled requirement is opened
  abbrev pub ReadyOpened : Opening → Type 0
  ReadyOpened s = (q : ℕ) → q ∈ s.handled → (p : ℕ) → p ∈ candidates c (goal_at c q) → (part_at c p).ready ≡ true → part p ∈ s.owners

  none_due : (s : Opening) → Opens [] s → ReadyOpened s
  none_due s h q m p k e = ⊎_elim (λ o. o) (λ n. absurd (Memᴰ.not-nil n)) (h q m p k e)

  open_due : (x : ℕ) (due : List ℕ) (s : Opening) → Opens (x ∷ due) s → Opens due (open_ready c x s)
  unfolding open_ready open_owner queue snoc
  open_due x due s h =
      when_either (Opens due) _ _ s
      (λ e. unless_either (Opens due) _ _ s
      (λ f. opened s.owners ⊆-refl (let w = any_out (same_owner (part x)) s.owners f in rw (← same_owner_law (part x) w.0 w.2) w.1))
      (λ f. opened (s.owners ++ (part x ∷ [])) (λ w m. in_left _ m) (at_end s.owners (part x))))
      (λ e q m p k f. ⊎_elim inl (λ n. ⊎_elim (λ (a : p ≡ x). absurd (true≢false (sym f ∙ rw a e))) inr (Memᴰ.cases_cons n)) (h q m p k f))
    where
      opened : (ws : List Owner) → s.owners ⊆ ws → part x ∈ ws
          → (q : ℕ) → q ∈ s.handled → (p : ℕ) → p ∈ candidates c (goal_at c q) → (part_at c p).ready ≡ true → (part p ∈ ws) ⊎ (p ∈ due)
      opened ws up this q m p k f =
          ⊎_elim (λ n. inl (up _ n)) (λ n. ⊎_elim (λ (a : p ≡ x). inl (rw a this)) inr (Memᴰ.cases_cons n)) (h q m p k f)

  stable : Stable ReadyOpened
  stable = record { kept = λ s ws ns h q m p k e. ws _ (h q m p k e) }

  handled_opens : (q : ℕ) (is : List ℕ) (s : Opening) → ReadyOpened s → ReadyOpened (serve_requirement c q is s)
  unfolding serve_requirement
  handled_opens q is s h =
      none_due (serve_requirement c q is s)
      (fold_through Opens _ open_due _ _ (fold_keeps (Opens (candidates c (goal_at c q))) _ _ (λ p m. named p) (mark_handled q is s) marked))
    where
      named : {due : List ℕ} (p : ℕ) (s : Opening) → Opens due s → Opens due (name_for_tracking c p s)
      named {due} p s h = unfold name_for_tracking in unless_keeps (Opens due) _ _ s (λ h. h) h

      marked : Opens (candidates c (goal_at c q)) (mark_handled q is s)
      marked x m p k e =
          unfold mark_handled snoc in
          ⊎_elim (λ n. inl (h x n p k e)) (λ (a : x ≡ q). inr (rw a at k)) (before_or_end s.handled m)

  -- ---- every step

  pub start_ready : ReadyOpened unopened
  start_ready q m = absurd (Memᴰ.not-nil m)

  pub serve_ready : (f : ℕ → Bool) (t : Task) (s : Opening) → ReadyOpened s → ReadyOpened (serve c f t s)
  serve_ready = serve_keeps ReadyOpened stable c (λ n s h. h) handled_opens

  pub begin_ready : (s : Opening) → ReadyOpened s → ReadyOpened (begin_run c s)
  begin_ready = begin_keeps ReadyOpened stable c

  pub draw_ready : (f : ℕ → Bool) (k : ℕ) (s : Opening) → ReadyOpened s → ReadyOpened (draw c f k s)
  draw_ready = draw_keeps ReadyOpened stable c

  pub add_ready : (w : Owner) (s : Opening) → ReadyOpened s → ReadyOpened (add w s)
  add_ready = add_keeps ReadyOpened stable

  pub end_ready : (s : Opening) → ReadyOpened s → ReadyOpened (end_run c s)
  unfolding end_run
  end_ready s h = h
