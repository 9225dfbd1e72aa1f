-- 01, "Tracked are the candidates of a handled requirement and the non-matching parts of a fired range, unless their name has by then
-- been opened with several allowed": no other part is named or tracked, and none of these is left out.
use mathlib.Core.Path.{◌≡◌, refl}
use mathlib.Core.Logic.{◌⊎◌, inl, inr, ⊎_elim}
use mathlib.Core.Bool.{Bool, true, false, ◌||◌}
use mathlib.Core.List.Memᴰ
use mathlib.Core.List.{List, [], ◌∷◌, ◌++◌}
use Prim.Native.Nat.{ℕ}
use Rattle.rules.specs.Lists.{elem, snoc}
use Rattle.rules.specs.Catalogue.{Owner, Catalogue, name_of, goal_at}
use Rattle.rules.specs.Candidates.{non_matching, candidates}
use Rattle.rules.specs.Conditions.{disjunct_at}
use Rattle.rules.specs.Opening.{Task, Opening, unopened, mark_handled, add, fired_parts, name_for_tracking, serve_requirement, serve, draw, begin_run, end_run}
use Rattle.rules.specs.Called.{◌∈◌}
use Rattle.rules.proofs.Membership.{◌⊆◌, in_left, in_right, at_end, in_either, before_or_end, entries_out, elem_out, map_in, concat_map_in, concat_map_out, unless_either, fold_keeps, fold_through}
use Rattle.rules.proofs.Queueing.{Stable, add_keeps, ready_keeps, serve_keeps, begin_keeps, draw_keeps}
use Rattle.rules.proofs.NamedOnce.{joined_in, joined_out}

module _ (c : Catalogue) where
  -- a part that a handled requirement, or a fired disjunct, asks to track
  pub data Asked (handled : List ℕ) (fired : List (ℕ × ℕ)) (p : ℕ) : Type 0 where
    candidate : {q : ℕ} → q ∈ handled → p ∈ candidates c (goal_at c q) → Asked handled fired p
    outside : {q i r : ℕ} → (q, i) ∈ fired → r ∈ disjunct_at c q i → p ∈ non_matching c r → Asked handled fired p

  -- `due`: parts that the requirement being handled has still to name
  pub data Noticed (due several named tracked : List ℕ) (p : ℕ) : Type 0 where
    is_named : p ∈ named → Noticed due several named tracked p
    is_tracked : p ∈ tracked → Noticed due several named tracked p
    with_several_law : name_of c p ∈ several → Noticed due several named tracked p
    is_due : p ∈ due → Noticed due several named tracked p

  pub record Tracks (due handled : List ℕ) (fired : List (ℕ × ℕ)) (several named tracked : List ℕ) : Type 0 where
    pub only_named : (p : ℕ) → p ∈ named → Asked handled fired p
    pub only_tracked : (p : ℕ) → p ∈ tracked → Asked handled fired p
    pub only_due : (p : ℕ) → p ∈ due → Asked handled fired p
    pub each : (p : ℕ) → Asked handled fired p → Noticed due several named tracked p

  abbrev Tracking : List ℕ → Opening → Type 0
  Tracking due s = Tracks due s.handled s.fired s.several s.named s.tracked

  -- between two tasks
  abbrev pub TracksAll : Opening → Type 0
  TracksAll s = Tracking [] s

  asked_more : {handled handled' : List ℕ} {fired fired' : List (ℕ × ℕ)} → handled ⊆ handled' → fired ⊆ fired'
      → (p : ℕ) → Asked handled fired p → Asked handled' fired' p
  asked_more hs fs p (candidate m k) = candidate (hs _ m) k
  asked_more hs fs p (outside m r k) = outside (fs _ m) r k

  -- a requirement is handled: its parts are due
  marked : (q : ℕ) (is : List ℕ) (s : Opening) → TracksAll s → Tracking (candidates c (goal_at c q) ++ fired_parts c q is) (mark_handled q is s)
  unfolding mark_handled fired_parts snoc
  marked q is s h =
      record { only_named = λ p m. more p (h.only_named p m); only_tracked = λ p m. more p (h.only_tracked p m); only_due = due; each = each }
    where
      more : (p : ℕ) → Asked s.handled s.fired p → Asked (mark_handled q is s).handled (mark_handled q is s).fired p
      more = asked_more (λ r m. in_left _ m) (λ e m. in_left _ m)

      due : (p : ℕ) → p ∈ (candidates c (goal_at c q) ++ fired_parts c q is) → Asked (mark_handled q is s).handled (mark_handled q is s).fired p
      due p m =
          ⊎_elim
          (λ k. candidate (at_end s.handled q) k)
          (λ k. let x = concat_map_out _ is k in
          let y = concat_map_out (non_matching c) _ x.2 in
          outside (in_right s.fired (map_in (λ i. (q, i)) x.1)) y.1 y.2)
          (in_either (candidates c (goal_at c q)) m)

      old : {due : List ℕ} (p : ℕ) → Noticed [] s.several s.named s.tracked p → Noticed due s.several s.named s.tracked p
      old p (is_named m) = is_named m
      old p (is_tracked m) = is_tracked m
      old p (with_several_law m) = with_several_law m
      old p (is_due m) = absurd (Memᴰ.not-nil m)

      each : (p : ℕ) → Asked (mark_handled q is s).handled (mark_handled q is s).fired p
          → Noticed (candidates c (goal_at c q) ++ fired_parts c q is) s.several s.named s.tracked p
      each p (candidate {q = r} m k) =
          ⊎_elim (λ n. old p (h.each p (candidate n k))) (λ (e : r ≡ q). is_due (in_left _ (rw e at k))) (before_or_end s.handled m)
      each p (outside {q = r} {i = i} m k n) =
          ⊎_elim (λ l. old p (h.each p (outside l k n)))
          (λ l. let x = entries_out q is l in
          is_due (in_right (candidates c (goal_at c q)) (concat_map_in _ is x.1 (concat_map_in (non_matching c) _ (rw x.0 at k) n))))
          (in_either s.fired m)

  -- the first part that is due is named
  naming_tracks : (p : ℕ) (due : List ℕ) (s : Opening) → Tracking (p ∷ due) s → Tracking due (name_for_tracking c p s)
  unfolding name_for_tracking snoc
  naming_tracks p due s h = unless_either (Tracking due) _ _ s (λ e. without (elem (name_of c p) s.several) refl e) (λ e. named)
    where
      rest : (named' : List ℕ) → s.named ⊆ named' → Noticed due s.several named' s.tracked p
          → (x : ℕ) → Noticed (p ∷ due) s.several s.named s.tracked x → Noticed due s.several named' s.tracked x
      rest named' up this x (is_named m) = is_named (up x m)
      rest named' up this x (is_tracked m) = is_tracked m
      rest named' up this x (with_several_law m) = with_several_law m
      rest named' up this x (is_due m) = ⊎_elim (λ (e : x ≡ p). rw e this) is_due (Memᴰ.cases_cons m)

      later : (named' : List ℕ) → s.named ⊆ named' → (named' ⊆ (s.named ++ (p ∷ []))) → Noticed due s.several named' s.tracked p
          → Tracks due s.handled s.fired s.several named' s.tracked
      later named' up down this = record {
        only_named = λ x m. ⊎_elim (h.only_named x) (λ (e : x ≡ p). rw e (h.only_due p (Memᴰ.head refl))) (before_or_end s.named (down x m));
        only_tracked = h.only_tracked;
        only_due = λ x m. h.only_due x (Memᴰ.tail m);
        each = λ x a. rest named' up this x (h.each x a);
      }

      named : Tracks due s.handled s.fired s.several (s.named ++ (p ∷ [])) s.tracked
      named = later (s.named ++ (p ∷ [])) (λ x m. in_left _ m) (λ x m. m) (is_named (at_end s.named p))

      without : (b : Bool) → elem (name_of c p) s.several ≡ b → (b || elem p s.named) ≡ true → Tracking due s
      without b e f = later s.named (λ x m. m) (λ x m. in_left _ m) (noticed b e f)
        where
          noticed : (b : Bool) → elem (name_of c p) s.several ≡ b → (b || elem p s.named) ≡ true → Noticed due s.several s.named s.tracked p
          noticed true e f = with_several_law (elem_out _ s.several e)
          noticed false e f = is_named (elem_out p s.named f)

  stable : Stable TracksAll
  stable = record { kept = λ s ws ns p. p }

  handled_tracks : (q : ℕ) (is : List ℕ) (s : Opening) → TracksAll s → TracksAll (serve_requirement c q is s)
  unfolding serve_requirement
  handled_tracks q is s h =
      fold_keeps TracksAll _ _ (λ p m. ready_keeps TracksAll stable c p) _ (fold_through Tracking _ naming_tracks _ _ (marked q is s h))

  several_tracks : (n : ℕ) (s : Opening) → TracksAll s → Tracks [] s.handled s.fired (snoc s.several n) s.named s.tracked
  unfolding snoc
  several_tracks n s h = record {
    only_named = h.only_named;
    only_tracked = h.only_tracked;
    only_due = h.only_due;
    each = λ p a. elim (h.each p a) [
      | is_named m ↦ is_named m
      | is_tracked m ↦ is_tracked m
      | with_several_law m ↦ with_several_law (in_left _ m)
      | is_due m ↦ is_due m
    ];
  }

  -- ---- every step

  pub start_tracks : TracksAll unopened
  start_tracks = record { only_named = none_in_law; only_tracked = none_in_law; only_due = none_in_law; each = asked }
    where
      none_in_law : (p : ℕ) → p ∈ [] → Asked [] [] p
      none_in_law p m = absurd (Memᴰ.not-nil m)

      asked : (p : ℕ) → Asked [] [] p → Noticed [] [] [] [] p
      asked p (candidate m k) = absurd (Memᴰ.not-nil m)
      asked p (outside m k n) = absurd (Memᴰ.not-nil m)

  pub serve_tracks : (f : ℕ → Bool) (t : Task) (s : Opening) → TracksAll s → TracksAll (serve c f t s)
  serve_tracks = serve_keeps TracksAll stable c several_tracks handled_tracks

  pub begin_tracks : (s : Opening) → TracksAll s → TracksAll (begin_run c s)
  begin_tracks = begin_keeps TracksAll stable c

  pub draw_tracks : (f : ℕ → Bool) (k : ℕ) (s : Opening) → TracksAll s → TracksAll (draw c f k s)
  draw_tracks = draw_keeps TracksAll stable c

  pub add_tracks : (w : Owner) (s : Opening) → TracksAll s → TracksAll (add w s)
  add_tracks = add_keeps TracksAll stable

  pub end_tracks : (s : Opening) → TracksAll s → TracksAll (end_run c s)
  unfolding end_run
  end_tracks s h = record {
    only_named = λ p m. absurd (Memᴰ.not-nil m);
    only_tracked = λ p m. ⊎_elim (h.only_tracked p) (h.only_named p) (joined_out c s p m);
    only_due = h.only_due;
    each = λ p a. elim (h.each p a) [
      | is_named m ↦ is_tracked (joined_in c s p (inr m))
      | is_tracked m ↦ is_tracked (joined_in c s p (inl m))
      | with_several_law m ↦ with_several_law m
      | is_due m ↦ is_due m
    ];
  }

  -- ---- after a run

  pub tracked_asked : (s : Opening) → TracksAll s → (p : ℕ) → p ∈ s.tracked → Asked s.handled s.fired p
  tracked_asked s h = h.only_tracked

  pub asked_tracked : (s : Opening) → TracksAll s → s.named ≡ []
      → (p : ℕ) → Asked s.handled s.fired p → (p ∈ s.tracked) ⊎ (name_of c p ∈ s.several)
  asked_tracked s h e p a = elim (h.each p a) [
    | is_named m ↦ absurd (Memᴰ.not-nil (rw e at m))
    | is_tracked m ↦ inl m
    | with_several_law m ↦ inr m
    | is_due m ↦ absurd (Memᴰ.not-nil m)
  ]
