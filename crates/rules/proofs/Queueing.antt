-- What more opened owners and names leave true, and what reads neither waiting, drawn and added entries nor the line, is kept by every rule
-- but two: those that serve a name which allows several, and a requirement.
use mathlib.Core.Bool.{Bool}
use mathlib.Core.List.{List, [], ◌∷◌}
use Prim.Native.Nat.{ℕ}
use Rattle.rules.specs.Lists.{snoc}
use Rattle.rules.specs.Catalogue.{Owner, part, Catalogue, range_name}
use Rattle.rules.specs.Opening.{Task, owner, name, condition, requirement, constraint, Opening, set_owners, set_names, set_several, set_waiting, set_drawn, set_added, set_line, queue, open_owner, open_name, add, open_names, ranges_of, serve_owner, serve_name, fire, serve_condition, open_ready, serve_requirement, serve, draw, begin_run}
use Rattle.rules.proofs.Membership.{◌⊆◌, ⊆-refl, ⊆-snoc, when_keeps, unless_keeps, fold_keeps}

pub record Stable (P : Opening → Type 0) : Type 0 where
  pub kept : (s : Opening) {ws : List Owner} {ns : List ℕ} {waiting drawn : List (ℕ × ℕ)} {added : List Owner} {l : List Task}
      → s.owners ⊆ ws → s.names ⊆ ns → P s → P (set_owners ws (set_names ns (set_waiting waiting (set_drawn drawn (set_added added (set_line l s))))))

module _ (P : Opening → Type 0) (stable : Stable P) where
  pub queue_keeps : (t : Task) (s : Opening) → P s → P (queue t s)
  unfolding queue
  queue_keeps t s p = stable.kept s ⊆-refl ⊆-refl p

  pub open_owner_keeps : (w : Owner) (s : Opening) → P s → P (open_owner w s)
  unfolding open_owner queue
  open_owner_keeps w s p = unless_keeps P _ _ s (stable.kept s (⊆-snoc s.owners w) ⊆-refl) p

  pub open_name_keeps : (n : ℕ) (s : Opening) → P s → P (open_name n s)
  unfolding open_name queue
  open_name_keeps n s p = unless_keeps P _ _ s (stable.kept s ⊆-refl (⊆-snoc s.names n)) p

  pub add_keeps : (w : Owner) (s : Opening) → P s → P (add w s)
  unfolding add
  add_keeps w s p = stable.kept s ⊆-refl ⊆-refl p

  module _ (c : Catalogue) where
    open_names_keeps : (rs : List ℕ) (s : Opening) → P s → P (open_names c rs s)
    unfolding open_names
    open_names_keeps rs s p = fold_keeps P _ rs (λ r m. open_name_keeps (range_name c r)) s p

    fire_keeps : (q : ℕ) (is : List ℕ) (s : Opening) → P s → P (fire c q is s)
    unfolding fire
    fire_keeps q [] s p = p
    fire_keeps q (i ∷ is) s p = queue_keeps _ _ (open_names_keeps (ranges_of c q) s p)

    pub ready_keeps : (p : ℕ) (s : Opening) → P s → P (open_ready c p s)
    unfolding open_ready
    ready_keeps p s h = when_keeps P _ _ s (open_owner_keeps (part p) s) h

    pub serve_keeps : ((n : ℕ) (s : Opening) → P s → P (set_several (snoc s.several n) s))
        → ((q : ℕ) (is : List ℕ) (s : Opening) → P s → P (serve_requirement c q is s))
        → (f : ℕ → Bool) (t : Task) (s : Opening) → P s → P (serve c f t s)
    unfolding serve serve_owner serve_name serve_condition
    serve_keeps several handled f (owner w) s p = unless_keeps P _ _ s (λ p. fold_keeps P queue _ (λ t m. queue_keeps t) _ (open_names_keeps _ s p)) p
    serve_keeps several handled f (name n) s p = when_keeps P _ _ s (several n s) p
    serve_keeps several handled f (condition q) s p = fire_keeps q _ _ (stable.kept s ⊆-refl ⊆-refl p)
    serve_keeps several handled f (requirement q is) s p = handled q is s p
    serve_keeps several handled f (constraint k) s p = p

    pub begin_keeps : (s : Opening) → P s → P (begin_run c s)
    unfolding begin_run
    begin_keeps s p =
        fold_keeps P _ s.drawn (λ e m. fire_keeps e.0 _) _ (fold_keeps P open_owner s.added (λ w m. open_owner_keeps w) _ (stable.kept s ⊆-refl ⊆-refl p))

    pub draw_keeps : (f : ℕ → Bool) (k : ℕ) (s : Opening) → P s → P (draw c f k s)
    unfolding draw
    draw_keeps f k s p = stable.kept s ⊆-refl ⊆-refl p
