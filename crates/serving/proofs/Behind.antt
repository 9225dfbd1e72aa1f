-- A task that is served looks at no other task of the line: what it queues goes behind them.
use mathlib.Core.Path.{◌≡◌, refl, ◌∙◌, ap}
use mathlib.Core.Bool.{Bool}
use mathlib.Core.List.{List, [], ◌∷◌, ◌++◌, append_assoc}
use Prim.Native.Nat.{ℕ}
use Rattle.rules.specs.Lists.{snoc, fold}
use Rattle.rules.specs.Catalogue.{Owner, part, Catalogue, range_name, goal_at}
use Rattle.rules.specs.Candidates.{candidates}
use Rattle.rules.specs.Opening.{Task, owner, name, condition, requirement, constraint, Opening, set_owners, set_names, set_line}
use Rattle.rules.specs.Opening.{queue, open_owner, open_name, mark_handled, open_names, ranges_of, ranges_first, tasks_of, serve_owner, serve_name, fire, serve_condition}
use Rattle.rules.specs.Opening.{fired_parts, name_for_tracking, open_ready, serve_requirement, serve}
use Rattle.rules.specs.Encoding.{Event, served}
use Rattle.rules.specs.State.{State, set_opening, decided_true, Run, emit}
use Rattle.rules.specs.Run.{serve_task}
use Rattle.rules.proofs.ClauseByClause.{effects_changed}
use Rattle.rules.proofs.Forgotten.{when_commutes, unless_commutes, fold_commutes}

-- the tasks ts stand in the line before the others
abbrev pub behind : List Task → Opening → Opening
behind ts o = set_line (ts ++ o.line) o

abbrev pub behind_all : List Task → State → State
behind_all ts s = set_opening (behind ts s.opening) s

module _ (ts : List Task) where
  queue_behind : (t : Task) (o : Opening) → queue t (behind ts o) ≡ behind ts (queue t o)
  unfolding queue snoc
  queue_behind t o = rw (append_assoc ts o.line (t ∷ []))

  open_owner_behind : (w : Owner) (o : Opening) → open_owner w (behind ts o) ≡ behind ts (open_owner w o)
  unfolding open_owner
  open_owner_behind w o = unless_commutes (behind ts) _ _ (λ u. queue_behind (owner w) (set_owners (snoc u.owners w) u)) o

  open_name_behind : (n : ℕ) (o : Opening) → open_name n (behind ts o) ≡ behind ts (open_name n o)
  unfolding open_name
  open_name_behind n o = unless_commutes (behind ts) _ _ (λ u. queue_behind (name n) (set_names (snoc u.names n) u)) o

  module _ (c : Catalogue) where
    open_names_behind : (rs : List ℕ) (o : Opening) → open_names c rs (behind ts o) ≡ behind ts (open_names c rs o)
    unfolding open_names
    open_names_behind rs o = fold_commutes (behind ts) _ (λ r. open_name_behind (range_name c r)) rs o

    fire_behind : (q : ℕ) (is : List ℕ) (o : Opening) → fire c q is (behind ts o) ≡ behind ts (fire c q is o)
    unfolding fire
    fire_behind q [] o = refl
    fire_behind q (i ∷ is) o =
        ap (queue (requirement q (i ∷ is))) (open_names_behind (ranges_of c q) o) ∙ queue_behind (requirement q (i ∷ is)) (open_names c (ranges_of c q) o)

    owner_behind : (w : Owner) (o : Opening) → serve_owner c w (behind ts o) ≡ behind ts (serve_owner c w o)
    unfolding serve_owner
    owner_behind w o =
        unless_commutes (behind ts) _ _
        (λ u. ap (fold queue (tasks_of c w)) (open_names_behind (ranges_first c w) u)
        ∙ fold_commutes (behind ts) queue queue_behind (tasks_of c w) (open_names c (ranges_first c w) u)) o

    naming_behind : (p : ℕ) (o : Opening) → name_for_tracking c p (behind ts o) ≡ behind ts (name_for_tracking c p o)
    unfolding name_for_tracking
    naming_behind p o = unless_commutes (behind ts) _ _ (λ u. refl) o

    ready_behind : (p : ℕ) (o : Opening) → open_ready c p (behind ts o) ≡ behind ts (open_ready c p o)
    unfolding open_ready
    ready_behind p o = when_commutes (behind ts) _ (open_owner (part p)) (open_owner_behind (part p)) o

    requirement_behind : (q : ℕ) (is : List ℕ) (o : Opening) → serve_requirement c q is (behind ts o) ≡ behind ts (serve_requirement c q is o)
    unfolding serve_requirement mark_handled
    requirement_behind q is o =
        let ps = candidates c (goal_at c q) in
        ap (fold (open_ready c) ps) (fold_commutes (behind ts) (name_for_tracking c) naming_behind (ps ++ fired_parts c q is) _)
        ∙ fold_commutes (behind ts) (open_ready c) ready_behind ps _

    serve_behind : (f : ℕ → Bool) (t : Task) (o : Opening) → serve c f t (behind ts o) ≡ behind ts (serve c f t o)
    unfolding serve serve_name serve_condition
    serve_behind f (owner w) o = owner_behind w o
    serve_behind f (name n) o = when_commutes (behind ts) _ _ (λ u. refl) o
    serve_behind f (condition q) o = fire_behind q _ _
    serve_behind f (requirement q is) o = requirement_behind q is o
    serve_behind f (constraint k) o = refl

    module _ (r : Run) where
      emit_behind : (e : Event) (s : State) → emit c r e (behind_all ts s) ≡ behind_all ts (emit c r e s)
      unfolding emit
      emit_behind e s = effects_changed (behind ts) (λ ks. ks) r _ _ _

      pub serve_task_behind : (t : Task) (s : State) → serve_task c r t (behind_all ts s) ≡ behind_all ts (serve_task c r t s)
      unfolding serve_task decided_true
      serve_task_behind t s =
          ap (λ o. emit c r (served t) (set_opening o s)) (serve_behind (decided_true s) t s.opening)
          ∙ emit_behind (served t) (set_opening (serve c (decided_true s) t s.opening) s)
