-- What was handled and what has fired need not be kept: with both lists emptied (`forget`) before a step, the step gives the same but for those two
-- lists; and nothing that is printed, tested or refused depends on them.
use mathlib.Core.Path.{◌≡◌, refl, sym, ◌∙◌, ap}
use mathlib.Core.Bool.{Bool, true, false}
use mathlib.Core.List.{List, [], ◌∷◌, ◌++◌}
use Prim.Native.Nat.{ℕ, zero, suc}
use Rattle.rules.specs.Lists.{fold, when, unless}
use Rattle.rules.specs.Catalogue.{Owner, part, Catalogue, range_name, goal_at}
use Rattle.rules.specs.Candidates.{candidates}
use Rattle.rules.specs.Refusals.{Refusal, Result, ok, refuse, unless_any}
use Rattle.rules.specs.Records.{Command}
use Rattle.rules.specs.Items.{owner_of}
use Rattle.rules.specs.Opening.{Task, owner, name, condition, requirement, constraint, Opening, set_handled, set_fired, set_added, set_drawn}
use Rattle.rules.specs.Opening.{queue, open_owner, open_name, mark_handled, add, open_names, ranges_of, ranges_first, tasks_of, serve_owner, serve_name, fire, serve_condition}
use Rattle.rules.specs.Opening.{fired_parts, name_for_tracking, open_ready, serve_requirement, serve, draw, begin_run, joining, end_run}
use Rattle.rules.specs.Encoding.{Event, served}
use Rattle.rules.specs.State.{State, set_opening, decided_true, Run, emit, emit_all}
use Rattle.rules.specs.Run.{line_taken, serve_task, serve_line, join_all, link_all, begun, most_tasks, run_once}
use Rattle.rules.specs.Limits.{Limits, above}
use Rattle.rules.specs.Sheet.{too_low, decide, command_refusals, carried_out, carry_out}
use Rattle.rules.specs.Listing.{listing}
use Rattle.rules.proofs.Line.{run_from, run_end}
use Rattle.rules.proofs.Capped.{Capped, full, within, capped_by, capped}
use Rattle.rules.proofs.StoppedRun.{run_capped, run_capped_law}
use Rattle.rules.proofs.ClauseByClause.{effects_changed}

-- ---- a change that may be made before a step or after it

module _ {S : Type 0} (g : S → S) where
  pub when_commutes : (b : Bool) (f : S → S) → ((s : S) → f (g s) ≡ g (f s)) → (s : S) → when b f (g s) ≡ g (when b f s)
  unfolding when
  when_commutes true f h s = h s
  when_commutes false f h s = refl

  pub unless_commutes : (b : Bool) (f : S → S) → ((s : S) → f (g s) ≡ g (f s)) → (s : S) → unless b f (g s) ≡ g (unless b f s)
  unfolding unless
  unless_commutes true f h s = refl
  unless_commutes false f h s = h s

  pub fold_commutes : {A : Type 0} (f : A → S → S) → ((x : A) (s : S) → f x (g s) ≡ g (f x s)) → (xs : List A) (s : S) → fold f xs (g s) ≡ g (fold f xs s)
  unfolding fold
  fold_commutes f h [] s = refl
  fold_commutes f h (x ∷ xs) s = ap (fold f xs) (h x s) ∙ fold_commutes f h xs (f x s)

-- ---- the opening

abbrev pub erased : Opening → Opening
erased o = set_handled [] (set_fired [] o)

queue_erased : (t : Task) (s : Opening) → queue t (erased s) ≡ erased (queue t s)
unfolding queue
queue_erased t s = refl

open_owner_erased : (w : Owner) (s : Opening) → open_owner w (erased s) ≡ erased (open_owner w s)
unfolding open_owner queue
open_owner_erased w s = unless_commutes erased _ _ (λ u. refl) s

open_name_erased : (n : ℕ) (s : Opening) → open_name n (erased s) ≡ erased (open_name n s)
unfolding open_name queue
open_name_erased n s = unless_commutes erased _ _ (λ u. refl) s

pub add_erased : (w : Owner) (s : Opening) → add w (erased s) ≡ erased (add w s)
unfolding add
add_erased w s = refl

module _ (c : Catalogue) where
  open_names_erased : (rs : List ℕ) (s : Opening) → open_names c rs (erased s) ≡ erased (open_names c rs s)
  unfolding open_names
  open_names_erased rs s = fold_commutes erased _ (λ r. open_name_erased (range_name c r)) rs s

  fire_erased : (q : ℕ) (is : List ℕ) (s : Opening) → fire c q is (erased s) ≡ erased (fire c q is s)
  unfolding fire
  fire_erased q [] s = refl
  fire_erased q (i ∷ is) s =
      ap (queue (requirement q (i ∷ is))) (open_names_erased (ranges_of c q) s) ∙ queue_erased (requirement q (i ∷ is)) (open_names c (ranges_of c q) s)

  pub owner_erased : (w : Owner) (s : Opening) → serve_owner c w (erased s) ≡ erased (serve_owner c w s)
  unfolding serve_owner
  owner_erased w s =
      unless_commutes erased _ _
      (λ u. ap (fold queue (tasks_of c w)) (open_names_erased (ranges_first c w) u)
      ∙ fold_commutes erased queue queue_erased (tasks_of c w) (open_names c (ranges_first c w) u)) s

  naming_erased : (p : ℕ) (s : Opening) → name_for_tracking c p (erased s) ≡ erased (name_for_tracking c p s)
  unfolding name_for_tracking
  naming_erased p s = unless_commutes erased _ _ (λ u. refl) s

  ready_erased : (p : ℕ) (s : Opening) → open_ready c p (erased s) ≡ erased (open_ready c p s)
  unfolding open_ready
  ready_erased p s = when_commutes erased _ (open_owner (part p)) (open_owner_erased (part p)) s

  -- a requirement handled, without marking it
  unfoldable pub handle_alone : ℕ → List ℕ → Opening → Opening
  handle_alone q is s = let ps = candidates c (goal_at c q) in fold (open_ready c) ps (fold (name_for_tracking c) (ps ++ fired_parts c q is) s)

  handle_erased : (q : ℕ) (is : List ℕ) (s : Opening) → handle_alone q is (erased s) ≡ erased (handle_alone q is s)
  unfolding handle_alone
  handle_erased q is s =
      let ps = candidates c (goal_at c q) in
      ap (fold (open_ready c) ps) (fold_commutes erased (name_for_tracking c) naming_erased (ps ++ fired_parts c q is) s)
      ∙ fold_commutes erased (open_ready c) ready_erased ps (fold (name_for_tracking c) (ps ++ fired_parts c q is) s)

  pub requirement_erased : (q : ℕ) (is : List ℕ) (s : Opening) → erased (serve_requirement c q is s) ≡ handle_alone q is (erased s)
  unfolding serve_requirement mark_handled handle_alone
  requirement_erased q is s = sym (handle_erased q is (mark_handled q is s))

  pub serve_erased : (f : ℕ → Bool) (t : Task) (s : Opening) → erased (serve c f t s) ≡ erased (serve c f t (erased s))
  unfolding serve serve_name serve_condition
  serve_erased f (owner w) s = ap erased (sym (owner_erased w s))
  serve_erased f (name n) s = ap erased (sym (when_commutes erased _ _ (λ u. refl) s))
  serve_erased f (condition q) s = ap erased (sym (fire_erased q _ _))
  serve_erased f (requirement q is) s = requirement_erased q is s ∙ sym (requirement_erased q is (erased s))
  serve_erased f (constraint k) s = refl

  pub draw_erased : (f : ℕ → Bool) (k : ℕ) (s : Opening) → draw c f k (erased s) ≡ erased (draw c f k s)
  unfolding draw
  draw_erased f k s = refl

  pub begin_erased : (s : Opening) → begin_run c (erased s) ≡ erased (begin_run c s)
  unfolding begin_run
  begin_erased s =
      let u = set_added [] (set_drawn [] s) in
      let f : ℕ × ℕ → Opening → Opening = λ e. fire c e.0 (e.1 ∷ []) in
      ap (fold f s.drawn) (fold_commutes erased open_owner open_owner_erased s.added u)
      ∙ fold_commutes erased f (λ e. fire_erased e.0 (e.1 ∷ [])) s.drawn (fold open_owner s.added u)

  pub end_erased : (s : Opening) → end_run c (erased s) ≡ erased (end_run c s)
  unfolding end_run joining
  end_erased s = refl

-- ---- the state

abbrev pub forget : State → State
forget s = set_opening (erased s.opening) s

-- nothing that is printed, tested or decided by depends on what is forgotten
pub forget_listing : (c : Catalogue) (s : State) → listing c (forget s) ≡ listing c s
unfolding listing
forget_listing c s = refl

pub forget_above : (l : Limits) (s : State) → above l (forget s) ≡ above l s
unfolding above
forget_above l s = refl

pub forget_true : (s : State) → decided_true (forget s) ≡ decided_true s
unfolding decided_true
forget_true s = refl

module _ (c : Catalogue) where
  pub begun_forgets : (s : State) → begun c (forget s) ≡ forget (begun c s)
  unfolding begun
  begun_forgets s = rw (begin_erased c s.opening)

  module _ (r : Run) where
    pub emit_forgets : (e : Event) (s : State) → emit c r e (forget s) ≡ forget (emit c r e s)
    unfolding emit
    emit_forgets e s = effects_changed erased (λ ks. ks) r _ _ _

    pub emit_all_forgets : (es : List Event) (s : State) → emit_all c r es (forget s) ≡ forget (emit_all c r es s)
    unfolding emit_all
    emit_all_forgets es s = fold_commutes forget (emit c r) emit_forgets es s

    pub join_all_forgets : (s : State) → join_all c r (forget s) ≡ forget (join_all c r s)
    unfolding join_all joining end_run
    join_all_forgets s = emit_all_forgets _ (set_opening (end_run c s.opening) s)

    pub link_all_forgets : (s : State) → link_all c r (forget s) ≡ forget (link_all c r s)
    unfolding link_all
    link_all_forgets s = emit_all_forgets _ s

    pub serve_task_forgets : (t : Task) (s : State) → forget (serve_task c r t s) ≡ forget (serve_task c r t (forget s))
    unfolding serve_task
    serve_task_forgets t s =
        let tasked : Opening → State = λ o. set_opening (serve c (decided_true s) t o) s in
        sym (emit_forgets (served t) (tasked s.opening))
        ∙ (ap (λ (o : Opening). emit c r (served t) (set_opening o s)) (serve_erased c (decided_true s) t s.opening)
        ∙ rw (forget_true s) (emit_forgets (served t) (set_opening (serve c (decided_true s) t (erased s.opening)) (forget s))))

    -- the rest of the line, after a task
    abbrev rest : ℕ → List Task → State → State
    rest fuel ts u = serve_line c r fuel (ts ++ u.opening.line) (line_taken u)

    pub serve_line_forgets : (fuel : ℕ) (ts : List Task) (s : State) → forget (serve_line c r fuel ts s) ≡ forget (serve_line c r fuel ts (forget s))
    unfolding serve_line
    serve_line_forgets zero ts s = refl
    serve_line_forgets (suc fuel) [] s = refl
    serve_line_forgets (suc fuel) (t ∷ ts) s =
        let u = serve_task c r t s in
        let v = serve_task c r t (forget s) in
        serve_line_forgets fuel (ts ++ u.opening.line) (line_taken u)
        ∙ (ap (λ w. forget (rest fuel ts w)) (serve_task_forgets t s) ∙ sym (serve_line_forgets fuel (ts ++ v.opening.line) (line_taken v)))

    pub run_end_forgets : (s : State) → run_end c r (forget s) ≡ forget (run_end c r s)
    run_end_forgets s = ap (link_all c r) (join_all_forgets s) ∙ link_all_forgets (join_all c r s)

    -- a run, from the state in which it has begun
    abbrev run_on : ℕ → State → State
    run_on fuel u = run_end c r (serve_line c r fuel u.opening.line (line_taken u))

    run_on_forgets : (fuel : ℕ) (u : State) → forget (run_on fuel u) ≡ forget (run_on fuel (forget u))
    run_on_forgets fuel u =
        let ts = u.opening.line in
        sym (run_end_forgets (serve_line c r fuel ts (line_taken u)))
        ∙ (ap (run_end c r) (serve_line_forgets fuel ts (line_taken u)) ∙ run_end_forgets (serve_line c r fuel ts (forget (line_taken u))))

  pub run_once_forgets : (level : ℕ) (s : State) → forget (run_once c level s) ≡ forget (run_once c level (forget s))
  unfolding run_once most_tasks
  run_once_forgets level s =
      let r = run_from level s in
      let fuel = most_tasks c s.opening in
      run_on_forgets r fuel (begun c s) ∙ ap (λ u. forget (run_on r fuel u)) (sym (begun_forgets s))

pub decide_forgets : (x value level : ℕ) (s : State) → decide x value level (forget s) ≡ forget (decide x value level s)
unfolding decide
decide_forgets x value level s = when_commutes forget _ _ (λ u. refl) s

-- what comes of a command, but for what is forgotten
unfoldable pub forget_result : Result State → Result State
forget_result (ok s) = ok (forget s)
forget_result (refuse f) = refuse f

unless_any_forgets : (ts : List (Refusal × Bool)) (s : State) → forget_result (unless_any ts s) ≡ unless_any ts (forget s)
unfolding unless_any
unless_any_forgets [] s = unfold forget_result in refl
unless_any_forgets (t ∷ ts) s = go t.1 (unless_any_forgets ts s)
  where
    go : (b : Bool) → forget_result (unless_any ts s) ≡ unless_any ts (forget s)
        → forget_result (elim b [ true ↦ refuse t.0 | false ↦ unless_any ts s ]) ≡ elim b [ true ↦ refuse t.0 | false ↦ unless_any ts (forget s) ]
    go true h = unfold forget_result in refl
    go false h = h

module _ (l : Limits) (c : Catalogue) where
  pub command_forgets : (o : Command) (s : State) → forget (carried_out l c o s) ≡ forget (carried_out l c o (forget s))
  unfolding carried_out
  command_forgets (Command.add o) s = rw (add_erased (owner_of o) s.opening)
  command_forgets (Command.draw k) s = rw (forget_true s, draw_erased c (decided_true s) k s.opening)
  command_forgets (Command.run level) s = run_once_forgets c level s
  command_forgets (Command.decide x value level) s = ap forget (sym (decide_forgets x value level s))
  command_forgets (Command.undo level) s = refl

  pub refusals_forget : (o : Command) (s : State) → command_refusals l c o (forget s) ≡ command_refusals l c o s
  unfolding command_refusals too_low
  refusals_forget (Command.add o) s = refl
  refusals_forget (Command.draw k) s = refl
  refusals_forget (Command.run level) s =
      let same : above l (run_once c level (forget s)) ≡ above l (run_once c level s) =
      sym (forget_above l (run_once c level (forget s))) ∙ (ap (above l) (sym (run_once_forgets c level s)) ∙ forget_above l (run_once c level s)) in
      rw same
  refusals_forget (Command.decide x value level) s = refl
  refusals_forget (Command.undo level) s = refl

  pub carry_out_forgets : (o : Command) (s : State) → forget_result (carry_out l c o s) ≡ forget_result (carry_out l c o (forget s))
  unfolding carry_out
  carry_out_forgets o s =
      unless_any_forgets (command_refusals l c o s) (carried_out l c o s)
      ∙ (rw (refusals_forget o s) (ap (unless_any (command_refusals l c o s)) (command_forgets o s))
      ∙ sym (unless_any_forgets (command_refusals l c o (forget s)) (carried_out l c o (forget s))))

-- ---- a run that stops at the first excess

unfoldable pub forget_capped : Capped → Capped
forget_capped full = full
forget_capped (within s) = within (forget s)

pub capped_forgets : (l : Limits) (s : State) → forget_capped (capped l s) ≡ capped l (forget s)
unfolding capped
capped_forgets l s = go (above l s) ∙ ap (λ b. capped_by b (forget s)) (sym (forget_above l s))
  where
    go : (b : Bool) → forget_capped (capped_by b s) ≡ capped_by b (forget s)
    go true = unfold capped_by forget_capped in refl
    go false = unfold capped_by forget_capped in refl

pub stopped_forgets : (l : Limits) (c : Catalogue) (level : ℕ) (s : State) → above l s ≡ false
    → forget_capped (run_capped l c level s) ≡ forget_capped (run_capped l c level (forget s))
stopped_forgets l c level s e =
    rw (
      run_capped_law l c level s e,
      run_capped_law l c level (forget s) (forget_above l s ∙ e),
      capped_forgets l (run_once c level s),
      capped_forgets l (run_once c level (forget s)),
    ) (ap (capped l) (run_once_forgets c level s))
