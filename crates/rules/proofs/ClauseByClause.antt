-- To store and heed an event's clauses one after another (`add_clause`) is the same as to store all and then to heed each: what a clause does
-- when it is made reads decisions and writes decisions and conflicts, and never looks at the clauses, the variables or the opening.
use mathlib.Core.Path.{◌≡◌, refl, ◌∙◌, ap}
use mathlib.Core.Bool.{Bool, true, false}
use mathlib.Core.List.{List, [], ◌∷◌, ◌++◌, append-nil, append_assoc}
use Prim.Native.Nat.{ℕ, suc}
use lib.ListN.{length}
use Rattle.rules.specs.Lists.{snoc, when, fold}
use Rattle.rules.specs.Literal.{Literal, pos, neg}
use Rattle.rules.specs.Clause.{Clause, install, requires, gated, excluded, constrains, forbid, aux_out, aux_owner, lock, any_gate, any_one}
use Rattle.rules.specs.Catalogue.{Catalogue}
use Rattle.rules.specs.Decisions.{Evaluation, undecided, satisfied, falsified}
use Rattle.rules.specs.Opening.{Opening}
use Rattle.rules.specs.Encoding.{Event, clauses}
use Rattle.rules.specs.State.{State, set_variables, set_clauses, Run}
use Rattle.rules.specs.State.{report, force, propagate_by, propagate, effect, effects, emit}
use Rattle.rules.proofs.ListLaws.{length_snoc}
use Rattle.rules.proofs.Effects.{effect_is, effect_leaves, variables_after}

-- ---- what a clause does is the same whatever the opening and the clauses are

-- the state with its opening and its clauses changed
abbrev pub changed : (Opening → Opening) → (List Clause → List Clause) → State → State
changed f g s =
    record { opening = f s.opening; variables = s.variables; clauses = g s.clauses; decisions = s.decisions; conflicts = s.conflicts; runs = s.runs }

module _ (f : Opening → Opening) (g : List Clause → List Clause) where
  when_changed : (b : Bool) (h : State → State) → ((s : State) → h (changed f g s) ≡ changed f g (h s))
      → (s : State) → when b h (changed f g s) ≡ changed f g (when b h s)
  unfolding when
  when_changed true h e s = e s
  when_changed false h e s = refl

  module _ (r : Run) (i : ℕ) where
    report_changed : (s : State) → report r i (changed f g s) ≡ changed f g (report r i s)
    unfolding report
    report_changed s = refl

    force_changed : (l : Literal) (s : State) → force r i l (changed f g s) ≡ changed f g (force r i l s)
    unfolding force
    force_changed l s = when_changed _ _ (λ u. refl) s

    propagate_changed : (x y : Evaluation) (m n : Literal) (s : State) → propagate_by r i x y m n (changed f g s) ≡ changed f g (propagate_by r i x y m n s)
    unfolding propagate_by
    propagate_changed (falsified j) (falsified k) m n s = report_changed s
    propagate_changed (falsified j) undecided m n s = force_changed n s
    propagate_changed (falsified j) (satisfied k) m n s = refl
    propagate_changed undecided (falsified k) m n s = force_changed m s
    propagate_changed undecided undecided m n s = refl
    propagate_changed undecided (satisfied k) m n s = refl
    propagate_changed (satisfied j) y m n s = refl

    pub effect_changed : (k : Clause) (s : State) → effect r i k (changed f g s) ≡ changed f g (effect r i k s)
    unfolding effect propagate
    effect_changed install s = refl
    effect_changed (requires o ks ps) s = when_changed _ _ report_changed s
    effect_changed (gated y ps) s = when_changed _ _ (force_changed (neg y)) s
    effect_changed (excluded x p w) s = when_changed _ _ report_changed s
    effect_changed (constrains o p) s = when_changed _ _ report_changed s
    effect_changed (forbid p l) s = propagate_changed _ _ (neg p) l s
    effect_changed (aux_out p v) s = when_changed _ _ (force_changed (pos v)) s
    effect_changed (aux_owner o v) s = when_changed _ _ report_changed s
    effect_changed (lock p) s = refl
    effect_changed (any_gate y o) s = propagate_changed _ _ (pos y) (neg o) s
    effect_changed (any_one y p) s = when_changed _ _ (force_changed (pos y)) s

  pub effects_changed : (r : Run) (i : ℕ) (ks : List Clause) (s : State) → effects r i ks (changed f g s) ≡ changed f g (effects r i ks s)
  unfolding effects
  effects_changed r i [] s = refl
  effects_changed r i (k ∷ ks) s = ap (effects r (suc i) ks) (effect_changed r i k s) ∙ effects_changed r (suc i) ks (effect r i k s)

-- ---- one clause after another

-- clause k is stored behind the others, and then heeded
unfoldable pub add_clause : Run → Clause → State → State
add_clause r k s = effect r (length s.clauses) k (set_clauses (snoc s.clauses k) s)

module _ (r : Run) where
  -- with the others stored already
  early : (k : Clause) (ks : List Clause) (s : State)
      → effect r (length s.clauses) k (set_clauses (s.clauses ++ (k ∷ ks)) s) ≡ set_clauses ((add_clause r k s).clauses ++ ks) (add_clause r k s)
  unfolding add_clause snoc
  early k ks s =
      let u = set_clauses (snoc s.clauses k) s in
      rw ((effect_leaves (effect_is r (length s.clauses) k u)).clauses, append_assoc s.clauses (k ∷ []) ks)
      (effect_changed (λ o. o) (λ _. s.clauses ++ (k ∷ ks)) r (length s.clauses) k u)

  add_clauses_law : (k : Clause) (s : State) → length (add_clause r k s).clauses ≡ suc (length s.clauses)
  unfolding add_clause
  add_clauses_law k s = rw (effect_leaves (effect_is r (length s.clauses) k (set_clauses (snoc s.clauses k) s))).clauses (length_snoc s.clauses k)

  pub one_by_one : (ks : List Clause) (s : State) → effects r (length s.clauses) ks (set_clauses (s.clauses ++ ks) s) ≡ fold (add_clause r) ks s
  unfolding effects fold
  one_by_one [] s = rw (append-nil s.clauses)
  one_by_one (k ∷ ks) s = rw (early k ks s, ← add_clauses_law k s) (one_by_one ks (add_clause r k s))

-- an event, clause by clause
pub emit_one_by_one : (c : Catalogue) (r : Run) (e : Event) (s : State)
    → emit c r e s ≡ fold (add_clause r) (clauses c s.variables (variables_after c e s) r.before e) (set_variables (variables_after c e s) s)
unfolding emit
emit_one_by_one c r e s = one_by_one r (clauses c s.variables (variables_after c e s) r.before e) (set_variables (variables_after c e s) s)
