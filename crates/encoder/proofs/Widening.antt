-- No step makes anything that is counted less.
use mathlib.Core.Path.{◌≡◌}
use mathlib.Core.Bool.{Bool, true, false}
use mathlib.Core.List.{List, [], ◌∷◌}
use Prim.Native.Nat.{ℕ, ◌≤◌}
use native.Mathlib.Omega.{arith}
use lib.ListN.{length}
use Rattle.rules.specs.Lists.{fold, when, unless, snoc}
use Rattle.rules.specs.Clause.{Clause}
use Rattle.rules.specs.Catalogue.{Owner, part, Catalogue, range_name}
use Rattle.rules.specs.Variables.{Origin}
use Rattle.rules.specs.Opening.{Task, owner, name, Opening, queue, open_owner, open_name, open_names, name_for_tracking, open_ready}
use Rattle.rules.specs.State.{State, set_clauses, Run}
use Rattle.rules.proofs.ListLaws.{length_snoc}
use Rattle.rules.proofs.Effects.{effect_is, effect_leaves}
use Rattle.rules.proofs.ClauseByClause.{add_clause}
use Rattle.rules.proofs.Grows.{Prefix, whole, longer, opening_grows}
use Rattle.rules.proofs.Capped.{add_variable, add_variable_grows, add_clause_grows, add_waiting, add_waiting_grows}
use Rattle.encoder.specs.Did.{Widens, on_opening, with_several}
use Rattle.encoder.proofs.Did.{widens_same}

-- ---- openings

pub record Lengthens (o o' : Opening) : Type 0 where
  pub waiting : Prefix o.waiting o'.waiting
  pub line : length o.line ≤ length o'.line
  pub several : length o.several ≤ length o'.several

pub lengthens_same : {o : Opening} → Lengthens o o
lengthens_same = record { waiting = whole; line = omega arith; several = omega arith }

pub lengthens_then : {o o' o'' : Opening} → Lengthens o o' → Lengthens o' o'' → Lengthens o o''
lengthens_then p q =
    record { waiting = longer p.waiting q.waiting; line = omega (arith, p.line, q.line); several = omega (arith, p.several, q.several) }

pub lengthens_when : (b : Bool) (f : Opening → Opening) → ((o : Opening) → Lengthens o (f o)) → (o : Opening) → Lengthens o (when b f o)
unfolding when
lengthens_when true f h o = h o
lengthens_when false f h o = lengthens_same

pub lengthens_unless : (b : Bool) (f : Opening → Opening) → ((o : Opening) → Lengthens o (f o)) → (o : Opening) → Lengthens o (unless b f o)
unfolding unless
lengthens_unless true f h o = lengthens_same
lengthens_unless false f h o = h o

pub lengthens_fold : {A : Type 0} (f : A → Opening → Opening) → ((x : A) (o : Opening) → Lengthens o (f x o))
    → (xs : List A) (o : Opening) → Lengthens o (fold f xs o)
unfolding fold
lengthens_fold f h [] o = lengthens_same
lengthens_fold f h (x ∷ xs) o = lengthens_then (h x o) (lengthens_fold f h xs (f x o))

pub queue_lengthens : (t : Task) (o : Opening) → Lengthens o (queue t o)
unfolding queue
queue_lengthens t o = record { waiting = whole; line = omega (arith, length_snoc o.line t); several = omega arith }

pub open_owner_lengthens : (w : Owner) (o : Opening) → Lengthens o (open_owner w o)
unfolding open_owner queue
open_owner_lengthens w o =
    lengthens_unless _ _ (λ u. record { waiting = whole; line = omega (arith, length_snoc u.line (owner w)); several = omega arith }) o

pub open_name_lengthens : (n : ℕ) (o : Opening) → Lengthens o (open_name n o)
unfolding open_name queue
open_name_lengthens n o =
    lengthens_unless _ _ (λ u. record { waiting = whole; line = omega (arith, length_snoc u.line (name n)); several = omega arith }) o

pub open_names_lengthens : (c : Catalogue) (rs : List ℕ) (o : Opening) → Lengthens o (open_names c rs o)
unfolding open_names
open_names_lengthens c rs o = lengthens_fold (λ r. open_name (range_name c r)) (λ r. open_name_lengthens (range_name c r)) rs o

pub name_for_tracking_lengthens : (c : Catalogue) (p : ℕ) (o : Opening) → Lengthens o (name_for_tracking c p o)
unfolding name_for_tracking
name_for_tracking_lengthens c p o = lengthens_unless _ _ (λ u. record { waiting = whole; line = omega arith; several = omega arith }) o

pub open_ready_lengthens : (c : Catalogue) (p : ℕ) (o : Opening) → Lengthens o (open_ready c p o)
unfolding open_ready
open_ready_lengthens c p o = lengthens_when _ (open_owner (part p)) (open_owner_lengthens (part p)) o

pub with_several_lengthens : (n : ℕ) (o : Opening) → Lengthens o (with_several n o)
unfolding with_several
with_several_lengthens n o = record { waiting = whole; line = omega arith; several = omega (arith, length_snoc o.several n) }

-- ---- states

pub widens_opening : (f : Opening → Opening) → ((o : Opening) → Lengthens o (f o)) → (s : State) → Widens s (on_opening f s)
unfolding on_opening
widens_opening f h s =
    let k = h s.opening in
    record { grows = opening_grows (f s.opening) s k.waiting; line = k.line; several = k.several }

pub widens_when : (b : Bool) (f : State → State) → ((s : State) → Widens s (f s)) → (s : State) → Widens s (when b f s)
unfolding when
widens_when true f h s = h s
widens_when false f h s = widens_same

pub queue_widens : (t : Task) (s : State) → Widens s (on_opening (queue t) s)
queue_widens t s = widens_opening (queue t) (queue_lengthens t) s

pub open_owner_widens : (w : Owner) (s : State) → Widens s (on_opening (open_owner w) s)
open_owner_widens w s = widens_opening (open_owner w) (open_owner_lengthens w) s

pub open_name_widens : (n : ℕ) (s : State) → Widens s (on_opening (open_name n) s)
open_name_widens n s = widens_opening (open_name n) (open_name_lengthens n) s

pub name_for_tracking_widens : (c : Catalogue) (p : ℕ) (s : State) → Widens s (on_opening (name_for_tracking c p) s)
name_for_tracking_widens c p s = widens_opening (name_for_tracking c p) (name_for_tracking_lengthens c p) s

pub open_ready_widens : (c : Catalogue) (p : ℕ) (s : State) → Widens s (on_opening (open_ready c p) s)
open_ready_widens c p s = widens_opening (open_ready c p) (open_ready_lengthens c p) s

pub with_several_widens : (n : ℕ) (s : State) → Widens s (on_opening (with_several n) s)
with_several_widens n s = widens_opening (with_several n) (with_several_lengthens n) s

pub add_waiting_widens : (e : ℕ × ℕ) (s : State) → Widens s (add_waiting e s)
add_waiting_widens e s = record { grows = add_waiting_grows e s; line = unfold add_waiting in omega arith; several = unfold add_waiting in omega arith }

pub add_variable_widens : (o : Origin) (s : State) → Widens s (add_variable o s)
add_variable_widens o s = record { grows = add_variable_grows o s; line = unfold add_variable in omega arith; several = unfold add_variable in omega arith }

pub add_clause_variables : (r : Run) (k : Clause) (s : State) → (add_clause r k s).variables ≡ s.variables
unfolding add_clause
add_clause_variables r k s = (effect_leaves (effect_is r (length s.clauses) k (set_clauses (snoc s.clauses k) s))).variables

pub add_clause_opening : (r : Run) (k : Clause) (s : State) → (add_clause r k s).opening ≡ s.opening
unfolding add_clause
add_clause_opening r k s = (effect_leaves (effect_is r (length s.clauses) k (set_clauses (snoc s.clauses k) s))).opening

pub add_clause_widens : (r : Run) (k : Clause) (s : State) → Widens s (add_clause r k s)
add_clause_widens r k s =
    let e = add_clause_opening r k s in
    record { grows = add_clause_grows r k s; line = rw e (omega arith); several = rw e (omega arith) }
