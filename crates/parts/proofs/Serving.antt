-- For callers: a task's event by steps that name parts and add clauses.
use mathlib.Core.Path.{◌≡◌, sym, ◌∙◌, ap}
use mathlib.Core.Bool.{Bool}
use mathlib.Core.List.{List, map}
use Prim.Native.Nat.{ℕ}
use Rattle.rules.specs.Lists.{fold}
use Rattle.rules.specs.Catalogue.{Catalogue}
use Rattle.rules.specs.Variables.{with_variables, part_origin}
use Rattle.rules.specs.Opening.{Task, Opening, serve}
use Rattle.rules.specs.Encoding.{served}
use Rattle.rules.specs.State.{State, set_opening, set_variables, decided_true, Run, emit}
use Rattle.rules.specs.Run.{serve_task}
use Rattle.rules.proofs.Capped.{add_variable, add_variables_is}
use Rattle.rules.proofs.DistinctEnough.{fold_map}
use Rattle.rules.proofs.Forgotten.{erased, forget, emit_forgets}
use Rattle.encoder.specs.declared.State as encoder
use Rattle.encoder.specs.Held.{Reading, state_of}
use Rattle.encoder.specs.Does.{ClausesDoes, regions_of}
use Rattle.encoder.proofs.Did.{did_as}
use Rattle.encoder.proofs.Steps.{forget_widens, nothing_kept}
use Rattle.parts.specs.declared.Naming.TheVariants.{Variable}
use Rattle.parts.specs.Parts.{naming_of}

-- ---- parts that get their variables

pub names_are : (c : Catalogue) (ps : List ℕ) (s : State) → fold (naming_of c Variable) ps s ≡ set_variables (with_variables (map part_origin ps) s.variables) s
unfolding naming_of
names_are c ps s = sym (fold_map add_variable part_origin ps s) ∙ add_variables_is (map part_origin ps) s

-- ---- what was handled and fired is not kept

module _ (c : Catalogue) (r : Run) (t : Task) (h : (f : ℕ → Bool) (o : Opening) → serve c f t (erased o) ≡ erased (serve c f t o)) where
  served_kept : (s : State) → forget s ≡ s → forget (serve_task c r t s) ≡ serve_task c r t s
  unfolding serve_task
  served_kept s e =
      let o : Opening = s.opening in
      let i : erased o ≡ o = ap (λ (u : State). u.opening) e in
      sym (emit_forgets c r (served t) (set_opening (serve c (decided_true s) t o) s))
      ∙ ap (λ (p : Opening). emit c r (served t) (set_opening p s)) (sym (h (decided_true s) o) ∙ ap (serve c (decided_true s) t) i)

  -- steps that do what a task does serve it
  pub task_served : {F : Reading → State → State} {x x' : encoder.State} {cl cl' : List ℕ} → ClausesDoes c F x cl x' cl'
      → ((v : Reading) (s : State) → F v s ≡ serve_task c r t s) → ClausesDoes c (λ v s. forget (serve_task c r t s)) x cl x' cl'
  task_served {x = x} {cl = cl} d e =
      record {
        limits = d.limits;
        area = d.area;
        did = record {
          is = λ wt. did_as (d.did.is wt) (λ v s. rw (← e v s) (forget_widens ((d.did.is wt).wide v s)))
              (λ g f v. let s = state_of c x.limits v x.used (regions_of x) cl wt in e v s ∙ sym (served_kept s (nothing_kept c x.limits v x.used (regions_of x) cl wt)));
        };
      }
