-- A clause is added: stored, and heeded by what it does when it is made.
use mathlib.Core.Path.{◌≡◌, refl, sym, ◌∙◌, ap}
use mathlib.Core.Bool.{Bool, true, false, cond, true≢false}
use mathlib.Core.List.{List, append-nil}
use Prim.Native.Nat.{ℕ, ◌-◌, ◌<◌}
use native.Mathlib.Omega.{arith}
use lib.ListN.{length}
use borrow.Author.Tests.{ne_eqb}
use Rattle.rules.specs.Lists.{snoc, when}
use Rattle.rules.specs.Literal.{Literal}
use Rattle.rules.specs.Clause as rules
use Rattle.rules.specs.Catalogue.{Catalogue}
use Rattle.rules.specs.Decisions.{Decision}
use Rattle.rules.specs.Variables.{Origin}
use Rattle.rules.specs.State.{State, set_clauses, Run, report, force, effect}
use Rattle.rules.proofs.ClauseByClause.{add_clause}
use Rattle.clause.specs.declared.Literal as code
use Rattle.clause.specs.Literals.{literal_of}
use Rattle.state.specs.declared.Limits.{Limits}
use Rattle.state.specs.Layout.{held}
use Rattle.variable_map.specs.Mapping.{variables}
use Rattle.solver.specs.declared.Clause.{Clause}
use Rattle.encoder.specs.declared.Counters.{Counters}
use Rattle.encoder.specs.declared.Run as runs
use Rattle.encoder.specs.declared.State as encoder
use Rattle.encoder.specs.Held.{run_of, Reading, conflict_if, state_of, LongEnough}
use Rattle.encoder.specs.Clauses.{clause_is}
use Rattle.encoder.specs.Did.{room_of, Widens, Did, is_full}
use Rattle.encoder.specs.Does.{ClausesDoes, IsGoodWith, regions_of, variables_of, decisions_of}
use Rattle.encoder.proofs.Frames.{clauses_counted}
use Rattle.encoder.proofs.Did.{widens_then, stays_beyond, did_as, did_then, told_full, told_going}
use Rattle.encoder.proofs.Widening.{add_clause_widens}
use Rattle.storing.specs.Adding.{with_clause, CanAdd, CanForce, Fitting, Stores, Forces, Sets, Adds}
use Rattle.storing.proofs.Storing.{with_clause_widens}
use Rattle.storing.proofs.Setting.{force_widens}

-- ---- for callers: between two steps a clause can be added

pub good_can_add : {c : Catalogue} {x : encoder.State} {cl wt : List ℕ} {k e : ℕ} → IsGoodWith c x cl wt → LongEnough x.limits k e → CanAdd x k
good_can_add g h =
    record { kept = g.state.kept; clauses = g.clauses.room; literals = g.state.literals; most = h.most; long = h.clauses }

-- and one that was added is a step
pub adds_do : {c : Catalogue} {r : runs.Run} {k : rules.Clause} {x x' : encoder.State} {cl cl' : List ℕ} → Adds r k x cl x' cl'
    → ClausesDoes c (λ v. add_clause (run_of r) k) x cl x' cl'
adds_do {c} d = record { limits = d.limits; area = d.area; did = record { is = d.is c } }

-- ---- a clause that is stored and then sets a literal

-- the part of a step that was done passes a limit already
did_part : {c : Catalogue} {l : Limits} {F G : Reading → State → State} {n : Counters} {st : ℕ → List ℕ} {cl wt : List ℕ}
    {n' : Counters} {st' : ℕ → List ℕ} {cl' wt' : List ℕ} → Did c l F n st cl wt n' st' cl' wt' → is_full n' ≡ true
    → ((v : Reading) (s : State) → Widens (F v s) (G v s)) → Did c l G n st cl wt n' st' cl' wt'
did_part {l = l} {n = n} d f w =
    record {
      wide = λ v s. widens_then (d.wide v s) (w v s);
      good = d.good;
      first = d.first;
      beside = d.beside;
      fewer = d.fewer;
      drawn = d.drawn;
      stays = d.stays;
      done = λ g e e' v. absurd (true≢false (sym f ∙ e'));
      over = λ g e e' v. stays_beyond l (room_of l n) (w v _) (d.over g e e' v);
    }

count_before : (c : Catalogue) (l : Limits) (v : Reading) (n : Counters) (st : ℕ → List ℕ) (cl wt : List ℕ) → length (state_of c l v n st cl wt).clauses ≡ n.clauses
unfolding state_of
count_before c l v n st cl wt = clauses_counted c (variables n.variables st) (st 19) n.clauses cl

pub stored_can_force : {k : Clause} {z : code.Literal} {x x' : encoder.State} {cl cl' : List ℕ} {bytes : ℕ} → CanAdd x bytes → Stores k 0 x cl x' cl' → x'.used.full ≡ 0 → (literal_of z).variable < x.limits.variables → CanForce x' z
stored_can_force h g f b =
    record {
      kept = rw (g.limits, g.same, g.decisions) h.kept;
      some = omega (arith, g.count (told_going f));
      few = omega (arith, g.room, h.most);
      exists = rw g.limits b;
    }

module _ {r : runs.Run} {k : Clause} {z : code.Literal} {x x' : encoder.State} {cl cl' : List ℕ} where
  pub setting_full : Stores k 0 x cl x' cl' → (x'.used.full ≡ 0 → ⊥) → Sets r k z x cl x' cl'
  setting_full g f =
      record {
        limits = g.limits;
        area = g.area;
        is = λ c wt p. rw g.same (did_part (g.is c (regions_of x) wt p) (told_full f) (λ v s. force_widens _ _ _ _));
      }

  pub setting_more : {x'' : encoder.State} → Stores k 0 x cl x' cl' → x'.used.full ≡ 0
      → Forces r z x' x'' → Sets r k z x cl x'' cl'
  setting_more g f h =
      record {
        limits = h.does.limits ∙ g.limits;
        area = h.does.area ∙ g.area;
        is = λ c wt p. did_as (did_then (g.is c (regions_of x) wt p) (rw (g.limits, g.same) at ((h.does.did c).is cl' wt))) (λ v s. widens_then (with_clause_widens _ _ s) (force_widens _ _ _ _))
            (λ _ _ v. let e : x'.used.clauses - 1 ≡ length (state_of c x.limits v x.used (regions_of x) cl wt).clauses = omega (arith, g.count (told_going f), count_before c x.limits v x.used (regions_of x) cl wt) in rw e);
      }

-- ---- clauses by what they do when they are made

-- with these decisions clause k does f
abbrev pub Does : Run → rules.Clause → List Decision → (ℕ → State → State) → Type 0
Does r k ds f = (i : ℕ) (u : State) → u.decisions ≡ ds → effect r i k u ≡ f i u

-- it reports, if b
abbrev pub Reports : Run → rules.Clause → List Decision → Bool → Type 0
Reports r k ds b = Does r k ds (λ i u. when b (report r i) u)

module _ (r : Run) (k : rules.Clause) (s : State) where
  plainly : with_clause k 0 s ≡ set_clauses (snoc s.clauses k) s
  unfolding with_clause conflict_if
  plainly = rw (append-nil s.conflicts)

  reported : 0 < r.number → with_clause k r.number s ≡ report r (length s.clauses) (set_clauses (snoc s.clauses k) s)
  unfolding with_clause conflict_if report snoc
  reported h = rw (ne_eqb r.number 0 (λ z. omega arith))

  reported_if : (b : Bool) → (b ≡ true → 0 < r.number)
      → with_clause k (cond b r.number 0) s ≡ when b (report r (length s.clauses)) (set_clauses (snoc s.clauses k) s)
  unfolding when
  reported_if true h = reported (h refl)
  reported_if false h = plainly

  stored_reports : (b : Bool) → (b ≡ true → 0 < r.number) → Reports r k s.decisions b → with_clause k (cond b r.number 0) s ≡ add_clause r k s
  unfolding add_clause
  stored_reports b h e = reported_if b h ∙ sym (e (length s.clauses) (set_clauses (snoc s.clauses k) s) refl)

  stored_sets : (x : Literal) → Does r k s.decisions (λ i. force r i x) → force r (length s.clauses) x (with_clause k 0 s) ≡ add_clause r k s
  unfolding add_clause
  stored_sets x e = ap (force r (length s.clauses) x) plainly ∙ sym (e (length s.clauses) (set_clauses (snoc s.clauses k) s) refl)

-- a clause that is K of the variables
module _ {c : Catalogue} (r : runs.Run) {k : Clause} (K : List Origin → rules.Clause) {x x' : encoder.State} {cl cl' wt : List ℕ}
    (p : Fitting c x.limits x.used (regions_of x) k) (is : (vs : List Origin) → clause_is c vs (regions_of x 19) k ≡ K vs) where
  pub row_reports : {run : ℕ} (b : Bool) → (b ≡ true → 0 < r.number) → run ≡ cond b r.number 0
      → Reports (run_of r) (K (variables_of x)) (decisions_of x) b → Stores k run x cl x' cl'
      → Did c x.limits (λ v s. add_clause (run_of r) (K s.variables) s) x.used (regions_of x) cl wt x'.used (held x.limits x'.area.now) cl' wt
  row_reports b h e d g =
      rw g.same
      (did_as (g.is c (regions_of x) wt p) (λ v s. add_clause_widens _ _ s)
      (λ _ _ v. rw (is, e) (unfold run_of state_of in stored_reports (run_of r) (K (variables_of x)) (state_of c x.limits v x.used (regions_of x) cl wt) b h d)))

  pub row_sets : (z : code.Literal) → Does (run_of r) (K (variables_of x)) (decisions_of x) (λ i. force (run_of r) i (literal_of z)) → Sets r k z x cl x' cl'
      → Did c x.limits (λ v s. add_clause (run_of r) (K s.variables) s) x.used (regions_of x) cl wt x'.used (held x.limits x'.area.now) cl' wt
  row_sets z d g =
      did_as (g.is c wt p) (λ v s. add_clause_widens _ _ s)
      (λ _ _ v. rw is (unfold state_of in stored_sets (run_of r) (K (variables_of x)) (state_of c x.limits v x.used (regions_of x) cl wt) (literal_of z) d))
