-- A clause is stored: the rows have one more, and with it the clauses and the conflicts.
use mathlib.Core.Path.{◌≡◌, refl, sym, ◌∙◌}
use mathlib.Core.Bool.{true, true≢false}
use mathlib.Core.List.{List, [], ◌∷◌, ◌++◌, map, append-nil, append_assoc}
use Prim.Native.Nat.{ℕ, suc, ◌+◌, ◌<◌, ◌≤◌}
use native.Mathlib.Omega.{arith}
use native.Mathlib.Nat.{add-zero, zero-add}
use lib.Dec.{ltb}
use lib.ListN.{length, length-map}
use borrow.Author.Tests.{lt-ltb}
use Rattle.rules.specs.Lists.{any, snoc, sum}
use Rattle.rules.specs.Clause as rules
use Rattle.rules.specs.Clause.{condition_literals}
use Rattle.rules.specs.Catalogue.{Catalogue}
use Rattle.rules.specs.Variables.{Origin}
use Rattle.rules.specs.State.{State}
use Rattle.rules.specs.Limits.{above}
use Rattle.rules.proofs.Bools.{or_true}
use Rattle.rules.proofs.Each.{each_imp, each_snoc}
use Rattle.rules.proofs.Grows.{whole, ending}
use Rattle.rules.proofs.ListLaws.{length_snoc, sum_append, map_snoc}
use Rattle.state.specs.declared.Limits.{Limits}
use Rattle.state.proofs.Changed.{changed_none}
use Rattle.variable_map.specs.Mapping.{variables}
use Rattle.solver.specs.declared.Clause.{Clause}
use Rattle.solver.specs.declared.Clause.TheVariants as clauses
use Rattle.solver.specs.Rows.{Row, rows}
use Rattle.solver.specs.Clauses.{clause_row, literal_count}
use Rattle.encoder.specs.declared.Counters.{Counters}
use Rattle.encoder.specs.declared.State as encoder
use Rattle.encoder.specs.Held.{Reading, conflict_if, conflicts_from, clause_in, clauses_in, opening_of, state_of, Sound, Good}
use Rattle.encoder.specs.Did.{room_of, beyond, Widens, filled}
use Rattle.state.specs.Limits.{limits_of}
use Rattle.encoder.specs.Clauses.{clause_is}
use Rattle.encoder.proofs.Clauses.{clause_row_is}
use Rattle.encoder.proofs.Frames.{state_kept, clauses_counted}
use Rattle.encoder.proofs.Did.{did_full, did_filled, did_made, beside_same, told_full}
use Rattle.storing.specs.Adding.{with_clause, Fitting, Stores}

conflicts_more : (i : ℕ) (rs : List Row) (r : Row) → conflicts_from i (snoc rs r) ≡ conflicts_from i rs ++ conflict_if r.conflict (i + length rs)
unfolding conflicts_from snoc
conflicts_more i [] r = rw (add-zero, append-nil)
conflicts_more i (x ∷ rs) r =
    let e : suc i + length rs ≡ i + suc (length rs) = omega arith in
    rw (conflicts_more (suc i) rs r, e) (sym (append_assoc (conflict_if x.conflict i) (conflicts_from (suc i) rs) (conflict_if r.conflict (i + suc (length rs)))))

pub with_clause_widens : (k : rules.Clause) (run : ℕ) (s : State) → Widens s (with_clause k run s)
unfolding with_clause snoc
with_clause_widens k run s =
    record { grows = record { variables = whole; clauses = ending s.clauses (k ∷ []); waiting = whole }; line = omega arith; several = omega arith }

-- counters with another number of clauses and of their literals
abbrev pub counting : (clauses literals : ℕ) → Counters → Counters
counting x y n =
    record {
      variables = n.variables;
      clauses = x;
      literals = y;
      decisions = n.decisions;
      owners = n.owners;
      names = n.names;
      several = n.several;
      added = n.added;
      named = n.named;
      tracked = n.tracked;
      waiting = n.waiting;
      drawn = n.drawn;
      first = n.first;
      tail = n.tail;
      runs = n.runs;
      full = n.full;
    }

abbrev pub storing : Clause → ℕ → Catalogue → (ℕ → List ℕ) → State → State
storing k run c st s = with_clause (clause_is c s.variables (st 19) k) run s

conflict_is : (k : Clause) (i : ℕ) → (clause_row k i).conflict ≡ i
unfolding clause_row
conflict_is clauses.Install i = refl
conflict_is (clauses.Requires o s n g) i = refl
conflict_is (clauses.Gated x g) i = refl
conflict_is (clauses.Excluded x p) i = refl
conflict_is (clauses.Unknown x p) i = refl
conflict_is (clauses.Constrains o x) i = refl
conflict_is (clauses.Forbid x h) i = refl
conflict_is (clauses.AuxOut x v) i = refl
conflict_is (clauses.AuxOwner o v) i = refl
conflict_is (clauses.Lock x) i = refl
conflict_is (clauses.AnyGate g o) i = refl
conflict_is (clauses.AnyOne y x) i = refl

more_sound : {c : Catalogue} {vs : List Origin} {k : ℕ} (k' : ℕ) {r : Row} → k ≤ k' → Sound c vs k r → Sound c vs k' r
more_sound k' h s = record { stored = λ e. omega (arith, s.stored e); named = s.named; gated = s.gated }

literals_more : (c : Catalogue) (vs : List Origin) (w : List ℕ) (rs : List Row) (r : Row)
    → sum (map condition_literals (clauses_in c vs w (snoc rs r))) ≡ sum (map condition_literals (clauses_in c vs w rs)) + condition_literals (clause_in c vs w r)
unfolding clauses_in
literals_more c vs w rs r =
    rw (map_snoc (clause_in c vs w) rs r) (unfold snoc sum in omega (arith, sum_append condition_literals (map (clause_in c vs w) rs) (clause_in c vs w r ∷ [])))

module _ (l : Limits) (n : Counters) (k : Clause) (run : ℕ) (cl : List ℕ) where
  clauses_over : (c : Catalogue) (st : ℕ → List ℕ) (wt : List ℕ) → l.clauses ≤ n.clauses → (v : Reading)
      → beyond l (room_of l n) (storing k run c st (state_of c l v n st cl wt)) ≡ true
  clauses_over c st wt h v =
      let m = clauses_counted c (variables n.variables st) (st 19) n.clauses cl in
      is_over _ (unfold state_of with_clause in rw (length_snoc) (omega (arith, m)))
    where
      is_over : (s : State) → l.clauses < length s.clauses → beyond l (room_of l n) s ≡ true
      is_over s p =
          unfold beyond above limits_of in rw (lt-ltb l.clauses (length s.clauses) p, or_true (ltb l.variables (length s.variables)))

  module _ (cl' : List ℕ) (count : ℕ) (e : rows count cl' ≡ snoc (rows n.clauses cl) (clause_row k run)) (c : Catalogue) (st : ℕ → List ℕ) (wt : List ℕ) where
    store_state : (v : Reading) → state_of c l v (counting count (n.literals + literal_count k) n) st cl' wt ≡ storing k run c st (state_of c l v n st cl wt)
    unfolding state_of opening_of with_clause clauses_in
    store_state v =
        let vs = variables n.variables st in
        rw (
          e,
          map_snoc (clause_in c vs (st 19)) (rows n.clauses cl) (clause_row k run),
          conflicts_more 0 (rows n.clauses cl) (clause_row k run),
          zero-add,
          length-map (rows n.clauses cl) (clause_in c vs (st 19)),
          clause_row_is c vs (st 19) k run,
          conflict_is k run,
        )

    store_good : count ≤ l.clauses → Fitting c l n st k → Good c l n st cl wt → Good c l (counting count (n.literals + literal_count k) n) st cl' wt
    unfolding any
    store_good h f g =
        let room = f.room in
        record {
          state = state_kept (changed_none [] st) (search) g.state;
          clauses = record {
            room = h;
            literals = rw (
              e,
              literals_more c (variables n.variables st) (st 19) (rows n.clauses cl) (clause_row k run),
              clause_row_is c (variables n.variables st) (st 19) k run,
              ← g.clauses.literals,
              f.counted,
            );
            sound = rw e (each_snoc (each_imp (λ r p. more_sound (n.literals + literal_count k) (omega arith) p) g.clauses.sound) (f.sound run));
          };
          entries = g.entries;
        }

module _ {x : encoder.State} {k : Clause} {run : ℕ} {cl : List ℕ} where
  pub store_full : x.used.clauses ≤ x.limits.clauses → (x.used.full ≡ 0 → ⊥) → Stores k run x cl x cl
  store_full h f =
      record {
        limits = refl;
        area = refl;
        same = refl;
        decisions = refl;
        room = h;
        count = λ e. absurd (true≢false (sym (told_full f) ∙ e));
        is = λ c st wt p. did_full (told_full f) (λ v s. with_clause_widens _ _ s);
      }

  module _ {x' : encoder.State} (i : x'.limits ≡ x.limits) (j : x'.area ≡ x.area) where
    pub store_over : x.used.clauses ≤ x.limits.clauses → x.limits.clauses ≤ x.used.clauses → x'.used ≡ filled x.used → Stores k run x cl x' cl
    store_over h o e =
        record {
          limits = i;
          area = rw j;
          same = rw j;
          decisions = rw e (unfold filled in refl);
          room = rw e (unfold filled in h);
          count = λ f. absurd (true≢false (unfold filled in (rw e at f)));
          is = λ c st wt p. rw e (did_filled (λ v s. with_clause_widens _ _ s) (λ g v. clauses_over x.limits x.used k run cl c st wt o v));
        }

    pub store_more : {cl' : List ℕ} {count literals : ℕ} {row : Row} → x.used.clauses < x.limits.clauses → x'.used ≡ counting count (x.used.literals + literals) x.used
        → count ≡ x.used.clauses + 1 → rows count cl' ≡ snoc (rows x.used.clauses cl) row → row ≡ clause_row k run → literals ≡ literal_count k → Stores k run x cl x' cl'
    store_more h u z e q d =
        let a = rw q at e in
        record {
          limits = i;
          area = rw j;
          same = rw j;
          decisions = rw u;
          room = rw u (omega arith);
          count = λ f. rw u z;
          is = λ c st wt p. rw (u, d) (did_made (λ v s. with_clause_widens _ _ s) refl (λ g. beside_same) refl refl (λ i. refl) (store_good x.limits x.used k run cl _ _ a c st wt (omega arith) p) (λ g. store_state x.limits x.used k run cl _ _ a c st wt));
        }
