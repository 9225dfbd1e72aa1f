-- Literals put behind those of the stored clauses: region 19 changes where no stored clause looks, so the state is as it was.
use mathlib.Core.Path.{◌≡◌, refl, ◌∙◌, ap}
use mathlib.Core.Bool.{Bool, true, false, cond}
use mathlib.Core.List.{List, [], ◌∷◌, ◌++◌, map-append, append-nil, append_assoc}
use Prim.Native.Nat.{ℕ, ◌+◌, ◌-◌, ◌<◌, ◌≤◌}
use native.Mathlib.Numerals.{add-one}
use native.Mathlib.Omega.{arith}
use lib.Dec.{eqb}
use lib.ListN.{length, set, take, drop, length-append, length-drop}
use lib.Seq.{take-suc-set, drop-set-add, take-set-le}
use borrow.Author.Tests.{eqb-true}
use Rattle.rules.specs.Lists.{any}
use Rattle.rules.specs.Literal.{Literal}
use Rattle.rules.specs.Catalogue.{Catalogue}
use Rattle.rules.specs.Variables.{Origin}
use Rattle.rules.proofs.Each.{Each}
use Rattle.clause.specs.declared.Literal as code
use Rattle.clause.specs.Literals.{literal_of}
use Rattle.regions.specs.Regions.{stored, size_of}
use Rattle.state.specs.declared.Limits.{Limits}
use Rattle.state.specs.Layout.{sizes, held, Fits}
use Rattle.state.proofs.Changed.{stored_here, changed_stored, changed_none, changed_then, length_held}
use Rattle.variable_map.specs.Mapping.{variables}
use Rattle.variable_map.proofs.Laws.{variables_kept}
use Rattle.decision_tracker.proofs.Laws.{decisions_kept}
use Rattle.solver.specs.Rows.{Row}
use Rattle.encoder.specs.declared.Counters.{Counters}
use Rattle.encoder.specs.Held.{Reading, state_of, opening_of, literal_in, literals_in, clause_in, clauses_in, Sound, GoodState, Good}
use Rattle.encoder.specs.declared.State as encoder
use Rattle.encoder.specs.Did.{StateDid}
use Rattle.encoder.specs.Does.{StateDoes, IsGoodState, regions_of, variables_of}
use Rattle.goals.proofs.Hand.{written_same, written_then}
use Rattle.encoder.proofs.Frames.{state_kept, list_kept, line_kept}
use Rattle.encoder.proofs.Did.{widens_same, did_made, beside_kept}
use Rattle.condition_literals.specs.Literals.{Pending, Pushes, StatePushes}

-- ---- one

-- a store at `at` or behind it is not seen before
untouched : (w : List ℕ) (i v start size : ℕ) → start + size ≤ i → take size (drop start (set w i v)) ≡ take size (drop start w)
untouched w i v start size h =
    let e : i ≡ start + (i - start) = omega arith in
    let g : size ≤ i - start = omega arith in
    rw (e, drop-set-add start w (i - start) v) (take-set-le size (drop start w) (i - start) v g)

-- the next one behind `count`
next : (w : List ℕ) (a count v : ℕ) → a + count < length w → take (count + 1) (drop a (set w (a + count) v)) ≡ take count (drop a w) ++ (v ∷ [])
next w a count v h =
    let g : count < length (drop a w) = simp length-drop (omega arith) in
    rw (drop-set-add a w count v, add-one count) (take-suc-set (drop a w) count v g)

pub push_one : {l : Limits} (n : Counters) (b b' : List ℕ) (count : ℕ) (x : code.Literal) → Fits l (length b)
    → held l b' ≡ stored (held l b) 19 (n.literals + count) x.code → Pushes l n (held l b) count (literal_of x ∷ []) (count + 1) (held l b')
push_one {l} n b b' count x f e =
    record {
      others = changed_stored 19 (n.literals + count) x.code e (unfold any in refl);
      same = λ start size h. unfold literals_in in rw (here, untouched (held l b 19) (n.literals + count) x.code start size (omega arith));
      more_counted = refl;
      pending = λ ks p. record { counted = omega (arith, length-append ks (literal_of x ∷ []), p.counted); stored = behind ks p };
    }
  where
    here : held l b' 19 ≡ set (held l b 19) (n.literals + count) x.code
    here = ap (λ (st : ℕ → List ℕ). st 19) e ∙ stored_here (held l b) 19 (n.literals + count) x.code

    long : length (held l b 19) ≡ l.literals
    long = length_held l b 19 f ∙ unfold size_of sizes in refl

    behind : (ks : List Literal) → Pending l n (held l b) ks count → n.literals + (count + 1) ≤ l.literals
        → literals_in (held l b' 19) n.literals (count + 1) ≡ ks ++ (literal_of x ∷ [])
    behind ks p h =
        let before = p.stored (omega arith) in
        unfold literals_in literal_of literal_in in
        rw (here, next (held l b 19) n.literals count x.code (omega (arith, long)), map-append literal_in (take count (drop n.literals (held l b 19))) (x.code ∷ []))
        (ap (λ us. us ++ (literal_in x.code ∷ [])) before)

-- ---- none, and more

push_none : {l : Limits} {n : Counters} {st : ℕ → List ℕ} {count : ℕ} → Pushes l n st count [] count st
push_none {l} {n} {st} {count} =
    record { others = changed_none (19 ∷ []) st; same = λ start size h. refl; more_counted = omega arith; pending = λ ks p. rw (append-nil ks) p }

push_then : {l : Limits} {n : Counters} {st st' st'' : ℕ → List ℕ} {a b d : ℕ} {us vs : List Literal}
    → Pushes l n st a us b st' → Pushes l n st' b vs d st'' → Pushes l n st a (us ++ vs) d st''
push_then {us = us} {vs = vs} p q =
    record {
      others = changed_then p.others q.others;
      same = λ start size h. q.same start size h ∙ p.same start size h;
      more_counted = omega (arith, p.more_counted, q.more_counted, length-append us vs);
      pending = λ ks k. rw (← append_assoc ks us vs) (q.pending (ks ++ us) (p.pending ks k));
    }

-- ---- what is behind the stored ones then

pending_none : {l : Limits} {n : Counters} {st : ℕ → List ℕ} → Pending l n st [] 0
unfolding literals_in
pending_none = record { counted = refl; stored = λ h. refl }

-- pushed from the start on, with room for them
module _ {l : Limits} {n : Counters} {st st' : ℕ → List ℕ} {m : ℕ} {ks : List Literal} (p : Pushes l n st 0 ks m st') where
  pub pushed_count : m ≡ length ks
  pushed_count = omega (arith, p.more_counted)

  pushed_are : n.literals + m ≤ l.literals → literals_in (st' 19) n.literals m ≡ ks
  pushed_are h = (p.pending [] pending_none).stored h

-- ---- the state is as it was

cond_same : {A : Type 0} (b : Bool) {x x' : A} (y : A) → (b ≡ true → x ≡ x') → cond b x y ≡ cond b x' y
cond_same true y f = f refl
cond_same false y f = refl

push_variables : {l : Limits} {n : Counters} {st st' : ℕ → List ℕ} {a b : ℕ} {us : List Literal} → Pushes l n st a us b st'
    → variables n.variables st' ≡ variables n.variables st
push_variables {n = n} p = variables_kept p.others n.variables (unfold any in refl)

module _ {c : Catalogue} {l : Limits} {n : Counters} {st st' : ℕ → List ℕ} {a b : ℕ} {us : List Literal} (p : Pushes l n st a us b st') where
  clause_same : (vs : List Origin) {r : Row} → Sound c vs n.literals r → clause_in c vs (st' 19) r ≡ clause_in c vs (st 19) r
  unfolding clause_in
  clause_same vs {r} s = ap (cond (eqb r.kind 0) _) (cond_same (eqb r.kind 1) _ (λ e. rw (p.same r.start r.count (s.stored (eqb-true r.kind 1 e)))))

  clauses_same : (vs : List Origin) {rs : List Row} → Each (Sound c vs n.literals) rs → clauses_in c vs (st' 19) rs ≡ clauses_in c vs (st 19) rs
  unfolding clauses_in
  clauses_same vs Each.nil = refl
  clauses_same vs (Each.cons s ss) = rw (clause_same vs s, clauses_same vs ss)

  push_good : GoodState c l n st → GoodState c l n st'
  unfolding any
  push_good g = state_kept p.others (search) g

  good_pushed : {cl wt : List ℕ} → Good c l n st cl wt → Good c l n st' cl wt
  good_pushed {cl} {wt} g =
      record {
        state = push_good g.state;
        clauses = record {
          room = g.clauses.room;
          literals = rw (push_variables p, clauses_same (variables n.variables st) g.clauses.sound) g.clauses.literals;
          sound = rw (push_variables p) g.clauses.sound;
        };
        entries = g.entries;
      }

  state_pushed : {cl wt : List ℕ} → Good c l n st cl wt → (v : Reading) → state_of c l v n st' cl wt ≡ state_of c l v n st cl wt
  unfolding state_of opening_of any
  state_pushed {cl} {wt} g v =
      let ch = p.others in
      let k = clauses_same (variables n.variables st) g.clauses.sound in
      simp (list_kept ch, line_kept ch, variables_kept ch, decisions_kept ch, k)

  -- a step that does nothing
  push_did : StateDid c l (λ v s. s) n st n st'
  push_did =
      record {
        is = λ cl wt. did_made (λ v s. widens_same) refl (λ g. beside_kept p.others (unfold any in refl) (unfold any in refl) (unfold any in refl)) refl refl (λ k. refl) good_pushed state_pushed;
      }

-- ---- of the encoder's state

pub pushes_none : {x : encoder.State} {count : ℕ} → StatePushes x count [] count x
pushes_none = record { written = written_same; pushes = push_none }

pub pushes_then : {x x' x'' : encoder.State} {a b d : ℕ} {us vs : List Literal} → StatePushes x a us b x' → StatePushes x' b vs d x'' → StatePushes x a (us ++ vs) d x''
pushes_then p q = record { written = written_then p.written q.written; pushes = push_then p.pushes (rw (p.written.limits, p.written.used) at q.pushes) }

module _ {x x' : encoder.State} {a b : ℕ} {us : List Literal} (p : StatePushes x a us b x') where
  pub pushes_variables : variables_of x' ≡ variables_of x
  pushes_variables = rw (p.written.limits, p.written.used) (push_variables p.pushes)

  pub pushes_good : {c : Catalogue} → IsGoodState c x → IsGoodState c x'
  pushes_good g = rw (p.written.limits, p.written.used) (push_good p.pushes g)

  -- a step that does nothing
  pub pushes_do : {c : Catalogue} → StateDoes c (λ v s. s) x x'
  pushes_do = record { limits = p.written.limits; area = p.written.area; did = rw p.written.used (push_did p.pushes) }

-- pushed from the start on, with room for them
pub pushes_are : {x x' : encoder.State} {m : ℕ} {ks : List Literal} → StatePushes x 0 ks m x' → x'.used.literals + m ≤ x'.limits.literals
    → literals_in (regions_of x' 19) x'.used.literals m ≡ ks
pushes_are p = rw (p.written.limits, p.written.used) (pushed_are p.pushes)
