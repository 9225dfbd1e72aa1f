-- What a step that changes some regions leaves: what holds between two steps (`Good`), and the state.
use mathlib.Core.Path.{◌≡◌, refl}
use mathlib.Core.Bool.{Bool, true, false, ◌||◌, cond}
use mathlib.Core.List.{List, [], map}
use Prim.Native.Nat.{ℕ, ◌+◌, ◌<◌, ◌≤◌}
use native.Mathlib.Omega.{arith}
use lib.Dec.{eqb}
use lib.ListN.{length, get_or, length-map}
use borrow.Author.Tests.{eqb-true, le-ltb}
use Rattle.rules.specs.Lists.{any, elem}
use Rattle.rules.specs.Catalogue.{Catalogue}
use Rattle.rules.specs.Variables.{Origin, known, part_origin, part_variable}
use Rattle.rules.specs.Opening.{tracked_of}
use Rattle.rules.specs.Limits.{above}
use Rattle.rules.proofs.Each.{Each, each_imp}
use Rattle.rules.proofs.Grows.{Prefix}
use Rattle.rules.proofs.Places.{keeps_variable}
use Rattle.state.specs.declared.Limits.{Limits}
use Rattle.state.specs.Changed.{Changed}
use Rattle.state.proofs.Changed.{changed_none}
use Rattle.state.proofs.Rows.{length_rows}
use Rattle.variable_map.specs.Mapping.{variables, Mapped}
use Rattle.variable_map.proofs.Laws as variables
use Rattle.variable_map.proofs.Laws.{variables_kept, mapped_kept}
use Rattle.decision_tracker.specs.Tracking.{Kept}
use Rattle.decision_tracker.proofs.Laws.{kept_kept}
use Rattle.marked.specs.Marked.{listed, Marked}
use Rattle.marked.proofs.Laws.{listed_same, marked_same}
use Rattle.line.specs.Line.{queued}
use Rattle.line.proofs.Line.{queued_same}
use Rattle.entries.specs.Entries.{row_at_index, waiting_in}
use Rattle.tables.proofs.Listed.{listed_length}
use Rattle.solver.specs.Rows.{Row, rows}
use Rattle.encoder.specs.declared.Counters.{Counters}
use Rattle.encoder.specs.Held.{Reading, state_of, opening_of, goal_variables, clause_in, clauses_in, Sound, GoodState, GoodClauses, Good}
use Rattle.encoder.specs.Did.{filled}
use Rattle.state.specs.Limits.{limits_of}

-- ---- the state area

-- P of what was changed, and otherwise Q
abbrev pub Of : Bool → Type 0 → Type 0 → Type 0
Of true P Q = P
Of false P Q = Q

by_parts : {P Q : Type 0} (a b : Bool) → Of (a || b) P Q → (a ≡ false → b ≡ false → Q → P) → P
by_parts true b p f = p
by_parts false true p f = p
by_parts false false q f = f refl refl q

-- what is to be shown after a change of the regions js: of a table in those regions that it is in order, and of another that it has as many rows as before.
-- With js in numerals each is the one or the other under `unfolding any`.
pub record Anew (js : List ℕ) (c : Catalogue) (l : Limits) (n n' : Counters) (st' : ℕ → List ℕ) : Type 0 where
  pub mapped : Of (elem 0 js || elem 16 js) (Mapped l n'.variables st') (n'.variables ≡ n.variables)
  pub kept : Of (elem 17 js || elem 18 js) (Kept l n'.decisions st') (n'.decisions ≡ n.decisions)
  pub owners : Of (elem 1 js || elem 2 js) (Marked 1 2 n'.owners st') (n'.owners ≡ n.owners)
  pub names : Of (elem 3 js || elem 4 js) (Marked 3 4 n'.names st') (n'.names ≡ n.names)
  pub several : n'.several ≤ 64
  pub added : Of (elem 6 js || elem 7 js) (Marked 6 7 n'.added st') (n'.added ≡ n.added)
  pub named : Of (elem 8 js || elem 9 js) (Marked 8 9 n'.named st') (n'.named ≡ n.named)
  pub tracked : Of (elem 10 js || elem 11 js) (Marked 10 11 n'.tracked st') (n'.tracked ≡ n.tracked)
  pub counted : Of (elem 10 js || elem 12 js) ((m : ℕ) → m < 64 → get_or (st' 12) m 0 ≡ length (tracked_of c m (listed n'.tracked 10 st')))
      (n'.tracked ≡ n.tracked)
  pub literals : n'.literals ≤ l.literals
  pub before : n'.first ≤ n'.tail
  pub room : n'.tail ≤ 3649 + l.waiting

module _ {js : List ℕ} {c : Catalogue} {l : Limits} {n n' : Counters} {st st' : ℕ → List ℕ} (ch : Changed js st st') where
  pub state_kept : Anew js c l n n' st' → GoodState c l n st → GoodState c l n' st'
  state_kept a g =
      record {
        mapped = by_parts (elem 0 js) (elem 16 js) a.mapped (λ p q e. rw e (mapped_kept ch p q g.mapped));
        kept = by_parts (elem 17 js) (elem 18 js) a.kept (λ p q e. rw e (kept_kept ch p q g.kept));
        owners = by_parts (elem 1 js) (elem 2 js) a.owners (λ p q e. rw e (marked_same g.owners ch p q));
        names = by_parts (elem 3 js) (elem 4 js) a.names (λ p q e. rw e (marked_same g.names ch p q));
        several = a.several;
        added = by_parts (elem 6 js) (elem 7 js) a.added (λ p q e. rw e (marked_same g.added ch p q));
        named = by_parts (elem 8 js) (elem 9 js) a.named (λ p q e. rw e (marked_same g.named ch p q));
        tracked = by_parts (elem 10 js) (elem 11 js) a.tracked (λ p q e. rw e (marked_same g.tracked ch p q));
        counted = by_parts (elem 10 js) (elem 12 js) a.counted (λ p q e m h. rw (e, ch.same 12 q, listed_same n.tracked 10 ch p) (g.counted m h));
        literals = a.literals;
        before = a.before;
        room = a.room;
      }

  -- ---- the stored clauses

  pub clauses_kept : {cl : List ℕ} → elem 16 js ≡ false → elem 19 js ≡ false → n'.variables ≡ n.variables → n'.clauses ≡ n.clauses
      → n'.literals ≡ n.literals → GoodClauses c l n st cl → GoodClauses c l n' st' cl
  clauses_kept p q v k i g =
      record {
        room = rw k g.room;
        literals = rw (v, k, i, variables_kept ch n.variables p, ch.same 19 q) g.literals;
        sound = rw (v, k, i, variables_kept ch n.variables p) g.sound;
      }

  -- ---- all of it, where variables, clauses and literals are as they were; `search` finds what is to be shown anew

  pub good_kept : {cl wt wt' : List ℕ} → Good c l n st cl wt → Anew js c l n n' st' → elem 16 js ≡ false → elem 19 js ≡ false → n'.variables ≡ n.variables
      → n'.clauses ≡ n.clauses → n'.literals ≡ n.literals → n'.waiting + n'.drawn ≤ l.waiting → Good c l n' st' cl wt'
  good_kept g a p q v k i w = record { state = state_kept a g.state; clauses = clauses_kept p q v k i g.clauses; entries = w }

-- ---- the state: with these and `ch.same`, under `unfolding any`, `simp` leaves what was changed

module _ {js : List ℕ} {st st' : ℕ → List ℕ} (ch : Changed js st st') where
  pub list_kept : (n r : ℕ) → elem r js ≡ false → listed n r st' ≡ listed n r st
  list_kept n r e = listed_same n r ch e

  pub line_kept : (head tail : ℕ) → elem 20 js ≡ false → queued head tail st' ≡ queued head tail st
  line_kept head tail e = queued_same head tail ch e

-- ---- more variables: what is stored names those that were there

cond_same : {A : Type 0} (b : Bool) {x x' y y' : A} → (b ≡ true → x ≡ x') → y ≡ y' → cond b x y ≡ cond b x' y'
cond_same true f e = f refl
cond_same false f e = e

module _ {vs ws : List Origin} (p : Prefix vs ws) where
  still_known : {ps : List ℕ} → Each (λ q. known vs (part_origin q) ≡ true) ps → Each (λ q. known ws (part_origin q) ≡ true) ps
  still_known = each_imp (λ q e. (keeps_variable p (part_origin q) e).0)

  same_variables : {ps : List ℕ} → Each (λ q. known vs (part_origin q) ≡ true) ps → map (part_variable ws) ps ≡ map (part_variable vs) ps
  same_variables Each.nil = refl
  same_variables (Each.cons {x} {xs} e es) = rw ((keeps_variable p (part_origin x) e).1, same_variables es)

  module _ {c : Catalogue} {k : ℕ} where
    pub sound_still : {r : Row} → Sound c vs k r → Sound c ws k r
    sound_still s = record { stored = s.stored; named = λ e. still_known (s.named e); gated = λ e. still_known (s.gated e) }

    pub clause_still : (w : List ℕ) {r : Row} → Sound c vs k r → clause_in c ws w r ≡ clause_in c vs w r
    unfolding clause_in goal_variables
    clause_still w {r} s =
        cond_same (eqb r.kind 0) (λ e. refl)
        (cond_same (eqb r.kind 1) (λ e. rw (same_variables (s.named (eqb-true r.kind 1 e))))
        (cond_same (eqb r.kind 2) (λ e. rw (same_variables (s.gated (eqb-true r.kind 2 e)))) refl))

    pub clauses_still : (w : List ℕ) {rs : List Row} → Each (Sound c vs k) rs → clauses_in c ws w rs ≡ clauses_in c vs w rs
    unfolding clauses_in
    clauses_still w Each.nil = refl
    clauses_still w (Each.cons s ss) = rw (clause_still w s, clauses_still w ss)

-- ---- where it is full

pub good_filled : {c : Catalogue} {l : Limits} {n : Counters} {st : ℕ → List ℕ} {cl wt : List ℕ} → Good c l n st cl wt → Good c l (filled n) st cl wt
unfolding filled any
good_filled {st = st} g = good_kept (changed_none [] st) g (search) refl refl refl refl refl g.entries

-- ---- between two steps no limit is passed

pub clauses_counted : (c : Catalogue) (vs : List Origin) (w : List ℕ) (k : ℕ) (cl : List ℕ) → length (clauses_in c vs w (rows k cl)) ≡ k
unfolding clauses_in rows
clauses_counted c vs w k cl = rw (length-map, listed_length)

pub waiting_counted : (l : Limits) (k : ℕ) (wt : List ℕ) → length (waiting_in l k wt) ≡ k
unfolding waiting_in
waiting_counted l k wt = length_rows (λ i. row_at_index wt i) k

pub good_within : {c : Catalogue} {l : Limits} {n : Counters} {st : ℕ → List ℕ} {cl wt : List ℕ} → Good c l n st cl wt → (v : Reading)
    → above (limits_of l) (state_of c l v n st cl wt) ≡ false
unfolding above limits_of state_of opening_of
good_within {c} {l} {n} {st} {cl} {wt} g v =
    let a : length (variables n.variables st) ≡ n.variables = variables.count n.variables st in
    let b : length (clauses_in c (variables n.variables st) (st 19) (rows n.clauses cl)) ≡ n.clauses = clauses_counted _ _ _ n.clauses cl in
    let d : length (waiting_in l n.waiting wt) ≡ n.waiting = waiting_counted l n.waiting wt in
    rw (
      a,
      b,
      d,
      ← g.clauses.literals,
      le-ltb l.variables n.variables g.state.mapped.room,
      le-ltb l.clauses n.clauses g.clauses.room,
      le-ltb l.literals n.literals g.state.literals,
      le-ltb l.waiting n.waiting (omega (arith, g.entries)),
    )
