-- A state area that was cleared, with the root's variable, and the clauses' area with install, hold the state at the start.
use mathlib.Core.Path.{◌≡◌, refl, ◌∙◌}
use mathlib.Core.List.{List, [], ◌∷◌}
use Prim.Native.Nat.{ℕ, ◌+◌, ◌<◌, ◌≤◌, zero-le}
use native.Mathlib.Omega.{arith}
use lib.ListN.{length}
use Rattle.rules.specs.Lists.{snoc, any, filter, up_to, sum}
use Rattle.rules.specs.Clause.{condition_literals}
use Rattle.rules.specs.Catalogue.{Catalogue}
use Rattle.rules.specs.Opening.{tracked_of}
use Rattle.rules.specs.State.{start}
use Rattle.rules.proofs.Each.{Each}
use Rattle.rules.proofs.Forgotten.{forget}
use Rattle.tables.specs.Tables as tables
use Rattle.state.specs.declared.Limits.{Limits}
use Rattle.state.specs.Changed.{Cleared}
use Rattle.state.specs.Layout.{held, Fits}
use Rattle.variable_map.specs.Mapping.{Grown}
use Rattle.decision_tracker.specs.Tracking.{decisions}
use Rattle.decision_tracker.proofs.Laws.{kept_none, kept_kept}
use Rattle.marked.specs.Marked.{listed, Marked}
use Rattle.marked.proofs.Laws.{marked_blank, owners_start, names_start, added_start, named_start, tracked_start, marked_same}
use Rattle.line.specs.Line.{queued}
use Rattle.entries.specs.Entries.{waiting_in, drawn_in}
use Rattle.solver.specs.declared.Stored.{Stored}
use Rattle.solver.specs.declared.Clause.TheVariants.{Install}
use Rattle.solver.specs.Rows.{no_row, row_of, rows}
use Rattle.solver.specs.Clauses.{clause_row}
use Rattle.encoder.specs.declared.Counters.{Counters}
use Rattle.encoder.specs.declared.State as encoder
use Rattle.encoder.specs.Does.{regions_of}
use Rattle.encoder.specs.Held.{Reading, clause_in, clauses_in, conflict_if, conflicts_from, opening_of, state_of, GoodState, GoodClauses}
use Rattle.carried.specs.Carrying.{Started}

-- the counters at the start
abbrev counters : (variables clauses : ℕ) → Counters
counters v k =
    record {
      variables = v;
      clauses = k;
      literals = 0;
      decisions = 0;
      owners = 0;
      names = 0;
      several = 0;
      added = 0;
      named = 0;
      tracked = 0;
      waiting = 0;
      drawn = 0;
      first = 0;
      tail = 0;
      runs = 0;
      full = 0;
    }

module _ (l : Limits) (b : List ℕ) (v : ℕ) {st : ℕ → List ℕ} (f : Fits l (length b)) (z : Cleared (held l b)) (g : Grown l v start.variables (held l b) st) where
  start_state : (c : Catalogue) (k : ℕ) → GoodState c l (counters v k) st
  unfolding any listed tracked_of filter
  start_state c k =
      record {
        mapped = g.mapped;
        kept = kept_kept g.rest refl refl (kept_none l _ z.values);
        owners = marked_same (owners_start l b f z) g.rest refl refl;
        names = marked_same (names_start l b f z) g.rest refl refl;
        several = zero-le;
        added = marked_same (added_start l b f z) g.rest refl refl;
        named = marked_same (named_start l b f z) g.rest refl refl;
        tracked = marked_same (tracked_start l b f z) g.rest refl refl;
        counted = λ m _. rw (g.rest.same 12 refl) ((z.first 12 (omega arith)).zeros m);
        literals = zero-le;
        before = zero-le;
        room = zero-le;
      }

  start_hand : Marked 14 15 0 st
  unfolding any
  start_hand = marked_same (marked_blank l b 14 15 (omega arith) (omega arith) (λ e. omega arith) (omega arith) (omega arith) f z.ranges) g.rest refl refl

  module _ (k : ℕ) (cl : List ℕ) (e : rows k cl ≡ no_row ∷ []) (c : Catalogue) where
    start_clauses : k ≤ l.clauses → GoodClauses c l (counters v k) st cl
    unfolding clauses_in clause_in sum condition_literals
    start_clauses h =
        record {
          room = h;
          literals = rw e;
          sound = rw e (Each.cons (record { stored = λ q. absurd (none q); named = λ q. absurd (none q); gated = λ q. absurd (no_gate q) }) Each.nil);
        }
      where
        none : no_row.kind ≡ 1 → ⊥
        none q = omega arith

        no_gate : no_row.kind ≡ 2 → ⊥
        no_gate q = omega arith

    start_is : (wt : List ℕ) (r : Reading) → state_of c l r (counters v k) st cl wt ≡ forget start
    unfolding state_of opening_of listed queued waiting_in drawn_in up_to decisions clauses_in clause_in conflicts_from conflict_if
    start_is wt r = rw (g.is, e)

-- the first row
only_row : (k : ℕ) (cl cl' : List ℕ) (x : Stored) → rows k cl' ≡ snoc (rows 0 cl) (row_of x) → row_of x ≡ no_row → rows k cl' ≡ no_row ∷ []
unfolding rows tables.listed up_to snoc
only_row k cl cl' x e q = rw q at e

pub started : (x : encoder.State) (b cl : List ℕ) (install : Stored) {cl' : List ℕ} {v k : ℕ} → x.used ≡ counters v k → Fits x.limits (length b) → Cleared (held x.limits b) → 0 < x.limits.clauses
    → Grown x.limits v start.variables (held x.limits b) (regions_of x) → k ≡ 0 + 1 → rows k cl' ≡ snoc (rows 0 cl) (row_of install) → row_of install ≡ clause_row Install 0
    → Started x cl'
started x b cl install {cl'} {v} {k} u f z h g e r i =
    let q = only_row k cl cl' install r (i ∙ unfold clause_row in refl) in
    record {
      holds = λ c wt. rw u (record {
        good = record { state = start_state x.limits b v f z g c k; clauses = start_clauses x.limits b v f z g k cl' q c (omega arith); entries = zero-le };
        hand = start_hand x.limits b v f z g;
        room = refl;
        is = start_is x.limits b v f z g k cl' q c wt;
      });
    }
