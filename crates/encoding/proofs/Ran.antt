-- A run: begun, its line served, the named parts joined, the new one-of-name variables linked.
use mathlib.Core.Path.{◌≡◌, refl, sym, ◌∙◌, ap}
use mathlib.Core.Bool.{true, false, true≢false}
use mathlib.Core.List.{List, []}
use Prim.Native.Nat.{ℕ, ◌+◌, ◌≤◌}
use native.Mathlib.Omega.{arith}
use lib.ListN.{length}
use Rattle.rules.specs.Catalogue.{Catalogue}
use Rattle.rules.specs.Variables.{Origin}
use Rattle.rules.specs.Opening.{Opening}
use Rattle.rules.specs.State.{State}
use Rattle.rules.specs.State as rules
use Rattle.rules.specs.Run.{join_all, link_all}
use Rattle.rules.proofs.Bools.{by_cases}
use Rattle.rules.proofs.Places.{Distinct}
use Rattle.rules.proofs.Reached.{Given, Reached}
use Rattle.rules.proofs.Line.{run_from}
use Rattle.rules.proofs.Grows.{prefix_length}
use Rattle.rules.proofs.Forgotten.{forget}
use Rattle.state.specs.declared.Limits.{Limits}
use Rattle.state.specs.Layout.{held}
use Rattle.state.proofs.Sizes.{length_line}
use Rattle.variable_map.specs.Mapping.{variables, AllKnown}
use Rattle.variable_map.proofs.Laws.{count}
use Rattle.marked.specs.Marked.{listed}
use Rattle.encoder.specs.declared.Counters.{Counters}
use Rattle.encoder.specs.declared.Run.{Run}
use Rattle.encoder.specs.declared.State as encoder
use Rattle.encoder.specs.Held.{Reading, run_of, opening_of, state_of, Good}
use Rattle.encoder.specs.Did.{room_of, ClausesDid, is_full}
use Rattle.encoder.specs.Does.{ClausesDoes, IsGoodWith}
use Rattle.state.specs.Limits.{limits_of}
use Rattle.encoder.proofs.Steps.{good_waiting}
use Rattle.naming.specs.Alike.{AlikeIn}
use Rattle.naming.proofs.Alike.{in_same}
use Rattle.tracking.specs.Joining.{CanJoin, CanLink}
use Rattle.serving.specs.Line.{taken, Point, Begun, LineServed, IsBegun, ServesLine}
use Rattle.beginning.specs.Beginning.{reading_of}
use Rattle.serving.proofs.Point.{taken_none}
use Rattle.beginning.specs.Beginning.{Holds, Reaches, Begins, IsReached, RunBegins}
use Rattle.encoding.specs.Running.{RunDid, RunsOnce}
use Rattle.beginning.proofs.Begin.{held_count, drawn_few}
use Rattle.encoding.proofs.BothEnds.{held_run, held_entries, run_begins, any_reading_law, joined, run_ends, joined_over, linked_over}
use Rattle.encoding.proofs.Known.{Tracked, first_tracked, point_tracked, joined_tracked}

-- ---- in the areas

-- u is what they hold, but for what is forgotten, or alike
module _ (c : Catalogue) (l : Limits) (v : Reading) (n : Counters) (st : ℕ → List ℕ) (cl wt : List ℕ) {vs : List Origin} {u : State} (k : Tracked vs u)
    (e : AlikeIn c (forget u) (state_of c l v n st cl wt)) where
  held_variables : variables n.variables st ≡ u.variables
  unfolding state_of
  held_variables = ap (λ (s : State). s.variables) e.rest

  held_tracked : listed n.tracked 10 st ≡ u.opening.tracked
  unfolding state_of opening_of
  held_tracked = ap (λ (o : Opening). o.tracked) e.opening.rest

  known_here : AllKnown (variables n.variables st) (listed n.tracked 10 st)
  known_here = record { known = rw (held_variables, held_tracked) k.known.known_parts }

  older_here : length vs ≤ n.variables
  older_here = rw (← held_variables, count n.variables st) at (prefix_length k.older)

  apart_here : Distinct (variables n.variables st)
  apart_here = rw held_variables k.apart

-- ---- the run

-- r begins with these counters
pub record From (n : Counters) (r : Run) : Type 0 where
  pub number : r.number ≡ n.runs + 1
  pub before : r.before ≡ n.variables

module _ {c : Catalogue} {l : Limits} {r : Run} {n a : Counters} {st st₁ : ℕ → List ℕ} {cl wt : List ℕ} (w : From n r)
    (size : length (st₁ 20) ≡ 3649 + l.waiting) (x : Begins c l n st cl wt a st₁) where
  module _ {s : State} (g : Given c) (reached : Reached (limits_of l) c s) (h : Holds c l s n st cl wt) where
    run_is : run_of r ≡ run_from r.level s
    unfolding run_of
    run_is = rw (w.number, w.before) (held_run h r.level)

    first_point : is_full a ≡ false → Point c l r.level (run_of r) s (reading_of s) 0 a st₁ cl wt
    first_point f = run_begins g reached run_is size refl refl (held_entries h) x.first (x.done s g reached h f)

  -- what serving the line asks
  begun_here : Reaches c l n st cl wt → Begun c l (run_of r) n.drawn a st₁ cl wt
  begun_here h =
      record {
        level = r.level;
        state = h.state;
        count = held_count h.holds;
        few = drawn_few h;
        first = x.first;
        none = x.none;
        point = first_point h.given h.reached h.holds;
      }

  module _ {b : Counters} {st₂ : ℕ → List ℕ} {cl₂ wt₂ : List ℕ} (y : LineServed c l (run_of r) n.drawn a st₁ cl wt b st₂ cl₂ wt₂) where
    -- full already: when the run began, or in its line
    over_here : is_full b ≡ true → RunDid c l r.level n st cl wt b st₂ cl₂ wt₂
    over_here f =
        record {
          done = λ s g reached h z. absurd (true≢false (sym f ∙ z));
          over = λ s g reached h _. by_cases (is_full a) (λ e. x.over s g reached h e r.level)
              (λ e. y.over r.level s (held_count h) (first_point g reached h e) e f);
        }

    module _ (f : is_full b ≡ false) where
      not_before : is_full a ≡ false
      not_before = by_cases (is_full a) (λ e. absurd (true≢false (sym (y.stays e) ∙ f))) (λ e. e)

      all_taken : taken b ≡ b
      all_taken = taken_none b (y.ended f)

      module _ {s : State} (g : Given c) (reached : Reached (limits_of l) c s) (h : Holds c l s n st cl wt) where
        last_point : Point c l r.level (run_of r) s (reading_of s) b.tail b st₂ cl₂ wt₂
        last_point = y.done r.level s (held_count h) (first_point g reached h not_before) not_before f

        -- by any reading
        last_is : (v : Reading) → AlikeIn c (forget last_point.at) (state_of c l v b st₂ cl₂ wt₂)
        last_is v =
            let now : AlikeIn c (forget last_point.at) (state_of c l v (taken b) st₂ cl₂ wt₂) = rw (any_reading_law c l v (reading_of s) b st₂ cl₂ wt₂) last_point.is in
            rw all_taken at now

        last_tracked : Tracked s.variables last_point.at
        last_tracked = point_tracked c (run_of r) (first_tracked reached) last_point.after

      -- the run began with no more variables, and tracked parts have variables
      served_known : Reaches c l n st cl wt → (r.before ≤ b.variables) × AllKnown (variables b.variables st₂) (listed b.tracked 10 st₂)
      served_known h =
          let g = h.given in
          let reached = h.reached in
          let v = reading_of h.state in
          let e = last_is g reached h.holds v in
          let k = last_tracked g reached h.holds in
          let old : r.before ≡ length h.state.variables = unfold run_of in ap (λ (z : rules.Run). z.before) (run_is g reached h.holds) in
          (rw old (older_here c l v b st₂ cl₂ wt₂ k e), known_here c l v b st₂ cl₂ wt₂ k e)

      module _ {d : Counters} {st₃ : ℕ → List ℕ} {cl₃ : List ℕ} (j : ClausesDid c l (λ v. join_all c (run_of r)) b st₂ cl₂ d st₃ cl₃) where
        good_here : Good c l d st₃ cl₃ wt₂
        good_here = (j.is wt₂).good y.good

        -- full when the parts had joined
        join_over_here : is_full d ≡ true → RunDid c l r.level n st cl wt d st₃ cl₃ wt₂
        join_over_here z =
            record {
              done = λ s g reached h i. absurd (true≢false (sym z ∙ i));
              over = λ s g reached h _. joined_over (last_point g reached h) refl (last_is g reached h (reading_of s)) (room_of l b)
                  ((j.is wt₂).over y.good f z (reading_of s));
            }

        module _ (z : is_full d ≡ false) where
          join_is : (v : Reading) → state_of c l v d st₃ cl₃ wt₂ ≡ join_all c (run_of r) (state_of c l v b st₂ cl₂ wt₂)
          join_is v = (j.is wt₂).done y.good f z v

          -- tracked parts have variables, and no origin has two
          joined_known : Reaches c l n st cl wt → AllKnown (variables d.variables st₃) (listed d.tracked 10 st₃) × Distinct (variables d.variables st₃)
          joined_known h =
              let g = h.given in
              let reached = h.reached in
              let v = reading_of h.state in
              let at = (last_point g reached h.holds).at in
              let e : AlikeIn c (forget (join_all c (run_of r) at)) (state_of c l v d st₃ cl₃ wt₂) =
              rw (join_is v ∙ joined (last_point g reached h.holds) refl (last_is g reached h.holds v)) in_same in
              let t = joined_tracked c (run_of r) (last_tracked g reached h.holds) in
              (known_here c l v d st₃ cl₃ wt₂ t e, apart_here c l v d st₃ cl₃ wt₂ t e)

          module _ {m : Counters} {st₄ : ℕ → List ℕ} {cl₄ : List ℕ} (k : ClausesDid c l (λ v. link_all c (run_of r)) d st₃ cl₃ m st₄ cl₄) where
            -- the run carried out, or full at its very end
            ran_here : RunDid c l r.level n st cl wt m st₄ cl₄ wt₂
            ran_here =
                record {
                  done = λ s g reached h i.
                      record {
                        good = (k.is wt₂).good good_here;
                        hand = ((k.is wt₂).beside good_here).marked 0 (((j.is wt₂).beside y.good).marked 0 y.hand);
                        room = i;
                        is = λ v. (k.is wt₂).done good_here z i v ∙ (ap (link_all c (run_of r)) (join_is v) ∙ run_ends (last_point g reached h) refl (last_is g reached h v));
                      };
                  over = λ s g reached h i. linked_over (last_point g reached h) refl (last_is g reached h (reading_of s)) (room_of l d)
                      (rw (join_is (reading_of s)) at ((k.is wt₂).over good_here z i (reading_of s)));
                }

-- ---- the run, of the encoder's state

module _ {c : Catalogue} {r : Run} {x a : encoder.State} {cl wt : List ℕ} (w : From x.used r) (k : RunBegins c x cl wt a) where
  begun_size : length (held x.limits a.area.now 20) ≡ 3649 + x.limits.waiting
  begun_size = length_line x.limits a.area.now (rw k.limits at a.fits)

  -- what serving the line asks
  pub line_begun : IsReached c x cl wt → IsBegun c (run_of r) x.used.drawn a cl wt
  line_begun h = rw k.limits (begun_here w begun_size k.did h)

  module _ {b : encoder.State} {cl₂ wt₂ : List ℕ} (y : ServesLine c (run_of r) x.used.drawn a cl wt b cl₂ wt₂) where
    line_served : LineServed c x.limits (run_of r) x.used.drawn a.used (held x.limits a.area.now) cl wt b.used (held x.limits b.area.now) cl₂ wt₂
    line_served = rw k.limits at y.served

    served_limits : b.limits ≡ x.limits
    served_limits = y.limits ∙ k.limits

    -- full already: when the run began, or in its line
    pub line_over : is_full b.used ≡ true → RunsOnce c r.level x cl wt b cl₂ wt₂
    line_over f = record { limits = served_limits; area = y.area ∙ k.area; did = over_here w begun_size k.did line_served f }

    pub good_served : IsGoodWith c b cl₂ []
    good_served = rw served_limits (good_waiting [] line_served.good)

    module _ (f : is_full b.used ≡ false) where
      -- what joining asks
      pub can_join : IsReached c x cl wt → CanJoin b r
      can_join h =
          let q = served_known w begun_size k.did line_served f h in
          record { going = f; number = rw w.number (omega arith); older = q.0; known = rw served_limits q.1 }

      module _ {d : encoder.State} {cl₃ : List ℕ} (j : ClausesDoes c (λ v. join_all c (run_of r)) b cl₂ d cl₃) where
        joined_in : ClausesDid c x.limits (λ v. join_all c (run_of r)) b.used (held x.limits b.area.now) cl₂ d.used (held x.limits d.area.now) cl₃
        joined_in = rw served_limits at j.did

        joined_limits : d.limits ≡ x.limits
        joined_limits = j.limits ∙ served_limits

        joined_area : d.area.ghost_name ≡ x.area.ghost_name
        joined_area = j.area ∙ (y.area ∙ k.area)

        -- full when the parts had joined
        pub join_over : is_full d.used ≡ true → RunsOnce c r.level x cl wt d cl₃ wt₂
        join_over z = record { limits = joined_limits; area = joined_area; did = join_over_here w begun_size k.did line_served f joined_in z }

        module _ (z : is_full d.used ≡ false) where
          -- what linking asks
          pub can_link : IsReached c x cl wt → CanLink d
          can_link h =
              let q = joined_known w begun_size k.did line_served f joined_in z h in
              record { going = z; known = rw joined_limits q.0; apart = rw joined_limits q.1 }

          -- the run carried out, or full at its very end
          pub ran : {m : encoder.State} {cl₄ : List ℕ} → ClausesDoes c (λ v. link_all c (run_of r)) d cl₃ m cl₄ → RunsOnce c r.level x cl wt m cl₄ wt₂
          ran i =
              record {
                limits = i.limits ∙ joined_limits;
                area = i.area ∙ joined_area;
                did = ran_here w begun_size k.did line_served f joined_in z (rw joined_limits at i.did);
              }
