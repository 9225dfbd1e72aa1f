-- The loop over the task line.
use mathlib.Core.Path.{◌≡◌, refl, sym, ◌∙◌, subst}
use mathlib.Core.Bool.{true, false, true≢false}
use mathlib.Core.List.{List}
use Prim.Native.Nat.{ℕ, ◌+◌, ◌<◌, ◌≤◌}
use native.Mathlib.Omega.{arith}
use lib.ListN.{length}
use Rattle.rules.specs.Catalogue.{Catalogue}
use Rattle.rules.specs.State.{State, Run}
use Rattle.rules.specs.Run.{run_once}
use Rattle.rules.specs.Limits.{above}
use Rattle.rules.proofs.Bools.{by_cases}
use Rattle.state.specs.Layout.{held, Fits}
use Rattle.state.proofs.Sizes.{length_line}
use Rattle.marked.specs.Marked.{Marked}
use Rattle.line.specs.Line.{line_at}
use Rattle.line.specs.Tasks.{task_of}
use Rattle.entries.specs.Entries.{drawn_in}
use Rattle.encoder.specs.declared.State as encoder
use Rattle.encoder.specs.Held.{LongEnough, Good}
use Rattle.encoder.specs.Did.{is_full}
use Rattle.encoder.specs.Does.{IsGoodWith, regions_of}
use Rattle.state.specs.Limits.{limits_of}
use Rattle.serving.specs.Serving.{TaskGiven}
use Rattle.beginning.specs.Beginning.{reading_of}
use Rattle.serving.specs.Line.{from, Point, Serves, ServesNext, IsBegun, ServesLine}
use Rattle.serving.proofs.Point.{point_given}
use Rattle.serving.proofs.Passing.{good_from, pass_step, pass_over}

-- `head` tasks were served: the areas hold that point of the run, or it would end above a limit
pub record Passed (c : Catalogue) (r : Run) (drawn : ℕ) (x₀ : encoder.State) (cl₀ wt₀ : List ℕ) (x : encoder.State) (cl wt : List ℕ) (head : ℕ) : Type 0 where
  pub limits : x.limits ≡ x₀.limits
  pub area : x.area.ghost_name ≡ x₀.area.ghost_name
  pub begun : IsBegun c r drawn x₀ cl₀ wt₀
  pub same_clauses : length cl ≡ length cl₀
  pub same_waiting : length wt ≡ length wt₀
  pub long : LongEnough x.limits (length cl) (length wt)
  pub good : IsGoodWith c x cl wt
  pub hand : Marked 14 15 0 (regions_of x)
  pub few : drawn ≤ x.limits.waiting
  pub first : x.used.first ≡ head
  pub none : x.used.drawn ≡ 0
  pub stays : is_full x₀.used ≡ true → is_full x.used ≡ true
  pub done : (level : ℕ) (s₀ : State) → drawn ≡ length s₀.opening.drawn → Point c x₀.limits level r s₀ (reading_of s₀) 0 x₀.used (regions_of x₀) cl₀ wt₀
      → is_full x₀.used ≡ false → is_full x.used ≡ false → Point c x₀.limits level r s₀ (reading_of s₀) head x.used (held x₀.limits x.area.now) cl wt
  pub over : (level : ℕ) (s₀ : State) → drawn ≡ length s₀.opening.drawn → Point c x₀.limits level r s₀ (reading_of s₀) 0 x₀.used (regions_of x₀) cl₀ wt₀
      → is_full x₀.used ≡ false → is_full x.used ≡ true → above (limits_of x₀.limits) (run_once c level s₀) ≡ true

pub passed_start : {c : Catalogue} {r : Run} {drawn : ℕ} {x : encoder.State} {cl wt : List ℕ} → IsGoodWith c x cl wt → LongEnough x.limits (length cl) (length wt)
    → Marked 14 15 0 (regions_of x) → IsBegun c r drawn x cl wt → Passed c r drawn x cl wt x cl wt 0
passed_start g h z b =
    record {
      limits = refl;
      area = refl;
      begun = b;
      same_clauses = refl;
      same_waiting = refl;
      long = h;
      good = g;
      hand = z;
      few = b.few;
      first = b.first;
      none = b.none;
      stays = λ e. e;
      done = λ level s₀ e p f₀ f. p;
      over = λ level s₀ e p f₀ f. absurd (true≢false (sym f ∙ f₀));
    }

module _ {c : Catalogue} {r : Run} {drawn : ℕ} {x₀ : encoder.State} {cl₀ wt₀ : List ℕ} {x : encoder.State} {cl wt : List ℕ} {head : ℕ}
    (p : Passed c r drawn x₀ cl₀ wt₀ x cl wt head) where
  not_at_first : is_full x.used ≡ false → is_full x₀.used ≡ false
  not_at_first f = by_cases (is_full x₀.used) (λ e. absurd (true≢false (sym (p.stays e) ∙ f))) (λ e. e)

  good_within : Good c x₀.limits x.used (held x₀.limits x.area.now) cl wt
  good_within = rw p.limits at p.good

  -- the line has room for no more tasks
  pub passed_room : x.used.tail ≤ 3649 + x₀.limits.waiting
  passed_room = good_within.state.room

  -- the number at the head names something given
  pub passed_given : is_full x.used ≡ false → head < x.used.tail → TaskGiven c (drawn_in x.limits drawn wt) (task_of (line_at head (regions_of x)))
  passed_given f h =
      let u = p.begun in
      let f₀ = not_at_first f in
      rw p.limits (point_given (p.done u.level u.state u.count (u.point f₀) f₀ f) u.count good_within h)

  pub passed_next : {x' : encoder.State} {cl' wt' : List ℕ} → is_full x.used ≡ false → head < x.used.tail → ServesNext c r drawn head x cl wt x' cl' wt'
      → length cl' ≡ length cl → length wt' ≡ length wt → Passed c r drawn x₀ cl₀ wt₀ x' cl' wt' (head + 1)
  unfolding from
  passed_next {x'} {cl'} {wt'} f h k q s =
      let d = k.serves.did.did in
      let g = good_from h p.good in
      let serves : Serves c x₀.limits r drawn head x.used (held x₀.limits x.area.now) cl wt x'.used (held x₀.limits x'.area.now) cl' wt' = rw p.limits at k.serves in
      let fits : Fits x₀.limits (length x'.area.now) = rw (k.limits ∙ p.limits) at x'.fits in
      record {
        limits = k.limits ∙ p.limits;
        area = k.area ∙ p.area;
        begun = p.begun;
        same_clauses = q ∙ p.same_clauses;
        same_waiting = s ∙ p.same_waiting;
        long = rw (k.limits, q, s) p.long;
        good = rw k.limits (d.good g);
        hand = rw k.limits ((d.beside g).marked 0 p.hand);
        few = rw k.limits p.few;
        first = d.first;
        none = d.fewer ∙ p.none;
        stays = λ e. d.stays (p.stays e);
        done = λ level s₀ e y f₀ f'. pass_step (p.done level s₀ e y f₀ f) e good_within f h serves f' (length_line x₀.limits x'.area.now fits);
        over = λ level s₀ e y f₀ f'. pass_over (p.done level s₀ e y f₀ f) e good_within f h serves f';
      }

  -- it is full
  pub passed_stop : is_full x.used ≡ true → ServesLine c r drawn x₀ cl₀ wt₀ x cl wt
  passed_stop f =
      record {
        limits = p.limits;
        area = p.area;
        served = record {
          good = good_within;
          hand = rw p.limits at p.hand;
          none = p.none;
          ended = λ f'. absurd (true≢false (sym f ∙ f'));
          stays = p.stays;
          done = λ level s₀ e y f₀ f'. absurd (true≢false (sym f ∙ f'));
          over = p.over;
        };
      }

  -- no task is left
  pub passed_end : x.used.tail ≤ head → ServesLine c r drawn x₀ cl₀ wt₀ x cl wt
  passed_end h =
      let all : head ≡ x.used.tail = omega (arith, p.good.state.before, p.first) in
      record {
        limits = p.limits;
        area = p.area;
        served = record {
          good = good_within;
          hand = rw p.limits at p.hand;
          none = p.none;
          ended = λ f'. p.first ∙ all;
          stays = p.stays;
          done = λ level s₀ e y f₀ f'.
              subst (λ (k : ℕ). Point c x₀.limits level r s₀ (reading_of s₀) k x.used (held x₀.limits x.area.now) cl wt) all (p.done level s₀ e y f₀ f');
          over = p.over;
        };
      }
