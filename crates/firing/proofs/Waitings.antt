-- Entries one after another behind those that wait.
use mathlib.Core.Path.{◌≡◌, refl, sym, ◌∙◌}
use mathlib.Core.List.{List, [], ◌∷◌, ◌++◌, map, map-append}
use Prim.Native.Nat.{ℕ, ◌+◌, ◌<◌, ◌≤◌}
use native.Mathlib.Numerals.{add-one}
use lib.ListN.{length, get_or, take}
use lib.Seq.{take-suc}
use Rattle.std.proofs.lemmas.List.{take_all}
use Rattle.rules.specs.Lists.{fold}
use Rattle.rules.specs.Catalogue.{empty_catalogue}
use Rattle.rules.specs.State.{State}
use Rattle.rules.proofs.Capped.{add_waiting}
use Rattle.rules.proofs.DistinctEnough.{fold_append}
use Rattle.entries.specs.Entries.{entry_of, Long}
use Rattle.encoder.specs.declared.State as encoder
use Rattle.encoder.specs.Did.{Widens}
use Rattle.opening.specs.Does.{WaitingDoes}
use Rattle.encoder.proofs.Did.{widens_same, widens_fold, did_idle, did_then, did_as}
use Rattle.encoder.proofs.Widening.{add_waiting_widens}
use Rattle.firing.specs.Firing.{waits}

pub waits_widens : (q : ℕ) (is : List ℕ) (s : State) → Widens s (waits q is s)
unfolding waits
waits_widens q is s = widens_fold add_waiting add_waiting_widens (map (λ i. (q, i)) is) s

waits_none : (q : ℕ) (s : State) → waits q [] s ≡ s
unfolding waits fold
waits_none q s = refl

waits_more : (q i : ℕ) (is : List ℕ) (s : State) → add_waiting (q, i) (waits q is s) ≡ waits q (is ++ (i ∷ [])) s
unfolding waits fold
waits_more q i is s =
    let entry : ℕ → ℕ × ℕ = λ j. (q, j) in
    rw (map-append entry is (i ∷ [])) (sym (fold_append add_waiting (map entry is) (entry i ∷ []) s))

-- the loop at place j: the indices passed wait
pub record Waited (q : ℕ) (is : List ℕ) (x₀ : encoder.State) (wt₀ : List ℕ) (x : encoder.State) (wt : List ℕ) (j : ℕ) : Type 0 where
  pub long : Long x.limits (length wt)
  pub same : length wt ≡ length wt₀
  pub drawn : x.used.drawn ≡ 0
  pub did : WaitingDoes (λ v. waits q (take j is)) x₀ wt₀ x wt

pub waited_start : (q : ℕ) (is : List ℕ) {x : encoder.State} {wt : List ℕ} → Long x.limits (length wt) → x.used.drawn ≡ 0 → Waited q is x wt x wt 0
waited_start q is k z =
    record {
      long = k;
      same = refl;
      drawn = z;
      did = record {
        limits = refl;
        area = refl;
        bytes = refl;
        did = record { is = λ c st cl. did_idle (λ v s. rw (waits_none q s) widens_same) (λ g f v. waits_none q _) };
      };
    }

module _ {q : ℕ} {is : List ℕ} {x₀ x : encoder.State} {wt₀ wt : List ℕ} {j : ℕ} (w : Waited q is x₀ wt₀ x wt j) where
  pub waited_step : {x' : encoder.State} {wt' : List ℕ} → j < length is → length wt' ≡ length wt
      → WaitingDoes (λ v. add_waiting (entry_of (record { requirement = q; disjunct = get_or is j 0 }))) x wt x' wt' → Waited q is x₀ wt₀ x' wt' (j + 1)
  waited_step {x'} {wt'} h e d =
      let more : (s : State) → add_waiting (entry_of (record { requirement = q; disjunct = get_or is j 0 })) (waits q (take j is) s) ≡ waits q (take (j + 1) is) s
      = λ s. rw (add-one j, take-suc is j 0 h) (unfold entry_of in waits_more q (get_or is j 0) (take j is) s) in
      let here = rw w.did.limits at d.did in
      record {
        long = rw (d.limits, e) w.long;
        same = e ∙ w.same;
        drawn = (d.did.is empty_catalogue (λ r. []) []).fewer ∙ w.drawn;
        did = record {
          limits = d.limits ∙ w.did.limits;
          area = d.area ∙ w.did.area;
          bytes = d.bytes ∙ w.did.bytes;
          did = record { is = λ c st cl. did_as (did_then (w.did.did.is c st cl) (here.is c st cl)) (λ v s. waits_widens q _ s) (λ g f v. more _) };
        };
      }

  pub waited_end : length is ≤ j → WaitingDoes (λ v. waits q is) x₀ wt₀ x wt
  waited_end h = rw (take_all j is h) at w.did
