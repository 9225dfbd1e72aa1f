-- The drawn entries fire one after another, each a task of its own.
use mathlib.Core.Path.{◌≡◌, refl, ap}
use mathlib.Core.List.{List, [], ◌∷◌, ◌++◌}
use Prim.Native.Nat.{ℕ, suc, ◌+◌, ◌<◌, ◌≤◌}
use native.Mathlib.Nat.{add-zero}
use native.Mathlib.Numerals.{add-one}
use native.Mathlib.Omega.{arith}
use lib.ListN.{length, get_or, take}
use lib.Seq.{length-take-le, take-suc, take_all}
use Rattle.rules.specs.Catalogue.{Catalogue}
use Rattle.rules.specs.Opening.{Opening}
use Rattle.rules.specs.State.{State}
use Rattle.rules.proofs.Each.{each_at}
use Rattle.tables.specs.declared.Counts.{Counts}
use Rattle.cache.specs.Areas.{catalogue}
use Rattle.cache.proofs.Laws.{requirements_held}
use Rattle.state.specs.declared.Limits.{Limits}
use Rattle.state.proofs.Rows.{length_rows}
use Rattle.entries.specs.declared.Entry.{Entry}
use Rattle.entries.specs.Entries.{no_entry, entry_of, row_at_index, drawn_in}
use Rattle.encoder.specs.declared.State as encoder
use Rattle.encoder.specs.Held.{Reading, task_in}
use Rattle.encoder.specs.Did.{on_opening}
use Rattle.encoder.specs.Does.{StateDoes, IsGood}
use Rattle.encoder.proofs.Does.{does_same, does_then, does_none, good_then}
use Rattle.goals.specs.Goals.{AllGiven}
use Rattle.firing.specs.Firing.{queued}
use Rattle.beginning.specs.Beginning.{fire_from, fire_drawn}

-- how many were drawn
pub drawn_counted : (l : Limits) (k : ℕ) (wt : List ℕ) → length (drawn_in l k wt) ≡ k
unfolding drawn_in
drawn_counted l k wt = length_rows (λ i. row_at_index wt (l.waiting + i)) k

pub drawn_inside : (l : Limits) (k : ℕ) (wt : List ℕ) {e : ℕ} → e < k → e < length (drawn_in l k wt)
drawn_inside l k wt h = rw (drawn_counted l k wt) h

pub drawn_passed : (l : Limits) (k : ℕ) (wt : List ℕ) {e : ℕ} → k ≤ e → length (drawn_in l k wt) ≤ e
drawn_passed l k wt h = rw (drawn_counted l k wt) h

module _ (c : Catalogue) (v : Reading) where
  -- one more behind the others
  from_snoc : (e : ℕ) (ds : List (ℕ × ℕ)) (x : ℕ × ℕ) (o : Opening)
      → queued c x.0 (task_in c v (3649 + (e + length ds))) (fire_from c v e ds o) ≡ fire_from c v e (ds ++ (x ∷ [])) o
  unfolding fire_from
  from_snoc e [] x o = rw (add-zero e)
  from_snoc e (d ∷ ds) x o =
      let same : e + length (d ∷ ds) ≡ suc e + length ds = omega arith in
      rw same (from_snoc (suc e) ds x _)

  drawn_none : (o : Opening) → fire_drawn c v [] o ≡ o
  unfolding fire_drawn fire_from
  drawn_none o = refl

  drawn_more : (ds : List (ℕ × ℕ)) (e : ℕ) (o : Opening) → e < length ds
      → queued c (get_or ds e no_entry).0 (task_in c v (3649 + e)) (fire_drawn c v (take e ds) o) ≡ fire_drawn c v (take (e + 1) ds) o
  unfolding fire_drawn
  drawn_more ds e o h =
      let n : 0 + length (take e ds) ≡ e = omega (arith, length-take-le e ds (omega arith)) in
      rw (add-one e, take-suc ds e no_entry h) (rw n at (from_snoc 0 (take e ds) (get_or ds e no_entry) o))

-- ---- the loop at entry e: those before it have fired

pub record Fired (c : Catalogue) (ds : List (ℕ × ℕ)) (x₀ x : encoder.State) (e : ℕ) : Type 0 where
  pub start : IsGood c x₀
  pub did : StateDoes c (λ v. on_opening (fire_drawn c v (take e ds))) x₀ x

pub fired_start : {c : Catalogue} (ds : List (ℕ × ℕ)) {x : encoder.State} → IsGood c x → Fired c ds x x 0
fired_start {c} ds g = record { start = g; did = does_none (λ v s. unfold on_opening in rw (drawn_none c v s.opening)) }

module _ {c : Catalogue} {ds : List (ℕ × ℕ)} {x₀ x : encoder.State} {e : ℕ} (y : Fired c ds x₀ x e) where
  pub fired_good : IsGood c x
  fired_good = good_then y.did y.start

  module _ (it : Entry) (h : e < length ds) (is : entry_of it ≡ get_or ds e no_entry) where
    next_is : (v : Reading) (s : State)
        → on_opening (queued c it.requirement (task_in c v (3649 + e))) (on_opening (fire_drawn c v (take e ds)) s) ≡ on_opening (fire_drawn c v (take (e + 1) ds)) s
    unfolding on_opening entry_of
    next_is v s =
        let q : it.requirement ≡ (get_or ds e no_entry).0 = ap (λ (y : ℕ × ℕ). y.0) is in
        rw (q, drawn_more c v ds e s.opening h)

    pub fired_step : {x' : encoder.State} → StateDoes c (λ v. on_opening (queued c it.requirement (task_in c v (3649 + e)))) x x' → Fired c ds x₀ x' (e + 1)
    fired_step d = record { start = y.start; did = does_same (does_then y.did d) next_is }

  pub fired_end : length ds ≤ e → StateDoes c (λ v. on_opening (fire_drawn c v ds)) x₀ x
  fired_end h = rw (take_all e ds h) at y.did

-- an entry's requirement
pub entry_given : (k : Counts) (m u t : List ℕ) {ds : List (ℕ × ℕ)} {e : ℕ} (it : Entry) → AllGiven (catalogue k m u t) ds → e < length ds → entry_of it ≡ get_or ds e no_entry
    → it.requirement < k.requirements
entry_given k m u t {ds} {e} it g h is =
    let q : it.requirement ≡ (get_or ds e no_entry).0 = unfold entry_of in ap (λ (y : ℕ × ℕ). y.0) is in
    rw (q, ← requirements_held k m u t) (each_at g.given e no_entry h).requirement
