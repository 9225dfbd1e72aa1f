-- A requirement's task, for the disjuncts that hold now or for a drawn one.
use mathlib.Core.Path.{◌≡◌, refl, sym, ◌∙◌, ap, subst}
use mathlib.Core.Bool.{Bool, true}
use mathlib.Core.List.{List, [], ◌∷◌}
use Prim.Native.Nat.{ℕ, ◌<◌}
use lib.ListN.{get_or}
use Rattle.rules.specs.Lists.{filter}
use Rattle.rules.specs.Catalogue.{Catalogue}
use Rattle.rules.specs.Conditions.{indices, unconditional}
use Rattle.rules.specs.Opening.{Task, requirement}
use Rattle.rules.specs.State.{Run}
use Rattle.rules.proofs.Each.{Each}
use Rattle.rules.proofs.Valid as rules
use Rattle.tables.specs.declared.Counts.{Counts}
use Rattle.cache.specs.Areas.{catalogue}
use Rattle.cache.proofs.Laws.{requirements_held}
use Rattle.line.specs.declared.Task.TheVariants.{Drawn}
use Rattle.entries.specs.declared.Entry.{Entry}
use Rattle.entries.specs.Entries.{no_entry, entry_of}
use Rattle.encoder.specs.declared.State.{State}
use Rattle.encoder.specs.Held.{fired_now, drawn_task}
use Rattle.encoder.specs.Does.{regions_of}
use Rattle.goals.specs.Goals.{truth_of}
use Rattle.owners.specs.Owners.{serving}
use Rattle.owners.proofs.Records.{none_fired}
use Rattle.firing.specs.declared.Indices.{Indices}
use Rattle.firing.specs.Firing.{judging, indices_in, Lists}
use Rattle.firing.proofs.Callers.{truth_held, fired_given, fired_listed}
use Rattle.naming.specs.Naming.{GivenIndices}
use Rattle.naming.specs.Alike.{ClausesDoAlike}
use Rattle.naming.proofs.AlikeDid.{alike_as}
use Rattle.serving.specs.Serving.{served_fired, served_drawn, TaskGiven}

-- ---- the disjuncts that hold now

pub none_given : {c : Catalogue} {q : ℕ} → GivenIndices c q []
none_given = record { given = Each.nil }

module _ (c : Catalogue) (f : ℕ → Bool) (q : ℕ) where
  -- none of a requirement without a condition
  pub held_without : unconditional c q ≡ true → [] ≡ fired_now c f q
  held_without u = sym (none_fired c f q u)

  -- the code's list
  module _ {is : Indices} {js : List ℕ} (e : js ≡ indices_in is) (x : Lists is (filter (judging c f q true) (indices c q))) where
    pub held_listed : js ≡ fired_now c f q
    held_listed = e ∙ (fired_listed c f q x).is

    pub held_given : GivenIndices c q js
    held_given = record { given = rw held_listed (fired_given c f q) }

module _ {c : Catalogue} (r : Run) {x x' : State} {cl cl' : List ℕ} where
  pub fired_served : (q : ℕ) {is : List ℕ} → is ≡ fired_now c (truth_of x) q
      → ClausesDoAlike c (λ v. serving c r (requirement q is)) x cl x' cl' → ClausesDoAlike c (λ v. served_fired c r q) x cl x' cl'
  unfolding served_fired
  fired_served q e d =
      record { limits = d.limits; area = d.area; did = record { is = λ wt. alike_as (d.did.is wt) (λ v. rw (truth_held c x.limits v x.used (regions_of x) cl wt, e)) } }

  -- ---- a drawn one

  pub drawn_served : (ds : List (ℕ × ℕ)) (e : ℕ) (it : Entry) → entry_of it ≡ get_or ds e no_entry
      → ClausesDoAlike c (λ v. serving c r (requirement it.requirement (it.disjunct ∷ []))) x cl x' cl'
      → ClausesDoAlike c (λ v. served_drawn c r ds e) x cl x' cl'
  unfolding served_drawn
  drawn_served ds e it w d =
      let same : requirement it.requirement (it.disjunct ∷ []) ≡ drawn_task (entry_of it) = unfold drawn_task entry_of in refl in
      subst (λ (t : Task). ClausesDoAlike c (λ v. serving c r t) x cl x' cl') (same ∙ ap drawn_task w) d

module _ {c : Catalogue} {ds : List (ℕ × ℕ)} {e : ℕ} (it : Entry) (g : TaskGiven c ds (Drawn e)) (w : entry_of it ≡ get_or ds e no_entry) where
  drawn_entry : rules.Entry c (entry_of it)
  drawn_entry = rw w g.given.1

  pub drawn_given : GivenIndices c it.requirement (it.disjunct ∷ [])
  unfolding entry_of
  drawn_given = record { given = Each.cons drawn_entry.disjunct Each.nil }

pub drawn_below : (k : Counts) (m us t : List ℕ) {ds : List (ℕ × ℕ)} {e : ℕ} (it : Entry) → TaskGiven (catalogue k m us t) ds (Drawn e) → entry_of it ≡ get_or ds e no_entry
    → it.requirement < k.requirements
unfolding entry_of
drawn_below k m us t it g w = rw requirements_held at (drawn_entry it g w).requirement
