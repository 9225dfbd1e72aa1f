-- DEMAND 3: for every job that is accepted and every set of parts, the helper variables have values that make every clause of the listing true
-- exactly where the set keeps the catalogue's rules as far as the job has opened them.
use mathlib.Core.Path.{◌≡◌}
use mathlib.Core.Logic.{◌↔◌, ◌⊎◌, inl, inr, ⊎_elim}
use mathlib.Core.Bool.{false}
use mathlib.Core.List.Memᴰ
use mathlib.Core.List.{List}
use Prim.Native.Nat.{ℕ}
use Rattle.rules.specs.Clause.{Clause}
use Rattle.rules.specs.Catalogue.{Owner, root, Catalogue}
use Rattle.rules.specs.Candidates.{requirements_of}
use Rattle.rules.specs.Conditions.{indices, unconditional}
use Rattle.rules.specs.Variables.{chosen}
use Rattle.rules.specs.State.{State}
use Rattle.rules.specs.Limits.{Limits, Terms}
use Rattle.rules.specs.Job.{accepted, outcome}
use Rattle.rules.specs.Called.{◌∈◌, Called}
use Rattle.rules.specs.Keeps.{Demand3}
use Rattle.rules.proofs.Reached.{Given, Reached, accepted_job}
use Rattle.rules.proofs.MemberLaws.{all_in}
use Rattle.rules.proofs.WellFormed.{well_formed}
use Rattle.rules.proofs.Valid.{valid}
use Rattle.rules.proofs.Booked.{disjunct_kept_law}
use Rattle.rules.proofs.Encoded.{root_stands, every_literal_below}
use Rattle.rules.proofs.History.{history}
use Rattle.rules.proofs.Stored.{stored_called, called_stored, required_known}
use Rattle.rules.proofs.Meaning.{Encodes, meaning}

module _ {l : Limits} {c : Catalogue} {s : State} (g : Given c) (r : Reached l c s) where
  -- NO RULE IS LOST, NONE INVENTED: after every record the stored clauses are exactly those that the opening calls for
  pub exactly_called : (k : Clause) → (k ∈ s.clauses) ↔ Called c s.opening s.variables k
  exactly_called k = (stored_called (history c g r) k, called_stored (history c g r) (well_formed g) k)

  encodes : Encodes c s.opening s.variables s.clauses
  encodes =
      let h = history c g r in
      record {
        stored = stored_called h;
        called = called_stored h (well_formed g);
        below = λ k m q i. every_literal_below h.encoded m i;
        root_first = (root_stands h.encoded.numbered (chosen root)).1;
        names_below = λ p m. (well_formed g).parts p (all_in _ s.opening.tracked (valid g r).opening.tracked m);
      }

pub demand3 : Demand3
demand3 t job c s e = let a = accepted_job t job e in meaning (encodes a.given a.reached)

-- and no disjunct is lost: at an accepted job's end each disjunct of an opened owner's conditional requirement has fired or waits
pub fired_or_waiting : (t : Terms) (job : List ℕ) {c : Catalogue} {s : State} → outcome t job ≡ accepted c s
    → (w : Owner) → w ∈ s.opening.owners → (q : ℕ) → q ∈ requirements_of c w → unconditional c q ≡ false → (i : ℕ) → i ∈ indices c q
    → ((q, i) ∈ s.opening.fired) ⊎ ((q, i) ∈ s.opening.waiting)
fired_or_waiting t job {c} {s} e w m q i u j n =
    let a = accepted_job t job e in
    let h = history c a.given a.reached in
    ⊎_elim (λ f. inl f) (⊎_elim (λ x. inr x) (λ d. absurd (Memᴰ.not-nil (rw a.none_drawn at d))))
    (disjunct_kept_law c h.booked m (required_known h (well_formed a.given) w q i) q i u j n)
