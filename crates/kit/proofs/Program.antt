-- The demands of the program: what follows from the contracts of `run` and `check` and the theorems on the definitions.
use mathlib.Core.Path.{◌≡◌, refl, sym, ◌∙◌}
use mathlib.Core.List.{List, ◌++◌}
use Prim.Native.Nat.{ℕ}
use lib.ListN.{length, take, drop}
use lib.Seq.{take_at, drop_at}
use Rattle.rules.specs.Limits as rules
use Rattle.rules.specs.Listing.{listing}
use Rattle.rules.specs.Job.{Outcome, accepted, refused, outcome, accepts, refuses, answer, printed, listing_area}
use Rattle.rules.specs.Job as job
use Rattle.rules.proofs.KindTable.{not_one}
use Rattle.rules.proofs.ReadBack.{read_back}
use Rattle.rules.proofs.Demand3Read.{demand3_read}
use Rattle.rules.proofs.CheckRun.{check_agrees, numbered, placed}
use Rattle.terms.specs.declared.Answer.{Answer}
use Rattle.terms.specs.Answers.{answer_of}
use Rattle.kit.specs.Running.{Ran}
use Rattle.kit.specs.Program.{terms, Accepts, Program, Refuses, Refusing, Agreeing}

module _ (j : List ℕ) (l : rules.Limits) (r : Answer) (m u t c s w out m' u' t' c' s' w' out' : List ℕ) where
  abbrev z : rules.Terms
  z = terms j l r m u t c s w out m' u' t' c' s' w' out'

  module _ (h : Ran j l r m u t c s w out m' u' t' c' s' w' out') where
    told : answer_of r ≡ answer z j
    told = h.runs.answer.means

    by_outcome : job.answer_of (outcome z j) ≡ answer_of r
    unfolding answer
    by_outcome = sym told

    accepted_is : (n v k : ℕ) → answer_of r ≡ accepts n v k → Accepts j l r m u t c s w out m' u' t' c' s' w' out' n
    accepted_is n v k e = go (outcome z j) refl (by_outcome ∙ e)
      where
        go : (o : Outcome) → outcome z j ≡ o → job.answer_of o ≡ accepts n v k → Accepts j l r m u t c s w out m' u' t' c' s' w' out' n
        go (accepted a b) q f =
            let size : length (listing a b) ≡ n = unfold job.answer_of in cc in
            let area : out' ≡ listing a b ++ drop (length (listing a b)) out = unfold listing_area printed in rw q at h.runs.listing in
            let first : take n out' ≡ listing a b = rw (area, ← size) (take_at (listing a b) _ _ refl) in
            record {
              catalogue = a;
              state = b;
              is = q;
              bytes = first;
              rest = rw (area, ← size) (drop_at (listing a b) _ _ refl);
              clauses = rw first (read_back a b);
              means = λ P. rw first (demand3_read z j a b q P);
            }
        go (refused a) q f = absurd (not_one (unfold job.answer_of in cc))

    refused_is : (n p : ℕ) → answer_of r ≡ refuses n p → Refuses j l r m u t c s w out m' u' t' c' s' w' out' n p
    refused_is n p e =
        let f : answer z j ≡ refuses n p = sym told ∙ e in
        let b = numbered z j n p f in
        record { from = b.0; to = b.1; place = placed z j n p f; untouched = go (outcome z j) refl (by_outcome ∙ e) }
      where
        go : (o : Outcome) → outcome z j ≡ o → job.answer_of o ≡ refuses n p → out' ≡ out
        go (accepted a b) q f = absurd (not_one (unfold job.answer_of in cc))
        go (refused a) q f = unfold listing_area printed in rw q at h.runs.listing

  pub program : Program j l r m u t c s w out m' u' t' c' s' w' out'
  program = accepted_is

  pub refusing : Refusing j l r m u t c s w out m' u' t' c' s' w' out'
  refusing = refused_is

  pub agreeing : Agreeing j l r m u t c s w out m' u' t' c' s' w' out'
  agreeing h r₀ m₀ u₀ t₀ c₀ s₀ w₀ d n p = rw ((d.answer (length out)).means, told h) (check_agrees z j n p)
