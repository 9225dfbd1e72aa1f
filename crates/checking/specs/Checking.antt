-- What `check` says of a job, and how it leaves the catalogue's three areas.
use Rattle.std.specs.Prelude.{◌≡◌, List, ℕ, length, Result, Ok, Err}
use Rattle.rules.specs.Refusals.{number_and_place}
use Rattle.rules.specs.Limits as rules
use Rattle.rules.specs.Job.{accepts, refuses, check_answer}
use Rattle.rules.specs.Job as job
use Rattle.refusal.specs.declared.RefusedAt.{RefusedAt}
use Rattle.refusal.specs.Refusing.{refusal_of}
use Rattle.catalogue.specs.declared.Read.{Read}
use Rattle.terms.specs.declared.Answer.{Answer}
use Rattle.terms.specs.declared.Lent.{Lent}
use Rattle.terms.specs.Terms.{terms_of}
use Rattle.terms.specs.Answers.{Gives}
use Rattle.checking.specs.Areas.{Zeroed}

-- what `check` says of a catalogue that was read
unfoldable pub told_of : (length : ℕ) → Result Read RefusedAt → job.Answer
told_of n (Ok r) = accepts 0 0 0
told_of n (Err f) = refuses (number_and_place n f.at (refusal_of f.refusal)).0 (number_and_place n f.at (refusal_of f.refusal)).1

-- what was read decides the answer, under any length of the listing area
pub record ReadWithin (job : List ℕ) (l : rules.Limits) (lent : List ℕ) (read : Result Read RefusedAt) : Type 0 where
  pub is : (listing : ℕ) → check_answer (terms_of l lent listing) job ≡ told_of (length job) read

-- the lengths are those of the areas
pub record Lends (x : Lent) (m u t : List ℕ) : Type 0 where
  pub marks : x.marks ≡ length m
  pub unions : x.unions ≡ length u
  pub tables : x.catalogue ≡ length t

-- the answer and the catalogue's three areas, under any length of the listing area
pub record Checked (job : List ℕ) (l : rules.Limits) (lent : List ℕ) (r : Answer) (m u t m' u' t' : List ℕ) : Type 0 where
  pub gives : (listing : ℕ) → Gives r (check_answer (terms_of l lent listing) job)
  pub marks : Zeroed m m'
  pub unions : Zeroed u u'
  pub tables : Zeroed t t'
