-- What a whole job comes to, against the definitions' outcome.
use Rattle.std.specs.Prelude.{◌≡◌, List, ℕ, length, Result, Ok, Err}
use Rattle.rules.specs.Limits.{Terms}
use Rattle.rules.specs.Job.{Progress}
use Rattle.refusal.specs.declared.RefusedAt.{RefusedAt}
use Rattle.words.specs.Words.{words}
use Rattle.unions.specs.Unions.{rows}
use Rattle.catalogue.specs.declared.Read.{Read}
use Rattle.catalogue.specs.Walking.{ReadUp}
use Rattle.index.specs.Chains.{Chains}
use Rattle.index.specs.Members.{Threaded}
use Rattle.state.specs.declared.Limits.{Limits}
use Rattle.state.specs.Limits.{limits_of}
use Rattle.carried.specs.Carrying.{end_from}
use Rattle.ending.specs.declared.Accepted.{Accepted}
use Rattle.ending.specs.Ending.{Comes}

-- a job from byte `at` on, where the definitions' walk has come to p
pub record RunsFrom (l : Limits) (job : List ℕ) (at : ℕ) (p : Progress) (r : Result Accepted RefusedAt) (out out' : List ℕ) : Type 0 where
  pub is : (t : Terms) → t.limits ≡ limits_of l → t.listing ≡ length out → Comes job (end_from t job at p) r out out'

-- the chains of a catalogue that was read whole
abbrev pub ChainsOf : Result Read RefusedAt → (m u t : List ℕ) → Type 0
ChainsOf (Ok r) m u t = Chains r.counts m t × Threaded r.counts (rows r.counts.members u) 0 (words t) (words u)
ChainsOf (Err f) m u t = Unit {0}

-- the catalogue was read, and its chains are made
pub record ReadWhole (job : List ℕ) (r : Result Read RefusedAt) (m u t : List ℕ) : Type 0 where
  pub read : ReadUp job r m u t
  pub chains : ChainsOf r m u t
