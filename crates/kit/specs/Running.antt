-- What `run` gives: the definitions' answer and listing, and work areas that are zero.
use Rattle.std.specs.Prelude.{◌≡◌, List, [], ◌∷◌, ℕ, length}
use Rattle.rules.specs.Limits as rules
use Rattle.rules.specs.Job.{answer, listing_area, work_area}
use Rattle.terms.specs.declared.Answer.{Answer}
use Rattle.terms.specs.declared.Lent.{Lent}
use Rattle.terms.specs.Terms.{terms_of}
use Rattle.terms.specs.Answers.{Gives}

-- the lengths are those of the six areas
pub record LendsAll (x : Lent) (m u t c s w : List ℕ) : Type 0 where
  pub marks : x.marks ≡ length m
  pub unions : x.unions ≡ length u
  pub tables : x.catalogue ≡ length t
  pub clauses : x.clauses ≡ length c
  pub state : x.state ≡ length s
  pub waiting : x.waiting ≡ length w

-- the answer is the definition's, and of the listing area exactly what the definition says is changed
pub record Runs (job : List ℕ) (t : rules.Terms) (r : Answer) (out out' : List ℕ) : Type 0 where
  pub answer : Gives r (answer t job)
  pub listing : out' ≡ listing_area t job out

-- ---- the exported function

-- the same, and each of the six work areas is zero over its whole lent length
pub record Ran (job : List ℕ) (l : rules.Limits) (r : Answer) (m u t c s w out m' u' t' c' s' w' out' : List ℕ) : Type 0 where
  pub runs : Runs job (terms_of l (length m ∷ length u ∷ length t ∷ length c ∷ length s ∷ length w ∷ []) (length out)) r out out'
  pub marks : m' ≡ work_area m
  pub unions : u' ≡ work_area u
  pub catalogue : t' ≡ work_area t
  pub clauses : c' ≡ work_area c
  pub state : s' ≡ work_area s
  pub waiting : w' ≡ work_area w
