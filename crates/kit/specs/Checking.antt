-- What `check` gives: the definitions' answer, and work areas that are zero.
use Rattle.std.specs.Prelude.{◌≡◌, List, [], ◌∷◌, ℕ, length}
use Rattle.rules.specs.Limits as rules
use Rattle.rules.specs.Job.{work_area, check_answer}
use Rattle.terms.specs.declared.Answer.{Answer}
use Rattle.terms.specs.Terms.{terms_of}
use Rattle.terms.specs.Answers.{Gives}

-- the answer is the definition's, under any length of the listing area, and each of the six areas is zero over its whole lent length
pub record Served (job : List ℕ) (l : rules.Limits) (r : Answer) (m u t c s w m' u' t' c' s' w' : List ℕ) : Type 0 where
  pub answer : (listing : ℕ)
      → Gives r (check_answer (terms_of l (length m ∷ length u ∷ length t ∷ length c ∷ length s ∷ length w ∷ []) listing) job)
  pub marks : m' ≡ work_area m
  pub unions : u' ≡ work_area u
  pub catalogue : t' ≡ work_area t
  pub clauses : c' ≡ work_area c
  pub state : s' ≡ work_area s
  pub waiting : w' ≡ work_area w
