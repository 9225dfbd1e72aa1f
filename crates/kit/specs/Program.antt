-- What the contracts of `check` and `run` say together, over the answers and the bytes: the demands of the program.
use Rattle.std.specs.Prelude.{◌≡◌, ◌↔◌, ◌⊎◌, List, [], ◌∷◌, map, ℕ, ◌<◌, ◌≤◌, length, take, drop}
use Rattle.rules.specs.Clause.{literals}
use Rattle.rules.specs.Catalogue.{Catalogue}
use Rattle.rules.specs.State.{State}
use Rattle.rules.specs.Limits as rules
use Rattle.rules.specs.Listing.{listing}
use Rattle.rules.specs.Job.{accepts, refuses, accepted, outcome}
use Rattle.rules.specs.ReadBack.{clauses_read, SatisfiableRead}
use Rattle.rules.specs.CheckRun.{sheet_place}
use Rattle.rules.specs.Keeps.{Parts, Keeps}
use Rattle.terms.specs.declared.Answer.{Answer}
use Rattle.terms.specs.Terms.{terms_of}
use Rattle.terms.specs.Answers.{answer_of}
use Rattle.kit.specs.Checking.{Served}
use Rattle.kit.specs.Running.{Ran}

-- one call of `run`
module _ (job : List ℕ) (l : rules.Limits) (r : Answer) (m u t c s w out m' u' t' c' s' w' out' : List ℕ) where
  abbrev pub terms : rules.Terms
  terms = terms_of l (length m ∷ length u ∷ length t ∷ length c ∷ length s ∷ length w ∷ []) (length out)

  -- Where it accepts, the first n bytes of the listing area are the listing, the literal lists on its `c` lines are those of the stored clauses, and
  -- they mean the catalogue's rules (demand 3): P can be completed to values of all variables that make them true exactly if it keeps the rules.
  pub record Accepts (n : ℕ) : Type 0 where
    pub catalogue : Catalogue
    pub state : State
    pub is : outcome terms job ≡ accepted catalogue state
    pub bytes : take n out' ≡ listing catalogue state
    pub rest : drop n out' ≡ drop n out
    pub clauses : clauses_read (take n out') ≡ map literals state.clauses
    pub means : (P : Parts) → SatisfiableRead (take n out') P ↔ Keeps catalogue state.opening P

  abbrev pub Program : Type 0
  Program = Ran job l r m u t c s w out m' u' t' c' s' w' out' → (n v k : ℕ) → answer_of r ≡ accepts n v k → Accepts n

  -- where it refuses, the number is one of 1 to 11, and the listing area is as it was
  pub record Refuses (n p : ℕ) : Type 0 where
    pub from : 1 ≤ n
    pub to : n ≤ 11
    pub place : p ≤ length job
    pub untouched : out' ≡ out

  abbrev pub Refusing : Type 0
  Refusing = Ran job l r m u t c s w out m' u' t' c' s' w' out' → (n p : ℕ) → answer_of r ≡ refuses n p → Refuses n p

  -- `check`, on the same terms, refuses exactly where `run` refuses 7, an overlong job or at a place before the first sheet record, and by the same number and place
  abbrev pub Agreeing : Type 0
  Agreeing =
      Ran job l r m u t c s w out m' u' t' c' s' w' out'
      → (r₀ : Answer) (m₀ u₀ t₀ c₀ s₀ w₀ : List ℕ) → Served job l r₀ m u t c s w m₀ u₀ t₀ c₀ s₀ w₀
      → (n p : ℕ) → (answer_of r₀ ≡ refuses n p) ↔ ((answer_of r ≡ refuses n p) × ((n ≡ 7) ⊎ ((65536 < length job) ⊎ (p < sheet_place job))))
