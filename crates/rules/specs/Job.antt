-- A whole job, from its bytes to the answer and the listing's bytes. 01, Order: "7, the job's length (3), then record by record
-- 2, 1, 3, 4, 5, 6, 9, 8, 10; at the end 11, then 10 for the listing".
use Rattle.std.specs.Prelude.{Bool, true, false, not, ◌&&◌, List, [], ◌∷◌, ◌++◌, map, ℕ, zero, suc, ltb, length, drop}
use Rattle.std.proofs.Math.Option.{Option, none, some}
use Rattle.rules.specs.Catalogue.{Catalogue, empty_catalogue}
use Rattle.rules.specs.Refusals.{Refusal, unfit, overlong, not_run, listing_full, number_and_place, ◌if◌, Result, ok, refuse, unless_any}
use Rattle.rules.specs.Records.{Kind, kind_of, of_sheet, Record, catalogue, sheet, read}
use Rattle.rules.specs.Items.{add_item}
use Rattle.rules.specs.State.{State, start}
use Rattle.rules.specs.Limits.{Limits, Terms, needed, fits}
use Rattle.rules.specs.Sheet.{carry_out}
use Rattle.rules.specs.Listing.{ascii, decimal, line, listing}

-- how far a job has been carried out
pub data Progress : Type 0 where
  reading : Catalogue → Progress  -- no sheet record yet
  carrying : Catalogue → State → Progress
  stopped : ℕ × ℕ → Progress  -- number and place

unfoldable pub body_of : Option (Kind × ℕ) → ℕ
body_of none = 0
body_of (some k) = k.1

-- each record in turn: `step` has the kind's place, the kind and what follows it; `skip` bytes belong to the record before
unfoldable pub walk : (ℕ → ℕ → List ℕ → Progress → Progress) → (skip at : ℕ) → List ℕ → Progress → Progress
walk step skip at [] p = p
walk step (suc skip) at (b ∷ bs) p = walk step skip (suc at) bs p
walk step zero at (b ∷ bs) p = walk step (body_of (kind_of b)) (suc at) bs (step at b bs p)

module _ (t : Terms) (job : List ℕ) where
  abbrev stop : ℕ → Refusal → Progress
  stop at f = stopped (number_and_place (length job) at f)

  unfoldable pub after_item : ℕ → Result Catalogue → Progress
  after_item at (ok c) = reading c
  after_item at (refuse f) = stop at f

  unfoldable pub after_command : ℕ → Catalogue → Result State → Progress
  after_command at c (ok s) = carrying c s
  after_command at c (refuse f) = stop at f

  unfoldable pub after_record : ℕ → Catalogue → State → Result Record → Progress
  after_record at c s (ok (catalogue e)) = after_item at (add_item c e)
  after_record at c s (ok (sheet o)) = after_command at c (carry_out t.limits c o s)
  after_record at c s (refuse f) = stop at f

  unfoldable pub run_step : ℕ → ℕ → List ℕ → Progress → Progress
  run_step at b rest (reading c) = after_record at c start (read false b rest)
  run_step at b rest (carrying c s) = after_record at c s (read true b rest)
  run_step at b rest (stopped n) = stopped n

  -- 7, then 3 for the job's length, then the records
  unfoldable pub begun_with : Result Progress → Progress
  begun_with (ok p) = p
  begun_with (refuse f) = stop 0 f

  unfoldable pub progress : (ℕ → ℕ → List ℕ → Progress → Progress) → Progress
  progress step =
      begun_with (unless_any ((unfit if not (fits t)) ∷ (overlong if ltb 65536 (length job)) ∷ []) (walk step 0 0 job (reading empty_catalogue)))

-- ---- run

pub data Outcome : Type 0 where
  accepted : Catalogue → State → Outcome
  refused : ℕ × ℕ → Outcome

module _ {A : Type 0} where
  abbrev pub is_empty : List A → Bool
  is_empty [] = true
  is_empty (x ∷ xs) = false

module _ (t : Terms) (job : List ℕ) where
  unfoldable pub ending : Catalogue → State → List (Refusal × Bool)
  ending c s =
      (not_run if not (is_empty s.opening.added && is_empty s.opening.drawn))
      ∷ (listing_full if ltb t.listing (length (listing c s))) ∷ []

  unfoldable pub ended_by : Catalogue → Result State → Outcome
  ended_by c (ok s) = accepted c s
  ended_by c (refuse f) = refused (number_and_place (length job) 0 f)

  unfoldable pub ended : Progress → Outcome
  ended (reading c) = ended_by c (unless_any (ending c start) start)
  ended (carrying c s) = ended_by c (unless_any (ending c s) s)
  ended (stopped n) = refused n

  unfoldable pub outcome : Outcome
  outcome = ended (progress t job (run_step t job))

-- "accepted, with the listing's length and the variable and clause counts, or refused, with a number and a place"
pub data Answer : Type 0 where
  accepts : (length variables clauses : ℕ) → Answer
  refuses : (number place : ℕ) → Answer

unfoldable pub answer_of : Outcome → Answer
answer_of (accepted c s) = accepts (length (listing c s)) (length s.variables) (length s.clauses)
answer_of (refused n) = refuses n.0 n.1

unfoldable pub answer : Terms → List ℕ → Answer
answer t job = answer_of (outcome t job)

unfoldable pub printed : Outcome → List ℕ
printed (accepted c s) = listing c s
printed (refused n) = []

-- "Only acceptance changes the listing area, and only the listing's own bytes"
unfoldable pub listing_area : Terms → List ℕ → List ℕ → List ℕ
listing_area t job area = let bytes = printed (outcome t job) in bytes ++ drop (length bytes) area

-- "After every call the lent work areas are zero"
unfoldable pub work_area : List ℕ → List ℕ
work_area area = map (λ _. 0) area

-- ---- check: "refusals 1 to 7, reading up to the first sheet record; its acceptance carries three zeros"

unfoldable pub starts_sheet : ℕ → Option (Kind × ℕ) → Bool
starts_sheet b none = false
starts_sheet b (some k) = of_sheet b

unfoldable pub check_by : Terms → List ℕ → (sheet : Bool) → ℕ → ℕ → List ℕ → Catalogue → Progress
check_by t job true at b rest c = carrying c start
check_by t job false at b rest c = after_record t job at c start (read false b rest)

unfoldable pub check_step : Terms → List ℕ → ℕ → ℕ → List ℕ → Progress → Progress
check_step t job at b rest (reading c) = check_by t job (starts_sheet b (kind_of b)) at b rest c
check_step t job at b rest (carrying c s) = carrying c s
check_step t job at b rest (stopped n) = stopped n

unfoldable pub checked : Progress → Answer
checked (reading c) = accepts 0 0 0
checked (carrying c s) = accepts 0 0 0
checked (stopped n) = refuses n.0 n.1

unfoldable pub check_answer : Terms → List ℕ → Answer
check_answer t job = checked (progress t job (check_step t job))

-- ---- kitlist: "limits 1,024, 2,048, 1,024 and 256 and a listing area of 65,536 bytes"

abbrev pub kitlist_limits : Limits
kitlist_limits = record { variables = 1024; clauses = 2048; condition_literals = 1024; waiting = 256 }

abbrev pub kitlist_terms : Terms
kitlist_terms = record { limits = kitlist_limits; lent = needed kitlist_limits; listing = 65536 }

-- "prints the listing, or `refused NUMBER PLACE`"
unfoldable pub shown : Outcome → List ℕ
shown (accepted c s) = listing c s
shown (refused n) = line (ascii "refused" ∷ decimal n.0 ∷ decimal n.1 ∷ [])

unfoldable pub kitlist : List ℕ → List ℕ
kitlist job = shown (outcome kitlist_terms job)
