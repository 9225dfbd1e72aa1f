-- `check` and `run` agree. 01: "check (refusals 1 to 7, reading up to the first sheet record ..) and run"; refusals have a number, 1 to 11, and a place.
use Rattle.std.specs.Prelude.{◌≡◌, ◌↔◌, ◌⊎◌, true, false, List, [], ◌∷◌, ℕ, zero, suc, ◌<◌, ◌≤◌, length}
use Rattle.rules.specs.Records.{kind_of}
use Rattle.rules.specs.Limits.{Terms}
use Rattle.rules.specs.Job.{body_of, refuses, answer, starts_sheet, check_answer}

-- how many bytes stand before the first sheet record; all of them where there is none. `skip` bytes belong to the record before
unfoldable pub before_sheet : (skip : ℕ) → List ℕ → ℕ
before_sheet skip [] = 0
before_sheet (suc skip) (b ∷ bs) = suc (before_sheet skip bs)
before_sheet zero (b ∷ bs) = elim (starts_sheet b (kind_of b)) [ true ↦ 0 | false ↦ suc (before_sheet (body_of (kind_of b)) bs) ]

-- the place of the first sheet record, or the job's length where there is none
unfoldable pub sheet_place : List ℕ → ℕ
sheet_place job = before_sheet 0 job

-- `check` refuses exactly what `run` refuses for the terms of the call, for the job's length, or before the first sheet record, and tells the same
abbrev pub CheckAgrees : Type 0
CheckAgrees =
    (t : Terms) (job : List ℕ) (n p : ℕ)
    → (check_answer t job ≡ refuses n p) ↔ ((answer t job ≡ refuses n p) × ((n ≡ 7) ⊎ ((65536 < length job) ⊎ (p < sheet_place job))))

abbrev pub Numbered : Type 0
Numbered = (t : Terms) (job : List ℕ) (n p : ℕ) → answer t job ≡ refuses n p → (1 ≤ n) × (n ≤ 11)

-- a place is in the job or its end
abbrev pub Placed : Type 0
Placed = (t : Terms) (job : List ℕ) (n p : ℕ) → answer t job ≡ refuses n p → p ≤ length job

-- and 0 for refusal 7 and for an overlong job
abbrev pub PlacedFirst : Type 0
PlacedFirst = (t : Terms) (job : List ℕ) (n p : ℕ) → answer t job ≡ refuses n p → (n ≡ 7) ⊎ (65536 < length job) → p ≡ 0
