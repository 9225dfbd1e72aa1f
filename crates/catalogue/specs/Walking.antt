-- Reading a catalogue, record by record: what is left of the definitions' walks, those of `run` and of `check`.
use Rattle.std.specs.Prelude.{◌≡◌, true, List, ℕ, ◌+◌, ◌*◌, ◌<◌, ◌≤◌, length, get_or, drop, Option, Some, None, Result, Ok, Err}
use Rattle.rules.specs.Catalogue.{Catalogue, empty_catalogue}
use Rattle.rules.specs.Refusals.{number_and_place}
use Rattle.rules.specs.Records.{kind_of}
use Rattle.rules.specs.Limits.{Terms}
use Rattle.rules.specs.Job.{Progress, reading, stopped, walk, run_step, check_step, starts_sheet}
use Rattle.refusal.specs.declared.Refusal.{Refusal}
use Rattle.refusal.specs.declared.RefusedAt.{RefusedAt}
use Rattle.refusal.specs.Refusing.{refusal_of}
use Rattle.reader.specs.declared.Kind.TheVariants.{Item}
use Rattle.reader.specs.declared.ItemKind.TheVariants.{Part}
use Rattle.reader.specs.Reading.{Named}
use Rattle.tables.specs.declared.Counts.{Counts}
use Rattle.cache.specs.Areas.{catalogue}
use Rattle.kept.specs.Kept.{Kept}
use Rattle.catalogue.specs.declared.Read.{Read}

-- from byte `at` with progress p both walks come to where they come from byte at' with p'
pub record Same (job : List ℕ) (at : ℕ) (p : Progress) (at' : ℕ) (p' : Progress) : Type 0 where
  pub run : (t : Terms) → walk (run_step t job) 0 at (drop at job) p ≡ walk (run_step t job) 0 at' (drop at' job) p'
  pub check : (t : Terms) → walk (check_step t job) 0 at (drop at job) p ≡ walk (check_step t job) 0 at' (drop at' job) p'

-- both walks stop with this refusal
abbrev pub stopped_at : List ℕ → RefusedAt → Progress
stopped_at job f = stopped (number_and_place (length job) f.at (refusal_of f.refusal))

-- ---- from byte `at`, where the catalogue c was read

-- both walks come to byte `next` and the catalogue c', which has n members of unions: each row of one came of 5 bytes
pub record Passed (job : List ℕ) (at : ℕ) (c : Catalogue) (next : ℕ) (c' : Catalogue) (n : ℕ) : Type 0 where
  pub onward : at ≤ next
  pub inside : next ≤ length job
  pub few : 5 * n ≤ next
  pub same : Same job at (reading c) next (reading c')

-- both walks stop
pub record Stopped (job : List ℕ) (at : ℕ) (c : Catalogue) (f : RefusedAt) : Type 0 where
  pub same : Same job at (reading c) f.at (stopped_at job f)

pub record AtSheet (job : List ℕ) (at : ℕ) (c c' : Catalogue) : Type 0 where
  pub starts : starts_sheet (get_or job at 0) (kind_of (get_or job at 0)) ≡ true
  pub still : c' ≡ c

-- a part stands at `at`, whole
pub record PartAt (job : List ℕ) (at : ℕ) : Type 0 where
  pub there : at + 8 ≤ length job
  pub here : Named (get_or job at 0) (Ok (Item Part))

-- records were passed, or one was refused
abbrev pub PartsRead : (job : List ℕ) (at : ℕ) (c : Catalogue) → Result ℕ RefusedAt → (c' : Catalogue) (n : ℕ) → Type 0
PartsRead job at c (Ok next) c' n = Passed job at c next c' n
PartsRead job at c (Err f) c' n = Stopped job at c f

-- the record at `at` was passed, or the sheet begins there, or it was refused
abbrev pub RecordRead : (job : List ℕ) (at : ℕ) (c : Catalogue) → Result (Option ℕ) Refusal → (c' : Catalogue) (n : ℕ) → Type 0
RecordRead job at c (Ok (Some next)) c' n = (at < next) × Passed job at c next c' n
RecordRead job at c (Ok None) c' n = AtSheet job at c c'
RecordRead job at c (Err f) c' n = Stopped job at c (record { refusal = f; at = at })

-- the sheet begins at byte `at`, or the job ends
pub record Ends (job : List ℕ) (at : ℕ) : Type 0 where
  pub inside : at ≤ length job
  pub starts : at < length job → starts_sheet (get_or job at 0) (kind_of (get_or job at 0)) ≡ true

-- the records from the start of the job on were passed, or one was refused
abbrev pub RecordsRead : (job : List ℕ) (c : Catalogue) → Result ℕ RefusedAt → (c' : Catalogue) → Type 0
RecordsRead job c (Ok at) c' = Ends job at × Same job 0 (reading c) at (reading c')
RecordsRead job c (Err f) c' = Stopped job 0 c f

-- ---- the whole catalogue

unfoldable pub place_of : Result Read RefusedAt → ℕ
place_of (Ok r) = r.at
place_of (Err f) = f.at

unfoldable pub progress_of : (job : List ℕ) → Result Read RefusedAt → (m u t : List ℕ) → Progress
progress_of job (Ok r) m u t = reading (catalogue r.counts m u t)
progress_of job (Err f) m u t = stopped_at job f

-- the catalogue was read up to the first sheet record or the end
pub record UpToSheet (job : List ℕ) (at : ℕ) (k : Counts) (m u t : List ℕ) : Type 0 where
  pub kept : Kept k m u t
  pub inside : at ≤ length job
  pub starts : at < length job → starts_sheet (get_or job at 0) (kind_of (get_or job at 0)) ≡ true

abbrev pub Ended : (job : List ℕ) → Result Read RefusedAt → (m u t : List ℕ) → Type 0
Ended job (Ok r) m u t = UpToSheet job r.at r.counts m u t
Ended job (Err f) m u t = Unit {0}

-- what is left of the walks is the whole walks
pub record ReadUp (job : List ℕ) (r : Result Read RefusedAt) (m u t : List ℕ) : Type 0 where
  pub same : Same job 0 (reading empty_catalogue) (place_of r) (progress_of job r m u t)
  pub ended : Ended job r m u t
