-- `check` against the definitions: a law for each way out of each function.
use mathlib.Core.Path.{◌≡◌, refl, sym, ◌∙◌, ap}
use mathlib.Core.Bool.{Bool, true, false}
use mathlib.Core.List.{List}
use Prim.Native.Nat.{ℕ, ◌+◌, ◌<◌, ◌≤◌}
use native.Mathlib.Omega.{arith}
use native.Mathlib.Decide.{dec_lt}
use lib.Dec.{leb}
use Rattle.std.specs.Prelude.{Result, Ok, Err}
use lib.ListN.{length, get_or, drop}
use borrow.Author.Tests.{lt-ltb, le-ltb, leb-true}
use Rattle.rules.proofs.Bools.{and_left, and_right}
use Rattle.rules.proofs.WalkLaws.{walk_record, walk_end, walk_still, check_reads, check_sheet, check_carries}
use Rattle.rules.specs.Catalogue.{Catalogue, empty_catalogue}
use Rattle.rules.specs.Refusals.{unless_any, number_and_place}
use Rattle.rules.specs.Records.{kind_of}
use Rattle.rules.specs.State.{start}
use Rattle.rules.specs.Limits as rules
use Rattle.rules.specs.Limits.{allowed, marks_area, unions_area, catalogue_area, needed, covers, fits}
use Rattle.rules.specs.Job.{Progress, reading, carrying, stopped, walk, begun_with, progress, accepts, refuses, starts_sheet, check_step, checked, check_answer}
use Rattle.refusal.specs.declared.RefusedAt.{RefusedAt}
use Rattle.refusal.specs.declared.Refusal.TheVariants.{Unfit, Overlong}
use Rattle.refusal.specs.Refusing.{refusal_of}
use Rattle.cache.specs.Areas.{catalogue}
use Rattle.catalogue.specs.declared.Read.{Read}
use Rattle.catalogue.specs.Walking.{place_of, progress_of, ReadUp}
use Rattle.terms.specs.declared.Answer.{Answer}
use Rattle.state.specs.declared.Limits.{Limits}
use Rattle.terms.specs.declared.Lent.{Lent}
use Rattle.terms.specs.Terms.{lent_of, terms_of}
use Rattle.state.specs.Limits.{limits_of}
use Rattle.terms.specs.Answers.{Gives}
use Rattle.terms.proofs.Fits.{same_fits}
use Rattle.checking.specs.Areas.{Long}
use Rattle.checking.specs.Checking.{told_of, ReadWithin, Lends}

-- ---- the catalogue

module _ (z : rules.Terms) (job : List ℕ) where
  abbrev from_start : Progress
  from_start = walk (check_step z job) 0 0 job (reading empty_catalogue)

  stays : (c : Catalogue) (at : ℕ) → (at < length job → starts_sheet (get_or job at 0) (kind_of (get_or job at 0)) ≡ true)
      → checked (walk (check_step z job) 0 at (drop at job) (reading c)) ≡ accepts 0 0 0
  unfolding checked
  stays c at s = elim (dec_lt at (length job)) [
    | yes h ↦
        ap checked (
        walk_record (check_step z job) job at (reading c) h
        ∙ ap (walk (check_step z job) 0 _ _) (check_sheet z job c at (get_or job at 0) (drop (at + 1) job) (s h))
        ∙ walk_still (check_step z job) (carrying c start) (check_carries z job c) 0 _ _
        )
    | no h ↦ ap checked (walk_end (check_step z job) job at (reading c) (omega arith))
  ]

  stops : (n : ℕ × ℕ) (at : ℕ) → checked (walk (check_step z job) 0 at (drop at job) (stopped n)) ≡ refuses n.0 n.1
  unfolding checked
  stops n at = ap checked (walk_still (check_step z job) (stopped n) ((check_reads z job).over n) 0 at (drop at job))

  told_is : (read : Result Read RefusedAt) (m u t : List ℕ) → ReadUp job read m u t → checked from_start ≡ told_of (length job) read
  unfolding told_of place_of progress_of
  told_is (Ok r) m u t x = ap checked (x.same.check z) ∙ stays (catalogue r.counts m u t) r.at x.ended.starts
  told_is (Err f) m u t x = ap checked (x.same.check z) ∙ stops (number_and_place (length job) f.at (refusal_of f.refusal)) f.at

-- ---- the terms and the job's length

module _ (job : List ℕ) (l : Limits) (x : Lent) (b : Bool) (e : b ≡ fits (terms_of (limits_of l) (lent_of x) 0)) where
  fitting : (listing : ℕ) → b ≡ fits (terms_of (limits_of l) (lent_of x) listing)
  fitting listing = e ∙ sym (same_fits (limits_of l) (lent_of x) listing)

  pub read_unfit : b ≡ false → ReadWithin job (limits_of l) (lent_of x) (Err (record { refusal = Unfit; at = 0 }))
  unfolding check_answer checked progress begun_with unless_any refusal_of told_of
  read_unfit h = record { is = λ n. rw (← fitting n, h, unless_any) refl }

  pub read_overlong : b ≡ true → 65536 < length job → ReadWithin job (limits_of l) (lent_of x) (Err (record { refusal = Overlong; at = 0 }))
  unfolding check_answer checked progress begun_with unless_any refusal_of told_of
  read_overlong h k = record { is = λ n. rw (← fitting n, h, lt-ltb 65536 (length job) k, unless_any) refl }

  pub read_up : b ≡ true → length job ≤ 65536 → (read : Result Read RefusedAt) (m u t : List ℕ) → ReadUp job read m u t → ReadWithin job (limits_of l) (lent_of x) read
  unfolding check_answer progress begun_with unless_any
  read_up h k read m u t r = record { is = λ n. rw (← fitting n, h, le-ltb 65536 (length job) k, unless_any) (told_is _ job read m u t r) }

pub long_enough : (l : Limits) (x : Lent) (m u t : List ℕ) (b : Bool) → Lends x m u t → b ≡ fits (terms_of (limits_of l) (lent_of x) 0) → b ≡ true → Long m u t
unfolding fits terms_of covers needed limits_of lent_of marks_area unions_area catalogue_area
long_enough l x m u t b h e f =
    let g = and_right (allowed (limits_of l)) _ (sym e ∙ f) in
    let m₁ = leb-true 65536 x.marks (and_left _ _ g) in
    let g₁ = and_right (leb 65536 x.marks) _ g in
    let u₁ = leb-true 52428 x.unions (and_left _ _ g₁) in
    let g₂ = and_right (leb 52428 x.unions) _ g₁ in
    let t₁ = leb-true 50696 x.catalogue (and_left _ _ g₂) in
    record { marks = rw h.marks at m₁; unions = rw h.unions at u₁; tables = rw h.tables at t₁ }

pub long_lengths : (l : Limits) (x : Lent) (m u t : List ℕ) (b : Bool) → Lends x m u t → b ≡ fits (terms_of (limits_of l) (lent_of x) 0) → b ≡ true
    → (65536 ≤ length m) × (52428 ≤ length u) × (50696 ≤ length t)
long_lengths l x m u t b h e f = let g = long_enough l x m u t b h e f in (g.marks, g.unions, g.tables)

-- ---- the answer

pub told_ok : (n : ℕ) (read : Result Read RefusedAt) (x : Read) (r : Answer) → read ≡ Ok x → Gives r (accepts 0 0 0) → Gives r (told_of n read)
unfolding told_of
told_ok n read x r e g = rw e g

pub told_err : (n : ℕ) (read : Result Read RefusedAt) (f : RefusedAt) (r : Answer) → read ≡ Err f
    → Gives r (refuses (number_and_place n f.at (refusal_of f.refusal)).0 (number_and_place n f.at (refusal_of f.refusal)).1) → Gives r (told_of n read)
unfolding told_of
told_err n read f r e g = rw e g

pub told_within : (job : List ℕ) (l : rules.Limits) (lent : List ℕ) (read : Result Read RefusedAt) (r : Answer) → ReadWithin job l lent read
    → Gives r (told_of (length job) read) → (listing : ℕ) → Gives r (check_answer (terms_of l lent listing) job)
told_within job l lent read r w g n = rw (w.is n) g
