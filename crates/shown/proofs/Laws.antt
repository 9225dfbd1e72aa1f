-- What is shown of a job, against the definitions: the line of a refusal; the listing; an overlong job.
use mathlib.Core.Path.{◌≡◌, ap, sym, ◌∙◌}
use mathlib.Core.Bool.{Bool, true, false, false≢true}
use mathlib.Core.List.{List, [], ◌∷◌, ◌++◌}
use Prim.Native.Nat.{ℕ, zero, suc, ◌/◌, ◌^◌, ◌<◌, ◌≤◌}
use native.Mathlib.Omega.{arith}
use native.Mathlib.Decide.{dec_lt}
use lib.ListN.{length, take, drop, replicate, length-append, length-drop, length-replicate}
use lib.Seq.{take-append_seam, take_all, length-take-le}
use borrow.Author.Tests.{lt-ltb, eq-eqb, ne_eqb}
use Rattle.rules.specs.Listing.{ascii, decimal, line, listing}
use Rattle.rules.specs.Refusals.{number_and_place, unless_any}
use Rattle.rules.specs.Limits.{marks_area, unions_area, catalogue_area, clauses_area, growing_state, fixed_state, state_area, waiting_area, needed, fits, allowed, within, covers}
use Rattle.rules.specs.Job.{Outcome, accepted, refused, outcome, begun_with, progress, ended, accepts, refuses, answer_of, answer, printed, listing_area, kitlist_terms, shown, kitlist}
use Rattle.rules.specs.Job as job
use Rattle.rules.proofs.Digits.{by_ten, decimal_digit, decimal_digits}
use Rattle.text.specs.Text.{Wrote}
use Rattle.text.specs.declared.Writer.{Writer}
use Rattle.text.specs.Writing.{Writes}
use Rattle.text.proofs.Written.{measured, written}
use Rattle.text.proofs.Writing.{wrote, fields_one, fields_first, line_is}
use Rattle.terms.specs.declared.Answer.{Answer}
use Rattle.terms.specs.Terms.{terms_of, four_limits}
use Rattle.terms.specs.Answers.{numbers_of, answer_by, Gives}
use Rattle.terms.specs.Answers as answers
use Rattle.kit.specs.Running.{Runs, Ran}
use Rattle.shown.specs.Shown.{Holds}

-- ---- bytes at the start of an area

holds : (bs area area' : List ℕ) (n : ℕ) → n ≡ length bs → area' ≡ bs ++ drop (length bs) area → length bs ≤ length area → Holds bs n area'
holds bs area area' n e f h =
    record { within = rw (e, f, length-append, length-drop) (omega arith); is = rw (e, f) (take-append_seam bs (drop (length bs) area)) }

-- ---- the line of a refusal

-- a number below a power of ten has so many digits at most
decimal_short : (d n : ℕ) → n < 10 ^ suc d → length (decimal n) ≤ suc d
decimal_short zero n h = rw (decimal_digit n (omega arith)) (omega arith)
decimal_short (suc d) n h =
    by_ten n _ (λ g. rw (decimal_digit n g) (omega arith))
    (λ g.
    let k : n / 10 < 10 ^ suc d = omega arith in
    rw (decimal_digits n g, length-append) (omega (arith, decimal_short d (n / 10) k)))

module _ (number place : ℕ) (h : number < 2 ^ 64) (k : place < 2 ^ 64) where
  abbrev line_of : List ℕ
  line_of = line (ascii "refused" ∷ decimal number ∷ decimal place ∷ [])

  short : length line_of ≤ 50
  unfolding line ascii
  short =
      omega (
        arith,
        length-append (decimal number) (32 ∷ (decimal place ++ (10 ∷ []))),
        length-append (decimal place) (10 ∷ []),
        decimal_short 19 number (omega arith),
        decimal_short 19 place (omega arith),
      )

  pub refusal_is : {w w1 w2 w3 w4 : Writer} (out : List ℕ) {out' : List ℕ} → 50 ≤ length out → w.at ≡ 0 → w.room ≡ length out → w.out.now ≡ out → w4.out.now ≡ out'
      → Writes w w1 (114 ∷ 101 ∷ 102 ∷ 117 ∷ 115 ∷ 101 ∷ 100 ∷ [])
      → Writes w1 w2 (32 ∷ decimal number)
      → Writes w2 w3 (32 ∷ decimal place)
      → Writes w3 w4 (10 ∷ [])
      → Holds (shown (refused (number, place))) w4.at out'
  unfolding ascii shown
  refusal_is {w4 = w4} out {out'} room start l i j e f g d =
      let fits : length line_of ≤ length out = omega (arith, short) in
      let all : Wrote 0 w4.at line_of (length out) out out' = rw (start, l, i, j) at (wrote (line_is (decimal number ∷ decimal place ∷ []) e (fields_first (decimal place ∷ []) f (fields_one g)) d)) in
      holds line_of out out' w4.at (measured (length out) line_of out out' w4.at all fits) (written out line_of out' w4.at all fits) fits

-- the listing area has room for it
pub line_fits : (n n' : ℕ) → n ≡ 65536 → n' ≡ n → 50 ≤ n'
line_fits n n' e f = omega arith

-- ---- an answer

is_accepted : job.Answer → Bool
is_accepted (accepts l v c) = true
is_accepted (refuses n p) = false

module _ {r : Answer} where
  accepted_zero : {a : job.Answer} → Gives r a → r.number ≡ 0 → is_accepted a ≡ true
  unfolding answers.answer_of answer_by is_accepted
  accepted_zero g z = ap is_accepted (sym g.means) ∙ rw (eq-eqb r.number 0 z)

  refused_other : {a : job.Answer} → Gives r a → (r.number ≡ 0 → ⊥) → is_accepted a ≡ false
  unfolding answers.answer_of answer_by is_accepted
  refused_other g z = ap is_accepted (sym g.means) ∙ rw (ne_eqb r.number 0 z)

  listing_by : (o : Outcome) (out out' : List ℕ) → Gives r (answer_of o) → is_accepted (answer_of o) ≡ true
      → out' ≡ printed o ++ drop (length (printed o)) out → length out' ≡ length out → Holds (shown o) r.length out'
  unfolding answer_of is_accepted printed shown numbers_of
  listing_by (accepted c s) out out' g z e h =
      let fits : length (listing c s) ≤ length out =
      omega (arith, ap length e, h, length-append (listing c s) (drop (length (listing c s)) out), length-drop (length (listing c s)) out) in
      holds (listing c s) out out' r.length (ap (λ (x : Answer). x.length) g.is) e fits
  listing_by (refused n) out out' g z e h = absurd (false≢true z)

  refusal_by : (o : Outcome) {out : List ℕ} {n : ℕ} → Gives r (answer_of o) → is_accepted (answer_of o) ≡ false
      → Holds (shown (refused (r.number, r.place))) n out → Holds (shown o) n out
  unfolding answer_of is_accepted numbers_of
  refusal_by (accepted c s) g z f = absurd (false≢true (sym z))
  refusal_by (refused n) g z f = rw g.is at f

-- ---- what was run with kitlist's limits and areas

-- six areas of the lengths that these limits need
pub record AsNeeded (m u t c s w : List ℕ) : Type 0 where
  pub marks : length m ≡ 65536
  pub unions : length u ≡ 52428
  pub tables : length t ≡ 50696
  pub clauses : length c ≡ 40960
  pub state : length s ≡ 61196
  pub waiting : length w ≡ 2048

abbrev zeros : ℕ → List ℕ
zeros n = replicate n 0

length_zeros : (n : ℕ) → length (zeros n) ≡ n
length_zeros n = length-replicate n 0

pub zeros_as_needed : AsNeeded (zeros 65536) (zeros 52428) (zeros 50696) (zeros 40960) (zeros 61196) (zeros 2048)
zeros_as_needed = record {
  marks = length_zeros 65536;
  unions = length_zeros 52428;
  tables = length_zeros 50696;
  clauses = length_zeros 40960;
  state = length_zeros 61196;
  waiting = length_zeros 2048;
}

module _ {job : List ℕ} {r : Answer} {m u t c s w out m' u' t' c' s' w' out' : List ℕ}
    (f : Ran job (four_limits 1024 2048 1024 256) r m u t c s w out m' u' t' c' s' w' out') (a : AsNeeded m u t c s w) (k : length out ≡ 65536) where
  terms : terms_of (four_limits 1024 2048 1024 256) (length m ∷ length u ∷ length t ∷ length c ∷ length s ∷ length w ∷ []) (length out) ≡ kitlist_terms
  unfolding terms_of four_limits needed marks_area unions_area catalogue_area clauses_area growing_state fixed_state state_area waiting_area
  terms = rw (a.marks, a.unions, a.tables, a.clauses, a.state, a.waiting, k)

  ran : Runs job kitlist_terms r out out'
  ran = rw terms at f.runs

  pub listing_shown : r.number ≡ 0 → length out' ≡ length out → Holds (kitlist job) r.length out'
  unfolding kitlist answer listing_area
  listing_shown z q = listing_by (outcome kitlist_terms job) out out' ran.answer (accepted_zero ran.answer z) ran.listing q

  pub refusal_shown : {n : ℕ} {area : List ℕ} → (r.number ≡ 0 → ⊥) → Holds (shown (refused (r.number, r.place))) n area → Holds (kitlist job) n area
  unfolding kitlist answer
  refusal_shown z q = refusal_by (outcome kitlist_terms job) ran.answer (refused_other ran.answer z) q

-- ---- an overlong job

-- whatever it holds, it is shown as refused with 3 at 0
overlong : (job : List ℕ) → 65536 < length job → kitlist job ≡ shown (refused (3, 0))
unfolding kitlist outcome progress begun_with ended unless_any fits allowed within covers needed marks_area unions_area catalogue_area clauses_area growing_state fixed_state state_area waiting_area number_and_place
overlong job h = rw (lt-ltb 65536 (length job) h)

-- so of an input that is longer than a job may be, one byte more than that is enough
pub kitlist_cut : (input : List ℕ) → kitlist (take 65537 input) ≡ kitlist input
kitlist_cut input = elim (dec_lt 65537 (length input)) [
  | yes h ↦
      let e : 65536 < length (take 65537 input) = omega (arith, length-take-le 65537 input (omega arith)) in
      overlong (take 65537 input) e ∙ sym (overlong input (omega arith))
  | no h ↦ ap kitlist (take_all 65537 input (omega arith))
]
