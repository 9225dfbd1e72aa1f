-- `run` against the definitions: a law for each way out of each function.
use mathlib.Core.Path.{◌≡◌, refl, sym, ◌∙◌}
use mathlib.Core.Bool.{Bool, true, false}
use mathlib.Core.List.{List}
use Prim.Native.Nat.{ℕ, ◌<◌, ◌≤◌}
use native.Mathlib.Omega.{arith}
use lib.Dec.{ltb, leb}
use lib.ListN.{length}
use borrow.Author.Tests.{lt-ltb, le-ltb, leb-true, ltb-true}
use Rattle.std.specs.Prelude.{Result, Ok, Err}
use Rattle.rules.proofs.Bools.{and_left, and_right}
use Rattle.rules.specs.Catalogue.{empty_catalogue}
use Rattle.rules.specs.Refusals.{unless_any, number_and_place}
use Rattle.rules.specs.Limits as rules
use Rattle.rules.specs.Limits.{within, allowed, marks_area, unions_area, catalogue_area, clauses_area, growing_state, fixed_state, state_area, waiting_area, needed, covers, fits}
use Rattle.rules.specs.Job.{reading, begun_with, progress, accepts, refuses, ended, outcome, answer_of, answer, printed, listing_area}
use Rattle.refusal.specs.declared.RefusedAt.{RefusedAt}
use Rattle.refusal.specs.declared.Refusal.TheVariants.{Unfit, Overlong}
use Rattle.refusal.specs.Refusing.{refusal_of}
use Rattle.state.specs.Layout.{Fits}
use Rattle.encoder.specs.Held.{LongEnough}
use Rattle.carried.specs.Carrying.{end_from}
use Rattle.ending.specs.declared.Accepted.{Accepted}
use Rattle.ending.specs.Ending.{told}
use Rattle.outcome.specs.Outcomes.{RunsFrom}
use Rattle.terms.specs.declared.Answer.{Answer}
use Rattle.state.specs.declared.Limits.{Limits}
use Rattle.terms.specs.declared.Lent.{Lent}
use Rattle.terms.specs.Terms.{lent_of, terms_of, four_limits}
use Rattle.state.specs.Limits.{limits_of}
use Rattle.terms.specs.Answers.{Gives}
use Rattle.terms.proofs.Fits.{same_fits}
use Rattle.checking.specs.Areas.{Long, Zeroed}
use Rattle.kit.specs.Running.{LendsAll, Runs, Ran}
use Rattle.kit.proofs.Checking.{lent_is}

-- what limits that are allowed and areas that cover them give
pub record Enough (l : Limits) (m u t c s w : List ℕ) : Type 0 where
  pub long : Long m u t
  pub fits : Fits l (length s)
  pub areas : LongEnough l (length c) (length w)
  pub variables : 0 < l.variables
  pub clauses : 0 < l.clauses

pub enough : (l : Limits) (x : Lent) (m u t c s w : List ℕ) (b : Bool) → LendsAll x m u t c s w → b ≡ fits (terms_of (limits_of l) (lent_of x) 0) → b ≡ true → Enough l m u t c s w
unfolding fits terms_of allowed within covers needed limits_of lent_of marks_area unions_area catalogue_area clauses_area state_area growing_state fixed_state waiting_area
enough l x m u t c s w b h e f =
    let g = sym e ∙ f in
    let a = and_left _ _ g in
    let g₁ = and_right (allowed (limits_of l)) _ g in
    let g₂ = and_right (leb marks_area x.marks) _ g₁ in
    let g₃ = and_right (leb unions_area x.unions) _ g₂ in
    let g₄ = and_right (leb catalogue_area x.catalogue) _ g₃ in
    let g₅ = and_right (leb (clauses_area (limits_of l)) x.clauses) _ g₄ in
    let g₆ = and_right (leb (state_area (limits_of l)) x.state) _ g₅ in
    let m₁ = leb-true marks_area x.marks (and_left _ _ g₁) in
    let u₁ = leb-true unions_area x.unions (and_left _ _ g₂) in
    let t₁ = leb-true catalogue_area x.catalogue (and_left _ _ g₃) in
    let c₁ = leb-true (clauses_area (limits_of l)) x.clauses (and_left _ _ g₄) in
    let s₁ = leb-true (state_area (limits_of l)) x.state (and_left _ _ g₅) in
    let w₁ = leb-true (waiting_area (limits_of l)) x.waiting (and_left _ _ g₆) in
    let a₁ = and_right (within 4096 l.variables) _ a in
    let a₂ = and_right (within 16384 l.clauses) _ a₁ in
    let v₀ = and_left _ _ a in
    let c₀ = and_left _ _ a₁ in
    let q₀ = and_left _ _ a₂ in
    let w₀ = and_right (within 8192 l.literals) _ a₂ in
    let v₂ = leb-true l.variables 4096 (and_right (ltb 0 l.variables) _ v₀) in
    let c₂ = leb-true l.clauses 16384 (and_right (ltb 0 l.clauses) _ c₀) in
    let q₂ = leb-true l.literals 8192 (and_right (ltb 0 l.literals) _ q₀) in
    let w₂ = leb-true l.waiting 2048 (and_right (ltb 0 l.waiting) _ w₀) in
    record {
      long = record { marks = omega (arith, h.marks); unions = omega (arith, h.unions); tables = omega (arith, h.tables) };
      fits = record { variables = v₂; clauses = c₂; literals = q₂; waiting = w₂; long = omega (arith, h.state) };
      areas = record { clauses = omega (arith, h.clauses); most = c₂; waiting = w₂; entries = omega (arith, h.waiting) };
      variables = ltb-true 0 l.variables (and_left _ _ v₀);
      clauses = ltb-true 0 l.clauses (and_left _ _ c₀);
    }

-- ---- answers

pub accepted_told : (n : ℕ) {a : Accepted} {o : Result Accepted RefusedAt} {r : Answer} → o ≡ Ok a → Gives r (accepts a.length a.variables a.clauses) → Gives r (told n o)
unfolding told
accepted_told n e g = rw e g

pub refused_told : (n : ℕ) {o : Result Accepted RefusedAt} {f : RefusedAt} {r : Answer} → o ≡ Err f
    → Gives r (refuses (number_and_place n f.at (refusal_of f.refusal)).0 (number_and_place n f.at (refusal_of f.refusal)).1) → Gives r (told n o)
unfolding told
refused_told n e g = rw e g

-- ---- a law for each way out

module _ (job : List ℕ) (l : Limits) (x : Lent) (out : List ℕ) (b : Bool) (e : b ≡ fits (terms_of (limits_of l) (lent_of x) 0)) (r : Answer) where
  abbrev terms : rules.Terms
  terms = terms_of (limits_of l) (lent_of x) (length out)

  fitting : b ≡ fits terms
  fitting = e ∙ sym (same_fits (limits_of l) (lent_of x) (length out))

  pub run_unfit : b ≡ false → Gives r (refuses (number_and_place (length job) 0 (refusal_of Unfit)).0 (number_and_place (length job) 0 (refusal_of Unfit)).1) → Runs job terms r out out
  unfolding answer outcome ended answer_of listing_area printed progress begun_with unless_any refusal_of
  run_unfit h g = record { answer = rw (← fitting, h, unless_any) g; listing = rw (← fitting, h, unless_any) }

  pub run_overlong : b ≡ true → 65536 < length job
      → Gives r (refuses (number_and_place (length job) 0 (refusal_of Overlong)).0 (number_and_place (length job) 0 (refusal_of Overlong)).1) → Runs job terms r out out
  unfolding answer outcome ended answer_of listing_area printed progress begun_with unless_any refusal_of
  run_overlong h k g = record { answer = rw (← fitting, h, lt-ltb 65536 (length job) k, unless_any) g; listing = rw (← fitting, h, lt-ltb 65536 (length job) k, unless_any) }

  pub run_carried : {y : Result Accepted RefusedAt} {out' : List ℕ} → b ≡ true → length job ≤ 65536 → RunsFrom l job 0 (reading empty_catalogue) y out out' → Gives r (told (length job) y)
      → Runs job terms r out out'
  unfolding answer outcome listing_area progress begun_with unless_any end_from limits_of terms_of
  run_carried h k d g =
      let z = d.is terms refl refl in
      record {
        answer = rw (← fitting, h, le-ltb 65536 (length job) k, unless_any, z.answer) g;
        listing = rw (← fitting, h, le-ltb 65536 (length job) k, unless_any) z.listing;
      }

-- ---- the exported function

pub ran : (job : List ℕ) (v n l k : ℕ) (x : Lent) (r : Answer) (m u t c s w out m' u' t' c' s' w' out' : List ℕ) → LendsAll x m u t c s w
    → Runs job (terms_of (limits_of (record { variables = v; clauses = n; literals = l; waiting = k })) (lent_of x) (length out)) r out out'
    → Zeroed m m' → Zeroed u u' → Zeroed t t' → Zeroed c c' → Zeroed s s' → Zeroed w w'
    → Ran job (four_limits v n l k) r m u t c s w out m' u' t' c' s' w' out'
unfolding limits_of four_limits
ran job v n l k x r m u t c s w out m' u' t' c' s' w' out' e h a₁ a₂ a₃ a₄ a₅ a₆ =
    record { runs = rw (lent_is x m u t c s w e) at h; marks = a₁.is; unions = a₂.is; catalogue = a₃.is; clauses = a₄.is; state = a₅.is; waiting = a₆.is }
