-- The end of a job: what is left added or drawn, and the listing, against the definitions' `ending`.
use mathlib.Core.Path.{◌≡◌, refl, sym, ◌∙◌, ap}
use mathlib.Core.Bool.{Bool, true, false, not, ◌&&◌}
use mathlib.Core.List.{List, [], ◌∷◌, ◌++◌}
use Prim.Native.Nat.{ℕ, zero, suc, ◌+◌, ◌<◌, ◌≤◌}
use native.Mathlib.Omega.{arith}
use native.Mathlib.Decide.{dec_lt}
use lib.ListN.{length, length-map, drop}
use borrow.Author.Tests.{lt-ltb, le-ltb}
use Rattle.std.specs.Prelude.{Result, Ok, Err}
use Rattle.rules.specs.Catalogue.{Catalogue}
use Rattle.rules.specs.Refusals.{number_and_place, unless_any}
use Rattle.rules.specs.State.{State}
use Rattle.rules.specs.Limits.{Terms}
use Rattle.rules.specs.Listing.{listing}
use Rattle.rules.specs.Job.{answer_of, printed, is_empty, ending, ended_by}
use Rattle.rules.proofs.Forgotten.{forget, forget_listing}
use Rattle.rules.proofs.ListLaws.{no_element}
use Rattle.refusal.specs.declared.Refusal.TheVariants.{NotRun, ListingFull}
use Rattle.refusal.specs.declared.RefusedAt.{RefusedAt}
use Rattle.refusal.specs.Refusing.{refusal_of}
use Rattle.text.specs.Text.{Wrote}
use Rattle.text.proofs.Written.{measured, fits, written}
use Rattle.state.specs.declared.Limits.{Limits}
use Rattle.state.proofs.Rows.{length_rows}
use Rattle.variable_map.proofs.Laws.{count}
use Rattle.marked.specs.Marked.{listed, owner_of}
use Rattle.marked.proofs.Laws.{length_listed}
use Rattle.entries.specs.Entries.{row_at_index, drawn_in}
use Rattle.encoder.specs.declared.Counters.{Counters}
use Rattle.encoder.specs.Held.{Reading, opening_of, state_of}
use Rattle.encoder.proofs.Frames.{clauses_counted}
use Rattle.line_fields.specs.Listed.{Lists}
use Rattle.beginning.specs.Beginning.{Holds}
use Rattle.ending.specs.declared.Accepted.{Accepted}
use Rattle.ending.specs.Ending.{told, Comes, Prints, Finishes}

-- the two refusals
abbrev pub not_run : RefusedAt
not_run = record { refusal = NotRun; at = 0 }

abbrev pub no_listing : RefusedAt
no_listing = record { refusal = ListingFull; at = 0 }

-- any reading will do between two records
abbrev some_reading : Reading
some_reading = record { truth = λ p. false; drawn = [] }

module _ {c : Catalogue} {l : Limits} {s : State} {n : Counters} {st : ℕ → List ℕ} {cl wt : List ℕ} (h : Holds c l s n st cl wt) where
  abbrev areas : state_of c l some_reading n st cl wt ≡ forget s
  areas = h.is some_reading

  added_count : length s.opening.added ≡ n.added
  unfolding state_of opening_of
  added_count = ap (λ (u : State). length u.opening.added) (sym areas) ∙ (length-map (listed n.added 6 st) owner_of ∙ length_listed h.good.state.added)

  drawn_count : length s.opening.drawn ≡ n.drawn
  unfolding state_of opening_of drawn_in
  drawn_count = ap (λ (u : State). length u.opening.drawn) (sym areas) ∙ length_rows (λ i. row_at_index wt (l.waiting + i)) n.drawn

  variables_count : n.variables ≡ length s.variables
  unfolding state_of
  variables_count = sym (count n.variables st) ∙ ap (λ (u : State). length u.variables) areas

  clauses_count : n.clauses ≡ length s.clauses
  unfolding state_of
  clauses_count = sym (clauses_counted c _ (st 19) n.clauses cl) ∙ ap (λ (u : State). length u.clauses) areas

  -- the listing of the areas is the state's
  listing_is : listing c (state_of c l some_reading n st cl wt) ≡ listing c s
  listing_is = ap (listing c) areas ∙ forget_listing c s

  wrote_is : {room r : ℕ} {out out' : List ℕ} → Lists c l n st cl wt room r out out' → Wrote 0 r (listing c s) room out out'
  wrote_is w = rw listing_is at (w.is some_reading)

-- ---- what is left

not_empty : {A : Type 0} (xs : List A) → 0 < length xs → is_empty xs ≡ false
not_empty [] h = let none : ⊥ = omega arith in absurd none
not_empty (x ∷ xs) h = refl

either_false : (a b : Bool) → a ≡ false → not (a && b) ≡ true
either_false a b e = rw e

other_false : (a b : Bool) → b ≡ false → not (a && b) ≡ true
other_false true b e = rw e
other_false false b e = refl

module _ (c : Catalogue) (s : State) (t : Terms) (job : List ℕ) where
  left_over : {out : List ℕ} → not (is_empty s.opening.added && is_empty s.opening.drawn) ≡ true
      → Comes job (ended_by t job c (unless_any (ending t job c s) s)) (Err not_run) out out
  unfolding ending unless_any ended_by answer_of printed told refusal_of number_and_place
  left_over e = record { answer = rw (e, unless_any); listing = rw (e, unless_any) }

  module _ (a : s.opening.added ≡ []) (d : s.opening.drawn ≡ []) where
    nothing : not (is_empty s.opening.added && is_empty s.opening.drawn) ≡ false
    nothing = rw (a, d)

    too_long : {out : List ℕ} → t.listing < length (listing c s) → Comes job (ended_by t job c (unless_any (ending t job c s) s)) (Err no_listing) out out
    unfolding ending unless_any ended_by answer_of printed told refusal_of number_and_place
    too_long h =
        let f = lt-ltb t.listing (length (listing c s)) h in
        record { answer = rw (nothing, f, unless_any); listing = rw (nothing, f, unless_any) }

    printed_whole : {out out' : List ℕ} → length (listing c s) ≤ t.listing → out' ≡ listing c s ++ drop (length (listing c s)) out
        → Comes job (ended_by t job c (unless_any (ending t job c s) s)) (Ok (record { length = length (listing c s); variables = length s.variables; clauses = length s.clauses })) out out'
    unfolding ending unless_any ended_by answer_of printed told
    printed_whole h w =
        let f = le-ltb t.listing (length (listing c s)) h in
        record { answer = rw (nothing, f, unless_any); listing = rw (nothing, f, unless_any) w }

positive : (m : ℕ) → (m ≡ 0 → ⊥) → 0 < m
positive zero h = absurd (h refl)
positive (suc m) h = omega arith

-- ---- a law for each way out

module _ {c : Catalogue} {l : Limits} {n : Counters} {st : ℕ → List ℕ} {cl wt : List ℕ} where
  pub added_left : (out : List ℕ) → (n.added ≡ 0 → ⊥) → Finishes c l n st cl wt (Err not_run) out out
  added_left out h =
      record { is = λ s k t job e. left_over c s t job (either_false _ _ (not_empty s.opening.added (positive _ (rw (added_count k) h)))) }

  pub drawn_left : (out : List ℕ) → (n.drawn ≡ 0 → ⊥) → Finishes c l n st cl wt (Err not_run) out out
  drawn_left out h =
      record { is = λ s k t job e. left_over c s t job (other_false (is_empty s.opening.added) _ (not_empty s.opening.drawn (positive _ (rw (drawn_count k) h)))) }

  pub none_left_over : {r : Result Accepted RefusedAt} {out out' : List ℕ} → n.added ≡ 0 → n.drawn ≡ 0 → Prints c l n st cl wt r out out' → Finishes c l n st cl wt r out out'
  none_left_over a d p =
      record { is = λ s k t job e. p.is s k t job e (no_element s.opening.added (added_count k ∙ a)) (no_element s.opening.drawn (drawn_count k ∙ d)) }

  module _ {room m : ℕ} {out : List ℕ} (e : room ≡ length out) (w : Lists c l n st cl wt room m [] []) where
    pub no_room : room < m → Prints c l n st cl wt (Err no_listing) out out
    no_room h =
        record {
          is = λ s k t job q a d.
              let f : length (listing c s) ≤ room → ⊥ = λ g. (let x = measured room (listing c s) [] [] m (wrote_is k w) g in omega arith) in
              too_long c s t job a d (over t.listing (length (listing c s)) (λ g. f (omega (arith, q, e))));
        }
      where
        over : (x y : ℕ) → (y ≤ x → ⊥) → x < y
        over x y f = elim (dec_lt x y) [ yes g ↦ g | no g ↦ absurd (f (omega arith)) ]

    pub printed_out : {r : ℕ} {out₁ out' : List ℕ} → m ≤ room → out₁ ≡ out → Lists c l n st cl wt room r out₁ out'
        → Prints c l n st cl wt (Ok (record { length = m; variables = n.variables; clauses = n.clauses })) out out'
    printed_out {r} {out₁} {out'} h same v =
        record {
          is = λ s k t job q a d.
              let g = fits room (listing c s) [] [] m (wrote_is k w) h in
              let z : length (listing c s) ≤ length out = omega (arith, e) in
              rw (measured room (listing c s) [] [] m (wrote_is k w) g, variables_count k, clauses_count k)
              (printed_whole c s t job a d (omega (arith, q, e)) (written out (listing c s) out' r (rw (e, same) at (wrote_is k v)) z));
        }
