-- How many candidates a goal has, against its code: a pass over the ranges of a union that stops once there are enough.
use mathlib.Core.Path.{◌≡◌, sym, ◌∙◌}
use mathlib.Core.List.{List, append-nil}
use Prim.Native.Nat.{ℕ, ◌+◌, ◌<◌, ◌≤◌, min}
use native.Mathlib.Nat.{min-eq_left, min-eq_right}
use native.Mathlib.Omega.{arith}
use lib.ListN.{length, get_or, length-append}
use Rattle.rules.specs.Lists.{filter, concat_map}
use Rattle.rules.specs.Catalogue.{Catalogue, part_at, union}
use Rattle.rules.specs.Candidates.{matching, favoured_first, sorted, goal_ranges, candidates}
use Rattle.rules.proofs.ListLaws.{length_filters, concat_map_append}
use Rattle.requirement.specs.declared.Requirement.{Requirement}
use Rattle.requirement.specs.declared.Requirement.TheVariants.{Single, Union}
use Rattle.requirement.specs.Requirements.{goal_of}
use Rattle.tables.specs.declared.Counts.{Counts}
use Rattle.unions.specs.declared.Member.{Member}
use Rattle.unions.specs.Unions.{Row, no_row, rows, row_of, left, before}
use Rattle.unions.proofs.Laws.{before_left}
use Rattle.cache.specs.Areas.{catalogue}
use Rattle.cache.specs.Lists.{CountedTo}
use Rattle.index.specs.Members.{At, Passes}
use Rattle.index.proofs.Unions.{union_ranges, total_start, total_here, total_step, ranges_end, at_next}
use Rattle.index.specs.Catalogued.{Catalogued}

-- the favoured first, and as many
pub length_sorted : (c : Catalogue) (r : ℕ) → length (sorted c r) ≡ length (matching c r)
unfolding sorted favoured_first
length_sorted c r = length-append (filter (λ p. (part_at c p).favoured) (matching c r)) _ ∙ length_filters (λ p. (part_at c p).favoured) (matching c r)

-- the loop at place i: so many candidates have the rows before
pub record Totalling (k : Counts) (ms us t : List ℕ) (u most total i : ℕ) : Type 0 where
  pub at : At k.members (rows k.members us) u i
  pub few : total ≤ most
  pub low : total < 4
  pub is : length (concat_map (sorted (catalogue k ms us t)) (before u i (rows k.members us))) ≡ total

module _ (k : Counts) (ms us t : List ℕ) (u most : ℕ) (d : Catalogued k ms us t) where
  abbrev c : Catalogue
  c = catalogue k ms us t

  abbrev rs : List Row
  rs = rows k.members us

  pub counting_start : {i : ℕ} → Passes k rs u 0 i → Totalling k ms us t u most 0 i
  counting_start x = record { at = x.at; few = omega arith; low = omega arith; is = total_start k ms us t d.kept x }

  -- those of the first rows are among all
  among : (i : ℕ) → length (concat_map (sorted c) (before u i rs)) ≤ length (candidates c (union u))
  unfolding candidates
  among i =
      rw (union_ranges k ms us t d.kept u, ← before_left u i rs, concat_map_append (sorted c) (before u i rs) (left u i rs), length-append) (omega arith)

  module _ {total i : ℕ} (x : Totalling k ms us t u most total i) where
    module _ (h : i < k.members) (a : Member) (e : row_of a ≡ get_or rs i no_row) {n : ℕ} (q : CountedTo most n (matching c a.range)) where
      counted : n ≡ min (length (sorted c a.range)) most
      counted = rw (length_sorted c a.range) q.is

      pub counting_step : {i' : ℕ} → most ≤ 4 → total + n < most → Passes k rs (get_or rs i no_row).union (i + 1) i' → Totalling k ms us t u most (total + n) i'
      counting_step l g y =
          let z = x.is in
          let s : n ≡ length (sorted c a.range) = omega (arith, counted) in
          record {
            at = at_next k ms us t d.kept x.at a h e y;
            few = omega arith;
            low = omega arith;
            is = total_step k ms us t d.kept x.at a h e y (omega arith) ∙ rw (x.is, s);
          }

      pub counting_full : most ≤ total + n → most ≡ min (length (candidates c (union u))) most
      counting_full f = sym (min-eq_right (omega (arith, among (i + 1), total_here k ms us t d.kept x.at a h e, x.is, counted)))

    pub counting_end : k.members ≤ i → total ≡ min (length (candidates c (union u))) most
    counting_end g =
        let s : total ≡ length (candidates c (union u)) =
        sym x.is ∙ (unfold candidates in rw (ranges_end k ms us t d.kept u i g, union_ranges k ms us t d.kept u)) in
        rw (← s) (sym (min-eq_left x.few))

-- ---- of a goal

module _ (c : Catalogue) (q : Requirement) (most : ℕ) where
  pub count_range : (r n : ℕ) → q ≡ Single r → CountedTo most n (matching c r) → n ≡ min (length (candidates c (goal_of q))) most
  unfolding goal_of candidates goal_ranges concat_map
  count_range r n e d = rw (e, append-nil (sorted c r), length_sorted c r) d.is

  pub count_union : (u n : ℕ) → q ≡ Union u → n ≡ min (length (candidates c (union u))) most → n ≡ min (length (candidates c (goal_of q))) most
  unfolding goal_of
  count_union u n e h = rw e h
