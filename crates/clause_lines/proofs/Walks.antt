-- The literals of a union's candidates, range by range; and those of a range.
use mathlib.Core.Path.{◌≡◌, refl, ap, ◌∙◌}
use mathlib.Core.Bool.{Bool, true}
use mathlib.Core.List.{List, [], ◌++◌, append_assoc, append-nil}
use Prim.Native.Nat.{ℕ, ◌+◌, ◌<◌, ◌≤◌}
use lib.Dec.{ltb}
use lib.ListN.{get_or}
use Rattle.rules.specs.Lists.{concat_map}
use Rattle.rules.specs.Catalogue.{Catalogue}
use Rattle.rules.specs.Candidates.{sorted, goal_ranges, candidates}
use Rattle.rules.specs.Variables.{Origin}
use Rattle.rules.proofs.Each.{each_left, each_right}
use Rattle.text.specs.declared.Writer.{Writer}
use Rattle.text.specs.Writing.{Writes}
use Rattle.text.proofs.Writing.{nothing, then, stopped}
use Rattle.requirement.specs.declared.Requirement.TheVariants.{Single, Union}
use Rattle.requirement.specs.Requirements.{goal_of}
use Rattle.tables.specs.declared.Counts.{Counts}
use Rattle.unions.specs.declared.Member.{Member}
use Rattle.unions.specs.Unions.{Row, no_row, rows, row_of, left, NextOf}
use Rattle.unions.proofs.Laws.{length_rows, left_here, left_past, left_next}
use Rattle.cache.specs.Areas.{catalogue}
use Rattle.index.specs.Members.{Passes}
use Rattle.index.specs.Indexed.{Indexed}
use Rattle.index.proofs.Unions.{union_ranges, left_start}
use Rattle.variable_map.specs.Mapping.{AllKnown}
use Rattle.line_fields.specs.Listed.{part_text}
use Rattle.clause_lines.specs.Spans.{goal_text}
use Rattle.clause_lines.proofs.Parts.{parts_append, parts_none}

-- ---- a range

range_candidates : (c : Catalogue) (r : ℕ) → candidates c (goal_of (Single r)) ≡ sorted c r
unfolding candidates goal_ranges goal_of concat_map
range_candidates c r = append-nil (sorted c r)

pub range_text : (c : Catalogue) (vs : List Origin) (r : ℕ) → goal_text c vs (Single r) ≡ part_text vs (sorted c r)
unfolding goal_text
range_text c vs r = rw range_candidates

pub range_written : (c : Catalogue) (vs : List Origin) (r : ℕ) {w w1 : Writer} → Writes w w1 (part_text vs (sorted c r)) → Writes w w1 (goal_text c vs (Single r))
range_written c vs r f = rw range_text f

known_range : (c : Catalogue) (vs : List Origin) (r : ℕ) → AllKnown vs (sorted c r) → AllKnown vs (candidates c (goal_of (Single r)))
known_range c vs r a = rw range_candidates a

pub range_known : (c : Catalogue) (vs : List Origin) (r : ℕ) → AllKnown vs (candidates c (goal_of (Single r))) → AllKnown vs (sorted c r)
range_known c vs r a = rw range_candidates at a

-- ---- a union

-- before the union's row at place i
pub record Walking (k : Counts) (m us t : List ℕ) (vs : List Origin) (u i : ℕ) (w w1 : Writer) : Type 0 where
  pub here : i < k.members → (get_or (rows k.members us) i no_row).union ≡ u
  pub known : AllKnown vs (concat_map (sorted (catalogue k m us t)) (left u i (rows k.members us)))
  pub done : List ℕ
  pub split : goal_text (catalogue k m us t) vs (Union u) ≡ done ++ part_text vs (concat_map (sorted (catalogue k m us t)) (left u i (rows k.members us)))
  pub so_far : Writes w w1 done

union_candidates : (k : Counts) (m us t : List ℕ) (u r : ℕ) → Indexed k m us t → Passes k (rows k.members us) u 0 r
    → candidates (catalogue k m us t) (goal_of (Union u)) ≡ concat_map (sorted (catalogue k m us t)) (left u r (rows k.members us))
unfolding candidates goal_of
union_candidates k m us t u r f x = rw (union_ranges k m us t f u, left_start k m us t f x)

union_split : (k : Counts) (m us t : List ℕ) (u : ℕ) (vs : List Origin) (ps : List ℕ) → candidates (catalogue k m us t) (goal_of (Union u)) ≡ ps
    → goal_text (catalogue k m us t) vs (Union u) ≡ part_text vs ps
unfolding goal_text
union_split k m us t u vs ps e = ap (part_text vs) e

pub walking_start : {k : Counts} {m us t : List ℕ} {vs : List Origin} {u r : ℕ} {w : Writer} → Indexed k m us t
    → AllKnown vs (candidates (catalogue k m us t) (goal_of (Union u))) → Passes k (rows k.members us) u 0 r
    → Walking k m us t vs u r w w
walking_start {k} {m} {us} {t} {vs} {u} {r} {w} f a x =
    let e = union_candidates k m us t u r f x in
    record { here = x.at.here; known = rw e at a; done = []; split = union_split k m us t u vs _ e; so_far = nothing w }

module _ {k : Counts} {m us t : List ℕ} {vs : List Origin} {u i : ℕ} {w w1 : Writer} (f : Walking k m us t vs u i w w1) where
  abbrev c : Catalogue
  c = catalogue k m us t

  abbrev rs : List Row
  rs = rows k.members us

  module _ (x : Member) (h : i < k.members) (e : row_of x ≡ get_or rs i no_row) where
    opened : concat_map (sorted c) (left u i rs) ≡ sorted c x.range ++ concat_map (sorted c) (left u (i + 1) rs)
    unfolding row_of concat_map
    opened = rw (left_here u i rs (rw length_rows h) (f.here h), ← e)

    pub walking_known : AllKnown vs (candidates c (goal_of (Single x.range)))
    walking_known = known_range c vs x.range (record { known = each_left (sorted c x.range) (concat_map (sorted c) (left u (i + 1) rs)) (rw opened at f.known.known) })

    pub walking_step : {r : ℕ} {w2 : Writer} → Writes w1 w2 (goal_text c vs (Single x.range)) → NextOf k.members rs u (i + 1) r → Walking k m us t vs u r w w2
    walking_step {r} g y =
        let q : concat_map (sorted c) (left u i rs) ≡ sorted c x.range ++ concat_map (sorted c) (left u r rs) = opened ∙ rw (left_next us y) in
        record {
          here = y.here;
          known = record { known = each_right (sorted c x.range) (rw q at f.known.known) };
          done = f.done ++ part_text vs (sorted c x.range);
          split = f.split ∙ rw (q, parts_append vs (sorted c x.range) (concat_map (sorted c) (left u r rs)), append_assoc);
          so_far = then f.so_far (rw (range_text c vs x.range) at g);
        }

  pub walking_end : k.members ≤ i → Writes w w1 (goal_text c vs (Union u))
  walking_end h =
      let e : concat_map (sorted c) (left u i rs) ≡ [] = rw (left_past u i rs (rw length_rows h)) (unfold concat_map in refl) in
      let d : goal_text c vs (Union u) ≡ f.done = f.split ∙ rw (e, parts_none vs, append-nil) in
      rw d f.so_far

  pub walking_over : {y : Bool} → y ≡ ltb w1.room w1.at → y ≡ true → Writes w w1 (goal_text c vs (Union u))
  walking_over e d = rw f.split (stopped _ f.so_far e d)
