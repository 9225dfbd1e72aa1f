-- Where in the listing the literals of goals stand already.
use Rattle.std.specs.Prelude.{◌≡◌, Bool, true, false, Option, Some, None, List, [], ℕ, ◌+◌, ◌-◌, ◌≤◌, get_or, set}
use Rattle.rules.specs.Catalogue.{Catalogue}
use Rattle.rules.specs.Candidates.{candidates}
use Rattle.rules.specs.Variables.{Origin}
use Rattle.text.specs.declared.Writer.{Writer}
use Rattle.text.specs.Writing.{Writes, Stands}
use Rattle.requirement.specs.declared.Requirement.{Requirement}
use Rattle.requirement.specs.declared.Requirement.TheVariants.{Single, Union}
use Rattle.requirement.specs.Requirements.{goal_of}
use Rattle.line_fields.specs.Listed.{part_text}
use Rattle.clause_lines.specs.declared.spans.Span.{Span}
use Rattle.clause_lines.specs.declared.spans.Spans.{Spans}

-- the literals of a goal
unfoldable pub goal_text : Catalogue → List Origin → Requirement → List ℕ
goal_text c vs g = part_text vs (candidates c (goal_of g))

-- where they stand, if anywhere
abbrev pub span_of : Spans → Requirement → Option Span
span_of ss (Single r) = get_or ss.ranges r None
span_of ss (Union u) = get_or ss.unions u None

abbrev pub with_span : Spans → Requirement → Span → Spans
with_span ss (Single r) s = record ss { ranges = set ss.ranges r (Some s) }
with_span ss (Union u) s = record ss { unions = set ss.unions u (Some s) }

-- no goal's stand anywhere
pub record Nowhere (ss : Spans) : Type 0 where
  pub each : (g : Requirement) → span_of ss g ≡ None

-- they stand in w's area, before its place
pub record Stand (c : Catalogue) (vs : List Origin) (ss : Spans) (w : Writer) : Type 0 where
  pub each : (g : Requirement) (s : Span) → span_of ss g ≡ Some s → Stands (goal_text c vs g) w s.begin s.length

-- whatever they are, they stand before w's place
pub record Behind (ss : Spans) (w : Writer) : Type 0 where
  pub each : (g : Requirement) (s : Span) → span_of ss g ≡ Some s → s.begin + s.length ≤ w.at

-- w wrote those of goal g once more, whatever they are; or nothing
pub record Again (ss : Spans) (g : Requirement) (w w' : Writer) (r : Bool) : Type 0 where
  pub again : r ≡ true → (bs : List ℕ) → ((s : Span) → span_of ss g ≡ Some s → Stands bs w s.begin s.length) → Writes w w' bs
  pub nothing : r ≡ false → Writes w w' []

-- it is kept that those of goal g stand from `begin` to w's place, within the room; or nothing is
pub data Kept (ss ss' : Spans) (g : Requirement) (begin : ℕ) (w : Writer) : Type 0 where
  none : ss' ≡ ss → Kept ss ss' g begin w
  span : w.at ≤ w.room → ss' ≡ with_span ss g (record { begin = begin; length = w.at - begin }) → Kept ss ss' g begin w
