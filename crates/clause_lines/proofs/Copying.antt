-- The literals of goals that stand in the listing already: what is written keeps them, and a copy of them is what printing them would write.
use mathlib.Core.Path.{◌≡◌, refl, ap, sym, ◌∙◌}
use mathlib.Core.Bool.{Bool, true, false}
use mathlib.Core.List.{List, []}
use Prim.Native.Nat.{ℕ, ◌-◌}
use native.Mathlib.Decide.{dec_lt, ℕ_discrete}
use native.Mathlib.Omega.{arith}
use borrow.Author.Tests.{eqb-true}
use lib.Dec.{eqb}
use lib.ListN.{length, get_or, set, replicate, length-replicate, get_or-replicate, get_or-eq_default}
use lib.Seq.{set_out, get_or-set_same, get_or-set_other}
use Rattle.std.proofs.Common.{◌⊎◌, inl, inr}
use Rattle.std.specs.Prelude.{Option, Some, None}
use Rattle.rules.specs.Catalogue.{Catalogue}
use Rattle.rules.specs.Candidates.{candidates}
use Rattle.rules.specs.Variables.{Origin}
use Rattle.rules.proofs.ListLaws.{no_element}
use Rattle.text.specs.declared.Writer.{Writer}
use Rattle.text.specs.Writing.{Writes}
use Rattle.text.proofs.Writing.{nothing, then, stands_still, stands_new}
use Rattle.requirement.specs.declared.Requirement.{Requirement}
use Rattle.requirement.specs.declared.Requirement.TheVariants.{Single, Union}
use Rattle.requirement.specs.Requirements.{goal_of}
use Rattle.clause_lines.specs.declared.spans.Span.{Span}
use Rattle.clause_lines.specs.declared.spans.Spans.{Spans}
use Rattle.clause_lines.specs.Spans.{goal_text, span_of, with_span, Nowhere, Stand, Again, Kept, none, span}
use Rattle.clause_lines.proofs.Parts.{parts_none}

-- ---- what is kept

all_none : (n i : ℕ) (l : List (Option Span)) → l ≡ replicate n None → get_or l i None ≡ None
all_none n i l e = elim (dec_lt i n) [
  | yes h ↦ rw e (get_or-replicate n i None None h)
  | no h ↦ get_or-eq_default l None (rw (e, length-replicate n) (omega arith))
]

pub nowhere_new : Nowhere (record { ranges = replicate 512 None; unions = replicate 128 None })
nowhere_new = record { each = each }
  where
    each : (g : Requirement) → span_of (record { ranges = replicate 512 None; unions = replicate 128 None }) g ≡ None
    each (Single r) = all_none 512 r _ refl
    each (Union u) = all_none 128 u _ refl

put_or_kept : (l : List (Option Span)) (i j : ℕ) (s t : Span) → get_or (set l i (Some s)) j None ≡ Some t → ((j ≡ i) × (t ≡ s)) ⊎ (get_or l j None ≡ Some t)
put_or_kept l i j s t e = elim (ℕ_discrete j i) [
  | no d ↦ inr (sym (get_or-set_other l i j (Some s) None d) ∙ e)
  | yes d ↦ elim (dec_lt i (length l)) [
    | yes h ↦ let q : Some t ≡ Some s = sym (rw d at e) ∙ get_or-set_same l i (Some s) None h in inl (d, cc)
    | no h ↦ inr (rw (set_out l i (Some s) (omega arith)) at e)
  ]
]

-- what is kept of a goal is the new span, or was kept before
new_or_kept : (ss : Spans) (g h : Requirement) (s t : Span) → span_of (with_span ss g s) h ≡ Some t → ((h ≡ g) × (t ≡ s)) ⊎ (span_of ss h ≡ Some t)
new_or_kept ss (Single a) (Single b) s t e = elim (put_or_kept ss.ranges a b s t e) [ inl (d, f) ↦ inl (ap Single d, f) | inr f ↦ inr f ]
new_or_kept ss (Single a) (Union b) s t e = inr e
new_or_kept ss (Union a) (Single b) s t e = inr e
new_or_kept ss (Union a) (Union b) s t e = elim (put_or_kept ss.unions a b s t e) [ inl (d, f) ↦ inl (ap Union d, f) | inr f ↦ inr f ]

module _ {c : Catalogue} {vs : List Origin} {ss : Spans} where
  pub stand_start : (w : Writer) → Nowhere ss → Stand c vs ss w
  stand_start w f = record { each = λ g s e. let no : None ≡ Some s = sym (f.each g) ∙ e in cc }

  -- writing goes on behind them
  pub stand_still : {w w1 : Writer} {us : List ℕ} → Writes w w1 us → Stand c vs ss w → Stand c vs ss w1
  stand_still v f = record { each = λ g s e. stands_still (f.each g s e) v }

  -- what was just written
  pub stand_new : {w w1 : Writer} {ss' : Spans} {g : Requirement} → Stand c vs ss w1 → Writes w w1 (goal_text c vs g) → Kept ss ss' g w.at w1 → Stand c vs ss' w1
  stand_new f v (none e) = rw e f
  stand_new {w} {w1} {g = g} f v (span l e) =
      let s : Span = record { begin = w.at; length = w1.at - w.at } in
      record {
        each = λ h t q.
            elim (new_or_kept ss g h s t (rw e at q)) [
              | inl (d, z) ↦ rw (d, z) (stands_new v l)
              | inr z ↦ f.each h t z
            ];
      }

-- ---- a copy

module _ {c : Catalogue} {vs : List Origin} {ss : Spans} {w w1 : Writer} {g : Requirement} {r : Bool} (f : Stand c vs ss w) (a : Again ss g w w1 r) where
  pub again_text : r ≡ true → Writes w w1 (goal_text c vs g)
  again_text e = a.again e _ (λ s d. f.each g s d)

  pub again_stand : r ≡ true → Stand c vs ss w1
  again_stand e = stand_still (again_text e) f

  pub again_none : r ≡ false → Writes w w1 []
  again_none e = a.nothing e

  -- they were not copied, but printed
  module _ (e : r ≡ false) {w2 : Writer} (v : Writes w1 w2 (goal_text c vs g)) where
    pub fresh : Writes w w2 (goal_text c vs g)
    fresh = then (a.nothing e) v

    pub kept_fresh : {ss' : Spans} → Kept ss ss' g w1.at w2 → Stand c vs ss' w2
    kept_fresh k = stand_new (stand_still v (stand_still (a.nothing e) f)) v k

-- a goal with no candidate
pub none_text : (c : Catalogue) (vs : List Origin) {y : Bool} (g : Requirement) (w : Writer) → y ≡ eqb (length (candidates c (goal_of g))) 0 → y ≡ true → Writes w w (goal_text c vs g)
unfolding goal_text
none_text c vs g w e d = rw (no_element (candidates c (goal_of g)) (eqb-true _ 0 (sym e ∙ d)), parts_none vs) (nothing w)
