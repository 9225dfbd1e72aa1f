-- A requirement, as the tables have it: its goal, and the disjuncts of its condition.
use mathlib.Core.Path.{◌≡◌, refl, sym, ◌∙◌, ap, subst}
use mathlib.Core.Bool.{true, false, true≢false}
use mathlib.Core.List.{List}
use Prim.Native.Nat.{ℕ, ◌<◌}
use lib.ListN.{length, get_or}
use Rattle.rules.specs.Catalogue as rules
use Rattle.rules.specs.Catalogue.{Goal, Catalogue, no_requirement, goal_at, condition_at}
use Rattle.rules.specs.Conditions.{disjuncts, disjuncts_if, disjuncts_of, is_none, unconditional}
use Rattle.rules.proofs.WellFormed.{GoalGiven}
use Rattle.requirement.specs.declared.ConditionalRequirement.{ConditionalRequirement}
use Rattle.std.specs.Prelude as code
use Rattle.std.specs.Prelude.{Some, None, is_some}
use Rattle.requirement.specs.Requirements.{goal_of, condition_is, requirement_is}
use Rattle.tables.specs.declared.Counts.{Counts}
use Rattle.tables.specs.declared.Tables.{Tables}
use Rattle.tables.specs.Views.{tables_of}
use Rattle.tables.specs.Tables.{tables}
use Rattle.conditions.specs.Sizes.{Counted}
use Rattle.cache.specs.Areas.{assembled, catalogue}
use Rattle.cache.proofs.Laws.{requirements_held, conditions_held, requirement_held}
use Rattle.index.specs.Catalogued.{Catalogued}

-- ---- its goal

module _ (k : Counts) (m us t : List ℕ) (q : ℕ) (it : ConditionalRequirement) (e : requirement_is it ≡ get_or (tables k t).requirements q no_requirement) where
  pub goal_is : goal_at (catalogue k m us t) q ≡ goal_of it.requirement
  unfolding requirement_is
  goal_is = ap (λ (x : rules.Requirement). x.goal) (requirement_held k m us t q ∙ sym e)

  pub goal_given : Catalogued k m us t → q < k.requirements → GoalGiven (catalogue k m us t) (goal_of it.requirement)
  goal_given w h =
      let given : q < length (catalogue k m us t).requirements = rw requirements_held h in
      subst (λ (x : Goal). GoalGiven (catalogue k m us t) x) goal_is (w.formed.requirements q given).goal

-- ---- its condition, if it has one

module _ (k : Counts) (m us t : List ℕ) (q : ℕ) (it : ConditionalRequirement) (e : requirement_is it ≡ get_or (tables k t).requirements q no_requirement)
    (w : Catalogued k m us t) (h : q < k.requirements) (u : unconditional (catalogue k m us t) q ≡ false) where
  condition_is_law : condition_at (catalogue k m us t) q ≡ condition_is it.condition
  unfolding requirement_is
  condition_is_law = ap (λ (x : rules.Requirement). x.condition) (requirement_held k m us t q ∙ sym e)

  condition_there : is_none (condition_is it.condition) ≡ false
  unfolding unconditional
  condition_there = rw condition_is_law at u

  pub has_condition : is_some it.condition ≡ true
  has_condition = go it.condition condition_there
    where
      go : (x : code.Option ℕ) → is_none (condition_is x) ≡ false → is_some x ≡ true
      go None n = absurd (true≢false n)
      go (Some i) n = refl

  pub condition_given : (x : ℕ) → it.condition ≡ Some x → x < k.conditions
  condition_given x f =
      let given : q < length (catalogue k m us t).requirements = rw requirements_held h in
      let low : x < length (catalogue k m us t).conditions = rw (condition_is_law, f) at (w.formed.requirements q given).condition in
      rw conditions_held at low

  pub its_disjuncts : (x : ℕ) → it.condition ≡ Some x → disjuncts_of (catalogue k m us t) q ≡ disjuncts (tables k t).conditions x
  unfolding disjuncts_of disjuncts_if catalogue assembled
  its_disjuncts x f = rw (condition_is_law, f)

-- ---- the conditions of the tables, as they are read

pub counted_in : {ts ts' : Tables} (x n : ℕ) → ts ≡ ts' → Counted (tables_of ts).conditions x n → Counted (tables_of ts').conditions x n
counted_in x n e c = rw e at c

pub there_in : {ts ts' : Tables} (x i : ℕ) → ts ≡ ts' → i < length (disjuncts (tables_of ts').conditions x) → i < length (disjuncts (tables_of ts).conditions x)
there_in x i e h = rw (sym e) at h
