-- A requirement as the tables have it: the origins of its owner and its gate, its goal by form and number, and its shape.
use mathlib.Core.Path.{◌≡◌, refl, sym, ◌∙◌, ap}
use mathlib.Core.Bool.{Bool, true, false, false≢true, true≢false}
use mathlib.Core.List.{List}
use mathlib.Core.Option.{Option, none, some}
use Prim.Native.Nat.{ℕ, ◌<◌, ◌≤◌, min}
use native.Mathlib.Nat.{min-eq_left, min-eq_right}
use native.Mathlib.Omega.{arith}
use lib.Dec.{ltb}
use lib.ListN.{length, get_or}
use borrow.Author.Tests.{ltb-true, ltb-false, lt-ltb}
use Rattle.rules.specs.Catalogue as rules
use Rattle.rules.specs.Catalogue.{Owner, root, part, Goal, range, union, Catalogue, no_requirement, requirement_at, owner_at, goal_at, condition_at}
use Rattle.rules.specs.Candidates.{candidates}
use Rattle.rules.specs.Conditions.{is_none, unconditional}
use Rattle.rules.specs.Variables.{Origin, chosen, gate, known, variable_of}
use Rattle.rules.specs.Encoding.{direct, through_gate, shape_by, shape, shape_of}
use Rattle.rules.proofs.Bools.{by_cases}
use Rattle.rules.proofs.WellFormed.{GoalGiven}
use Rattle.requirement.specs.declared.ConditionalRequirement.{ConditionalRequirement}
use Rattle.std.specs.Prelude.{Some, None}
use Rattle.requirement.specs.declared.Owner as owner
use Rattle.requirement.specs.declared.Owner.TheVariants.{Root, Part}
use Rattle.requirement.specs.Requirements.{goal_of, owner_is, condition_is, requirement_is}
use Rattle.tables.specs.declared.Counts.{Counts}
use Rattle.tables.specs.Tables.{tables}
use Rattle.cache.specs.Areas.{catalogue}
use Rattle.cache.proofs.Laws.{requirement_held, ranges_held, unions_held}
use Rattle.variable_map.specs.declared.Origin as code
use Rattle.variable_map.specs.Mapping.{origin_of, in_tables}
use Rattle.variable_map.proofs.Laws.{count}
use Rattle.encoder.specs.declared.State.{State}
use Rattle.encoder.specs.Did.{Looked}
use Rattle.encoder.specs.Does.{regions_of, variables_of, IsMapped}
use Rattle.index.specs.Catalogued.{Catalogued}
use Rattle.owners.specs.Owners.{OwnerNumber}
use Rattle.owners.proofs.Records.{equal, required_owner}
use Rattle.firing.proofs.Required.{goal_is, goal_given}
use Rattle.condition_literals.specs.Literals.{Found}

-- ---- origins that have variables

pub found : (a : State) {x : ℕ} (w : Origin) {o : Origin} → w ≡ o → Looked (variables_of a) w x → IsMapped a → known (variables_of a) o ≡ true
    → Found a.limits (variables_of a) o x
found a w i y m k =
    record { is = y.is (rw i k) ∙ ap (variable_of (variables_of a)) i; low = omega (arith, m.room, y.below (rw i k), count a.used.variables (regions_of a)) }

owner_fits : (o : owner.Owner) → OwnerNumber o → in_tables (chosen (owner_is o)) ≡ true
unfolding in_tables
owner_fits Root h = refl
owner_fits (Part p) h = lt-ltb p 1024 (h.low p refl)

gate_fits : (k : Counts) (m us t : List ℕ) → Catalogued k m us t → (g : Goal) → GoalGiven (catalogue k m us t) g → in_tables (gate g) ≡ true
unfolding in_tables
gate_fits k m us t w (range r) h = let low : r < length (catalogue k m us t).ranges = h in lt-ltb r 512 (omega (arith, ranges_held k m us t, w.kept.held.laid.ranges))
gate_fits k m us t w (union u) h = let low : u < length (catalogue k m us t).unions = h in lt-ltb u 128 (omega (arith, unions_held k m us t, w.kept.held.laid.unions))

-- ---- the shape, without a condition

shape_root : (k : Option ℕ) (n : ℕ) → is_none k ≡ true → shape k root n ≡ direct
unfolding shape
shape_root none n e = refl
shape_root (some k) n e = absurd (false≢true e)

shape_few : (k : Option ℕ) (o : Owner) (n : ℕ) → is_none k ≡ true → ltb n 4 ≡ true → shape k o n ≡ direct
unfolding shape shape_by
shape_few none root n e f = refl
shape_few none (part p) n e f = rw f
shape_few (some k) o n e f = absurd (false≢true e)

shape_many : (k : Option ℕ) (p n : ℕ) → is_none k ≡ true → ltb n 4 ≡ false → shape k (part p) n ≡ through_gate
unfolding shape shape_by
shape_many none p n e f = rw f
shape_many (some k) p n e f = absurd (false≢true e)

under : (x n : ℕ) → x ≡ min n 4 → x < 4 → ltb n 4 ≡ true
under x n e h = by_cases (ltb n 4) (λ f. f) (λ f. let z : min n 4 ≡ 4 = min-eq_right (ltb-false n 4 f) in let no : ⊥ = omega (arith, e ∙ z) in absurd no)

over : (x n : ℕ) → x ≡ min n 4 → 4 ≤ x → ltb n 4 ≡ false
over x n e h =
    by_cases (ltb n 4)
    (λ f. let a : n < 4 = ltb-true n 4 f in let b : n ≤ 4 = omega arith in let z : min n 4 ≡ n = min-eq_left b in let no : ⊥ = omega (arith, e ∙ z) in absurd no)
    (λ f. f)

-- ---- the record

module _ (k : Counts) (m us t : List ℕ) (q : ℕ) (it : ConditionalRequirement) (e : requirement_is it ≡ get_or (tables k t).requirements q no_requirement) where
  abbrev here : Catalogue
  here = catalogue k m us t

  record_is : requirement_at here q ≡ requirement_is it
  record_is = requirement_held k m us t q ∙ sym e

  owner_is_law : owner_at here q ≡ owner_is it.owner
  unfolding requirement_is
  owner_is_law = ap (λ (x : rules.Requirement). x.owner) record_is

  condition_is_law : condition_at here q ≡ condition_is it.condition
  unfolding requirement_is
  condition_is_law = ap (λ (x : rules.Requirement). x.condition) record_is

  pub its_goal : goal_of it.requirement ≡ goal_at here q
  its_goal = sym (goal_is k m us t q it e)

  -- with a condition or without
  pub without : it.condition ≡ None → unconditional here q ≡ true
  unfolding unconditional
  without h = rw (condition_is_law, h)

  pub with_one : (x : ℕ) → it.condition ≡ Some x → unconditional here q ≡ false
  unfolding unconditional
  with_one x h = rw (condition_is_law, h)

  -- the owner's origin
  module _ (w : code.Origin) (i : origin_of w ≡ chosen (owner_is it.owner)) where
    pub owner_origin_law : origin_of w ≡ chosen (owner_at here q)
    owner_origin_law = i ∙ ap chosen (sym owner_is_law)

    pub owner_in_tables : Catalogued k m us t → q < k.requirements → in_tables (origin_of w) ≡ true
    owner_in_tables h b = rw i (owner_fits it.owner (required_owner k m us t q it e h.formed h.kept b))

  -- the gate's
  pub gate_origin : gate (goal_of it.requirement) ≡ gate (goal_at here q)
  gate_origin = ap gate its_goal

  pub gate_in_tables : Catalogued k m us t → q < k.requirements → in_tables (gate (goal_of it.requirement)) ≡ true
  gate_in_tables h b = gate_fits k m us t h (goal_of it.requirement) (goal_given k m us t q it e h b)

  -- its shape
  module _ (u : unconditional here q ≡ true) where
    pub root_direct : (b : Bool) → b ≡ equal it.owner Root → b ≡ true → shape_of here q ≡ direct
    unfolding unconditional
    root_direct b f h = rw owner_is_law (go it.owner (sym f ∙ h))
      where
        go : (o : owner.Owner) → equal o Root ≡ true → shape (condition_at here q) (owner_is o) (length (candidates here (goal_at here q))) ≡ direct
        go Root z = shape_root (condition_at here q) (length (candidates here (goal_at here q))) u
        go (Part p) z = absurd (false≢true z)

    pub few_direct : (x : ℕ) → x ≡ min (length (candidates here (goal_of it.requirement))) 4 → x < 4 → shape_of here q ≡ direct
    unfolding unconditional
    few_direct x i h = shape_few (condition_at here q) (owner_at here q) (length (candidates here (goal_at here q))) u (under x (length (candidates here (goal_at here q))) (rw (goal_is k m us t q it e) i) h)

    pub many_gate : (b : Bool) → b ≡ equal it.owner Root → b ≡ false → (x : ℕ) → x ≡ min (length (candidates here (goal_of it.requirement))) 4 → 4 ≤ x → shape_of here q ≡ through_gate
    unfolding unconditional
    many_gate b f h x i g = rw owner_is_law (go it.owner (sym f ∙ h))
      where
        go : (o : owner.Owner) → equal o Root ≡ false → shape (condition_at here q) (owner_is o) (length (candidates here (goal_at here q))) ≡ through_gate
        go Root z = absurd (true≢false z)
        go (Part p) z =
            shape_many (condition_at here q) p (length (candidates here (goal_at here q))) u
            (over x (length (candidates here (goal_at here q))) (rw (goal_is k m us t q it e) i) g)
