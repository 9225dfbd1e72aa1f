-- Fields: a law for each way out of a function that prints some.
use mathlib.Core.Path.{◌≡◌, refl}
use mathlib.Core.Bool.{Bool, true, false, cond}
use Rattle.std.specs.Prelude as code
use Rattle.std.specs.Prelude.{None, Some}
use mathlib.Core.List.{List, [], ◌∷◌}
use Prim.Native.Nat.{ℕ}
use mir.Val.{bool_byte}
use Rattle.rules.specs.Listing.{ascii, decimal, signed, owner_field, goal_fields, origin_fields, clause_field}
use Rattle.text.specs.Text.{fields, literal_of}
use Rattle.text.specs.declared.Writer.{Writer}
use Rattle.text.specs.Writing.{Writes}
use Rattle.text.proofs.Writing.{fields_one, fields_first, fields_then}
use Rattle.requirement.specs.declared.Owner.{Owner}
use Rattle.requirement.specs.declared.Owner.TheVariants as owners
use Rattle.requirement.specs.declared.Requirement.{Requirement}
use Rattle.requirement.specs.declared.Requirement.TheVariants.{Single, Union}
use Rattle.requirement.specs.Requirements.{owner_is, goal_of}
use Rattle.variable_map.specs.declared.Origin.{Origin}
use Rattle.variable_map.specs.declared.Origin.TheVariants.{Root, Part, Forbid, One, Violation, Gate}
use Rattle.variable_map.specs.Mapping.{origin_of}
use Rattle.decision_tracker.specs.declared.Decision.{Decision}
use Rattle.decision_tracker.specs.Tracking.{clause_of, decision_of}
use Rattle.line_fields.specs.Listed.{decision_fields}

-- ---- one field

module _ {w w1 : Writer} where
  pub owner_root : {o : Owner} → o ≡ owners.Root → Writes w w1 (32 ∷ 114 ∷ 111 ∷ 111 ∷ 116 ∷ []) → Writes w w1 (fields (owner_field (owner_is o) ∷ []))
  unfolding owner_field ascii
  owner_root e f = rw e (fields_one f)

  pub owner_part : {o : Owner} (x : ℕ) → o ≡ owners.Part x → Writes w w1 (32 ∷ decimal x) → Writes w w1 (fields (owner_field (owner_is o) ∷ []))
  unfolding owner_field
  owner_part x e f = rw e (fields_one f)

  pub clause_none : {c : code.Option ℕ} → c ≡ None → Writes w w1 (32 ∷ 45 ∷ []) → Writes w w1 (fields (clause_field (clause_of c) ∷ []))
  unfolding clause_of clause_field ascii
  clause_none e f = rw e (fields_one f)

  pub clause_some : {c : code.Option ℕ} (x : ℕ) → c ≡ Some x → Writes w w1 (32 ∷ decimal x) → Writes w w1 (fields (clause_field (clause_of c) ∷ []))
  unfolding clause_of clause_field
  clause_some x e f = rw e (fields_one f)

value_is : (b : Bool) → bool_byte b ≡ cond b 1 0
value_is true = refl
value_is false = refl

-- ---- two, three and four

module _ {w w1 w2 : Writer} where
  pub two_fields : {f g : List ℕ} → Writes w w1 (32 ∷ f) → Writes w1 w2 (32 ∷ g) → Writes w w2 (fields (f ∷ g ∷ []))
  two_fields v y = fields_first _ v (fields_one y)

  pub gate_fields : (goal : Requirement) → Writes w w1 (32 ∷ 103 ∷ 97 ∷ 116 ∷ 101 ∷ []) → Writes w1 w2 (fields (goal_fields (goal_of goal)))
      → Writes w w2 (fields (ascii "gate" ∷ goal_fields (goal_of goal)))
  unfolding ascii
  gate_fields goal v y = fields_first _ v y

  pub requires_head : (x : ℕ) → Writes w w1 (32 ∷ 114 ∷ 101 ∷ 113 ∷ 117 ∷ 105 ∷ 114 ∷ 101 ∷ 115 ∷ []) → Writes w1 w2 (32 ∷ signed (literal_of x false))
      → Writes w w2 (fields (ascii "requires" ∷ signed (literal_of x false) ∷ []))
  unfolding ascii
  requires_head x v y = two_fields v y

  pub conditional_head : (x : ℕ) (fs : List (List ℕ)) → Writes w w1 (fields (ascii "requires" ∷ signed (literal_of x false) ∷ [])) → Writes w1 w2 (fields fs)
      → Writes w w2 (fields (ascii "requires" ∷ signed (literal_of x false) ∷ fs))
  conditional_head x fs v y = fields_then (ascii "requires" ∷ signed (literal_of x false) ∷ []) fs v y

  module _ {w3 : Writer} where
    pub three_fields : {f g h : List ℕ} → Writes w w1 (32 ∷ f) → Writes w1 w2 (32 ∷ g) → Writes w2 w3 (32 ∷ h)
        → Writes w w3 (fields (f ∷ g ∷ h ∷ []))
    three_fields u v y = fields_first _ u (fields_first _ v (fields_one y))

    pub excluded_fields : (reason x : ℕ) → Writes w w1 (32 ∷ 101 ∷ 120 ∷ 99 ∷ 108 ∷ 117 ∷ 100 ∷ 101 ∷ 100 ∷ []) → Writes w1 w2 (32 ∷ decimal reason)
        → Writes w2 w3 (32 ∷ signed (literal_of x false)) → Writes w w3 (fields (ascii "excluded" ∷ decimal reason ∷ signed (literal_of x false) ∷ []))
    unfolding ascii
    excluded_fields reason x u v y = three_fields u v y

    pub decision_fields_law : {w4 : Writer} (d : Decision) (n : ℕ) → n ≡ bool_byte d.value → Writes w w1 (32 ∷ decimal d.variable) → Writes w1 w2 (32 ∷ decimal n)
        → Writes w2 w3 (32 ∷ decimal d.level) → Writes w3 w4 (fields (clause_field (clause_of d.clause) ∷ []))
        → Writes w w4 (fields (decision_fields (decision_of d)))
    unfolding decision_fields decision_of
    decision_fields_law d n e u v y x = fields_first _ u (fields_first _ (rw (e, value_is) at v) (fields_first _ y x))

-- ---- a goal

module _ {w w1 : Writer} {goal : Requirement} (number : ℕ) where
  pub goal_range : goal ≡ Single number → Writes w w1 (fields ((114 ∷ 97 ∷ 110 ∷ 103 ∷ 101 ∷ []) ∷ decimal number ∷ [])) → Writes w w1 (fields (goal_fields (goal_of goal)))
  unfolding goal_of goal_fields ascii
  goal_range e y = rw e y

  pub goal_union : goal ≡ Union number → Writes w w1 (fields ((117 ∷ 110 ∷ 105 ∷ 111 ∷ 110 ∷ []) ∷ decimal number ∷ [])) → Writes w w1 (fields (goal_fields (goal_of goal)))
  unfolding goal_of goal_fields ascii
  goal_union e y = rw e y

-- ---- an origin

module _ {w w1 : Writer} {o : Origin} where
  pub origin_root : o ≡ Root → Writes w w1 (32 ∷ 114 ∷ 111 ∷ 111 ∷ 116 ∷ []) → Writes w w1 (fields (origin_fields (origin_of o)))
  unfolding origin_fields ascii
  origin_root e f = rw e (fields_one f)

  pub origin_part : (x : ℕ) → o ≡ Part x → Writes w w1 (fields ((112 ∷ 97 ∷ 114 ∷ 116 ∷ []) ∷ decimal x ∷ [])) → Writes w w1 (fields (origin_fields (origin_of o)))
  unfolding origin_fields ascii
  origin_part x e f = rw e f

  pub origin_forbid : (x j : ℕ) → o ≡ Forbid x j → Writes w w1 (fields ((102 ∷ 111 ∷ 114 ∷ 98 ∷ 105 ∷ 100 ∷ []) ∷ decimal x ∷ []))
      → Writes w w1 (fields (origin_fields (origin_of o)))
  unfolding origin_fields ascii
  origin_forbid x j e f = rw e f

  pub origin_one : (x : ℕ) → o ≡ One x → Writes w w1 (fields ((111 ∷ 110 ∷ 101 ∷ []) ∷ decimal x ∷ [])) → Writes w w1 (fields (origin_fields (origin_of o)))
  unfolding origin_fields ascii
  origin_one x e f = rw e f

  pub origin_violation : (x : ℕ) → o ≡ Violation x → Writes w w1 (fields ((118 ∷ 105 ∷ 111 ∷ 108 ∷ 97 ∷ 116 ∷ 105 ∷ 111 ∷ 110 ∷ []) ∷ decimal x ∷ []))
      → Writes w w1 (fields (origin_fields (origin_of o)))
  unfolding origin_fields ascii
  origin_violation x e f = rw e f

  pub origin_gate : (goal : Requirement) → o ≡ Gate goal → Writes w w1 (fields (ascii "gate" ∷ goal_fields (goal_of goal))) → Writes w w1 (fields (origin_fields (origin_of o)))
  unfolding origin_fields
  origin_gate goal e f = rw e f
