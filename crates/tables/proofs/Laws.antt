-- The functions of the tables against the definitions: a law for each way out of each.
use mathlib.Core.Path.{◌≡◌, refl, ap, sym, ◌∙◌}
use mathlib.Core.Bool.{Bool, false}
use mathlib.Core.List.{List, [], ◌∷◌}
use Prim.Native.Nat.{ℕ, zero, suc, ◌+◌, ◌*◌, ◌/◌, ◌%◌, ◌^◌, ◌<◌, ◌≤◌}
use native.Mathlib.Omega.{arith}
use native.Mathlib.Nat.{add-zero, div-one, div-div-eq-div-mul}
use borrow.Author.Rules.{rules}
use borrow.Author.Tests.{ne_eqb}
use Rattle.std.specs.Prelude as code
use Rattle.std.specs.Prelude.{None}
use lib.Dec.{eqb}
use lib.ListN.{length, get_or, set}
use Rattle.rules.specs.AtMostOne.{bit}
use Rattle.rules.specs.Catalogue.{no_part, no_condition, no_requirement, no_constraint}
use Rattle.rules.specs.Catalogue.{Condition}
use Rattle.rules.specs.Items.{part_of, operator_of, goal_of}
use Rattle.words.specs.Words.{words, length_words}
use Rattle.requirement.specs.declared.Owner.{Owner}
use Rattle.requirement.specs.declared.Owner.TheVariants.{Root}
use Rattle.requirement.specs.declared.Requirement.{Requirement}
use Rattle.requirement.specs.declared.Requirement.TheVariants.{Single}
use Rattle.requirement.specs.declared.ConditionalRequirement.{ConditionalRequirement}
use Rattle.requirement.specs.Requirements.{form_of, number_of, owner_number, condition_number, requirement_is, OwnerOf, ConditionOf}
use Rattle.requirement.specs.Requirements as goals
use Rattle.requirement.proofs.Laws.{goal_from_parts}
use Rattle.tables.specs.declared.Counts.{Counts}
use Rattle.tables.specs.declared.Condition as C
use Rattle.tables.specs.declared.Condition.TheVariants.{Range, And, Or}
use Rattle.tables.specs.declared.Constraint as K
use Rattle.tables.specs.declared.Flag.{Flag}
use Rattle.tables.specs.declared.Flag.TheVariants.{Ready, Unknown, Locked, Favoured, Excluded}
use Rattle.tables.specs.declared.Reason.{Reason}
use Rattle.tables.specs.declared.Reason.TheVariants as why
use Rattle.tables.specs.declared.Size as S
use Rattle.tables.specs.Tables.{Tables, Size, no_size, field, name_row, part_row, range_row, condition_row, size_row, requirement_row, constraint_row}
use Rattle.tables.specs.Tables.{condition_by, condition_from, size_from, requirement_from, constraint_from, condition_is, size_is, constraint_is, stored_requirement, stored_constraint, flag_of, reason_of, power_of}
use Rattle.tables.specs.Tables.{tables_in, tables, Laid, Added}
use Rattle.tables.specs.Tables.{with_name, with_part, with_range, with_union, with_condition, with_requirement, with_constraint}
use Rattle.tables.proofs.Listed.{listed_at, listed_past, listed_length}
use Rattle.tables.proofs.Stores.{Stored, first, then, stored_length}
use Rattle.tables.proofs.Rows.{Free, free_kept, stored_begins}
use Rattle.tables.proofs.Rows.{more_names, more_parts, more_ranges, more_unions, more_conditions, more_requirements, more_constraints}
use Rattle.tables.proofs.Rows.{one_name, one_part, one_range, one_union, one_condition, one_requirement, one_constraint}
use Rattle.tables.proofs.Rows.{name_from, part_from, range_from, condition_from_law, size_from_law, requirement_from_law, constraint_from_law}

-- ---- what stands at a number, below a table's count and past it

-- bit j of x, as `has_bit` gives it for 2 ^ j
bit_is : (j x : ℕ) → bit j x ≡ eqb (x / 2 ^ j % 2) 1
unfolding bit
bit_is zero x = rw div-one
bit_is (suc j) x =
    let q : x / 2 / 2 ^ j ≡ x / 2 ^ suc j = div-div-eq-div-mul x 2 (2 ^ j) ∙ ap (λ (n : ℕ). x / n) (omega arith) in
    rw (← q) (bit_is j (x / 2))

-- what `has_bit` gives for a number that was read
pub bit_read : (r : Bool) (x y power : ℕ) → r ≡ eqb (x / power % 2) 1 → x ≡ y → r ≡ eqb (y / power % 2) 1
bit_read r x y power e h = rw (← h) e

module _ (k : Counts) (t : List ℕ) (i : ℕ) where
  abbrev number : ℕ → ℕ
  number at = get_or (words t) at 0

  pub name_in : i < k.names → get_or (tables k t).names i false ≡ eqb (number (6 * i) / 1 % 2) 1
  unfolding tables tables_in name_row field
  name_in h =
      let q : 0 + 6 * i + 0 ≡ 6 * i = omega arith in
      listed_at k.names (name_row (words t)) i false h ∙ rw (q, bit_is 0 (number (6 * i)))

  pub name_past : k.names ≤ i → get_or (tables k t).names i false ≡ false
  unfolding tables tables_in
  name_past h = listed_past k.names (name_row (words t)) i false h

  pub part_in : i < k.parts
      → get_or (tables k t).parts i no_part
      ≡ record {
        name = number (384 + 5 * i);
        ready = eqb (number (384 + 5 * i + 1) / 1 % 2) 1;
        unknown = eqb (number (384 + 5 * i + 1) / 2 % 2) 1;
        locked = eqb (number (384 + 5 * i + 1) / 4 % 2) 1;
        favoured = eqb (number (384 + 5 * i + 1) / 8 % 2) 1;
        excluded = eqb (number (384 + 5 * i + 1) / 16 % 2) 1;
        unknown_reason = number (384 + 5 * i + 2);
        exclusion_reason = number (384 + 5 * i + 3);
      }
  unfolding tables tables_in part_row part_of field
  part_in h =
      let flags = number (384 + 5 * i + 1) in
      listed_at k.parts (part_row (words t)) i no_part h
      ∙ rw (add-zero (384 + 5 * i), bit_is 0 flags, bit_is 1 flags, bit_is 2 flags, bit_is 3 flags, bit_is 4 flags)

  pub part_past : k.parts ≤ i → get_or (tables k t).parts i no_part ≡ no_part
  unfolding tables tables_in
  part_past h = listed_past k.parts (part_row (words t)) i no_part h

  pub flag_in : (f : Flag) (r : Bool) (x y : ℕ) → i < k.parts → x ≡ number (384 + 5 * i + 1) → y ≡ power_of f → r ≡ eqb (x / y % 2) 1
      → r ≡ flag_of f (get_or (tables k t).parts i no_part)
  flag_in Ready r x y h e d q = rw (part_in h, ← e) (rw d at q)
  flag_in Unknown r x y h e d q = rw (part_in h, ← e) (rw d at q)
  flag_in Locked r x y h e d q = rw (part_in h, ← e) (rw d at q)
  flag_in Favoured r x y h e d q = rw (part_in h, ← e) (rw d at q)
  flag_in Excluded r x y h e d q = rw (part_in h, ← e) (rw d at q)

  pub flag_past : (f : Flag) → k.parts ≤ i → false ≡ flag_of f (get_or (tables k t).parts i no_part)
  flag_past Ready h = rw (part_past h)
  flag_past Unknown h = rw (part_past h)
  flag_past Locked h = rw (part_past h)
  flag_past Favoured h = rw (part_past h)
  flag_past Excluded h = rw (part_past h)

  pub unknown_reason_in : (w : Reason) (x : ℕ) → i < k.parts → w ≡ why.Unknown → x ≡ number (384 + 5 * i + 2) → x ≡ reason_of w (get_or (tables k t).parts i no_part)
  unknown_reason_in w x h d e = rw (d, part_in h) e

  pub exclusion_reason_in : (w : Reason) (x : ℕ) → i < k.parts → w ≡ why.Exclusion → x ≡ number (384 + 5 * i + 3) → x ≡ reason_of w (get_or (tables k t).parts i no_part)
  exclusion_reason_in w x h d e = rw (d, part_in h) e

  pub reason_past : (w : Reason) → k.parts ≤ i → 0 ≡ reason_of w (get_or (tables k t).parts i no_part)
  reason_past why.Unknown h = rw (part_past h)
  reason_past why.Exclusion h = rw (part_past h)

  pub range_in : i < k.ranges → get_or (tables k t).ranges i 0 ≡ number (9604 + 4 * i)
  unfolding tables tables_in range_row field
  range_in h = listed_at k.ranges (range_row (words t)) i 0 h ∙ rw (add-zero (9604 + 4 * i))

  pub range_past : k.ranges ≤ i → get_or (tables k t).ranges i 0 ≡ 0
  unfolding tables tables_in
  range_past h = listed_past k.ranges (range_row (words t)) i 0 h

  pub condition_in : (x : C.Condition) (o l r : ℕ) → i < k.conditions
      → o ≡ number (12036 + 6 * i) → l ≡ number (12036 + 6 * i + 1) → r ≡ number (12036 + 6 * i + 2)
      → condition_is x ≡ condition_from o l r → condition_is x ≡ get_or (tables k t).conditions i no_condition
  unfolding tables tables_in condition_row field
  condition_in x o l r h e₀ e₁ e₂ e =
      e ∙ rw (listed_at k.conditions (condition_row (words t)) i no_condition h, add-zero (12036 + 6 * i), e₀, e₁, e₂)

  pub condition_past : k.conditions ≤ i → condition_is (Range 0) ≡ get_or (tables k t).conditions i no_condition
  unfolding tables tables_in
  condition_past h = sym (listed_past k.conditions (condition_row (words t)) i no_condition h)

  pub size_in : (n l : ℕ) → i < k.conditions → n ≡ number (12036 + 6 * i + 3) → l ≡ number (12036 + 6 * i + 4)
      → size_is (record { count = n; longest = l }) ≡ get_or (tables k t).sizes i no_size
  unfolding tables tables_in size_is size_row field
  size_in n l h e₀ e₁ = rw (listed_at k.conditions (size_row (words t)) i no_size h, e₀, e₁)

  pub size_past : k.conditions ≤ i → size_is (record { count = 0; longest = 0 }) ≡ get_or (tables k t).sizes i no_size
  unfolding tables tables_in size_is size_from
  size_past h = sym (listed_past k.conditions (size_row (words t)) i no_size h)

  pub requirement_in : (o : Owner) (a : ℕ) (f n : ℕ) (g : Requirement) (c : code.Option ℕ) (d : ℕ) → i < k.requirements
      → OwnerOf a o → a ≡ number (13572 + 6 * i) → f ≡ number (13572 + 6 * i + 1) → n ≡ number (13572 + 6 * i + 2)
      → ConditionOf d c → d ≡ number (13572 + 6 * i + 3) → goals.goal_of g ≡ goal_of f n
      → requirement_is (record { owner = o; requirement = g; condition = c }) ≡ get_or (tables k t).requirements i no_requirement
  unfolding tables tables_in requirement_is requirement_row requirement_from field
  requirement_in o a f n g c d h p e₀ e₁ e₂ q e₃ e =
      rw (listed_at k.requirements (requirement_row (words t)) i no_requirement h, add-zero (13572 + 6 * i), e, p.is, q.is, e₀, e₁, e₂, e₃)

  pub requirement_past : k.requirements ≤ i
      → requirement_is (record { owner = Root; requirement = Single 0; condition = None }) ≡ get_or (tables k t).requirements i no_requirement
  unfolding tables tables_in requirement_is goals.goal_of
  requirement_past h = sym (listed_past k.requirements (requirement_row (words t)) i no_requirement h)

  pub constraint_in : (o : Owner) (a r : ℕ) → i < k.constraints
      → OwnerOf a o → a ≡ number (19716 + 3 * i) → r ≡ number (19716 + 3 * i + 1)
      → constraint_is (record { owner = o; range = r }) ≡ get_or (tables k t).constraints i no_constraint
  unfolding tables tables_in constraint_is constraint_row constraint_from field
  constraint_in o a r h p e₀ e₁ =
      rw (listed_at k.constraints (constraint_row (words t)) i no_constraint h, add-zero (19716 + 3 * i), p.is, e₀, e₁)

  pub constraint_past : k.constraints ≤ i → constraint_is (record { owner = Root; range = 0 }) ≡ get_or (tables k t).constraints i no_constraint
  unfolding tables tables_in constraint_is
  constraint_past h = sym (listed_past k.constraints (constraint_row (words t)) i no_constraint h)

-- ---- a condition by its numbers

module _ (o l r : ℕ) where
  pub range_by : o ≡ 2 → condition_is (Range l) ≡ condition_from o l r
  unfolding condition_from condition_by
  range_by e = rw e

  pub and_by : o ≡ 0 → condition_is (And l r) ≡ condition_from o l r
  unfolding condition_from condition_by operator_of
  and_by e = rw e

  pub or_by : (o ≡ 0 → ⊥) → (o ≡ 2 → ⊥) → condition_is (Or l r) ≡ condition_from o l r
  unfolding condition_from condition_by operator_of
  or_by z w = rw (ne_eqb o 2 w, condition_by, ne_eqb o 0 z)

-- ---- one thing more

fits_stored : (t t' : List ℕ) {at : ℕ} {xs : List ℕ} → Stored (words t) at xs (words t') → 50696 ≤ length t → 50696 ≤ length t'
fits_stored t t' s h = omega (arith, length_words t, length_words t', stored_length s)

laid_stored : (r : Counts) (t t' : List ℕ) {at : ℕ} {xs : List ℕ} → Stored (words t) at xs (words t') → Laid r (length t) → Laid r (length t')
laid_stored r t t' s l =
    let fits : 50696 ≤ length t' = fits_stored t t' s l.fits in
    search rules

added : {A : Type 0} (with : Tables → A → Tables) (k r : Counts) (t t' : List ℕ) {at : ℕ} {xs : List ℕ} {y x : A}
    → Stored (words t) at xs (words t') → Laid r (length t) → Free k at (at + length xs) → r.members ≡ k.members
    → tables_in r (words t') ≡ with (tables_in k (words t')) y → y ≡ x → Added k r t' (with (tables k t) x)
unfolding tables
added with k r t t' s l f m g e = record { laid = laid_stored r t t' s l; members = m; is = g ∙ rw (free_kept k s f, e) }

pub name_added : (k : Counts) (t t₁ : List ℕ) (f : ℕ) → Laid k (length t) → k.names < 64
    → words t₁ ≡ set (words t) (6 * k.names) f
    → Added k (more_names k) t₁ (with_name (tables k t) (bit 0 f))
name_added k t t₁ f l h e₁ =
    let s : Stored (words t) (6 * k.names) (f ∷ []) (words t₁) = first f e₁ in
    added with_name k (more_names k) t t₁ s (search rules) (search rules) refl (one_name k (words t₁))
    (name_from (stored_begins 0 6 k.names s (omega arith) (omega (arith, length_words t))))

pub part_added : (k : Counts) (t t₁ t₂ t₃ t₄ : List ℕ) (n f u e : ℕ) → Laid k (length t) → k.parts < 1024
    → words t₁ ≡ set (words t) (384 + 5 * k.parts) n
    → words t₂ ≡ set (words t₁) (384 + 5 * k.parts + 1) f
    → words t₃ ≡ set (words t₂) (384 + 5 * k.parts + 2) u
    → words t₄ ≡ set (words t₃) (384 + 5 * k.parts + 3) e
    → Added k (more_parts k) t₄ (with_part (tables k t) (part_of n f u e))
part_added k t t₁ t₂ t₃ t₄ n f u e l h e₁ e₂ e₃ e₄ =
    let s : Stored (words t) (384 + 5 * k.parts) (n ∷ f ∷ u ∷ e ∷ []) (words t₄) = then (then (then (first n e₁) f e₂) u e₃) e e₄ in
    added with_part k (more_parts k) t t₄ s (search rules) (search rules) refl (one_part k (words t₄))
    (part_from (stored_begins 384 5 k.parts s refl (omega (arith, length_words t))))

pub range_added : (k : Counts) (t t₁ : List ℕ) (n : ℕ) → Laid k (length t) → k.ranges < 512
    → words t₁ ≡ set (words t) (9604 + 4 * k.ranges) n
    → Added k (more_ranges k) t₁ (with_range (tables k t) n)
range_added k t t₁ n l h e₁ =
    let s : Stored (words t) (9604 + 4 * k.ranges) (n ∷ []) (words t₁) = first n e₁ in
    added with_range k (more_ranges k) t t₁ s (search rules) (search rules) refl (one_range k (words t₁))
    (range_from (stored_begins 9604 4 k.ranges s refl (omega (arith, length_words t))))

pub union_added : (k : Counts) (t : List ℕ) → Laid k (length t) → k.unions < 128 → Added k (more_unions k) t (with_union (tables k t))
unfolding tables
union_added k t l h = record { laid = search rules; members = refl; is = one_union k (words t) }

abbrev with_both : Tables → Condition × Size → Tables
with_both t x = with_condition t x.0 x.1

pub condition_added : (k : Counts) (t t₁ t₂ t₃ t₄ t₅ : List ℕ) (c : C.Condition) (o l r : ℕ) (z : S.Size) → Laid k (length t) → k.conditions < 256
    → condition_from o l r ≡ condition_is c
    → words t₁ ≡ set (words t) (12036 + 6 * k.conditions) o
    → words t₂ ≡ set (words t₁) (12036 + 6 * k.conditions + 1) l
    → words t₃ ≡ set (words t₂) (12036 + 6 * k.conditions + 2) r
    → words t₄ ≡ set (words t₃) (12036 + 6 * k.conditions + 3) z.count
    → words t₅ ≡ set (words t₄) (12036 + 6 * k.conditions + 4) z.longest
    → Added k (more_conditions k) t₅ (with_condition (tables k t) (condition_is c) (size_is z))
unfolding size_is
condition_added k t t₁ t₂ t₃ t₄ t₅ c o l r z h g e e₁ e₂ e₃ e₄ e₅ =
    let s : Stored (words t) (12036 + 6 * k.conditions) (o ∷ l ∷ r ∷ z.count ∷ z.longest ∷ []) (words t₅) =
    then (then (then (then (first _ e₁) _ e₂) _ e₃) _ e₄) _ e₅ in
    let b = stored_begins 12036 6 k.conditions s refl (omega (arith, length_words t)) in
    added with_both k (more_conditions k) t t₅ s (search rules) (search rules) refl (one_condition k (words t₅)) (rw (condition_from_law b, size_from_law b, e))

pub requirement_added : (k : Counts) (t t₁ t₂ t₃ t₄ : List ℕ) (q : ConditionalRequirement) (o f n c : ℕ) → Laid k (length t) → k.requirements < 1024
    → o ≡ owner_number q.owner → f ≡ form_of (goals.goal_of q.requirement) → n ≡ number_of (goals.goal_of q.requirement) → c ≡ condition_number q.condition
    → words t₁ ≡ set (words t) (13572 + 6 * k.requirements) o
    → words t₂ ≡ set (words t₁) (13572 + 6 * k.requirements + 1) f
    → words t₃ ≡ set (words t₂) (13572 + 6 * k.requirements + 2) n
    → words t₄ ≡ set (words t₃) (13572 + 6 * k.requirements + 3) c
    → Added k (more_requirements k) t₄ (with_requirement (tables k t) (stored_requirement q))
unfolding stored_requirement
requirement_added k t t₁ t₂ t₃ t₄ q o f n c l h d e e' d' e₁ e₂ e₃ e₄ =
    let s : Stored (words t) (13572 + 6 * k.requirements) (o ∷ f ∷ n ∷ c ∷ []) (words t₄) =
    then (then (then (first _ e₁) _ e₂) _ e₃) _ e₄ in
    added with_requirement k (more_requirements k) t t₄ s (search rules) (search rules) refl (one_requirement k (words t₄))
    (requirement_from_law (stored_begins 13572 6 k.requirements s refl (omega (arith, length_words t))) ∙ rw (d, e, e', d'))

pub constraint_added : (k : Counts) (t t₁ t₂ : List ℕ) (c : K.Constraint) (o : ℕ) → Laid k (length t) → k.constraints < 512
    → o ≡ owner_number c.owner
    → words t₁ ≡ set (words t) (19716 + 3 * k.constraints) o
    → words t₂ ≡ set (words t₁) (19716 + 3 * k.constraints + 1) c.range
    → Added k (more_constraints k) t₂ (with_constraint (tables k t) (stored_constraint c))
unfolding stored_constraint
constraint_added k t t₁ t₂ c o l h e e₁ e₂ =
    let s : Stored (words t) (19716 + 3 * k.constraints) (o ∷ c.range ∷ []) (words t₂) = then (first _ e₁) _ e₂ in
    added with_constraint k (more_constraints k) t t₂ s (search rules) (search rules) refl (one_constraint k (words t₂))
    (constraint_from_law (stored_begins 19716 3 k.constraints s refl (omega (arith, length_words t))) ∙ rw e)

-- a requirement and a constraint whose numbers are their owner's and condition's are stored as they are
pub requirement_stored : (q : ConditionalRequirement) (n c : ℕ) → OwnerOf n q.owner → ConditionOf c q.condition → stored_requirement q ≡ requirement_is q
unfolding stored_requirement requirement_from requirement_is
requirement_stored q n c p r = rw (p.number, r.number, goal_from_parts (goals.goal_of q.requirement), p.is, r.is)

pub constraint_stored : (c : K.Constraint) (n : ℕ) → OwnerOf n c.owner → stored_constraint c ≡ constraint_is c
unfolding stored_constraint constraint_from constraint_is
constraint_stored c n p = rw (p.number, p.is)

-- ---- for callers: a test on a count is one on a table, and a number that no row in use has may be stored

module _ (k : Counts) (t : List ℕ) where
  pub names_counted : length (tables k t).names ≡ k.names
  unfolding tables tables_in
  names_counted = listed_length k.names (name_row (words t))

  pub parts_counted : length (tables k t).parts ≡ k.parts
  unfolding tables tables_in
  parts_counted = listed_length k.parts (part_row (words t))

  pub ranges_counted : length (tables k t).ranges ≡ k.ranges
  unfolding tables tables_in
  ranges_counted = listed_length k.ranges (range_row (words t))

  pub unions_counted : (tables k t).unions ≡ k.unions
  unfolding tables tables_in
  unions_counted = refl

  pub conditions_counted : length (tables k t).conditions ≡ k.conditions
  unfolding tables tables_in
  conditions_counted = listed_length k.conditions (condition_row (words t))

  pub sizes_counted : length (tables k t).sizes ≡ k.conditions
  unfolding tables tables_in
  sizes_counted = listed_length k.conditions (size_row (words t))

  pub requirements_counted : length (tables k t).requirements ≡ k.requirements
  unfolding tables tables_in
  requirements_counted = listed_length k.requirements (requirement_row (words t))

  pub constraints_counted : length (tables k t).constraints ≡ k.constraints
  unfolding tables tables_in
  constraints_counted = listed_length k.constraints (constraint_row (words t))
