-- 01, Encoding rules, first point: the lists that follow from a catalogue. All keep file order.
use Rattle.std.specs.Prelude.{Bool, not, List, [], ◌∷◌, ◌++◌, ℕ, eqb, length, get_or}
use Rattle.rules.specs.Lists.{filter, concat_map, up_to}
use Rattle.rules.specs.Catalogue.{Owner, Goal, range, union, Catalogue, part_at, range_at, constraint_at, name_of, range_name, owner_at, excluded_part, same_owner}

module _ (c : Catalogue) where
  -- "Candidates of a name are its parts in file order"
  unfoldable pub parts_of : ℕ → List ℕ
  parts_of n = filter (λ p. eqb (name_of c p) n) (up_to 0 (length c.parts))

  abbrev pub member : ℕ → ℕ → Bool
  member r p = (range_at c r).members p

  -- "A range's matching parts are its members, non-matching the rest of its name"
  unfoldable pub matching : ℕ → List ℕ
  matching r = filter (member r) (parts_of (range_name c r))

  unfoldable pub non_matching : ℕ → List ℕ
  non_matching r = filter (λ p. not (member r p)) (parts_of (range_name c r))

  -- "the favoured-part step of src/solver/cache.rs": the favoured part, if there, goes to the front
  unfoldable pub favoured_first : List ℕ → List ℕ
  favoured_first ps = filter (λ p. (part_at c p).favoured) ps ++ filter (λ p. not (part_at c p).favoured) ps

  unfoldable pub sorted : ℕ → List ℕ
  sorted r = favoured_first (matching r)

  unfoldable pub goal_ranges : Goal → List ℕ
  goal_ranges (range r) = r ∷ []
  goal_ranges (union u) = get_or c.unions u []

  -- candidates of a requirement, counted with repeats, in the clause's order
  unfoldable pub candidates : Goal → List ℕ
  candidates g = concat_map sorted (goal_ranges g)

  -- the records of an owner, by number
  unfoldable pub requirements_of : Owner → List ℕ
  requirements_of o = filter (λ q. same_owner o (owner_at c q)) (up_to 0 (length c.requirements))

  unfoldable pub constraints_of : Owner → List ℕ
  constraints_of o = filter (λ k. same_owner o (constraint_at c k).owner) (up_to 0 (length c.constraints))

  -- the locked part of a name (refusal 5: at most one), and the parts that it shuts out
  unfoldable pub locked_part : ℕ → List ℕ
  locked_part n = filter (λ p. (part_at c p).locked) (parts_of n)

  unfoldable pub others : List ℕ → List ℕ → List ℕ
  others [] ps = []
  others (l ∷ ls) ps = filter (λ p. not (eqb p l)) ps

  unfoldable pub locked_out : ℕ → List ℕ
  locked_out n = others (locked_part n) (parts_of n)

  unfoldable pub excluded_parts : ℕ → List ℕ
  excluded_parts n = filter (excluded_part c) (parts_of n)
