-- What has variables: after the candidates are named the owner and the candidates, after the fired disjuncts are named all that those name.
use mathlib.Core.Path.{◌≡◌, refl}
use mathlib.Core.Bool.{Bool, true, false, true≢false, false≢true}
use mathlib.Core.List.Memᴰ
use mathlib.Core.List.{List, [], ◌∷◌, map}
use mathlib.Core.Option.{Option, none, some}
use Prim.Native.Nat.{ℕ}
use lib.Dec.{ltb}
use lib.ListN.{length}
use Rattle.rules.specs.Lists.{fold, concat_map, distinct}
use Rattle.rules.specs.Catalogue.{Owner, root, part, Catalogue, owner_at, goal_at, condition_at}
use Rattle.rules.specs.Candidates.{sorted, goal_ranges, candidates}
use Rattle.rules.specs.Conditions.{is_none, disjunct_at, unconditional}
use Rattle.rules.specs.Variables.{Origin, chosen, with_variables, part_origin}
use Rattle.rules.specs.Encoding.{shape_by, shape, shape_of, disjunct_origins}
use Rattle.rules.specs.State.{State, Run}
use Rattle.rules.specs.Called.{◌∈◌}
use Rattle.rules.proofs.Each.{each_in}
use Rattle.rules.proofs.Membership.{map_in, concat_map_in, concat_map_out, distinct_in}
use Rattle.rules.proofs.Grows.{with_variable_prefix}
use Rattle.rules.proofs.Places.{keeps_variable, with_variable_known, with_variables_known}
use Rattle.rules.proofs.Capped.{add_variable}
use Rattle.parts.specs.declared.Naming.TheVariants.{Candidate}
use Rattle.parts.specs.Parts.{naming_of}
use Rattle.naming.specs.Naming.{name_candidates, name_disjuncts}
use Rattle.naming.specs.Settled.{AllSettled}
use Rattle.naming.proofs.Settled.{first_variables}
use Rattle.condition_literals.specs.Literals.{DisjunctKnown, FiredKnown, Named}
use Rattle.handling.specs.Handling.{add_by, add_unconditional, add_all_fired}
use Rattle.handling.proofs.Handled.{candidates_named, disjuncts_named}

-- ---- what is named is known

-- the owner and the candidates of requirement q
candidates_known : (c : Catalogue) (q : ℕ) (s : State)
    → Named c q (fold (λ x. fold (naming_of c Candidate) (sorted c x)) (distinct (goal_ranges c (goal_at c q))) (add_variable (chosen (owner_at c q)) s)).variables
candidates_known c q s = rw (candidates_named c (goal_at c q) (add_variable (chosen (owner_at c q)) s)) named
  where
    os : List Origin
    os = chosen (owner_at c q) ∷ map part_origin (candidates c (goal_at c q))

    both : Named c q (with_variables os s.variables)
    both =
        record {
          owner = with_variables_known os s.variables (chosen (owner_at c q)) (Memᴰ.head refl);
          candidates = each_in (candidates c (goal_at c q)) (λ p m. with_variables_known os s.variables (part_origin p) (Memᴰ.tail (map_in part_origin m)));
        }

    named : Named c q (with_variables (map part_origin (candidates c (goal_at c q))) (add_variable (chosen (owner_at c q)) s).variables)
    named = unfold add_variable with_variables fold in both

-- so they are after either way to name the candidates
pub handled_known : (c : Catalogue) (q : ℕ) (settled : Bool) (s : State) → (settled ≡ true → AllSettled c (distinct (goal_ranges c (goal_at c q))) s)
    → Named c q (name_candidates c settled (distinct (goal_ranges c (goal_at c q))) (add_variable (chosen (owner_at c q)) s)).variables
handled_known c q false s h = unfold name_candidates in candidates_known c q s
handled_known c q true s h =
    let rs = goal_ranges c (goal_at c q) in
    rw (first_variables c (distinct rs) (add_variable (chosen (owner_at c q)) s))
    (unfold add_variable candidates in
    record {
      owner = with_variable_known (chosen (owner_at c q)) s.variables;
      candidates = each_in (concat_map (sorted c) rs)
          (λ p m. let x = concat_map_out (sorted c) rs m in
          (keeps_variable (with_variable_prefix (chosen (owner_at c q)) s.variables) (part_origin p) ((h refl).each x.0 p (distinct_in rs x.0 x.1) x.2).known).0);
    })

abbrev of_disjunct : Catalogue → ℕ → ℕ → List Origin
of_disjunct c q i = disjunct_origins c (disjunct_at c q i)

-- all that the fired disjuncts name
pub fired_known : (c : Catalogue) (q : ℕ) (is : List ℕ) (s : State) → FiredKnown c (name_disjuncts c q is s).variables q is
fired_known c q is s = rw (disjuncts_named c q is s) named
  where
    at : (i : ℕ) → i ∈ is → DisjunctKnown c (with_variables (concat_map (of_disjunct c q) is) s.variables) (disjunct_at c q i)
    at i m =
        record {
          known = each_in (of_disjunct c q i)
              (λ o n. with_variables_known (concat_map (of_disjunct c q) is) s.variables o (concat_map_in (of_disjunct c q) is m n));
        }

    named : FiredKnown c (with_variables (concat_map (of_disjunct c q) is) s.variables) q is
    named = record { known = each_in is at }

-- ---- with a condition or without

module _ (c : Catalogue) (r : Run) (q : ℕ) (is : List ℕ) (s : State) where
  -- without one the indices say nothing
  pub added_unconditional : unconditional c q ≡ true → add_by c r q (shape_of c q) is s ≡ add_unconditional c r q s
  unfolding unconditional add_unconditional
  added_unconditional = go (condition_at c q) (owner_at c q)
    where
      few_or_many : (b : Bool) → add_by c r q (shape_by b) is s ≡ add_by c r q (shape_by b) [] s
      few_or_many true = unfold shape_by add_by in refl
      few_or_many false = unfold shape_by add_by in refl

      go : (k : Option ℕ) (o : Owner) → is_none k ≡ true → add_by c r q (shape k o (length (candidates c (goal_at c q)))) is s
          ≡ add_by c r q (shape k o (length (candidates c (goal_at c q)))) [] s
      go none root e = unfold shape add_by in refl
      go none (part p) e = unfold shape in few_or_many (ltb (length (candidates c (goal_at c q))) 4)
      go (some k) o e = absurd (false≢true e)

  pub added_conditional : unconditional c q ≡ false → add_by c r q (shape_of c q) is s ≡ add_all_fired c r q is (name_disjuncts c q is s)
  unfolding unconditional
  added_conditional = go (condition_at c q)
    where
      go : (k : Option ℕ) → is_none k ≡ false → add_by c r q (shape k (owner_at c q) (length (candidates c (goal_at c q)))) is s ≡ add_all_fired c r q is (name_disjuncts c q is s)
      go none e = absurd (true≢false e)
      go (some k) e = unfold shape add_by in refl
