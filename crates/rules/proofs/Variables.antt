-- In every reached state the root is variable 0, and no origin has two variables.
use mathlib.Core.Path.{◌≡◌, refl}
use mathlib.Core.List.{[]}
use Prim.Native.Nat.{ℕ, ◌<◌}
use lib.ListN.{length, get_or}
use Rattle.rules.specs.Catalogue.{root, Catalogue}
use Rattle.rules.specs.Variables.{Origin, chosen, variable_of}
use Rattle.rules.specs.Encoding.{origins}
use Rattle.rules.specs.State.{State, Run}
use Rattle.rules.specs.Run.{begun}
use Rattle.rules.specs.Records.{Command}
use Rattle.rules.specs.Limits.{Limits}
use Rattle.rules.specs.Sheet.{decide, carried_out}
use Rattle.rules.proofs.Each.{Each, Pairwise, when_cases}
use Rattle.rules.proofs.Places.{Distinct, with_variables_distinct, root_at, root_only, distinct_at, variable_at_law}
use Rattle.rules.proofs.Reached.{Reached, command}
use Rattle.rules.proofs.RunLaws.{Within, every_run}

pub within_distinct : {c : Catalogue} {r : Run} {s₀ s : State} → Distinct s₀.variables → Within c r s₀ s → Distinct s.variables
within_distinct d Within.begins = d
within_distinct d (Within.opens w o) = within_distinct d w
within_distinct {c} d (Within.stores w e n) = with_variables_distinct (origins c e) (within_distinct d w)
within_distinct d (Within.reports w i l) = within_distinct d w
within_distinct d (Within.sets w t n) = within_distinct d w

decide_distinct : (x value level : ℕ) (s : State) → Distinct s.variables → Distinct (decide x value level s).variables
unfolding decide
decide_distinct x value level s d = when_cases (λ (t : State). Distinct t.variables) _ _ s d (λ e. d)

pub distinct : {l : Limits} {c : Catalogue} {s : State} → Reached l c s → Distinct s.variables
unfolding carried_out begun
distinct Reached.begun = record { rest = []; root_first = refl; once = Pairwise.cons Each.nil Pairwise.nil }
distinct (command r (Command.add o) p) = distinct r
distinct (command r (Command.draw k) p) = distinct r
distinct (command r (Command.run level) p) = within_distinct (distinct r) (every_run r level).within
distinct (command {s} r (Command.decide x value level) p) = decide_distinct x value level s (distinct r)
distinct (command r (Command.undo level) p) = distinct r

module _ {l : Limits} {c : Catalogue} {s : State} (r : Reached l c s) (d : Origin) where
  pub root_is_zero : get_or s.variables 0 d ≡ chosen root
  root_is_zero = root_at (distinct r) d

  pub only_zero_is_root : (i : ℕ) → i < length s.variables → get_or s.variables i d ≡ chosen root → i ≡ 0
  only_zero_is_root = root_only (distinct r) d

  pub no_origin_twice : (i j : ℕ) → i < length s.variables → j < length s.variables → get_or s.variables i d ≡ get_or s.variables j d → i ≡ j
  no_origin_twice = distinct_at (distinct r) d

  pub stands_at_own : (i : ℕ) → i < length s.variables → variable_of s.variables (get_or s.variables i d) ≡ i
  stands_at_own = variable_at_law (distinct r) d
