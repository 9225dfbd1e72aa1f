-- What is named makes nothing that is counted less.
use mathlib.Core.Bool.{Bool, true, false}
use mathlib.Core.List.{List, [], ◌∷◌}
use Prim.Native.Nat.{ℕ}
use lib.ListN.{replicate}
use Rattle.rules.specs.Lists.{fold, unless}
use Rattle.rules.specs.Catalogue.{Catalogue, range_name}
use Rattle.rules.specs.Candidates.{matching, sorted, non_matching}
use Rattle.rules.specs.Conditions.{disjunct_at}
use Rattle.rules.specs.Variables.{one, part_origin}
use Rattle.rules.specs.Opening.{name_for_tracking}
use Rattle.rules.specs.State.{State}
use Rattle.rules.proofs.Capped.{add_variable}
use Rattle.encoder.specs.Did.{on_opening, Widens}
use Rattle.encoder.proofs.Did.{widens_same, widens_then, widens_fold}
use Rattle.encoder.proofs.Widening.{add_variable_widens, name_for_tracking_widens, open_ready_widens}
use Rattle.parts.specs.declared.Naming.{Naming}
use Rattle.parts.specs.declared.Naming.TheVariants.{Variable, Tracked, Candidate}
use Rattle.parts.specs.Parts.{naming_of}
use Rattle.naming.specs.Naming.{name_first, is_seen, first_unless, seen_after, name_firsts, name_candidates, name_parts, name_range, name_disjuncts}

module _ (c : Catalogue) where
  tracked_widens : (p : ℕ) (s : State) → Widens s (on_opening (name_for_tracking c p) (add_variable (part_origin p) s))
  tracked_widens p s = widens_then (add_variable_widens (part_origin p) s) (name_for_tracking_widens c p (add_variable (part_origin p) s))

  naming_widens : (w : Naming) (p : ℕ) (s : State) → Widens s (naming_of c w p s)
  unfolding naming_of
  naming_widens Variable p s = add_variable_widens (part_origin p) s
  naming_widens Tracked p s = tracked_widens p s
  naming_widens Candidate p s = widens_then (tracked_widens p s) (open_ready_widens c p (on_opening (name_for_tracking c p) (add_variable (part_origin p) s)))

  candidates_widen : (rs : List ℕ) (s : State) → Widens s (fold (λ x. fold (naming_of c Candidate) (sorted c x)) rs s)
  candidates_widen rs s = widens_fold _ (λ x. widens_fold (naming_of c Candidate) (naming_widens Candidate) (sorted c x)) rs s

  first_widens : (ps : List ℕ) (s : State) → Widens s (on_opening (name_first c ps) s)
  first_widens [] s = unfold on_opening name_first in widens_same
  first_widens (p ∷ ps) s = unfold name_first in name_for_tracking_widens c p s

  unless_widens : (seen : List Bool) (r : ℕ) (s : State) → Widens s (on_opening (first_unless c seen r) s)
  unfolding first_unless
  unless_widens seen r s = go (is_seen seen (range_name c r))
    where
      go : (b : Bool) → Widens s (on_opening (unless b (name_first c (matching c r))) s)
      go true = unfold on_opening unless in widens_same
      go false = unfold on_opening unless in first_widens (matching c r) s

  firsts_widen : (rs : List ℕ) (seen : List Bool) (s : State) → Widens s (on_opening (name_firsts c rs seen) s)
  unfolding on_opening name_firsts
  firsts_widen [] seen s = widens_same
  firsts_widen (r ∷ rs) seen s = widens_then (unless_widens seen r s) (firsts_widen rs (seen_after c r seen) (on_opening (first_unless c seen r) s))

  pub named_widens : (settled : Bool) (rs : List ℕ) (s : State) → Widens s (name_candidates c settled rs s)
  unfolding name_candidates
  named_widens false rs s = candidates_widen rs s
  named_widens true rs s = firsts_widen rs (replicate 64 false) s

  parts_widen : (n : ℕ) (ps : List ℕ) (s : State) → Widens s (name_parts c n ps s)
  unfolding name_parts
  parts_widen n [] s = add_variable_widens (one n) s
  parts_widen n (p ∷ ps) s = widens_fold (naming_of c Tracked) (naming_widens Tracked) (p ∷ ps) s

  range_widens : (x : ℕ) (s : State) → Widens s (name_range c x s)
  unfolding name_range
  range_widens x s = parts_widen (range_name c x) (non_matching c x) s

  disjunct_widens : (d : List ℕ) (s : State) → Widens s (fold (name_range c) d s)
  disjunct_widens d s = widens_fold (name_range c) range_widens d s

  pub disjuncts_widen : (q : ℕ) (is : List ℕ) (s : State) → Widens s (name_disjuncts c q is s)
  unfolding name_disjuncts
  disjuncts_widen q is s = widens_fold _ (λ i. disjunct_widens (disjunct_at c q i)) is s
