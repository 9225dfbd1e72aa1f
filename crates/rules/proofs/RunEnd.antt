-- A run's end keeps the stored clauses exact: the joining parts, and the new one-of-name variables.
use mathlib.Core.Path.{◌≡◌, sym, ◌∙◌, ap}
use mathlib.Core.Bool.{true}
use mathlib.Core.List.{List, ◌++◌}
use Prim.Native.Nat.{ℕ, ◌≤◌}
use lib.ListN.{length, drop}
use Rattle.rules.specs.Clause.{Clause}
use Rattle.rules.specs.Catalogue.{Catalogue, root}
use Rattle.rules.specs.Variables.{Origin, chosen, one, known, variable_of}
use Rattle.rules.specs.Opening.{Task, Opening, joining, end_run}
use Rattle.rules.specs.State.{State, Run, emit_all}
use Rattle.rules.specs.Run.{links_for, join_all, link_all}
use Rattle.rules.specs.Called.{◌∈◌}
use Rattle.rules.proofs.Places.{stands}
use Rattle.rules.proofs.MemberLaws.{behind, of_drop}
use Rattle.rules.proofs.EmitLaws.{emit_all_variables, emit_all_clauses, settled}
use Rattle.rules.proofs.Encoded.{Encoded}
use Rattle.rules.proofs.Joined.{joins_encoded}
use Rattle.rules.proofs.Links.{links_known, links_encoded}
use Rattle.rules.proofs.Line.{emit_all_opening}

-- ---- the end

same_tracked : {c : Catalogue} {log : List Task} {before : ℕ} {ps qs : List ℕ} {vs : List Origin} {ks : List Clause} → ps ≡ qs
    → Encoded c log before ps vs ks → Encoded c log before qs vs ks
same_tracked q e = rw q at e

module _ (c : Catalogue) (r : Run) (s : State) where
  join_all_opening : (join_all c r s).opening ≡ end_run c s.opening
  unfolding join_all
  join_all_opening = emit_all_opening c r _ _

  pub join_all_tracked : (join_all c r s).opening.tracked ≡ s.opening.tracked ++ joining c s.opening
  unfolding end_run
  join_all_tracked = ap (λ (o : Opening). o.tracked) join_all_opening

  pub join_all_encoded : {log : List Task} → Encoded c log r.before s.opening.tracked s.variables s.clauses
      → Encoded c log r.before (s.opening.tracked ++ joining c s.opening) (join_all c r s).variables (join_all c r s).clauses
  unfolding join_all
  join_all_encoded e = rw (emit_all_variables c r _ _, emit_all_clauses c r _ _) (joins_encoded c _ r.before (joining c s.opening) s.opening.tracked e)

  linked_encoded : {log : List Task} {tracked : List ℕ} (new : List Origin) → ((n : ℕ) → one n ∈ new → one n ∈ s.variables)
      → ((n : ℕ) → known s.variables (one n) ≡ true → r.before ≤ variable_of s.variables (one n) → one n ∈ new)
      → Encoded c log r.before tracked s.variables s.clauses
      → Encoded c log (length (emit_all c r (links_for c new tracked) s).variables) tracked
      (emit_all c r (links_for c new tracked) s).variables (emit_all c r (links_for c new tracked) s).clauses
  linked_encoded {log} {tracked} new there since e =
      let es = links_for c new tracked in
      let same = settled c r.before s.variables es (links_known c log r.before tracked s.variables new there since e.numbered) in
      rw (emit_all_variables c r es s, same.0, emit_all_clauses c r es s, same.1) (links_encoded c log r.before tracked s.variables new there since e)

  -- a variable from `before` on stands in what the run added
  pub made_since : (n : ℕ) → known s.variables (one n) ≡ true → r.before ≤ variable_of s.variables (one n) → one n ∈ drop r.before s.variables
  made_since n e l =
      let p = stands s.variables (one n) (chosen root) e in
      rw p.1 at (behind s.variables (chosen root) r.before (variable_of s.variables (one n)) l p.0)

  link_all_encoded : {log : List Task} → Encoded c log r.before s.opening.tracked s.variables s.clauses
      → Encoded c log (length (link_all c r s).variables) s.opening.tracked (link_all c r s).variables (link_all c r s).clauses
  unfolding link_all
  link_all_encoded e = linked_encoded _ (λ n. of_drop r.before s.variables) made_since e

pub end_opening_law : (c : Catalogue) (r : Run) (s : State) → (link_all c r (join_all c r s)).opening ≡ end_run c s.opening
unfolding link_all
end_opening_law c r s = emit_all_opening c r _ (join_all c r s) ∙ join_all_opening c r s

pub run_end_law : (c : Catalogue) (r : Run) (s : State) {log : List Task} → Encoded c log r.before s.opening.tracked s.variables s.clauses
    → Encoded c log (length (link_all c r (join_all c r s)).variables) (s.opening.tracked ++ joining c s.opening)
    (link_all c r (join_all c r s)).variables (link_all c r (join_all c r s)).clauses
run_end_law c r s e = same_tracked (join_all_tracked c r s) (link_all_encoded c r (join_all c r s) (same_tracked (sym (join_all_tracked c r s)) (join_all_encoded c r s e)))
