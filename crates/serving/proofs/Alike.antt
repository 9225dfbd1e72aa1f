-- States alike stay so where what was handled and fired is forgotten, where the line is taken, and behind other tasks; they agree in what is decided true and in the line.
use mathlib.Core.Path.{◌≡◌, refl, ap}
use mathlib.Core.List.{List, []}
use Rattle.rules.specs.Catalogue.{Catalogue}
use Rattle.rules.specs.Opening.{Task, Opening, set_line}
use Rattle.rules.specs.State.{State, set_opening, decided_true}
use Rattle.rules.specs.Run.{line_taken}
use Rattle.rules.proofs.Forgotten.{erased, forget}
use Rattle.encoder.specs.Did.{on_opening}
use Rattle.naming.specs.Alike.{AlikeIn}
use Rattle.naming.proofs.Alike.{alike_step, in_opening}
use Rattle.serving.proofs.Behind.{behind, behind_all}

module _ {c : Catalogue} {s s' : State} where
  pub forget_alike : AlikeIn c s s' → AlikeIn c (forget s) (forget s')
  forget_alike a = unfold on_opening in in_opening erased (λ o o'. alike_step erased (λ x u. refl) (λ u. refl)) a

  pub taken_alike : AlikeIn c s s' → AlikeIn c (line_taken s) (line_taken s')
  taken_alike a = unfold on_opening in in_opening (set_line []) (λ o o'. alike_step (set_line []) (λ x u. refl) (λ u. refl)) a

  pub behind_alike : (ts : List Task) → AlikeIn c s s' → AlikeIn c (behind_all ts s) (behind_all ts s')
  behind_alike ts a = unfold on_opening in in_opening (behind ts) (λ o o'. alike_step (behind ts) (λ x u. refl) (λ u. refl)) a

  pub truth_same : AlikeIn c s s' → decided_true s' ≡ decided_true s
  truth_same a = unfold decided_true in ap (λ (u : State). decided_true (set_opening s.opening u)) a.rest

  pub line_same : AlikeIn c s s' → s'.opening.line ≡ s.opening.line
  line_same a = ap (λ (o : Opening). o.line) a.opening.rest
