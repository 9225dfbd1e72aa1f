-- `print_job`: what is kept of the input is shown as the whole input is.
use Rattle.std.proofs.Common.{◌≡◌, ℕ, List, take, ap, subst, ◌∙◌, None, Some, IfSome, rules}
use Rattle.std.specs.declared.option.Option.{Option}
use Rattle.std.specs.Io.KnownBytes.{Appends}
use Rattle.rules.specs.Job.{kitlist}
use Rattle.shown.proofs.Laws.{kitlist_cut}
use Rattle.kitlist.proofs.print_job.Goals as goal

printed : (known a b : Option (List ℕ)) (kept out : List ℕ) (room : ℕ) → room ≡ 65537 → IfSome known (λ input. kept ≡ take room input) → out ≡ kitlist kept
    → Appends a b out → IfSome known (λ input. Appends a b (kitlist input))
printed None a b kept out room long e f h = tt
printed (Some input) a b kept out room long e f h =
    subst (Appends a b) (f ∙ ap kitlist (e ∙ ap (λ n. take n input) long) ∙ kitlist_cut input) h

pub returns-in-Ok-write_all : goal.returns-in-Ok-write_all
returns-in-Ok-write_all g c =
    printed _ _ _ _ _ _ (search rules) c.in-Ok.ensures.kept c.shown_in-shown.ensures.is c.in-Ok-write_all.ensures.bytes
