use mathlib.Core.Path.{◌≡◌, ◌∙◌}
use mathlib.Core.List.{[], ◌∷◌}
use Prim.Native.Nat.{◌+◌}
use lib.ListN.{length}
use borrow.Author.Rules.{rules}
use Rattle.rules.specs.Lists.{list_if}
use Rattle.cache.specs.Lists.{chosen}
use Rattle.index.specs.Views.{catalogue_in}
use Rattle.index.proofs.Counting.{count_first, count_one, count_none, count_next, count_full, count_end}
use Rattle.index.proofs.Index.count.Goals as goal
use Rattle.index.proofs.Index.count.Goals.{then-chosen, else-chosen}

pub loop-p-init : goal.loop-p-init
loop-p-init c = search (rules, count_first)

pub returns-then-n-most : goal.returns-then-n-most
returns-then-n-most c =
    let n : c.if-chosen.n ≡ c.loop-p.n + length (list_if (chosen (catalogue_in c.args.self.now) c.args.range c.args.choice c.loop-p.p) (c.loop-p.p ∷ [])) =
    elim c.if-chosen.branch [ then-chosen w ↦ w.n-is ∙ count_one _ _ c.chosen.ensures w.if-chosen.true | else-chosen w ↦ w.n-is ∙ count_none _ _ c.chosen.ensures w.if-chosen.false ] in
    search (rules, count_full)

pub returns : goal.returns
returns c = search (rules, count_end)

pub loop-p-preserved : goal.loop-p-preserved
loop-p-preserved c =
    let n : c.if-chosen.n ≡ c.loop-p.n + length (list_if (chosen (catalogue_in c.args.self.now) c.args.range c.args.choice c.loop-p.p) (c.loop-p.p ∷ [])) =
    elim c.if-chosen.branch [ then-chosen w ↦ w.n-is ∙ count_one _ _ c.chosen.ensures w.if-chosen.true | else-chosen w ↦ w.n-is ∙ count_none _ _ c.chosen.ensures w.if-chosen.false ] in
    search (rules, count_next)
