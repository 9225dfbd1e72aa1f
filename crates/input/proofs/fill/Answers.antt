-- What was read first, and then what was read behind it.
use Rattle.std.proofs.Common.{take, drop, sym, ap, ◌++◌, ◌∙◌, subst, rules}
use Rattle.std.specs.Io.KnownBytes.{Consumes}
use Rattle.std.proofs.KnownBytes.{Consumes-trans}
use lib.Seq.{take-add}
use Rattle.input.proofs.fill.Goals as goal

pub loop-at-preserved : goal.loop-at-preserved
loop-at-preserved g c =
    let area = c.read_behind.new.area in
    let more = take c.in-Ok.length (drop c.loop-at.at area) in
    let joined = take-add c.loop-at.at c.in-Ok.length area ∙ ap (λ l. l ++ more) c.read_behind.ensures.front in
    (search rules, search rules, subst (Consumes _ _) (sym joined) (Consumes-trans _ _ _ _ _ c.loop-at.invariant.2 c.in-Ok.ensures.bytes))
