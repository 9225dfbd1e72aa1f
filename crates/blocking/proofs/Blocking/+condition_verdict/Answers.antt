use mathlib.Core.Path.{refl, sym}
use denote.Enum.Bare.{same_false}
use Rattle.index.proofs.Given.{catalogued}
use Rattle.blocking.specs.contracts.Verdict.{the_type}
use Rattle.blocking.proofs.Asking.{leaf_range, leaf_judged, and_left, and_both, or_both}
use Rattle.blocking.proofs.Blocking.+condition_verdict.Goals as goal

pub range_verdict-requires : goal.range_verdict-requires
range_verdict-requires t c = record { sees = c.requires.sees; r_lt_ranges = leaf_range _ _ _ _ (catalogued c.args.catalogue.now) c.requires.x_lt_conditions c.in-Range.ensures }

pub returns-in-Range : goal.returns-in-Range
returns-in-Range t c = leaf_judged _ _ _ _ (catalogued c.args.catalogue.now) c.requires.x_lt_conditions c.in-Range.ensures c.range_verdict.ensures

pub returns-then-ne-2 : goal.returns-then-ne-2
returns-then-ne-2 t c =
    and_left _ _ _ _ (catalogued c.args.catalogue.now) c.requires.x_lt_conditions c.in-And.ensures c.condition_verdict-first.ensures c.keep.ensures.verdict c.keep.ensures.kept refl

pub returns-else-ne-2 : goal.returns-else-ne-2
returns-else-ne-2 t c =
    and_both _ _ _ _ (catalogued c.args.catalogue.now) c.requires.x_lt_conditions c.in-And.ensures c.condition_verdict-first.ensures c.condition_verdict-second.ensures c.keep-in-And.ensures.verdict
    c.keep-in-And.ensures.kept refl

pub returns-else-eq : goal.returns-else-eq
returns-else-eq t c =
    or_both _ _ _ _ (catalogued c.args.catalogue.now) c.requires.x_lt_conditions c.in-Or.ensures c.condition_verdict-first-in-Or.ensures c.condition_verdict-second-in-Or.ensures c.keep-in-Or.ensures.verdict
    c.keep-in-Or.ensures.kept c.or.ensures refl (same_false the_type _ _ (sym c.if-eq.ensures))
