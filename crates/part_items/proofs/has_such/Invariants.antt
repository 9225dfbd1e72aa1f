use Rattle.tables.specs.Views.{tables_of}
use Rattle.part_items.proofs.Search.{Unseen}
use Rattle.part_items.proofs.has_such.Given as goal

abbrev pub invariant-loop-part : goal.invariant-loop-part
invariant-loop-part l = Unseen (tables_of l.tables).parts l.flag l.name l.part
