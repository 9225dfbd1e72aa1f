-- The areas hold a catalogue in which every number names something given, with its chains: what all that reads a catalogue may rely on.
use Rattle.std.specs.Prelude.{List, ℕ}
use Rattle.rules.proofs.WellFormed.{WellFormed}
use Rattle.tables.specs.declared.Counts.{Counts}
use Rattle.cache.specs.Areas.{catalogue}
use Rattle.index.specs.Indexed.{Indexed}

pub record Catalogued (k : Counts) (m u t : List ℕ) : Type 0 where
  pub kept : Indexed k m u t
  pub formed : WellFormed (catalogue k m u t)
