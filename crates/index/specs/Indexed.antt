-- The areas hold a catalogue whose chains are made: what a run needs of them.
use Rattle.std.specs.Prelude.{List, ℕ, length}
use Rattle.words.specs.Words.{words}
use Rattle.tables.specs.declared.Counts.{Counts}
use Rattle.tables.specs.Tables.{tables}
use Rattle.conditions.specs.Sizes.{Sized}
use Rattle.unions.specs.Unions.{rows}
use Rattle.cache.specs.Areas.{Held}
use Rattle.kept.specs.Kept.{Given}
use Rattle.index.specs.Chains.{Chains}
use Rattle.index.specs.Members.{Threaded}

pub record Indexed (k : Counts) (m u t : List ℕ) : Type 0 where
  pub held : Held k (length m) (length u) (length t)
  pub given : Given k.unions (rows k.members u)
  pub sized : Sized (tables k t)
  pub chains : Chains k m t
  pub members : Threaded k (rows k.members u) 0 (words t) (words u)
