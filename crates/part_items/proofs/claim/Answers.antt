use Rattle.std.proofs.Common.{rules, sym}
use Rattle.kept.proofs.Vacancies.{vacant_noted}
use Rattle.part_items.proofs.Search.{known_of}
use Rattle.part_items.proofs.Claims.{plain_first}
use Rattle.part_items.proofs.claim.Goals as goal

pub returns-then-not-has_flag-2-clause-claimed : goal.returns-then-not-has_flag-2-clause-claimed
returns-then-not-has_flag-2-clause-claimed c =
    plain_first _ _ _ _ _ _ c.has_flag.ensures c.if-not-has_flag.true c.has_flag-then-not-has_flag.ensures c.if-not-has_flag-2.true c.requires.vacant

pub is_second-requires : goal.is_second-requires
is_second-requires c = known_of _ _ _ _ (search rules) c.requires.vacant

pub is_second-requires-2 : goal.is_second-requires-2
is_second-requires-2 c = known_of _ _ _ _ (search rules) c.requires.vacant

pub returns-clause-claimed : goal.returns-clause-claimed
returns-clause-claimed c = record {
  locked = sym c.if-is_second.ensures;
  favoured = sym c.if-is_second-2.ensures;
  vacant = vacant_noted _ _ _ _ _ c.note.ensures c.requires.vacant;
}
