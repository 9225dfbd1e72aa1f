use Rattle.kept.proofs.Vacancies.{vacant_nothing}
use Rattle.part_items.proofs.add_part.Goals as goal

pub add_part_knowing-requires : goal.add_part_knowing-requires
add_part_knowing-requires c = vacant_nothing 64 _
