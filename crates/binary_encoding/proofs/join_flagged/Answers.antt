-- `binary_encoding::join_flagged` lets all named parts join, as `join_all` says: a name that is not flagged has none that joins.
use mathlib.Core.Path.{refl}
use Rattle.encoder.proofs.Does.{long_then}
use Rattle.binary_encoding.proofs.Joined.{names_low, hand_good, hand_can, hand_at, hand_marked, hand_named, joined_all}
use Rattle.binary_encoding.proofs.join_flagged.Goals as goal

pub gather_names-names-requires-clause-names_low : goal.gather_names-names-requires-clause-names_low
gather_names-names-requires-clause-names_low c = names_low _ _ _ _ c.args.catalogue.now.formed

pub join_names-requires-clause-names_low : goal.join_names-requires-clause-names_low
join_names-requires-clause-names_low c = names_low _ _ _ _ c.args.catalogue.now.formed

pub join_names-requires-clause-good_of : goal.join_names-requires-clause-good_of
join_names-requires-clause-good_of c = hand_good c.gather_names-names.ensures _ _ _ _ c.requires.good

pub join_names-requires-clause-long_enough : goal.join_names-requires-clause-long_enough
join_names-requires-clause-long_enough c = long_then c.gather_names-names.ensures.written.limits refl c.requires.long_enough

pub join_names-requires-clause-can_join : goal.join_names-requires-clause-can_join
join_names-requires-clause-can_join c = hand_can c.gather_names-names.ensures c.requires.can_join

pub join_names-requires-clause-marked : goal.join_names-requires-clause-marked
join_names-requires-clause-marked c = hand_at c.gather_names-names.ensures

pub release-requires : goal.release-requires
release-requires c = record { marked = hand_marked c.gather_names-names.ensures _ _ _ _ c.requires.good _ c.join_names.ensures }

pub forget_named-requires : goal.forget_named-requires
forget_named-requires c = hand_named c.gather_names-names.ensures _ _ _ _ c.requires.good _ c.join_names.ensures c.release.ensures

pub returns : goal.returns
returns c = joined_all _ _ _ _ _ c.requires.marked c.requires.joiners_noted c.gather_names-names.ensures c.join_names.ensures c.release.ensures c.forget_named.ensures
