-- What the enums stand for in the definitions.
use Rattle.rules.specs.Refusals as rules
use Rattle.refusal.specs.declared.Thing.{Thing}
use Rattle.refusal.specs.declared.Contradiction.{Contradiction}
use Rattle.refusal.specs.declared.Refusal.{Refusal}

unfoldable pub thing_of : Thing → rules.Thing
thing_of Thing.Name = rules.Thing.name
thing_of Thing.Part = rules.Thing.part
thing_of Thing.Range = rules.Thing.range
thing_of Thing.Union = rules.Thing.union
thing_of Thing.Condition = rules.Thing.condition
thing_of Thing.Requirement = rules.Thing.requirement
thing_of Thing.Constraint = rules.Thing.constraint

unfoldable pub contradiction_of : Contradiction → rules.Contradiction
contradiction_of Contradiction.OtherBits = rules.Contradiction.other_bits
contradiction_of Contradiction.SecondLocked = rules.Contradiction.second_locked
contradiction_of Contradiction.SecondFavoured = rules.Contradiction.second_favoured
contradiction_of Contradiction.PartOfAnotherName = rules.Contradiction.part_of_another_name
contradiction_of Contradiction.MemberTwice = rules.Contradiction.member_twice
contradiction_of Contradiction.OtherOperator = rules.Contradiction.other_operator
contradiction_of Contradiction.OtherForm = rules.Contradiction.other_form
contradiction_of Contradiction.OwnerUnknown = rules.Contradiction.owner_unknown
contradiction_of Contradiction.OtherValue = rules.Contradiction.other_value

unfoldable pub refusal_of : Refusal → rules.Refusal
refusal_of Refusal.Unfit = rules.Refusal.unfit
refusal_of Refusal.Overlong = rules.Refusal.overlong
refusal_of Refusal.UnknownKind = rules.Refusal.unknown_kind
refusal_of Refusal.OutOfPlace = rules.Refusal.out_of_place
refusal_of Refusal.CutShort = rules.Refusal.cut_short
refusal_of (Refusal.TooMany t) = rules.Refusal.too_many (thing_of t)
refusal_of (Refusal.Missing t b) = rules.Refusal.missing (thing_of t) b
refusal_of (Refusal.MissingVariable b) = rules.Refusal.missing_variable b
refusal_of (Refusal.Contradicts w) = rules.Refusal.contradicts (contradiction_of w)
refusal_of Refusal.DisjunctsOver = rules.Refusal.disjuncts_over
refusal_of Refusal.RangesOver = rules.Refusal.ranges_over
refusal_of Refusal.LevelLow = rules.Refusal.level_low
refusal_of Refusal.DecidedAgainst = rules.Refusal.decided_against
refusal_of Refusal.RunFull = rules.Refusal.run_full
refusal_of Refusal.NotRun = rules.Refusal.not_run
refusal_of Refusal.ListingFull = rules.Refusal.listing_full
