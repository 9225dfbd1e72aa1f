-- For callers: the entries of a valid state.
use mathlib.Core.List.{List}
use Prim.Native.Nat.{ℕ}
use Rattle.rules.specs.Catalogue.{Catalogue}
use Rattle.rules.proofs.ListLaws.{All}
use Rattle.rules.proofs.MemberLaws.{all_in}
use Rattle.rules.proofs.Each.{each_in}
use Rattle.rules.proofs.Valid.{Entry}
use Rattle.goals.specs.Goals.{AllGiven}

pub all_given : {c : Catalogue} {es : List (ℕ × ℕ)} → All (Entry c) es → AllGiven c es
all_given {c} {es} a = record { given = each_in es (λ x m. all_in (Entry c) es a m) }
