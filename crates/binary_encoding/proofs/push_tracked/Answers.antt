-- `binary_encoding::push_tracked` lists a part as tracked and counts it.
use mathlib.Core.Path.{refl}
use borrow.Author.Rules.{rules}
use Rattle.binary_encoding.proofs.Track.{track_free, tracked_pushed}
use Rattle.binary_encoding.proofs.push_tracked.Goals as goal

pub push-state-requires : goal.push-state-requires
push-state-requires c = search (rules, track_free)

pub returns : goal.returns
returns c =
    record {
      is = λ m u. record { limits = refl; area = refl; did = tracked_pushed _ _ _ _ _ c.args.state.now.fits c.requires.p_bound.2 c.requires.i_value c.push-state.ensures c.set.ensures m u };
    }
