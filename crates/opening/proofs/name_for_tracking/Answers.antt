-- `opening::name_for_tracking` names a part for tracking that is not named yet and whose name was not served with several allowed.
use mathlib.Core.Path.{refl, sym, ◌∙◌}
use Rattle.cache.proofs.Laws.{part_name_held}
use Rattle.encoder.proofs.Does.{does_full}
use Rattle.encoder.proofs.Widening.{name_for_tracking_widens}
use Rattle.opening.proofs.Tracking.{part_free, tracking_again, tracking_several, tracking_new}
use Rattle.opening.proofs.name_for_tracking.Goals as goal

pub returns-then-state-ne0 : goal.returns-then-state-ne0
returns-then-state-ne0 c = λ m u. does_full c.if-state-ne0.true (λ v. name_for_tracking_widens _ _)

pub returns-then-lists : goal.returns-then-lists
returns-then-lists c = λ m u. record {
  limits = refl;
  area = refl;
  did = tracking_again _ _ _ _ c.requires.1 c.lists.ensures c.if-lists.true;
}

pub returns-then-is_several : goal.returns-then-is_several
returns-then-is_several c = λ m u. record {
  limits = refl;
  area = refl;
  did = tracking_several _ _ _ _ c.requires.1 c.lists.ensures c.is_several.ensures (c.part_name-name.ensures ∙ sym (part_name_held _ _ _ _ _)) c.if-is_several.true;
}

pub returns : goal.returns
returns c = λ m u. record {
  limits = refl;
  area = refl;
  did = tracking_new _ _ _ _ c.requires.1 c.lists.ensures c.is_several.ensures (c.part_name-name.ensures ∙ sym (part_name_held _ _ _ _ _)) c.if-lists.false c.if-is_several.false c.push-state.ensures;
}

pub push-state-requires : goal.push-state-requires
push-state-requires c = (c.args.state.now.fits, part_free _ _ _ _ _ c.args.state.now.fits c.requires.1 c.requires.2 c.lists.ensures c.if-lists.false)
