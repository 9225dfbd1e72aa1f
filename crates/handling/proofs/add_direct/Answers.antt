-- `handling::add_direct` adds the requires clause of an unconditional requirement.
use Rattle.handling.proofs.Owning.{its_goal}
use Rattle.handling.proofs.Adding.{direct_added}
use Rattle.handling.proofs.add_direct.Goals as goal

pub returns : goal.returns
returns c = direct_added (its_goal _ _ _ _ _ _ c.requirement_at-it.ensures) c.requires.named c.owner_variable-x.ensures c.rest_false-all.ensures c.add_requires.ensures.added
