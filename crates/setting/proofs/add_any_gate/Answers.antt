use borrow.Author.Rules.{rules}
use Rattle.storing.proofs.Added.{any_gate_can, any_gate_added}
use Rattle.setting.proofs.add_any_gate.Goals as goal

pub add_pair-requires-clause-can_pair : goal.add_pair-requires-clause-can_pair
add_pair-requires-clause-can_pair c = search (rules, any_gate_can)

pub returns : goal.returns
returns c = search (rules, any_gate_added)
