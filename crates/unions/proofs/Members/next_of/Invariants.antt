-- `next_of` finds the next row of a union. The invariant: none was passed.
use Rattle.unions.specs.Unions.{rows, NoneOf}
use Rattle.unions.proofs.Members.next_of.Given as goal

abbrev pub invariant-loop-i : goal.invariant-loop-i
invariant-loop-i l = NoneOf (rows l.self.count l.self.area.now) l.union l.from l.i
