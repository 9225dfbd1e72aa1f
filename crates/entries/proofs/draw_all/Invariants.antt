-- `entries::draw_all` draws all that are held. The invariant: those of the first i are drawn, and all still wait.
use Rattle.entries.proofs.Drain.{Drawing}
use Rattle.entries.proofs.draw_all.Given as goal

abbrev pub invariant-loop-i : goal.invariant-loop-i
invariant-loop-i l = Drawing l.l l.held l.n l.drawn l.initial.w l.i l.r l.w
