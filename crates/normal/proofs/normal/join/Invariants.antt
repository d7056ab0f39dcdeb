use Rattle.normal.proofs.Joining.{Joining}
use Rattle.normal.proofs.normal.join.Given as goal

abbrev pub invariant-loop-i : goal.invariant-loop-i
invariant-loop-i l = Joining l.sectors l.out l.n l.i
