use Rattle.reader.proofs.Loops.{SoFar}
use Rattle.reader.proofs.sector.read_sectors.Given as goal

abbrev pub invariant-loop-k : goal.invariant-loop-k
invariant-loop-k l = SoFar l.words l.mask l.count l.from l.list l.at l.k
