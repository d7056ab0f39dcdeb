use Rattle.std.proofs.Common.{◌≤◌, length}
use Rattle.standin.proofs.main.Given as goal

abbrev pub invariant-loop : goal.invariant-loop
invariant-loop l = l.have ≤ length l.bytes
