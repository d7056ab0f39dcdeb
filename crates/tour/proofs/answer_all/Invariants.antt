use Rattle.std.proofs.Common.{◌-◌, ◌≤◌, length}
use Rattle.tour.proofs.answer_all.Given as goal

abbrev pub invariant-loop-said : goal.invariant-loop-said
invariant-loop-said l = l.at ≤ length l.bytes

abbrev pub decreases-loop-said : goal.decreases-loop-said
decreases-loop-said l = length l.bytes - l.at
