use Rattle.std.proofs.Common.{◌-◌, ◌≤◌, length}
use Rattle.standin.proofs.answer_block.Given as goal

abbrev pub invariant-loop-said : goal.invariant-loop-said
invariant-loop-said l = (l.taken ≤ length l.bytes) × (l.filled ≤ length l.initial.text)

abbrev pub decreases-loop-said : goal.decreases-loop-said
decreases-loop-said l = length l.bytes - l.taken
