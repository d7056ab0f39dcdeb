use Prim.Native.Nat.{◌+◌, ◌≤◌}
use lib.ListN.{length, take}
use Rattle.words.specs.Buffers.{Put}
use Rattle.profile.proofs.puts.put_words.Given as goal

abbrev pub invariant-loop-w : goal.invariant-loop-w
invariant-loop-w l = (l.at + length l.words ≤ length l.initial.out) × Put (take l.w-index l.words) l.initial.out l.at l.out l.to
