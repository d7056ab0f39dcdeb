use Prim.Native.Nat.{◌+◌, ◌≤◌}
use lib.ListN.{length}
use Rattle.words.specs.Buffers.{Put}
use Rattle.dialogue.specs.Lines.{hexes}
use Rattle.dialogue.proofs.lines.put_words.Given as goal

abbrev pub invariant-loop-w : goal.invariant-loop-w
invariant-loop-w l =
    (l.at + length (hexes l.words (length l.words)) ≤ length l.initial.out) × Put (hexes l.words l.w-index) l.initial.out l.at l.out l.to
