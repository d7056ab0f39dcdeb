use mathlib.Core.Path.{◌≡◌}
use Prim.Native.Nat.{◌*◌, ◌≤◌}
use lib.ListN.{length, drop}
use Rattle.words.specs.Buffers.{in_turn, Put}
use Rattle.layout.specs.MixedMasks.{reflector_length}
use Rattle.profile.specs.Mixed.{reflectors_given}
use Rattle.profile.proofs.Reflecting.{one_of}
use Rattle.profile.proofs.reflectors.put_reflectors.Given as goal

abbrev pub invariant-loop-reflector : goal.invariant-loop-reflector
invariant-loop-reflector l =
    Put (in_turn (one_of l.mask l.list) (length l.yielded)) l.fn.out l.from l.out l.at
    × (drop (length l.yielded * reflector_length) l.list ≡ l.reflector-iterator.rest.now)
    × (l.reflector-iterator.size ≡ reflector_length)
    × (length l.yielded ≤ reflectors_given l.list)
