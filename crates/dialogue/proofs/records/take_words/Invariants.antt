use mathlib.Core.Path.{◌≡◌}
use Prim.Native.Nat.{◌*◌, ◌≤◌}
use lib.ListN.{drop}
use Rattle.std.specs.Slice.Iter.{chunks_exact_rest, chunks_exact_size}
use Rattle.words.specs.Buffers.{Put, in_turn}
use Rattle.dialogue.specs.Records.{record_word}
use Rattle.dialogue.proofs.records.take_words.Given as goal

abbrev pub invariant-loop-k : goal.invariant-loop-k
invariant-loop-k l =
    let k = l.k-iterator.count in
    (k ≤ l.n)
    × (chunks_exact_size l.k-iterator.iter ≡ 2)
    × (chunks_exact_rest l.k-iterator.iter ≡ drop (2 * k) l.bytes)
    × Put (in_turn (record_word l.bytes) k) l.initial.words 0 l.words k
