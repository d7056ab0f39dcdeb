use mathlib.Core.Path.{◌≡◌}
use Prim.Native.Nat.{ℕ, ◌<◌}
use lib.ListN.{length, get_or}
use Rattle.flat.specs.Plans.{entry_of}
use Rattle.flat.proofs.plan_of.Given as goal

abbrev pub invariant-loop-k : goal.invariant-loop-k
invariant-loop-k l = (length l.sectors ≡ 8) × ((i : ℕ) → i < l.k → get_or l.sectors i (entry_of l.plan i) ≡ entry_of l.plan i)
