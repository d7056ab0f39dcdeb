use mathlib.Core.Path.{◌≡◌}
use Prim.Native.Nat.{◌≤◌}
use lib.ListN.{length, drop}
use Rattle.words.specs.Buffers.{in_turn, Put}
use Rattle.plan.specs.Sectors.{active_of}
use Rattle.plan.specs.Shots.{arcs}
use Rattle.plan.specs.ArcsLeft.{arcs_left}
use Rattle.profile.specs.Profiles.{scan_of}
use Rattle.profile.proofs.SectorTurns.{sector_words}
use Rattle.profile.proofs.sectors.write_sectors.Given as goal

abbrev pub invariant-loop-k : goal.invariant-loop-k
invariant-loop-k l =
    Put (in_turn (sector_words l.mask l.step.0 l.rate (scan_of l.scan) l.fn.plan) l.k-iterator.count) l.fn.out l.from l.out l.at
    × (drop l.k-iterator.count (arcs l.step.0 (active_of l.fn.plan)) ≡ arcs_left l.k-iterator.iter)
    × (l.k-iterator.count ≤ length (active_of l.fn.plan))
