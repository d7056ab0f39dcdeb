use Prim.Native.Nat.{◌-◌, ◌≤◌, ◌<◌}
use Rattle.units.specs.Directions.{circle}
use Rattle.profile.specs.Profiles.{scan_of}
use Rattle.profile.proofs.Laps.{Lap, SoFar}
use Rattle.profile.proofs.points.write_points.Given as goal

abbrev pub invariant-loop-j : goal.invariant-loop-j
invariant-loop-j l =
    SoFar l.mask l.fn.step.0 (scan_of l.scan) l.arc l.fn.out l.out l.at l.direction.0 l.j × Lap l.by.0 l.direction.0 l.j l.end

abbrev pub invariant-loop-i : goal.invariant-loop-i
invariant-loop-i l =
    SoFar l.mask l.fn.step.0 (scan_of l.scan) l.arc l.fn.out l.out l.at l.direction.0 l.i × (l.direction.0 < circle) × (l.i ≤ l.arc.points)

abbrev pub decreases-loop-i : goal.decreases-loop-i
decreases-loop-i l = l.arc.points - l.i
