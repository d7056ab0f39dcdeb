use native.Mathlib.Omega.{arith}
use Rattle.profile.proofs.Laps.{in_lap, lap_on, none_so_far, carried, one_on}
use Rattle.profile.proofs.Writing.{point_room, points_done}
use Rattle.profile.proofs.points.write_points.Goals as goal

pub loop-i-init : goal.loop-i-init
loop-i-init c = (none_so_far c.steps_past-direction.ensures, omega arith, omega arith)

pub put_point-at-requires : goal.put_point-at-requires
put_point-at-requires c =
    let s = c.loop-j.invariant.0 in
    point_room _ _ _ _ _ _ c.requires s.put (omega (arith, c.loop-j.invariant.1.ahead)) _ (carried s (in_lap c.loop-j.invariant.1 c.loop-j-test.true))

pub loop-j-preserved : goal.loop-j-preserved
loop-j-preserved c =
    let below = in_lap c.loop-j.invariant.1 c.loop-j-test.true in
    (one_on c.loop-j.invariant.0 _ c.onto_circle-by.ensures below c.put_point-at.ensures, lap_on c.loop-j.invariant.1 c.loop-j-test.true)

pub returns : goal.returns
returns c = points_done _ _ _ _ _ _ c.requires c.loop-i.invariant.0.put c.loop-i.invariant.2 c.loop-i-test.false
