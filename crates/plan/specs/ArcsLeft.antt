-- The arcs of a revolution one after another, as `ArcIter` gives them.
use Rattle.std.specs.Prelude.{◌≡◌, List}
use Rattle.std.specs.Borrow.{Bor}
use Rattle.units.specs.declared.Angle.{Angle}
use Rattle.plan.specs.declared.Plan.{Plan}
use Rattle.plan.specs.declared.Arc.{Arc}
use Rattle.plan.specs.declared.ArcIter.{ArcIter}
use Rattle.plan.specs.Sectors.{active_of}
use Rattle.plan.specs.Shots.{arcs_from, last_stop}

-- those still to come (rules 3.5 and 3.6)
abbrev pub arcs_left : ArcIter → List Arc
arcs_left a = arcs_from a.step.0 a.before.0 a.shot a.sectors.now

-- the iterator before its first arc: the active sectors, which are the front of the plan that was lent, the stop before the first of them, shot 0,
-- and the step (rules 3.5 and 3.6)
pub record Begins (plan : Bor Plan) (by : Angle) (a : ArcIter) : Type 0 where
  pub sectors : a.sectors.now ≡ active_of plan.now
  pub stands : a.sectors.ref_ptr ≡ plan.ref_ptr
  pub before : a.before.0 ≡ last_stop 0 (active_of plan.now)
  pub shot : a.shot ≡ 0
  pub step : a.step ≡ by
