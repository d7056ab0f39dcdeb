-- The rate of a revolution's shots is not 0, so its times are to the nearest millisecond.
use Prim.Native.Nat.{ℕ, ◌≤◌, ◌<◌}
use native.Mathlib.Nat.{le_of_dvd, le-div_iff_mul-le, mul-le-mul}
use native.Mathlib.Omega.{arith}
use lib.Dec.{T}
use Rattle.units.specs.Directions.{circle, revolution_shots}
use Rattle.units.proofs.Rounding.{times_rounded}
use Rattle.plan.specs.Sectors.{is_step}
use Rattle.plan.proofs.Grids.{divides}
use Rattle.state.specs.declared.State.{State}
use Rattle.state.proofs.Measuring.{Measures, measures}
use Rattle.profile.specs.Profiles.{rate_of}
use Rattle.profile.specs.Demands.{NearestTimes}

some_shots : (step : ℕ) → T (is_step step) → 1 ≤ revolution_shots step
some_shots step ok =
    let d = divides ok in
    (le-div_iff_mul-le {k = step} {x = 1} {y = circle} d.positive).1 (omega (arith, le_of_dvd (omega arith) d.around))

some_rate : (s : State) → Measures s → 0 < rate_of s
some_rate s m = omega (arith, mul-le-mul m.turning (some_shots s.step.0 m.step))

pub nearest_times : NearestTimes
nearest_times s g t = times_rounded (rate_of s) (some_rate s (measures s t.range t.measures t.eight))
