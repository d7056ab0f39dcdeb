-- Numbers of shots, for every step, 0 included.
use Prim.Native.Nat.{ℕ, ◌+◌, ◌-◌, ◌%◌, ◌≤◌}
use native.Mathlib.Nat.{div-le_self}
use native.Mathlib.Omega.{arith}
use Rattle.units.specs.Directions.{circle, shots_to}

-- no more than one to each direction
pub few : (step first stop : ℕ) → shots_to step first stop ≤ circle
few step first stop = omega (arith, div-le_self ((stop + circle - first) % circle) step)
