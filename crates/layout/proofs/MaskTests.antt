-- What clearing a mask leaves.
use mathlib.Core.Path.{◌≡◌}
use mathlib.Core.Bool.{false}
use Prim.Native.Nat.{ℕ, ◌/◌, ◌%◌}
use native.Mathlib.Omega.{arith}
use lib.Dec.{T, eqb}
use Rattle.layout.specs.Masks.{mask_ok, mask_limit, cleared}

-- a mask of bits that are not reserved has none of those that are: it is acceptable, if it is not 0
pub cleared_ok : (mask : ℕ) → eqb (cleared mask) 0 ≡ false → T (mask_ok (cleared mask))
unfolding mask_ok
cleared_ok mask e =
    let a : mask % mask_limit / 16384 % 2 ≡ 0 = omega arith in
    let b : mask % mask_limit / 32768 % 2 ≡ 0 = omega arith in
    rw (e, a, b) tt
