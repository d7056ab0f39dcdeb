-- A bit of a mask as the number 0 or 1, and past the mask's width.
use mathlib.Core.Path.{◌≡◌, refl, sym}
use mathlib.Core.Bool.{Bool, true, false}
use Prim.Native.Nat.{ℕ, ◌/◌, ◌%◌, ◌^◌, ◌<◌}
use native.Mathlib.Nat.{div-eq_of_lt, pow-le-pow_right, lt_of_lt_of_le}
use native.Mathlib.Omega.{arith}
use lib.Dec.{eqb, lit<}
use borrow.Author.Tests.{eqb-true, eqb-false}
use Rattle.std.specs.Prelude.{if◌then◌else◌}
use Rattle.words.specs.Bits.{bit}

pub bit_number : (mask k : ℕ) → (if bit mask k then 1 else 0) ≡ mask / 2 ^ k % 2
bit_number mask k = go (mask / 2 ^ k) (bit mask k) refl
  where
    go : (n : ℕ) (t : Bool) → eqb (n % 2) 1 ≡ t → (if t then 1 else 0) ≡ n % 2
    go n true e = sym (eqb-true (n % 2) 1 e)
    go n false e = let h : n % 2 ≡ 1 → ⊥ = eqb-false (n % 2) 1 e in omega (arith, h)

-- a mask of 32 bits has none past the last
pub no_bit : (mask k : ℕ) → mask < 2 ^ 32 → 31 < k → false ≡ bit mask k
no_bit mask k h l = rw (div-eq_of_lt (lt_of_lt_of_le h (pow-le-pow_right {n = 2} (lit< tt) {i = 32} {j = k} (omega arith))))
