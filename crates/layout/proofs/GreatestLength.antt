-- The greatest length of a profile.
use mathlib.Core.Bool.{Bool, true, false}
use mathlib.Core.List.{List, [], ◌∷◌}
use Prim.Native.Nat.{◌+◌, ◌*◌, ◌≤◌}
use native.Mathlib.Nat.{mul-le-mul}
use native.Mathlib.Omega.{arith}
use lib.ListN.{length}
use Rattle.std.specs.Prelude.{if◌then◌else◌}
use Rattle.words.specs.Bits.{bit}
use Rattle.words.specs.Lists.{count}
use Rattle.layout.specs.Bits as bits
use Rattle.layout.specs.Masks.{point_width}
use Rattle.layout.specs.Lengths.{profile_length, Greatest}

-- no more pass a test than there are
pub count_most : {A : Type 0} (test : A → Bool) (l : List A) → count test l ≤ length l
count_most test [] = omega arith
count_most test (x ∷ xs) = go (test x) (count_most test xs)
  where
    go : (b : Bool) → count test xs ≤ length xs → (if b then 1 else 0) + count test xs ≤ length (x ∷ xs)
    go true h = omega arith
    go false h = omega arith

pub two_most : (b : Bool) → (if b then 2 else 0) ≤ 2
two_most true = omega arith
two_most false = omega arith

pub greatest : Greatest
unfolding profile_length
greatest mask sectors points s p =
    let head = count_most (bit mask) bits.of_head in
    let block : sectors * count (bit mask) bits.of_sector ≤ 8 * 7 = mul-le-mul s (count_most (bit mask) bits.of_sector) in
    let body : points * point_width mask ≤ 2160 * 3 = mul-le-mul p (count_most (bit mask) bits.of_point) in
    let tail = two_most (bit mask bits.senstat) in
    omega arith
