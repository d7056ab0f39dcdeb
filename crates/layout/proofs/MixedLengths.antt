-- The length of a mixed profile: its layout is as long as the formula says, and the greatest.
use mathlib.Core.Path.{◌≡◌, sym, ◌∙◌}
use mathlib.Core.List.{[], ◌∷◌, ◌++◌}
use Prim.Native.Nat.{ℕ, ◌+◌, ◌*◌, ◌≤◌, ◌<◌}
use native.Mathlib.Nat.{mul-le-mul}
use native.Mathlib.Omega.{arith}
use lib.ListN.{length, length-append}
use Rattle.std.specs.Prelude.{if◌then◌else◌, option_to_list}
use Rattle.words.specs.Bits.{bit}
use Rattle.words.specs.Lists.{count}
use Rattle.layout.specs.Bits as bits
use Rattle.layout.specs.Masks.{point_width}
use Rattle.layout.specs.Layout.{head, contour, layout}
use Rattle.layout.specs.Lengths.{profile_length}
use Rattle.layout.specs.MixedMasks.{reflector_width, most_reflectors}
use Rattle.layout.specs.Mixed.{mixed_length, reflector_part, MixedLayoutLength, GreatestMixed}
use Rattle.layout.proofs.LayoutLengths.{word_length, layout_length}
use Rattle.layout.proofs.GreatestLength.{count_most, two_most, greatest}

pub mixed_layout_length : MixedLayoutLength
unfolding mixed_length
mixed_layout_length f h =
    let c = f.contour in
    let plain : 3 + length (contour c) ≡ length (layout c) = sym (length-append (head c.mask (length c.sectors)) (contour c)) in
    let all : length (contour c ++ reflector_part f) ≡ length (contour c) + (length (option_to_list f.count) + length f.reflectors) =
    length-append (contour c) (reflector_part f) ∙ rw (length-append (option_to_list f.count) f.reflectors) in
    omega (
      arith,
      plain,
      all,
      layout_length c h.contour,
      word_length (bit c.mask bits.reflectors) f.count h.count,
      h.reflectors,
    )

-- a reflector has at most eleven words
pub width_most : (mask : ℕ) → reflector_width mask ≤ 11
unfolding reflector_width
width_most mask = omega (arith, count_most (bit mask) bits.of_four, count_most (bit mask) bits.of_one)

pub greatest_mixed_lem : GreatestMixed
unfolding mixed_length
greatest_mixed_lem mask sectors points reflectors s p r =
    let fields : reflectors * reflector_width mask ≤ most_reflectors * 11 = mul-le-mul r (width_most mask) in
    omega (arith, greatest mask sectors points s p, count_most (bit mask) (bits.reflectors ∷ []), fields)

-- one where the bit is set, else none
abbrev one_if : ℕ → ℕ → ℕ
one_if mask k = if bit mask k then 1 else 0

-- `reflector_width`
pub width_is : (m a b c d e : ℕ) → a ≡ one_if m bits.cartesian → b ≡ one_if m bits.polar → c ≡ one_if m bits.time
    → d ≡ one_if m bits.mean_echo
    → e ≡ one_if m bits.spots
    → 4 * (a + b) + (c + d + e) ≡ reflector_width m
unfolding reflector_width
width_is m a b c d e ea eb ec ed ee = rw (ea, eb, ec, ed, ee) (omega arith)

-- `mixed_length`: the contour's words are few, and the sum
pub contour_short : (m s p l : ℕ) → l ≡ profile_length m s p → s < 65536 → p < 65536 → l < 1000000
unfolding profile_length
contour_short m s p l e hs hp =
    let head = count_most (bit m) bits.of_head in
    let ms : s ≤ 65535 = omega arith in
    let mp : p ≤ 65535 = omega arith in
    let block : s * count (bit m) bits.of_sector ≤ 65535 * 7 = mul-le-mul ms (count_most (bit m) bits.of_sector) in
    let body : p * point_width m ≤ 65535 * 3 = mul-le-mul mp (count_most (bit m) bits.of_point) in
    let tail = two_most (bit m bits.senstat) in
    omega (arith, e)

pub mixed_is : (m s p n l w f a : ℕ) → l ≡ profile_length m s p → w ≡ reflector_width m → f ≡ n * w → a ≡ one_if m bits.reflectors
    → l + 1 + a + f ≡ mixed_length m s p n
unfolding mixed_length
mixed_is m s p n l w f a el ew ef ea = rw (el, ea, ef, ew) (omega arith)
