-- Rule 5.8: the length of a profile. The theorems stand in proofs/LayoutLengths.antt and
-- proofs/GreatestLength.antt.
use Rattle.std.specs.Prelude.{◌≡◌, ℕ, ◌+◌, ◌*◌, ◌≤◌, length, if◌then◌else◌}
use Rattle.words.specs.Bits.{bit}
use Rattle.words.specs.Lists.{count, total}
use Rattle.words.specs.Words.{number_of}
use Rattle.layout.specs.Bits as bits
use Rattle.layout.specs.Masks.{point_width}
use Rattle.layout.specs.Fields.{Fields}
use Rattle.layout.specs.Layout.{head_length, layout, Fits}

-- of a mask, so many sectors and so many points (rule 5.8)
unfoldable pub profile_length : ℕ → ℕ → ℕ → ℕ
profile_length mask sectors points =
    head_length
    + count (bit mask) bits.of_head
    + sectors * count (bit mask) bits.of_sector
    + points * point_width mask
    + (if bit mask bits.senstat then 2 else 0)

-- the points that a profile's sectors say they have (rule 5.8)
abbrev pub points_in : Fields → ℕ
points_in f = total (λ s. number_of s.points) f.sectors

-- the layout of fields that fit their mask is as long as the formula says (rule 5.8)
abbrev pub LayoutLength : Type 0
LayoutLength = (f : Fields) → Fits f → length (layout f) ≡ profile_length f.mask (length f.sectors) (points_in f)

-- the longest profile there is (rule 5.8)
abbrev pub greatest_length : ℕ
greatest_length = 6544

-- no profile of up to eight sectors and 2160 points is longer (rule 5.8)
abbrev pub Greatest : Type 0
Greatest = (mask sectors points : ℕ) → sectors ≤ 8 → points ≤ 2160 → profile_length mask sectors points ≤ greatest_length
