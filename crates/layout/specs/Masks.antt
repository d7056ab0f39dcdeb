-- Rules 2.7, 4.10, 5.6 and 5.12: the mask of a profile.
use Rattle.std.specs.Prelude.{Bool, not, ◌&&◌, ℕ, ◌%◌, eqb}
use Rattle.words.specs.Bits.{bit}
use Rattle.words.specs.Lists.{every, count}
use Rattle.layout.specs.Bits as bits

-- not 0, and no reserved bit set (rule 2.7)
unfoldable pub mask_ok : ℕ → Bool
mask_ok mask = not (eqb mask 0) && every (λ k. not (bit mask k)) bits.reserved

-- past the highest bit that is not reserved; `MASK_LIMIT` in the code (rule 4.10)
abbrev pub mask_limit : ℕ
mask_limit = 16384

-- the two highest bits of a word, which are reserved, cleared (rule 4.10)
abbrev pub cleared : ℕ → ℕ
cleared mask = mask % mask_limit

-- the words of a point (rule 5.6)
abbrev pub point_width : ℕ → ℕ
point_width mask = count (bit mask) bits.of_point

-- points without their number, which the reader cannot do with (rule 5.12)
abbrev pub uncounted : ℕ → Bool
uncounted mask = not (eqb (point_width mask) 0) && not (bit mask bits.points)
