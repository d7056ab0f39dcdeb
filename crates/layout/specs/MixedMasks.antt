-- Rules 2.7, 2.11, 5.4 and 5.19: the mask of a mixed profile, and the masks of both kinds. A mask is a number with bits, whichever its width.
use Rattle.std.specs.Prelude.{Bool, true, false, not, ◌&&◌, ◌||◌, List, ℕ, ◌+◌, ◌*◌}
use Rattle.words.specs.Bits.{bit}
use Rattle.words.specs.Lists.{every, count}
use Rattle.layout.specs.Bits as bits
use Rattle.layout.specs.Masks.{mask_ok}
use Rattle.layout.specs.declared.Kind.{Kind}
use Rattle.layout.specs.declared.Mask.{Mask}

-- the number of two words, the high one in front (rules 1.2 and 2.11)
abbrev pub mixed_number : ℕ → ℕ → ℕ
mixed_number high low = high * 65536 + low

-- none of these bits is set (rule 2.11)
abbrev pub none_of : List ℕ → ℕ → Bool
none_of ks mask = every (λ k. not (bit mask k)) ks

-- what is asked of a plain mask; no bit that only a mixed one reserves; fields of reflectors only with their number (rule 2.11)
unfoldable pub mixed_ok : ℕ → Bool
mixed_ok mask = mask_ok mask && none_of bits.reserved_mixed mask && (bit mask bits.reflectors || none_of bits.of_reflector mask)

-- the words of a reflector (rule 5.20)
unfoldable pub reflector_width : ℕ → ℕ
reflector_width mask = 4 * count (bit mask) bits.of_four + count (bit mask) bits.of_one

-- how many words a reflector has when all are there, and how many reflectors there are at most; `REFLECTOR` and `MOST_REFLECTORS` in the
-- code (rules 5.1 and 5.18)
abbrev pub reflector_length : ℕ
reflector_length = 11

abbrev pub most_reflectors : ℕ
most_reflectors = 64

-- a mask by its kind, and by its number (rules 2.7 and 2.11)
abbrev pub kind_of : Mask → Kind
kind_of (Mask.Plain word) = Kind.Plain
kind_of (Mask.Mixed high low) = Kind.Mixed

abbrev pub mask_number : Mask → ℕ
mask_number (Mask.Plain word) = word
mask_number (Mask.Mixed high low) = mixed_number high low

-- the mask of a kind, from two words; a plain one has the low word alone (rules 2.7 and 2.11)
abbrev pub mask_from : Kind → ℕ → ℕ → Mask
mask_from Kind.Plain high low = Mask.Plain low
mask_from Kind.Mixed high low = Mask.Mixed high low

-- the mask is of the kind (rules 4.11 and 4.24)
abbrev pub is_of : Kind → Mask → Bool
is_of Kind.Plain (Mask.Plain word) = true
is_of Kind.Plain (Mask.Mixed high low) = false
is_of Kind.Mixed (Mask.Plain word) = false
is_of Kind.Mixed (Mask.Mixed high low) = true

-- a number that a mask of the kind may have: for the request, the state and the reader alike (rules 2.7 and 2.11)
abbrev pub kind_ok : Kind → ℕ → Bool
kind_ok Kind.Plain mask = mask_ok mask
kind_ok Kind.Mixed mask = mixed_ok mask

abbrev pub admitted : Mask → Bool
admitted mask = kind_ok (kind_of mask) (mask_number mask)
