-- Rules 5.19 and 5.20: the order of a mixed profile's words, and its length. The contour is the one of a plain profile. The theorems stand
-- in proofs/MixedLengths.antt.
use Rattle.std.specs.Prelude.{◌≡◌, List, [], ◌∷◌, ◌++◌, ℕ, ◌+◌, ◌*◌, ◌≤◌, T, length, Option, option_to_list}
use Rattle.words.specs.Bits.{bit}
use Rattle.words.specs.Lists.{count}
use Rattle.words.specs.Words.{number_of, Shaped}
use Rattle.layout.specs.Bits as bits
use Rattle.layout.specs.declared.Kind.{Kind}
use Rattle.layout.specs.declared.Mask.{Mask}
use Rattle.layout.specs.MixedMasks.{mixed_number, mixed_ok, reflector_width, most_reflectors}
use Rattle.layout.specs.Fields.{Fields}
use Rattle.layout.specs.Layout.{profile_code, one_layer, head_length, contour, Fits, Acceptable}
use Rattle.layout.specs.Lengths.{profile_length, points_in}

-- the first word of a mixed profile, and how many of its words depend on no bit; `MIXED_CODE` and `MIXED_HEAD` in the code (rule 5.19)
abbrev pub mixed_code : ℕ
mixed_code = 0x9301

abbrev pub mixed_head_length : ℕ
mixed_head_length = 4

-- the two kinds by numbers: the first word, the layer, and how many words depend on no bit (rules 5.4, 5.5 and 5.19)
pub record KindNumbers : Type 0 where
  pub code : ℕ
  pub layer : ℕ
  pub first : ℕ

abbrev pub kind_numbers : Kind → KindNumbers
kind_numbers Kind.Plain = record { code = profile_code; layer = 0; first = head_length }
kind_numbers Kind.Mixed = record { code = mixed_code; layer = 1; first = mixed_head_length }

-- a mixed profile: the two words of its mask, the contour that goes by their number, how many reflectors there are, and their words one
-- reflector after another (rule 5.19)
pub record MixedFields : Type 0 where
  pub high : ℕ
  pub low : ℕ
  pub contour : Fields
  pub count : Option ℕ
  pub reflectors : List ℕ

-- the words that depend on no bit (rule 5.19)
abbrev pub mixed_head : ℕ → ℕ → ℕ → List ℕ
mixed_head high low sectors = mixed_code ∷ high ∷ low ∷ (one_layer + sectors) ∷ []

-- the words behind the contour (rule 5.19)
abbrev pub reflector_part : MixedFields → List ℕ
reflector_part f = option_to_list f.count ++ f.reflectors

-- a whole mixed profile (rule 5.19)
abbrev pub layout_mixed : MixedFields → List ℕ
layout_mixed f = mixed_head f.high f.low (length f.contour.sectors) ++ contour f.contour ++ reflector_part f

-- the words are there exactly where their bits of the mask are set, and the reflectors have as many as their number says (rules 5.19 and 5.22)
pub record MixedFits (f : MixedFields) : Type 0 where
  pub mask : f.contour.mask ≡ mixed_number f.high f.low
  pub contour : Fits f.contour
  pub count : Shaped (bit f.contour.mask bits.reflectors) f.count
  pub reflectors : length f.reflectors ≡ number_of f.count * reflector_width f.contour.mask

-- a contour as the reader of plain profiles asks it, under a mixed mask, and few reflectors: what 22, 24, 14 and 27 ask (rule 5.22)
pub record MixedAcceptable (f : MixedFields) : Type 0 where
  pub contour : Acceptable f.contour
  pub mask : T (mixed_ok f.contour.mask)
  pub few : number_of f.count ≤ most_reflectors
  pub fits : MixedFits f

-- of a mask, so many sectors, points and reflectors: a plain profile's words, the mask's second one, the count and the reflectors (rule 5.20)
unfoldable pub mixed_length : ℕ → ℕ → ℕ → ℕ → ℕ
mixed_length mask sectors points reflectors =
    profile_length mask sectors points + 1 + count (bit mask) (bits.reflectors ∷ []) + reflectors * reflector_width mask

-- of a mask of either kind (rules 5.8 and 5.20)
abbrev pub length_of : Mask → ℕ → ℕ → ℕ → ℕ
length_of (Mask.Plain word) sectors points reflectors = profile_length word sectors points
length_of (Mask.Mixed high low) sectors points reflectors = mixed_length (mixed_number high low) sectors points reflectors

-- the layout of fields that fit their mask is as long as the formula says (rule 5.20)
abbrev pub MixedLayoutLength : Type 0
MixedLayoutLength =
    (f : MixedFields) → MixedFits f
    → length (layout_mixed f) ≡ mixed_length f.contour.mask (length f.contour.sectors) (points_in f.contour) (number_of f.count)

-- the longest mixed profile there is (rule 5.20)
abbrev pub greatest_mixed : ℕ
greatest_mixed = 7250

-- none of up to eight sectors, 2160 points and 64 reflectors is longer (rule 5.20)
abbrev pub GreatestMixed : Type 0
GreatestMixed =
    (mask sectors points reflectors : ℕ) → sectors ≤ 8 → points ≤ 2160 → reflectors ≤ most_reflectors
    → mixed_length mask sectors points reflectors ≤ greatest_mixed
