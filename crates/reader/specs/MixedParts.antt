-- Rules 5.19 and 5.25: the parts of a mixed profile, by the layout alone. No reader is named here.
use Rattle.std.specs.Prelude.{List, [], ◌++◌, ℕ, ◌+◌, ◌*◌, ◌≤◌, ◌<◌, length, take, drop, option_to_list}
use Rattle.words.specs.Words.{laid_all}
use Rattle.layout.specs.MixedMasks.{reflector_width}
use Rattle.layout.specs.Layout.{layout_sector, front, status, contour}
use Rattle.layout.specs.Mixed.{MixedFields, mixed_head}
use Rattle.reader.specs.declared.Part.TheVariants.{Head, Sector, Senstat}
use Rattle.reader.specs.declared.MixedPart.{MixedPart}
use Rattle.reader.specs.declared.MixedPart.TheVariants.{Contour, Count, Reflector}

-- the words that depend on no bit (rule 5.19)
abbrev pub head_of : MixedFields → List ℕ
head_of f = mixed_head f.high f.low (length f.contour.sectors)

-- the words of a reflector (rule 5.20)
abbrev pub width_of : MixedFields → ℕ
width_of f = reflector_width f.contour.mask

-- the words of a mixed profile in front of a part, and those of the part (rules 5.19 and 5.25)
abbrev pub in_front_of : MixedFields → MixedPart → List ℕ
in_front_of f (Contour Head) = []
in_front_of f (Contour (Sector k)) = head_of f ++ front f.contour ++ laid_all layout_sector (take k f.contour.sectors)
in_front_of f (Contour Senstat) = head_of f ++ front f.contour ++ laid_all layout_sector f.contour.sectors
in_front_of f Count = head_of f ++ contour f.contour
in_front_of f (Reflector r) = head_of f ++ contour f.contour ++ option_to_list f.count ++ take (r * width_of f) f.reflectors

abbrev pub words_of_mixed : MixedFields → MixedPart → List ℕ
words_of_mixed f (Contour Head) = head_of f ++ front f.contour
words_of_mixed f (Contour (Sector k)) = laid_all layout_sector (take 1 (drop k f.contour.sectors))
words_of_mixed f (Contour Senstat) = status f.contour
words_of_mixed f Count = option_to_list f.count
words_of_mixed f (Reflector r) = take (width_of f) (drop (r * width_of f) f.reflectors)

-- the word at an index is one of the part's (rule 5.25)
pub record MixedBelongs (f : MixedFields) (index : ℕ) (p : MixedPart) : Type 0 where
  pub from : length (in_front_of f p) ≤ index
  pub below : index < length (in_front_of f p) + length (words_of_mixed f p)
