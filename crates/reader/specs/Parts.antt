-- Rules 5.5 and 5.16: the parts of a profile, by the layout alone. No reader is named here.
use Rattle.std.specs.Prelude.{List, [], ◌++◌, ℕ, ◌+◌, ◌≤◌, ◌<◌, length, take, drop}
use Rattle.words.specs.Words.{laid_all}
use Rattle.layout.specs.Fields.{Fields}
use Rattle.layout.specs.Layout.{head, layout_sector, front, status}
use Rattle.reader.specs.declared.Part.{Part}
use Rattle.reader.specs.declared.Part.TheVariants.{Head, Sector, Senstat}

-- the words of a profile in front of a part, and those of the part (rule 5.5)
abbrev pub in_front : Fields → Part → List ℕ
in_front f Head = []
in_front f (Sector k) = head f.mask (length f.sectors) ++ front f ++ laid_all layout_sector (take k f.sectors)
in_front f Senstat = head f.mask (length f.sectors) ++ front f ++ laid_all layout_sector f.sectors

abbrev pub words_of_part : Fields → Part → List ℕ
words_of_part f Head = head f.mask (length f.sectors) ++ front f
words_of_part f (Sector k) = laid_all layout_sector (take 1 (drop k f.sectors))
words_of_part f Senstat = status f

-- the word at an index is one of the part's (rule 5.16)
pub record Belongs (f : Fields) (index : ℕ) (p : Part) : Type 0 where
  pub from : length (in_front f p) ≤ index
  pub below : index < length (in_front f p) + length (words_of_part f p)
