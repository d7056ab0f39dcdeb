-- Rules, section 7: the P rows of the reader. Proved in proofs/ReaderRows.antt.
use Rattle.std.specs.Prelude.{List, [], ◌∷◌, ℕ, take}
use Rattle.words.specs.Rows.{Row, Shown}
use Rattle.reader.specs.Endings.{place_numbers}
use Rattle.reader.specs.Readings.{read_of}
use Rattle.reader.specs.Mixed.{read_mixed_of, mixed_place_numbers}
use Rattle.reader.specs.MixedStretches.{reflector_of}

-- a profile of two sectors, the first with two points (rule 7.13)
abbrev pub two_sectors : List ℕ
two_sectors = 0x8301 ∷ 0x2129 ∷ 0x0102 ∷ 7 ∷ 0 ∷ 2 ∷ 0x0500 ∷ 0x0501 ∷ 1 ∷ 0 ∷ 0 ∷ 3 ∷ []

-- cut to so many words: the number for no, then the place by its part, sector and index (rule 7.13)
abbrev pub cut_to : ℕ → List ℕ
cut_to n =
    let r = read_of (take n two_sectors) in
    let at = place_numbers r.place in
    r.refusal ∷ at.part ∷ at.sector ∷ at.index ∷ []

-- a mixed profile of one sector and so many reflectors, which have their times alone (rule 7.18)
abbrev pub two_reflectors : ℕ → List ℕ
two_reflectors many = 0x9301 ∷ 0x0011 ∷ 0x2001 ∷ 0x0101 ∷ 7 ∷ 0 ∷ 3 ∷ many ∷ 0x0100 ∷ 0x0200 ∷ []

abbrev pub mixed_cut_to : ℕ → ℕ → List ℕ
mixed_cut_to n many =
    let r = read_mixed_of (take n (two_reflectors many)) in
    let at = mixed_place_numbers r.place in
    r.refusal ∷ at.part ∷ at.sector ∷ at.index ∷ []

abbrev pub reader_rows : List Row
reader_rows =
    -- whole (rule 7.13)
    record { value = cut_to 12; figure = 0 ∷ 0 ∷ 0 ∷ 0 ∷ [] }
    -- in the head (rule 7.13)
    ∷ record { value = cut_to 3; figure = 15 ∷ 1 ∷ 0 ∷ 3 ∷ [] }
    -- in sector 0: before its words, within them, and with a point missing (rule 7.13)
    ∷ record { value = cut_to 4; figure = 15 ∷ 2 ∷ 0 ∷ 4 ∷ [] }
    ∷ record { value = cut_to 5; figure = 15 ∷ 2 ∷ 0 ∷ 5 ∷ [] }
    ∷ record { value = cut_to 6; figure = 15 ∷ 2 ∷ 0 ∷ 6 ∷ [] }
    ∷ record { value = cut_to 7; figure = 15 ∷ 2 ∷ 0 ∷ 7 ∷ [] }
    -- in sector 1 (rule 7.13)
    ∷ record { value = cut_to 8; figure = 15 ∷ 2 ∷ 1 ∷ 8 ∷ [] }
    ∷ record { value = cut_to 9; figure = 15 ∷ 2 ∷ 1 ∷ 9 ∷ [] }
    -- in SENSTAT (rule 7.13)
    ∷ record { value = cut_to 10; figure = 15 ∷ 3 ∷ 0 ∷ 10 ∷ [] }
    ∷ record { value = cut_to 11; figure = 15 ∷ 3 ∷ 0 ∷ 11 ∷ [] }
    -- a mixed one, whole: nothing is refused, and its second reflector is its last word (rule 7.18)
    ∷ record { value = mixed_cut_to 10 2; figure = 0 ∷ 0 ∷ 0 ∷ 0 ∷ [] }
    ∷ record { value = reflector_of (two_reflectors 2) 1; figure = 0x0200 ∷ [] }
    -- in its head, in SENSTAT, in the count, and in each reflector (rule 7.18)
    ∷ record { value = mixed_cut_to 4 2; figure = 15 ∷ 1 ∷ 0 ∷ 4 ∷ [] }
    ∷ record { value = mixed_cut_to 5 2; figure = 15 ∷ 3 ∷ 0 ∷ 5 ∷ [] }
    ∷ record { value = mixed_cut_to 6 2; figure = 15 ∷ 3 ∷ 0 ∷ 6 ∷ [] }
    ∷ record { value = mixed_cut_to 7 2; figure = 15 ∷ 4 ∷ 0 ∷ 7 ∷ [] }
    ∷ record { value = mixed_cut_to 8 2; figure = 15 ∷ 5 ∷ 0 ∷ 8 ∷ [] }
    ∷ record { value = mixed_cut_to 9 2; figure = 15 ∷ 5 ∷ 1 ∷ 9 ∷ [] }
    -- 65 reflectors, whole and cut behind the count (rule 7.18)
    ∷ record { value = mixed_cut_to 10 65; figure = 27 ∷ 0 ∷ 0 ∷ 0 ∷ [] }
    ∷ record { value = mixed_cut_to 8 65; figure = 27 ∷ 0 ∷ 0 ∷ 0 ∷ [] }
    -- each reader refuses what the other takes (rule 5.22)
    ∷ record { value = (read_of (two_reflectors 2)).refusal ∷ (read_mixed_of two_sectors).refusal ∷ []; figure = 12 ∷ 12 ∷ [] }
    ∷ []

abbrev pub ReaderFigures : Type 0
ReaderFigures = Shown reader_rows
