-- Rules 5.13 and 5.15: the points of a sector, a part of the words given that is asked by the sector's place; and
-- the words put together again.
use Rattle.std.specs.Prelude.{◌≡◌, List, [], ◌++◌, map, ℕ, ◌+◌, ◌*◌, ltb, eqb, length, get_or, take, drop, if◌then◌else◌, Result}
use Rattle.std.specs.Borrow.{Bor}
use Rattle.words.specs.Words.{number_of, laid_all}
use Rattle.layout.specs.Fields.{SectorFields, Fields}
use Rattle.layout.specs.Layout.{head, opening, layout_sector, front, layout}
use Rattle.reader.specs.declared.SectorReading.{SectorReading}
use Rattle.reader.specs.declared.Part.{Part}
use Rattle.reader.specs.declared.ReadRefusal.{ReadRefusal}
use Rattle.reader.specs.Said.{Said, SaysWhy}
use Rattle.reader.specs.Sectors.{blank_sector}
use Rattle.reader.specs.Readings.{read_of}

-- the words are read first; 17 where there is no sector at the place (rule 5.13)
unfoldable pub stretch_refusal_of : List ℕ → ℕ → ℕ
stretch_refusal_of ws place =
    if eqb (read_of ws).refusal 0 then (if ltb place (read_of ws).count then 0 else 17) else (read_of ws).refusal

-- what is promised of `stretch_refusal`: that number, and the reader's place (rule 5.13)
abbrev pub StretchRefusalSays : List ℕ → ℕ → Result (Unit {0}) (ReadRefusal Part) → Type 0
StretchRefusalSays ws place r = SaysWhy (stretch_refusal_of ws place) (read_of ws).place r

-- where a sector's points stand in the words (rule 5.13)
abbrev pub stretch_in : List ℕ → SectorReading → List ℕ
stretch_in ws s = take s.len (drop s.start ws)

-- the stretch, empty where there is a number for no (rule 5.13)
unfoldable pub stretch_of : List ℕ → ℕ → List ℕ
stretch_of ws place = if ltb place (read_of ws).count then stretch_in ws (get_or (read_of ws).sectors place blank_sector) else []

-- where it begins, counted in words from the first one given; 0 where there is a number for no (rule 5.13)
unfoldable pub stretch_start : List ℕ → ℕ → ℕ
stretch_start ws place = if ltb place (read_of ws).count then (get_or (read_of ws).sectors place blank_sector).start else 0

-- what is promised of `stretch`: which words it lends, and that they are the caller's own, two bytes each, from that place on (rule 5.13)
pub record StretchSays (words : Bor (List ℕ)) (place : ℕ) (r : Bor (List ℕ)) : Type 0 where
  pub lends : r.now ≡ stretch_of words.now place
  pub stands : r.ref_ptr ≡ (words.ref_ptr.0, stretch_start words.now place * 2 + words.ref_ptr.1)

-- a reading's fields, with each sector's stretch of points (rule 5.15)
abbrev pub sector_in : List ℕ → SectorReading → SectorFields
sector_in ws s =
    record {
      number = s.number;
      step = s.step;
      points = s.points;
      tstart = s.tstart;
      startdir = s.startdir;
      body = stretch_in ws s;
      tend = s.tend;
      enddir = s.enddir;
    }

abbrev pub fields_in : List ℕ → Said → Fields
fields_in ws r =
    record {
      mask = number_of r.mask;
      sent = r.sent;
      counter = r.counter;
      layer = r.layer;
      sectors = map (sector_in ws) (take r.count r.sectors);
      high = r.high;
      low = r.low;
    }

-- the words in front of a sector's points: those before the sectors, the sectors before it, and its own opening (rule 5.11)
abbrev pub words_before : List ℕ → Said → ℕ → List ℕ
words_before ws r place =
    let f = fields_in ws r in
    head f.mask (length f.sectors)
    ++ front f
    ++ laid_all layout_sector (take place f.sectors)
    ++ opening (sector_in ws (get_or r.sectors place blank_sector))

-- put together again: the layout of those fields (rule 5.15)
abbrev pub together : List ℕ → List ℕ
together ws = layout (fields_in ws (read_of ws))
