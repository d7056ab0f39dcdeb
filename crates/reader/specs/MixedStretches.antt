-- Rules 5.23 and 5.24: the points of a sector and the words of a reflector of a mixed profile, parts of the words given; and the words put
-- together again.
use Rattle.std.specs.Prelude.{◌≡◌, List, [], ◌++◌, map, ℕ, ◌+◌, ◌*◌, ltb, eqb, length, get_or, take, drop, if◌then◌else◌}
use Rattle.std.specs.Prelude.{Result, option_to_list}
use Rattle.std.specs.Borrow.{Bor}
use Rattle.words.specs.Words.{number_of, laid_all}
use Rattle.layout.specs.MixedMasks.{mixed_number}
use Rattle.layout.specs.Fields.{Fields}
use Rattle.layout.specs.Layout.{opening, layout_sector, front, contour}
use Rattle.layout.specs.Mixed.{MixedFields, mixed_head, layout_mixed}
use Rattle.reader.specs.declared.MixedPart.{MixedPart}
use Rattle.reader.specs.declared.ReadRefusal.{ReadRefusal}
use Rattle.reader.specs.Said.{MixedSaid, SaysWhy}
use Rattle.reader.specs.Sectors.{blank_sector}
use Rattle.reader.specs.Stretches.{stretch_in, sector_in}
use Rattle.reader.specs.Mixed.{read_mixed_of}

-- the words are read first; 17 where the place is not below a number (rules 5.13 and 5.24)
abbrev pub number_at : List ℕ → ℕ → ℕ → ℕ
number_at ws many place = if eqb (read_mixed_of ws).refusal 0 then (if ltb place many then 0 else 17) else (read_mixed_of ws).refusal

-- of a sector's points; of a reflector (rules 5.23 and 5.24)
unfoldable pub mixed_stretch_refusal_of : List ℕ → ℕ → ℕ
mixed_stretch_refusal_of ws place = number_at ws (read_mixed_of ws).count place

-- how many reflectors a reading has (rule 5.23)
abbrev pub reflectors_read : MixedSaid → ℕ
reflectors_read r = number_of r.reflectors

unfoldable pub reflector_refusal_of : List ℕ → ℕ → ℕ
reflector_refusal_of ws place = number_at ws (reflectors_read (read_mixed_of ws)) place

-- a sector's points, and where they begin; none, and 0, where there is a number for no (rule 5.23)
unfoldable pub mixed_stretch_of : List ℕ → ℕ → List ℕ
mixed_stretch_of ws place =
    if ltb place (read_mixed_of ws).count then stretch_in ws (get_or (read_mixed_of ws).sectors place blank_sector) else []

unfoldable pub mixed_stretch_start : List ℕ → ℕ → ℕ
mixed_stretch_start ws place =
    if ltb place (read_mixed_of ws).count then (get_or (read_mixed_of ws).sectors place blank_sector).start else 0

-- the words of reflector r, and where they begin; none, and 0, where there is a number for no (rule 5.24)
abbrev pub start_at : MixedSaid → ℕ → ℕ
start_at r place = r.start + place * r.width

unfoldable pub reflector_of : List ℕ → ℕ → List ℕ
reflector_of ws place =
    let r = read_mixed_of ws in
    if ltb place (reflectors_read r) then take r.width (drop (start_at r place) ws) else []

unfoldable pub reflector_start : List ℕ → ℕ → ℕ
reflector_start ws place = let r = read_mixed_of ws in if ltb place (reflectors_read r) then start_at r place else 0

-- the words of all reflectors (rule 5.24)
abbrev pub reflectors_in : List ℕ → MixedSaid → List ℕ
reflectors_in ws r = take (reflectors_read r * r.width) (drop r.start ws)

unfoldable pub reflectors_of : List ℕ → List ℕ
reflectors_of ws = reflectors_in ws (read_mixed_of ws)

-- what is promised of the calls: the number, and the reader's place; which words are lent, and that they are the caller's own, two bytes each,
-- from their place on (rule 5.24)
abbrev pub MixedStretchRefusalSays : List ℕ → ℕ → Result (Unit {0}) (ReadRefusal MixedPart) → Type 0
MixedStretchRefusalSays ws place r = SaysWhy (mixed_stretch_refusal_of ws place) (read_mixed_of ws).place r

abbrev pub ReflectorRefusalSays : List ℕ → ℕ → Result (Unit {0}) (ReadRefusal MixedPart) → Type 0
ReflectorRefusalSays ws place r = SaysWhy (reflector_refusal_of ws place) (read_mixed_of ws).place r

pub record Lends (words : Bor (List ℕ)) (lent : List ℕ) (start : ℕ) (r : Bor (List ℕ)) : Type 0 where
  pub lends : r.now ≡ lent
  pub stands : r.ref_ptr ≡ (words.ref_ptr.0, start * 2 + words.ref_ptr.1)

abbrev pub MixedStretchSays : Bor (List ℕ) → ℕ → Bor (List ℕ) → Type 0
MixedStretchSays words place r = Lends words (mixed_stretch_of words.now place) (mixed_stretch_start words.now place) r

abbrev pub ReflectorSays : Bor (List ℕ) → ℕ → Bor (List ℕ) → Type 0
ReflectorSays words place r = Lends words (reflector_of words.now place) (reflector_start words.now place) r

abbrev pub ReflectorsSays : Bor (List ℕ) → Bor (List ℕ) → Type 0
ReflectorsSays words r = Lends words (reflectors_of words.now) (read_mixed_of words.now).start r

-- a reading's fields, with each sector's stretch of points and all reflectors' words (rule 5.15)
abbrev pub contour_in : List ℕ → MixedSaid → Fields
contour_in ws r =
    record {
      mask = mixed_number (number_of r.upper) (number_of r.lower);
      sent = r.sent;
      counter = r.counter;
      layer = r.layer;
      sectors = map (sector_in ws) (take r.count r.sectors);
      high = r.high;
      low = r.low;
    }

abbrev pub mixed_fields_in : List ℕ → MixedSaid → MixedFields
mixed_fields_in ws r =
    record {
      high = number_of r.upper;
      low = number_of r.lower;
      contour = contour_in ws r;
      count = r.reflectors;
      reflectors = reflectors_in ws r;
    }

-- the words in front of a sector's points, and in front of the reflectors (rules 5.11 and 5.23)
abbrev pub head_in : List ℕ → MixedSaid → List ℕ
head_in ws r = mixed_head (number_of r.upper) (number_of r.lower) (length (contour_in ws r).sectors)

abbrev pub words_before_points : List ℕ → MixedSaid → ℕ → List ℕ
words_before_points ws r place =
    head_in ws r
    ++ front (contour_in ws r)
    ++ laid_all layout_sector (take place (contour_in ws r).sectors)
    ++ opening (sector_in ws (get_or r.sectors place blank_sector))

abbrev pub words_before_reflectors : List ℕ → MixedSaid → List ℕ
words_before_reflectors ws r = head_in ws r ++ contour (contour_in ws r) ++ option_to_list r.reflectors

-- put together again: the layout of those fields (rule 5.15)
abbrev pub mixed_together : List ℕ → List ℕ
mixed_together ws = layout_mixed (mixed_fields_in ws (read_mixed_of ws))
