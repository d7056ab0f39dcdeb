-- Rules 5.5 and 5.10: a sector as the host's reader finds it, and the format by which it is read.
use Rattle.std.specs.Prelude.{List, ℕ, ◌*◌, Option, None, Some}
use Rattle.words.specs.Bits.{bit}
use Rattle.words.specs.Words.{number_of}
use Rattle.words.specs.Parse.{Span, Got, short, got}
use Rattle.words.specs.Format.{Format, nothing, many, optional, join, recast}
use Rattle.layout.specs.Bits as bits
use Rattle.layout.specs.Masks.{point_width}
use Rattle.layout.specs.Fields.{SectorFields}
use Rattle.reader.specs.declared.SectorReading.{SectorReading}

-- a sector's words one by one, with its points as S has them: a place and a length, or the words themselves (rule 5.5)
abbrev pub Raw : Type 0 → Type 0
Raw S = Option ℕ × (Option ℕ × (Option ℕ × (Option ℕ × (Option ℕ × (S × (Option ℕ × (Option ℕ × Unit {0})))))))

abbrev pub to_reading : Raw Span → SectorReading
to_reading a =
    record {
      number = a.0;
      step = a.1.0;
      points = a.1.1.0;
      tstart = a.1.1.1.0;
      startdir = a.1.1.1.1.0;
      start = a.1.1.1.1.1.0.start;
      len = a.1.1.1.1.1.0.len;
      tend = a.1.1.1.1.1.1.0;
      enddir = a.1.1.1.1.1.1.1.0;
    }

abbrev pub from_reading : SectorReading → Raw Span
from_reading r =
    let points : Span = record { start = r.start; len = r.len } in
    (r.number, (r.step, (r.points, (r.tstart, (r.startdir, (points, (r.tend, (r.enddir, tt))))))))

abbrev pub to_fields : Raw (List ℕ) → SectorFields
to_fields a =
    record {
      number = a.0;
      step = a.1.0;
      points = a.1.1.0;
      tstart = a.1.1.1.0;
      startdir = a.1.1.1.1.0;
      body = a.1.1.1.1.1.0;
      tend = a.1.1.1.1.1.1.0;
      enddir = a.1.1.1.1.1.1.1.0;
    }

abbrev pub from_fields : SectorFields → Raw (List ℕ)
from_fields r = (r.number, (r.step, (r.points, (r.tstart, (r.startdir, (r.body, (r.tend, (r.enddir, tt))))))))

-- the layout's order: the words that the mask selects, and as many words of points as their number says (rule 5.10)
abbrev pub raw_sector : ℕ → Format (Raw Span) (Raw (List ℕ))
raw_sector mask =
    optional (bit mask bits.number) λ number.
    optional (bit mask bits.step) λ step.
    optional (bit mask bits.points) λ points.
    optional (bit mask bits.tstart) λ tstart.
    optional (bit mask bits.startdir) λ startdir.
    join (many (number_of points * point_width mask)) (
    optional (bit mask bits.tend) λ tend.
    optional (bit mask bits.enddir) λ enddir.
    nothing)

abbrev pub sector : ℕ → Format SectorReading SectorFields
sector mask = recast to_reading from_reading to_fields from_fields (raw_sector mask)

-- an entry with no sector (rule 5.14)
abbrev pub blank_sector : SectorReading
blank_sector =
    record {
      number = None;
      step = None;
      points = None;
      tstart = None;
      startdir = None;
      start = 0;
      len = 0;
      tend = None;
      enddir = None;
    }

-- what the sector reader answers: the words ended early, or the sector and the place behind it (rule 5.11)
abbrev pub found_of : Got SectorReading → Option (SectorReading × ℕ)
found_of short = None
found_of (got s place ws) = Some (s, place)
