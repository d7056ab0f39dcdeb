-- Rules 5.10 to 5.14 and 5.16, and the numbers 12 to 16 and 22 to 24: what the reader gives for a list of words.
use Rattle.std.specs.Prelude.{◌≡◌, Bool, not, ◌&&◌, List, [], ◌∷◌, ◌++◌, ℕ, ◌-◌, ◌/◌, ◌%◌, leb, eqb, Option, Some, None}
use Rattle.std.specs.Prelude.{length, get_or, drop, replicate, if◌then◌else◌, Result, Ok, Err}
use Rattle.words.specs.Lists.{some}
use Rattle.words.specs.Bits.{bit}
use Rattle.words.specs.Parse.{Got, short, got}
use Rattle.words.specs.Format.{Format, nothing, optional, join, times}
use Rattle.layout.specs.Bits as bits
use Rattle.layout.specs.Masks.{mask_ok, uncounted}
use Rattle.layout.specs.Fields.{SectorFields}
use Rattle.layout.specs.Layout.{profile_code, head_length}
use Rattle.reader.specs.declared.SectorReading.{SectorReading}
use Rattle.reader.specs.declared.Part.{Part}
use Rattle.reader.specs.declared.Reading.{Reading}
use Rattle.reader.specs.declared.ReadRefusal.{ReadRefusal}
use Rattle.reader.specs.Said.{Place, Nowhere, At, Said, refusal_number, refusal_place}
use Rattle.reader.specs.Sectors.{sector, blank_sector}
use Rattle.reader.specs.Endings.{part_missing}

-- the second word; the third; and the number of sectors, its low byte (rule 5.4)
abbrev pub mask_in : List ℕ → ℕ
mask_in ws = get_or ws 1 0

abbrev pub info_in : List ℕ → ℕ
info_in ws = get_or ws 2 0

abbrev pub count_in : List ℕ → ℕ
count_in ws = info_in ws % 256

-- the third word: one layer, its high byte; 1 to 8 sectors, its low byte (rule 5.4)
abbrev pub layers_ok : ℕ → Bool
layers_ok info = eqb (info / 256) 1

abbrev pub sectors_ok : ℕ → Bool
sectors_ok info = leb 1 (info % 256) && leb (info % 256) 8

-- the words begin as a profile does (rule 6.1)
abbrev pub begins : List ℕ → Bool
begins ws = some ws && eqb (get_or ws 0 0) profile_code

-- 12, 13, 22, 23, 24 and 14, by the words that depend on no bit; 0 for none (rule 6.1)
unfoldable pub head_refusal : List ℕ → ℕ
head_refusal ws =
    if not (begins ws) then 12 else
    if not (leb head_length (length ws)) then 13 else
    if not (mask_ok (mask_in ws)) then 22 else
    if not (layers_ok (info_in ws)) then 23 else
    if not (sectors_ok (info_in ws)) then 24 else
    if uncounted (mask_in ws) then 14 else 0

-- what stands behind the first three words, with the sectors as S has them (rule 5.5)
abbrev pub Body : Type 0 → Type 0
Body S = Option ℕ × (Option ℕ × (Option ℕ × (List S × (Option ℕ × (Option ℕ × Unit {0})))))

-- the sectors of it (rule 5.5)
abbrev pub sectors_in : {S : Type 0} → Body S → List S
sectors_in b = b.1.1.1.0

-- as a format (rule 5.10)
abbrev pub body : ℕ → ℕ → Format (Body SectorReading) (Body SectorFields)
body mask count =
    optional (bit mask bits.sent) λ sent.
    optional (bit mask bits.counter) λ counter.
    optional (bit mask bits.layer) λ layer.
    join (times count (sector mask)) (
    optional (bit mask bits.senstat) λ high.
    optional (bit mask bits.senstat) λ low.
    nothing)

-- eight entries (rule 5.11)
abbrev pub padded : List SectorReading → List SectorReading
padded xs = xs ++ replicate (8 - length xs) blank_sector

-- with a number for no, the place that 15 has, and nothing else (rules 5.14 and 5.16)
abbrev pub refused_reading : ℕ → Place Part → Said
refused_reading refusal at =
    record {
      refusal = refusal;
      place = at;
      mask = None;
      sent = None;
      counter = None;
      layer = None;
      count = 0;
      sectors = replicate 8 blank_sector;
      high = None;
      low = None;
    }

abbrev pub accepted_reading : ℕ → ℕ → Body SectorReading → Said
accepted_reading mask count a =
    record {
      refusal = 0;
      place = Nowhere;
      mask = Some mask;
      sent = a.0;
      counter = a.1.0;
      layer = a.1.1.0;
      count = count;
      sectors = padded (sectors_in a);
      high = a.1.1.1.1.0;
      low = a.1.1.1.1.1.0;
    }

-- the place at which the words end, if they end early: the index of the first missing word is their number (rule 5.16)
abbrev pub end_of : List ℕ → Place Part
end_of ws = At (length ws) (part_missing (mask_in ws) (count_in ws) ws)

-- by the words that are left: 16 where there are any (rule 6.1)
abbrev pub with_left : ℕ → ℕ → Body SectorReading → List ℕ → Said
with_left mask count a [] = accepted_reading mask count a
with_left mask count a (w ∷ ws) = refused_reading 16 Nowhere

-- 15 where the words end early (rule 6.1)
abbrev pub ended : ℕ → ℕ → Place Part → Got (Body SectorReading) → Said
ended mask count end short = refused_reading 15 end
ended mask count end (got a at ws) = with_left mask count a ws

unfoldable pub body_of : List ℕ → Said
body_of ws = ended (mask_in ws) (count_in ws) (end_of ws) ((body (mask_in ws) (count_in ws)).parse head_length (drop head_length ws))

-- what the reader gives (rule 5.10)
unfoldable pub read_of : List ℕ → Said
read_of ws = if eqb (head_refusal ws) 0 then body_of ws else refused_reading (head_refusal ws) Nowhere

-- an answer of `read`, and what it says (rule 5.11)
abbrev pub ReadAnswer : Type 0
ReadAnswer = Result Reading (ReadRefusal Part)

abbrev pub said : ReadAnswer → Said
said (Ok r) =
    record {
      refusal = 0;
      place = Nowhere;
      mask = Some r.mask;
      sent = r.contour.sent;
      counter = r.contour.counter;
      layer = r.contour.layer;
      count = r.contour.count;
      sectors = r.contour.sectors;
      high = r.contour.high;
      low = r.contour.low;
    }
said (Err e) = refused_reading (refusal_number e) (refusal_place e)

-- what is promised of `read` (rule 5.11)
abbrev pub ReadSays : List ℕ → ReadAnswer → Type 0
ReadSays ws r = said r ≡ read_of ws
