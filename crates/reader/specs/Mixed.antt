-- Rules 5.22, 5.23 and 5.25, and the numbers 12 to 16, 22 to 24 and 27 of a mixed profile: what its reader gives for a list of words. The
-- contour is read by the format of a plain profile.
use Rattle.std.specs.Prelude.{◌≡◌, Bool, not, ◌&&◌, List, [], ◌∷◌, ℕ, ◌*◌, ◌/◌, ◌%◌, leb, ltb, eqb, length}
use Rattle.std.specs.Prelude.{Option, Some, None, Result, Ok, Err, get_or, drop, replicate, if◌then◌else◌}
use Rattle.words.specs.Lists.{some}
use Rattle.words.specs.Words.{number_of}
use Rattle.words.specs.Bits.{bit}
use Rattle.words.specs.Parse.{Got, short, got, word}
use Rattle.layout.specs.Bits as bits
use Rattle.layout.specs.Masks.{uncounted}
use Rattle.layout.specs.declared.Kind.{Kind}
use Rattle.layout.specs.MixedMasks.{mixed_number, mixed_ok, reflector_width, most_reflectors}
use Rattle.layout.specs.Layout.{profile_code}
use Rattle.layout.specs.Mixed.{mixed_code, mixed_head_length}
use Rattle.reader.specs.declared.SectorReading.{SectorReading}
use Rattle.reader.specs.declared.MixedPart.{MixedPart}
use Rattle.reader.specs.declared.MixedPart.TheVariants.{Contour, Count, Reflector}
use Rattle.reader.specs.declared.MixedReading.{MixedReading}
use Rattle.reader.specs.declared.ReadRefusal.{ReadRefusal}
use Rattle.reader.specs.Said.{Place, Nowhere, At, MixedSaid, refusal_number, refusal_place}
use Rattle.reader.specs.Sectors.{blank_sector}
use Rattle.reader.specs.Endings.{PlaceNumbers, place_numbers, part_missing}
use Rattle.reader.specs.Readings.{layers_ok, sectors_ok, head_refusal, Body, sectors_in, body, padded}

-- the number of the second and the third word; the fourth; and the number of sectors, its low byte (rule 5.19)
abbrev pub mixed_mask_in : List ℕ → ℕ
mixed_mask_in ws = mixed_number (get_or ws 1 0) (get_or ws 2 0)

abbrev pub mixed_info_in : List ℕ → ℕ
mixed_info_in ws = get_or ws 3 0

abbrev pub mixed_count_in : List ℕ → ℕ
mixed_count_in ws = mixed_info_in ws % 256

-- the words begin as a mixed profile does (rule 6.1)
abbrev pub mixed_begins : List ℕ → Bool
mixed_begins ws = some ws && eqb (get_or ws 0 0) mixed_code

-- 12, 13, 22, 23, 24 and 14, by the words that depend on no bit; 0 for none (rule 6.1)
unfoldable pub mixed_head_refusal : List ℕ → ℕ
mixed_head_refusal ws =
    if not (mixed_begins ws) then 12 else
    if not (leb mixed_head_length (length ws)) then 13 else
    if not (mixed_ok (mixed_mask_in ws)) then 22 else
    if not (layers_ok (mixed_info_in ws)) then 23 else
    if not (sectors_ok (mixed_info_in ws)) then 24 else
    if uncounted (mixed_mask_in ws) then 14 else 0

-- of either kind: one inner reader is told which (rules 5.10 and 5.22)
abbrev pub head_refusal_for : Kind → List ℕ → ℕ
head_refusal_for Kind.Plain ws = head_refusal ws
head_refusal_for Kind.Mixed ws = mixed_head_refusal ws

-- the words as a plain profile has them: its code, the mask's number, and all from the word of layers and sectors on (rule 5.25)
abbrev pub plain_of : List ℕ → List ℕ
plain_of ws = profile_code ∷ mixed_mask_in ws ∷ drop 3 ws

-- with a number for no, the place that 15 has, and nothing else (rules 5.14 and 5.23)
abbrev pub refused_mixed : ℕ → Place MixedPart → MixedSaid
refused_mixed refusal at =
    record {
      refusal = refusal;
      place = at;
      upper = None;
      lower = None;
      sent = None;
      counter = None;
      layer = None;
      count = 0;
      sectors = replicate 8 blank_sector;
      high = None;
      low = None;
      reflectors = None;
      start = 0;
      width = 0;
    }

-- of these words, a contour, the word of bit 16, and the place of the reflectors (rule 5.23)
abbrev pub accepted_mixed : List ℕ → Body SectorReading → Option ℕ → ℕ → MixedSaid
accepted_mixed ws a n start =
    record {
      refusal = 0;
      place = Nowhere;
      upper = Some (get_or ws 1 0);
      lower = Some (get_or ws 2 0);
      sent = a.0;
      counter = a.1.0;
      layer = a.1.1.0;
      count = mixed_count_in ws;
      sectors = padded (sectors_in a);
      high = a.1.1.1.1.0;
      low = a.1.1.1.1.1.0;
      reflectors = n;
      start = start;
      width = reflector_width (mixed_mask_in ws);
    }

-- by the words that are left behind the reflectors: 16 where there are any (rule 6.1)
abbrev pub mixed_left : MixedSaid → List ℕ → MixedSaid
mixed_left whole [] = whole
mixed_left whole (w ∷ ws) = refused_mixed 16 Nowhere

-- the reflectors, from a place on: 15 where the words end within them, in the first that is not whole (rules 5.22 and 5.25)
abbrev pub with_reflectors : List ℕ → Body SectorReading → Option ℕ → ℕ → List ℕ → MixedSaid
with_reflectors ws a n at rest =
    let width = reflector_width (mixed_mask_in ws) in
    if leb (number_of n * width) (length rest)
    then mixed_left (accepted_mixed ws a n at) (drop (number_of n * width) rest)
    else refused_mixed 15 (At (length ws) (Reflector (length rest / width)))

-- how many there are: 15 where that word is missing, 27 where there are too many (rules 5.25 and 6.1)
abbrev pub with_count : List ℕ → Body SectorReading → Got (Option ℕ) → MixedSaid
with_count ws a short = refused_mixed 15 (At (length ws) Count)
with_count ws a (got n at rest) = if ltb most_reflectors (number_of n) then refused_mixed 27 Nowhere else with_reflectors ws a n at rest

-- the contour: 15 where the words end within it, in the part that a plain profile would name (rule 5.25)
abbrev pub with_contour : List ℕ → Got (Body SectorReading) → MixedSaid
with_contour ws short = refused_mixed 15 (At (length ws) (Contour (part_missing (mixed_mask_in ws) (mixed_count_in ws) (plain_of ws))))
with_contour ws (got a at rest) = with_count ws a (word (bit (mixed_mask_in ws) bits.reflectors) at rest)

unfoldable pub mixed_body_of : List ℕ → MixedSaid
mixed_body_of ws = with_contour ws ((body (mixed_mask_in ws) (mixed_count_in ws)).parse mixed_head_length (drop mixed_head_length ws))

-- what the reader of mixed profiles gives (rule 5.22)
unfoldable pub read_mixed_of : List ℕ → MixedSaid
read_mixed_of ws = if eqb (mixed_head_refusal ws) 0 then mixed_body_of ws else refused_mixed (mixed_head_refusal ws) Nowhere

-- an answer of `read_mixed`, and what it says (rule 5.23)
abbrev pub MixedAnswer : Type 0
MixedAnswer = Result MixedReading (ReadRefusal MixedPart)

abbrev pub mixed_said : MixedAnswer → MixedSaid
mixed_said (Ok r) =
    record {
      refusal = 0;
      place = Nowhere;
      upper = Some r.upper;
      lower = Some r.lower;
      sent = r.contour.sent;
      counter = r.contour.counter;
      layer = r.contour.layer;
      count = r.contour.count;
      sectors = r.contour.sectors;
      high = r.contour.high;
      low = r.contour.low;
      reflectors = r.reflectors;
      start = r.start;
      width = r.width;
    }
mixed_said (Err e) = refused_mixed (refusal_number e) (refusal_place e)

-- what is promised of `read_mixed` (rule 5.23)
abbrev pub ReadMixedSays : List ℕ → MixedAnswer → Type 0
ReadMixedSays ws r = mixed_said r ≡ read_mixed_of ws

-- a place by numbers: the part, 1 to 3 as in a plain profile, 4 the count, 5 a reflector; the place of the sector or of the reflector; the
-- index. What a place does not have is 0 (rule 5.25)
abbrev pub mixed_place_numbers : Place MixedPart → PlaceNumbers
mixed_place_numbers Nowhere = record { part = 0; sector = 0; index = 0 }
mixed_place_numbers (At index (Contour part)) = place_numbers (At index part)
mixed_place_numbers (At index Count) = record { part = 4; sector = 0; index = index }
mixed_place_numbers (At index (Reflector r)) = record { part = 5; sector = r; index = index }
