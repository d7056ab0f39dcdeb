-- Technical: no rule stands here. What the loop over the sectors finds, and what reading a contour does; and the part at which the words end,
-- by places.
use Rattle.std.specs.Prelude.{◌≡◌, List, ℕ, ◌+◌, ◌≤◌, ltb, length, drop, if◌then◌else◌, Result, Ok, Err}
use Rattle.words.specs.Bits.{bit}
use Rattle.words.specs.Lists.{count}
use Rattle.words.specs.Parse.{short, got, times_parse}
use Rattle.layout.specs.Bits as bits
use Rattle.layout.specs.declared.Kind.{Kind}
use Rattle.reader.specs.declared.SectorReading.{SectorReading}
use Rattle.reader.specs.declared.ContourReading.{ContourReading}
use Rattle.reader.specs.declared.ReadRefusal.{ReadRefusal}
use Rattle.reader.specs.declared.Part.{Part}
use Rattle.reader.specs.declared.Part.TheVariants.{Head, Sector, Senstat}
use Rattle.reader.specs.Said.{number_said}
use Rattle.reader.specs.Sectors.{sector}
use Rattle.reader.specs.Endings.{wholes}
use Rattle.reader.specs.Readings.{mask_in, info_in, Body, sectors_in, body, padded}
use Rattle.reader.specs.Mixed.{mixed_mask_in, mixed_info_in, head_refusal_for}

-- so many sectors that are whole, from a place on; their entries, and the place behind them
pub record SectorsWhole (ws : List ℕ) (mask count at : ℕ) (entries : List SectorReading) (next : ℕ) : Type 0 where
  pub list : List SectorReading
  pub found : times_parse count (sector mask).parse at (drop at ws) ≡ got list next (drop next ws)
  pub padded_out : entries ≡ padded list
  pub inside : next ≤ length ws

-- the words end early in the sector that comes behind those that are whole
pub record SectorsCut (ws : List ℕ) (mask count at k : ℕ) : Type 0 where
  pub found : times_parse count (sector mask).parse at (drop at ws) ≡ short
  pub begun : k ≡ wholes count (sector mask).parse at (drop at ws)

-- what reading the sectors finds
abbrev pub SectorsRead : List ℕ → ℕ → ℕ → ℕ → Result (List SectorReading × ℕ) ℕ → Type 0
SectorsRead ws mask count at (Ok r) = SectorsWhole ws mask count at r.0 r.1
SectorsRead ws mask count at (Err k) = SectorsCut ws mask count at k

-- the mask's number in words of a kind (rules 5.4 and 5.19)
abbrev pub mask_for : Kind → List ℕ → ℕ
mask_for Kind.Plain ws = mask_in ws
mask_for Kind.Mixed ws = mixed_mask_in ws

-- the last of the words that depend on no bit (rules 5.4 and 5.19)
abbrev pub info_for : Kind → List ℕ → ℕ
info_for Kind.Plain ws = info_in ws
info_for Kind.Mixed ws = mixed_info_in ws

-- by the place of the first word that depends on a bit: how many words are in front of the sectors, how many of these are whole, and
-- the first part that is not
abbrev pub head_from : ℕ → ℕ → ℕ
head_from first mask = first + count (bit mask) bits.of_head

abbrev pub whole_from : ℕ → ℕ → ℕ → List ℕ → ℕ
whole_from first mask sectors ws = wholes sectors (sector mask).parse (head_from first mask) (drop (head_from first mask) ws)

unfoldable pub part_from : ℕ → ℕ → ℕ → List ℕ → Part
part_from first mask sectors ws =
    if ltb (length ws) (head_from first mask) then Head else
    if ltb (whole_from first mask sectors ws) sectors then Sector (whole_from first mask sectors ws) else Senstat

-- a contour that is whole, and the place behind it
pub record ContourWhole (ws : List ℕ) (first mask sectors : ℕ) (r : ContourReading) (next : ℕ) : Type 0 where
  pub value : Body SectorReading
  pub found : (body mask sectors).parse first (drop first ws) ≡ got value next (drop next ws)
  pub inside : next ≤ length ws
  pub sent : r.sent ≡ value.0
  pub counter : r.counter ≡ value.1.0
  pub layer : r.layer ≡ value.1.1.0
  pub count : r.count ≡ sectors
  pub entries : r.sectors ≡ padded (sectors_in value)
  pub high : r.high ≡ value.1.1.1.1.0
  pub low : r.low ≡ value.1.1.1.1.1.0

-- a contour at which the words end early, and the part
pub record ContourCut (ws : List ℕ) (first mask sectors : ℕ) (part : Part) : Type 0 where
  pub found : (body mask sectors).parse first (drop first ws) ≡ short
  pub is : part ≡ part_from first mask sectors ws

-- what reading a contour finds
abbrev pub ContourRead : List ℕ → ℕ → ℕ → ℕ → Result (ContourReading × ℕ) Part → Type 0
ContourRead ws first mask sectors (Ok r) = ContourWhole ws first mask sectors r.0 r.1
ContourRead ws first mask sectors (Err part) = ContourCut ws first mask sectors part

-- what testing a head finds: the head's number (rule 6.1)
abbrev pub HeadSays : {P : Type 0} → Kind → List ℕ → Result (Unit {0}) (ReadRefusal P) → Type 0
HeadSays kind ws r = number_said r ≡ head_refusal_for kind ws
