-- Rules, section 5: the order of a profile's words, once for the writer and the reader.
use Rattle.std.specs.Prelude.{◌≡◌, not, List, [], ◌∷◌, ◌++◌, ℕ, ◌+◌, ◌*◌, ◌≤◌, T, length, option_to_list}
use Rattle.words.specs.Bits.{bit}
use Rattle.words.specs.Lists.{Each}
use Rattle.words.specs.Words.{number_of, Shaped, laid_all}
use Rattle.layout.specs.Bits as bits
use Rattle.layout.specs.Masks.{mask_ok, point_width, uncounted}
use Rattle.layout.specs.Fields.{SectorFields, Fields}

-- the first word of a profile; `PROFILE_CODE` in the code (rule 5.4)
abbrev pub profile_code : ℕ
profile_code = 0x8301

-- the third word, but for the number of sectors: one layer; `ONE_LAYER` in the code (rule 5.4)
abbrev pub one_layer : ℕ
one_layer = 0x0100

-- how many words depend on no bit; `HEAD` in the code (rule 5.4)
abbrev pub head_length : ℕ
head_length = 3

-- those words (rule 5.4)
abbrev pub head : ℕ → ℕ → List ℕ
head mask sectors = profile_code ∷ mask ∷ (one_layer + sectors) ∷ []

-- the words of a sector before its points, and behind them (rule 5.5)
abbrev pub opening : SectorFields → List ℕ
opening s = option_to_list s.number ++ option_to_list s.step ++ option_to_list s.points ++ option_to_list s.tstart ++ option_to_list s.startdir

abbrev pub closing : SectorFields → List ℕ
closing s = option_to_list s.tend ++ option_to_list s.enddir

-- one sector (rules 5.5 and 5.7)
abbrev pub layout_sector : SectorFields → List ℕ
layout_sector s = opening s ++ s.body ++ closing s

-- the words before the sectors that depend on bits, and those behind them (rule 5.5)
abbrev pub front : Fields → List ℕ
front f = option_to_list f.sent ++ option_to_list f.counter ++ option_to_list f.layer

abbrev pub status : Fields → List ℕ
status f = option_to_list f.high ++ option_to_list f.low

-- all that depends on bits (rule 5.5)
abbrev pub contour : Fields → List ℕ
contour f = front f ++ laid_all layout_sector f.sectors ++ status f

-- a whole profile (rules 5.4 and 5.5)
abbrev pub layout : Fields → List ℕ
layout f = head f.mask (length f.sectors) ++ contour f

-- a sector's words are there exactly where their bits of the mask are set, and its points have as many words as their number says (rules
-- 5.5 and 5.10)
pub record SectorFits (mask : ℕ) (s : SectorFields) : Type 0 where
  pub number : Shaped (bit mask bits.number) s.number
  pub step : Shaped (bit mask bits.step) s.step
  pub points : Shaped (bit mask bits.points) s.points
  pub tstart : Shaped (bit mask bits.tstart) s.tstart
  pub startdir : Shaped (bit mask bits.startdir) s.startdir
  pub body : length s.body ≡ number_of s.points * point_width mask
  pub tend : Shaped (bit mask bits.tend) s.tend
  pub enddir : Shaped (bit mask bits.enddir) s.enddir

-- the words of a profile are there exactly where their bits of the mask are set (rule 5.5)
pub record Fits (f : Fields) : Type 0 where
  pub sent : Shaped (bit f.mask bits.sent) f.sent
  pub counter : Shaped (bit f.mask bits.counter) f.counter
  pub layer : Shaped (bit f.mask bits.layer) f.layer
  pub sectors : Each (SectorFits f.mask) f.sectors
  pub high : Shaped (bit f.mask bits.senstat) f.high
  pub low : Shaped (bit f.mask bits.senstat) f.low

-- fields whose mask is acceptable, with 1 to 8 sectors and the number of points where there is a word of points: what refusals 22, 24 and 14
-- ask (rules 5.10 and 5.12)
pub record Acceptable (f : Fields) : Type 0 where
  pub mask : T (mask_ok f.mask)
  pub some_sector : 1 ≤ length f.sectors
  pub few : length f.sectors ≤ 8
  pub counted : T (not (uncounted f.mask))
  pub fits : Fits f
