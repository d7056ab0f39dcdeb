-- Rules, section 5: what a profile carries, for the writer and the reader alike. Each word is given, or
-- absent where the mask leaves it out; a sector's points are a list of words.
use Rattle.std.specs.Prelude.{List, ℕ, Option}

-- a sector: the words of bits 3 to 7, those of its points, and the words of bits 11 and 12 (rule 5.5)
pub record SectorFields : Type 0 where
  pub number : Option ℕ
  pub step : Option ℕ
  pub points : Option ℕ
  pub tstart : Option ℕ
  pub startdir : Option ℕ
  pub body : List ℕ
  pub tend : Option ℕ
  pub enddir : Option ℕ

-- a profile: its mask, the words of bits 0 to 2, the sectors, and the two words of bit 13 (rules 5.4 and 5.5)
pub record Fields : Type 0 where
  pub mask : ℕ
  pub sent : Option ℕ
  pub counter : Option ℕ
  pub layer : Option ℕ
  pub sectors : List SectorFields
  pub high : Option ℕ
  pub low : Option ℕ
