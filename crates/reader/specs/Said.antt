-- Rules 5.11, 5.14, 5.16, 5.23 and 5.25: what a reader says, by a number for no and by values. The calls hand the same back as a Result.
use Rattle.std.specs.Prelude.{◌≡◌, List, ℕ, Option, Result, Ok, Err}
use Rattle.reader.specs.declared.SectorReading.{SectorReading}
use Rattle.reader.specs.declared.Part.{Part}
use Rattle.reader.specs.declared.MixedPart.{MixedPart}
use Rattle.reader.specs.declared.ReadRefusal.{ReadRefusal}
use Rattle.reader.specs.declared.ReadRefusal.TheVariants.{NoProfile, ShortHead, Mask, Layers, SectorCount, Uncounted, EndsEarly, LeftOver}
use Rattle.reader.specs.declared.ReadRefusal.TheVariants.{ManyReflectors, NoSuchPlace}

-- where the words end early, with refusal 15 alone: the index of the first missing word, and its part (rules 5.16 and 5.25)
pub data Place (P : Type 0) : Type 0 where
  Nowhere : Place P
  At : ℕ → P → Place P

-- a profile's words: the number for no and its place, the head, how many sectors there are, the sectors, SENSTAT (rule 5.11)
pub record Said : Type 0 where
  pub refusal : ℕ
  pub place : Place Part
  pub mask : Option ℕ
  pub sent : Option ℕ
  pub counter : Option ℕ
  pub layer : Option ℕ
  pub count : ℕ
  pub sectors : List SectorReading
  pub high : Option ℕ
  pub low : Option ℕ

-- a mixed profile's words: the number for no and its place, the mask's high and low word, the head, how many sectors there are, the sectors,
-- SENSTAT; how many reflectors there are, where their words begin, and how many each has (rule 5.23)
pub record MixedSaid : Type 0 where
  pub refusal : ℕ
  pub place : Place MixedPart
  pub upper : Option ℕ
  pub lower : Option ℕ
  pub sent : Option ℕ
  pub counter : Option ℕ
  pub layer : Option ℕ
  pub count : ℕ
  pub sectors : List SectorReading
  pub high : Option ℕ
  pub low : Option ℕ
  pub reflectors : Option ℕ
  pub start : ℕ
  pub width : ℕ

-- the number of a refusal (rule 6.1)
abbrev pub refusal_number : {P : Type 0} → ReadRefusal P → ℕ
refusal_number NoProfile = 12
refusal_number ShortHead = 13
refusal_number Uncounted = 14
refusal_number (EndsEarly index part) = 15
refusal_number LeftOver = 16
refusal_number NoSuchPlace = 17
refusal_number Mask = 22
refusal_number Layers = 23
refusal_number SectorCount = 24
refusal_number ManyReflectors = 27

-- the place that 15 has (rules 5.16 and 5.25)
abbrev pub refusal_place : {P : Type 0} → ReadRefusal P → Place P
refusal_place NoProfile = Nowhere
refusal_place ShortHead = Nowhere
refusal_place Uncounted = Nowhere
refusal_place (EndsEarly index part) = At index part
refusal_place LeftOver = Nowhere
refusal_place NoSuchPlace = Nowhere
refusal_place Mask = Nowhere
refusal_place Layers = Nowhere
refusal_place SectorCount = Nowhere
refusal_place ManyReflectors = Nowhere

-- of an answer that may be a refusal: its number, 0 for none, and its place (rules 5.16, 5.25 and 6.1)
abbrev pub number_said : {A P : Type 0} → Result A (ReadRefusal P) → ℕ
number_said (Ok a) = 0
number_said (Err e) = refusal_number e

abbrev pub place_said : {A P : Type 0} → Result A (ReadRefusal P) → Place P
place_said (Ok a) = Nowhere
place_said (Err e) = refusal_place e

-- what is promised of a call that says why another hands nothing back: the number and the place (rules 5.13 and 5.24)
pub record SaysWhy {P : Type 0} (number : ℕ) (place : Place P) (r : Result (Unit {0}) (ReadRefusal P)) : Type 0 where
  pub number_is : number_said r ≡ number
  pub place_is : place_said r ≡ place
