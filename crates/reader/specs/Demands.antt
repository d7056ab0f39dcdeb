-- What is promised of the reader, as statements. The proofs stand in proofs/RoundTrip.antt, Numbers.antt, PointNumbers.antt, Standing.antt,
-- PartsTile.antt, Parts.antt and, of the last, ByPlace.antt.
use Rattle.std.specs.Prelude.{◌≡◌, ◌↔◌, ◌⊎◌, false, not, ◌&&◌, ◌||◌, List, [], ◌∷◌, ◌++◌, ℕ, ◌/◌}
use Rattle.std.specs.Prelude.{◌%◌, ◌≤◌, ◌<◌, T, eqb, ltb, length, get_or}
use Rattle.words.specs.Bits.{bit}
use Rattle.words.specs.Lists.{some, Each}
use Rattle.words.specs.Numbers.{No, no, first_of}
use Rattle.words.specs.Words.{number_of}
use Rattle.layout.specs.Bits as bits
use Rattle.layout.specs.Masks.{point_width}
use Rattle.layout.specs.Fields.{Fields}
use Rattle.layout.specs.Layout.{layout, Acceptable}
use Rattle.reader.specs.declared.Part.{Part}
use Rattle.reader.specs.Said.{At}
use Rattle.reader.specs.Parts.{Belongs}
use Rattle.reader.specs.Endings.{place_numbers}
use Rattle.reader.specs.Readings.{mask_in, refused_reading, read_of}
use Rattle.reader.specs.Sectors.{blank_sector}
use Rattle.reader.specs.Stretches.{stretch_refusal_of, stretch_of, stretch_start, fields_in, words_before, together}

-- the reader takes a list of words exactly when it is the layout of such fields (rule 5.10)
abbrev pub AcceptsExactly : Type 0
AcceptsExactly = (ws : List ℕ) → ((read_of ws).refusal ≡ 0) ↔ ((f : Fields) × Acceptable f × (ws ≡ layout f))

-- the words put together again from an accepted reading are the words given (rule 5.15)
abbrev pub PutTogether : Type 0
PutTogether = (ws : List ℕ) → (read_of ws).refusal ≡ 0 → together ws ≡ ws

-- reading a layout gives back its fields (rule 5.11)
abbrev pub ReadsBack : Type 0
ReadsBack = (f : Fields) → Acceptable f → ((read_of (layout f)).refusal ≡ 0) × (fields_in (layout f) (read_of (layout f)) ≡ f)

-- two records of fields with equal words are equal (rule 5.15)
abbrev pub OneReading : Type 0
OneReading = (f g : Fields) → Acceptable f → Acceptable g → layout f ≡ layout g → f ≡ g

-- words that are laid out up to where they end, behind the first three: more of them would make a profile (rule 6.1, number 15)
abbrev pub EndEarly : List ℕ → Type 0
EndEarly ws = (3 ≤ length ws) × ((f : Fields) × (more : List ℕ) × Acceptable f × T (some more) × (ws ++ more ≡ layout f))

-- a profile, and more words behind it (rule 6.1, number 16)
abbrev pub LeftOver : List ℕ → Type 0
LeftOver ws = (f : Fields) × (more : List ℕ) × Acceptable f × T (some more) × (ws ≡ layout f ++ more)

-- the table of the head's numbers, in their order: no word, or another first one; fewer than 3 words; mask 0, or with a reserved bit;
-- another number of layers than 1; another number of sectors than 1 to 8; words of points without their number (rule 6.1)
abbrev pub head_numbers : List ℕ → List No
head_numbers ws =
    let mask = get_or ws 1 0 in
    let info = get_or ws 2 0 in
    no 12 (eqb (length ws) 0 || not (eqb (get_or ws 0 0) 0x8301))
    ∷ no 13 (ltb (length ws) 3)
    ∷ no 22 (eqb mask 0 || bit mask 14 || bit mask 15)
    ∷ no 23 (not (eqb (info / 256) 1))
    ∷ no 24 (ltb (info % 256) 1 || ltb 8 (info % 256))
    ∷ no 14 ((bit mask 8 || bit mask 9 || bit mask 10) && not (bit mask 5))
    ∷ []

-- each number of the reader is given exactly then: one of the table where it is the first that is due; 15 and 16, which come behind them
-- (rule 6.1)
pub record Numbered (ws : List ℕ) : Type 0 where
  pub by_head : Each (λ (n : No). ((read_of ws).refusal ≡ n.number) ↔ (first_of (head_numbers ws) ≡ n.number)) (head_numbers ws)
  pub early : ((read_of ws).refusal ≡ 15) ↔ EndEarly ws
  pub over : ((read_of ws).refusal ≡ 16) ↔ LeftOver ws

abbrev pub RefusalsExactly : Type 0
RefusalsExactly = (ws : List ℕ) → Numbered ws

-- every word of a profile belongs to one part, and to no other (rule 5.16)
pub record OnePart (f : Fields) (index : ℕ) : Type 0 where
  pub part : Part
  pub belongs : Belongs f index part
  pub only : (p : Part) → Belongs f index p → p ≡ part

abbrev pub PartsTile : Type 0
PartsTile = (f : Fields) (index : ℕ) → index < length (layout f) → OnePart f index

-- the first missing word belongs to the part: in a profile that the words may go on to be, and in every profile that begins with them
-- (rule 5.16)
pub record EndsIn (ws : List ℕ) (p : Part) : Type 0 where
  pub in_one : (f : Fields) × (more : List ℕ) × Acceptable f × (ws ++ more ≡ layout f) × Belongs f (length ws) p
  pub in_every : (f : Fields) (more : List ℕ) → Acceptable f → ws ++ more ≡ layout f → Belongs f (length ws) p

-- with 15 there is a place, at the index that is the number of the words, and its part is right; with every other number there is none (rule 5.16)
pub record Ending (ws : List ℕ) : Type 0 where
  pub there : (read_of ws).refusal ≡ 15 → (p : Part) × ((read_of ws).place ≡ At (length ws) p) × EndsIn ws p
  pub nowhere : ((read_of ws).refusal ≡ 15 → ⊥) → (place_numbers (read_of ws).place).part ≡ 0

abbrev pub EndsPlaced : Type 0
EndsPlaced = (ws : List ℕ) → Ending ws

-- of a stretch: the reader's number where it has one, else 17 exactly where there is no sector at the place (rule 5.13)
pub record Placed (ws : List ℕ) (place : ℕ) : Type 0 where
  pub words_first : ((read_of ws).refusal ≡ 0 → ⊥) → stretch_refusal_of ws place ≡ (read_of ws).refusal
  pub not_below : (read_of ws).refusal ≡ 0 → (read_of ws).count ≤ place → stretch_refusal_of ws place ≡ 17
  pub below : (read_of ws).refusal ≡ 0 → place < (read_of ws).count → stretch_refusal_of ws place ≡ 0

abbrev pub StretchNumbers : Type 0
StretchNumbers = (ws : List ℕ) (place : ℕ) → Placed ws place

-- a reading with a number for no has nothing else but the place, and a stretch with one is empty (rule 5.14)
pub record Blank (ws : List ℕ) : Type 0 where
  pub reading : ((read_of ws).refusal ≡ 0 → ⊥) → read_of ws ≡ refused_reading (read_of ws).refusal (read_of ws).place
  pub stretch : (place : ℕ) → (stretch_refusal_of ws place ≡ 0 → ⊥) → stretch_of ws place ≡ []

abbrev pub RefusalsGiveNothing : Type 0
RefusalsGiveNothing = (ws : List ℕ) → Blank ws

-- no number of points, or no word of a point: the stretch is empty (rule 5.10)
abbrev pub NoPoints : Type 0
NoPoints =
    (ws : List ℕ) (place : ℕ) → place < (read_of ws).count → (bit (mask_in ws) bits.points ≡ false) ⊎ (point_width (mask_in ws) ≡ 0)
    → stretch_of ws place ≡ []

-- a sector's points stand at the place reached, whether there are any or not (rule 5.11)
abbrev pub StandsAtPlace : Type 0
StandsAtPlace = (ws : List ℕ) (place : ℕ) → place < (read_of ws).count → stretch_start ws place ≡ length (words_before ws (read_of ws) place)

-- two sectors of one distance each, whose number words stand the wrong way round (rule 5.13)
abbrev pub turned_round : List ℕ
turned_round = 0x8301 ∷ 0x0128 ∷ 0x0102 ∷ 1 ∷ 1 ∷ 500 ∷ 0 ∷ 1 ∷ 600 ∷ []

-- a stretch that goes by the sector's own number word is another one (rule 5.13)
abbrev pub NotByNumber : Type 0
NotByNumber = stretch_of turned_round (number_of (get_or (read_of turned_round).sectors 0 blank_sector).number) ≡ stretch_of turned_round 0 → ⊥
