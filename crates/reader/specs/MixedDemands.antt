-- What is promised of the reader of mixed profiles, as statements: what specs/Demands.antt promises of the reader of plain ones, and of the
-- reflectors what it promises of points.
use Rattle.std.specs.Prelude.{◌≡◌, ◌↔◌, ◌⊎◌, Bool, false, not, ◌&&◌, ◌||◌, List, [], ◌∷◌, ◌++◌, ℕ}
use Rattle.std.specs.Prelude.{◌+◌, ◌*◌, ◌/◌, ◌%◌, ◌≤◌, ◌<◌, T, eqb, ltb, length, get_or}
use Rattle.words.specs.Bits.{bit}
use Rattle.words.specs.Lists.{some, Each}
use Rattle.words.specs.Buffers.{in_turn}
use Rattle.words.specs.Numbers.{No, no, first_of}
use Rattle.layout.specs.Bits as bits
use Rattle.layout.specs.Masks.{point_width}
use Rattle.layout.specs.MixedMasks.{reflector_width, most_reflectors}
use Rattle.layout.specs.Layout.{contour}
use Rattle.layout.specs.Mixed.{MixedFields, layout_mixed, MixedAcceptable}
use Rattle.reader.specs.declared.MixedPart.{MixedPart}
use Rattle.reader.specs.Said.{At}
use Rattle.reader.specs.Readings.{read_of}
use Rattle.reader.specs.Mixed.{mixed_mask_in, refused_mixed, read_mixed_of, mixed_place_numbers}
use Rattle.reader.specs.MixedParts.{head_of, MixedBelongs}
use Rattle.reader.specs.MixedStretches.{mixed_stretch_refusal_of, reflector_refusal_of, mixed_stretch_of, mixed_stretch_start, reflectors_read}
use Rattle.reader.specs.MixedStretches.{reflector_of, reflectors_of, mixed_fields_in, words_before_points, words_before_reflectors, mixed_together}

-- the reader takes a list of words exactly when it is the layout of such fields (rule 5.22)
abbrev pub MixedAcceptsExactly : Type 0
MixedAcceptsExactly =
    (ws : List ℕ) → ((read_mixed_of ws).refusal ≡ 0) ↔ ((f : MixedFields) × MixedAcceptable f × (ws ≡ layout_mixed f))

-- the words put together again from an accepted reading are the words given (rule 5.15)
abbrev pub MixedPutTogether : Type 0
MixedPutTogether = (ws : List ℕ) → (read_mixed_of ws).refusal ≡ 0 → mixed_together ws ≡ ws

-- reading a layout gives back its fields (rule 5.23)
abbrev pub MixedReadsBack : Type 0
MixedReadsBack =
    (f : MixedFields) → MixedAcceptable f
    → ((read_mixed_of (layout_mixed f)).refusal ≡ 0) × (mixed_fields_in (layout_mixed f) (read_mixed_of (layout_mixed f)) ≡ f)

-- two records of fields with equal words are equal (rule 5.15)
abbrev pub MixedOneReading : Type 0
MixedOneReading = (f g : MixedFields) → MixedAcceptable f → MixedAcceptable g → layout_mixed f ≡ layout_mixed g → f ≡ g

-- no list of words is taken by both readers (rule 5.22)
abbrev pub OneKind : Type 0
OneKind = (ws : List ℕ) → (read_of ws).refusal ≡ 0 → (read_mixed_of ws).refusal ≡ 0 → ⊥

-- words that are laid out up to where they end, behind the first four: more of them would make a mixed profile (rule 6.1, number 15)
abbrev pub MixedEndEarly : List ℕ → Type 0
MixedEndEarly ws =
    (4 ≤ length ws) × ((f : MixedFields) × (more : List ℕ) × MixedAcceptable f × T (some more) × (ws ++ more ≡ layout_mixed f))

-- a mixed profile, and more words behind it (rule 6.1, number 16)
abbrev pub MixedLeftOver : List ℕ → Type 0
MixedLeftOver ws = (f : MixedFields) × (more : List ℕ) × MixedAcceptable f × T (some more) × (ws ≡ layout_mixed f ++ more)

-- a mixed profile's words up to the count, which is there and over 64, whatever stands behind it (rule 6.1, number 27)
abbrev pub TooMany : List ℕ → Type 0
TooMany ws =
    (f : MixedFields) × (n : ℕ) × (rest : List ℕ)
    × MixedAcceptable f × T (bit f.contour.mask bits.reflectors) × (most_reflectors < n)
    × (ws ≡ head_of f ++ contour f.contour ++ (n ∷ rest))

-- no mixed mask: empty, with a reserved bit, or with a field of reflectors and not their number (rule 2.11)
abbrev pub no_mixed_mask : ℕ → Bool
no_mixed_mask mask =
    eqb mask 0
    || bit mask 14 || bit mask 15 || bit mask 17
    || bit mask 23 || bit mask 24 || bit mask 25 || bit mask 26 || bit mask 27 || bit mask 28 || bit mask 29 || bit mask 30 || bit mask 31
    || ((bit mask 18 || bit mask 19 || bit mask 20 || bit mask 21 || bit mask 22) && not (bit mask 16))

-- the table of the head's numbers, in their order (rule 6.1)
abbrev pub mixed_numbers : List ℕ → List No
mixed_numbers ws =
    let mask = get_or ws 1 0 * 65536 + get_or ws 2 0 in
    let info = get_or ws 3 0 in
    no 12 (eqb (length ws) 0 || not (eqb (get_or ws 0 0) 0x9301))
    ∷ no 13 (ltb (length ws) 4)
    ∷ no 22 (no_mixed_mask mask)
    ∷ no 23 (not (eqb (info / 256) 1))
    ∷ no 24 (ltb (info % 256) 1 || ltb 8 (info % 256))
    ∷ no 14 ((bit mask 8 || bit mask 9 || bit mask 10) && not (bit mask 5))
    ∷ []

-- each number of the reader is given exactly then: one of the table where it is the first that is due; 27, 15 and 16, which come behind them
-- (rule 6.1)
pub record MixedNumbered (ws : List ℕ) : Type 0 where
  pub by_head : Each (λ (n : No). ((read_mixed_of ws).refusal ≡ n.number) ↔ (first_of (mixed_numbers ws) ≡ n.number)) (mixed_numbers ws)
  pub many : ((read_mixed_of ws).refusal ≡ 27) ↔ TooMany ws
  pub early : ((read_mixed_of ws).refusal ≡ 15) ↔ MixedEndEarly ws
  pub over : ((read_mixed_of ws).refusal ≡ 16) ↔ MixedLeftOver ws

abbrev pub MixedRefusalsExactly : Type 0
MixedRefusalsExactly = (ws : List ℕ) → MixedNumbered ws

-- every word of a mixed profile belongs to one part, and to no other (rule 5.25)
pub record OneMixedPart (f : MixedFields) (index : ℕ) : Type 0 where
  pub part : MixedPart
  pub belongs : MixedBelongs f index part
  pub only : (p : MixedPart) → MixedBelongs f index p → p ≡ part

abbrev pub MixedPartsTile : Type 0
MixedPartsTile = (f : MixedFields) → MixedAcceptable f → (index : ℕ) → index < length (layout_mixed f) → OneMixedPart f index

-- the first missing word belongs to the part: in a mixed profile that the words may go on to be, and in every one that begins with them
-- (rule 5.25)
pub record MixedEndsIn (ws : List ℕ) (p : MixedPart) : Type 0 where
  pub in_one : (f : MixedFields) × (more : List ℕ) × MixedAcceptable f × (ws ++ more ≡ layout_mixed f) × MixedBelongs f (length ws) p
  pub in_every : (f : MixedFields) (more : List ℕ) → MixedAcceptable f → ws ++ more ≡ layout_mixed f → MixedBelongs f (length ws) p

-- with 15 there is a place, at the index that is the number of the words, and its part is right; with every other number there is none
-- (rule 5.25)
pub record MixedEnding (ws : List ℕ) : Type 0 where
  pub there : (read_mixed_of ws).refusal ≡ 15 → (p : MixedPart) × ((read_mixed_of ws).place ≡ At (length ws) p) × MixedEndsIn ws p
  pub nowhere : ((read_mixed_of ws).refusal ≡ 15 → ⊥) → (mixed_place_numbers (read_mixed_of ws).place).part ≡ 0

abbrev pub MixedEndsPlaced : Type 0
MixedEndsPlaced = (ws : List ℕ) → MixedEnding ws

-- of a stretch or a reflector, with its number: the reader's where it has one, else 17 exactly where there is none at the place (rule 5.24)
pub record PlacedBelow (ws : List ℕ) (number many : ℕ) (place : ℕ) : Type 0 where
  pub words_first : ((read_mixed_of ws).refusal ≡ 0 → ⊥) → number ≡ (read_mixed_of ws).refusal
  pub not_below : (read_mixed_of ws).refusal ≡ 0 → many ≤ place → number ≡ 17
  pub below : (read_mixed_of ws).refusal ≡ 0 → place < many → number ≡ 0

abbrev pub MixedStretchNumbers : Type 0
MixedStretchNumbers = (ws : List ℕ) (place : ℕ) → PlacedBelow ws (mixed_stretch_refusal_of ws place) (read_mixed_of ws).count place

abbrev pub ReflectorNumbers : Type 0
ReflectorNumbers = (ws : List ℕ) (place : ℕ) → PlacedBelow ws (reflector_refusal_of ws place) (reflectors_read (read_mixed_of ws)) place

-- a reading with a number for no has nothing else but the place, and what is refused has no word (rules 5.14 and 5.24)
pub record MixedBlank (ws : List ℕ) : Type 0 where
  pub reading : ((read_mixed_of ws).refusal ≡ 0 → ⊥) → read_mixed_of ws ≡ refused_mixed (read_mixed_of ws).refusal (read_mixed_of ws).place
  pub stretch : (place : ℕ) → (mixed_stretch_refusal_of ws place ≡ 0 → ⊥) → mixed_stretch_of ws place ≡ []
  pub reflector : (place : ℕ) → (reflector_refusal_of ws place ≡ 0 → ⊥) → reflector_of ws place ≡ []
  pub reflectors : ((read_mixed_of ws).refusal ≡ 0 → ⊥) → reflectors_of ws ≡ []

abbrev pub MixedRefusalsGiveNothing : Type 0
MixedRefusalsGiveNothing = (ws : List ℕ) → MixedBlank ws

-- no number of points, or no word of a point: the stretch is empty (rule 5.10)
abbrev pub MixedNoPoints : Type 0
MixedNoPoints =
    (ws : List ℕ) (place : ℕ) → place < (read_mixed_of ws).count
    → (bit (mixed_mask_in ws) bits.points ≡ false) ⊎ (point_width (mixed_mask_in ws) ≡ 0)
    → mixed_stretch_of ws place ≡ []

-- a sector's points stand at the place reached, whether there are any or not (rule 5.23)
abbrev pub MixedStandsAtPlace : Type 0
MixedStandsAtPlace =
    (ws : List ℕ) (place : ℕ) → place < (read_mixed_of ws).count
    → mixed_stretch_start ws place ≡ length (words_before_points ws (read_mixed_of ws) place)

-- the reflectors of an accepted reading stand behind all that is in front of them; together they are the words of each in turn, and each has
-- as many as the mask says (rules 5.23 and 5.24)
pub record ReflectorsTile (ws : List ℕ) : Type 0 where
  pub start : (read_mixed_of ws).start ≡ length (words_before_reflectors ws (read_mixed_of ws))
  pub one_after_another : reflectors_of ws ≡ in_turn (reflector_of ws) (reflectors_read (read_mixed_of ws))
  pub wide : (place : ℕ) → place < reflectors_read (read_mixed_of ws) → length (reflector_of ws place) ≡ reflector_width (mixed_mask_in ws)

abbrev pub ReflectorsInTurn : Type 0
ReflectorsInTurn = (ws : List ℕ) → (read_mixed_of ws).refusal ≡ 0 → ReflectorsTile ws
