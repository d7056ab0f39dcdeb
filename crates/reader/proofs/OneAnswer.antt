-- An answer of a reader is known by what it says, and for all words there is one that says what it has to.
use Prim.Native.Nat.{ℕ, ◌/◌}
use mathlib.Core.Path.{◌≡◌, refl, sym, ◌∙◌, ap}
use mathlib.Core.List.{List}
use lib.Dec.{eqb}
use lib.ListN.{length, get_or}
use borrow.Author.Tests.{ne_eqb}
use Rattle.std.specs.Prelude.{if◌then◌else◌, Option, Result, Ok, Err}
use Rattle.words.specs.Words.{number_of}
use Rattle.layout.specs.declared.Kind.{Kind}
use Rattle.layout.specs.MixedMasks.{reflector_width}
use Rattle.reader.specs.declared.Part.{Part}
use Rattle.reader.specs.declared.MixedPart.{MixedPart}
use Rattle.reader.specs.declared.MixedPart.TheVariants.{Contour, Count, Reflector}
use Rattle.reader.specs.declared.SectorReading.{SectorReading}
use Rattle.reader.specs.declared.ContourReading.{ContourReading}
use Rattle.reader.specs.declared.Reading.{Reading}
use Rattle.reader.specs.declared.MixedReading.{MixedReading}
use Rattle.reader.specs.declared.ReadRefusal.{ReadRefusal}
use Rattle.reader.specs.declared.ReadRefusal.TheVariants.{NoProfile, ShortHead, Mask, Layers, SectorCount, Uncounted, EndsEarly, LeftOver}
use Rattle.reader.specs.declared.ReadRefusal.TheVariants.{ManyReflectors, NoSuchPlace}
use Rattle.reader.specs.Said.{Place, Nowhere, At, Said, MixedSaid, refusal_number, refusal_place, number_said, place_said, SaysWhy}
use Rattle.reader.specs.Endings.{part_missing}
use Rattle.reader.specs.Readings.{mask_in, count_in, sectors_in, padded, read_of, said, ReadSays}
use Rattle.reader.specs.Mixed.{mixed_mask_in, mixed_count_in, plain_of, read_mixed_of, mixed_said, ReadMixedSays}
use Rattle.reader.specs.Stretches.{StretchRefusalSays}
use Rattle.reader.specs.MixedStretches.{MixedStretchRefusalSays, ReflectorRefusalSays}
use Rattle.reader.specs.Lent.{found_below}
use Rattle.reader.proofs.Heads.{some_number, head_named}
use Rattle.reader.proofs.Accepted as plain
use Rattle.reader.proofs.MixedAccepted as mixed
use Rattle.reader.proofs.Readouts.{refused_head}
use Rattle.reader.proofs.MixedReadouts.{mixed_refused_head}
use Rattle.reader.proofs.PointPlaces.{stretch_first, stretch_next}
use Rattle.reader.proofs.MixedPoints.{mixed_stretch_first, mixed_stretch_next}
use Rattle.reader.proofs.ReflectorPlaces.{reflector_first, reflector_next}

module _ {P : Type 0} where
  -- the refusal of a number and a place
  abbrev refusal_of : ℕ → Place P → ReadRefusal P
  refusal_of n (At index part) = EndsEarly index part
  refusal_of n Nowhere =
      if eqb n 12 then NoProfile else
      if eqb n 13 then ShortHead else
      if eqb n 14 then Uncounted else
      if eqb n 16 then LeftOver else
      if eqb n 22 then Mask else
      if eqb n 23 then Layers else
      if eqb n 24 then SectorCount else
      if eqb n 27 then ManyReflectors else NoSuchPlace

  refusal_back : (e : ReadRefusal P) → refusal_of (refusal_number e) (refusal_place e) ≡ e
  refusal_back NoProfile = refl
  refusal_back ShortHead = refl
  refusal_back Uncounted = refl
  refusal_back (EndsEarly index part) = refl
  refusal_back LeftOver = refl
  refusal_back NoSuchPlace = refl
  refusal_back Mask = refl
  refusal_back Layers = refl
  refusal_back SectorCount = refl
  refusal_back ManyReflectors = refl

  -- an answer, from its number, its place, and the value that it has where nothing is refused
  abbrev answer_of : {A : Type 0} → ℕ → Place P → A → Result A (ReadRefusal P)
  answer_of n place a = if eqb n 0 then Ok a else Err (refusal_of n place)

  err_back : {A : Type 0} (e : ReadRefusal P) (a : A) → answer_of (refusal_number e) (refusal_place e) a ≡ Err e
  err_back e a = rw (ne_eqb (refusal_number e) 0 (some_number e), refusal_back e)

  why_back : (r : Result (Unit {0}) (ReadRefusal P)) → answer_of (number_said r) (place_said r) tt ≡ r
  why_back (Ok tt) = refl
  why_back (Err e) = err_back e tt

  -- two that say why with one number and one place are one
  pub one_why : {number : ℕ} {place : Place P} (a b : Result (Unit {0}) (ReadRefusal P)) → SaysWhy number place a → SaysWhy number place b → a ≡ b
  one_why a b h k =
      sym (why_back a) ∙ (λ i. answer_of ((h.number_is ∙ sym k.number_is) i) ((h.place_is ∙ sym k.place_is) i) tt) ∙ why_back b

-- what has an inverse on its left takes no two to one
one_by : {A B : Type 0} (f : A → B) (g : B → A) → ((a : A) → g (f a) ≡ a) → (a b : A) → f a ≡ f b → a ≡ b
one_by f g back a b h = sym (back a) ∙ ap g h ∙ back b

-- the contour of either reading, from what it says
abbrev contour_of : (sent counter layer : Option ℕ) (count : ℕ) (sectors : List SectorReading) (high low : Option ℕ) → ContourReading
contour_of sent counter layer count sectors high low =
    record { sent = sent; counter = counter; layer = layer; count = count; sectors = sectors; high = high; low = low }

-- a reading, from what it says
abbrev reading_of : Said → Reading
reading_of s =
    record {
      mask = number_of s.mask;
      contour = contour_of s.sent s.counter s.layer s.count s.sectors s.high s.low;
    }

abbrev unsaid : Said → Result Reading (ReadRefusal Part)
unsaid s = answer_of s.refusal s.place (reading_of s)

-- an answer, from what it says
pub unsaid_said : (r : Result Reading (ReadRefusal Part)) → unsaid (said r) ≡ r
unsaid_said (Ok r) = refl
unsaid_said (Err e) = err_back e _

pub said_one : (a b : Result Reading (ReadRefusal Part)) → said a ≡ said b → a ≡ b
said_one = one_by said unsaid unsaid_said

abbrev mixed_reading_of : MixedSaid → MixedReading
mixed_reading_of s =
    record {
      upper = number_of s.upper;
      lower = number_of s.lower;
      contour = contour_of s.sent s.counter s.layer s.count s.sectors s.high s.low;
      reflectors = s.reflectors;
      start = s.start;
      width = s.width;
    }

abbrev mixed_unsaid : MixedSaid → Result MixedReading (ReadRefusal MixedPart)
mixed_unsaid s = answer_of s.refusal s.place (mixed_reading_of s)

pub mixed_unsaid_said : (r : Result MixedReading (ReadRefusal MixedPart)) → mixed_unsaid (mixed_said r) ≡ r
mixed_unsaid_said (Ok r) = refl
mixed_unsaid_said (Err e) = err_back e _

pub mixed_said_one : (a b : Result MixedReading (ReadRefusal MixedPart)) → mixed_said a ≡ mixed_said b → a ≡ b
mixed_said_one = one_by mixed_said mixed_unsaid mixed_unsaid_said

-- what each reader answers
pub some_reading : (ws : List ℕ) → (r : Result Reading (ReadRefusal Part)) × ReadSays ws r
some_reading ws = go (plain.outcome ws) refl
  where
    go : {s : Said} → plain.Outcome ws s → s ≡ read_of ws → (r : Result Reading (ReadRefusal Part)) × ReadSays ws r
    go (plain.refused h) e = let n = head_named Kind.Plain ws h in (Err n.0, refused_head ws n.0 n.1)
    go (plain.cut h p) e = (Err (EndsEarly (length ws) (part_missing (mask_in ws) (count_in ws) ws)), e)
    go (plain.over s) e = (Err LeftOver, e)
    go (plain.whole s) e = (
      Ok (
          record {
            mask = mask_in ws;
            contour =
                record {
                  sent = s.value.0;
                  counter = s.value.1.0;
                  layer = s.value.1.1.0;
                  count = count_in ws;
                  sectors = padded (sectors_in s.value);
                  high = s.value.1.1.1.1.0;
                  low = s.value.1.1.1.1.1.0;
                };
          }),
      e,
    )

pub some_mixed_reading : (ws : List ℕ) → (r : Result MixedReading (ReadRefusal MixedPart)) × ReadMixedSays ws r
some_mixed_reading ws = go (mixed.mixed_outcome ws) refl
  where
    go : {s : MixedSaid} → mixed.MixedOutcome ws s → s ≡ read_mixed_of ws → (r : Result MixedReading (ReadRefusal MixedPart)) × ReadMixedSays ws r
    go (mixed.refused h) e = let n = head_named Kind.Mixed ws h in (Err n.0, mixed_refused_head ws n.0 n.1)
    go (mixed.cut_contour h p) e = (
      Err (EndsEarly (length ws) (Contour (part_missing (mixed_mask_in ws) (mixed_count_in ws) (plain_of ws)))),
      e,
    )
    go (mixed.cut_count s p) e = (Err (EndsEarly (length ws) Count), e)
    go (mixed.too_many s h) e = (Err ManyReflectors, e)
    go (mixed.cut_reflectors {rest = rest} s few h) e = (
      Err (EndsEarly (length ws) (Reflector (length rest / reflector_width (mixed_mask_in ws)))),
      e,
    )
    go (mixed.over s) e = (Err LeftOver, e)
    go (mixed.whole s) e = (
      Ok (
          let a = s.count.contour.value in
          record {
            upper = get_or ws 1 0;
            lower = get_or ws 2 0;
            contour =
                record {
                  sent = a.0;
                  counter = a.1.0;
                  layer = a.1.1.0;
                  count = mixed_count_in ws;
                  sectors = padded (sectors_in a);
                  high = a.1.1.1.1.0;
                  low = a.1.1.1.1.1.0;
                };
            reflectors = s.count.number;
            start = s.count.start;
            width = reflector_width (mixed_mask_in ws);
          }),
      e,
    )

-- and why a call hands nothing back
pub some_stretch_refusal : (ws : List ℕ) (place : ℕ) → (r : Result (Unit {0}) (ReadRefusal Part)) × StretchRefusalSays ws place r
some_stretch_refusal ws place = let t = some_reading ws in go t.0 t.1
  where
    go : (a : Result Reading (ReadRefusal Part)) → ReadSays ws a → (r : Result (Unit {0}) (ReadRefusal Part)) × StretchRefusalSays ws place r
    go (Ok r) is = (found_below place r.contour.count, stretch_next ws place r is)
    go (Err e) is = (Err e, stretch_first ws place e is)

pub some_mixed_stretch_refusal : (ws : List ℕ) (place : ℕ)
    → (r : Result (Unit {0}) (ReadRefusal MixedPart)) × MixedStretchRefusalSays ws place r
some_mixed_stretch_refusal ws place = let t = some_mixed_reading ws in go t.0 t.1
  where
    go : (a : Result MixedReading (ReadRefusal MixedPart)) → ReadMixedSays ws a
        → (r : Result (Unit {0}) (ReadRefusal MixedPart)) × MixedStretchRefusalSays ws place r
    go (Ok r) is = (found_below place r.contour.count, mixed_stretch_next ws place r is)
    go (Err e) is = (Err e, mixed_stretch_first ws place e is)

pub some_reflector_refusal : (ws : List ℕ) (place : ℕ) → (r : Result (Unit {0}) (ReadRefusal MixedPart)) × ReflectorRefusalSays ws place r
some_reflector_refusal ws place = let t = some_mixed_reading ws in go t.0 t.1
  where
    go : (a : Result MixedReading (ReadRefusal MixedPart)) → ReadMixedSays ws a
        → (r : Result (Unit {0}) (ReadRefusal MixedPart)) × ReflectorRefusalSays ws place r
    go (Ok r) is = (found_below place (number_of r.reflectors), reflector_next ws place r is)
    go (Err e) is = (Err e, reflector_first ws place e is)
