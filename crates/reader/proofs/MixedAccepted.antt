-- The ways a reading of a mixed profile goes, each with the steps that gave it.
use Prim.Native.Nat.{ℕ, ◌*◌, ◌/◌, ◌≤◌, ◌<◌}
use mathlib.Core.Path.{◌≡◌, refl, ◌∙◌, ap}
use mathlib.Core.List.{List, [], ◌∷◌}
use mathlib.Core.Bool.{Bool, true, false}
use native.Mathlib.Omega.{arith}
use lib.Dec.{eqb, leb, ltb}
use lib.ListN.{length, drop}
use borrow.Author.Tests.{eq-eqb, ne_eqb, eqb-true, eqb-false, leb-true, leb-false, ltb-true, ltb-false, le-leb, lt-leb, lt-ltb, le-ltb}
use Rattle.std.specs.Prelude.{if◌then◌else◌, Option}
use Rattle.words.specs.Bits.{bit}
use Rattle.words.specs.Words.{number_of}
use Rattle.words.specs.Parse.{Got, short, got, word}
use Rattle.layout.specs.Bits as bits
use Rattle.layout.specs.MixedMasks.{reflector_width, most_reflectors}
use Rattle.layout.specs.Mixed.{mixed_head_length}
use Rattle.reader.specs.declared.SectorReading.{SectorReading}
use Rattle.reader.specs.declared.MixedPart.TheVariants.{Contour, Count, Reflector}
use Rattle.reader.specs.Said.{Nowhere, At, MixedSaid}
use Rattle.reader.specs.Endings.{part_missing}
use Rattle.reader.specs.Readings.{Body, body}
use Rattle.reader.specs.Mixed.{mixed_mask_in, mixed_count_in, mixed_head_refusal, plain_of, refused_mixed, accepted_mixed}
use Rattle.reader.specs.Mixed.{mixed_left, with_reflectors, with_count, with_contour, mixed_body_of, read_mixed_of}

-- what the contour's format finds behind the first four words, and what the word of bit 16 is behind it
abbrev pub contour_found : List ℕ → Got (Body SectorReading)
contour_found ws = (body (mixed_mask_in ws) (mixed_count_in ws)).parse mixed_head_length (drop mixed_head_length ws)

abbrev pub count_found : List ℕ → ℕ → List ℕ → Got (Option ℕ)
count_found ws place rest = word (bit (mixed_mask_in ws) bits.reflectors) place rest

-- how many words the reflectors have
abbrev pub reflector_words : List ℕ → Option ℕ → ℕ
reflector_words ws n = number_of n * reflector_width (mixed_mask_in ws)

-- a head that passes and a contour that is read, with some words left
pub record ContourParsed (ws rest : List ℕ) : Type 0 where
  pub head : mixed_head_refusal ws ≡ 0
  pub value : Body SectorReading
  pub place : ℕ
  pub parsed : contour_found ws ≡ got value place rest

-- the word of bit 16 besides
pub record CountParsed (ws rest : List ℕ) : Type 0 where
  pub behind : List ℕ
  pub contour : ContourParsed ws behind
  pub number : Option ℕ
  pub start : ℕ
  pub parsed : count_found ws contour.place behind ≡ got number start rest

-- the words of as many reflectors besides, with some left, and what the reader gives then
pub record MixedParsed (ws rest : List ℕ) : Type 0 where
  pub reflectors : List ℕ
  pub count : CountParsed ws reflectors
  pub few : number_of count.number ≤ most_reflectors
  pub there : reflector_words ws count.number ≤ length reflectors
  pub left : drop (reflector_words ws count.number) reflectors ≡ rest
  pub reading : read_mixed_of ws ≡ mixed_left (accepted_mixed ws count.contour.value count.number count.start) rest

-- none is left
abbrev pub MixedAccepted : List ℕ → Type 0
MixedAccepted ws = MixedParsed ws []

-- the head is refused; the words end early in the contour or at the word of bit 16; that says too many; the words end early in the reflectors;
-- some are left over; or the reading is accepted
pub data MixedOutcome (ws : List ℕ) : MixedSaid → Type 0 where
  refused : (mixed_head_refusal ws ≡ 0 → ⊥) → MixedOutcome ws (refused_mixed (mixed_head_refusal ws) Nowhere)
  cut_contour : mixed_head_refusal ws ≡ 0 → contour_found ws ≡ short
      → MixedOutcome ws (refused_mixed 15 (At (length ws) (Contour (part_missing (mixed_mask_in ws) (mixed_count_in ws) (plain_of ws)))))
  cut_count : {rest : List ℕ} (s : ContourParsed ws rest) → count_found ws s.place rest ≡ short
      → MixedOutcome ws (refused_mixed 15 (At (length ws) Count))
  too_many : {rest : List ℕ} (s : CountParsed ws rest) → most_reflectors < number_of s.number → MixedOutcome ws (refused_mixed 27 Nowhere)
  cut_reflectors : {rest : List ℕ} (s : CountParsed ws rest) → number_of s.number ≤ most_reflectors → length rest < reflector_words ws s.number
      → MixedOutcome ws (refused_mixed 15 (At (length ws) (Reflector (length rest / reflector_width (mixed_mask_in ws)))))
  over : {w : ℕ} {rest : List ℕ} → MixedParsed ws (w ∷ rest) → MixedOutcome ws (refused_mixed 16 Nowhere)
  whole : (s : MixedAccepted ws) → MixedOutcome ws (accepted_mixed ws s.count.contour.value s.count.number s.count.start)

-- the steps, one after another, by what each finds
module _ (ws : List ℕ) where
  pub by_mixed_head : (mixed_head_refusal ws ≡ 0 → ⊥) → read_mixed_of ws ≡ refused_mixed (mixed_head_refusal ws) Nowhere
  unfolding read_mixed_of
  by_mixed_head h = rw (ne_eqb (mixed_head_refusal ws) 0 h)

  pub by_contour : mixed_head_refusal ws ≡ 0 → {g : Got (Body SectorReading)} → contour_found ws ≡ g → read_mixed_of ws ≡ with_contour ws g
  unfolding read_mixed_of mixed_body_of
  by_contour h e = rw (eq-eqb (mixed_head_refusal ws) 0 h) (ap (with_contour ws) e)

  pub by_count : {rest : List ℕ} (s : ContourParsed ws rest) {g : Got (Option ℕ)} → count_found ws s.place rest ≡ g
      → read_mixed_of ws ≡ with_count ws s.value g
  by_count s e = by_contour s.head s.parsed ∙ ap (with_count ws s.value) e

  module _ {rest : List ℕ} (s : CountParsed ws rest) where
    by_number : {t : Bool} → ltb most_reflectors (number_of s.number) ≡ t
        → read_mixed_of ws ≡ (if t then refused_mixed 27 Nowhere else with_reflectors ws s.contour.value s.number s.start rest)
    by_number e = by_count s.contour s.parsed ∙ rw e

    pub by_many : most_reflectors < number_of s.number → read_mixed_of ws ≡ refused_mixed 27 Nowhere
    by_many h = by_number (lt-ltb most_reflectors (number_of s.number) h)

    module _ (few : number_of s.number ≤ most_reflectors) where
      pub by_short : length rest < reflector_words ws s.number
          → read_mixed_of ws ≡ refused_mixed 15 (At (length ws) (Reflector (length rest / reflector_width (mixed_mask_in ws))))
      by_short h =
          by_number (le-ltb most_reflectors (number_of s.number) few) ∙ rw (lt-leb (reflector_words ws s.number) (length rest) h)

      pub by_left : reflector_words ws s.number ≤ length rest → {more : List ℕ} → drop (reflector_words ws s.number) rest ≡ more
          → read_mixed_of ws ≡ mixed_left (accepted_mixed ws s.contour.value s.number s.start) more
      by_left h e =
          by_number (le-ltb most_reflectors (number_of s.number) few) ∙ rw (le-leb (reflector_words ws s.number) (length rest) h, e)

  pub mixed_outcome : MixedOutcome ws (read_mixed_of ws)
  mixed_outcome = at_head (eqb (mixed_head_refusal ws) 0) refl
    where
      at_end : {rest : List ℕ} (s : CountParsed ws rest) → number_of s.number ≤ most_reflectors → reflector_words ws s.number ≤ length rest
          → (more : List ℕ) → drop (reflector_words ws s.number) rest ≡ more
          → MixedOutcome ws (mixed_left (accepted_mixed ws s.contour.value s.number s.start) more)
      at_end s few there [] e =
          whole (record { reflectors = _; count = s; few = few; there = there; left = e; reading = by_left s few there e })
      at_end s few there (w ∷ more) e =
          over (record { reflectors = _; count = s; few = few; there = there; left = e; reading = by_left s few there e })

      at_reflectors : {rest : List ℕ} (s : CountParsed ws rest) → number_of s.number ≤ most_reflectors
          → (t : Bool) → leb (reflector_words ws s.number) (length rest) ≡ t → MixedOutcome ws (read_mixed_of ws)
      at_reflectors s few false e = let h = leb-false _ _ e in rw (by_short s few h) (cut_reflectors s few h)
      at_reflectors s few true e = let h = leb-true _ _ e in rw (by_left s few h refl) (at_end s few h _ refl)

      at_number : {rest : List ℕ} (s : CountParsed ws rest) → (t : Bool) → ltb most_reflectors (number_of s.number) ≡ t
          → MixedOutcome ws (read_mixed_of ws)
      at_number s true e = let h = ltb-true most_reflectors (number_of s.number) e in rw (by_many s h) (too_many s h)
      at_number s false e = at_reflectors s (ltb-false most_reflectors (number_of s.number) e) _ refl

      at_count : {rest : List ℕ} (s : ContourParsed ws rest) (g : Got (Option ℕ)) → count_found ws s.place rest ≡ g
          → MixedOutcome ws (read_mixed_of ws)
      at_count s short e = rw (by_count s e) (cut_count s e)
      at_count s (got n at rest) e = at_number (record { behind = _; contour = s; number = n; start = at; parsed = e }) _ refl

      at_contour : mixed_head_refusal ws ≡ 0 → (g : Got (Body SectorReading)) → contour_found ws ≡ g → MixedOutcome ws (read_mixed_of ws)
      at_contour h short e = rw (by_contour h e) (cut_contour h e)
      at_contour h (got a at rest) e = at_count (record { head = h; value = a; place = at; parsed = e }) _ refl

      at_head : (t : Bool) → eqb (mixed_head_refusal ws) 0 ≡ t → MixedOutcome ws (read_mixed_of ws)
      at_head false e = let h = eqb-false (mixed_head_refusal ws) 0 e in rw (by_mixed_head h) (refused h)
      at_head true e = at_contour (eqb-true (mixed_head_refusal ws) 0 e) _ refl

  pub mixed_accepted : (read_mixed_of ws).refusal ≡ 0 → MixedAccepted ws
  mixed_accepted = go mixed_outcome
    where
      go : {r : MixedSaid} → MixedOutcome ws r → r.refusal ≡ 0 → MixedAccepted ws
      go (refused h) e = absurd (h e)
      go (cut_contour h p) e = absurd (omega arith)
      go (cut_count s p) e = absurd (omega arith)
      go (too_many s h) e = absurd (omega arith)
      go (cut_reflectors s few h) e = absurd (omega arith)
      go (over s) e = absurd (omega arith)
      go (whole s) e = s
