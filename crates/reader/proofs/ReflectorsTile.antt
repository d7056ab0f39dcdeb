-- The reflectors of an accepted reading: where they stand, and that together they are the words of each in turn.
use Prim.Native.Nat.{ℕ, zero, suc, ◌+◌, ◌-◌, ◌*◌, ◌≤◌, ◌<◌}
use mathlib.Core.Path.{◌≡◌, sym, ◌∙◌, ap, subst}
use mathlib.Core.List.{List}
use native.Mathlib.Nat.{zero-mul, suc-mul, mul-le-mul_right}
use native.Mathlib.Omega.{arith}
use lib.ListN.{length, take, drop, length-drop, length-append}
use lib.Seq.{length-take-le, take-add, drop-drop}
use borrow.Author.Tests.{lt-ltb}
use Rattle.std.specs.Prelude.{option_to_list}
use Rattle.words.specs.Bits.{bit}
use Rattle.words.specs.Words.{number_of}
use Rattle.words.specs.Buffers.{in_turn}
use Rattle.words.specs.Format.{Format, one}
use Rattle.words.proofs.Lawful.{Sound, KeptOf, one_lawful}
use Rattle.words.proofs.Puts.{turns_same}
use Rattle.words.specs.Parse.{word}
use Rattle.layout.specs.Bits as bits
use Rattle.layout.specs.Fields.{SectorFields}
use Rattle.layout.specs.Layout.{contour}
use Rattle.layout.specs.MixedMasks.{reflector_width}
use Rattle.layout.specs.Mixed.{mixed_head_length}
use Rattle.reader.specs.declared.SectorReading.{SectorReading}
use Rattle.reader.specs.Said.{MixedSaid}
use Rattle.reader.specs.Readings.{Body, body}
use Rattle.reader.specs.Mixed.{mixed_mask_in, mixed_count_in, accepted_mixed}
use Rattle.reader.specs.MixedStretches.{reflectors_of, reflector_of, contour_in, words_before_reflectors}
use Rattle.reader.specs.MixedDemands.{ReflectorsInTurn}
use Rattle.reader.proofs.Accepted.{sound_of}
use Rattle.reader.proofs.FoundSectors.{found_sound, found_kept, found_all}
use Rattle.reader.proofs.Laid.{rest_put}
use Rattle.reader.proofs.MixedAccepted.{MixedAccepted, CountParsed, mixed_accepted}

-- words from a place on are blocks of one width in turn
blocks : (width : ℕ) (ws : List ℕ) (start n : ℕ) → take (n * width) (drop start ws) ≡ in_turn (λ r. take width (drop (start + r * width) ws)) n
unfolding in_turn
blocks width ws start zero = rw zero-mul
blocks width ws start (suc n) = rw (suc-mul, take-add, blocks width ws start n, drop-drop)

-- the word of bit 16, behind a contour that is read
pub number_sound : {ws rest : List ℕ} (s : CountParsed ws rest)
    → Sound (one (bit (mixed_mask_in ws) bits.reflectors)) ws s.contour.place s.number s.start rest
number_sound {ws} s =
    let on = bit (mixed_mask_in ws) bits.reflectors in
    let behind = (found_sound ws (mixed_mask_in ws) (mixed_count_in ws) mixed_head_length s.contour.parsed).rest in
    sound_of (one on) (one_lawful on) ws s.contour.place (ap (word on s.contour.place) behind ∙ s.parsed)

-- it begins behind the contour, and the reflectors behind it
number_start : {ws rest : List ℕ} (s : CountParsed ws rest) → s.start ≡ s.contour.place + length (option_to_list s.number)
number_start {ws} {rest} s =
    let on = bit (mixed_mask_in ws) bits.reflectors in
    let kept = subst (KeptOf s.contour.place s.behind) s.parsed ((one_lawful on).kept s.contour.place s.behind) in
    let behind = (found_sound ws (mixed_mask_in ws) (mixed_count_in ws) mixed_head_length s.contour.parsed).rest in
    let words : length s.behind ≡ length (option_to_list s.number) + length rest =
    ap length (sym behind ∙ (number_sound s).words) ∙ length-append (option_to_list s.number) rest in
    omega arith

module _ (ws : List ℕ) (s : MixedAccepted ws) where
  abbrev r : MixedSaid
  r = accepted_mixed ws s.count.contour.value s.count.number s.count.start

  abbrev n : ℕ
  n = number_of s.count.number

  abbrev width : ℕ
  width = reflector_width (mixed_mask_in ws)

  -- the contour's words, as its format lays out what was read
  abbrev format : Format (Body SectorReading) (Body SectorFields)
  format = body (mixed_mask_in ws) (mixed_count_in ws)

  contour_laid : contour (contour_in ws r) ≡ format.put (format.strip ws s.count.contour.value)
  contour_laid =
      rw (
        rest_put (mixed_mask_in ws) (mixed_count_in ws) (contour_in ws r),
        found_all ws (mixed_mask_in ws) (mixed_count_in ws) mixed_head_length s.count.contour.parsed,
      )

  contour_long : s.count.contour.place ≡ mixed_head_length + length (contour (contour_in ws r))
  contour_long =
      let found = s.count.contour.parsed in
      let words = ap length (found_sound ws (mixed_mask_in ws) (mixed_count_in ws) mixed_head_length found).words in
      let both = words ∙ length-append (format.put (format.strip ws s.count.contour.value)) s.count.behind in
      omega (arith, both, ap length contour_laid, found_kept ws (mixed_mask_in ws) (mixed_count_in ws) mixed_head_length found)

  starts : s.count.start ≡ length (words_before_reflectors ws r)
  starts = omega (arith, contour_long, number_start s.count, length-append (contour (contour_in ws r)) (option_to_list s.count.number))

  within : (place : ℕ) → place < n → width ≤ length (drop (s.count.start + place * width) ws)
  within place h =
      let there : n * width ≤ length ws - s.count.start = rw (← (number_sound s.count).rest, length-drop) at s.there in
      let next : place * width + width ≤ n * width = rw suc-mul at (mul-le-mul_right {m = suc place} {n = n} width (omega arith)) in
      rw length-drop (omega arith)

  one_of : (place : ℕ) → place < n → reflector_of ws place ≡ take width (drop (s.count.start + place * width) ws)
  unfolding reflector_of
  one_of place h = rw (s.reading, lt-ltb place n h)

  all_of : reflectors_of ws ≡ take (n * width) (drop s.count.start ws)
  unfolding reflectors_of
  all_of = rw s.reading

  in_turns : reflectors_of ws ≡ in_turn (reflector_of ws) n
  in_turns = all_of ∙ blocks width ws s.count.start n ∙ turns_same _ (reflector_of ws) n (λ i h. sym (one_of i h))

pub reflectors_in_turn : ReflectorsInTurn
reflectors_in_turn ws e =
    let s = mixed_accepted ws e in
    record {
      start = rw s.reading (starts ws s);
      one_after_another = rw s.reading (in_turns ws s);
      wide = λ place h.
          let below = rw s.reading at h in
          ap length (one_of ws s place below) ∙ length-take-le (reflector_width (mixed_mask_in ws)) _ (within ws s place below);
    }
