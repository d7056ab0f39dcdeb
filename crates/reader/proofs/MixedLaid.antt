-- The layout of a mixed profile is the format's: behind the words that depend on no bit stands a contour as its format lays it out, then the
-- word of bit 16, then the reflectors.
use Prim.Native.Nat.{ℕ, ◌≤◌}
use mathlib.Core.Path.{◌≡◌, refl, sym, ◌∙◌, ap}
use mathlib.Core.List.{List, [], ◌++◌, append_assoc, append-nil}
use mathlib.Core.Bool.{Bool}
use lib.ListN.{length, get_or, take, drop, take-append-drop}
use lib.Seq.{length-take-le}
use Rattle.std.specs.Prelude.{Option, option_to_list}
use Rattle.words.specs.Bits.{bit}
use Rattle.words.specs.Words.{number_of, Shaped}
use Rattle.words.specs.Format.{one}
use Rattle.words.proofs.Lawful.{Sound, one_lawful}
use Rattle.layout.specs.Bits as bits
use Rattle.layout.specs.declared.Kind.{Kind}
use Rattle.layout.specs.MixedMasks.{most_reflectors}
use Rattle.layout.specs.Fields.{SectorFields}
use Rattle.layout.specs.Layout.{contour}
use Rattle.layout.specs.Mixed.{MixedFields, layout_mixed, MixedAcceptable, mixed_head_length}
use Rattle.reader.specs.Readings.{Body, sectors_in, body}
use Rattle.reader.specs.Mixed.{mixed_mask_in, mixed_count_in}
use Rattle.reader.proofs.Heads.{GoodHead, good_head}
use Rattle.reader.proofs.Bodies.{body_lawful}
use Rattle.reader.proofs.Accepted.{sound_of}
use Rattle.reader.proofs.MixedAccepted.{ContourParsed, CountParsed, MixedParsed, reflector_words}
use Rattle.reader.proofs.Laid.{fields_of, first_words, acceptable, laid}

-- the words of the mask, and what stands behind the head
abbrev pub mixed_of : List ℕ → Body SectorFields → Option ℕ → List ℕ → MixedFields
mixed_of ws b n xs =
    record {
      high = get_or ws 1 0;
      low = get_or ws 2 0;
      contour = fields_of (mixed_mask_in ws) b;
      count = n;
      reflectors = xs;
    }

-- behind a head that passes
module _ (ws : List ℕ) (head : GoodHead Kind.Mixed ws) (b : Body SectorFields) (ok : (body (mixed_mask_in ws) (mixed_count_in ws)).ok b)
    (n : Option ℕ) (shaped : Shaped (bit (mixed_mask_in ws) bits.reflectors) n) (few : number_of n ≤ most_reflectors)
    (xs : List ℕ) (long : length xs ≡ reflector_words ws n) where
  pub mixed_acceptable : MixedAcceptable (mixed_of ws b n xs)
  mixed_acceptable =
      let plain = acceptable Kind.Mixed ws head b ok in
      record {
        contour = plain;
        mask = head.mask;
        few = few;
        fits = record { mask = refl; contour = plain.fits; count = shaped; reflectors = long };
      }

  -- words that go on so are laid out
  pub mixed_laid : (more rest : List ℕ)
      → drop mixed_head_length ws ++ more ≡ (body (mixed_mask_in ws) (mixed_count_in ws)).put b ++ (option_to_list n ++ (xs ++ rest))
      → ws ++ more ≡ layout_mixed (mixed_of ws b n xs) ++ rest
  mixed_laid more rest e =
      let first = first_words Kind.Mixed ws (length (sectors_in b)) in
      let line = contour (fields_of (mixed_mask_in ws) b) in
      laid Kind.Mixed ws head b ok more (option_to_list n ++ (xs ++ rest)) e
      ∙ ap (λ (l : List ℕ). first ++ l)
      (ap (λ (l : List ℕ). line ++ l) (sym (append_assoc (option_to_list n) xs rest)) ∙ sym (append_assoc line (option_to_list n ++ xs) rest))

-- what a contour that is read has
module _ {ws rest : List ℕ} (s : ContourParsed ws rest) where
  pub contour_head : GoodHead Kind.Mixed ws
  contour_head = good_head Kind.Mixed ws s.head

  pub contour_sound : Sound (body (mixed_mask_in ws) (mixed_count_in ws)) ws mixed_head_length s.value s.place rest
  contour_sound =
      sound_of (body (mixed_mask_in ws) (mixed_count_in ws)) (body_lawful (mixed_mask_in ws) (mixed_count_in ws)) ws mixed_head_length s.parsed

  abbrev pub contour_read : Body SectorFields
  contour_read = (body (mixed_mask_in ws) (mixed_count_in ws)).strip ws s.value

-- with the word of bit 16
module _ {ws rest : List ℕ} (s : CountParsed ws rest) where
  abbrev on : Bool
  on = bit (mixed_mask_in ws) bits.reflectors

  pub count_sound : Sound (one on) ws s.contour.place s.number s.start rest
  count_sound = sound_of (one on) (one_lawful on) ws s.contour.place (rw (contour_sound s.contour).rest s.parsed)

  pub behind_words : drop mixed_head_length ws
      ≡ (body (mixed_mask_in ws) (mixed_count_in ws)).put (contour_read s.contour) ++ (option_to_list s.number ++ rest)
  behind_words =
      let c = contour_sound s.contour in
      c.words
      ∙ ap (λ (l : List ℕ). (body (mixed_mask_in ws) (mixed_count_in ws)).put (contour_read s.contour) ++ l) (sym c.rest ∙ count_sound.words)

-- with the reflectors: what is read is laid out, before the words that are left
module _ {ws rest : List ℕ} (s : MixedParsed ws rest) where
  abbrev k : ℕ
  k = reflector_words ws s.count.number

  long : length (take k s.reflectors) ≡ k
  long = length-take-le k s.reflectors s.there

  abbrev pub mixed_fields : MixedFields
  mixed_fields = mixed_of ws (contour_read s.count.contour) s.count.number (take k s.reflectors)

  pub mixed_fit : MixedAcceptable mixed_fields
  mixed_fit =
      mixed_acceptable ws (contour_head s.count.contour) _ (contour_sound s.count.contour).fits s.count.number
      (count_sound s.count).fits s.few _ long

  pub mixed_laid_out : ws ≡ layout_mixed mixed_fields ++ rest
  mixed_laid_out =
      let split : s.reflectors ≡ take k s.reflectors ++ rest =
      sym (take-append-drop k s.reflectors) ∙ ap (λ (l : List ℕ). take k s.reflectors ++ l) s.left in
      let words = append-nil _ ∙ behind_words s.count
      ∙ ap (λ (l : List ℕ). (body (mixed_mask_in ws) (mixed_count_in ws)).put (contour_read s.count.contour)
      ++ (option_to_list s.count.number ++ l)) split in
      sym (append-nil ws)
      ∙ mixed_laid ws (contour_head s.count.contour) _ (contour_sound s.count.contour).fits s.count.number
      (count_sound s.count).fits s.few _ long [] rest words
