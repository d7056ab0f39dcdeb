-- The place of refusal 15 of a mixed profile: the first missing word belongs to the part that is named, in every mixed profile that begins
-- with the words.
use Prim.Native.Nat.{ℕ, suc, ◌+◌, ◌*◌, ◌/◌, ◌%◌, ◌≤◌, ◌<◌}
use mathlib.Core.Path.{◌≡◌, refl, sym, ◌∙◌, ap, subst}
use mathlib.Core.List.{List, ◌∷◌, ◌++◌}
use native.Mathlib.Omega.{arith}
use lib.ListN.{length, get_or, drop, length-drop, get_or-append}
use lib.Seq.{drop-cons, drop-append-le, get_or-drop}
use Rattle.words.specs.Bits.{bit}
use Rattle.words.specs.Words.{number_of}
use Rattle.words.specs.Parse.{short, word}
use Rattle.words.specs.Format.{Format, one}
use Rattle.words.proofs.Lawful.{Sound, one_lawful}
use Rattle.layout.specs.declared.Kind.{Kind}
use Rattle.layout.specs.Bits as bits
use Rattle.layout.specs.MixedMasks.{mixed_number, reflector_width}
use Rattle.layout.specs.Fields.{SectorFields, Fields}
use Rattle.layout.specs.Layout.{profile_code, one_layer, contour, layout}
use Rattle.layout.specs.Mixed.{MixedFields, mixed_head_length, reflector_part, layout_mixed, MixedAcceptable}
use Rattle.reader.specs.declared.SectorReading.{SectorReading}
use Rattle.reader.specs.declared.MixedPart.{MixedPart}
use Rattle.reader.specs.declared.MixedPart.TheVariants.{Contour, Count, Reflector}
use Rattle.reader.specs.Said.{At, MixedSaid}
use Rattle.reader.specs.Endings.{part_missing}
use Rattle.reader.specs.Readings.{Body, body}
use Rattle.reader.specs.Mixed.{mixed_mask_in, mixed_info_in, mixed_count_in, plain_of, mixed_place_numbers}
use Rattle.reader.specs.MixedParts.{width_of, MixedBelongs}
use Rattle.reader.specs.MixedDemands.{MixedEndsPlaced}
use Rattle.reader.proofs.Heads.{head_long, head_other}
use Rattle.reader.proofs.Bodies.{body_lawful}
use Rattle.reader.proofs.FoundSectors.{found_sound}
use Rattle.reader.proofs.Prefixes.{front_of, found_same, ends_within}
use Rattle.reader.proofs.Laid.{body_fields, rest_put, body_ok}
use Rattle.reader.proofs.Parts.{named}
use Rattle.reader.proofs.MixedPartsTile.{to_count, to_reflectors, contour_has, count_has, reflector_has}
use Rattle.reader.proofs.ReflectorsTile.{number_sound}
use Rattle.reader.proofs.MixedNumbers.{mixed_refusals_exactly}
use Rattle.reader.proofs.MixedAccepted.{contour_found, count_found, reflector_words, ContourParsed, CountParsed}
use Rattle.reader.proofs.MixedAccepted.{MixedOutcome, refused, cut_contour, cut_count, too_many, cut_reflectors, over, whole, mixed_outcome}

-- words that begin the layout of such fields
module _ (f : MixedFields) (a : MixedAcceptable f) (ws more : List ℕ) (is : ws ++ more ≡ layout_mixed f) (long : mixed_head_length ≤ length ws) where
  abbrev c : Fields
  c = f.contour

  abbrev m : ℕ
  m = c.mask

  abbrev n : ℕ
  n = length c.sectors

  -- the words that depend on no bit are those of the fields
  same_at : (k : ℕ) → k < mixed_head_length → get_or ws k 0 ≡ get_or (layout_mixed f) k 0
  same_at k h = sym (get_or-append ws more 0 k (omega arith)) ∙ ap (λ (vs : List ℕ). get_or vs k 0) is

  same_mask : mixed_mask_in ws ≡ m
  same_mask = (λ j. mixed_number (same_at 1 (omega arith) j) (same_at 2 (omega arith) j)) ∙ sym a.fits.mask

  same_info : mixed_info_in ws ≡ one_layer + n
  same_info = same_at 3 (omega arith)

  same_count : mixed_count_in ws ≡ n
  same_count = let few : n ≤ 8 = a.contour.few in rw same_info (omega arith)

  -- behind them
  behind : drop mixed_head_length ws ++ more ≡ contour c ++ reflector_part f
  behind = sym (drop-append-le mixed_head_length ws more long) ∙ ap (drop mixed_head_length) is

  abbrev format : Format (Body SectorReading) (Body SectorFields)
  format = body m n

  laid : drop mixed_head_length ws ++ more ≡ format.put (body_fields c) ++ reflector_part f
  laid = behind ∙ ap (λ (l : List ℕ). l ++ reflector_part f) (rest_put m n c)

  contour_long : length (format.put (body_fields c)) ≡ length (contour c)
  contour_long = sym (ap length (rest_put m n c))

  as_fields : format.parse mixed_head_length (drop mixed_head_length ws) ≡ contour_found ws
  as_fields = sym (λ j. (body (same_mask j) (same_count j)).parse mixed_head_length (drop mixed_head_length ws))

  -- they end within the contour: as those of a plain profile do, which has one word less
  module _ (e : contour_found ws ≡ short) where
    abbrev missing : List ℕ
    missing = drop (length (drop mixed_head_length ws)) (contour c)

    cut_short : length (drop mixed_head_length ws) < length (contour c)
    cut_short =
        rw contour_long at
        (ends_within format (body_lawful m n) ws mixed_head_length (body_fields c) more (reflector_part f) (body_ok c a.contour.fits) (as_fields ∙ e) laid)

    as_plain : plain_of ws ++ missing ≡ layout c
    as_plain =
        let rest : contour c ≡ drop mixed_head_length ws ++ missing =
        front_of (contour c) (drop mixed_head_length ws) (reflector_part f) more (sym behind) (omega (arith, cut_short)) in
        ap (λ (l : List ℕ). (profile_code ∷ mixed_mask_in ws ∷ l) ++ missing) (drop-cons ws 3 0 (omega arith))
        ∙ (λ j. profile_code ∷ same_mask j ∷ same_info j ∷ sym rest j)

    plain_long : suc (length (plain_of ws)) ≡ length ws
    plain_long = omega (arith, length-drop 3 ws)

    pub in_contour : MixedBelongs f (length ws) (Contour (part_missing (mixed_mask_in ws) (mixed_count_in ws) (plain_of ws)))
    in_contour =
        let short-of : length (plain_of ws) < length (layout c) = omega (arith, plain_long, cut_short, length-drop mixed_head_length ws) in
        let there = named c a.contour (plain_of ws) missing as_plain (omega (arith, plain_long)) short-of in
        subst (λ (k : ℕ). MixedBelongs f (length ws) (Contour (part_missing (mixed_mask_in ws) (k % 256) (plain_of ws)))) (get_or-drop 3 ws 0 0)
        (rw plain_long at (contour_has f (length (plain_of ws)) _ there))

  -- the contour is there
  module _ {rest : List ℕ} (s : ContourParsed ws rest) where
    contour_sound : Sound format ws mixed_head_length s.value s.place rest
    contour_sound = found_sound ws m n mixed_head_length (as_fields ∙ s.parsed)

    contour_passed : (rest ++ more ≡ reflector_part f) × (length ws ≡ to_count f + length rest)
    contour_passed =
        let same = found_same format (body_lawful m n) ws mixed_head_length (body_fields c) more (reflector_part f) (body_ok c a.contour.fits) laid
        contour_sound in
        (same.1, omega (arith, same.2, contour_long, length-drop mixed_head_length ws))

    -- and nothing behind it
    pub at_count : count_found ws s.place rest ≡ short → MixedBelongs f (length ws) Count
    at_count e =
        let on = bit m bits.reflectors in
        let left = contour_sound.rest in
        let none : word on s.place (drop s.place ws) ≡ short =
        ap (word on s.place) left ∙ sym (ap (λ (k : ℕ). word (bit k bits.reflectors) s.place rest) same_mask) ∙ e in
        let within = ends_within (one on) (one_lawful on) ws s.place f.count more f.reflectors a.fits.count none
        (ap (λ (l : List ℕ). l ++ more) left ∙ contour_passed.0) in
        count_has f (length ws) (omega (arith, contour_passed.1)) (omega (arith, contour_passed.1, within, ap length left))

  -- and the word of bit 16
  module _ {rest : List ℕ} (s : CountParsed ws rest) where
    number_passed : (s.number ≡ f.count) × (rest ++ more ≡ f.reflectors) × (length ws ≡ to_reflectors f + length rest)
    number_passed =
        let on = bit m bits.reflectors in
        let left = (contour_sound s.contour).rest in
        let sound : Sound (one on) ws s.contour.place s.number s.start rest =
        subst (λ (k : ℕ). Sound (one (bit k bits.reflectors)) ws s.contour.place s.number s.start rest) same_mask (number_sound s) in
        let same = found_same (one on) (one_lawful on) ws s.contour.place f.count more f.reflectors a.fits.count
        (ap (λ (l : List ℕ). l ++ more) left ∙ (contour_passed s.contour).0) sound in
        (same.0, same.1, omega (arith, same.2, (contour_passed s.contour).1, ap length left))

    -- they end within the reflectors
    pub in_reflectors : length rest < reflector_words ws s.number
        → MixedBelongs f (length ws) (Reflector (length rest / reflector_width (mixed_mask_in ws)))
    in_reflectors h =
        let same : reflector_words ws s.number ≡ number_of f.count * width_of f =
        (λ j. number_of (number_passed.0 j) * reflector_width (same_mask j)) in
        let there = reflector_has f (number_of f.count) (length rest) a.fits.reflectors (omega (arith, a.fits.reflectors)) in
        subst (λ (k : ℕ). MixedBelongs f (length ws) (Reflector (length rest / reflector_width k))) (sym same_mask)
        (rw (← number_passed.2) at there)

-- what the part of a place has to have
abbrev Named : List ℕ → MixedPart → Type 0
Named ws p = (f : MixedFields) (more : List ℕ) → MixedAcceptable f → ws ++ more ≡ layout_mixed f → MixedBelongs f (length ws) p

module _ (ws : List ℕ) where
  placed : {r : MixedSaid} → MixedOutcome ws r → r.refusal ≡ 15 → (p : MixedPart) × (r.place ≡ At (length ws) p) × Named ws p
  placed (refused h) e = absurd (head_other Kind.Mixed ws e)
  placed (cut_contour h p) e = (_, refl, λ f more a is. in_contour f a ws more is (head_long Kind.Mixed ws h) p)
  placed (cut_count s p) e = (Count, refl, λ f more a is. at_count f a ws more is (head_long Kind.Mixed ws s.head) s p)
  placed (too_many s h) e = absurd (omega arith)
  placed (cut_reflectors s few h) e = (_, refl, λ f more a is. in_reflectors f a ws more is (head_long Kind.Mixed ws s.contour.head) s h)
  placed (over s) e = absurd (omega arith)
  placed (whole s) e = absurd (omega arith)

  unplaced : {r : MixedSaid} → MixedOutcome ws r → (r.refusal ≡ 15 → ⊥) → (mixed_place_numbers r.place).part ≡ 0
  unplaced (refused h) n = refl
  unplaced (cut_contour h p) n = absurd (n refl)
  unplaced (cut_count s p) n = absurd (n refl)
  unplaced (too_many s h) n = refl
  unplaced (cut_reflectors s few h) n = absurd (n refl)
  unplaced (over s) n = refl
  unplaced (whole s) n = refl

pub mixed_ends_placed : MixedEndsPlaced
mixed_ends_placed ws =
    record {
      there = λ r.
          let e = ((mixed_refusals_exactly ws).early.0 r).1 in
          let p = placed ws (mixed_outcome ws) r in
          (p.0, p.1, record { in_one = (e.0, e.1, e.2, e.4, p.2 e.0 e.1 e.2 e.4); in_every = p.2 });
      nowhere = unplaced ws (mixed_outcome ws);
    }
