-- A whole reading of a mixed profile: its head, and the ways out behind it, by the places that the reader finds.
use mathlib.Core.Path.{◌≡◌, sym, ◌∙◌, ap, subst}
use mathlib.Core.List.{List, []}
use Prim.Native.Nat.{ℕ, zero, suc, ◌+◌, ◌-◌, ◌*◌, ◌/◌, ◌≤◌, ◌<◌}
use native.Mathlib.Nat.{zero-add}
use native.Mathlib.Omega.{arith}
use lib.ListN.{length, get_or, drop, length-drop, drop_of_length-le}
use lib.Seq.{drop-drop, drop-cons}
use borrow.Author.Tests.{eq-eqb}
use Rattle.std.specs.Prelude.{Option, Ok, Err}
use Rattle.words.specs.declared.Took.{Took}
use Rattle.words.specs.Bits.{bit}
use Rattle.words.specs.Words.{number_of}
use Rattle.words.specs.Places.{take_at}
use Rattle.words.proofs.Tracks.{out_at, in_out, past_out, one_tracks}
use Rattle.layout.specs.Bits as bits
use Rattle.layout.specs.declared.Kind.{Kind}
use Rattle.layout.specs.MixedMasks.{reflector_width, most_reflectors}
use Rattle.layout.specs.Mixed.{mixed_head_length}
use Rattle.reader.specs.declared.Part.{Part}
use Rattle.reader.specs.declared.MixedPart.TheVariants.{Contour, Count, Reflector}
use Rattle.reader.specs.declared.MixedPart.{MixedPart}
use Rattle.reader.specs.declared.ContourReading.{ContourReading}
use Rattle.reader.specs.declared.ReadRefusal.{ReadRefusal}
use Rattle.reader.specs.declared.ReadRefusal.TheVariants.{EndsEarly, LeftOver, ManyReflectors}
use Rattle.reader.specs.Said.{Nowhere, At, refusal_number}
use Rattle.reader.specs.Mixed.{mixed_mask_in, mixed_count_in, mixed_head_refusal, refused_mixed, accepted_mixed, mixed_body_of, read_mixed_of}
use Rattle.reader.specs.Mixed.{mixed_said, ReadMixedSays}
use Rattle.reader.specs.Places.{ContourWhole, ContourCut}
use Rattle.reader.proofs.Heads.{head_long, some_number, head_placeless}
use Rattle.reader.proofs.MixedEnds.{contour_part}
use Rattle.reader.proofs.MixedAccepted.{ContourParsed, CountParsed, count_found, reflector_words}
use Rattle.reader.proofs.MixedAccepted.{by_mixed_head, by_contour, by_count, by_many, by_short, by_left}

body_read : (ws : List ℕ) → mixed_head_refusal ws ≡ 0 → read_mixed_of ws ≡ mixed_body_of ws
unfolding read_mixed_of
body_read ws h = rw (eq-eqb (mixed_head_refusal ws) 0 h)

-- the head is refused
pub mixed_refused_head : (ws : List ℕ) (e : ReadRefusal MixedPart) → refusal_number e ≡ mixed_head_refusal ws → ReadMixedSays ws (Err e)
mixed_refused_head ws e h =
    rw (head_placeless Kind.Mixed ws e h)
    (ap (λ (k : ℕ). refused_mixed k Nowhere) h ∙ sym (by_mixed_head ws (λ z. some_number e (h ∙ z))))

whole_is : {ws : List ℕ} {first mask width start next : ℕ} {c : ContourReading} {n : Option ℕ}
    (w : ContourWhole ws first mask (mixed_count_in ws) c next)
    → width ≡ reflector_width (mixed_mask_in ws)
    → mixed_said
    (Ok (
    record {
      upper = get_or ws 1 0;
      lower = get_or ws 2 0;
      contour = c;
      reflectors = n;
      start = start;
      width = width;
    }))
    ≡ accepted_mixed ws w.value n start
whole_is w e = rw (w.sent, w.counter, w.layer, w.count, w.entries, w.high, w.low, e)

-- where the words of all reflectors are more than there are, each reflector has one
pub some_width : (n width all rest : ℕ) → all ≡ n * width → rest < all → 0 < width
some_width n zero all rest e h = absurd (omega arith)
some_width n (suc w) all rest e h = omega arith

-- the contour, under the mask's number
module _ (ws : List ℕ) (passes : 0 ≡ mixed_head_refusal ws) (mask : ℕ) (em : mask ≡ mixed_mask_in ws) where
  head : mixed_head_refusal ws ≡ 0
  head = sym passes

  pub contour_cut : (part : Part) → ContourCut ws mixed_head_length mask (mixed_count_in ws) part
      → ReadMixedSays ws (Err (EndsEarly (length ws) (Contour part)))
  contour_cut part c =
      let cut = subst (λ (m : ℕ). ContourCut ws mixed_head_length m (mixed_count_in ws) part) em c in
      let is = cut.is ∙ sym (contour_part (mixed_mask_in ws) (mixed_count_in ws) ws (head_long Kind.Mixed ws head)) in
      ap (λ (p : Part). refused_mixed 15 (At (length ws) (Contour p))) is ∙ sym (by_contour ws head cut.found)

  -- the word of bit 16, behind a contour that is whole
  module _ {c : ContourReading} {next : ℕ} (found : ContourWhole ws mixed_head_length mask (mixed_count_in ws) c next)
      (t : Took) (et : t ≡ take_at (bit mask bits.reflectors) ws next) where
    whole : ContourWhole ws mixed_head_length (mixed_mask_in ws) (mixed_count_in ws) c next
    whole = subst (λ (m : ℕ). ContourWhole ws mixed_head_length m (mixed_count_in ws) c next) em found

    abbrev parsed : ContourParsed ws (drop next ws)
    parsed = record { head = head; value = whole.value; place = next; parsed = whole.found }

    taken : count_found ws next (drop next ws) ≡ out_at ws 0 t.word t.at
    taken = rw (← em, et) (rw zero-add at ((one_tracks (bit mask bits.reflectors) ws 0 next).reads whole.inside))

    pub count_cut : length ws < t.at → ReadMixedSays ws (Err (EndsEarly (length ws) Count))
    count_cut h = sym (by_count ws parsed (taken ∙ past_out ws 0 t.word t.at h))

    -- the number of reflectors
    module _ (there : t.at ≤ length ws) (n : ℕ) (en : n ≡ number_of t.word) where
      abbrev counted : CountParsed ws (drop t.at ws)
      counted =
          record {
            behind = _;
            contour = parsed;
            number = t.word;
            start = t.at;
            parsed = taken ∙ in_out ws 0 t.word t.at there ∙ rw zero-add;
          }

      pub number_over : most_reflectors < n → ReadMixedSays ws (Err ManyReflectors)
      number_over h = sym (by_many ws counted (rw en at h))

      -- the reflectors
      module _ (few : n ≤ most_reflectors) (width : ℕ) (ew : width ≡ reflector_width mask) (all : ℕ) (ea : all ≡ n * width) where
        few_read : number_of t.word ≤ most_reflectors
        few_read = rw en at few

        wide : width ≡ reflector_width (mixed_mask_in ws)
        wide = ew ∙ ap reflector_width em

        all_words : all ≡ reflector_words ws t.word
        all_words = rw (ea, en, wide)

        pub reflector_cut : length ws - t.at < all → ReadMixedSays ws (Err (EndsEarly (length ws) (Reflector ((length ws - t.at) / width))))
        reflector_cut h =
            let rest = length-drop t.at ws in
            let short : length (drop t.at ws) < reflector_words ws t.word = omega (arith, all_words) in
            let place : (length ws - t.at) / width ≡ length (drop t.at ws) / reflector_width (mixed_mask_in ws) = rw (wide, rest) in
            ap (λ (k : ℕ). refused_mixed 15 (At (length ws) (Reflector k))) place ∙ sym (by_short ws counted few_read short)

        module _ (enough : all ≤ length ws - t.at) where
          fit : reflector_words ws t.word ≤ length (drop t.at ws)
          fit = omega (arith, length-drop t.at ws, all_words)

          behind : drop (reflector_words ws t.word) (drop t.at ws) ≡ drop (t.at + all) ws
          behind = rw (← all_words, drop-drop)

          pub reflectors_over : all < length ws - t.at → ReadMixedSays ws (Err LeftOver)
          reflectors_over h =
              let one : t.at + all < length ws = omega arith in
              sym (by_left ws counted few_read fit (behind ∙ drop-cons ws (t.at + all) 0 one))

          pub mixed_body_whole : length ws - t.at ≤ all
              → ReadMixedSays ws (Ok (
              record {
                upper = get_or ws 1 0;
                lower = get_or ws 2 0;
                contour = c;
                reflectors = t.word;
                start = t.at;
                width = width;
              }))
          mixed_body_whole h =
              let past : length ws ≤ t.at + all = omega arith in
              let none : drop (reflector_words ws t.word) (drop t.at ws) ≡ [] = behind ∙ drop_of_length-le ws past in
              whole_is whole wide ∙ sym (by_left ws counted few_read fit none)
