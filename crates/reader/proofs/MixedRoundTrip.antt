-- The reader of mixed profiles takes exactly the laid out lists of words, gives back their fields, and loses no word; and takes none that the
-- reader of plain profiles takes.
use Prim.Native.Nat.{ℕ, ◌*◌}
use mathlib.Core.Path.{◌≡◌, refl, sym, ◌∙◌, ap, subst}
use mathlib.Core.Bool.{Bool}
use mathlib.Core.List.{List, [], ◌∷◌, ◌++◌, append_assoc, append-nil}
use native.Mathlib.Omega.{arith}
use lib.Dec.{T}
use lib.ListN.{length, take, drop, length-append}
use lib.Seq.{take_at, drop_at}
use Rattle.std.specs.Prelude.{Option, option_to_list}
use Rattle.words.specs.Bits.{bit}
use Rattle.words.specs.Lists.{some}
use Rattle.words.specs.Words.{number_of, Shaped}
use Rattle.words.specs.Parse.{Got, got, word}
use Rattle.words.specs.Format.{one}
use Rattle.words.proofs.Lawful.{Complete, one_lawful}
use Rattle.layout.specs.Bits as bits
use Rattle.layout.specs.declared.Kind.{Kind}
use Rattle.layout.specs.MixedMasks.{reflector_width}
use Rattle.layout.specs.Layout.{contour}
use Rattle.layout.specs.Mixed.{MixedFields, layout_mixed, MixedAcceptable, mixed_head_length}
use Rattle.reader.specs.Said.{MixedSaid}
use Rattle.reader.specs.Readings.{sectors_in, body}
use Rattle.reader.specs.Mixed.{mixed_head_refusal, accepted_mixed, mixed_left, read_mixed_of}
use Rattle.reader.specs.MixedParts.{head_of}
use Rattle.reader.specs.MixedStretches.{mixed_fields_in, contour_in}
use Rattle.reader.specs.MixedDemands.{MixedAcceptsExactly, MixedPutTogether, MixedReadsBack, MixedOneReading, OneKind}
use Rattle.reader.proofs.Accepted.{accepted}
use Rattle.reader.proofs.MixedAccepted.{ContourParsed, CountParsed, MixedAccepted, reflector_words, by_left, mixed_accepted}
use Rattle.reader.proofs.Laid.{body_fields, fields_of, contour_back, many_back, entries_read, counts, head_laid}
use Rattle.reader.proofs.MixedLaid.{contour_head, mixed_fields, mixed_fit, mixed_laid_out}
use Rattle.reader.proofs.Readers.{Reads, takes_exactly, loses_none, laid_once}

-- words that begin with the head and the contour of such fields: the contour is read back
module _ (f : MixedFields) (w : MixedAcceptable f) (post : List ℕ) where
  abbrev pub up_to : List ℕ
  up_to = head_of f ++ contour f.contour ++ post

  pub mixed_passes : mixed_head_refusal up_to ≡ 0
  mixed_passes = head_laid f.contour w.contour Kind.Mixed up_to (omega arith) refl w.fits.mask w.mask refl

  pub mixed_back : Complete (body f.contour.mask (length f.contour.sectors)) up_to mixed_head_length (body_fields f.contour) post
  mixed_back = contour_back f.contour w.fits.contour up_to mixed_head_length post refl

  abbrev pub contour_read : ContourParsed up_to post
  contour_read =
      record {
        head = mixed_passes;
        value = mixed_back.value;
        place = mixed_back.place;
        parsed = rw (← w.fits.mask, counts f.contour w.contour) mixed_back.reads;
      }

  -- and the word of bit 16 behind it
  module _ (n : Option ℕ) (shaped : Shaped (bit f.contour.mask bits.reflectors) n) (rest : List ℕ) (is : post ≡ option_to_list n ++ rest) where
    abbrev on : Bool
    on = bit f.contour.mask bits.reflectors

    pub count_back : Complete (one on) up_to mixed_back.place n rest
    count_back = (one_lawful on).complete up_to mixed_back.place n rest shaped (mixed_back.behind ∙ is)

    abbrev count_word : ℕ → List ℕ → Got (Option ℕ)
    count_word mask ws = word (bit mask bits.reflectors) mixed_back.place ws

    abbrev pub count_read : CountParsed up_to rest
    count_read =
        record {
          behind = post;
          contour = contour_read;
          number = n;
          start = count_back.place;
          parsed =
              (λ j. count_word (sym w.fits.mask j) (sym mixed_back.behind j))
              ∙ count_back.reads ∙ ap (λ (v : Option ℕ). got v count_back.place rest) count_back.same;
        }

-- what is laid out is read, with the fields that were laid out, and what stands behind it is left over
module _ (f : MixedFields) (w : MixedAcceptable f) (more : List ℕ) where
  abbrev W : List ℕ
  W = up_to f w (option_to_list f.count ++ (f.reflectors ++ more))

  abbrev found : CountParsed W (f.reflectors ++ more)
  found = count_read f w _ f.count w.fits.count (f.reflectors ++ more) refl

  words : W ≡ layout_mixed f ++ more
  words =
      let line = contour f.contour in
      ap (λ (l : List ℕ). head_of f ++ l)
      (ap (λ (l : List ℕ). line ++ l) (sym (append_assoc (option_to_list f.count) f.reflectors more))
      ∙ sym (append_assoc line (option_to_list f.count ++ f.reflectors) more))

  long : length f.reflectors ≡ reflector_words W f.count
  long = w.fits.reflectors ∙ ap (λ (m : ℕ). number_of f.count * reflector_width m) w.fits.mask

  abbrev whole : MixedSaid
  whole = accepted_mixed W found.contour.value f.count found.start

  read_whole : read_mixed_of W ≡ mixed_left whole more
  read_whole =
      by_left W found w.few (omega (arith, long, length-append f.reflectors more)) (drop_at f.reflectors more (reflector_words W f.count) (long))

  mixed_reading : read_mixed_of (layout_mixed f ++ more) ≡ mixed_left whole more
  mixed_reading = ap read_mixed_of (sym words) ∙ read_whole

  same_contour : contour_in W whole ≡ f.contour
  same_contour =
      let post = option_to_list f.count ++ (f.reflectors ++ more) in
      let back = mixed_back f w post in
      rw (
        counts f.contour w.contour,
        entries_read (sectors_in back.value) (length f.contour.sectors)
            (many_back f.contour w.fits.contour W mixed_head_length post back),
        ← w.fits.mask,
      ) (ap (fields_of f.contour.mask) back.same)

  same_reflectors : take (reflector_words W f.count) (drop found.start W) ≡ f.reflectors
  same_reflectors =
      let post = option_to_list f.count ++ (f.reflectors ++ more) in
      ap (take (reflector_words W f.count)) (count_back f w post f.count w.fits.count (f.reflectors ++ more) refl).behind
      ∙ take_at f.reflectors more (reflector_words W f.count) long

  same_mixed : mixed_fields_in W whole ≡ f
  same_mixed = λ j. record {
    high = f.high;
    low = f.low;
    contour = same_contour j;
    count = f.count;
    reflectors = same_reflectors j;
  }

pub mixed_reads_back : MixedReadsBack
mixed_reads_back f w =
    subst (λ (ws : List ℕ). ((read_mixed_of ws).refusal ≡ 0) × (mixed_fields_in ws (read_mixed_of ws) ≡ f))
    (words f w [] ∙ append-nil (layout_mixed f))
    (ap (λ (r : MixedSaid). r.refusal) (read_whole f w []), ap (mixed_fields_in (W f w [])) (read_whole f w []) ∙ same_mixed f w [])

over_read : (f : MixedFields) → MixedAcceptable f → (more : List ℕ) → T (some more) → (read_mixed_of (layout_mixed f ++ more)).refusal ≡ 16
over_read f w [] t = absurd t
over_read f w (x ∷ xs) t = ap (λ (r : MixedSaid). r.refusal) (mixed_reading f w (x ∷ xs))

whole_laid : (ws : List ℕ) (s : MixedAccepted ws) → ws ≡ layout_mixed (mixed_fields s)
whole_laid ws s = mixed_laid_out s ∙ append-nil (layout_mixed (mixed_fields s))

pub mixed_reads : Reads MixedAcceptable layout_mixed (λ ws. (read_mixed_of ws).refusal) (λ ws. mixed_fields_in ws (read_mixed_of ws))
mixed_reads =
    record {
      taken = λ ws e. let s = mixed_accepted ws e in (mixed_fields s, mixed_fit s, whole_laid ws s);
      reads = λ f w. (mixed_reads_back f w).0;
      back = λ f w. (mixed_reads_back f w).1;
      over = over_read;
    }

pub mixed_accepts_exactly : MixedAcceptsExactly
mixed_accepts_exactly = takes_exactly mixed_reads

pub mixed_put_together : MixedPutTogether
mixed_put_together = loses_none mixed_reads

pub mixed_one_reading : MixedOneReading
mixed_one_reading = laid_once mixed_reads

-- the first word tells the kinds apart
pub one_kind : OneKind
one_kind ws p q =
    let plain = (accepted ws p).head.first in
    let mixed = (contour_head (mixed_accepted ws q).count.contour).first in
    omega arith
