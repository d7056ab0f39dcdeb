-- The layout is the format's: fields are laid out as the format lays out what stands behind the words that depend on no bit.
use Prim.Native.Nat.{ℕ, zero, suc, ◌+◌, ◌-◌, ◌%◌, ◌≤◌}
use mathlib.Core.Path.{◌≡◌, refl, sym, ◌∙◌, ap}
use mathlib.Core.List.{List, [], ◌∷◌, ◌++◌, append_assoc, append-nil}
use native.Mathlib.Omega.{arith}
use mathlib.Core.Bool.{◌&&◌, ◌||◌}
use lib.Dec.{T}
use lib.ListN.{length, get_or, take, drop, replicate, length-map}
use lib.Seq.{take_at}
use Rattle.words.specs.Bits.{bit}
use Rattle.words.specs.Lists.{Each, none, this}
use Rattle.words.specs.Words.{laid_all}
use Rattle.words.specs.Format.{AllOk}
use Rattle.words.proofs.Each.{each_map}
use Rattle.words.proofs.Tests.{and_l}
use Rattle.words.proofs.Lawful.{Complete}
use Rattle.layout.specs.declared.Kind.{Kind}
use Rattle.layout.specs.Bits as bits
use Rattle.layout.specs.Masks.{mask_ok}
use Rattle.layout.specs.MixedMasks.{none_of, mixed_ok, kind_ok}
use Rattle.layout.specs.Fields.{SectorFields, Fields}
use Rattle.layout.specs.Layout.{head, layout_sector, contour, SectorFits, Fits, Acceptable, head_length, one_layer}
use Rattle.layout.specs.Mixed.{kind_numbers, mixed_head, mixed_head_length}
use Rattle.reader.specs.declared.SectorReading.{SectorReading}
use Rattle.reader.specs.Sectors.{sector, blank_sector}
use Rattle.reader.specs.Readings.{mask_in, Body, sectors_in, body, padded}
use Rattle.reader.specs.Mixed.{head_refusal_for}
use Rattle.reader.specs.Places.{mask_for, info_for}
use Rattle.reader.proofs.Bodies.{body_lawful, sectors_ok_lem}
use Rattle.reader.proofs.Heads.{GoodHead, good_passes, three, four}
use Rattle.reader.proofs.Accepted.{all_length}

-- what stands behind the first three words, and the fields with it
abbrev pub body_fields : Fields → Body SectorFields
body_fields f = (f.sent, (f.counter, (f.layer, (f.sectors, (f.high, (f.low, tt))))))

abbrev pub fields_of : ℕ → Body SectorFields → Fields
fields_of mask b =
    record {
      mask = mask;
      sent = b.0;
      counter = b.1.0;
      layer = b.1.1.0;
      sectors = sectors_in b;
      high = b.1.1.1.1.0;
      low = b.1.1.1.1.1.0;
    }

all_laid : {F : Type 0} (p q : F → List ℕ) → ((f : F) → p f ≡ q f) → (fs : List F) → laid_all p fs ≡ laid_all q fs
all_laid p q h [] = refl
all_laid p q h (f ∷ fs) = rw (h f, all_laid p q h fs)

pub sectors_laid : (mask : ℕ) (fs : List SectorFields) → laid_all (sector mask).put fs ≡ laid_all layout_sector fs
sectors_laid mask fs = all_laid (sector mask).put layout_sector (λ g. simp (append-nil, append_assoc)) fs

pub rest_put : (mask count : ℕ) (f : Fields) → contour f ≡ (body mask count).put (body_fields f)
rest_put mask count f = simp (sectors_laid mask f.sectors, append-nil, append_assoc)

sector_fits : (mask : ℕ) (s : SectorFields) → (sector mask).ok s → SectorFits mask s
sector_fits mask s o =
    record {
      number = o.0;
      step = o.1.0;
      points = o.1.1.0;
      tstart = o.1.1.1.0;
      startdir = o.1.1.1.1.0;
      body = o.1.1.1.1.1.0;
      tend = o.1.1.1.1.1.1.0;
      enddir = o.1.1.1.1.1.1.1.0;
    }

sector_ok_lem : (mask : ℕ) (s : SectorFields) → SectorFits mask s → (sector mask).ok s
sector_ok_lem mask s o = (o.number, (o.step, (o.points, (o.tstart, (o.startdir, (o.body, (o.tend, (o.enddir, tt))))))))

all_each : {F : Type 0} {ok : F → Type 0} (n : ℕ) (fs : List F) → AllOk ok n fs → Each ok fs
all_each zero [] o = none
all_each zero (f ∷ fs) o = absurd o
all_each (suc n) [] o = absurd o
all_each (suc n) (f ∷ fs) o = this o.0 (all_each n fs o.1)

each_all : {F : Type 0} {ok : F → Type 0} {fs : List F} → Each ok fs → AllOk ok (length fs) fs
each_all none = tt
each_all (this p e) = (p, each_all e)

pub body_fits : (count : ℕ) (f : Fields) → (body f.mask count).ok (body_fields f) → Fits f
body_fits count f o =
    record {
      sent = o.0;
      counter = o.1.0;
      layer = o.1.1.0;
      sectors = each_map (sector_fits f.mask) (all_each count f.sectors (sectors_ok_lem f.mask count (body_fields f) o));
      high = o.1.1.1.1.0;
      low = o.1.1.1.1.1.0;
    }

pub body_ok : (f : Fields) → Fits f → (body f.mask (length f.sectors)).ok (body_fields f)
body_ok f w = (w.sent, (w.counter, (w.layer, (each_all (each_map (sector_ok_lem f.mask) w.sectors), (w.high, (w.low, tt))))))

-- a contour that stands at a place is read back
module _ (f : Fields) (w : Fits f) (W : List ℕ) (b : ℕ) (post : List ℕ) where
  pub contour_back : drop b W ≡ contour f ++ post → Complete (body f.mask (length f.sectors)) W b (body_fields f) post
  contour_back e =
      let n = length f.sectors in
      (body_lawful f.mask n).complete W b (body_fields f) post (body_ok f w) (e ∙ ap (λ (ws : List ℕ). ws ++ post) (rest_put f.mask n f))

  -- with as many sectors
  pub many_back : (c : Complete (body f.mask (length f.sectors)) W b (body_fields f) post) → length (sectors_in c.value) ≡ length f.sectors
  many_back c =
      sym (length-map (sectors_in c.value) ((sector f.mask).strip W)) ∙ ap (λ (t : Body SectorFields). length (sectors_in t)) c.same

-- of the eight entries, those that were read
pub entries_read : (xs : List SectorReading) (count : ℕ) → length xs ≡ count → take count (padded xs) ≡ xs
entries_read xs count h = take_at xs (replicate (8 - length xs) blank_sector) count h

-- what is asked of a plain mask is asked of every mask
plain_ok : (kind : Kind) (mask : ℕ) → T (kind_ok kind mask) → T (mask_ok mask)
unfolding mixed_ok
plain_ok Kind.Plain mask t = t
plain_ok Kind.Mixed mask t =
    let free = none_of bits.reserved_mixed mask in
    and_l (mask_ok mask) free (and_l (mask_ok mask && free) (bit mask bits.reflectors || none_of bits.of_reflector mask) t)

-- the words in front of the contour, with a number of sectors
abbrev pub first_words : Kind → List ℕ → ℕ → List ℕ
first_words Kind.Plain ws n = head (mask_in ws) n
first_words Kind.Mixed ws n = mixed_head (get_or ws 1 0) (get_or ws 2 0) n

first_words_lem : (kind : Kind) (ws : List ℕ) → GoodHead kind ws → (n : ℕ) → info_for kind ws ≡ one_layer + n
    → ws ≡ first_words kind ws n ++ drop (kind_numbers kind).first ws
first_words_lem Kind.Plain ws g n e = three ws g.long ∙ (λ j. g.first j ∷ mask_in ws ∷ e j ∷ drop head_length ws)
first_words_lem Kind.Mixed ws g n e = four ws g.long ∙ (λ j. g.first j ∷ get_or ws 1 0 ∷ get_or ws 2 0 ∷ e j ∷ drop mixed_head_length ws)

-- behind a head that passes
module _ (kind : Kind) (ws : List ℕ) (good : GoodHead kind ws) (b : Body SectorFields)
    (ok : (body (mask_for kind ws) (info_for kind ws % 256)).ok b) where
  as_many : length (sectors_in b) ≡ info_for kind ws % 256
  as_many =
      all_length (sector (mask_for kind ws)).ok (info_for kind ws % 256) (sectors_in b) (sectors_ok_lem (mask_for kind ws) (info_for kind ws % 256) b ok)

  pub acceptable : Acceptable (fields_of (mask_for kind ws) b)
  acceptable =
      record {
        mask = plain_ok kind (mask_for kind ws) good.mask;
        some_sector = rw as_many good.some_sector;
        few = rw as_many good.few;
        counted = good.counted;
        fits = body_fits (info_for kind ws % 256) (fields_of (mask_for kind ws) b) ok;
      }

  -- words that go on as the format lays them out are laid out
  pub laid : (more rest : List ℕ)
      → drop (kind_numbers kind).first ws ++ more ≡ (body (mask_for kind ws) (info_for kind ws % 256)).put b ++ rest
      → ws ++ more ≡ first_words kind ws (length (sectors_in b)) ++ (contour (fields_of (mask_for kind ws) b) ++ rest)
  laid more rest e =
      let front = first_words kind ws (length (sectors_in b)) in
      let third : info_for kind ws ≡ one_layer + length (sectors_in b) = good.third ∙ ap (λ (n : ℕ). one_layer + n) (sym as_many) in
      let behind = e ∙ ap (λ (l : List ℕ). l ++ rest) (sym (rest_put (mask_for kind ws) (info_for kind ws % 256) (fields_of (mask_for kind ws) b))) in
      ap (λ (l : List ℕ). l ++ more) (first_words_lem kind ws good (length (sectors_in b)) third)
      ∙ append_assoc front (drop (kind_numbers kind).first ws) more ∙ ap (λ (l : List ℕ). front ++ l) behind

-- words that begin with a head of such fields have one that passes, and as many sectors
module _ (f : Fields) (w : Acceptable f) where
  pub counts : (one_layer + length f.sectors) % 256 ≡ length f.sectors
  counts = let h : length f.sectors ≤ 8 = w.few in omega arith

  pub head_laid : (kind : Kind) (ws : List ℕ) → (kind_numbers kind).first ≤ length ws → get_or ws 0 0 ≡ (kind_numbers kind).code
      → f.mask ≡ mask_for kind ws → T (kind_ok kind f.mask) → one_layer + length f.sectors ≡ info_for kind ws → head_refusal_for kind ws ≡ 0
  head_laid kind ws long first mask ok info =
      good_passes kind ws
      (record {
        long = long;
        first = first;
        mask = rw (← mask) ok;
        third = rw (← info, counts) refl;
        some_sector = rw (← info, counts) w.some_sector;
        few = rw (← info, counts) w.few;
        counted = rw (← mask) w.counted;
      })
