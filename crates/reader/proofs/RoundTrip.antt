-- Demand 2 of the reader: it takes exactly the laid out lists of words, gives back their fields, and loses no word.
use Prim.Native.Nat.{ℕ}
use mathlib.Core.Path.{◌≡◌, refl, sym, ◌∙◌, ap, subst}
use mathlib.Core.List.{List, [], ◌∷◌, ◌++◌, append-nil}
use native.Mathlib.Omega.{arith}
use lib.Dec.{T}
use lib.ListN.{length}
use Rattle.words.specs.Lists.{some}
use Rattle.words.specs.Parse.{got}
use Rattle.words.proofs.Lawful.{Complete}
use Rattle.layout.specs.declared.Kind.{Kind}
use Rattle.layout.specs.Fields.{Fields}
use Rattle.layout.specs.Layout.{layout, Acceptable, head_length}
use Rattle.reader.specs.Said.{Said}
use Rattle.reader.specs.Readings.{mask_in, count_in, head_refusal, sectors_in, body, accepted_reading, with_left, read_of}
use Rattle.reader.specs.Stretches.{fields_in}
use Rattle.reader.specs.Demands.{AcceptsExactly, PutTogether, ReadsBack, OneReading}
use Rattle.reader.proofs.Accepted.{Parsed, Accepted, by_body, accepted, body_sound}
use Rattle.reader.proofs.Laid.{body_fields, fields_of, acceptable, laid, contour_back, many_back, entries_read, counts, head_laid}
use Rattle.reader.proofs.Readers.{Reads, takes_exactly, loses_none, laid_once}

-- what is read is laid out, before the words that are left

module _ {ws rest : List ℕ} (s : Parsed ws rest) where
  abbrev pub fields : Fields
  fields = fields_of (mask_in ws) ((body (mask_in ws) (count_in ws)).strip ws s.value)

  pub fields_fit : Acceptable fields
  fields_fit = acceptable Kind.Plain ws s.head _ (body_sound s).fits

  pub laid_out : ws ≡ layout fields ++ rest
  laid_out = sym (append-nil ws) ∙ laid Kind.Plain ws s.head _ (body_sound s).fits [] rest (append-nil _ ∙ (body_sound s).words)

whole_laid : (ws : List ℕ) (s : Accepted ws) → ws ≡ layout (fields s)
whole_laid ws s = laid_out s ∙ append-nil (layout (fields s))

-- what is laid out is read, with the fields that were laid out, and what stands behind it is left over

module _ (f : Fields) (w : Acceptable f) (more : List ℕ) where
  abbrev m : ℕ
  m = f.mask

  abbrev n : ℕ
  n = length f.sectors

  pub head_passes : head_refusal (layout f ++ more) ≡ 0
  head_passes = head_laid f w Kind.Plain (layout f ++ more) (omega arith) refl refl w.mask refl

  pub read_back : Complete (body m n) (layout f ++ more) head_length (body_fields f) more
  read_back = contour_back f w.fits (layout f ++ more) head_length more refl

  pub reading : read_of (layout f ++ more) ≡ with_left m n read_back.value more
  reading =
      rw (counts f w) at
      (by_body (layout f ++ more) head_passes {g = got read_back.value read_back.place more} (rw (counts f w) read_back.reads))

  same_fields : fields_in (layout f ++ more) (accepted_reading m n read_back.value) ≡ f
  same_fields =
      let v = read_back.value in
      rw (entries_read (sectors_in v) n (many_back f w.fits (layout f ++ more) head_length more read_back)) (ap (fields_of m) read_back.same)

pub reads_back : ReadsBack
reads_back f w =
    subst (λ (ws : List ℕ). ((read_of ws).refusal ≡ 0) × (fields_in ws (read_of ws) ≡ f)) (append-nil (layout f))
    (ap (λ (r : Said). r.refusal) (reading f w []), ap (fields_in (layout f ++ [])) (reading f w []) ∙ same_fields f w [])

over_read : (f : Fields) → Acceptable f → (more : List ℕ) → T (some more) → (read_of (layout f ++ more)).refusal ≡ 16
over_read f w [] t = absurd t
over_read f w (x ∷ xs) t = ap (λ (r : Said). r.refusal) (reading f w (x ∷ xs))

pub plain_reads : Reads Acceptable layout (λ ws. (read_of ws).refusal) (λ ws. fields_in ws (read_of ws))
plain_reads =
    record {
      taken = λ ws e. let s = accepted ws e in (fields s, fields_fit s, whole_laid ws s);
      reads = λ f w. (reads_back f w).0;
      back = λ f w. (reads_back f w).1;
      over = over_read;
    }

pub accepts_exactly : AcceptsExactly
accepts_exactly = takes_exactly plain_reads

pub put_together : PutTogether
put_together = loses_none plain_reads

pub one_reading : OneReading
one_reading = laid_once plain_reads
