-- The place of refusal 15: the first missing word belongs to the part that is named, in every profile that begins with the words.
use Prim.Native.Nat.{ℕ, zero, suc, ◌+◌, ◌≤◌, ◌<◌}
use mathlib.Core.Path.{◌≡◌, refl, sym, ◌∙◌, ap, subst}
use mathlib.Core.Logic.{inl, inr}
use mathlib.Core.List.{List, [], ◌∷◌, ◌++◌, append_assoc, append-nil}
use mathlib.Core.Bool.{Bool, true, false}
use native.Mathlib.Omega.{arith}
use lib.Dec.{ltb}
use lib.ListN.{length, get_or, take, drop, length-drop, length-append, get_or-append}
use lib.Seq.{drop_at}
use borrow.Author.Tests.{lt-ltb, le-ltb, ltb-true, ltb-false}
use Rattle.words.specs.Bits.{bit}
use Rattle.words.specs.Words.{laid_all}
use Rattle.layout.specs.declared.Kind.{Kind}
use Rattle.layout.specs.Bits as bits
use Rattle.layout.specs.Fields.{Fields}
use Rattle.layout.specs.Layout.{layout_sector, status, layout, Acceptable, head_length, one_layer}
use Rattle.layout.proofs.LayoutLengths.{word_length}
use Rattle.reader.specs.declared.Part.{Part}
use Rattle.reader.specs.declared.Part.TheVariants.{Head}
use Rattle.reader.specs.Said.{Said}
use Rattle.reader.specs.Sectors.{sector}
use Rattle.reader.specs.Endings.{head_words, whole_sectors, place_numbers, part_missing}
use Rattle.reader.specs.Readings.{mask_in, count_in, end_of, read_of}
use Rattle.reader.specs.Parts.{words_of_part, Belongs}
use Rattle.reader.specs.Demands.{EndsIn, EndEarly, EndsPlaced}
use Rattle.reader.proofs.Heads.{head_other}
use Rattle.reader.proofs.SectorPlaces.{sector_lawful}
use Rattle.reader.proofs.Bodies.{sectors_ok_lem}
use Rattle.reader.proofs.Accepted.{Outcome, refused, cut, over, whole, outcome}
use Rattle.reader.proofs.Prefixes.{Stops, stops}
use Rattle.reader.proofs.PartsTile.{sector_has, senstat_has, head_has}
use Rattle.reader.proofs.Laid.{body_fields, sectors_laid, body_ok}
use Rattle.reader.proofs.RoundTrip.{reads_back}
use Rattle.reader.proofs.Numbers.{refusals_exactly}

-- what is behind the front of a list that is at least so long
drop_front : {A : Type 0} (n : ℕ) (xs ys : List A) → n ≤ length xs → drop n (xs ++ ys) ≡ drop n xs ++ ys
drop_front zero xs ys h = refl
drop_front (suc n) [] ys h = absurd (omega arith)
drop_front (suc n) (x ∷ xs) ys h = drop_front n xs ys (omega arith)

-- words that begin the layout of such fields
module _ (f : Fields) (w : Acceptable f) (ws more : List ℕ) (is : ws ++ more ≡ layout f) where
  abbrev m : ℕ
  m = f.mask

  abbrev n : ℕ
  n = length f.sectors

  -- the head's words, counted by the mask
  head_counted : length (words_of_part f Head) ≡ head_words m
  head_counted =
      simp length-append (omega (
        arith,
        word_length (bit m bits.sent) _ w.fits.sent,
        word_length (bit m bits.counter) _ w.fits.counter,
        word_length (bit m bits.layer) _ w.fits.layer,
      ))

  -- behind the head, as the format lays it out
  behind_head : head_words m ≤ length ws → drop (head_words m) ws ++ more ≡ laid_all (sector m).put f.sectors ++ status f
  behind_head h =
      let parts : layout f ≡ words_of_part f Head ++ (laid_all layout_sector f.sectors ++ status f) = simp append_assoc in
      rw (sectors_laid m f.sectors)
      (sym (drop_front (head_words m) ws more h) ∙ ap (drop (head_words m)) (is ∙ parts) ∙ drop_at (words_of_part f Head) _ (head_words m) head_counted)

  -- by where they stop in the sectors
  by_sectors : head_words m ≤ length ws → length ws < length (layout f)
      → Stops (sector m) (sector_lawful m) f.sectors (whole_sectors m n ws) (length (drop (head_words m) ws))
      → Belongs f (length ws) (part_missing m n ws)
  unfolding part_missing
  by_sectors h below (inl s) =
      let all = rw (sectors_laid m f.sectors) at s.1 in
      rw (le-ltb (length ws) (head_words m) h, le-ltb (whole_sectors m n ws) n (let e = s.0 in omega arith))
      (senstat_has f (length ws) (omega (arith, head_counted, length-drop (head_words m) ws)) below)
  by_sectors h below (inr s) =
      let k = whole_sectors m n ws in
      let from = rw (sectors_laid m (take k f.sectors)) at s.1 in
      let to = rw (sectors_laid m (take k f.sectors), sectors_laid m (take 1 (drop k f.sectors))) at s.2 in
      rw (le-ltb (length ws) (head_words m) h, lt-ltb k n s.0)
      (sector_has f (length ws) k
      (omega (arith, head_counted, length-drop (head_words m) ws))
      (omega (arith, head_counted, length-drop (head_words m) ws)))

  belongs : length ws < length (layout f) → Belongs f (length ws) (part_missing m n ws)
  unfolding part_missing
  belongs below = go (ltb (length ws) (head_words m)) refl
    where
      go : (t : Bool) → ltb (length ws) (head_words m) ≡ t → Belongs f (length ws) (part_missing m n ws)
      go true e = rw e (head_has f (length ws) (omega (arith, head_counted, ltb-true (length ws) (head_words m) e)))
      go false e =
          let h = ltb-false (length ws) (head_words m) e in
          by_sectors h below
          (stops (sector m) (sector_lawful m) f.sectors ws (head_words m) more (status f)
          (sectors_ok_lem m n (body_fields f) (body_ok f w.fits))
          (behind_head h))

  -- the mask and the number of sectors are those of the fields
  same_mask : head_length ≤ length ws → mask_in ws ≡ m
  same_mask h = sym (get_or-append ws more 0 1 (omega arith)) ∙ ap (λ (vs : List ℕ). get_or vs 1 0) is

  same_count : head_length ≤ length ws → count_in ws ≡ n
  same_count h =
      let few : n ≤ 8 = w.few in
      let third : get_or ws 2 0 ≡ one_layer + n = sym (get_or-append ws more 0 2 (omega arith)) ∙ ap (λ (vs : List ℕ). get_or vs 2 0) is in
      rw third (omega arith)

  pub named : head_length ≤ length ws → length ws < length (layout f) → Belongs f (length ws) (part_missing (mask_in ws) (count_in ws) ws)
  named h below = rw (same_mask h, same_count h) (belongs below)

-- words that are refused by 15 are not a whole profile
shorter : (ws : List ℕ) (f : Fields) (more : List ℕ) → (read_of ws).refusal ≡ 15 → Acceptable f → ws ++ more ≡ layout f
    → length ws < length (layout f)
shorter ws f [] r w is =
    let taken : (read_of ws).refusal ≡ 0 = subst (λ (v : List ℕ). (read_of v).refusal ≡ 0) (sym is ∙ append-nil ws) (reads_back f w).0 in
    absurd (omega arith)
shorter ws f (x ∷ xs) r w is = omega (arith, length-append ws (x ∷ xs), ap length is)

module _ (ws : List ℕ) where
  abbrev part : Part
  part = part_missing (mask_in ws) (count_in ws) ws

  ends_in : (read_of ws).refusal ≡ 15 → EndEarly ws → EndsIn ws part
  ends_in r t =
      let e = t.1 in
      let every : (f : Fields) (more : List ℕ) → Acceptable f → ws ++ more ≡ layout f → Belongs f (length ws) part =
      λ f more w is. named f w ws more is t.0 (shorter ws f more r w is) in
      record { in_one = (e.0, e.1, e.2, e.4, every e.0 e.1 e.2 e.4); in_every = every }

  -- the place that a reading has
  placed : {r : Said} → Outcome ws r → r.refusal ≡ 15 → r.place ≡ end_of ws
  placed (refused h) e = absurd (head_other Kind.Plain ws e)
  placed (cut h p) e = refl
  placed (over s) e = absurd (omega arith)
  placed (whole s) e = absurd (omega arith)

  unplaced : {r : Said} → Outcome ws r → (r.refusal ≡ 15 → ⊥) → (place_numbers r.place).part ≡ 0
  unplaced (refused h) n = refl
  unplaced (cut h p) n = absurd (n refl)
  unplaced (over s) n = refl
  unplaced (whole s) n = refl

pub ends_placed : EndsPlaced
ends_placed ws =
    record {
      there = λ r. (part ws, placed ws (outcome ws) r, ends_in ws r ((refusals_exactly ws).early.0 r));
      nowhere = unplaced ws (outcome ws);
    }
