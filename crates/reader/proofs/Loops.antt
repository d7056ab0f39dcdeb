-- The loop over the sectors: what is read so far, put before what is still to be read, is what is to be read.
use Prim.Native.Nat.{ℕ, suc, ◌+◌, ◌-◌, ◌≤◌, ◌<◌, zero-le}
use mathlib.Core.Path.{◌≡◌, refl, sym, ◌∙◌, ap, subst}
use mathlib.Core.List.{List, [], ◌∷◌, ◌++◌, append_assoc, append-nil}
use native.Mathlib.Omega.{arith}
use native.Mathlib.Numerals.{add-one}
use lib.ListN.{length, take, drop, set, replicate, length-drop, length-set, length-replicate, take-append-drop}
use lib.Seq.{take_all, take-suc-set, drop-set-lt, drop-drop, length-take-le}
use Rattle.std.specs.Prelude.{Option, Some, None}
use Rattle.words.specs.Parse.{Got, short, got, map_got, times_parse}
use Rattle.words.proofs.Lawful.{Sound, SoundOf, KeptOf}
use Rattle.reader.specs.declared.SectorReading.{SectorReading}
use Rattle.reader.specs.Sectors.{sector, blank_sector, found_of}
use Rattle.reader.specs.Endings.{wholes}
use Rattle.reader.specs.Places.{SectorsWhole, SectorsCut}
use Rattle.reader.proofs.SectorPlaces.{sector_lawful}

-- the part of the words from a place on, as `&words[at..]` lends it
rest_all : (ws : List ℕ) (at : ℕ) → take (length ws - at) (drop at ws) ≡ drop at ws
rest_all ws at = take_all (length ws - at) (drop at ws) (omega (arith, length-drop at ws))

-- what the sector reader's answer says was found
whole_got : (g : Got SectorReading) (s : SectorReading) (n : ℕ) → found_of g ≡ Some (s, n) → (ws : List ℕ) × (g ≡ got s n ws)
whole_got short s n e = absurd (let z : ◌≡◌ {A = ℕ} 0 1 = cc in omega arith)
whole_got (got a b ws) s n e =
    let same : ◌≡◌ {A = SectorReading × ℕ} (a, b) (s, n) = cc in
    (ws, ap (λ (p : SectorReading × ℕ). got p.0 p.1 ws) same)

cut_short : (g : Got SectorReading) → found_of g ≡ None → g ≡ short
cut_short short e = refl
cut_short (got a b ws) e = absurd (let z : ◌≡◌ {A = ℕ} 0 1 = cc in omega arith)

-- a list put before what is found: no list, and one entry more
map_none : {A : Type 0} (g : Got (List A)) → g ≡ map_got (λ ys. [] ++ ys) g
map_none short = refl
map_none (got a b ws) = refl

map_more : {A : Type 0} (xs : List A) (x : A) (g : Got (List A))
    → map_got (λ ys. xs ++ ys) (map_got (λ ys. x ∷ ys) g) ≡ map_got (λ ys. (xs ++ (x ∷ [])) ++ ys) g
map_more xs x short = refl
map_more xs x (got ys b ws) = ap (λ zs. got zs b ws) (sym (append_assoc xs (x ∷ []) ys))

-- the list's first k entries are read, up to the place at, and the others are blank
pub record SoFar (words : List ℕ) (mask count from : ℕ) (list : List SectorReading) (at k : ℕ) : Type 0 where
  pub counted : k ≤ count
  pub place : at ≤ length words
  pub slots : length list ≡ 8
  pub blanks : drop k list ≡ replicate (8 - k) blank_sector
  pub found : times_parse count (sector mask).parse from (drop from words)
      ≡ map_got (λ ys. take k list ++ ys) (times_parse (count - k) (sector mask).parse at (drop at words))
  pub whole : wholes count (sector mask).parse from (drop from words) ≡ wholes (count - k) (sector mask).parse at (drop at words) + k

module _ (words : List ℕ) (mask count from : ℕ) where
  pub starts : (b : SectorReading) → b ≡ blank_sector → from ≤ length words → SoFar words mask count from (replicate 8 b) from 0
  starts b e h =
      let all : count - 0 ≡ count = omega arith in
      rw e
      (record {
        counted = zero-le;
        place = h;
        slots = length-replicate 8 blank_sector;
        blanks = refl;
        found = rw all (map_none _);
        whole = rw all (omega arith);
      })

  module _ (list : List SectorReading) (at k : ℕ) (h : SoFar words mask count from list at k) where
    -- the loop is done
    pub all_read : count ≤ k → count ≤ 8 → SectorsWhole words mask count from list at
    all_read done few =
        let n : k ≤ count = h.counted in
        let all : k ≡ count = omega arith in
        let none : count - count ≡ 0 = omega arith in
        let long : length list ≡ 8 = h.slots in
        let full : list ≡ take count list ++ replicate (8 - length (take count list)) blank_sector =
        rw (length-take-le count list (omega arith)) (sym (take-append-drop count list) ∙ ap (λ ys. take count list ++ ys) (rw all at h.blanks)) in
        record { list = take count list; found = rw all at h.found ∙ rw (none, append-nil); padded_out = full; inside = h.place }

    module _ (more : k < count) (r : Option (SectorReading × ℕ))
        (e : r ≡ found_of ((sector mask).parse at (take (length words - at) (drop at words)))) where
      answered : found_of ((sector mask).parse at (drop at words)) ≡ r
      answered = rw rest_all at (sym e)

      left : count - k ≡ suc (count - (k + 1))
      left = omega arith

      -- one turn finds that the words end early
      pub cut_off : r ≡ None → {place : ℕ} → place ≡ k → SectorsCut words mask count from place
      cut_off q is =
          let here : (sector mask).parse at (drop at words) ≡ short = cut_short _ (answered ∙ q) in
          record { found = h.found ∙ rw (left, here); begun = is ∙ sym (h.whole ∙ rw (left, here) (omega arith)) }

      -- one turn finds a sector
      turned : (a : SectorReading) (next : ℕ) (ws' : List ℕ) → (sector mask).parse at (drop at words) ≡ got a next ws' → count ≤ 8
          → SoFar words mask count from (set list k a) next (k + 1)
      turned a next ws' e few =
          let sound : Sound (sector mask) words at a next ws' = subst (SoundOf (sector mask) words at) e ((sector_lawful mask).sound words at) in
          let kept : next + length ws' ≡ at + length (drop at words) = subst (KeptOf at (drop at words)) e ((sector_lawful mask).kept at (drop at words)) in
          let p : at ≤ length words = h.place in
          let long : length list ≡ 8 = h.slots in
          let room : 8 - k ≡ suc (8 - (k + 1)) = omega arith in
          let here : k < length list = omega arith in
          let one_more : take (k + 1) (set list k a) ≡ take k list ++ (a ∷ []) = rw (add-one k, take-suc-set list k a here) in
          record {
            counted = omega arith;
            place = omega (arith, length-drop at words);
            slots = length-set list k a ∙ h.slots;
            blanks = drop-set-lt (k + 1) list k a (omega arith) ∙ sym (drop-drop 1 k list) ∙ ap (drop 1) h.blanks ∙ rw room;
            found = h.found ∙ rw (left, e, sound.rest, one_more) (map_more (take k list) a (times_parse (count - (k + 1)) (sector mask).parse next ws'));
            whole = h.whole ∙ rw (left, e, sound.rest) (omega arith);
          }

      pub turns : (a : SectorReading) (next : ℕ) → r ≡ Some (a, next) → count ≤ 8 → SoFar words mask count from (set list k a) next (k + 1)
      turns a next q few = let g = whole_got _ a next (answered ∙ q) in turned a next g.0 g.1 few
