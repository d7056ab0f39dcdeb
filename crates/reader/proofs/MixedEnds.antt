-- Where the words of a mixed profile end early in the contour: in the part that a plain profile would name, since how many sectors are whole
-- does not go by the place from which they are read.
use Prim.Native.Nat.{ℕ, zero, suc, ◌+◌, ◌≤◌}
use mathlib.Core.Path.{◌≡◌, refl, sym, ◌∙◌, ap}
use mathlib.Core.List.{List}
use mathlib.Core.Bool.{Bool, true, false}
use native.Mathlib.Omega.{arith}
use lib.Dec.{ltb}
use lib.ListN.{length, drop, length-drop}
use lib.Seq.{drop-drop}
use borrow.Author.Tests.{lt-ltb, le-ltb, ltb-true, ltb-false}
use Rattle.words.specs.Bits.{bit}
use Rattle.words.specs.Lists.{count}
use Rattle.words.specs.Parse.{Got, short, got}
use Rattle.words.specs.Format.{Format}
use Rattle.words.proofs.Lawful.{Lawful}
use Rattle.words.proofs.AnyPlace.{SameLeft, any_place}
use Rattle.layout.specs.Bits as bits
use Rattle.layout.specs.Mixed.{mixed_head_length}
use Rattle.reader.specs.Sectors.{sector}
use Rattle.reader.specs.Endings.{head_words, one_more_of, wholes, whole_sectors, part_missing}
use Rattle.reader.specs.Mixed.{plain_of}
use Rattle.reader.specs.Places.{head_from, whole_from, part_from}
use Rattle.reader.proofs.SectorPlaces.{sector_lawful}

module _ {A F : Type 0} (c : Format A F) (lawful : Lawful c) where
  one_more : (n : ℕ) → ((b b' : ℕ) (ws : List ℕ) → wholes n c.parse b ws ≡ wholes n c.parse b' ws)
      → (g g' : Got A) → SameLeft g g' → one_more_of g (wholes n c.parse) ≡ one_more_of g' (wholes n c.parse)
  one_more n h short short s = refl
  one_more n h short (got a b ws) s = absurd s
  one_more n h (got a b ws) short s = absurd s
  one_more n h (got a b ws) (got a' b' ws') s = ap suc (h b b' ws ∙ ap (wholes n c.parse b') s)

  wholes_same : (n b b' : ℕ) (ws : List ℕ) → wholes n c.parse b ws ≡ wholes n c.parse b' ws
  wholes_same zero b b' ws = refl
  wholes_same (suc n) b b' ws = one_more n (wholes_same n) (c.parse b ws) (c.parse b' ws) (any_place c lawful b b' ws)

same_test : (a b : ℕ) → ltb (suc a) (suc b) ≡ ltb a b
same_test a b = go (ltb a b) refl
  where
    go : (t : Bool) → ltb a b ≡ t → ltb (suc a) (suc b) ≡ t
    go true e = lt-ltb (suc a) (suc b) (omega (arith, ltb-true a b e))
    go false e = le-ltb (suc a) (suc b) (omega (arith, ltb-false a b e))

-- the words as a plain profile has them are one fewer, and the same behind the head
module _ (mask sectors : ℕ) (ws : List ℕ) (long : mixed_head_length ≤ length ws) where
  one_fewer : length ws ≡ suc (length (plain_of ws))
  one_fewer = omega (arith, length-drop 3 ws)

  same_behind : drop (head_words mask) (plain_of ws) ≡ drop (head_from mixed_head_length mask) ws
  same_behind =
      let bits = count (bit mask) bits.of_head in
      let more : head_words mask ≡ 2 + (1 + bits) = omega arith in
      let most : 3 + (1 + bits) ≡ head_from mixed_head_length mask = omega arith in
      ap (λ (n : ℕ). drop n (plain_of ws)) more
      ∙ sym (drop-drop (1 + bits) 2 (plain_of ws))
      ∙ drop-drop (1 + bits) 3 ws
      ∙ ap (λ (n : ℕ). drop n ws) most

  same_wholes : whole_sectors mask sectors (plain_of ws) ≡ whole_from mixed_head_length mask sectors ws
  same_wholes =
      ap (wholes sectors (sector mask).parse (head_words mask)) same_behind
      ∙ wholes_same (sector mask) (sector_lawful mask) sectors _ _ _

  same_head : ltb (length (plain_of ws)) (head_words mask) ≡ ltb (length ws) (head_from mixed_head_length mask)
  same_head =
      let one : head_from mixed_head_length mask ≡ suc (head_words mask) = omega arith in
      rw (one_fewer, one, same_test)

  pub contour_part : part_missing mask sectors (plain_of ws) ≡ part_from mixed_head_length mask sectors ws
  unfolding part_missing part_from
  contour_part = rw (same_head, same_wholes)
