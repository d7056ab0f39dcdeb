-- Rule 5.16: the place at which words end before the profile does. It is the index of the first missing word and the part to which that
-- word belongs: the first that is not whole.
use Rattle.std.specs.Prelude.{List, ℕ, zero, suc, ◌+◌, ltb, length, drop, if◌then◌else◌}
use Rattle.words.specs.Lists.{count}
use Rattle.words.specs.Bits.{bit}
use Rattle.words.specs.Parse.{Got, short, got, Parser}
use Rattle.layout.specs.Bits as bits
use Rattle.layout.specs.Layout.{head_length}
use Rattle.reader.specs.declared.Part.{Part}
use Rattle.reader.specs.declared.Part.TheVariants.{Head, Sector, Senstat}
use Rattle.reader.specs.Said.{Place, Nowhere, At}
use Rattle.reader.specs.Sectors.{sector}

-- a place by numbers: the part, 0 for none, 1 the head, 2 a sector, 3 SENSTAT; the sector's place; the index. What a place does not have
-- is 0 (rule 5.16)
pub record PlaceNumbers : Type 0 where
  pub part : ℕ
  pub sector : ℕ
  pub index : ℕ

abbrev pub place_numbers : Place Part → PlaceNumbers
place_numbers Nowhere = record { part = 0; sector = 0; index = 0 }
place_numbers (At index Head) = record { part = 1; sector = 0; index = index }
place_numbers (At index (Sector k)) = record { part = 2; sector = k; index = index }
place_numbers (At index Senstat) = record { part = 3; sector = 0; index = index }

-- how many words the head has: three, and one for each bit of 0 to 2 that is set (rules 5.4 and 5.5)
abbrev pub head_words : ℕ → ℕ
head_words mask = head_length + count (bit mask) bits.of_head

-- of n that are to be read one after another, how many are whole (rule 5.16)
abbrev pub one_more_of : {A : Type 0} → Got A → (ℕ → List ℕ → ℕ) → ℕ
one_more_of short behind = 0
one_more_of (got a place ws) behind = suc (behind place ws)

abbrev pub wholes : {A : Type 0} → ℕ → Parser A → ℕ → List ℕ → ℕ
wholes zero p place ws = 0
wholes (suc n) p place ws = one_more_of (p place ws) (wholes n p)

-- how many of the sectors are whole, the first of which stands behind the head (rule 5.16)
abbrev pub whole_sectors : ℕ → ℕ → List ℕ → ℕ
whole_sectors mask sectors ws = wholes sectors (sector mask).parse (head_words mask) (drop (head_words mask) ws)

-- the first part that is not whole, by the mask and the number of sectors (rule 5.16)
unfoldable pub part_missing : ℕ → ℕ → List ℕ → Part
part_missing mask sectors ws =
    if ltb (length ws) (head_words mask) then Head else
    if ltb (whole_sectors mask sectors ws) sectors then Sector (whole_sectors mask sectors ws) else Senstat
