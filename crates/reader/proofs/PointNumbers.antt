-- The points of a sector that was read: as many words as their number and the mask say, and none where the mask leaves either out.
use Prim.Native.Nat.{ℕ, ◌*◌, ◌<◌}
use mathlib.Core.Path.{◌≡◌, refl, ◌∙◌}
use mathlib.Core.Logic.{◌⊎◌, inl, inr}
use mathlib.Core.Bool.{Bool, true, false}
use mathlib.Core.List.{List, [], ◌∷◌}
use native.Mathlib.Nat.{zero-mul, mul-zero}
use native.Mathlib.Omega.{arith}
use lib.ListN.{length, get_or, drop}
use borrow.Author.Tests.{lt-ltb}
use Rattle.std.specs.Prelude.{Option, Some, None}
use Rattle.words.specs.Bits.{bit}
use Rattle.words.specs.Words.{number_of, Shaped}
use Rattle.words.specs.Parse.{got}
use Rattle.layout.specs.Bits as bits
use Rattle.layout.specs.Layout.{head_length}
use Rattle.layout.specs.Masks.{point_width}
use Rattle.reader.specs.declared.SectorReading.{SectorReading}
use Rattle.reader.specs.Sectors.{sector, blank_sector}
use Rattle.reader.specs.Readings.{mask_in, count_in, Body, sectors_in, body, padded, read_of}
use Rattle.reader.specs.Stretches.{stretch_in, stretch_of}
use Rattle.reader.specs.Demands.{NoPoints}
use Rattle.reader.proofs.FoundSectors.{found_ok}
use Rattle.reader.proofs.PointPlaces.{whole}

left_out : (on : Bool) (w : Option ℕ) → Shaped on w → on ≡ false → number_of w ≡ 0
left_out on None h e = refl
left_out true (Some w) h e = absurd (let z : ◌≡◌ {A = ℕ} 0 1 = cc in omega arith)
left_out false (Some w) h e = absurd h

no_length : (l : List ℕ) → length l ≡ 0 → l ≡ []
no_length [] e = refl
no_length (x ∷ xs) e = absurd (omega arith)

-- of a body that is read from some place on
module _ (ws : List ℕ) (mask count first : ℕ) {value : Body SectorReading} {end : ℕ} {rest : List ℕ}
    (parsed : (body mask count).parse first (drop first ws) ≡ got value end rest) (place : ℕ) (here : place < count) where
  abbrev at : SectorReading
  at = get_or (padded (sectors_in value)) place blank_sector

  ok : (sector mask).ok ((sector mask).strip ws at)
  ok = found_ok ws mask count first parsed place here

  point_words : length (stretch_in ws at) ≡ number_of at.points * point_width mask
  point_words = ok.1.1.1.1.1.0

  -- bit 5 is clear, or bits 8 to 10 are
  pub pointless : (bit mask bits.points ≡ false) ⊎ (point_width mask ≡ 0) → stretch_in ws at ≡ []
  pointless (inl e) = no_length (stretch_in ws at) (point_words ∙ rw (left_out (bit mask bits.points) at.points ok.1.1.0 e, zero-mul))
  pointless (inr e) = no_length (stretch_in ws at) (point_words ∙ rw (e, mul-zero))

pub no_points : NoPoints
unfolding stretch_of
no_points ws place here why =
    let s = whole ws place here in
    rw (lt-ltb place (read_of ws).count here, s.reading)
    (pointless ws (mask_in ws) (count_in ws) head_length s.parsed place (rw s.reading at here) why)
