-- A sector's points are asked by its place, and not by its number word.
use mathlib.Core.Path.{◌≡◌, ap}
use mathlib.Core.List.{List}
use Prim.Native.Nat.{ℕ}
use native.Mathlib.Omega.{arith}
use lib.ListN.{get_or}
use Rattle.layout.specs.Masks.{mask_ok}
use Rattle.reader.specs.Readings.{head_refusal, body_of, read_of}
use Rattle.reader.specs.Stretches.{stretch_of}
use Rattle.reader.specs.Demands.{NotByNumber}

-- the second sector's distance is not the first one's
pub not_by_number : NotByNumber
unfolding mask_ok head_refusal body_of read_of stretch_of
not_by_number e =
    let distance : ◌≡◌ {A = ℕ} 600 500 = ap (λ (l : List ℕ). get_or l 0 0) e in
    absurd (omega (arith, distance))
