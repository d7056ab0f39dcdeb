-- The points of a sector of a mixed profile: where they stand, and where there are none.
use Prim.Native.Nat.{ℕ, ◌<◌}
use mathlib.Core.List.{List}
use native.Mathlib.Omega.{arith}
use borrow.Author.Tests.{lt-ltb}
use Rattle.layout.specs.Mixed.{mixed_head_length}
use Rattle.reader.specs.Said.{MixedSaid}
use Rattle.reader.specs.Mixed.{mixed_mask_in, mixed_count_in, read_mixed_of}
use Rattle.reader.specs.MixedStretches.{mixed_stretch_of, mixed_stretch_start}
use Rattle.reader.specs.MixedDemands.{MixedNoPoints, MixedStandsAtPlace}
use Rattle.reader.proofs.MixedAccepted.{MixedAccepted, MixedOutcome, mixed_outcome}
use Rattle.reader.proofs.MixedAccepted.{refused, cut_contour, cut_count, too_many, cut_reflectors, over, whole}
use Rattle.reader.proofs.PointNumbers.{pointless}
use Rattle.reader.proofs.Standing.{stands_behind}

-- a reading that has a sector is not refused
pub mixed_whole : (ws : List ℕ) → 0 < (read_mixed_of ws).count → MixedAccepted ws
mixed_whole ws = go (mixed_outcome ws)
  where
    go : {r : MixedSaid} → MixedOutcome ws r → 0 < r.count → MixedAccepted ws
    go (refused h) e = absurd (omega arith)
    go (cut_contour h p) e = absurd (omega arith)
    go (cut_count s p) e = absurd (omega arith)
    go (too_many s h) e = absurd (omega arith)
    go (cut_reflectors s few h) e = absurd (omega arith)
    go (over s) e = absurd (omega arith)
    go (whole s) e = s

pub mixed_no_points : MixedNoPoints
unfolding mixed_stretch_of
mixed_no_points ws place here why =
    let s = mixed_whole ws (omega arith) in
    rw (lt-ltb place (read_mixed_of ws).count here, s.reading)
    (pointless ws (mixed_mask_in ws) (mixed_count_in ws) mixed_head_length s.count.contour.parsed place (rw s.reading at here) why)

pub mixed_stands_at_place : MixedStandsAtPlace
unfolding mixed_stretch_start
mixed_stands_at_place ws place here =
    let s = mixed_whole ws (omega arith) in
    rw (lt-ltb place (read_mixed_of ws).count here, s.reading)
    (omega (arith, stands_behind ws (mixed_mask_in ws) (mixed_count_in ws) mixed_head_length s.count.contour.parsed place (rw s.reading at here)))
