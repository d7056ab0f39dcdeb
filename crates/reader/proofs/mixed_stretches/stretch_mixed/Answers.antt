-- `stretch_mixed`: a sector that was read has its points within the words.
use mathlib.Core.Path.{refl}
use Rattle.reader.proofs.MixedPoints.{mixed_points_within, mixed_stretch_lent, mixed_nothing_lent}
use Rattle.reader.proofs.mixed_stretches.stretch_mixed.Goals as goal

pub points_at-requires : goal.points_at-requires
points_at-requires c = mixed_points_within _ _ c.in-Ok.ensures

pub returns-in-Ok : goal.returns-in-Ok
returns-in-Ok c = mixed_stretch_lent _ _ _ _ c.in-Ok.ensures c.points_at.ensures

pub returns-in-Err : goal.returns-in-Err
returns-in-Err c = mixed_nothing_lent _ _ _ _ c.in-Err.ensures refl refl
