-- `stretch`: a sector that was read has its points within the words.
use mathlib.Core.Path.{refl}
use Rattle.reader.proofs.PointPlaces.{points_within, stretch_lent, nothing_lent}
use Rattle.reader.proofs.stretches.stretch.Goals as goal

pub points_at-requires : goal.points_at-requires
points_at-requires c = points_within _ _ c.in-Ok.ensures

pub returns-in-Ok : goal.returns-in-Ok
returns-in-Ok c = stretch_lent _ _ _ _ c.in-Ok.ensures c.points_at.ensures

pub returns-in-Err : goal.returns-in-Err
returns-in-Err c = nothing_lent _ _ _ _ c.in-Err.ensures refl refl
