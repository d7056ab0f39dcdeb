-- The P rows of mixed profiles: computed.
use mathlib.Core.Path.{refl}
use Rattle.words.specs.Buffers.{in_turn}
use Rattle.plan.specs.Sectors.{is_step, entry_in_range, plan_in_range}
use Rattle.plan.specs.Checks.{lit_shots, measure_error}
use Rattle.layout.specs.Masks.{mask_ok}
use Rattle.layout.specs.MixedMasks.{mixed_ok}
use Rattle.state.specs.Ranges.{config_ok, in_range}
use Rattle.state.specs.Replies.{delivered}
use Rattle.profile.specs.Points.{point_words}
use Rattle.profile.specs.Profiles.{points_of}
use Rattle.profile.specs.Mixed.{reflectors_of}
use Rattle.profile.specs.Revolutions.{revolved, revolution_refusal, revolution_of}
use Rattle.promises.specs.MixedFigures.{MixedFigures}

pub mixed_figures : MixedFigures
unfolding revolution_of delivered revolution_refusal revolved in_range config_ok is_step entry_in_range plan_in_range
    lit_shots measure_error mask_ok mixed_ok points_of point_words reflectors_of in_turn
mixed_figures = refl
