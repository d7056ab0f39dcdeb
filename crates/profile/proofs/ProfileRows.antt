-- The P rows of profiles, and those of the listing: computed.
use mathlib.Core.Path.{refl}
use Rattle.words.specs.Buffers.{in_turn}
use Rattle.plan.specs.Sectors.{is_step, entry_in_range, plan_in_range}
use Rattle.plan.specs.Checks.{lit_shots, measure_error}
use Rattle.layout.specs.Masks.{mask_ok}
use Rattle.layout.specs.Lengths.{profile_length}
use Rattle.state.specs.Ranges.{config_ok, in_range}
use Rattle.state.specs.Replies.{delivered}
use Rattle.profile.specs.Points.{point_words}
use Rattle.profile.specs.Profiles.{points_of}
use Rattle.profile.specs.Revolutions.{revolved, revolution_refusal, revolution_of}
use Rattle.profile.specs.Figures.{ProfileFigures, ListingFigures}

pub profile_figures : ProfileFigures
unfolding revolution_of delivered revolution_refusal revolved in_range config_ok is_step entry_in_range plan_in_range
    lit_shots measure_error mask_ok points_of point_words in_turn profile_length
profile_figures = refl

pub listing_figures : ListingFigures
unfolding lit_shots measure_error
listing_figures = refl
