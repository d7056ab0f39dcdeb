-- The P rows of requests: computed, each as a dialogue from the fresh state.
use mathlib.Core.Path.{refl}
use Rattle.plan.specs.Sectors.{is_step, entry_in_range, plan_in_range}
use Rattle.plan.specs.Checks.{lit_shots, measure_error}
use Rattle.layout.specs.Masks.{mask_ok}
use Rattle.layout.specs.MixedMasks.{mixed_ok}
use Rattle.state.specs.Ranges.{config_ok, in_range}
use Rattle.state.specs.Replies.{delivered}
use Rattle.sensor.specs.Table.{service_of}
use Rattle.sensor.specs.Requests.{service_refusal, request_refusal, outcome, request_of}
use Rattle.sensor.specs.Figures.{dialogue, state_after, RequestFigures}

pub request_figures : RequestFigures
unfolding dialogue state_after request_of delivered request_refusal service_refusal outcome service_of in_range config_ok is_step entry_in_range
    plan_in_range lit_shots measure_error mask_ok mixed_ok
request_figures = refl
