-- The P rows of the normal plan: computed.
use mathlib.Core.Path.{refl}
use Rattle.plan.specs.Sectors.{is_step}
use Rattle.normal.specs.NormalForm.{plan_refusal, normalised_of}
use Rattle.normal.specs.Figures.{NormalFigures}

pub normal_figures : NormalFigures
unfolding is_step plan_refusal normalised_of
normal_figures p = refl
