-- The P rows of the fresh state: computed.
use mathlib.Core.Path.{refl}
use Rattle.state.specs.Figures.{StateFigures}

pub state_figures : StateFigures
state_figures = refl
