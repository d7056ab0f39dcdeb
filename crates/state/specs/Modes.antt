-- Rule 2.3: the number of a mode, which SENSTAT has for its low word.
use Rattle.std.specs.Prelude.{ℕ}
use Rattle.state.specs.declared.Mode.{Mode}
use Rattle.state.specs.declared.Mode.TheVariants.{Idle, Rotate, Measure}

abbrev pub mode_number : Mode → ℕ
mode_number Idle = 1
mode_number Rotate = 2
mode_number Measure = 3
