-- Rule 4.18: the four checks, in their order, of a plan, a step and a running speed.
use Rattle.std.specs.Prelude.{Bool, not, ◌&&◌, ◌||◌, ℕ, ◌*◌, Result, Ok, Err, ltb, eqb, if◌then◌else◌}
use Rattle.units.specs.Directions.{revolution_shots}
use Rattle.words.specs.Lists.{some}
use Rattle.plan.specs.declared.Plan.{Plan}
use Rattle.plan.specs.declared.checks.MeasureError.{MeasureError}
use Rattle.plan.specs.declared.checks.MeasureError.TheVariants.{TooManyShots, TooManyLit, NotRising, BetweenSteps}
use Rattle.plan.specs.Sectors.{active_of}
use Rattle.plan.specs.Validity.{increases, multiples}
use Rattle.plan.specs.Shots.{arcs, shots_with}

-- functions 3 and 4 (rule 3.2)
abbrev pub is_lit : ℕ → Bool
is_lit f = eqb f 3 || eqb f 4

-- the shots of functions 3 and 4 in one revolution (rule 4.18)
unfoldable pub lit_shots : Plan → ℕ → ℕ
lit_shots p step = shots_with is_lit (arcs step (active_of p))

-- in this order: no active sector, or stops that do not rise; a stop between two steps; too many shots a second; too many lit ones; 0 where
-- none is so (rule 4.18)
unfoldable pub measure_error : Plan → ℕ → ℕ → ℕ
measure_error p step speed =
    if not (some (active_of p) && increases (active_of p)) then 3 else
    if not (multiples step (active_of p)) then 4 else
    if ltb 14400 (speed * revolution_shots step) then 1 else
    if ltb 10800 (speed * lit_shots p step) then 2 else 0

-- the number of a check that fails: more than 14400 shots a second are 1, more than 10800 lit ones 2, no active sector or stops that do not
-- rise 3, a stop between two steps 4 (rule 4.18)
abbrev pub error_number : MeasureError → ℕ
error_number TooManyShots = 1
error_number TooManyLit = 2
error_number NotRising = 3
error_number BetweenSteps = 4

-- the number that the checks' answer stands for: 0 where none fails (rule 4.18)
abbrev pub error_said : Result (Unit {0}) MeasureError → ℕ
error_said (Ok u) = 0
error_said (Err e) = error_number e
