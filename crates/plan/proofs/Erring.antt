-- The answers of the checks: two of one number are one answer, and there is one for every plan, step and speed.
use Rattle.std.proofs.Common.{◌≡◌, refl, Bool, true, false, not, ℕ, Result, Ok, Err, if◌then◌else◌}
use lib.Dec.{eqb}
use Rattle.plan.specs.declared.Plan.{Plan}
use Rattle.plan.specs.declared.checks.MeasureError.{MeasureError}
use Rattle.plan.specs.declared.checks.MeasureError.TheVariants.{TooManyShots, TooManyLit, NotRising, BetweenSteps}
use Rattle.plan.specs.Checks.{measure_error, error_said}

-- the answer of a number
abbrev pub error_of : ℕ → Result (Unit {0}) MeasureError
error_of n =
    if eqb n 0 then Ok tt else
    if eqb n 1 then Err TooManyShots else
    if eqb n 2 then Err TooManyLit else
    if eqb n 3 then Err NotRising else Err BetweenSteps

-- each answer is read off its number
pub error_read : (r : Result (Unit {0}) MeasureError) → error_of (error_said r) ≡ r
error_read (Ok u) = refl
error_read (Err TooManyShots) = refl
error_read (Err TooManyLit) = refl
error_read (Err NotRising) = refl
error_read (Err BetweenSteps) = refl

-- the answer of a number is said by it
abbrev Said : ℕ → Type 0
Said n = error_said (error_of n) ≡ n

by_checks : (a b c d : Bool) → Said (if not a then 3 else if not b then 4 else if c then 1 else if d then 2 else 0)
by_checks false b c d = refl
by_checks true false c d = refl
by_checks true true true d = refl
by_checks true true false true = refl
by_checks true true false false = refl

pub some_error : (p : Plan) (step speed : ℕ) → error_said (error_of (measure_error p step speed)) ≡ measure_error p step speed
unfolding measure_error
some_error p step speed = by_checks _ _ _ _
