-- The P rows of plans: computed, but for the one that holds for every valid plan and every speed.
use mathlib.Core.Path.{◌≡◌}
use mathlib.Core.Bool.{true}
use Prim.Native.Nat.{ℕ, ◌*◌, ◌≤◌}
use native.Mathlib.Omega.{arith}
use borrow.Author.Tests.{lt-ltb}
use Rattle.units.specs.Directions.{circle}
use Rattle.words.specs.Lists.{some}
use Rattle.words.proofs.Tests.{is_true}
use Rattle.plan.specs.declared.Plan.{Plan}
use Rattle.plan.specs.Sectors.{is_step, active_of}
use Rattle.plan.specs.Validity.{increases, multiples, ValidPlan}
use Rattle.plan.specs.Shots.{arc_at}
use Rattle.plan.specs.Checks.{lit_shots, measure_error}
use Rattle.plan.specs.Figures.{PlanFigures}

-- at step 1 a revolution has a shot in each direction, too many at every speed
step_one : (p : Plan) (speed : ℕ) → ValidPlan 1 p → 5 ≤ speed → measure_error p 1 speed ≡ 1
unfolding measure_error
step_one p speed v l =
    let a : some (active_of p) ≡ true = is_true v.valid.at_least_one in
    let b : increases (active_of p) ≡ true = is_true v.valid.increasing in
    let c : multiples 1 (active_of p) ≡ true = is_true v.valid.whole_steps in
    rw (a, b, c, lt-ltb 14400 (speed * circle) (omega arith))

pub plan_figures : PlanFigures
unfolding is_step arc_at lit_shots measure_error
plan_figures p speed v l m = rw (step_one p speed v l)
