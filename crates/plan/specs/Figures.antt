-- Rules, section 7: the P rows of plans, steps, shots and checks. Proved in proofs/PlanRows.antt.
use Rattle.std.specs.Prelude.{List, [], ◌∷◌, ℕ, ◌-◌, ◌≤◌, length, get_or}
use Rattle.words.specs.Rows.{Row, Shown}
use Rattle.plan.specs.declared.Plan.{Plan}
use Rattle.plan.specs.Sectors.{sector, filled}
use Rattle.plan.specs.Validity.{ValidPlan}
use Rattle.plan.specs.Shots.{arc_at, run_of}
use Rattle.plan.specs.Checks.{measure_error}
use Rattle.plan.specs.Demands.{no_shot}

-- one sector of function 3 up to a stop (rule 7.4)
abbrev pub one_sector : ℕ → Plan
one_sector stop = filled (sector 3 stop ∷ [])

-- the plan of two sectors of the bench (rule 7.6)
abbrev pub two_sectors : Plan
two_sectors = filled (sector 1 1436 ∷ sector 3 3360 ∷ [])

-- the number of shots of one revolution, its first direction and its last (rule 7.4)
abbrev pub shots_first_last : Plan → ℕ → List ℕ
shots_first_last p step =
    let r = run_of step p in
    length r ∷ (get_or r 0 no_shot).direction ∷ (get_or r (length r - 1) no_shot).direction ∷ []

-- the rows, for any plan p that is valid for step 1 and any speed (rules 7.1 and 7.4 to 7.8)
abbrev pub plan_rows : Plan → ℕ → List Row
plan_rows p speed =
    -- a step of 1 with a valid plan: error 1 at every speed (rule 7.1)
    record { value = measure_error p 1 speed ∷ []; figure = 1 ∷ [] }
    -- stop 0 at step 8: from 8 to 0 (rule 7.4)
    ∷ record { value = shots_first_last (one_sector 0) 8; figure = 720 ∷ 8 ∷ 0 ∷ [] }
    -- the two sectors at step 4: 481 points from 1440 in sector 1, and sector 0 from 3364 (rule 7.6)
    ∷ record {
      value = (arc_at two_sectors 4 1).points ∷ (arc_at two_sectors 4 1).first.0 ∷ (arc_at two_sectors 4 0).first.0 ∷ [];
      figure = 481 ∷ 1440 ∷ 3364 ∷ [];
    }
    -- the same plan a little too fast: error 1; a whole circle measured at step 2 and 5 Hz: error 2 (rule 7.7)
    ∷ record { value = measure_error two_sectors 4 11 ∷ measure_error (one_sector 5758) 2 5 ∷ []; figure = 1 ∷ 2 ∷ [] }
    -- step 10 with stop 5752: error 4 (rule 7.8)
    ∷ record { value = measure_error (one_sector 5752) 10 10 ∷ []; figure = 4 ∷ [] }
    ∷ []

abbrev pub PlanFigures : Type 0
PlanFigures = (p : Plan) (speed : ℕ) → ValidPlan 1 p → 5 ≤ speed → speed ≤ 20 → Shown (plan_rows p speed)
