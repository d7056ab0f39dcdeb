-- Rules, section 7: all P rows, and behind them those of the listing of real heads (document 002, 8.2.1), in one list.
use Rattle.std.specs.Prelude.{List, ◌++◌, ℕ, ◌≤◌}
use Rattle.words.specs.Rows.{Row, Shown}
use Rattle.plan.specs.declared.Plan.{Plan}
use Rattle.plan.specs.Validity.{ValidPlan}
use Rattle.plan.specs.Figures.{plan_rows}
use Rattle.normal.specs.Figures.{normal_rows}
use Rattle.state.specs.Figures.{state_rows}
use Rattle.sensor.specs.Figures.{request_rows}
use Rattle.profile.specs.Figures.{profile_rows, listing_rows}
use Rattle.reader.specs.Figures.{reader_rows}
use Rattle.promises.specs.MixedFigures.{mixed_rows}

-- for any plan that is valid for step 1 and any speed (rules 7.1 to 7.9 and 7.13 to 7.18)
abbrev pub rows : Plan → ℕ → List Row
rows p speed = plan_rows p speed ++ normal_rows p ++ state_rows ++ request_rows ++ profile_rows ++ mixed_rows ++ reader_rows ++ listing_rows

abbrev pub BenchFigures : Type 0
BenchFigures = (p : Plan) (speed : ℕ) → ValidPlan 1 p → 5 ≤ speed → speed ≤ 20 → Shown (rows p speed)
