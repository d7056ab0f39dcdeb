-- Rules, section 4: DO_RESET, TRANS_IDLE, TRANS_ROTATE, TRANS_MEASURE. Whatever leaves MEASURE ends the job.
use Rattle.std.specs.Prelude.{List, [], ◌∷◌, ◌++◌, ℕ, ltb, eqb, if◌then◌else◌}
use Rattle.plan.specs.Checks.{measure_error}
use Rattle.state.specs.declared.State.{State}
use Rattle.state.specs.declared.Mode.{Mode}
use Rattle.state.specs.declared.Mode.TheVariants.{Idle, Rotate, Measure}
use Rattle.state.specs.declared.Job.TheVariants.{Absent}
use Rattle.state.specs.Changes.{Part}
use Rattle.state.specs.Changes as part
use Rattle.state.specs.Nav300.{restored}
use Rattle.state.specs.Fields.{with_plans, with_drive, with_port, with_counter, with_settings}
use Rattle.state.specs.Ranges.{speed_ok}
use Rattle.state.specs.Replies.{Outcome}
use Rattle.services.specs.Answers.{answer, answer_status, senstat}

-- what TRANS_IDLE and TRANS_ROTATE may change, and DO_RESET (rule 4.4)
abbrev pub drive_parts : List Part
drive_parts = part.mode ∷ part.running ∷ part.job ∷ []

abbrev pub reset_parts : List Part
reset_parts = part.working ∷ part.mode ∷ part.running ∷ part.port ∷ part.counter ∷ part.job ∷ part.reflector ∷ []

-- IDLE at running speed 0 (rule 4.14)
abbrev pub idle_of : State → State
idle_of s = with_drive s Idle 0 Absent

-- as fresh, but for the configuration, the direction of rotation, and what is stored, which becomes the working plan and the working pair of
-- threshold and radius (rule 4.12)
abbrev pub cold_of : State → State
cold_of s = with_settings (with_counter (with_port (with_plans (idle_of s) s.stored s.stored) 0) 0) (restored s.settings)

-- MEASURE becomes ROTATE; nothing is done in other modes (rule 4.13)
abbrev pub stop_measure : State → Mode → State
stop_measure s Idle = s
stop_measure s Rotate = s
stop_measure s Measure = with_drive s Rotate s.running Absent

-- levels 0 and 1, level 2, and the others, which change nothing (rules 4.12 and 4.13)
abbrev pub reset_of : State → ℕ → State
reset_of s level =
    if ltb level 2 then cold_of s else
    if eqb level 2 then stop_measure s s.mode else s

-- level (rules 4.12 and 4.13)
abbrev pub do_reset : State → ℕ → ℕ → Outcome
do_reset s code level = answer (reset_of s level) (code ∷ level ∷ [])

-- SENSTAT (rule 4.14)
abbrev pub trans_idle : State → ℕ → Outcome
trans_idle s code = answer_status code (idle_of s)

-- ROTATE at the configured speed for 0, at a speed in its range for that; else as TRANS_IDLE (rule 4.15)
abbrev pub rotate_of : State → ℕ → State
rotate_of s speed =
    if eqb speed 0 then with_drive s Rotate s.speed Absent else
    if speed_ok speed then with_drive s Rotate speed Absent else idle_of s

-- SENSTAT (rule 4.15)
abbrev pub trans_rotate : State → ℕ → ℕ → Outcome
trans_rotate s code speed = answer_status code (rotate_of s speed)

-- MEASURE at error 0, with a job that runs; else ROTATE (rule 4.16)
abbrev pub measure_of : State → ℕ → State
measure_of s error = if eqb error 0 then with_drive s Measure s.running s.job else with_drive s Rotate s.running Absent

-- SENSTAT, error (rule 4.16)
abbrev pub trans_measure : State → ℕ → Outcome
trans_measure s code =
    let error = measure_error s.working s.step.0 s.running in
    answer (measure_of s error) ((code ∷ senstat (measure_of s error)) ++ (error ∷ []))
