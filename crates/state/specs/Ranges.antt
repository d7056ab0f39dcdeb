-- Rules, section 2, one by one: the ranges of a state.
use Rattle.std.specs.Prelude.{Bool, true, false, ◌&&◌, ℕ, ◌+◌, leb, eqb}
use Rattle.layout.specs.MixedMasks.{admitted}
use Rattle.plan.specs.declared.Plan.{Plan}
use Rattle.plan.specs.Sectors.{is_step, plan_in_range}
use Rattle.plan.specs.Checks.{measure_error}
use Rattle.state.specs.declared.State.{State}
use Rattle.state.specs.declared.Mode.{Mode}
use Rattle.state.specs.declared.Mode.TheVariants.{Idle, Rotate, Measure}
use Rattle.state.specs.declared.Job.{Job}
use Rattle.state.specs.declared.Job.TheVariants.{Absent, Counted, Endless}
use Rattle.state.specs.Nav300.{settings_ok}

-- a speed, in Hz (rule 2.1)
abbrev pub speed_ok : ℕ → Bool
speed_ok speed = leb 5 speed && leb speed 20

-- id, configured speed and step (rule 2.1)
unfoldable pub config_ok : ℕ → ℕ → ℕ → Bool
config_ok id speed step = leb 1 id && leb id 254 && speed_ok speed && is_step step

-- the running speed goes with the mode (rule 2.4)
abbrev pub running_ok : Mode → ℕ → Bool
running_ok Idle running = eqb running 0
running_ok Rotate running = speed_ok running
running_ok Measure running = speed_ok running

-- in MEASURE the working plan passes the checks of TRANS_MEASURE (rule 2.5)
abbrev pub checks_ok : Mode → Plan → ℕ → ℕ → Bool
checks_ok Idle working step running = true
checks_ok Rotate working step running = true
checks_ok Measure working step running = eqb (measure_error working step running) 0

-- the two together (rules 2.4 and 2.5)
abbrev pub drive_ok : Mode → ℕ → Plan → ℕ → Bool
drive_ok mode running working step = running_ok mode running && checks_ok mode working step running

-- a job exists only in MEASURE, with a mask that a profile of its kind may have; a counted one has some left, and its numbers never wrap. Of
-- no job nothing is asked (rules 2.7 and 2.11)
abbrev pub is_measure : Mode → Bool
is_measure Idle = false
is_measure Rotate = false
is_measure Measure = true

abbrev pub job_ok : Mode → Job → Bool
job_ok mode Absent = true
job_ok mode (Counted left mask sent) = is_measure mode && admitted mask && leb 1 left && leb (left + sent) 65535
job_ok mode (Endless mask sent) = is_measure mode && admitted mask

-- the fields that no other field goes with: the stored plan, and the settings. A new one of this sort is tested here (rules 2.2 and 2.10)
abbrev pub alone_ok : State → Bool
alone_ok s = plan_in_range s.stored && settings_ok s.settings

-- every field is in its range; the port, one byte, and the counter, 16 bits, are so by their types (rule 2.8)
unfoldable pub in_range : State → Bool
in_range s =
    config_ok s.id s.speed s.step.0
    && plan_in_range s.working
    && drive_ok s.mode s.running s.working s.step.0
    && job_ok s.mode s.job
    && alone_ok s
