-- Rules, section 2: the state of a sensor that was just switched on, and of one that measures.
use Rattle.std.specs.Prelude.{◌≡◌, [], ◌∷◌, ℕ}
use Rattle.units.specs.Units.{angle}
use Rattle.layout.specs.declared.Mask.{Mask}
use Rattle.plan.specs.declared.Plan.{Plan}
use Rattle.plan.specs.Sectors.{sector, filled}
use Rattle.state.specs.declared.State.{State}
use Rattle.state.specs.declared.Settings.{Settings}
use Rattle.state.specs.declared.Mode.TheVariants.{Idle, Measure}
use Rattle.state.specs.declared.Job.TheVariants.{Absent, Counted}
use Rattle.state.specs.Nav300.{reflector, settings_of}
use Rattle.state.specs.Fields.{with_config, with_plans, with_drive}

-- one sector of function 3 that begins at 0 (rule 2.9)
abbrev pub fresh_plan : Plan
fresh_plan = filled (sector 3 5752 ∷ [])

-- clockwise; 50 % and flat, as working and as stored pair (rule 2.9)
abbrev pub fresh_settings : Settings
fresh_settings = settings_of 1 (reflector 50 0) (reflector 50 0)

abbrev pub fresh_state : State
fresh_state =
    record {
      id = 1;
      speed = 10;
      step = angle 8;
      working = fresh_plan;
      stored = fresh_plan;
      mode = Idle;
      running = 0;
      port = 0;
      counter = 0;
      job = Absent;
      settings = fresh_settings;
    }

-- the contract of `fresh` (rule 2.9)
abbrev pub FreshSays : State → Type 0
FreshSays r = r ≡ fresh_state

-- a fresh sensor, but that it measures with a plan at a step and a running speed, with a job of one profile (rule 5.9)
abbrev pub measuring : Plan → ℕ → ℕ → Mask → State
measuring p step running mask =
    with_drive (with_plans (with_config fresh_state fresh_state.id fresh_state.speed step) p p) Measure running (Counted 1 mask 0)
