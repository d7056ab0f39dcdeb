-- The state with some of its fields set; the others stay. A new field of the state is added here, to `fresh_state`, to `only_in` and to
-- the ranges, and nowhere else in any specs/.
use Rattle.std.specs.Prelude.{ℕ}
use Rattle.units.specs.declared.Angle.{Angle}
use Rattle.units.specs.Units.{angle}
use Rattle.plan.specs.declared.Plan.{Plan}
use Rattle.state.specs.declared.State.{State}
use Rattle.state.specs.declared.Mode.{Mode}
use Rattle.state.specs.declared.Job.{Job}
use Rattle.state.specs.declared.Settings.{Settings}

-- the state of these fields: id, speed, step, working and stored plan, mode, running speed, port, counter, job, settings (rules 2.1 to 2.7 and
-- 2.10)
abbrev pub state_of : ℕ → ℕ → Angle → Plan → Plan → Mode → ℕ → ℕ → ℕ → Job → Settings → State
state_of i v a w k m r p n j t =
    record { id = i; speed = v; step = a; working = w; stored = k; mode = m; running = r; port = p; counter = n; job = j; settings = t }

-- id, configured speed and step (rule 2.1)
abbrev pub with_config : State → ℕ → ℕ → ℕ → State
with_config s i v a = state_of i v (angle a) s.working s.stored s.mode s.running s.port s.counter s.job s.settings

-- the working plan and the stored one (rule 2.2)
abbrev pub with_plans : State → Plan → Plan → State
with_plans s w k = state_of s.id s.speed s.step w k s.mode s.running s.port s.counter s.job s.settings

-- mode, running speed and job (rules 2.3, 2.4 and 2.7)
abbrev pub with_drive : State → Mode → ℕ → Job → State
with_drive s m r j = state_of s.id s.speed s.step s.working s.stored m r s.port s.counter j s.settings

-- the port (rule 2.6)
abbrev pub with_port : State → ℕ → State
with_port s p = state_of s.id s.speed s.step s.working s.stored s.mode s.running p s.counter s.job s.settings

-- the profile counter (rule 2.6)
abbrev pub with_counter : State → ℕ → State
with_counter s n = state_of s.id s.speed s.step s.working s.stored s.mode s.running s.port n s.job s.settings

-- the settings of the NAV300 (rule 2.10)
abbrev pub with_settings : State → Settings → State
with_settings s t = state_of s.id s.speed s.step s.working s.stored s.mode s.running s.port s.counter s.job t
