-- A state in its ranges, taken apart and put together again: one fact for each sentence of 'State and ranges'.
use mathlib.Core.Bool.{Bool}
use Prim.Native.Nat.{ℕ}
use lib.Dec.{T}
use Rattle.plan.specs.declared.Plan.{Plan}
use Rattle.plan.specs.Sectors.{plan_in_range}
use Rattle.words.proofs.Tests.{and_l, and_r, and_both}
use Rattle.state.specs.declared.State.{State}
use Rattle.state.specs.declared.Mode.{Mode}
use Rattle.state.specs.declared.Job.{Job}
use Rattle.state.specs.declared.Settings.{Settings}
use Rattle.state.specs.Fields.{with_config, with_plans, with_drive, with_port, with_counter, with_settings}
use Rattle.state.specs.Ranges.{config_ok, running_ok, checks_ok, job_ok, alone_ok, in_range}
use Rattle.state.proofs.SettingsParts.{InRanges, settings_parts, settings_whole}

pub record Hold (c w r k j a : Bool) : Type 0 where
  pub config : T c
  pub working : T w
  pub running : T r
  pub checks : T k
  pub job : T j
  pub alone : T a

abbrev pub Parts : State → Type 0
Parts s =
    Hold (config_ok s.id s.speed s.step.0) (plan_in_range s.working) (running_ok s.mode s.running)
    (checks_ok s.mode s.working s.step.0 s.running) (job_ok s.mode s.job) (alone_ok s)

pub parts : (s : State) → T (in_range s) → Parts s
unfolding in_range
parts s h =
    record {
      config = search (and_l, and_r) depth 12;
      working = search (and_l, and_r) depth 12;
      running = search (and_l, and_r) depth 12;
      checks = search (and_l, and_r) depth 12;
      job = search (and_l, and_r) depth 12;
      alone = search (and_l, and_r) depth 12;
    }

pub whole : (s : State) → Parts s → T (in_range s)
unfolding in_range
whole s p = search (and_both, p.config, p.working, p.running, p.checks, p.job, p.alone) depth 12

-- the same, with fields that stand alone set
with_alone : {c w r k j a b : Bool} → Hold c w r k j a → T b → Hold c w r k j b
with_alone p h =
    record { config = p.config; working = p.working; running = p.running; checks = p.checks; job = p.job; alone = h }

-- The stored plan and the settings, and the fields that stand alone where the plan is another.
pub stored_of : (s : State) → Parts s → T (plan_in_range s.stored)
stored_of s p = let h = p.alone in search and_l

pub settings_of_lem : (s : State) → Parts s → InRanges s.settings
settings_of_lem s p = let h = p.alone in settings_parts s.settings (search (and_l, and_r))

stored_set : (s : State) → Parts s → (w t : Plan) → T (plan_in_range t) → T (alone_ok (with_plans s w t))
stored_set s p w t b = let h = p.alone in search (and_both, and_l, and_r, b)

-- What is asked where some fields are set: the others are in their ranges as before. The tests of fields that stand alone are found among
-- those of before, so a new one changes no law here.
module _ (s : State) (p : Parts s) where
  pub config_set : (id speed step : ℕ) → T (config_ok id speed step) → T (checks_ok s.mode s.working step s.running)
      → Parts (with_config s id speed step)
  config_set id speed step a b =
      record { config = a; working = p.working; running = p.running; checks = b; job = p.job; alone = p.alone }

  pub plans_set : (w t : Plan) → T (plan_in_range w) → T (plan_in_range t) → T (checks_ok s.mode w s.step.0 s.running)
      → Parts (with_plans s w t)
  plans_set w t a b c =
      record { config = p.config; working = a; running = p.running; checks = c; job = p.job; alone = stored_set s p w t b }

  pub drive_set : (m : Mode) (r : ℕ) (j : Job) → T (running_ok m r) → T (checks_ok m s.working s.step.0 r) → T (job_ok m j)
      → Parts (with_drive s m r j)
  drive_set m r j a b c = record { config = p.config; working = p.working; running = a; checks = b; job = c; alone = p.alone }

  pub port_set : (port : ℕ) → Parts (with_port s port)
  port_set port = with_alone p p.alone

  pub counter_set : (counter : ℕ) → Parts (with_counter s counter)
  counter_set counter = with_alone p p.alone

  pub settings_set : (n : Settings) → InRanges n → Parts (with_settings s n)
  settings_set n h = let a = p.alone in with_alone p (search (and_both, and_l, and_r, settings_whole n h))
