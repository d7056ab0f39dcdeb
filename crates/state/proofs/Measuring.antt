-- A state in its ranges that measures: its working plan is valid for its step and passes the checks, and it turns.
use mathlib.Core.Path.{◌≡◌, refl}
use Prim.Native.Nat.{ℕ, ◌≤◌}
use lib.Dec.{T, leb, leb→le, eqb→eq}
use lib.ListN.{length}
use Rattle.words.proofs.Tests.{and_l, and_r}
use Rattle.plan.specs.Sectors.{is_step}
use Rattle.plan.specs.Validity.{ValidPlan}
use Rattle.plan.specs.Checks.{measure_error}
use Rattle.plan.proofs.RangeValid.{Passes, passes, valid_of}
use Rattle.state.specs.declared.State.{State}
use Rattle.state.specs.declared.Mode.{Mode}
use Rattle.state.specs.declared.Mode.TheVariants.{Idle, Rotate, Measure}
use Rattle.state.specs.Ranges.{speed_ok, config_ok, checks_ok, is_measure, in_range}
use Rattle.state.proofs.Parts.{parts}

pub record Measures (s : State) : Type 0 where
  pub mode : s.mode ≡ Measure
  pub step : T (is_step s.step.0)
  pub error : measure_error s.working s.step.0 s.running ≡ 0
  pub plan : ValidPlan s.step.0 s.working
  pub checks : Passes s.working s.step.0 s.running
  pub turning : 5 ≤ s.running

only_measure : (m : Mode) → T (is_measure m) → m ≡ Measure
only_measure Idle h = absurd h
only_measure Rotate h = absurd h
only_measure Measure h = refl

step_of : (id speed step : ℕ) → T (config_ok id speed step) → T (is_step step)
unfolding config_ok
step_of id speed step h = search (and_l, and_r)

pub measures : (s : State) → T (in_range s) → T (is_measure s.mode) → length s.working.sectors ≡ 8 → Measures s
measures s h m eight =
    let p = parts s h in
    let q = only_measure s.mode m in
    let c : T (checks_ok Measure s.working s.step.0 s.running) = rw q at p.checks in
    let r : T (speed_ok s.running) = rw q at p.running in
    let e : measure_error s.working s.step.0 s.running ≡ 0 = eqb→eq (measure_error s.working s.step.0 s.running) 0 c in
    record {
      mode = q;
      step = step_of s.id s.speed s.step.0 p.config;
      error = e;
      plan = valid_of s.working s.step.0 s.running eight p.working e;
      checks = passes s.working s.step.0 s.running e;
      turning = leb→le 5 s.running (and_l (leb 5 s.running) (leb s.running 20) r);
    }
