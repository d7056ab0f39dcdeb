-- Wrong answers, each refused by one computed word or number.
use mathlib.Core.Path.{ap}
use mathlib.Core.Bool.{Bool}
use mathlib.Core.List.{List}
use Prim.Native.Nat.{ℕ}
use native.Mathlib.Omega.{arith}
use lib.ListN.{get_or}
use Rattle.std.specs.Prelude.{if◌then◌else◌, Option, is_some}
use Rattle.words.specs.Buffers.{over, in_turn}
use Rattle.plan.specs.declared.Plan.{Plan}
use Rattle.plan.specs.Sectors.{is_step, entry_in_range, plan_in_range, entry_at, stop_of}
use Rattle.normal.specs.NormalForm.{Normalised, plan_refusal, normalised_of}
use Rattle.services.specs.declared.Served.{Served}
use Rattle.services.specs.Answers.{unpacked}
use Rattle.plan.specs.Checks.{lit_shots, measure_error}
use Rattle.layout.specs.Masks.{mask_ok}
use Rattle.state.specs.declared.State.{State}
use Rattle.state.specs.Ranges.{config_ok, in_range}
use Rattle.state.specs.Replies.{delivered}
use Rattle.profile.specs.Points.{point_words}
use Rattle.profile.specs.Profiles.{points_of}
use Rattle.profile.specs.Revolutions.{revolved, revolution_refusal, revolution_of}
use Rattle.reader.specs.Readings.{head_refusal, body_of, read_of}
use Rattle.reader.specs.Stretches.{stretch_refusal_of, stretch_start}
use Rattle.sensor.specs.Requests.{request_refusal, request_of}
use Rattle.dialogue.specs.declared.Said.{Said}
use Rattle.dialogue.specs.Records.{record_of, record_words}
use Rattle.dialogue.specs.Lines.{digits, stripped, decimal, spaced_hex, line_of, fitting}
use Rattle.dialogue.specs.Talks.{size_of, line_for, line_at}
use Rattle.promises.specs.WrongAnswers.{WrongAnswers}

abbrev first_stop : Plan → ℕ
first_stop p = stop_of (entry_at p 0)

abbrev is_taken : Bool → ℕ
is_taken b = if b then 1 else 0

pub wrong_answers : WrongAnswers
unfolding over in_turn is_step entry_in_range plan_in_range lit_shots measure_error mask_ok config_ok in_range delivered revolved
    revolution_refusal revolution_of head_refusal body_of read_of stretch_refusal_of record_of record_words digits stripped decimal
    spaced_hex line_of fitting line_for line_at request_refusal request_of plan_refusal normalised_of points_of point_words stretch_start
wrong_answers =
    record {
      product_cut = λ e. omega (arith, e);
      first_word = λ e. omega (arith, e);
      word_past_the_end = λ e. omega (arith, e);
      first_entry = λ e. omega (arith, ap stop_of e);
      entry_past_the_last = λ e. omega (arith, ap stop_of e);
      first_entry_set = λ e. omega (arith, ap first_stop e);
      every_stop = λ e. omega (arith, ap is_taken e);
      last_joined = λ r h e. omega (arith, ap first_stop e, ap (λ (n : Normalised). first_stop n.plan) h);
      earlier_stop = λ r h e. omega (arith, ap first_stop e, ap (λ (n : Normalised). first_stop n.plan) h);
      multiples_tested = λ r h e. omega (arith, e, ap (λ (s : Served). get_or (unpacked s).words 3 0) h.same);
      sector_out_of_use = λ r h e. omega (arith, e, ap (λ (s : Served). (entry_at s.state.working 0).function) h.same);
      three_words = λ e. omega (arith, e);
      idle_number = λ e. omega (arith, e);
      fresh_turning = λ e. omega (arith, ap (λ (s : State). s.running) e);
      fresh_stop = λ e. omega (arith, ap (λ (s : State). first_stop s.working) e);
      step_from_elsewhere = λ r after h e. omega (arith, e, ap (λ (l : List ℕ). get_or l 3 0) h.buffer);
      stretch_at_front = λ words part e h. omega (arith, ap (λ (p : ℕ × ℕ). p.1) (rw e at h.stands));
      place_first = λ h. omega (arith, h.number_is);
      place_s = λ h. omega (arith, h.number_is);
      number_for_count = λ after h. omega (arith, h.counted);
      low_byte_first = λ h. omega (arith, ap (λ (l : List ℕ). get_or l 0 0) h.words);
      cut_for_whole = λ after h. omega (arith, ap size_of h.is);
      small_digits = λ before eleven h. omega (arith, ap (λ (l : List ℕ). get_or l 6 0) (rw eleven at h.text));
      line_cut = λ h. omega (arith, ap (λ (o : Option ℕ). is_taken (is_some o)) h.said);
      cut_record_taken = λ s text h. omega (arith, ap (λ (o : Option Said). is_taken (is_some o)) h.said);
      byte_without_room = λ h. omega (arith, ap (λ (o : Option Said). is_taken (is_some o)) h.said);
    }
