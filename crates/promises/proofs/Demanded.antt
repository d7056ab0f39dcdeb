-- The three demands, each from the crates that show its parts.
use Rattle.normal.proofs.Demand3.{demand3 as normal_plans, answers_valid}
use Rattle.normal.proofs.Numbers as plans
use Rattle.layout.proofs.LayoutLengths.{layout_length}
use Rattle.layout.proofs.MixedLengths.{mixed_layout_length}
use Rattle.sensor.proofs.Demand1 as requests
use Rattle.plan.proofs.Rounds.{revolution}
use Rattle.plan.proofs.Tiling.{tiling, counting}
use Rattle.sensor.proofs.Served.{table_holds, only_these}
use Rattle.sensor.proofs.SettingsKept.{settings_kept}
use Rattle.sensor.proofs.Miscounted.{four_exactly, never_four, wrong_counts_said, wrong_counts_leave, words_unread}
use Rattle.profile.proofs.Revolved as revolutions
use Rattle.profile.proofs.Carried.{points_are_shots, sent_length_lem, never_longer, mixed_points_are_shots, mixed_never_longer}
use Rattle.profile.proofs.AllShots.{all_points, mixed_all_points}
use Rattle.profile.proofs.Timed.{nearest_times}
use Rattle.reader.proofs.RoundTrip.{accepts_exactly, put_together, reads_back, one_reading}
use Rattle.reader.proofs.Numbers as readings
use Rattle.reader.proofs.PartsTile.{parts_tile}
use Rattle.reader.proofs.Parts.{ends_placed}
use Rattle.reader.proofs.PointNumbers.{no_points}
use Rattle.reader.proofs.Standing.{stands_at_place}
use Rattle.reader.proofs.MixedRoundTrip.{mixed_accepts_exactly, mixed_put_together, mixed_reads_back, mixed_one_reading, one_kind}
use Rattle.reader.proofs.MixedNumbers.{mixed_refusals_exactly, mixed_refusals_give_nothing, mixed_stretch_numbers, reflector_numbers}
use Rattle.reader.proofs.MixedPartsTile.{mixed_parts_tile}
use Rattle.reader.proofs.MixedParts.{mixed_ends_placed}
use Rattle.reader.proofs.MixedStanding.{mixed_stands_at_place, mixed_no_points}
use Rattle.reader.proofs.ReflectorsTile.{reflectors_in_turn}
use Rattle.promises.specs.Demands.{Demand1, Demand2, Demand3}
use Rattle.promises.proofs.Determining.{determined}
use Rattle.promises.proofs.Exchanged.{sent_is_read}
use Rattle.promises.proofs.Living.{living}
use Rattle.promises.proofs.Untouched.{settings_unsent}

pub demand1 : Demand1
demand1 =
    record {
      answered = determined;
      request_numbers = requests.refusals_exactly;
      four_exactly = four_exactly;
      never_four = never_four;
      revolution_numbers = revolutions.refusals_exactly;
      plan_numbers = plans.refusals_exactly;
      reader_numbers = readings.refusals_exactly;
      ends_placed = ends_placed;
      parts_tile = parts_tile;
      stretch_numbers = readings.stretch_numbers;
      mixed_reader_numbers = mixed_refusals_exactly;
      mixed_ends_placed = mixed_ends_placed;
      mixed_parts_tile = mixed_parts_tile;
      mixed_stretch_numbers = mixed_stretch_numbers;
      reflector_numbers = reflector_numbers;
      room_for_all = requests.room_for_all;
      request_unchanged = requests.refusals_change_nothing;
      revolution_unchanged = revolutions.refusals_change_nothing;
      plan_of_zeros = plans.refusals_give_zeros;
      reader_gives_nothing = readings.refusals_give_nothing;
      mixed_reader_gives_nothing = mixed_refusals_give_nothing;
      life = living;
    }

pub demand2 : Demand2
demand2 =
    record {
      tabled = table_holds;
      only_these = only_these;
      wrong_counts_said = wrong_counts_said;
      wrong_counts_leave = wrong_counts_leave;
      words_unread = words_unread;
      settings_kept = settings_kept;
      settings_unsent = settings_unsent;
      runs_round = revolution;
      tiling = tiling;
      counting = counting;
      nearest_times = nearest_times;
      points = points_are_shots;
      all_points = all_points;
      sent_length = sent_length_lem;
      never_longer = never_longer;
      mixed_points = mixed_points_are_shots;
      mixed_all_points = mixed_all_points;
      mixed_never_longer = mixed_never_longer;
      accepts_exactly = accepts_exactly;
      put_together = put_together;
      reads_back = reads_back;
      one_reading = one_reading;
      no_points = no_points;
      stands_at_place = stands_at_place;
      laid_length = layout_length;
      mixed_accepts_exactly = mixed_accepts_exactly;
      mixed_put_together = mixed_put_together;
      mixed_reads_back = mixed_reads_back;
      mixed_one_reading = mixed_one_reading;
      one_kind = one_kind;
      mixed_no_points = mixed_no_points;
      mixed_stands_at_place = mixed_stands_at_place;
      reflectors_in_turn = reflectors_in_turn;
      mixed_laid_length = mixed_layout_length;
      sent_is_read = sent_is_read;
    }

pub demand3 : Demand3
demand3 = record { normal_plans = normal_plans; answers_valid = answers_valid }
