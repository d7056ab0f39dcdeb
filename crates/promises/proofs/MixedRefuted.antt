-- Slips of a mixed profile, each refused by one computed word or number.
use mathlib.Core.Path.{ap}
use mathlib.Core.List.{List}
use Prim.Native.Nat.{ℕ}
use native.Mathlib.Omega.{arith}
use lib.ListN.{get_or, drop}
use Rattle.words.specs.Buffers.{over, in_turn}
use Rattle.plan.specs.Sectors.{is_step, entry_in_range, plan_in_range}
use Rattle.plan.specs.Checks.{lit_shots, measure_error}
use Rattle.layout.specs.Masks.{mask_ok}
use Rattle.layout.specs.MixedMasks.{mixed_ok}
use Rattle.state.specs.Ranges.{config_ok, in_range}
use Rattle.state.specs.Replies.{Handed, delivered}
use Rattle.state.proofs.HandedLaws.{said_is}
use Rattle.profile.specs.Points.{point_words}
use Rattle.profile.specs.Profiles.{points_of}
use Rattle.profile.specs.Mixed.{reflectors_of}
use Rattle.profile.specs.Revolutions.{revolved, revolution_refusal, revolution_of}
use Rattle.promises.specs.MixedSlips.{with_plain, with_none, MixedSlips}

-- one word of a list, and one behind the first four
abbrev word_at : ℕ → List ℕ → ℕ
word_at k l = get_or l k 0

abbrev behind_head : ℕ → List ℕ → ℕ
behind_head k l = word_at k (drop 4 l)

pub mixed_slips : MixedSlips
unfolding over in_turn is_step entry_in_range plan_in_range lit_shots measure_error mask_ok mixed_ok config_ok in_range delivered revolved
    revolution_refusal revolution_of points_of point_words reflectors_of
mixed_slips =
    record {
      count_behind = λ r after h e. omega (arith, ap (behind_head 0) h.buffer, ap (word_at 0) e);
      senstat_behind = λ r after h e. omega (arith, ap (behind_head 0) h.buffer, ap (word_at 0) e);
      field_by_field = λ r after h e. omega (arith, ap (behind_head 2) h.buffer, ap (word_at 2) e);
      ten_words_apart = λ r after h e. omega (arith, ap (behind_head 2) h.buffer, ap (word_at 2) e);
      untested_with_plain = λ r after h e. omega (arith, e, said_is with_plain r, ap (λ (x : Handed). x.refusal) h.reply);
      untested_without = λ r after h e. omega (arith, e, said_is with_none r, ap (λ (x : Handed). x.refusal) h.reply);
    }
