-- Settings in their ranges, taken apart and put together again.
use lib.Dec.{T}
use Rattle.words.proofs.Tests.{and_l, and_r, and_both}
use Rattle.state.specs.declared.Settings.{Settings}
use Rattle.state.specs.Nav300.{rotation_ok, reflector_ok, settings_ok}

pub record InRanges (n : Settings) : Type 0 where
  pub rotation : T (rotation_ok n.rotation)
  pub working : T (reflector_ok n.working)
  pub stored : T (reflector_ok n.stored)

pub settings_parts : (n : Settings) → T (settings_ok n) → InRanges n
settings_parts n h =
    record { rotation = search (and_l, and_r) depth 12; working = search (and_l, and_r) depth 12; stored = search (and_l, and_r) depth 12 }

pub settings_whole : (n : Settings) → InRanges n → T (settings_ok n)
settings_whole n h = search (and_both, h.rotation, h.working, h.stored) depth 12
