-- What DO_RESET's cold start sets, one setter after another.
use mathlib.Core.Path.{◌≡◌}
use Rattle.state.specs.declared.State.{State}
use Rattle.state.specs.declared.Settings.{Settings}
use Rattle.state.specs.Nav300.{restored}
use Rattle.state.specs.Fields.{with_plans, with_port, with_counter, with_settings}
use Rattle.services.specs.Working.{idle_of, cold_of}

pub is_cold : (s a b c d t : State) (n : Settings)
    → a ≡ idle_of s → b ≡ with_plans a s.stored s.stored → c ≡ with_port b 0 → d ≡ with_counter c 0
    → n ≡ restored s.settings → t ≡ with_settings d n → t ≡ cold_of s
is_cold s a b c d t n ea eb ec ed en et = rw (et, en, ed, ec, eb, ea)
