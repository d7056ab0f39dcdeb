-- Rules, section 4: GET_STATUS, GET_SIGNAL, SET_SIGNAL.
use Rattle.std.specs.Prelude.{[], ◌∷◌, ℕ, ◌+◌, ◌*◌, ◌/◌, ◌%◌}
use Rattle.state.specs.declared.State.{State}
use Rattle.state.specs.Fields.{with_port}
use Rattle.state.specs.Replies.{Outcome}
use Rattle.services.specs.Answers.{answer, answer_status}

-- SENSTAT (rule 4.2)
abbrev pub get_status : State → ℕ → Outcome
get_status s code = answer_status code s

-- port (rule 4.3)
abbrev pub get_signal : State → ℕ → Outcome
get_signal s code = answer s (code ∷ s.port ∷ [])

-- of a byte its bits 4 to 7, then bits 2 and 3 of the port, which stay, then bits 0 and 1 of the byte (rule 4.5)
abbrev pub merged_port : ℕ → ℕ → ℕ
merged_port port low = low / 16 * 16 + port / 4 % 4 * 4 + low % 4

-- the new port, from the word's low byte (rule 4.5)
abbrev pub set_signal : State → ℕ → ℕ → Outcome
set_signal s code word =
    let port = merged_port s.port (word % 256) in
    answer (with_port s port) (code ∷ port ∷ [])
