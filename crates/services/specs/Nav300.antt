-- Rules, section 4: SET_ROTATE_DIRECTION, GET_ROTATE_DIRECTION, SET_REFLECTOR_CONFIG, GET_REFLECTOR_CONFIG, SAVE_PERMANENT.
use Rattle.std.specs.Prelude.{Bool, ◌&&◌, [], ◌∷◌, ℕ, if◌then◌else◌}
use Rattle.state.specs.declared.State.{State}
use Rattle.state.specs.Nav300.{reflector, with_rotation, with_reflector, saved, rotation_ok, threshold_ok, radius_ok}
use Rattle.state.specs.Fields.{with_settings}
use Rattle.state.specs.Replies.{Outcome}
use Rattle.services.specs.Answers.{answer}

-- what is answered in the place of a value that is out of its range; `BAD_VALUE` in the code (rules 4.19, 4.20 and 4.23)
abbrev pub bad_value : ℕ
bad_value = 0xFF01

-- the direction of rotation is set and answered; a word that is none is answered as bad, and nothing is set (rule 4.19)
abbrev pub set_rotate_direction : State → ℕ → ℕ → Outcome
set_rotate_direction s code rotation =
    if rotation_ok rotation
    then answer (with_settings s (with_rotation s.settings rotation)) (code ∷ rotation ∷ [])
    else answer s (code ∷ bad_value ∷ [])

-- direction of rotation (rule 4.19)
abbrev pub get_rotate_direction : State → ℕ → Outcome
get_rotate_direction s code = answer s (code ∷ s.settings.rotation ∷ [])

-- what the answer has in a value's own place (rule 4.20)
abbrev pub value_said : Bool → ℕ → ℕ
value_said good value = if good then value else bad_value

-- threshold and radius become the working pair where both are good; each is answered in its own place (rule 4.20)
abbrev pub set_reflector_config : State → ℕ → ℕ → ℕ → Outcome
set_reflector_config s code threshold radius =
    answer
    (if threshold_ok threshold && radius_ok radius then with_settings s (with_reflector s.settings (reflector threshold radius)) else s)
    (code ∷ value_said (threshold_ok threshold) threshold ∷ value_said (radius_ok radius) radius ∷ [])

-- threshold and radius, the working ones (rule 4.21)
abbrev pub get_reflector_config : State → ℕ → Outcome
get_reflector_config s code = answer s (code ∷ s.settings.working.threshold.0 ∷ s.settings.working.radius.0 ∷ [])

-- the working pair becomes the stored one too; 0 (rule 4.22)
abbrev pub save_permanent : State → ℕ → Outcome
save_permanent s code = answer (with_settings s (saved s.settings)) (code ∷ 0 ∷ [])
