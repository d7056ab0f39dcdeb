-- Rules 4.23 and 4.24: GET_MIXED_PROFILE, CANCEL_MIXED_PROFILE.
use Rattle.std.specs.Prelude.{Bool, [], ◌∷◌, ℕ, if◌then◌else◌}
use Rattle.layout.specs.declared.Kind.{Kind}
use Rattle.layout.specs.declared.Mask.{Mask}
use Rattle.layout.specs.MixedMasks.{admitted}
use Rattle.state.specs.declared.State.{State}
use Rattle.state.specs.Fields.{with_drive}
use Rattle.state.specs.Replies.{Outcome}
use Rattle.services.specs.Answers.{answer}
use Rattle.services.specs.Measurement.{new_job, cancelled}
use Rattle.services.specs.Nav300.{bad_value}

-- the two words start a job: they are a mixed mask, as they came (rule 4.23)
abbrev pub starts_mixed : ℕ → ℕ → Bool
starts_mixed high low = admitted (Mask.Mixed high low)

-- a new job in the place of the old one, and no word; where the words are no mask, the job stays, and they are answered with FF01h (rule 4.23)
abbrev pub get_mixed_profile : State → ℕ → ℕ → ℕ → ℕ → Outcome
get_mixed_profile s code number high low =
    if starts_mixed high low
    then answer (with_drive s s.mode s.running (new_job number (Mask.Mixed high low))) []
    else answer s (code ∷ high ∷ low ∷ bad_value ∷ [])

-- ends a job with a mixed mask; 0 (rule 4.24)
abbrev pub cancel_mixed_profile : State → ℕ → Outcome
cancel_mixed_profile s code = answer (cancelled Kind.Mixed s) (code ∷ 0 ∷ [])
