-- Rules, section 4: GET_PROFILE, CANCEL_PROFILE.
use Rattle.std.specs.Prelude.{Bool, not, [], ◌∷◌, ℕ, eqb, if◌then◌else◌}
use Rattle.layout.specs.declared.Kind.{Kind}
use Rattle.layout.specs.declared.Mask.{Mask}
use Rattle.layout.specs.Masks.{cleared}
use Rattle.state.specs.declared.State.{State}
use Rattle.state.specs.declared.Job.{Job}
use Rattle.state.specs.declared.Job.TheVariants.{Absent, Counted, Endless}
use Rattle.state.specs.Jobs.{has_kind}
use Rattle.state.specs.Fields.{with_drive}
use Rattle.state.specs.Replies.{Outcome}
use Rattle.services.specs.Answers.{answer, answer_status}

-- a new job, none sent yet; of 0 profiles it is endless (rules 4.10 and 4.23)
abbrev pub new_job : ℕ → Mask → Job
new_job number mask = if eqb number 0 then Endless mask 0 else Counted number mask 0

-- the mask starts a job: a bit is left when the reserved ones are cleared (rule 4.10)
abbrev pub starts_job : ℕ → Bool
starts_job mask = not (eqb (cleared mask) 0)

-- a new job in the place of the old one, and no word; where the mask starts none, the job stays and the code alone is answered (rule 4.10)
abbrev pub get_profile : State → ℕ → ℕ → ℕ → Outcome
get_profile s code number mask =
    if starts_job mask
    then answer (with_drive s s.mode s.running (new_job number (Mask.Plain (cleared mask)))) []
    else answer s (code ∷ [])

-- the state without a job of the kind; another one stays (rules 4.11 and 4.24)
abbrev pub cancelled : Kind → State → State
cancelled kind s = if has_kind kind s.job then with_drive s s.mode s.running Absent else s

-- ends a job with a plain mask; SENSTAT (rule 4.11)
abbrev pub cancel_profile : State → ℕ → Outcome
cancel_profile s code = answer_status code (cancelled Kind.Plain s)
