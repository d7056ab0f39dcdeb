-- Rules, section 5, and the numbers 1, 7, 8, 27 and 6: what a revolution does.
use Rattle.std.specs.Prelude.{Bool, not, ◌&&◌, List, [], ℕ, ◌+◌, ◌-◌, ◌%◌, leb, eqb, length, if◌then◌else◌, Result}
use Rattle.units.specs.Directions.{revolution_shots}
use Rattle.layout.specs.declared.Mask.{Mask}
use Rattle.layout.specs.MixedMasks.{reflector_length, most_reflectors}
use Rattle.layout.specs.Layout.{layout}
use Rattle.layout.specs.Mixed.{layout_mixed}
use Rattle.state.specs.declared.State.{State}
use Rattle.state.specs.declared.Job.{Job}
use Rattle.state.specs.declared.Job.TheVariants.{Absent, Counted, Endless}
use Rattle.state.specs.declared.Reply.{Reply}
use Rattle.state.specs.declared.Refusal.{Refusal}
use Rattle.state.specs.Jobs.{mask_of, is_job}
use Rattle.state.specs.Fields.{with_drive, with_counter}
use Rattle.state.specs.Ranges.{is_measure, in_range}
use Rattle.state.specs.Replies.{Outcome, Effect, refused, delivered, Answered}
use Rattle.profile.specs.Profiles.{Scan, fields_of}
use Rattle.profile.specs.Mixed.{reflectors_given, mixed_of}

-- one more, of 16 bits (rule 5.2)
abbrev pub risen : ℕ → ℕ
risen n = (n + 1) % 65536

-- the number sent with this revolution's profile counted; none is sent without a job (rule 5.3)
abbrev pub sent_after : Job → ℕ
sent_after Absent = 0
sent_after (Counted left mask sent) = sent + 1
sent_after (Endless mask sent) = risen sent

-- a counted job has one less left, and ends at none (rule 5.3)
abbrev pub job_after : Job → Job
job_after Absent = Absent
job_after (Counted left mask sent) = if eqb left 1 then Absent else Counted (left - 1) mask (sent + 1)
job_after (Endless mask sent) = Endless mask (risen sent)

-- the profile that a mask asks for, of its kind (rules 5.3 and 5.19)
abbrev pub profile_by : State → Scan → Mask → ℕ → ℕ → List ℕ
profile_by s g (Mask.Plain word) sent counter = layout (fields_of s g word sent counter)
profile_by s g (Mask.Mixed high low) sent counter = layout_mixed (mixed_of s g high low sent counter)

-- the profile of a job, with number sent and counter after their rise (rule 5.3)
abbrev pub profile_of : State → Scan → Job → List ℕ
profile_of s g job = if is_job job then profile_by s g (mask_of job) (sent_after job) (risen s.counter) else []

-- the state after a revolution (rules 5.2 and 5.3)
abbrev pub turned : State → State
turned s = with_counter (with_drive s s.mode s.running (job_after s.job)) (risen s.counter)

unfoldable pub revolved : State → Scan → Outcome
revolved s g = record { after = turned s; words = profile_of s g s.job }

-- both lists have a word for each shot of the revolution (rule 5.1)
abbrev pub lists_fit : State → Scan → Bool
lists_fit s g = eqb (length g.distances) (revolution_shots s.step.0) && eqb (length g.echoes) (revolution_shots s.step.0)

-- there are at most 64 reflectors, of eleven words each (rule 5.1)
abbrev pub reflectors_fit : Scan → Bool
reflectors_fit g = eqb (length g.reflectors % reflector_length) 0 && leb (reflectors_given g.reflectors) most_reflectors

-- 1 for a state outside its ranges, 7 for a mode other than MEASURE, 8 for a list that does not fit, 27 for reflectors that do not; 0 for none
-- (rule 6.1)
unfoldable pub revolution_refusal : State → Scan → ℕ
revolution_refusal s g =
    if not (in_range s) then 1 else
    if not (is_measure s.mode) then 7 else
    if not (lists_fit s g) then 8 else
    if not (reflectors_fit g) then 27 else 0

-- a revolution into a buffer of so many words: one of these, or 6, or the outcome (rule 5.3)
unfoldable pub revolution_of : State → Scan → ℕ → Effect
revolution_of s g room =
    if eqb (revolution_refusal s g) 0 then delivered s (revolved s g) room else refused s (revolution_refusal s g)

-- the contract of `revolution`: its answer, and the buffer from its contents before to those after (rule 5.3)
abbrev pub RevolutionSays : State → Scan → List ℕ → List ℕ → Result Reply Refusal → Type 0
RevolutionSays s g before after r = Answered s r before after (revolution_of s g (length before))
