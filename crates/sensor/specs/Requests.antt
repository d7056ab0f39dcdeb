-- Rules, section 6: a request, its refusals 1 to 6 in order, and what it hands back.
use Rattle.std.specs.Prelude.{not, List, ℕ, eqb, length, get_or, if◌then◌else◌, Result}
use Rattle.state.specs.declared.State.{State}
use Rattle.state.specs.declared.Mode.{Mode}
use Rattle.state.specs.Ranges.{in_range}
use Rattle.state.specs.declared.Reply.{Reply}
use Rattle.state.specs.declared.Refusal.{Refusal}
use Rattle.state.specs.Replies.{Outcome, Effect, refused, delivered, Answered}
use Rattle.services.specs.Answers.{answer}
use Rattle.sensor.specs.declared.Service.{Service}
use Rattle.sensor.specs.Table.{row_of, response, service_of, allowed, outcome_of, is_listed, miscounted, count_refused, said_of}

-- 3 where no row has the code, 4 where it asks for more or fewer words and refuses these, 5 where it does not name the mode (rule 6.1)
unfoldable pub service_refusal : Service → ℕ → Mode → ℕ
service_refusal v count mode =
    if not (is_listed v) then 3 else
    if count_refused v count then 4 else
    if not (allowed v mode) then 5 else 0

-- 1 where a field of the state is out of its range, 2 where nothing is asked, then 3 to 5; 0 for none (rule 6.1)
unfoldable pub request_refusal : State → List ℕ → ℕ
request_refusal s ws =
    if not (in_range s) then 1 else
    if eqb (length ws) 0 then 2 else
    service_refusal (service_of (get_or ws 0 0)) (length ws) s.mode

-- what the service of the first word does with the others; where their number is wrong they are not looked at, the row's answer to that is
-- given, and the state stays (rules 4.3 and 4.25)
unfoldable pub outcome : State → List ℕ → Outcome
outcome s ws =
    let v = service_of (get_or ws 0 0) in
    if miscounted v (length ws)
    then answer s (said_of (row_of v).miscount (response (row_of v).code))
    else outcome_of v s (get_or ws 1 0) (get_or ws 2 0) (get_or ws 3 0) (get_or ws 4 0)

-- a request into a buffer of so many words: one of refusals 1 to 5, or 6, or the outcome (rule 4.17)
unfoldable pub request_of : State → List ℕ → ℕ → Effect
request_of s ws room =
    if eqb (request_refusal s ws) 0 then delivered s (outcome s ws) room else refused s (request_refusal s ws)

-- the contract of `request`: the answer, and the buffer from its contents before to those after (rule 4.17)
abbrev pub RequestSays : State → List ℕ → List ℕ → List ℕ → Result Reply Refusal → Type 0
RequestSays s ws before after r = Answered s r before after (request_of s ws (length before))
