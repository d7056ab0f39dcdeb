-- What a service gives: the next state and a short answer.
use Rattle.std.specs.Prelude.{◌≡◌, List, [], ◌∷◌, ◌++◌, ℕ, ◌≤◌, length, take, replicate}
use Rattle.state.specs.declared.State.{State}
use Rattle.state.specs.Modes.{mode_number}
use Rattle.state.specs.Replies.{Outcome}
use Rattle.services.specs.declared.Served.{Served}

-- Each service is told its response code, which comes from the table (rule 4.1)
abbrev pub answer : State → List ℕ → Outcome
answer s ws = record { after = s; words = ws }

-- SENSTAT: two words, the high one 0 and the low one the number of the mode, after the request (rule 4.2)
abbrev pub senstat : State → List ℕ
senstat s = 0 ∷ mode_number s.mode ∷ []

-- a response code, then SENSTAT (rule 4.2)
abbrev pub answer_status : ℕ → State → Outcome
answer_status code s = answer s (code ∷ senstat s)

-- what is answered in the place of a value that there is none of; `NO_VALUE` in the code (rule 4.6)
abbrev pub no_value : ℕ
no_value = 0xFFFF

-- how many words the longest answer has; `LONGEST` in the code (rule 7.10)
abbrev pub longest : ℕ
longest = 5

-- an outcome as the code holds it: the words filled up with zeros to the longest answer's length (rule 4.17)
abbrev pub packed : Outcome → Served
packed o = record { state = o.after; words = take longest (o.words ++ replicate longest 0); count = length o.words }

-- the contract of each service: the code's result is the outcome, whole (rule 4.17)
pub record Gives (r : Served) (o : Outcome) : Type 0 where
  pub same : r ≡ packed o
  pub short : r.count ≤ longest

-- the outcome that the code's result holds (rule 4.17)
abbrev pub unpacked : Served → Outcome
unpacked r = record { after = r.state; words = take r.count r.words }
