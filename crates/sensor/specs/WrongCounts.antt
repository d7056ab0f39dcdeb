-- What is promised of a wrong number of words. Proved in proofs/Miscounted.antt.
use Rattle.std.specs.Prelude.{◌≡◌, ◌↔◌, Bool, not, ◌&&◌, List, [], ◌∷◌, ℕ, T, length, get_or, if◌then◌else◌}
use Rattle.state.specs.declared.State.{State}
use Rattle.state.specs.Ranges.{in_range}
use Rattle.state.specs.Replies.{refused, delivered}
use Rattle.services.specs.Answers.{answer}
use Rattle.sensor.specs.declared.Service.{Service}
use Rattle.sensor.specs.Table.{row_of, services, service_of, allowed, miscounted}
use Rattle.sensor.specs.Requests.{request_of}
use Rattle.sensor.specs.Demands.{asks_none}

-- the services that answer it, by their names (rule 4.25)
abbrev pub answering : List Service
answering = Service.SetSignal ∷ Service.SetFunction ∷ Service.GetFunction ∷ Service.GetProfile ∷ []

-- of a request (rule 4.25)
abbrev pub is_wrong_count : List ℕ → Bool
is_wrong_count ws = miscounted (service_of (get_or ws 0 0)) (length ws)

-- the four never give 4, whatever the state, the words and the room are (rule 6.1)
abbrev pub NeverFour : Type 0
NeverFour = (s : State) (ws : List ℕ) (room : ℕ) → T (not (asks_none ws answering)) → (request_of s ws room).reply.refusal ≡ 4 → ⊥

-- what 4 is given for, in every mode and with any room: a service of the table but these four is asked for, of a state in its ranges, with a
-- wrong number of words (rule 6.1)
abbrev pub FourExactly : Type 0
FourExactly =
    (s : State) (ws : List ℕ) (room : ℕ)
    → ((request_of s ws room).reply.refusal ≡ 4) ↔ T (in_range s && (not (asks_none ws services) && (asks_none ws answering && is_wrong_count ws)))

-- refused or answered, it leaves the state as it came, job, port and plans included (rule 4.25)
abbrev pub WrongCountsLeave : Type 0
WrongCountsLeave = (s : State) (ws : List ℕ) (room : ℕ) → T (is_wrong_count ws) → (request_of s ws room).reply.state ≡ s

-- a service's answer to it, of a state in its ranges: 5 before it, where the mode is not listed, and 6 behind it, where there is no room
-- for it (rules 4.25 and 6.1)
abbrev pub AnswersWith : Service → List ℕ → Type 0
AnswersWith v words =
    (s : State) (rest : List ℕ) (room : ℕ) → T (in_range s) → T (is_wrong_count ((row_of v).code ∷ rest))
    → request_of s ((row_of v).code ∷ rest) room ≡ (if allowed v s.mode then delivered s (answer s words) room else refused s 5)

pub record WrongCountsSaid : Type 0 where
  pub set_signal : AnswersWith Service.SetSignal (0x8105 ∷ 0xFFFF ∷ [])
  pub set_function : AnswersWith Service.SetFunction (0x820A ∷ 0xFFFF ∷ 0xFFFF ∷ 0xFFFF ∷ [])
  pub get_function : AnswersWith Service.GetFunction (0x820B ∷ 0xFFFF ∷ 0xFFFF ∷ 0xFFFF ∷ [])
  pub get_profile : AnswersWith Service.GetProfile (0x8301 ∷ [])

-- the words behind the code are not looked at: two requests with one code, each with a wrong number, get the same (rule 4.25)
abbrev pub WordsUnread : Type 0
WordsUnread =
    (s : State) (code : ℕ) (xs ys : List ℕ) (room : ℕ) → T (is_wrong_count (code ∷ xs)) → T (is_wrong_count (code ∷ ys))
    → request_of s (code ∷ xs) room ≡ request_of s (code ∷ ys) room
