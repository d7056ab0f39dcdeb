-- A life of the sensor: requests and revolutions one after another, from the fresh state on. Proved in proofs/Living.antt.
use Rattle.std.specs.Prelude.{◌≡◌, Bool, true, List, [], ◌∷◌, ℕ, T}
use Rattle.words.specs.Lists.{every, Each, are_words}
use Rattle.state.specs.declared.State.{State}
use Rattle.state.specs.Fresh.{fresh_state}
use Rattle.state.specs.Ranges.{in_range}
use Rattle.state.specs.Replies.{Effect}
use Rattle.sensor.specs.Requests.{request_of}
use Rattle.profile.specs.Profiles.{Scan}
use Rattle.profile.specs.Revolutions.{revolution_of}
use Rattle.promises.specs.Exchange.{ProfileRead}

-- what happens to a sensor: it is asked by words, or turns with what it is given; and the length of the buffer that is lent (rule 1.1)
pub data Event : Type 0 where
  asks : List ℕ → ℕ → Event
  turns : Scan → ℕ → Event

abbrev pub result_of : State → Event → Effect
result_of s (asks ws room) = request_of s ws room
result_of s (turns g room) = revolution_of s g room

-- each event with the state that it comes upon (rule 1.1)
pub record Moment : Type 0 where
  pub state : State
  pub event : Event

abbrev pub life : State → List Event → List Moment
life s [] = []
life s (e ∷ es) = record { state = s; event = e } ∷ life (result_of s e).reply.state es

-- the words of a request have 16 bits (rule 1.2)
abbrev pub is_event : Event → Bool
is_event (asks ws room) = are_words ws
is_event (turns g room) = true

-- a profile that is sent is accepted, where its mask carries what the reader needs (rule 5.12)
abbrev pub IsRead : State → Event → Type 0
IsRead s (asks ws room) = Unit {0}
IsRead s (turns g room) = ProfileRead s g room

-- the state is in its ranges before and after, so refusal 1 is not given (rule 2.8)
pub record Lives (m : Moment) : Type 0 where
  pub before : T (in_range m.state)
  pub after : T (in_range (result_of m.state m.event).reply.state)
  pub never_1 : (result_of m.state m.event).reply.refusal ≡ 1 → ⊥
  pub read : IsRead m.state m.event

abbrev pub Life : Type 0
Life = (events : List Event) → T (every is_event events) → Each Lives (life fresh_state events)
