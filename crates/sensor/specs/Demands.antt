-- What is promised of requests, as statements over the definitions above. The proofs stand in proofs/Demand1.antt, proofs/Served.antt and
-- proofs/SettingsKept.antt.
use Rattle.std.specs.Prelude.{◌≡◌, ◌↔◌, Bool, not, ◌||◌, List, [], ◌∷◌, ℕ, ◌≤◌, T, ltb, eqb, length, get_or, take}
use Rattle.words.specs.Lists.{some, every, are_words}
use Rattle.words.specs.Numbers.{No, no, first_of}
use Rattle.layout.specs.declared.Kind.{Kind}
use Rattle.state.specs.declared.State.{State}
use Rattle.state.specs.Jobs.{has_kind}
use Rattle.state.specs.Changes.{only_in}
use Rattle.state.specs.Ranges.{in_range}
use Rattle.state.specs.Replies.{Unchanged}
use Rattle.services.specs.Answers.{longest, no_value}
use Rattle.services.specs.Nav300.{bad_value}
use Rattle.sensor.specs.declared.Service.{Service}
use Rattle.sensor.specs.Table.{row_of, response, services, service_of, allowed, outcome_of, is_listed, silent, count_refused}
use Rattle.sensor.specs.Requests.{outcome, request_of}

-- Demand 1: a refusal leaves buffer and state as they were, and counts no word (rule 6.2)
abbrev pub RefusalsChangeNothing : Type 0
RefusalsChangeNothing =
    (s : State) (ws before : List ℕ) → ((request_of s ws (length before)).reply.refusal ≡ 0 → ⊥)
    → Unchanged s before (request_of s ws (length before))

-- no service of a list has the code that is asked (rule 4.3)
abbrev pub asks_none : List ℕ → List Service → Bool
asks_none ws vs = every (λ v. not (eqb (get_or ws 0 0) (row_of v).code)) vs

-- the numbers 1 to 6, each beside what it is due for: a field of the state is out of its range; nothing is asked; no row has the code; the
-- row asks for more or fewer words and refuses these; it does not name the mode; the room is less than the answer (rule 6.1)
abbrev pub numbers_for_no : State → List ℕ → ℕ → List No
numbers_for_no s ws room =
    no 1 (not (in_range s))
    ∷ no 2 (not (some ws))
    ∷ no 3 (asks_none ws services)
    ∷ no 4 (count_refused (service_of (get_or ws 0 0)) (length ws))
    ∷ no 5 (not (allowed (service_of (get_or ws 0 0)) s.mode))
    ∷ no 6 (ltb room (length (outcome s ws).words))
    ∷ []

-- the first that is due is given, and no other (rule 6.1)
abbrev pub RefusalsExactly : Type 0
RefusalsExactly = (s : State) (ws : List ℕ) (room : ℕ) → (request_of s ws room).reply.refusal ≡ first_of (numbers_for_no s ws room)

-- with room for the longest answer 6 is never given (rule 7.10)
abbrev pub RoomForAll : Type 0
RoomForAll = (s : State) (ws : List ℕ) (room : ℕ) → longest ≤ room → (request_of s ws room).reply.refusal ≡ 6 → ⊥

-- a state in its ranges is in its ranges after every request, refused or served (rule 2.8)
abbrev pub RangesKept : Type 0
RangesKept = (s : State) (ws : List ℕ) (room : ℕ) → T (are_words ws) → T (in_range s) → T (in_range (request_of s ws room).reply.state)

-- Of a service of the table: its code names it; its answer is never longer than the longest; it begins with the response code, and there is
-- at least that word, but for where a job starts, and there is none exactly there (rule 4.1)
pub record Tabled (v : Service) : Type 0 where
  pub found : service_of (row_of v).code ≡ v
  pub short : (s : State) (a b c d : ℕ) → length (outcome_of v s a b c d).words ≤ longest
  pub first : (s : State) (a b c d : ℕ) → T (not (silent v a b c d)) → take 1 (outcome_of v s a b c d).words ≡ response (row_of v).code ∷ []
  pub none : (s : State) (a b c d : ℕ) → ((outcome_of v s a b c d).words ≡ []) ↔ T (silent v a b c d)

abbrev pub TableHolds : Type 0
TableHolds = (v : Service) → T (is_listed v) → Tabled v

-- What a request changes: the parts of the state that the row of its service names, and nothing else; and nothing where SET_CONFIG is
-- answered no value, a value of SET_ROTATE_DIRECTION or SET_REFLECTOR_CONFIG or the mask of a GET_MIXED_PROFILE is answered as bad, or a job of
-- the other kind is cancelled (rules 4.4, 4.6, 4.11, 4.19, 4.20, 4.23 and 4.24)
pub record Stays (s : State) (ws : List ℕ) (room : ℕ) : Type 0 where
  pub only : (request_of s ws room).reply.state ≡ only_in (row_of (service_of (get_or ws 0 0))).changes s (request_of s ws room).reply.state
  pub no_config : (request_of s ws room).written ≡ response (row_of Service.SetConfig).code ∷ no_value ∷ [] → (request_of s ws room).reply.state ≡ s
  pub no_rotation :
      (request_of s ws room).written ≡ response (row_of Service.SetRotateDirection).code ∷ bad_value ∷ [] → (request_of s ws room).reply.state ≡ s
  pub no_reflector :
      (threshold radius : ℕ) → T (eqb threshold bad_value || eqb radius bad_value)
      → (request_of s ws room).written ≡ response (row_of Service.SetReflectorConfig).code ∷ threshold ∷ radius ∷ []
      → (request_of s ws room).reply.state ≡ s
  pub no_mask :
      (high low : ℕ) → (request_of s ws room).written ≡ response (row_of Service.GetMixedProfile).code ∷ high ∷ low ∷ bad_value ∷ []
      → (request_of s ws room).reply.state ≡ s
  pub mixed_goes_on :
      T (has_kind Kind.Mixed s.job) → get_or ws 0 0 ≡ (row_of Service.CancelProfile).code → (request_of s ws room).reply.state ≡ s
  pub plain_goes_on :
      T (has_kind Kind.Plain s.job) → get_or ws 0 0 ≡ (row_of Service.CancelMixedProfile).code → (request_of s ws room).reply.state ≡ s

abbrev pub OnlyThese : Type 0
OnlyThese = (s : State) (ws : List ℕ) (room : ℕ) → Stays s ws room

-- What a request leaves of the NAV300's settings, from a state to the one after it: the direction of rotation, where it is no
-- SET_ROTATE_DIRECTION; the working pair, where it is neither SET_REFLECTOR_CONFIG nor DO_RESET; the stored pair, where it is no SAVE_PERMANENT
-- (rules 4.4, 4.12 and 4.19 to 4.22)
pub record KeepsSettings (s t : State) (ws : List ℕ) : Type 0 where
  pub rotation : T (asks_none ws (Service.SetRotateDirection ∷ [])) → t.settings.rotation ≡ s.settings.rotation
  pub working : T (asks_none ws (Service.SetReflectorConfig ∷ Service.DoReset ∷ [])) → t.settings.working ≡ s.settings.working
  pub stored : T (asks_none ws (Service.SavePermanent ∷ [])) → t.settings.stored ≡ s.settings.stored

abbrev pub SettingsKept : Type 0
SettingsKept = (s : State) (ws : List ℕ) (room : ℕ) → KeepsSettings s (request_of s ws room).reply.state ws
