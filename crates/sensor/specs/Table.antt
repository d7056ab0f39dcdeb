-- Rules, section 4: the table, as data.
use Rattle.std.specs.Prelude.{◌≡◌, Bool, true, false, not, ◌&&◌, ◌||◌, List, [], ◌∷◌, ℕ, ◌+◌, eqb, replicate, if◌then◌else◌}
use Rattle.state.specs.declared.State.{State}
use Rattle.state.specs.declared.Mode.{Mode}
use Rattle.state.specs.declared.Mode.TheVariants.{Idle, Rotate, Measure}
use Rattle.state.specs.Changes.{Part}
use Rattle.state.specs.Changes as part
use Rattle.state.specs.Replies.{Outcome}
use Rattle.services.specs.Answers.{answer, no_value}
use Rattle.services.specs.Status.{get_status, get_signal, set_signal}
use Rattle.services.specs.Configuration.{set_config, get_config, set_function, get_function}
use Rattle.services.specs.Measurement.{starts_job, get_profile, cancel_profile}
use Rattle.services.specs.Working.{drive_parts, reset_parts, do_reset, trans_idle, trans_rotate, trans_measure}
use Rattle.services.specs.Mixed.{starts_mixed, get_mixed_profile, cancel_mixed_profile}
use Rattle.services.specs.Nav300.{set_rotate_direction, get_rotate_direction, set_reflector_config, get_reflector_config, save_permanent}
use Rattle.sensor.specs.declared.Service.{Service}
use Rattle.sensor.specs.declared.Miscount.{Miscount}
use Rattle.sensor.specs.declared.Miscount.TheVariants.{Refused, NoValues}

-- a row of the table: the code, how many words come in, the code's included, whether IDLE, ROTATE and MEASURE are listed, what becomes of
-- another number of words, the parts of the state that the service may change, and what it does, given the response code and the words
-- after the code (rule 4.3)
pub record Entry : Type 0 where
  pub code : ℕ
  pub words_in : ℕ
  pub idle : Bool
  pub rotate : Bool
  pub measure : Bool
  pub miscount : Miscount
  pub changes : List Part
  pub does : State → ℕ → ℕ → ℕ → ℕ → ℕ → Outcome

abbrev entry : ℕ → ℕ → Bool → Bool → Bool → Miscount → List Part → (State → ℕ → ℕ → ℕ → ℕ → ℕ → Outcome) → Entry
entry code words_in idle rotate measure miscount changes does =
    record {
      code = code;
      words_in = words_in;
      idle = idle;
      rotate = rotate;
      measure = measure;
      miscount = miscount;
      changes = changes;
      does = does;
    }

-- the rows (rule 4.3)
abbrev pub row_of : Service → Entry
row_of Service.GetStatus = entry 0x0102 1 true true true Refused [] (λ s r a b c d. get_status s r)
row_of Service.GetSignal = entry 0x0104 1 true true true Refused [] (λ s r a b c d. get_signal s r)
row_of Service.SetSignal = entry 0x0105 2 true true true (NoValues 1) (part.port ∷ []) (λ s r a b c d. set_signal s r a)
row_of Service.SetConfig = entry 0x0201 5 true false false Refused (part.config ∷ []) (λ s r a b c d. set_config s r a b c d)
row_of Service.GetConfig = entry 0x0202 2 true true true Refused [] (λ s r a b c d. get_config s r a)
row_of Service.SetFunction = entry 0x020A 5 true true false (NoValues 3) (part.working ∷ part.stored ∷ []) (λ s r a b c d. set_function s r a b c d)
row_of Service.GetFunction = entry 0x020B 2 true true true (NoValues 3) [] (λ s r a b c d. get_function s r a)
row_of Service.GetProfile = entry 0x0301 3 false false true (NoValues 0) (part.job ∷ []) (λ s r a b c d. get_profile s r a b)
row_of Service.CancelProfile = entry 0x0302 1 false false true Refused (part.job ∷ []) (λ s r a b c d. cancel_profile s r)
row_of Service.DoReset = entry 0x0401 2 true true true Refused reset_parts (λ s r a b c d. do_reset s r a)
row_of Service.TransIdle = entry 0x0402 1 true true true Refused drive_parts (λ s r a b c d. trans_idle s r)
row_of Service.TransRotate = entry 0x0403 2 true true true Refused drive_parts (λ s r a b c d. trans_rotate s r a)
row_of Service.TransMeasure = entry 0x0404 1 false true true Refused (part.mode ∷ []) (λ s r a b c d. trans_measure s r)
row_of Service.SetRotateDirection = entry 0x1201 2 true true false Refused (part.rotation ∷ []) (λ s r a b c d. set_rotate_direction s r a)
row_of Service.SetReflectorConfig = entry 0x1202 3 true true false Refused (part.reflector ∷ []) (λ s r a b c d. set_reflector_config s r a b)
row_of Service.GetRotateDirection = entry 0x1211 1 true true true Refused [] (λ s r a b c d. get_rotate_direction s r)
row_of Service.GetReflectorConfig = entry 0x1212 1 true true true Refused [] (λ s r a b c d. get_reflector_config s r)
row_of Service.GetMixedProfile = entry 0x1301 4 false false true Refused (part.job ∷ []) (λ s r a b c d. get_mixed_profile s r a b c)
row_of Service.CancelMixedProfile = entry 0x1302 1 false false true Refused (part.job ∷ []) (λ s r a b c d. cancel_mixed_profile s r)
row_of Service.SavePermanent = entry 0x1701 1 true true false Refused (part.saved ∷ []) (λ s r a b c d. save_permanent s r)
row_of Service.Unknown = entry 0 0 false false false Refused [] (λ s r a b c d. answer s [])

-- a response code; `RESPONSE` in the code (rule 4.1)
abbrev pub response : ℕ → ℕ
response code = code + 0x8000

-- the services of the table (rule 4.3)
abbrev pub services : List Service
services =
    Service.GetStatus
    ∷ Service.GetSignal
    ∷ Service.SetSignal
    ∷ Service.SetConfig
    ∷ Service.GetConfig
    ∷ Service.SetFunction
    ∷ Service.GetFunction
    ∷ Service.GetProfile
    ∷ Service.CancelProfile
    ∷ Service.DoReset
    ∷ Service.TransIdle
    ∷ Service.TransRotate
    ∷ Service.TransMeasure
    ∷ Service.SetRotateDirection
    ∷ Service.SetReflectorConfig
    ∷ Service.GetRotateDirection
    ∷ Service.GetReflectorConfig
    ∷ Service.GetMixedProfile
    ∷ Service.CancelMixedProfile
    ∷ Service.SavePermanent
    ∷ []

-- the first service of a list that has the code, and Unknown where none has (rule 4.3)
abbrev pub named : ℕ → List Service → Service
named code [] = Service.Unknown
named code (v ∷ vs) = if eqb code (row_of v).code then v else named code vs

unfoldable pub service_of : ℕ → Service
service_of code = named code services

-- the mode is listed (rule 4.3)
abbrev pub listed : Bool → Bool → Bool → Mode → Bool
listed idle rotate measure Idle = idle
listed idle rotate measure Rotate = rotate
listed idle rotate measure Measure = measure

abbrev pub allowed : Service → Mode → Bool
allowed v mode = listed (row_of v).idle (row_of v).rotate (row_of v).measure mode

-- what the service does, given the words after the code (rule 4.3)
abbrev pub outcome_of : Service → State → ℕ → ℕ → ℕ → ℕ → Outcome
outcome_of v s a b c d = (row_of v).does s (response (row_of v).code) a b c d

-- the service is in the table: each row has a word, the code's, at least (rule 4.3)
abbrev pub is_listed : Service → Bool
is_listed v = not (eqb (row_of v).words_in 0)

-- the number of words is not the row's (rule 4.25)
abbrev pub miscounted : Service → ℕ → Bool
miscounted v count = not (eqb count (row_of v).words_in)

-- what becomes of that is a refusal (rule 4.25)
abbrev pub is_refused : Miscount → Bool
is_refused Refused = true
is_refused (NoValues times) = false

-- the number of words is wrong, and that is refused (rules 4.25 and 6.1)
abbrev pub count_refused : Service → ℕ → Bool
count_refused v count = miscounted v count && is_refused (row_of v).miscount

-- or it is answered, given the response code: with that, then no value so many times; what is refused has no word (rule 4.25)
abbrev pub said_of : Miscount → ℕ → List ℕ
said_of Refused code = []
said_of (NoValues times) code = code ∷ replicate times no_value

-- no word is due: of what is no service, and of a GET_PROFILE or a GET_MIXED_PROFILE whose mask starts a job (rules 4.10 and 4.23)
abbrev pub silent : Service → ℕ → ℕ → ℕ → ℕ → Bool
silent v a b c d =
    not (is_listed v)
    || (eqb (row_of v).code (row_of Service.GetProfile).code && starts_job b)
    || (eqb (row_of v).code (row_of Service.GetMixedProfile).code && starts_mixed b c)

-- a row as the code holds it is that of a code (rule 4.3)
pub record Lists (v : Service) (w : ℕ) (i r m : Bool) (c : Miscount) (code : ℕ) : Type 0 where
  pub service : v ≡ service_of code
  pub words_in : w ≡ (row_of v).words_in
  pub idle : i ≡ (row_of v).idle
  pub rotate : r ≡ (row_of v).rotate
  pub measure : m ≡ (row_of v).measure
  pub miscount : c ≡ (row_of v).miscount
