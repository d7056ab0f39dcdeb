-- Rule 1.5: each public call has exactly one answer that meets its contract, whatever it is handed
-- and whether it is refused or not. Proved in proofs/Determining.antt.
use Rattle.std.specs.Prelude.{◌≡◌, List, ℕ, Option, Result}
use Rattle.std.specs.Borrow.{Bor}
use Rattle.units.specs.declared.Angle.{Angle}
use Rattle.units.specs.declared.Time.{Time}
use Rattle.plan.specs.declared.Plan.{Plan}
use Rattle.plan.specs.declared.checks.MeasureError.{MeasureError}
use Rattle.plan.specs.Checks.{measure_error, error_said}
use Rattle.normal.specs.NormalForm.{NormalPlanSays}
use Rattle.state.specs.declared.State.{State}
use Rattle.state.specs.declared.Reply.{Reply}
use Rattle.state.specs.declared.Refusal.{Refusal}
use Rattle.state.specs.Fresh.{FreshSays}
use Rattle.services.specs.declared.Served.{Served}
use Rattle.services.specs.Answers.{Gives}
use Rattle.sensor.specs.declared.Service.{Service}
use Rattle.sensor.specs.Table.{row_of}
use Rattle.sensor.specs.Requests.{RequestSays}
use Rattle.profile.specs.Profiles.{Scan}
use Rattle.profile.specs.Revolutions.{RevolutionSays}
use Rattle.flat.specs.Sent.{ProfileSays, MixedSays}
use Rattle.reader.specs.Readings.{ReadSays}
use Rattle.reader.specs.Stretches.{StretchRefusalSays, StretchSays}
use Rattle.reader.specs.Mixed.{ReadMixedSays}
use Rattle.reader.specs.MixedStretches.{MixedStretchRefusalSays, MixedStretchSays, ReflectorRefusalSays, ReflectorSays, ReflectorsSays}
use Rattle.dialogue.specs.declared.Record.{Record}
use Rattle.dialogue.specs.declared.Said.{Said}
use Rattle.dialogue.specs.Records.{TakeRecordSays}
use Rattle.dialogue.specs.Lines.{WriteLineSays}
use Rattle.dialogue.specs.Talks.{AnswerSays}

-- two answers that meet a contract are equal (rule 1.5)
abbrev pub Determines : {A : Type 0} → (A → Type 0) → Type 0
Determines {A = A} Contract = (a b : A) → Contract a → Contract b → a ≡ b

-- a contract that exactly one answer meets: there is one, and every other that meets it is that one (rule 1.5)
pub record OneAnswer {A : Type 0} (Contract : A → Type 0) : Type 0 where
  pub answer : A
  pub meets : Contract answer
  pub only : (a : A) → Contract a → a ≡ answer

-- The contracts are the very definitions that the code cites, each over all that the call is handed. A call that is lent a buffer answers
-- with its result and the buffer afterwards (rule 1.5)
pub record Determined : Type 1 where
  pub request : (s : State) (ws before : List ℕ) → OneAnswer (λ (a : Result Reply Refusal × List ℕ). RequestSays s ws before a.1 a.0)
  pub revolution : (s : State) (g : Scan) (before : List ℕ) → OneAnswer (λ (a : Result Reply Refusal × List ℕ). RevolutionSays s g before a.1 a.0)
  pub normal_plan : (p : Plan) (step : ℕ) → OneAnswer (NormalPlanSays p step)
  -- which of the four checks fails first, if one does
  pub check_measure : (p : Plan) (step speed : ℕ)
      → OneAnswer (λ (r : Result (Unit {0}) MeasureError). error_said r ≡ measure_error p step speed)
  pub read : (ws : List ℕ) → OneAnswer (ReadSays ws)
  -- the words that are lent, and where they stand
  pub stretch : (words : Bor (List ℕ)) (place : ℕ)
      → OneAnswer (λ (a : List ℕ × (ℕ × ℕ)). StretchSays words place (record { ref_ptr = a.1; now = a.0 }))
  pub stretch_refusal : (ws : List ℕ) (place : ℕ) → OneAnswer (StretchRefusalSays ws place)
  -- the reader of mixed profiles, with its stretches and its reflectors
  pub read_mixed : (ws : List ℕ) → OneAnswer (ReadMixedSays ws)
  pub stretch_mixed : (words : Bor (List ℕ)) (place : ℕ)
      → OneAnswer (λ (a : List ℕ × (ℕ × ℕ)). MixedStretchSays words place (record { ref_ptr = a.1; now = a.0 }))
  pub stretch_mixed_refusal : (ws : List ℕ) (place : ℕ) → OneAnswer (MixedStretchRefusalSays ws place)
  pub reflector : (words : Bor (List ℕ)) (place : ℕ)
      → OneAnswer (λ (a : List ℕ × (ℕ × ℕ)). ReflectorSays words place (record { ref_ptr = a.1; now = a.0 }))
  pub reflector_refusal : (ws : List ℕ) (place : ℕ) → OneAnswer (ReflectorRefusalSays ws place)
  pub all_reflectors : (words : Bor (List ℕ))
      → OneAnswer (λ (a : List ℕ × (ℕ × ℕ)). ReflectorsSays words (record { ref_ptr = a.1; now = a.0 }))
  pub fresh : OneAnswer FreshSays
  pub profile : (plan : List ℕ) (step running mask : ℕ) (g : Scan) (before : List ℕ)
      → OneAnswer (λ (a : ℕ × List ℕ). ProfileSays plan step running mask g before a.1 a.0)
  pub mixed_profile : (plan : List ℕ) (step running high low : ℕ) (g : Scan) (before : List ℕ)
      → OneAnswer (λ (a : ℕ × List ℕ). MixedSays plan step running high low g before a.1 a.0)
  pub take_record : (bytes before : List ℕ) → OneAnswer (λ (a : Record × List ℕ). TakeRecordSays a.0 bytes before a.1)
  pub write_line : (nr refusal : ℕ) (ws before : List ℕ) → OneAnswer (λ (a : Option ℕ × List ℕ). WriteLineSays nr refusal ws before a.1 a.0)
  pub answer : (s : State) (number : ℕ) (bytes before : List ℕ)
      → OneAnswer (λ (a : Option Said × List ℕ). AnswerSays s number bytes before a.1 a.0)
  -- each service of the table and `no_word`, told any response code: its contract also says that there are at most `longest` words
  pub service : (v : Service) (s : State) (code a b c d : ℕ) → OneAnswer (λ (r : Served). Gives r ((row_of v).does s code a b c d))
  -- the smaller functions: each contract says which value the answer is, or which number of sixteenths or milliseconds it holds
  pub by_value : (A : Type 0) (x : A) → OneAnswer (λ (a : A). a ≡ x)
  pub by_angle : (n : ℕ) → OneAnswer (λ (a : Angle). a.0 ≡ n)
  pub by_time : (n : ℕ) → OneAnswer (λ (a : Time). a.0 ≡ n)

-- so two results that meet the contract of a call are equal (rule 1.5)
abbrev pub OneDetermines : Type 1
OneDetermines = (A : Type 0) (Contract : A → Type 0) → OneAnswer Contract → Determines Contract
