-- Technical: no rule stands here. Programs that only look like one, and that no contract
-- lets through. Each is said of any function that meets the contract. Proved in proofs/ShutOut.antt.
use Rattle.std.specs.Prelude.{◌≡◌, List, ℕ, length, Result}
use Rattle.plan.specs.declared.Plan.{Plan}
use Rattle.plan.specs.Sectors.{entry_at}
use Rattle.plan.specs.Demands.{actives}
use Rattle.normal.specs.Demands.{Normalises}
use Rattle.state.specs.declared.State.{State}
use Rattle.state.specs.declared.Reply.{Reply}
use Rattle.state.specs.declared.Refusal.{Refusal}
use Rattle.state.specs.Fields.{with_plans}
use Rattle.state.specs.Fresh.{fresh_state}
use Rattle.state.specs.Replies.{Effect, handed, said as Replies·said, Answered}
use Rattle.sensor.specs.Requests.{request_of}
use Rattle.profile.specs.Profiles.{Scan}
use Rattle.profile.specs.Revolutions.{revolution_of}
use Rattle.reader.specs.Readings.{ReadAnswer, said, ReadSays}
use Rattle.reader.specs.Mixed.{MixedAnswer, mixed_said, ReadMixedSays}

-- a call that is lent a buffer: from a state, what it is handed and the buffer, to the answer and the buffer afterwards
abbrev pub Call : Type 0 → Type 0
Call In = State → In → List ℕ → (Result Reply Refusal × List ℕ)

-- it meets the contract: the answer and the buffer are those of the effect
abbrev pub Answering : {In : Type 0} → (State → In → ℕ → Effect) → Call In → Type 0
Answering {In = In} result f = (s : State) (i : In) (before : List ℕ) → Answered s (f s i before).0 before (f s i before).1 (result s i (length before))

-- the stand-ins, as properties of a call: it refuses all
abbrev pub RefusesAll : {In : Type 0} → Call In → Type 0
RefusesAll {In = In} f = (s : State) (i : In) (before : List ℕ) → Replies·said (f s i before).0 ≡ 0 → ⊥

-- its answer is always the same, whatever it is handed
abbrev pub ConstantReply : {In : Type 0} → Call In → Type 0
ConstantReply {In = In} f = (s : State) (i j : In) (before : List ℕ) → f s i before ≡ f s j before

-- it does nothing: no word is written, or the state is never another
abbrev pub WritesNothing : {In : Type 0} → Call In → Type 0
WritesNothing {In = In} f = (s : State) (i : In) (before : List ℕ) → (f s i before).1 ≡ before

abbrev pub KeepsTheState : {In : Type 0} → Call In → Type 0
KeepsTheState {In = In} f = (s : State) (i : In) (before : List ℕ) → (handed s (f s i before).0).state ≡ s

-- it serves the first request alone: it answers every state as it answers the first
abbrev pub OnlyTheFirst : {In : Type 0} → Call In → Type 0
OnlyTheFirst {In = In} f = (s : State) (i : In) (before : List ℕ) → (f s i before).1 ≡ (f fresh_state i before).1

-- its word count is made up
abbrev pub ConstantCount : {In : Type 0} → Call In → Type 0
ConstantCount {In = In} f = (s t : State) (i j : In) (before : List ℕ) → (handed s (f s i before).0).count ≡ (handed t (f t j before).0).count

-- it serves the first sector alone: its words are the same for two plans with equally many active sectors and the same first one
abbrev pub OnlyTheFirstSector : Call Scan → Type 0
OnlyTheFirstSector f =
    (s : State) (p q : Plan) (g : Scan) (before : List ℕ) → actives p ≡ actives q
    → entry_at p 0 ≡ entry_at q 0
    → (f (with_plans s p s.stored) g before).1 ≡ (f (with_plans s q s.stored) g before).1

-- what no call does that meets the contract
pub record ShutOut {In : Type 0} (result : State → In → ℕ → Effect) : Type 0 where
  pub refuses_all : (f : Call In) → Answering result f → RefusesAll f → ⊥
  pub constant_reply : (f : Call In) → Answering result f → ConstantReply f → ⊥
  pub writes_nothing : (f : Call In) → Answering result f → WritesNothing f → ⊥
  pub keeps_the_state : (f : Call In) → Answering result f → KeepsTheState f → ⊥
  pub only_the_first : (f : Call In) → Answering result f → OnlyTheFirst f → ⊥
  pub constant_count : (f : Call In) → Answering result f → ConstantCount f → ⊥

-- and of a normaliser: it hands its plan back, which the fewest sectors shut out, or one fixed plan, which the same shots do
pub record StandInsShutOut : Type 0 where
  pub requests : ShutOut request_of
  pub revolutions : ShutOut revolution_of
  pub only_the_first_sector : (f : Call Scan) → Answering revolution_of f → OnlyTheFirstSector f → ⊥
  pub reader_refuses_all :
      (f : List ℕ → ReadAnswer) → ((ws : List ℕ) → ReadSays ws (f ws)) → ((ws : List ℕ) → (said (f ws)).refusal ≡ 0 → ⊥) → ⊥
  pub one_reading_for_all : (f : List ℕ → ReadAnswer) → ((ws : List ℕ) → ReadSays ws (f ws)) → ((vs ws : List ℕ) → f vs ≡ f ws) → ⊥
  pub mixed_reader_refuses_all :
      (f : List ℕ → MixedAnswer) → ((ws : List ℕ) → ReadMixedSays ws (f ws)) → ((ws : List ℕ) → (mixed_said (f ws)).refusal ≡ 0 → ⊥)
      → ⊥
  pub one_mixed_reading_for_all :
      (f : List ℕ → MixedAnswer) → ((ws : List ℕ) → ReadMixedSays ws (f ws)) → ((vs ws : List ℕ) → f vs ≡ f ws) → ⊥
  pub plan_handed_back : Normalises (λ step p. p) → ⊥
  pub one_fixed_plan : (q : Plan) → Normalises (λ step p. q) → ⊥
