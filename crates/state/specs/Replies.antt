-- Rules 4.17 and 6.2: what a call that is lent a buffer hands back. Refused, it leaves state and buffer as they were and counts no word;
-- served, it writes to the buffer's front and leaves what stands behind.
use Rattle.std.specs.Prelude.{◌≡◌, List, [], ℕ, ltb, length, if◌then◌else◌, Result, Ok, Err}
use Rattle.words.specs.Buffers.{over}
use Rattle.state.specs.declared.State.{State}
use Rattle.state.specs.declared.Reply.{Reply}
use Rattle.state.specs.declared.Refusal.{Refusal}
use Rattle.state.specs.declared.Refusal.TheVariants.{OutOfRange, NoWord, UnknownCode, WrongCount, NotInMode, NoRoom, NotMeasuring}
use Rattle.state.specs.declared.Refusal.TheVariants.{ListLength, ReflectorList}

-- the number of each refusal (rule 6.1)
abbrev pub refusal_number : Refusal → ℕ
refusal_number OutOfRange = 1
refusal_number NoWord = 2
refusal_number UnknownCode = 3
refusal_number WrongCount = 4
refusal_number NotInMode = 5
refusal_number NoRoom = 6
refusal_number NotMeasuring = 7
refusal_number ListLength = 8
refusal_number ReflectorList = 27

-- what a call hands back, by number and values: the state after it, the number for no, 0 for none, and how many words it wrote (rule 4.17)
pub record Handed : Type 0 where
  pub state : State
  pub refusal : ℕ
  pub count : ℕ

-- an answer by number and values: served, 0 with the next state and the words written; refused, its number with the state as it came and no
-- word (rules 4.17 and 6.2)
abbrev pub handed : State → Result Reply Refusal → Handed
handed s (Ok r) = record { state = r.state; refusal = 0; count = r.count }
handed s (Err e) = record { state = s; refusal = refusal_number e; count = 0 }

-- the number alone: 0 where nothing is refused (rule 6.1)
abbrev pub said : {A : Type 0} → Result A Refusal → ℕ
said (Ok a) = 0
said (Err e) = refusal_number e

-- what a call does where nothing refuses it: the state after it, and the words of its answer (rule 4.17)
pub record Outcome : Type 0 where
  pub after : State
  pub words : List ℕ

-- what is handed back, and the words that are written from the buffer's start on (rule 4.17)
pub record Effect : Type 0 where
  pub reply : Handed
  pub written : List ℕ

abbrev pub refused : State → ℕ → Effect
refused s refusal = record { reply = record { state = s; refusal = refusal; count = 0 }; written = [] }

-- number 6 where the room is too small, else the outcome (rule 6.1)
unfoldable pub delivered : State → Outcome → ℕ → Effect
delivered s o room =
    if ltb room (length o.words) then refused s 6
    else record { reply = record { state = o.after; refusal = 0; count = length o.words }; written = o.words }

-- the answer to a call at this state, and the buffer afterwards, are those of the effect (rule 4.17)
pub record Answered (s : State) (r : Result Reply Refusal) (before after : List ℕ) (x : Effect) : Type 0 where
  pub reply : handed s r ≡ x.reply
  pub buffer : after ≡ over x.written before

-- an effect that changes nothing, neither the state nor a word of the buffer (rule 6.2)
pub record Unchanged (s : State) (before : List ℕ) (x : Effect) : Type 0 where
  pub state : x.reply.state ≡ s
  pub count : x.reply.count ≡ 0
  pub buffer : over x.written before ≡ before
