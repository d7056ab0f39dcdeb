-- Rules 7.10 and 7.11, the program: a record answered with its line. Its request is lent room for the longest answer.
use Rattle.std.specs.Prelude.{◌≡◌, List, [], ℕ, ◌+◌, ◌*◌, length, if◌then◌else◌, Option, Some, None}
use Rattle.words.specs.Lists.{some}
use Rattle.words.specs.Buffers.{over}
use Rattle.state.specs.declared.State.{State}
use Rattle.services.specs.Answers.{longest}
use Rattle.sensor.specs.Requests.{request_of}
use Rattle.dialogue.specs.declared.Record.{Record}
use Rattle.dialogue.specs.declared.Said.{Said}
use Rattle.dialogue.specs.Records.{record_numbers, record_of, record_words}
use Rattle.dialogue.specs.Lines.{line_of, fitting}

-- the line of a request (rule 7.11)
unfoldable pub line_for : State → ℕ → List ℕ → List ℕ
line_for s number ws = line_of number (request_of s ws longest).reply.refusal (request_of s ws longest).written

-- the bytes of a whole record, none of any other (rule 7.10)
abbrev pub size_of : Record → ℕ
size_of r = if (record_numbers r).whole then 1 + 2 * (record_numbers r).count else 0

-- the line of a whole record where it has room; else nothing (rule 7.11)
abbrev pub line_picked : Record → List ℕ → ℕ → List ℕ
line_picked r line room = if (record_numbers r).whole then fitting line room else []

-- the line of the record at the front of the bytes (rule 7.11)
unfoldable pub line_at : State → ℕ → List ℕ → ℕ → List ℕ
line_at s number bytes room = line_picked (record_of bytes) (line_for s number (record_words bytes)) room

-- what became of a record with that line: the next state, the record's bytes and the line's length; nothing where there is no line (rules
-- 7.10 and 7.11)
abbrev pub said_of : State → ℕ → List ℕ → Option Said
said_of next taken line = if some line then Some (record { state = next; taken = taken; length = length line }) else None

-- what is promised of `answer`: the line over the front of the text, and what became of the record; where there is no line, nothing is done
-- (rules 7.10 and 7.11)
pub record AnswerSays (s : State) (number : ℕ) (bytes before after : List ℕ) (r : Option Said) : Type 0 where
  pub text : after ≡ over (line_at s number bytes (length before)) before
  pub said :
      r
      ≡ said_of (request_of s (record_words bytes) longest).reply.state (size_of (record_of bytes)) (line_at s number bytes (length before))
