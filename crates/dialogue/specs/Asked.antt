-- Technical: no rule stands here. What the inner function of a talk says: the line of a request over the front of the text where it has
-- room, and what became of it.
use Rattle.std.specs.Prelude.{◌≡◌, List, ℕ, ◌+◌, ◌*◌, length, Option}
use Rattle.words.specs.Buffers.{over}
use Rattle.state.specs.declared.State.{State}
use Rattle.services.specs.Answers.{longest}
use Rattle.sensor.specs.Requests.{request_of}
use Rattle.dialogue.specs.declared.Said.{Said}
use Rattle.dialogue.specs.Lines.{fitting}
use Rattle.dialogue.specs.Talks.{line_for, said_of}

pub record Replied (s : State) (number : ℕ) (ws before after : List ℕ) (r : Option Said) : Type 0 where
  pub text : after ≡ over (fitting (line_for s number ws) (length before)) before
  pub said : r ≡ said_of (request_of s ws longest).reply.state (1 + 2 * length ws) (fitting (line_for s number ws) (length before))
