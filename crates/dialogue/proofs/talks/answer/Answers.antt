use borrow.Author.Rules.{rules}
use native.Mathlib.Omega.{arith}
use Rattle.dialogue.proofs.Talking.{whole_said, not_whole}
use Rattle.dialogue.proofs.talks.answer.Goals as goal

pub returns-in-Whole : goal.returns-in-Whole
returns-in-Whole c =
    whole_said _ _ _ _ c.take_record.ensures _ c.in-Whole.is _ c.from.ensures
    (search rules) (omega arith) _ _ _ _ _ c.answer_words.ensures

pub returns-in-End : goal.returns-in-End
returns-in-End c = not_whole _ _ _ _ _ _ _ c.take_record.ensures c.in-End.is
