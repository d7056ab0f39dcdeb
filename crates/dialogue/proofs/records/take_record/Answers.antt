use borrow.Author.Rules.{rules}
use Rattle.dialogue.proofs.Taking.{no_record, cut_record, whole_record}
use Rattle.dialogue.proofs.records.take_record.Goals as goal

pub returns-in_default : goal.returns-in_default
returns-in_default c = search (no_record, c.in_default.ensures.cases, rules)

pub returns-then-rest-n : goal.returns-then-rest-n
returns-then-rest-n c = rw c.in-Some.ensures.cases.0 (cut_record _ _ _ _ c.from-n.ensures c.if-rest-n.true)

pub returns : goal.returns
returns c = rw c.in-Some.ensures.cases.0 (whole_record _ _ _ _ _ c.from-n.ensures c.if-rest-n.false c.take_words.ensures)
