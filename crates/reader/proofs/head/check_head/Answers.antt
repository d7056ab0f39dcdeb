-- `check_head`: the one way out that a search does not find.
use Rattle.reader.proofs.Heads.{another}
use Rattle.reader.proofs.head.check_head.Goals as goal

pub returns-then-ne : goal.returns-then-ne
returns-then-ne g c = another _ _ c.first.result _ c.first.ensures.value c.code_of.ensures c.ne.ensures c.if-ne.true
