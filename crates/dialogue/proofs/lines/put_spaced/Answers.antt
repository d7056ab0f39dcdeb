use borrow.Author.Rules.{rules}
use Rattle.dialogue.proofs.Parts.{spaced_put}
use Rattle.dialogue.proofs.lines.put_spaced.Goals as goal

pub returns : goal.returns
returns c = search (spaced_put, rules)
