use borrow.Author.Rules.{rules}
use Rattle.services.proofs.Packing.{is_said}
use Rattle.services.proofs.answers.say.Goals as goal

pub returns : goal.returns
returns c = search (is_said, rules)
