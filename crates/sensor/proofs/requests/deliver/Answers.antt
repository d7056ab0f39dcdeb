use borrow.Author.Rules.{rules}
use Rattle.sensor.proofs.Answering.{too_long, written}
use Rattle.sensor.proofs.requests.deliver.Goals as goal

pub returns-then-out-count : goal.returns-then-out-count
returns-then-out-count c = search (too_long, rules)

pub returns : goal.returns
returns c = search (written, rules)
