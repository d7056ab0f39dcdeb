use Rattle.std.proofs.Common.{rules}
use Rattle.plan.proofs.Actives.{last_is}
use Rattle.plan.proofs.active.last_stop.Goals as goal

pub returns : goal.returns
returns c = search (last_is, rules)
