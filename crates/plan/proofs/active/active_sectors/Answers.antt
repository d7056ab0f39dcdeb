use mathlib.Core.Path.{◌≡◌}
use lib.ListN.{take}
use Rattle.std.proofs.Common.{rules, tests}
use Rattle.std.proofs.lemmas.Iterator.{YieldsList-from_slice}
use Rattle.std.proofs.lemmas.Iterator.Consumers.{count_from_yields_List}
use Rattle.std.proofs.lemmas.Iterator.Search.{YieldsList-from_take_while}
use Rattle.plan.specs.Sectors.{active_of}
use Rattle.plan.proofs.Actives.{in_use, counted, from_front}
use Rattle.plan.proofs.active.active_sectors.Goals as goal

pub returns-clause-lends : goal.returns-clause-lends
returns-clause-lends c =
    let front : take c.count-count.result c.args.plan.now.sectors ≡ active_of c.args.plan.now = counted _ _
    (count_from_yields_List c.take_while.result _ c.count-count.ensures.ran
    (YieldsList-from_take_while _ in_use (YieldsList-from_slice c.args.plan.now.sectors cc)
    c.take_while.ensures.closure c.take_while.ensures.done (λ x b q k. search (rules, tests)))) in
    search (front, from_front)
