use Rattle.std.proofs.Common.{rules, tests}
use Rattle.std.proofs.lemmas.Iterator.{YieldsList-from_slice}
use Rattle.std.proofs.lemmas.Iterator.Search.{all_from_yields_List}
use Rattle.plan.specs.Sectors.{active_of}
use Rattle.plan.specs.Validity.{sector_ok}
use Rattle.plan.proofs.Actives.{every_of}
use Rattle.plan.proofs.active.sectors_ok.Goals as goal

pub returns : goal.returns
returns c =
    every_of sector_ok (active_of c.args.plan) _
    (all_from_yields_List sector_ok _ _ c.all.result c.all.ensures.ran (YieldsList-from_slice (active_of c.args.plan) cc) (λ x b q k. search (rules, tests)))
