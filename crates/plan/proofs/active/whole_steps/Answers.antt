use Rattle.std.proofs.Common.{rules, tests}
use Rattle.std.proofs.lemmas.Iterator.{YieldsList-from_slice}
use Rattle.std.proofs.lemmas.Iterator.Search.{all_from_yields_List}
use Rattle.units.specs.Directions.{is_multiple}
use Rattle.plan.specs.Sectors.{stop_of, active_of}
use Rattle.plan.proofs.Actives.{every_of}
use Rattle.plan.proofs.active.whole_steps.Goals as goal

pub returns : goal.returns
returns c =
    every_of (λ s. is_multiple c.args.step.0 (stop_of s)) (active_of c.args.plan) _
    (all_from_yields_List (λ s. is_multiple c.args.step.0 (stop_of s)) _ _ c.all.result c.all.ensures.ran (YieldsList-from_slice _ cc)
    (λ x b q k. search (rules, tests)))
