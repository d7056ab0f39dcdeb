use Rattle.std.proofs.Common.{rules}
use Rattle.std.proofs.lemmas.Iterator.Consumers.{YieldsList-from_first, nth_from_yields_List}
use Rattle.plan.specs.Sectors.{active_of}
use Rattle.plan.specs.Shots.{arcs, arc_at}
use Rattle.plan.specs.ArcsLeft.{arcs_left}
use Rattle.plan.proofs.ArcSums.{at_place}
use Rattle.plan.proofs.arcs.arc_at.Goals as goal

pub returns : goal.returns
unfolding arc_at
returns c =
    at_place (arcs c.args.step.0 (active_of c.args.plan)) c.args.place c.nth.result
    (nth_from_yields_List c.nth.result c.nth.new.self c.args.place c.nth.ensures.ran (YieldsList-from_first (λ a. a) arcs_left _ c.arcs_of.ensures.gives))
    _ (search rules)
