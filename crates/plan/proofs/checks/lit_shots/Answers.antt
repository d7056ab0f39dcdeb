use Rattle.std.proofs.Common.{◌∙◌, rules, tests}
use Rattle.std.proofs.lemmas.Iterator.{YieldsList-from_map}
use Rattle.std.proofs.lemmas.Iterator.Consumers.{YieldsList-at, YieldsList-from_first, sum_by_from_yields_List, fits_by_from_yields_list}
use Rattle.words.proofs.Arrays.{long}
use Rattle.plan.specs.Sectors.{active_of}
use Rattle.plan.specs.Shots.{arcs}
use Rattle.plan.specs.Checks.{lit_shots}
use Rattle.plan.specs.ArcsLeft.{arcs_left}
use Rattle.plan.proofs.ArcSums.{lit_of, lit_sum, lit_fits}
use Rattle.plan.proofs.checks.lit_shots.Goals as goal

pub sum-requires-clause-fits : goal.sum-requires-clause-fits
sum-requires-clause-fits c =
    fits_by_from_yields_list lit_of (arcs c.args.step.0 (active_of c.args.plan)) _ _
    (YieldsList-from_map _ lit_of (YieldsList-at c.map.ensures.source (YieldsList-from_first (λ a. a) arcs_left _ c.arcs_of.ensures.gives))
    c.map.ensures.closure (λ x r q k. search (rules, tests)))
    (search (lit_fits, long, rules))

pub returns : goal.returns
unfolding lit_shots
returns c =
    sum_by_from_yields_List lit_of (arcs c.args.step.0 (active_of c.args.plan)) _ _ c.sum.ensures.ran
    (YieldsList-from_map _ lit_of (YieldsList-at c.map.ensures.source (YieldsList-from_first (λ a. a) arcs_left _ c.arcs_of.ensures.gives))
    c.map.ensures.closure (λ x r q k. search (rules, tests)))
    ∙ lit_sum (arcs c.args.step.0 (active_of c.args.plan))
