use mathlib.Core.Path.{◌∙◌}
use Rattle.std.proofs.Common.{rules}
use Rattle.std.proofs.lemmas.Iterator.{YieldsList-from_map}
use Rattle.std.proofs.lemmas.Iterator.Consumers.{YieldsList-at, YieldsList-from_first, sum_by_from_yields_List, fits_by_from_yields_list}
use Rattle.words.proofs.Arrays.{long}
use Prim.Native.Nat.{ℕ}
use Rattle.plan.specs.declared.Arc.{Arc}
use Rattle.plan.specs.Sectors.{active_of}
use Rattle.plan.specs.Shots.{arcs}
use Rattle.plan.specs.ArcsLeft.{arcs_left}
use Rattle.profile.proofs.PointSums.{points_sum, points_fit}
use Rattle.profile.proofs.profiles.plan_points.Goals as goal

abbrev points : Arc → ℕ
points a = a.points

pub sum-requires-clause-fits : goal.sum-requires-clause-fits
sum-requires-clause-fits c =
    fits_by_from_yields_list points (arcs c.args.step.0 (active_of c.args.plan)) _ _
    (YieldsList-from_map _ points (YieldsList-at c.map.ensures.source (YieldsList-from_first (λ a. a) arcs_left _ c.arcs_of.ensures.gives))
    c.map.ensures.closure (λ x r q k. search rules))
    (search (points_fit, long, rules))

pub returns : goal.returns
returns c =
    sum_by_from_yields_List points (arcs c.args.step.0 (active_of c.args.plan)) _ _ c.sum.ensures.ran
    (YieldsList-from_map _ points (YieldsList-at c.map.ensures.source (YieldsList-from_first (λ a. a) arcs_left _ c.arcs_of.ensures.gives))
    c.map.ensures.closure (λ x r q k. search rules))
    ∙ points_sum (arcs c.args.step.0 (active_of c.args.plan))
