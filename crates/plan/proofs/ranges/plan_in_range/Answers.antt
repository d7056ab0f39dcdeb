use mathlib.Core.Path.{refl, ◌∙◌}
use Rattle.std.specs.Slice.Iter.{iter_rest}
use Rattle.std.proofs.Common.{rules, tests}
use Rattle.std.proofs.lemmas.Iterator.{YieldsList-from_slice}
use Rattle.std.proofs.lemmas.Iterator.Search.{all_from_yields_List}
use Rattle.plan.specs.Sectors.{entry_in_range, plan_in_range}
use Rattle.words.proofs.Arrays.{long}
use Rattle.plan.proofs.Actives.{every_of, entries_named}
use Rattle.plan.proofs.ranges.plan_in_range.Goals as goal

pub returns : goal.returns
unfolding plan_in_range
returns c =
    every_of entry_in_range (iter_rest c.iter.result) _
    (all_from_yields_List entry_in_range _ _ c.all.result c.all.ensures.ran (YieldsList-from_slice _ refl) (λ x b q k. search (rules, tests)))
    ∙ rw c.iter.ensures.rest (search (entries_named, long, rules))
