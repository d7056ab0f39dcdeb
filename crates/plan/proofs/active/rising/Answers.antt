use Rattle.std.proofs.Common.{rules, ltb}
use Rattle.std.proofs.lemmas.List.Sorted.{answers_always}
use Rattle.plan.specs.Sectors.{stop_of}
use Rattle.plan.proofs.Actives.{rising_is}
use Rattle.plan.proofs.active.rising.Goals as goal

pub returns-then-not-is_empty : goal.returns-then-not-is_empty
returns-then-not-is_empty c =
    rising_is _ _ c.active_sectors-sectors.ensures.lends _
    (c.is_sorted_by.ensures.cases (λ s t. ltb (stop_of s) (stop_of t)) (answers_always _ _ _ (λ f a r g h. search rules)))
    (search rules)
