use borrow.Author.Rules.{rules}
use Rattle.words.proofs.Arrays.{long}
use Rattle.plan.proofs.ArcSums.{numbers_fit}
use Rattle.plan.proofs.arcs.arcs_of.Goals as goal

pub invariant_of-result : goal.invariant_of-result
invariant_of-result c = record { fits = search (numbers_fit, long, rules) }
