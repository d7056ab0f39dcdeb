use borrow.Author.Rules.{rules}
use Rattle.words.proofs.Arrays.{long}
use Rattle.normal.proofs.Joining.{starts, at_end, keeps, skips}
use Rattle.normal.proofs.normal.join.Goals as goal
use Rattle.normal.proofs.normal.join.Goals.{then-i-sectors, then-i-sectors-via-then-i-sectors}
use Rattle.normal.proofs.normal.join.Goals.{then-i-sectors-via-else-i-sectors+then-s-sectors, else-i-sectors+else-s-sectors}

pub loop-i-init : goal.loop-i-init
loop-i-init c = starts c.args.plan.sectors _ _ c.active_sectors-sectors.ensures.lends (search (long, rules)) (search rules)

pub loop-i-preserved : goal.loop-i-preserved
loop-i-preserved c =
    elim c.if-i-sectors.branch [
      | then-i-sectors w ↦ elim w.then-i-sectors.branch [
        | then-i-sectors-via-then-i-sectors w' ↦ search (at_end, rules)
        | then-i-sectors-via-else-i-sectors+then-s-sectors w' ↦ search (keeps, rules)
      ]
      | else-i-sectors+else-s-sectors w ↦ search (skips, rules)
    ]
