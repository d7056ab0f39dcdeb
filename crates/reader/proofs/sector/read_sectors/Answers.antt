-- `read_sectors`: the loop keeps `SoFar`, and each turn and way out is by its law.
use borrow.Author.Rules.{rules}
use Rattle.reader.proofs.Loops.{all_read, cut_off, turns}
use Rattle.reader.proofs.sector.read_sectors.Goals as goal

-- the words end in a sector, which is the last one begun
pub returns-in_default : goal.returns-in_default
returns-in_default c = search (cut_off, rules)

pub loop-k-preserved : goal.loop-k-preserved
loop-k-preserved c = search turns

pub returns : goal.returns
returns c = search all_read
