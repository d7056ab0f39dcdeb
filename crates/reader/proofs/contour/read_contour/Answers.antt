-- `read_contour`: each way out by its law.
use Rattle.reader.proofs.Ends.{cut_in_head, cut_in_sector, cut_in_senstat, contour_whole}
use Rattle.reader.proofs.Errors.{kept, made}
use Rattle.reader.proofs.contour.read_contour.Goals as goal

pub returns-then-words-layer : goal.returns-then-words-layer
returns-then-words-layer c = search cut_in_head

pub returns-in_err-sectors : goal.returns-in_err-sectors
returns-in_err-sectors c =
    let p = made _ c.read_sectors.result c.map_err.ensures.cases c.in_err-sectors.was c.from_residual.ensures.1 in
    rw (p.3, p.2) (search (cut_in_sector, p.1))

pub returns-then-words-low : goal.returns-then-words-low
returns-then-words-low c = search (cut_in_senstat, kept _ c.read_sectors.result c.map_err.ensures.cases c.in_ok-sectors.was)

pub returns : goal.returns
returns c = search (contour_whole, kept _ c.read_sectors.result c.map_err.ensures.cases c.in_ok-sectors.was)
