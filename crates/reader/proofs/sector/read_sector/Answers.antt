-- `read_sector`: the words taken, by each way out.
use native.Mathlib.Omega.{arith}
use Rattle.reader.proofs.SectorPlaces.{start_within, sector_cut, sector_whole}
use Rattle.reader.proofs.sector.read_sector.Goals as goal

pub returns-then-rest-enddir : goal.returns-then-rest-enddir
returns-then-rest-enddir c = search sector_cut

pub overflow_add-sector : goal.overflow_add-sector
overflow_add-sector c =
    omega (
      arith,
      start_within c.args.mask c.args.base c.args.rest.now
          c.take_word-number.ensures c.take_word-step.ensures c.take_word-points.ensures c.take_word-tstart.ensures c.take_word-startdir.ensures,
      c.requires,
    )

pub returns : goal.returns
returns c = search sector_whole
