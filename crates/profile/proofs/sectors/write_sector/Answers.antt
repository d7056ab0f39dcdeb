use Rattle.profile.proofs.Writing.{sector_done}
use Rattle.profile.proofs.sectors.write_sector.Goals as goal

pub returns : goal.returns
returns c =
    sector_done c.requires c.shot_time-tstart.ensures c.shot_time-tend.ensures c.put_opening-at.ensures c.write_points-n.ensures
    c.put_closing.ensures
