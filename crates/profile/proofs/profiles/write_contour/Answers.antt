use Rattle.profile.proofs.WholeProfile.{contour_done}
use Rattle.profile.proofs.profiles.write_contour.Goals as goal

pub returns : goal.returns
returns c =
    contour_done c.requires c.revolution_shots.ensures c.product-rate.ensures c.mode_number.ensures c.put_front-a.ensures
    c.write_sectors-b.ensures c.put_status.ensures
