use Rattle.words.proofs.Puts.{room_first, put_both}
use Rattle.profile.specs.Points.{point_words}
use Rattle.profile.proofs.points.put_point.Goals as goal

pub returns : goal.returns
unfolding point_words
returns c = search (room_first, put_both)
