use Rattle.words.proofs.Puts.{room_first, put_both}
use Rattle.profile.proofs.profiles.put_front.Goals as goal

pub returns : goal.returns
returns c = search (room_first, put_both)
