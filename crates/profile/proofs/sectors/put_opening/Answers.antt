use Rattle.words.proofs.Puts.{put_5}
use Rattle.profile.proofs.sectors.put_opening.Goals as goal

pub returns : goal.returns
returns c = search put_5
