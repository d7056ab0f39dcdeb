use Rattle.words.proofs.Puts.{put_both}
use Rattle.profile.proofs.sectors.put_closing.Goals as goal

pub returns : goal.returns
returns c = search put_both
