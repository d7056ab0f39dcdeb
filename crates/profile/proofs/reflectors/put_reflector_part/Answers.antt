use Rattle.words.proofs.Puts.{put_both}
use Rattle.profile.proofs.reflectors.put_reflector_part.Goals as goal

pub returns : goal.returns
returns c = search put_both
