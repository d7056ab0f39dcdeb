use Rattle.layout.proofs.MixedLengths.{width_is}
use Rattle.layout.proofs.mixed.reflector_width.Goals as goal

pub returns : goal.returns
returns c = search width_is
