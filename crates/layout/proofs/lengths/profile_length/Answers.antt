use Rattle.layout.proofs.LayoutLengths.{length_is}
use Rattle.layout.proofs.lengths.profile_length.Goals as goal

pub returns : goal.returns
returns c = search length_is
