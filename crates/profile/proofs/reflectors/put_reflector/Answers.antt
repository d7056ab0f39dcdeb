use Rattle.words.proofs.Puts.{put_5}
use Rattle.profile.proofs.Reflecting.{by_parts}
use Rattle.profile.proofs.reflectors.put_reflector.Goals as goal

pub returns : goal.returns
returns c =
    let parts = by_parts c.args.mask c.args.words.now in
    let room = rw (← parts) at c.requires.room in
    rw (← parts) (search (put_5, room))
