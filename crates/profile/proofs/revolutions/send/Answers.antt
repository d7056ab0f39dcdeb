use Rattle.profile.proofs.Sending.{send_turn, profile_asked, sends_none, sends}
use Rattle.profile.proofs.revolutions.send.Goals as goal

pub returns-then-out-length_by : goal.returns-then-out-length_by
returns-then-out-length_by c = sends_none c.requires _ _ _ c.length_by.ensures c.if-out-length_by.true

pub write_by-count-requires : goal.write_by-count-requires
write_by-count-requires c = profile_asked c.requires _ _ _ _ _ c.length_by.ensures c.if-out-length_by.false

pub turn-requires : goal.turn-requires
turn-requires c = send_turn c.requires

pub returns : goal.returns
returns c = sends c.requires _ _ _ c.length_by.ensures c.turn.ensures c.risen_by_one-counter.ensures c.if-out-length_by.false c.write_by-count.ensures
