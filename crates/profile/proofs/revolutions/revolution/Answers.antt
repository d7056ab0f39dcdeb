-- What a state and lists that are not refused give, and each way out by its law.
use borrow.Author.Rules.{rules}
use Rattle.std.proofs.lemmas.Result.{err_from_is_err_and}
use Rattle.words.proofs.Arrays.{long}
use Rattle.profile.proofs.Sending.{send_turn, refuses, accepted, no_profile, with_profile}
use Rattle.profile.proofs.revolutions.revolution.Goals as goal

pub returns-in_err-admit : goal.returns-in_err-admit
returns-in_err-admit c =
    let p = err_from_is_err_and c.from_residual.result c.from_residual.ensures.1 in
    rw (p.1, p.2) (refuses _ _ _ c.in_err-admit.ensures)

pub returns-then-not-is_job : goal.returns-then-not-is_job
returns-then-not-is_job c = no_profile _ _ c.in_ok-admit.ensures c.is_job.ensures c.if-not-is_job.true c.turn.ensures

pub sent_after-requires : goal.sent_after-requires
sent_after-requires c = send_turn (accepted _ _ c.in_ok-admit.ensures (search (long, rules)))

pub send-requires : goal.send-requires
send-requires c = accepted _ _ c.in_ok-admit.ensures (search (long, rules))

pub returns : goal.returns
returns c =
    with_profile _ _ c.in_ok-admit.ensures c.is_job.ensures c.if-not-is_job.false c.mask_of.ensures c.sent_after.ensures c.send.ensures
