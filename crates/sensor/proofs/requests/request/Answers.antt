use Rattle.std.proofs.lemmas.Result.{err_from_is_err_and}
use Rattle.sensor.proofs.Answering.{turned_down, answered}
use Rattle.sensor.proofs.requests.request.Goals as goal

pub returns-in_err-admit : goal.returns-in_err-admit
returns-in_err-admit c =
    let p = err_from_is_err_and c.from_residual.result c.from_residual.ensures.1 in
    rw (p.1, p.2) (turned_down _ _ _ _ c.in_err-admit.ensures)

pub returns : goal.returns
returns c = answered _ _ _ c.in_ok-admit.ensures _ c.serve_words.ensures _ _ (c.deliver.ensures _)
