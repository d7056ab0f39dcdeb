use borrow.Author.Rules.{rules}
use mathlib.Core.Path.{refl}
use Rattle.sensor.proofs.Demand1.{answer_within, answer_counted}
use Rattle.dialogue.proofs.Talking.{unreplied, replied}
use Rattle.dialogue.proofs.talks.answer_words.Goals as goal

pub slice_bounds-out-end : goal.slice_bounds-out-end
slice_bounds-out-end c = answer_within _ _ _ _ _ c.in-Ok.ensures

pub slice_bounds-write_line-end : goal.slice_bounds-write_line-end
slice_bounds-write_line-end c = answer_counted _ _ _ _ _ c.in-Ok.ensures

pub returns-in_err-length-in-Ok : goal.returns-in_err-length-in-Ok
returns-in_err-length-in-Ok c =
    rw c.from_residual.ensures
    (unreplied _ _ _ _ _ _ _ _ (search rules) c.in-Ok.ensures _ refl _ refl _ c.write_line.ensures c.in_err-length-in-Ok.was)

pub returns-in_err-length-in-Err : goal.returns-in_err-length-in-Err
returns-in_err-length-in-Err c =
    rw c.from_residual-in_err-length-in-Err.ensures
    (unreplied _ _ _ _ _ _ _ _ (search rules) c.in-Err.ensures _ c.number.ensures _ refl _ c.write_line-in-Err.ensures
    c.in_err-length-in-Err.was)

pub returns-in_ok-length-in-Ok : goal.returns-in_ok-length-in-Ok
returns-in_ok-length-in-Ok c =
    replied _ _ _ _ _ _ _ _ (search rules) c.in-Ok.ensures _ refl _ refl _ c.write_line.ensures _ c.in_ok-length-in-Ok.was

pub returns-in_ok-length-in-Err : goal.returns-in_ok-length-in-Err
returns-in_ok-length-in-Err c =
    replied _ _ _ _ _ _ _ _ (search rules) c.in-Err.ensures _ c.number.ensures _ refl _ c.write_line-in-Err.ensures _ c.in_ok-length-in-Err.was
