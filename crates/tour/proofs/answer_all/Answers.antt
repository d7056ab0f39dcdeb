use Rattle.std.proofs.Common.{arith}
use Rattle.dialogue.proofs.Talking.{said_part, said_lent, taken_rest, taken_some}
use Rattle.tour.proofs.answer_all.Goals as goal

pub slice_bounds-text-end : goal.slice_bounds-text-end
slice_bounds-text-end c = said_part _ _ _ _ _ _ c.in-Some.ensures

pub slice_bounds-write_all-end : goal.slice_bounds-write_all-end
slice_bounds-write_all-end c = said_lent _ _ _ _ _ _ c.in-Some.ensures

pub overflow_add-at : goal.overflow_add-at
overflow_add-at c = omega (arith, taken_rest _ _ c.args.bytes.now c.loop-said.at _ _ _ c.in-Some.ensures c.loop-said.invariant)

pub loop-said-smaller : goal.loop-said-smaller
loop-said-smaller c =
    omega (
      arith,
      taken_rest _ _ c.args.bytes.now c.loop-said.at _ _ _ c.in-Some.ensures c.loop-said.invariant,
      taken_some _ _ _ _ _ _ c.in-Some.ensures,
    )

pub loop-said-preserved : goal.loop-said-preserved
loop-said-preserved c = taken_rest _ _ c.args.bytes.now c.loop-said.at _ _ _ c.in-Some.ensures c.loop-said.invariant
