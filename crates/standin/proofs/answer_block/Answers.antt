use Rattle.std.proofs.Common.{arith}
use Rattle.dialogue.proofs.Talking.{taken_rest, said_rest, taken_some}
use Rattle.standin.proofs.answer_block.Goals as goal

pub overflow_add-taken : goal.overflow_add-taken
overflow_add-taken c = omega (arith, taken_rest _ _ c.args.bytes.now c.loop-said.taken _ _ _ c.in-Some.ensures c.loop-said.invariant.0)

pub overflow_add-filled : goal.overflow_add-filled
overflow_add-filled c = omega (arith, said_rest _ _ _ c.loop-said.text c.loop-said.filled _ _ c.in-Some.ensures (omega arith))

pub loop-said-smaller : goal.loop-said-smaller
loop-said-smaller c =
    omega (
      arith,
      taken_rest _ _ c.args.bytes.now c.loop-said.taken _ _ _ c.in-Some.ensures c.loop-said.invariant.0,
      taken_some _ _ _ _ _ _ c.in-Some.ensures,
    )

pub loop-said-preserved : goal.loop-said-preserved
loop-said-preserved c = (
  taken_rest _ _ c.args.bytes.now c.loop-said.taken _ _ _ c.in-Some.ensures c.loop-said.invariant.0,
  omega (arith, said_rest _ _ _ c.loop-said.text c.loop-said.filled _ _ c.in-Some.ensures (omega arith)),
)
