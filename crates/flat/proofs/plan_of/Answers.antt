use mathlib.Core.Path.{refl}
use native.Mathlib.Omega.{arith}
use Rattle.flat.specs.Plans.{entry_of}
use Rattle.flat.proofs.Eight.{eight}
use Rattle.flat.proofs.plan_of.Goals as goal

pub returns : goal.returns
returns c =
    let i = c.loop-k.invariant in
    rw (eight c.loop-k.sectors (entry_of c.args.plan.now) i.0 (λ n h. i.1 n (omega arith))) refl
