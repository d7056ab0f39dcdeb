use native.Mathlib.Omega.{arith}
use borrow.Author.Rules.{rules}
use Rattle.units.proofs.Rounding.{by_halves}
use Rattle.units.proofs.times.shot_time.Goals as goal

pub returns : goal.returns
returns c = omega (arith, by_halves c.args.rate c.args.k (search rules))
