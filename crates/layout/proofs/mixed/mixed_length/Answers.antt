use borrow.Author.Rules.{rules}
use native.Mathlib.Omega.{arith}
use Rattle.layout.proofs.MixedLengths.{contour_short, mixed_is}
use Rattle.layout.proofs.mixed.mixed_length.Goals as goal

pub overflow_add-result : goal.overflow_add-result
overflow_add-result c = record { fits = omega (arith, contour_short _ _ _ _ c.profile_length-contour.ensures (search rules) (search rules)) }

pub overflow_add-result-2 : goal.overflow_add-result-2
overflow_add-result-2 c = record { fits = omega (arith, contour_short _ _ _ _ c.profile_length-contour.ensures (search rules) (search rules)) }

pub overflow_add-result-3 : goal.overflow_add-result-3
overflow_add-result-3 c = record { fits = omega (arith, contour_short _ _ _ _ c.profile_length-contour.ensures (search rules) (search rules)) }

pub returns : goal.returns
returns c = search mixed_is
