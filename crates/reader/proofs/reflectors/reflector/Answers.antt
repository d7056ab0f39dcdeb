-- `reflector`: a reflector that was read is within the words.
use mathlib.Core.Path.{refl}
use native.Mathlib.Omega.{arith}
use Rattle.reader.proofs.ReflectorPlaces.{reflector_inside, reflector_lent, no_reflector_lent, no_reading_lent}
use Rattle.reader.proofs.reflectors.reflector.Goals as goal

pub returns-in_default : goal.returns-in_default
returns-in_default c = no_reading_lent _ _ c.in_default.ensures _ refl refl _

pub overflow_mul-start : goal.overflow_mul-start
overflow_mul-start c = omega (arith, reflector_inside _ _ c.in-Ok.ensures _ c.unwrap_or.ensures _ c.if-place-unwrap_or.true)

pub overflow_add-start : goal.overflow_add-start
overflow_add-start c = omega (arith, reflector_inside _ _ c.in-Ok.ensures _ c.unwrap_or.ensures _ c.if-place-unwrap_or.true)

pub overflow_add-end : goal.overflow_add-end
overflow_add-end c = omega (arith, reflector_inside _ _ c.in-Ok.ensures _ c.unwrap_or.ensures _ c.if-place-unwrap_or.true)

pub offset_bounds-words-start : goal.offset_bounds-words-start
offset_bounds-words-start c = omega (arith, reflector_inside _ _ c.in-Ok.ensures _ c.unwrap_or.ensures _ c.if-place-unwrap_or.true)

pub slice_bounds-result-end-then-place-unwrap_or : goal.slice_bounds-result-end-then-place-unwrap_or
slice_bounds-result-end-then-place-unwrap_or c = omega (arith, reflector_inside _ _ c.in-Ok.ensures _ c.unwrap_or.ensures _ c.if-place-unwrap_or.true)

pub returns-then-place-unwrap_or : goal.returns-then-place-unwrap_or
returns-then-place-unwrap_or c = reflector_lent _ _ c.in-Ok.ensures _ c.unwrap_or.ensures _ _ c.if-place-unwrap_or.true refl refl (omega arith)

pub returns-else-place-unwrap_or : goal.returns-else-place-unwrap_or
returns-else-place-unwrap_or c = no_reflector_lent _ _ c.in-Ok.ensures _ c.unwrap_or.ensures _ _ c.if-place-unwrap_or.false refl refl
