-- `all_reflectors`: the reflectors that were read are within the words.
use mathlib.Core.Path.{refl}
use native.Mathlib.Omega.{arith}
use Rattle.reader.proofs.ReflectorPlaces.{reflectors_inside, reflectors_lent, no_readings_lent}
use Rattle.reader.proofs.reflectors.all_reflectors.Goals as goal

pub returns-in_default : goal.returns-in_default
returns-in_default c = no_readings_lent _ _ c.in_default.ensures _ refl refl

pub overflow_mul-end : goal.overflow_mul-end
overflow_mul-end c = omega (arith, reflectors_inside _ _ c.in-Ok.ensures _ c.unwrap_or.ensures)

pub overflow_add-end : goal.overflow_add-end
overflow_add-end c = omega (arith, reflectors_inside _ _ c.in-Ok.ensures _ c.unwrap_or.ensures)

pub offset_bounds-words-start : goal.offset_bounds-words-start
offset_bounds-words-start c = omega (arith, reflectors_inside _ _ c.in-Ok.ensures _ c.unwrap_or.ensures)

pub slice_bounds-result-end-2 : goal.slice_bounds-result-end-2
slice_bounds-result-end-2 c = omega (arith, reflectors_inside _ _ c.in-Ok.ensures _ c.unwrap_or.ensures)

pub returns : goal.returns
returns c = reflectors_lent _ _ c.in-Ok.ensures _ c.unwrap_or.ensures _ refl refl
