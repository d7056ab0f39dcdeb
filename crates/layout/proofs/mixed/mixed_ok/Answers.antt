use mathlib.Core.Path.{ap}
use mathlib.Core.Bool.{not}
use Rattle.layout.proofs.MixedTests.{not_plain, reserved_set, with_number, without_number}
use Rattle.layout.proofs.mixed.mixed_ok.Goals as goal

pub returns-then-not-mask_ok : goal.returns-then-not-mask_ok
returns-then-not-mask_ok c = search not_plain

pub returns-then-has_bit : goal.returns-then-has_bit
returns-then-has_bit c = search reserved_set

pub returns-then-has_bit-2 : goal.returns-then-has_bit-2
returns-then-has_bit-2 c = with_number _ _ c.mask_ok.ensures (ap not c.if-not-mask_ok.false) _
    c.has_bit.ensures c.if-has_bit.false _ c.has_bit-2.ensures
    c.ranges.mask.fits c.if-has_bit-2.true

pub returns : goal.returns
returns c = without_number _ _ c.mask_ok.ensures (ap not c.if-not-mask_ok.false) _
    c.has_bit.ensures c.if-has_bit.false _ c.has_bit-2.ensures
    c.ranges.mask.fits c.if-has_bit-2.false
