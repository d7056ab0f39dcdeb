-- `write_by`: the head, the contour and the end, each by its law.
use native.Mathlib.Omega.{arith}
use Rattle.profile.proofs.ByMask.{few_sectors, head_asked, contour_asked, end_asked, by_done}
use Rattle.profile.proofs.by_mask.write_by.Goals as goal

pub overflow_cast-active_count : goal.overflow_cast-active_count
overflow_cast-active_count c = let h = few_sectors c.requires c.active_count.ensures c.mask_number-number.ensures in
    omega arith

pub put_head_by-a-requires : goal.put_head_by-a-requires
put_head_by-a-requires c = head_asked c.requires c.active_count.ensures c.mask_number-number.ensures

pub write_contour-b-requires : goal.write_contour-b-requires
write_contour-b-requires c = contour_asked c.requires c.active_count.ensures c.mask_number-number.ensures c.put_head_by-a.ensures _
    c.layer_of-layer.ensures

pub put_end_by-requires : goal.put_end_by-requires
put_end_by-requires c = end_asked c.requires c.active_count.ensures c.mask_number-number.ensures c.put_head_by-a.ensures c.layer_of-layer.ensures
    c.write_contour-b.ensures

pub returns : goal.returns
returns c = by_done c.requires c.active_count.ensures c.mask_number-number.ensures c.put_head_by-a.ensures c.layer_of-layer.ensures
    c.write_contour-b.ensures c.put_end_by.ensures
