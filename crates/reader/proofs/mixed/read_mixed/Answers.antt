-- `read_mixed`: what the contour gives, then the word of bit 16 and the reflectors, by each way out.
use mathlib.Core.Path.{◌≡◌, sym}
use lib.ListN.{length}
use native.Mathlib.Omega.{arith}
use borrow.Author.Rules.{rules}
use Rattle.std.proofs.lemmas.Result.{err_from_is_err_and}
use Rattle.layout.specs.declared.Kind.{Kind}
use Rattle.reader.specs.declared.MixedPart.TheVariants.{Contour}
use Rattle.reader.specs.declared.ReadRefusal.TheVariants.{EndsEarly}
use Rattle.reader.proofs.Errors.{kept, made}
use Rattle.reader.proofs.Heads.{head_long, head_has, head_few}
use Rattle.reader.proofs.MixedReadouts.{mixed_refused_head, contour_cut, count_cut, number_over, some_width}
use Rattle.reader.proofs.MixedReadouts.{reflector_cut, reflectors_over, mixed_body_whole}
use Rattle.reader.proofs.mixed.read_mixed.Goals as goal

pub returns-in_err-check_head : goal.returns-in_err-check_head
returns-in_err-check_head c =
    let p = err_from_is_err_and c.from_residual.result c.from_residual.ensures.1 in
    rw (p.1, p.2) (mixed_refused_head _ _ c.in_err-check_head.ensures)

pub mask_in-mask-requires : goal.mask_in-mask-requires
mask_in-mask-requires c = head_long Kind.Mixed _ (sym c.in_ok-check_head.ensures)

pub bounds-words-3 : goal.bounds-words-3
bounds-words-3 c = search (rules, head_has Kind.Mixed _ (sym c.in_ok-check_head.ensures))

pub read_contour-requires : goal.read_contour-requires
read_contour-requires c = (head_long Kind.Mixed _ (sym c.in_ok-check_head.ensures), head_few Kind.Mixed _ (sym c.in_ok-check_head.ensures))

pub returns-in_err-contour : goal.returns-in_err-contour
returns-in_err-contour c =
    let p = made _ c.read_contour.result c.map_err.ensures.cases c.in_err-contour.was c.from_residual-in_err-contour.ensures.1 in
    let cut = rw p.1 at c.read_contour.ensures in
    let s : c.in_err-contour.field-0.0 ≡ EndsEarly (length c.args.words.now) (Contour p.0) = search (rules, p.2) in
    rw (p.3, s) (search (contour_cut, c.in_ok-check_head.ensures, cut))

pub returns-then-words-start : goal.returns-then-words-start
returns-then-words-start c =
    let whole = rw (kept _ c.read_contour.result c.map_err.ensures.cases c.in_ok-contour.was) at c.read_contour.ensures in
    search (count_cut, c.in_ok-check_head.ensures, whole)

pub returns-then-many-gt-MOST_REFLECTORS : goal.returns-then-many-gt-MOST_REFLECTORS
returns-then-many-gt-MOST_REFLECTORS c =
    let whole = rw (kept _ c.read_contour.result c.map_err.ensures.cases c.in_ok-contour.was) at c.read_contour.ensures in
    search (number_over, c.in_ok-check_head.ensures, whole)

pub nonzero_div-result : goal.nonzero_div-result
nonzero_div-result c = omega (arith, some_width _ _ _ _ c.product-all.ensures c.if-rest-all.true)

pub returns-then-rest-all : goal.returns-then-rest-all
returns-then-rest-all c =
    let whole = rw (kept _ c.read_contour.result c.map_err.ensures.cases c.in_ok-contour.was) at c.read_contour.ensures in
    search (reflector_cut, c.in_ok-check_head.ensures, whole)

pub returns-then-all-rest : goal.returns-then-all-rest
returns-then-all-rest c =
    let whole = rw (kept _ c.read_contour.result c.map_err.ensures.cases c.in_ok-contour.was) at c.read_contour.ensures in
    search (reflectors_over, c.in_ok-check_head.ensures, whole)

pub returns : goal.returns
returns c =
    let whole = rw (kept _ c.read_contour.result c.map_err.ensures.cases c.in_ok-contour.was) at c.read_contour.ensures in
    search (mixed_body_whole, c.in_ok-check_head.ensures, whole)
