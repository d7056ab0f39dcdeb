-- `read`: each way out by its law.
use mathlib.Core.Path.{◌≡◌, sym}
use lib.ListN.{length}
use borrow.Author.Rules.{rules}
use Rattle.std.proofs.lemmas.Result.{err_from_is_err_and}
use Rattle.layout.specs.declared.Kind.{Kind}
use Rattle.reader.specs.declared.ReadRefusal.TheVariants.{EndsEarly}
use Rattle.reader.proofs.Errors.{kept, made}
use Rattle.reader.proofs.Heads.{head_long, head_has, head_few}
use Rattle.reader.proofs.Readouts.{refused_head, body_cut, body_over, body_whole}
use Rattle.reader.proofs.body.read.Goals as goal

pub returns-in_err-check_head : goal.returns-in_err-check_head
returns-in_err-check_head c =
    let p = err_from_is_err_and c.from_residual.result c.from_residual.ensures.1 in
    rw (p.1, p.2) (refused_head _ _ c.in_err-check_head.ensures)

pub bounds-words-1 : goal.bounds-words-1
bounds-words-1 c = search (rules, head_has Kind.Plain _ (sym c.in_ok-check_head.ensures))

pub bounds-words-2 : goal.bounds-words-2
bounds-words-2 c = search (rules, head_has Kind.Plain _ (sym c.in_ok-check_head.ensures))

pub read_contour-requires : goal.read_contour-requires
read_contour-requires c = (head_long Kind.Plain _ (sym c.in_ok-check_head.ensures), head_few Kind.Plain _ (sym c.in_ok-check_head.ensures))

pub returns-in_err-contour : goal.returns-in_err-contour
returns-in_err-contour c =
    let p = made _ c.read_contour.result c.map_err.ensures.cases c.in_err-contour.was c.from_residual-in_err-contour.ensures.1 in
    let cut = rw p.1 at c.read_contour.ensures in
    let s : c.in_err-contour.field-0.0 ≡ EndsEarly (length c.args.words.now) p.0 = search (rules, p.2) in
    rw (p.3, s) (search (body_cut, c.in_ok-check_head.ensures, cut))

pub returns-then-next-words : goal.returns-then-next-words
returns-then-next-words c =
    let whole = rw (kept _ c.read_contour.result c.map_err.ensures.cases c.in_ok-contour.was) at c.read_contour.ensures in
    search (body_over, c.in_ok-check_head.ensures, whole)

pub returns : goal.returns
returns c =
    let whole = rw (kept _ c.read_contour.result c.map_err.ensures.cases c.in_ok-contour.was) at c.read_contour.ensures in
    search (body_whole, c.in_ok-check_head.ensures, whole)
