-- All rows: each part's, one after another.
use mathlib.Core.List.{List, ◌++◌, map-append}
use Rattle.words.specs.Rows.{Row, Shown}
use Rattle.plan.specs.Figures.{plan_rows}
use Rattle.plan.proofs.PlanRows.{plan_figures}
use Rattle.normal.specs.Figures.{normal_rows}
use Rattle.normal.proofs.NormalRows.{normal_figures}
use Rattle.state.specs.Figures.{state_rows}
use Rattle.state.proofs.StateRows.{state_figures}
use Rattle.sensor.specs.Figures.{request_rows}
use Rattle.sensor.proofs.RequestRows.{request_figures}
use Rattle.profile.specs.Figures.{profile_rows, listing_rows}
use Rattle.profile.proofs.ProfileRows.{profile_figures, listing_figures}
use Rattle.reader.specs.Figures.{reader_rows}
use Rattle.reader.proofs.ReaderRows.{reader_figures}
use Rattle.promises.specs.MixedFigures.{mixed_rows}
use Rattle.promises.specs.Figures.{BenchFigures}
use Rattle.promises.proofs.MixedRows.{mixed_figures}

both : (a b : List Row) → Shown a → Shown b → Shown (a ++ b)
both a b h k = rw (map-append (λ (r : Row). r.value) a b, map-append (λ (r : Row). r.figure) a b, h, k)

pub bench_figures : BenchFigures
bench_figures p speed v l m =
    let plans = plan_rows p speed ++ normal_rows p in
    let states = plans ++ state_rows in
    let requests = states ++ request_rows in
    let profiles = requests ++ profile_rows in
    let mixed = profiles ++ mixed_rows in
    let readings = mixed ++ reader_rows in
    let of-plans : Shown plans = both (plan_rows p speed) (normal_rows p) (plan_figures p speed v l m) (normal_figures p) in
    let of-states : Shown states = both plans state_rows of-plans state_figures in
    let of-requests : Shown requests = both states request_rows of-states request_figures in
    let of-profiles : Shown profiles = both requests profile_rows of-requests profile_figures in
    let of-mixed : Shown mixed = both profiles mixed_rows of-profiles mixed_figures in
    both readings listing_rows (both mixed reader_rows of-mixed reader_figures) listing_figures
