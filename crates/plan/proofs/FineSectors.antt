-- Valid sectors as a view to match on, and what it tells of their last stop.
use mathlib.Core.List.{List, [], ◌∷◌}
use Prim.Native.Nat.{ℕ, suc, ◌%◌, ◌≤◌}
use native.Mathlib.Nat.{dvd_of_mod-eq-zero}
use native.Mathlib.Omega.{arith}
use lib.Dec.{T, leb→le, eqb→eq}
use Rattle.words.specs.Lists.{every}
use borrow.Author.Tests.{ltb-true}
use Rattle.words.proofs.Tests.{and_l, and_r, is_true}
use Rattle.units.specs.Directions.{circle, on_circle, is_multiple}
use Rattle.plan.specs.declared.Sector.{Sector}
use Rattle.plan.specs.Sectors.{stop_of, is_function}
use Rattle.plan.specs.Validity.{sector_ok, increases_from, increases, multiples, Valid}
use Rattle.plan.specs.Shots.{last_stop}
use Rattle.plan.proofs.Grids.{Grid}

-- sectors that are valid, but for that there may be none, with stops of at least low: the tests of `Valid` as a view to match on
pub data Fine (step : ℕ) : ℕ → List Sector → Type 0 where
  done : {low : ℕ} → Fine step low []
  more : {low : ℕ} {s : Sector} {ss : List Sector} → T (is_function s.function)
      → low ≤ stop_of s → Grid step (stop_of s) → Fine step (suc (stop_of s)) ss → Fine step low (s ∷ ss)

module _ (step : ℕ) where
  head_grid : (s : Sector) (ss : List Sector) → T (every sector_ok (s ∷ ss)) → T (multiples step (s ∷ ss)) → Grid step (stop_of s)
  head_grid s ss k m =
      let a : T (on_circle (stop_of s)) = search (and_l, and_r) in
      let e : T (is_multiple step (stop_of s)) = search and_l in
      record { whole = dvd_of_mod-eq-zero step (eqb→eq (stop_of s % step) 0 e); below = ltb-true (stop_of s) circle (is_true a) }

  fine_after : (b : ℕ) (ss : List Sector) → T (every sector_ok ss) → T (increases_from b ss) → T (multiples step ss) → Fine step (suc b) ss
  fine_after b [] k h m = done
  fine_after b (s ∷ ss) k h m =
      more {s = s} (search (and_l, and_r)) (leb→le (suc b) (stop_of s) (search and_l)) (head_grid s ss k m)
      (fine_after (stop_of s) ss (search (and_l, and_r)) (search (and_l, and_r)) (search (and_l, and_r)))

  fine : (ss : List Sector) → T (every sector_ok ss) → T (increases ss) → T (multiples step ss) → Fine step 0 ss
  fine [] k h m = done
  fine (s ∷ ss) k h m =
      more {low = 0} {s = s} (search (and_l, and_r)) (omega arith) (head_grid s ss k m)
      (fine_after (stop_of s) ss (search (and_l, and_r)) h (search (and_l, and_r)))

  pub fine_of : {ss : List Sector} → Valid step ss → Fine step 0 ss
  fine_of {ss} v = fine ss v.in_range v.increasing v.whole_steps

  pub last_above : {d : ℕ} {ss : List Sector} → Fine step (suc d) ss → d ≤ last_stop d ss
  last_above done = omega arith
  last_above (more f a g r) = omega (arith, last_above r)

  pub last_grid : {d low : ℕ} {ss : List Sector} → Grid step d → Fine step low ss → Grid step (last_stop d ss)
  last_grid h done = h
  last_grid h (more f a g r) = last_grid g r
