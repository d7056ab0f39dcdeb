-- The points of a plan's arcs, their sum, and how many arcs there are.
use mathlib.Core.Path.{◌≡◌, refl, ap, ◌∙◌}
use mathlib.Core.Bool.{Bool, true, false}
use mathlib.Core.List.{List, [], ◌∷◌}
use Prim.Native.Nat.{ℕ, ◌+◌, ◌*◌, ◌^◌, ◌≤◌, ◌<◌}
use native.Mathlib.Omega.{arith}
use lib.Dec.{eqb}
use lib.ListN.{length}
use Rattle.std.specs.Prelude.{if◌then◌else◌, sum_by}
use Rattle.std.proofs.lemmas.List.Sums.{sum_by-cons}
use Rattle.units.specs.Directions.{circle, step_after}
use Rattle.units.proofs.ShotCounts.{few}
use Rattle.words.specs.Lists.{Each, none, this, total}
use Rattle.plan.specs.declared.Sector.{Sector}
use Rattle.plan.specs.declared.Plan.{Plan}
use Rattle.plan.specs.declared.Arc.{Arc}
use Rattle.plan.specs.Sectors.{stop_of, active, active_of}
use Rattle.plan.specs.Shots.{last_stop, shots_of, arcs_from, arcs}
use Rattle.plan.proofs.ArcSums.{active_length}

pub if_most : (b : Bool) (n : ℕ) → (if b then n else 0) ≤ n
if_most true n = omega arith
if_most false n = omega arith

-- a sector has no more points than shots
pub points_few : (step before shot : ℕ) (ss : List Sector) → Each (λ a. a.points ≤ a.shots) (arcs_from step before shot ss)
points_few step before shot [] = none
points_few step before shot (s ∷ ss) =
    this (if_most (eqb s.function 3) (shots_of step before s)) (points_few step (stop_of s) (shot + shots_of step before s) ss)

-- the chain of `plan_points`
pub points_sum : (as' : List Arc) → sum_by (λ a. a.points) as' ≡ total (λ a. a.points) as'
points_sum [] = refl
points_sum (a ∷ as') = sum_by-cons (λ (b : Arc). b.points) a as' ∙ ap (λ n. a.points + n) (points_sum as')

points_most : (step before shot : ℕ) (ss : List Sector) → total (λ a. a.points) (arcs_from step before shot ss) ≤ length ss * circle
points_most step before shot [] = omega arith
points_most step before shot (s ∷ ss) =
    omega (
      arith,
      points_most step (stop_of s) (shot + shots_of step before s) ss,
      if_most (eqb s.function 3) (shots_of step before s),
      few step (step_after step before) (stop_of s),
    )

pub points_fit : (p : Plan) (step : ℕ) → length p.sectors ≡ 8 → sum_by (λ a. a.points) (arcs step (active_of p)) < 2 ^ 16
points_fit p step len =
    omega (arith, points_sum (arcs step (active_of p)), points_most step (last_stop 0 (active_of p)) 0 (active_of p), active_length p.sectors)

-- at most eight sectors are active
pub count_fits : (l : List Sector) (n : ℕ) → length l ≡ 8 → n ≡ length (active l) → n ≤ 8
count_fits l n len e = omega (arith, active_length l)

-- so how many they are is a word
pub count_word : (l : List Sector) (n : ℕ) → length l ≡ 8 → n ≡ length (active l) → n < 65536
count_word l n len e = omega (arith, count_fits l n len e)
