-- The points of a whole profile are the run's shots of function 3, all of them and in order.
use mathlib.Core.Path.{◌≡◌, refl, sym, ap, ◌∙◌}
use mathlib.Core.Bool.{Bool, true, false}
use mathlib.Core.List.{List, [], ◌∷◌, ◌++◌, append_assoc}
use Prim.Native.Nat.{ℕ, zero, suc, ◌+◌, ◌<◌}
use native.Mathlib.Nat.{add-zero, add-suc, suc-add, zero-mul, suc-mul}
use native.Mathlib.Omega.{arith}
use lib.Dec.{eqb}
use lib.ListN.{length, get_or}
use borrow.Author.Tests.{eqb-true}
use Rattle.std.specs.Prelude.{if◌then◌else◌}
use Rattle.words.specs.Words.{laid_all}
use Rattle.words.specs.Buffers.{in_turn}
use Rattle.words.proofs.Puts.{turn_first, turns_same}
use Rattle.units.specs.Directions.{circle, step_after, steps_past}
use Rattle.layout.specs.MixedMasks.{mixed_number}
use Rattle.plan.specs.declared.Sector.{Sector}
use Rattle.plan.specs.Sectors.{stop_of, active_of}
use Rattle.plan.specs.Shots.{Shot, last_stop, shots_of, arc_of, arcs_from, shots, sweeps}
use Rattle.plan.proofs.Runs.{shots_length}
use Rattle.profile.specs.Points.{point_words}
use Rattle.profile.specs.Profiles.{Scan, points_of, sectors_of, rate_of}
use Rattle.profile.specs.Demands.{measured_from, AllPoints, MixedAllPoints}

-- the words of a shot, by its number and its direction
abbrev words_at : ℕ → Scan → ℕ → ℕ → List ℕ
words_at mask g k direction = point_words mask (get_or g.distances k 0) direction (get_or g.echoes k 0)

-- those of one shot
abbrev one : ℕ → Scan → ℕ → Shot → List ℕ
one mask g k x = if eqb x.function 3 then words_at mask g k x.direction else []

-- the shots of a list, and then those of another
measured_append : (mask : ℕ) (g : Scan) (k : ℕ) (xs ys : List Shot)
    → measured_from mask g k (xs ++ ys) ≡ measured_from mask g k xs ++ measured_from mask g (k + length xs) ys
measured_append mask g k [] ys = rw add-zero
measured_append mask g k (x ∷ xs) ys =
    let e : k + suc (length xs) ≡ suc k + length xs = omega arith in
    rw (measured_append mask g (suc k) xs ys, e)
    (sym (append_assoc (one mask g k x) (measured_from mask g (suc k) xs) (measured_from mask g (suc k + length xs) ys)))

-- shots of function 3, each a step after the one before, are points of one arc
measured_turns : (mask step : ℕ) (g : Scan) (n k d : ℕ) → d < circle
    → measured_from mask g k (shots step 3 d n) ≡ in_turn (λ i. words_at mask g (k + i) (steps_past step i d)) n
unfolding in_turn
measured_turns mask step g zero k d h = refl
measured_turns mask step g (suc n) k d h =
    let here : steps_past step 0 d ≡ d = rw zero-mul (omega arith) in
    let next : (i : ℕ) → steps_past step i (step_after step d) ≡ steps_past step (suc i) d = λ i. rw suc-mul (omega arith) in
    let rest = measured_turns mask step g n (suc k) (step_after step d) (omega arith) in
    let same =
    turns_same (λ i. words_at mask g (suc k + i) (steps_past step i (step_after step d))) (λ i. words_at mask g (k + suc i) (steps_past step (suc i) d)) n
    (λ i _. rw (next, suc-add, add-suc)) in
    rw (turn_first, add-zero, here) (ap (λ (ws : List ℕ). words_at mask g k d ++ ws) (rest ∙ same))

-- shots of another function are none
measured_none : (mask step : ℕ) (g : Scan) (f n k d : ℕ) → eqb f 3 ≡ false → measured_from mask g k (shots step f d n) ≡ []
measured_none mask step g f zero k d e = refl
measured_none mask step g f (suc n) k d e = rw e (measured_none mask step g f n (suc k) (step_after step d) e)

-- one sector: its points are the shots of function 3 of its sweep
sector_shots : (mask step before shot : ℕ) (g : Scan) (s : Sector)
    → points_of mask step g (arc_of step before shot s)
    ≡ measured_from mask g shot (shots step s.function (step_after step before) (shots_of step before s))
unfolding points_of in_turn
sector_shots mask step before shot g s = of_function s.function (shots_of step before s) (eqb s.function 3) refl
  where
    of_function : (f n : ℕ) (b : Bool) → eqb f 3 ≡ b
        → in_turn (λ i. words_at mask g (shot + i) (steps_past step i (step_after step before))) (if b then n else 0)
        ≡ measured_from mask g shot (shots step f (step_after step before) n)
    of_function f n true e = rw (eqb-true f 3 e) (sym (measured_turns mask step g n shot (step_after step before) (omega arith)))
    of_function f n false e = sym (measured_none mask step g f n shot (step_after step before) e)

all_shots : (mask step rate number before shot : ℕ) (g : Scan) (ss : List Sector)
    → laid_all (λ f. f.body) (sectors_of mask step rate g number (arcs_from step before shot ss))
    ≡ measured_from mask g shot (sweeps step (arcs_from step before shot ss))
all_shots mask step rate number before shot g [] = refl
all_shots mask step rate number before shot g (s ∷ ss) =
    let n = shots_of step before s in
    rw (
      measured_append mask g shot (shots step s.function (step_after step before) n) _,
      shots_length step n (step_after step before) s.function,
      sector_shots mask step before shot g s,
      all_shots mask step rate (suc number) (stop_of s) (shot + n) g ss,
    )

pub all_points : AllPoints
all_points s g mask sent counter =
    all_shots mask s.step.0 (rate_of s) 0 (last_stop 0 (active_of s.working)) 0 g (active_of s.working)

pub mixed_all_points : MixedAllPoints
mixed_all_points s g high low sent counter = all_points s g (mixed_number high low) sent counter
