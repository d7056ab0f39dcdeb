-- The directions of a sector's points by adding, lap by lap. A lap is the points that come before 5760 is reached.
use mathlib.Core.Path.{◌≡◌, sym, ap, ◌∙◌}
use mathlib.Core.List.{List}
use Prim.Native.Nat.{ℕ, suc, ◌+◌, ◌-◌, ◌*◌, ◌%◌, ◌≤◌, ◌<◌}
use native.Mathlib.Nat.{suc-mul, add-mul}
use native.Mathlib.Nat.{mod-mod, mod-add-mod, add-mod-mod, mod-eq_of_lt}
use native.Mathlib.Omega.{arith}
use lib.ListN.{get_or}
use Rattle.words.specs.Buffers.{Put, in_turn}
use Rattle.words.proofs.Puts.{turns_none, turn_more, put_then}
use Rattle.units.specs.Directions.{circle, steps_past}
use Rattle.plan.specs.declared.Arc.{Arc}
use Rattle.profile.specs.Points.{point_words}
use Rattle.profile.specs.Profiles.{Scan, point_at}

one_more : (n step : ℕ) → 1 ≤ n → n * step ≡ (n - 1) * step + step
one_more n step h =
    let e : n ≡ suc (n - 1) = omega arith in
    ap (λ (m : ℕ). m * step) e ∙ suc-mul (n - 1) step

-- `write_points`, within a lap: point i and all that follow up to the lap's end lie before 5760
pub record Lap (step direction i end : ℕ) : Type 0 where
  pub ahead : i ≤ end
  pub below : direction + (end - i) * step < circle + step

module _ {step direction i end : ℕ} (lap : Lap step direction i end) (more : i < end) where
  next : (end - i) * step ≡ (end - (i + 1)) * step + step
  next =
      let e : end - i - 1 ≡ end - (i + 1) = omega arith in
      rw e at (one_more (end - i) step (omega arith))

  pub in_lap : direction < circle
  in_lap = omega (arith, lap.below, next)

  pub lap_on : Lap step (direction + step) (i + 1) end
  lap_on = record { ahead = omega arith; below = omega (arith, lap.below, next) }

-- the points before point i stand in the buffer, and its direction is carried, 5760 taken off it or not yet
pub record SoFar (mask step : ℕ) (g : Scan) (a : Arc) (d₀ d : List ℕ) (to carried i : ℕ) : Type 0 where
  pub put : Put (in_turn (point_at mask step g a) i) d₀ 0 d to
  pub here : carried % circle ≡ steps_past step i a.first.0

module _ {mask step : ℕ} {g : Scan} {a : Arc} where
  pub none_so_far : {d : List ℕ} {direction : ℕ} → direction ≡ steps_past step 0 a.first.0 → SoFar mask step g a d d 0 direction 0
  none_so_far e = record { put = turns_none _ _ _; here = rw (e, mod-mod) }

  module _ {d₀ d : List ℕ} {to direction i : ℕ} (s : SoFar mask step g a d₀ d to direction i) where
    pub carried : direction < circle → direction ≡ steps_past step i a.first.0
    carried h = sym (mod-eq_of_lt h) ∙ s.here

    pub one_on : (by : ℕ) → by ≡ step % circle → direction < circle → {d' : List ℕ} {r : ℕ}
        → Put (point_words mask (get_or g.distances (a.shot + i) 0) direction (get_or g.echoes (a.shot + i) 0)) d to d' r
        → SoFar mask step g a d₀ d' r (direction + by) (i + 1)
    one_on by e h p =
        record {
          put = rw turn_more (put_then (omega arith) s.put (rw (carried h) at p));
          here = rw (e, add-mod-mod, ← mod-add-mod direction circle step, s.here, mod-add-mod) (ap (λ (n : ℕ). n % circle) (rw add-mul (omega arith)));
        }
