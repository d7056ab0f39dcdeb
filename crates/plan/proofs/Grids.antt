-- Directions on the grid of a step that divides the circle: the steps from one to another, and the shots of a sector between them.
-- Each fact is shown once, over the step.
use mathlib.Core.Path.{◌≡◌, ◌∙◌}
use Prim.Native.Nat.{ℕ, zero, suc, ◌+◌, ◌-◌, ◌*◌, ◌/◌, ◌%◌, ◌≤◌, ◌<◌, ◌∣◌}
use native.Mathlib.Nat.{dvd-add, dvd-sub, dvd_refl, dvd-zero, le_of_dvd, dvd-mod_iff, dvd_of_mod-eq-zero, div-mul_cancel}
use native.Mathlib.Omega.{arith}
use lib.Dec.{T, leb→le, eqb→eq}
use Rattle.units.specs.Directions.{circle, step_after, shots_to}
use Rattle.words.proofs.Tests.{and_l, and_r}
use Rattle.plan.specs.Sectors.{is_step}

-- what makes a step go round
pub record Divides (step : ℕ) : Type 0 where
  pub positive : 0 < step
  pub around : step ∣ circle

pub divides : {step : ℕ} → T (is_step step) → Divides step
unfolding is_step
divides {step} ok =
    record {
      positive = leb→le 1 step (search (and_l, and_r));
      around = dvd_of_mod-eq-zero step (eqb→eq (circle % step) 0 (search (and_l, and_r)));
    }

-- a direction on the grid of the step
pub record Grid (step d : ℕ) : Type 0 where
  pub whole : step ∣ d
  pub below : d < circle

-- the direction of the shot m steps after the one at d
unfoldable pub on : ℕ → ℕ → ℕ → ℕ
on step d zero = d
on step d (suc m) = on step (step_after step d) m

pub on_is : (step m d : ℕ) → d < circle → on step d m ≡ (d + m * step) % circle
unfolding on
on_is step zero d h = omega arith
on_is step (suc m) d h = on_is step m (step_after step d) (omega arith) ∙ omega arith

pub on_suc : (step m d : ℕ) → d < circle → on step d (suc m) ≡ step_after step (on step d m)
on_suc step m d h = on_is step (suc m) d h ∙ rw (on_is step m d h) (omega arith)

pub zero_grid : (step : ℕ) → Grid step 0
zero_grid step = record { whole = dvd-zero step; below = omega arith }

module _ (step : ℕ) (v : Divides step) where
  after_grid : {d : ℕ} → Grid step d → Grid step (step_after step d)
  after_grid g =
      record { whole = (dvd-mod_iff step v.around).1 (dvd-add step g.whole (dvd_refl step)); below = omega arith }

  -- from the first shot of a sector to its last
  width : {d e : ℕ} → Grid step d → Grid step e → (e + circle - d) % circle / step * step ≡ (e + circle - d) % circle
  width g h = div-mul_cancel step ((dvd-mod_iff step v.around).1 (dvd-sub step (dvd-add step h.whole v.around) g.whole))

  -- a sector ends at its stop
  pub ends : {b e : ℕ} → Grid step b → Grid step e → on step (step_after step b) ((e + circle - step_after step b) % circle / step) ≡ e
  ends {b} g h = on_is step _ (step_after step b) (omega arith) ∙ rw (width (after_grid g) h) (omega arith)

  -- two directions on the grid are a step apart
  apart : (a b : ℕ) → step ∣ a → step ∣ b → a < b → a + step ≤ b
  apart a b g h l = omega (arith, le_of_dvd {n = b - a} (omega arith) (dvd-sub step h g))

  -- how far a sector goes, after the stop before it
  pub span : (b e : ℕ) → Grid step b → Grid step e → b < e → shots_to step (step_after step b) e * step + b ≡ e
  span b e g h l = omega (arith, width (after_grid g) h, apart b e g.whole h.whole l)

  pub span_around : (b e : ℕ) → Grid step b → Grid step e → e ≤ b → shots_to step (step_after step b) e * step + b ≡ e + circle
  span_around b e g h l = omega (arith, width (after_grid g) h, apart b circle g.whole v.around g.below)
