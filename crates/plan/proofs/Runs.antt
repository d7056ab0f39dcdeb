-- The run of sectors without the arcs' shot numbers: how its shots follow one another, and that one revolution has N of them.
use mathlib.Core.Path.{◌≡◌, refl, sym, ap, ◌∙◌}
use mathlib.Core.List.{List, [], ◌∷◌, ◌++◌}
use Prim.Native.Nat.{ℕ, zero, suc, ◌+◌, ◌*◌}
use native.Mathlib.Nat.{zero-add, suc-add, div-mul_cancel, eq_of_mul-eq-mul_right}
use native.Mathlib.Omega.{arith}
use lib.Dec.{T}
use lib.ListN.{length, length-append}
use Rattle.words.specs.Lists.{some}
use Rattle.units.specs.Directions.{circle, step_after, revolution_shots}
use Rattle.plan.specs.declared.Sector.{Sector}
use Rattle.plan.specs.Sectors.{stop_of}
use Rattle.plan.specs.Validity.{Valid}
use Rattle.plan.specs.Shots.{Shot, last_stop, shots_of, arcs_from, shots, sweeps, run}
use Rattle.plan.proofs.Grids.{Divides, Grid, on, span, span_around}
use Rattle.plan.proofs.FineSectors.{Fine, done, more, fine_of, last_above, last_grid}

-- the shots of a sector, from the stop before it
abbrev pub swept : ℕ → ℕ → Sector → List Shot
swept step b s = shots step s.function (step_after step b) (shots_of step b s)

-- the shots of sectors, from the stop before them: a run without the arcs' shot numbers
abbrev pub run_from : ℕ → ℕ → List Sector → List Shot
run_from step b [] = []
run_from step b (s ∷ ss) = swept step b s ++ run_from step (stop_of s) ss

pub arcs_run : (step b k : ℕ) (ss : List Sector) → sweeps step (arcs_from step b k ss) ≡ run_from step b ss
arcs_run step b k [] = refl
arcs_run step b k (s ∷ ss) = ap (λ (l : List Shot). swept step b s ++ l) (arcs_run step (stop_of s) (k + shots_of step b s) ss)

pub run_is : (step : ℕ) (ss : List Sector) → run step ss ≡ run_from step (last_stop 0 ss) ss
run_is step ss = arcs_run step (last_stop 0 ss) 0 ss

pub shots_append : (step n m d f : ℕ) → shots step f d (n + m) ≡ shots step f d n ++ shots step f (on step d n) m
unfolding on
shots_append step zero m d f = rw zero-add
shots_append step (suc n) m d f =
    rw suc-add (ap (λ (l : List Shot). record { direction = d; function = f } ∷ l) (shots_append step n m (step_after step d) f))

pub shots_length : (step n d f : ℕ) → length (shots step f d n) ≡ n
shots_length step zero d f = refl
shots_length step (suc n) d f = ap suc (shots_length step n (step_after step d) f)

pub run_more : (step b : ℕ) (s : Sector) (ss : List Sector)
    → length (run_from step b (s ∷ ss)) ≡ shots_of step b s + length (run_from step (stop_of s) ss)
run_more step b s ss =
    length-append (swept step b s) (run_from step (stop_of s) ss)
    ∙ ap (λ (n : ℕ). n + length (run_from step (stop_of s) ss)) (shots_length step _ (step_after step b) s.function)

module _ (step : ℕ) (v : Divides step) where
  -- one revolution has N shots
  rest_length : {b : ℕ} {ss : List Sector} → Grid step b → Fine step (suc b) ss → length (run_from step b ss) * step + b ≡ last_stop b ss
  rest_length g done = omega arith
  rest_length {b} g (more {s = s} {ss = ss} f a k r) = rw run_more (omega (arith, span step v b (stop_of s) g k a, rest_length k r))

  whole_length : {low : ℕ} {ss : List Sector} → T (some ss) → Fine step low ss → length (run_from step (last_stop 0 ss) ss) * step ≡ circle
  whole_length t done = absurd t
  whole_length t (more {s = s} {ss = ss} f a k r) =
      rw run_more (omega (arith, span_around step v (last_stop (stop_of s) ss) (stop_of s) (last_grid step k r) k (last_above step r), rest_length k r))

  pub run_length : (ss : List Sector) → Valid step ss → length (run step ss) ≡ revolution_shots step
  run_length ss w =
      ap length (run_is step ss)
      ∙ eq_of_mul-eq-mul_right step v.positive _ _ (whole_length w.at_least_one (fine_of step w) ∙ sym (div-mul_cancel step v.around))
