-- Runs and normal forms: the normal form runs as the sectors do, sectors that run alike have the same one, and none with fewer runs so.
-- The shots of a run, each taken as a sector of its own, have the normal form of the sectors: so the run determines it (`of_run`).
use mathlib.Core.Path.{◌≡◌, refl, sym, ap, ◌∙◌}
use mathlib.Core.Logic.{◌⊎◌, inl, inr}
use mathlib.Core.List.{List, ◌∷◌, ◌++◌, map, map-append, append_assoc}
use Prim.Native.Nat.{ℕ, zero, suc, ◌+◌, ◌≤◌, ◌<◌}
use native.Mathlib.Nat.{eq_of_mul-eq-mul_right}
use native.Mathlib.Omega.{arith}
use lib.ListN.{length}
use Rattle.units.specs.Directions.{step_after, shots_to}
use Rattle.plan.specs.declared.Sector.{Sector}
use Rattle.plan.specs.Sectors.{sector, stop_of}
use Rattle.plan.specs.Validity.{Valid}
use Rattle.plan.specs.Shots.{Shot, last_stop, shots_of, shots, run}
use Rattle.normal.specs.NormalForm.{joined, normal}
use Rattle.plan.proofs.Grids.{Divides, Grid, on, on_suc, zero_grid, ends, span, span_around}
use Rattle.plan.proofs.FineSectors.{Fine, done, more, fine_of, last_above, last_grid}
use Rattle.plan.proofs.Runs.{swept, run_from, run_is, shots_append}
use Rattle.normal.proofs.Joins.{Join, before, onto, join_view, absorb}
use Rattle.normal.proofs.NormalSectors.{normal_fine, normal_length, last_normal}

-- a shot as a sector of its own
abbrev one : Shot → Sector
one s = sector s.function s.direction

-- the shots of a sector, as sectors of their own, are joined to the sector
shots_normal : (step m d f : ℕ) (ss : List Sector) → normal (map one (shots step f d (suc m)) ++ ss) ≡ joined (sector f (on step d m)) (normal ss)
unfolding on
shots_normal step zero d f ss = refl
shots_normal step (suc m) d f ss =
    ap (joined (sector f d)) (shots_normal step m (step_after step d) f ss)
    ∙ absorb (sector f d) (sector f (on step (step_after step d) m)) (normal ss) refl

module _ (step : ℕ) (v : Divides step) where
  -- the shots of a run, as sectors of their own, have the normal form of the sectors
  run_normal : {low b : ℕ} {ss : List Sector} → Grid step b → Fine step low ss → normal (map one (run_from step b ss)) ≡ normal ss
  run_normal g done = refl
  run_normal {b = b} g (more {s = s} {ss = ss} f a h r) =
      ap normal (map-append one (swept step b s) (run_from step (stop_of s) ss))
      ∙ shots_normal step _ (step_after step b) s.function (map one (run_from step (stop_of s) ss))
      ∙ ap (λ (d : ℕ). joined (sector s.function d) (normal (map one (run_from step (stop_of s) ss)))) (ends step v g h)
      ∙ ap (joined s) (run_normal h r)

  of_run : (ss : List Sector) → Valid step ss → normal (map one (run step ss)) ≡ normal ss
  of_run ss w = rw run_is (run_normal (last_grid step (zero_grid step) (fine_of step w)) (fine_of step w))

  -- sectors that run alike have the same normal form
  pub same_normal : (ss ts : List Sector) → Valid step ss → Valid step ts → run step ss ≡ run step ts → normal ss ≡ normal ts
  same_normal ss ts w x e = sym (of_run ss w) ∙ ap (λ (l : List Shot). normal (map one l)) e ∙ of_run ts x

  -- none with fewer runs so
  pub fewest : (ss ts : List Sector) → Valid step ss → Valid step ts → run step ts ≡ run step ss → length (normal ss) ≤ length ts
  fewest ss ts w x e = rw (same_normal ss ts w x (sym e)) (normal_length ts)

  -- the shots of two sectors are those of the one that joins them, where e lies between b and t around the circle
  counts : (b e t : ℕ) → Grid step b → Grid step e → Grid step t → e < t → (b < e) ⊎ (t ≤ b)
      → shots_to step (step_after step b) e + shots_to step (step_after step e) t ≡ shots_to step (step_after step b) t
  counts b e t gb ge gt l (inl k) =
      eq_of_mul-eq-mul_right step v.positive _ _ (omega (arith, span step v b e gb ge k, span step v e t ge gt l, span step v b t gb gt (omega arith)))
  counts b e t gb ge gt l (inr k) =
      eq_of_mul-eq-mul_right step v.positive _ _
      (omega (arith, span_around step v b e gb ge (omega arith), span step v e t ge gt l, span_around step v b t gb gt k))

  -- the shots of two sectors of one function are those of the sector that joins them
  swept_both : (b : ℕ) (s t : Sector) → s.function ≡ t.function
      → Grid step b → Grid step (stop_of s) → Grid step (stop_of t) → stop_of s < stop_of t → (b < stop_of s) ⊎ (stop_of t ≤ b)
      → swept step b s ++ swept step (stop_of s) t ≡ swept step b t
  swept_both b s t q gb gs gt l w =
      let d = step_after step b in
      let n = shots_of step b s in
      let m = shots_of step (stop_of s) t in
      ap (λ (f : ℕ). shots step f d n ++ shots step t.function (step_after step (stop_of s)) m) q
      ∙ ap (λ (x : ℕ). shots step t.function d n ++ shots step t.function x m)
      (sym (on_suc step _ d (omega arith) ∙ ap (step_after step) (ends step v gb gs)))
      ∙ sym (shots_append step n m d t.function)
      ∙ ap (shots step t.function d) (counts b (stop_of s) (stop_of t) gb gs gt l w)

  -- where a sector is joined to the next one the run stays
  run_joined : {low : ℕ} (b : ℕ) {s : Sector} {ss r : List Sector} → Join s ss r
      → Grid step b → Fine step low (s ∷ ss) → (b < stop_of s) ⊎ (last_stop (stop_of s) ss ≤ b)
      → run_from step b r ≡ swept step b s ++ run_from step (stop_of s) ss
  run_joined b before g h w = refl
  run_joined b {s} (onto {t = t} {ts = ts} q) g (more f a k (more f₂ a₂ k₂ r)) w =
      ap (λ (l : List Shot). l ++ run_from step (stop_of t) ts) (sym (swept_both b s t q g k k₂ a₂ (reach w)))
      ∙ append_assoc (swept step b s) (swept step (stop_of s) t) (run_from step (stop_of t) ts)
    where
      reach : (b < stop_of s) ⊎ (last_stop (stop_of t) ts ≤ b) → (b < stop_of s) ⊎ (stop_of t ≤ b)
      reach (inl l) = inl l
      reach (inr l) = inr (omega (arith, last_above step r))

  run_first : {low : ℕ} (b : ℕ) {s : Sector} {ss : List Sector}
      → Grid step b → Fine step low (s ∷ ss) → (b < stop_of s) ⊎ (last_stop (stop_of s) ss ≤ b)
      → run_from step (stop_of s) (normal ss) ≡ run_from step (stop_of s) ss → run_from step b (normal (s ∷ ss)) ≡ run_from step b (s ∷ ss)
  run_first b {s} {ss} g (more f a k r) w e =
      run_joined b (join_view s (normal ss)) g (more f a k (normal_fine step r)) (rw last_normal w) ∙ ap (λ (l : List Shot). swept step b s ++ l) e

  rest_runs : {b : ℕ} {ss : List Sector} → Grid step b → Fine step (suc b) ss → run_from step b (normal ss) ≡ run_from step b ss
  rest_runs g done = refl
  rest_runs {b} g (more f a k r) = run_first b g (more f a k r) (inl a) (rest_runs k r)

  all_runs : {low : ℕ} {ss : List Sector} → Fine step low ss → run_from step (last_stop 0 ss) (normal ss) ≡ run_from step (last_stop 0 ss) ss
  all_runs done = refl
  all_runs (more f a k r) = run_first _ (last_grid step k r) (more f a k r) (inr (omega arith)) (rest_runs k r)

  -- the normal form runs as the sectors do
  pub normal_runs : (ss : List Sector) → Valid step ss → run step (normal ss) ≡ run step ss
  normal_runs ss w =
      run_is step (normal ss)
      ∙ ap (λ (d : ℕ). run_from step d (normal ss)) (last_normal 0 ss)
      ∙ all_runs (fine_of step w)
      ∙ sym (run_is step ss)

  pub same_run : (ss ts : List Sector) → Valid step ss → Valid step ts → normal ss ≡ normal ts → run step ss ≡ run step ts
  same_run ss ts w x e = sym (normal_runs ss w) ∙ ap (run step) e ∙ normal_runs ts x
