-- One revolution of valid sectors in closed form: N shots, the direction of each, and the function towards it.
use mathlib.Core.Path.{◌≡◌, refl, sym, ap, ◌∙◌}
use mathlib.Core.Bool.{Bool, true, false}
use mathlib.Core.List.{List, ◌∷◌, ◌++◌, map, map-append}
use Prim.Native.Nat.{ℕ, zero, suc, ◌+◌, ◌-◌, ◌*◌, ◌/◌, ◌%◌, ◌≤◌, ◌<◌}
use native.Mathlib.Nat.{add-mul, suc-mul, one-mul, mul-le-mul_right}
use native.Mathlib.Omega.{arith}
use lib.Dec.{leb}
use lib.ListN.{length, get_or, get_or-map}
use borrow.Author.Tests.{le-leb, lt-leb, leb-false}
use Rattle.std.specs.Prelude.{if◌then◌else◌}
use Rattle.words.specs.Lists.{Each, none}
use Rattle.words.proofs.Each.{each_append, each_from, each_at, each_map}
use Rattle.units.specs.Directions.{circle, step_after, revolution_shots}
use Rattle.plan.specs.declared.Sector.{Sector}
use Rattle.plan.specs.Sectors.{unused, stop_of, active_of}
use Rattle.plan.specs.Validity.{Valid}
use Rattle.plan.specs.Shots.{Shot, last_stop, shots_of, arcs_from, arcs, no_arc, shots, run}
use Rattle.plan.specs.Demands.{no_shot, towards, function_of, direction_of, end_of, Revolution}
use Rattle.plan.proofs.Grids.{Divides, divides, Grid, on, on_is, on_suc, zero_grid, ends, span, span_around}
use Rattle.plan.proofs.FineSectors.{Fine, done, more, fine_of, last_above, last_grid}
use Rattle.plan.proofs.Runs.{swept, run_from, run_is, shots_append, shots_length, run_more, run_length}
use Rattle.plan.proofs.Tiling.{shot_at, total_shots}

abbrev dir : Shot → ℕ
dir s = s.direction

-- the directions of shots do not go by their function
directions : (step f n d : ℕ) → map dir (shots step f d n) ≡ map dir (shots step 0 d n)
directions step f zero d = refl
directions step f (suc n) d = ap (λ (l : List ℕ). d ∷ l) (directions step f n (step_after step d))

-- in a direction past every stop the function is that of sector 0
past_all : {step low d f₀ : ℕ} (x : ℕ) {ss : List Sector} → Fine step low ss → last_stop x ss < d → towards d f₀ ss ≡ f₀
past_all x done l = refl
past_all {step} {d = d} x (more {s = s} f a g r) l =
    rw (lt-leb d (stop_of s) (omega (arith, last_above step r))) (past_all (stop_of s) r l)

module _ (step : ℕ) (v : Divides step) where
  -- the directions of sectors follow one another
  run_directions : {low b : ℕ} {ss : List Sector} → Grid step b → Fine step low ss
      → map dir (run_from step b ss) ≡ map dir (shots step 0 (step_after step b) (length (run_from step b ss)))
  run_directions g done = refl
  run_directions {b = b} g (more {s = s} {ss = ss} f a h r) =
      let n = shots_of step b s in
      let m = length (run_from step (stop_of s) ss) in
      map-append dir (swept step b s) (run_from step (stop_of s) ss)
      ∙ ap (λ (l : List ℕ). l ++ map dir (run_from step (stop_of s) ss)) (directions step s.function n (step_after step b))
      ∙ ap (λ (l : List ℕ). map dir (shots step 0 (step_after step b) n) ++ l) (run_directions h r)
      ∙ ap (λ (x : ℕ). map dir (shots step 0 (step_after step b) n) ++ map dir (shots step 0 x m))
      (sym (on_suc step _ (step_after step b) (omega arith) ∙ ap (step_after step) (ends step v g h)))
      ∙ sym (map-append dir (shots step 0 (step_after step b) n) (shots step 0 (on step (step_after step b) n) m))
      ∙ ap (map dir) (sym (shots_append step n m (step_after step b) 0))
      ∙ ap (λ (k : ℕ). map dir (shots step 0 (step_after step b) k)) (sym (run_more step b s ss))

  -- shot i of n: how far it lies past the stop before
  reach : (i n : ℕ) → i < n → (step ≤ suc i * step) × (suc i * step ≤ n * step)
  reach i n h = (rw suc-mul (omega arith), mul-le-mul_right step h)

  -- the shots of a sector lie between the stop before it and its own
  swept_between : (P : Shot → Type 0) (b : ℕ) (s : Sector) → b < circle
      → ((d : ℕ) (far : ℕ) → step ≤ far → far ≤ shots_of step b s * step → d ≡ (b + far) % circle
      → P (record { direction = d; function = s.function }))
      → Each P (swept step b s)
  swept_between P b s l h =
      each_from P no_shot (swept step b s)
      (λ i k. (
      let n = shots_of step b s in
      let j : i < n = rw (shots_length step n (step_after step b) s.function) at k in
      let w = reach i n j in
      let e : (step_after step b + i * step) % circle ≡ (b + suc i * step) % circle = rw suc-mul (omega arith) in
      rw (shot_at step n i (step_after step b) s.function (omega arith) j) (h _ (suc i * step) w.0 w.1 e)
      ))

  -- behind sector 0, each shot lies past the stop before, and has the function towards it
  rest_towards : (f₀ : ℕ) {b : ℕ} {ss : List Sector} → Grid step b → Fine step (suc b) ss
      → Each (λ (x : Shot). (b < x.direction) × (x.function ≡ towards x.direction f₀ ss)) (run_from step b ss)
  rest_towards f₀ g done = none
  rest_towards f₀ {b} g (more {s = s} {ss = ss} f a h r) =
      each_append
      (swept_between _ b s g.below
      (λ d far w k e. (
      let z = span step v b (stop_of s) g h a in
      let p = v.positive in
      (omega arith, rw (le-leb d (stop_of s) (omega arith)))
      )))
      (each_map (λ x h. (omega arith, h.1 ∙ rw (lt-leb x.direction (stop_of s) h.0))) (rest_towards f₀ h r))

  -- sector 0 goes from the last stop round to its own
  zeroth_towards : (s : Sector) {ss : List Sector} → Grid step (stop_of s) → Fine step (suc (stop_of s)) ss
      → Each (λ (x : Shot). x.function ≡ function_of x.direction (s ∷ ss)) (swept step (last_stop (stop_of s) ss) s)
  zeroth_towards s {ss} h r =
      swept_between _ last s (last_grid step h r).below (λ d far w k e. go d far w k e (leb d (stop_of s)) refl)
    where
      last : ℕ
      last = last_stop (stop_of s) ss

      go : (d far : ℕ) → step ≤ far → far ≤ shots_of step last s * step → d ≡ (last + far) % circle → (b : Bool) → leb d (stop_of s) ≡ b
          → s.function ≡ (if b then s.function else towards d s.function ss)
      go d far w k e true q = refl
      go d far w k e false q =
          let z = span_around step v last (stop_of s) (last_grid step h r) h (last_above step r) in
          let p = v.positive in
          let o = leb-false d (stop_of s) q in
          sym (past_all (stop_of s) r (omega arith))

  all_towards : {low : ℕ} {ss : List Sector} → Fine step low ss
      → Each (λ (x : Shot). x.function ≡ function_of x.direction ss) (run_from step (last_stop 0 ss) ss)
  all_towards done = none
  all_towards (more {s = s} {ss = ss} f a h r) =
      each_append (zeroth_towards s h r)
      (each_map (λ x h. h.1 ∙ rw (lt-leb x.direction (stop_of s) h.0)) (rest_towards s.function h r))

  -- a sector ends at its stop
  arc_ends : {low : ℕ} (b k : ℕ) {ss : List Sector} (place : ℕ) → Grid step b → Fine step low ss → place < length ss
      → end_of step (get_or (arcs_from step b k ss) place no_arc) ≡ stop_of (get_or ss place unused)
  arc_ends b k place g done l = absurd (omega arith)
  arc_ends b k zero g (more {s = s} f a h r) l =
      let m = (stop_of s + circle - step_after step b) % circle / step in
      let e : suc m - 1 ≡ m = omega arith in
      ap (λ (n : ℕ). (step_after step b + n * step) % circle) e ∙ sym (on_is step m (step_after step b) (omega arith)) ∙ ends step v g h
  arc_ends b k (suc place) g (more {s = s} f a h r) l = arc_ends (stop_of s) _ place h r (omega arith)

  module _ (ss : List Sector) (w : Valid step ss) where
    grid : Grid step (last_stop 0 ss)
    grid = last_grid step (zero_grid step) (fine_of step w)

    long : length (run_from step (last_stop 0 ss) ss) ≡ revolution_shots step
    long = sym (ap length (run_is step ss)) ∙ run_length step v ss w

    direction_at : (k : ℕ) → k < revolution_shots step → (get_or (run step ss) k no_shot).direction ≡ direction_of step k ss
    direction_at k l =
        let first = step_after step (last_stop 0 ss) in
        let n = length (run_from step (last_stop 0 ss) ss) in
        let h : k < n = omega (arith, long) in
        let e : (first + k * step) % circle ≡ direction_of step k ss = rw (add-mul, one-mul) (omega arith) in
        sym (get_or-map dir (run step ss) k no_shot)
        ∙ ap (λ (r : List Shot). get_or (map dir r) k 0) (run_is step ss)
        ∙ ap (λ (r : List ℕ). get_or r k 0) (run_directions grid (fine_of step w))
        ∙ get_or-map dir (shots step 0 first n) k no_shot
        ∙ ap dir (shot_at step n k first 0 (omega arith) h)
        ∙ e

    function_at : (k : ℕ) → k < revolution_shots step
        → (get_or (run step ss) k no_shot).function ≡ function_of (get_or (run step ss) k no_shot).direction ss
    function_at k l = rw run_is (each_at no_shot k (all_towards (fine_of step w)) (omega (arith, long)))

    pub shot_is : (k : ℕ) → k < revolution_shots step
        → get_or (run step ss) k no_shot ≡ record { direction = direction_of step k ss; function = function_of (direction_of step k ss) ss }
    shot_is k l =
        let d = direction_at k l in
        let f : (get_or (run step ss) k no_shot).function ≡ function_of (direction_of step k ss) ss =
        function_at k l ∙ ap (λ (x : ℕ). function_of x ss) d in
        λ i. record { direction = d i; function = f i }

pub revolution : Revolution
revolution step ok p w =
    let v = divides ok in
    let ss = active_of p in
    let f = fine_of step w.valid in
    record {
      long = run_length step v ss w.valid;
      shot = shot_is step v ss w.valid;
      shots = total_shots step (arcs step ss) ∙ run_length step v ss w.valid;
      ends = λ place l. arc_ends step v (last_stop 0 ss) 0 place (last_grid step (zero_grid step) f) f l;
    }
