-- The arcs tile the run: where each one's shots stand in it, and how many shots of a function there are.
use mathlib.Core.Path.{◌≡◌, refl, sym, ap, ◌∙◌}
use mathlib.Core.Bool.{Bool, true, false, ◌||◌}
use mathlib.Core.List.{List, [], ◌∷◌, ◌++◌, append_assoc}
use Prim.Native.Nat.{ℕ, zero, suc, ◌+◌, ◌*◌, ◌%◌, ◌≤◌, ◌<◌}
use native.Mathlib.Nat.{zero-add, add-zero, add_assoc}
use native.Mathlib.Omega.{arith}
use lib.Dec.{eqb}
use lib.ListN.{length, get_or, take, drop, length-append}
use borrow.Author.Tests.{eqb-true}
use lib.Seq.{take_at, drop_at, get_or-drop, get_or-take}
use Rattle.std.specs.Prelude.{if◌then◌else◌}
use Rattle.words.specs.Lists.{count, total}
use Rattle.units.specs.Directions.{circle, step_after}
use Rattle.plan.specs.declared.Sector.{Sector}
use Rattle.plan.specs.declared.Plan.{Plan}
use Rattle.plan.specs.declared.Arc.{Arc}
use Rattle.plan.specs.Sectors.{stop_of, active_of}
use Rattle.plan.specs.Shots.{Shot, last_stop, shots_of, arc_of, arcs_from, arcs, no_arc, shots, sweep, sweeps, run_of, shots_with}
use Rattle.plan.specs.Checks.{is_lit, lit_shots}
use Rattle.plan.specs.Demands.{no_shot, ArcIn, Tiling, Counting}
use Rattle.plan.proofs.ArcSums.{arcs_length}
use Rattle.plan.proofs.Runs.{shots_length}

-- shot k of a sector lies k steps past its first direction
pub shot_at : (step n k d f : ℕ) → d < circle → k < n
    → get_or (shots step f d n) k no_shot ≡ record { direction = (d + k * step) % circle; function = f }
shot_at step zero k d f h l = absurd (omega arith)
shot_at step (suc n) zero d f h l = ap (λ (x : ℕ). record { direction = x; function = f }) (omega arith)
shot_at step (suc n) (suc k) d f h l =
    shot_at step n k (step_after step d) f (omega arith) (omega arith) ∙ ap (λ (x : ℕ). record { direction = x; function = f }) (omega arith)

-- the arc at a place: whose it is, the sum of the shots before it, and the run in front of it and behind
record Found (step b k : ℕ) (ss : List Sector) (place : ℕ) : Type 0 where
  stop : ℕ
  shot : ℕ
  whose : Sector
  is : get_or (arcs_from step b k ss) place no_arc ≡ arc_of step stop shot whose
  sum : shot ≡ k + total (λ a. a.shots) (take place (arcs_from step b k ss))
  front : List Shot
  back : List Shot
  parts : sweeps step (arcs_from step b k ss) ≡ front ++ (sweep step (arc_of step stop shot whose) ++ back)
  place_of : shot ≡ k + length front

found : (step b k : ℕ) (ss : List Sector) (place : ℕ) → place < length ss → Found step b k ss place
found step b k [] place h = absurd (omega arith)
found step b k (s ∷ ss) zero h =
    record {
      stop = b;
      shot = k;
      whose = s;
      is = refl;
      sum = sym (add-zero k);
      front = [];
      back = sweeps step (arcs_from step (stop_of s) (k + shots_of step b s) ss);
      parts = refl;
      place_of = sym (add-zero k);
    }
found step b k (s ∷ ss) (suc place) h =
    let n = shots_of step b s in
    let mine = sweep step (arc_of step b k s) in
    let r = found step (stop_of s) (k + n) ss place (omega arith) in
    record {
      stop = r.stop;
      shot = r.shot;
      whose = r.whose;
      is = r.is;
      sum = r.sum ∙ add_assoc k n _;
      front = mine ++ r.front;
      back = r.back;
      parts = ap (λ (l : List Shot). mine ++ l) r.parts ∙ sym (append_assoc mine r.front _);
      place_of = omega (arith, r.place_of, length-append mine r.front, shots_length step n (step_after step b) s.function);
    }

module _ (step : ℕ) (p : Plan) where
  arc_in : (place : ℕ) → place < length (active_of p) → ArcIn step p place (get_or (arcs step (active_of p)) place no_arc)
  arc_in place h =
      let r = found step (last_stop 0 (active_of p)) 0 (active_of p) place h in
      rw r.is (within r)
    where
      within : (r : Found step (last_stop 0 (active_of p)) 0 (active_of p) place) → ArcIn step p place (arc_of step r.stop r.shot r.whose)
      within r =
          let a = arc_of step r.stop r.shot r.whose in
          let n : length r.front ≡ r.shot = omega (arith, r.place_of) in
          let stretch : take a.shots (drop a.shot (run_of step p)) ≡ sweep step a =
          rw (r.parts, drop_at r.front (sweep step a ++ r.back) r.shot n)
          (take_at (sweep step a) r.back a.shots (shots_length step a.shots a.first.0 a.function)) in
          record {
            first_shot = r.sum ∙ zero-add _;
            stretch = stretch;
            shot = λ i l.
                sym (get_or-drop r.shot (run_of step p) i no_shot)
                ∙ sym (get_or-take a.shots (drop r.shot (run_of step p)) i no_shot l)
                ∙ ap (λ (x : List Shot). get_or x i no_shot) stretch
                ∙ shot_at step a.shots i a.first.0 a.function (omega arith) l;
          }

pub tiling : Tiling
tiling step p = record { one_each = arcs_length step (last_stop 0 (active_of p)) 0 (active_of p); arc = arc_in step p }

-- the shots of arcs whose function passes a test are as many as such shots in their run
count_append : {A : Type 0} (test : A → Bool) (l m : List A) → count test (l ++ m) ≡ count test l + count test m
count_append test [] m = sym (zero-add _)
count_append test (x ∷ xs) m = ap (λ (n : ℕ). (if test x then 1 else 0) + n) (count_append test xs m) ∙ sym (add_assoc _ _ _)

count_shots : (test : ℕ → Bool) (step n d f : ℕ) → count (λ s. test s.function) (shots step f d n) ≡ (if test f then n else 0)
count_shots test step n d f = go (test f) refl n d
  where
    go : (b : Bool) → test f ≡ b → (n d : ℕ) → count (λ s. test s.function) (shots step f d n) ≡ (if b then n else 0)
    go true e zero d = refl
    go false e zero d = refl
    go true e (suc n) d = rw e (omega (arith, go true e n (step_after step d)))
    go false e (suc n) d = rw e (omega (arith, go false e n (step_after step d)))

pub counted : (test : ℕ → Bool) (step : ℕ) (l : List Arc) → shots_with test l ≡ count (λ s. test s.function) (sweeps step l)
counted test step [] = refl
counted test step (a ∷ l) =
    ap (λ (n : ℕ). (if test a.function then a.shots else 0) + n) (counted test step l)
    ∙ ap (λ (n : ℕ). n + count (λ s. test s.function) (sweeps step l)) (sym (count_shots test step a.shots a.first.0 a.function))
    ∙ sym (count_append (λ s. test s.function) (sweep step a) (sweeps step l))

-- only function 3 gives points
points_are : (step b k : ℕ) (ss : List Sector) → total (λ a. a.points) (arcs_from step b k ss) ≡ shots_with (λ f. eqb f 3) (arcs_from step b k ss)
points_are step b k [] = refl
points_are step b k (s ∷ ss) = ap (λ (n : ℕ). (arc_of step b k s).points + n) (points_are step (stop_of s) (k + shots_of step b s) ss)

pub counting : Counting
unfolding lit_shots
counting step p =
    record {
      lit = counted is_lit step (arcs step (active_of p));
      points = points_are step (last_stop 0 (active_of p)) 0 (active_of p) ∙ counted (λ f. eqb f 3) step (arcs step (active_of p));
    }

pub total_shots : (step : ℕ) (l : List Arc) → total (λ a. a.shots) l ≡ length (sweeps step l)
total_shots step [] = refl
total_shots step (a ∷ l) =
    ap (λ (n : ℕ). a.shots + n) (total_shots step l)
    ∙ ap (λ (n : ℕ). n + length (sweeps step l)) (sym (shots_length step a.shots a.first.0 a.function))
    ∙ sym (length-append (sweep step a) (sweeps step l))

-- an arc that has points is of function 3, stands at an active sector's place, and each of its shots gives one
pub record Pointed (a : Arc) : Type 0 where
  pub function : a.function ≡ 3
  pub points : a.points ≡ a.shots

pub pointed : (step b k : ℕ) (ss : List Sector) (place i : ℕ) → i < (get_or (arcs_from step b k ss) place no_arc).points
    → (place < length ss) × Pointed (get_or (arcs_from step b k ss) place no_arc)
pointed step b k [] place i h = absurd (omega arith)
pointed step b k (s ∷ ss) zero i h = (omega arith, go (eqb s.function 3) refl h)
  where
    go : (x : Bool) → eqb s.function 3 ≡ x → i < (if x then shots_of step b s else 0) → Pointed (arc_of step b k s)
    go true e l = record { function = eqb-true _ _ e; points = rw e }
    go false e l = absurd (omega arith)
pointed step b k (s ∷ ss) (suc place) i h =
    let r = pointed step (stop_of s) (k + shots_of step b s) ss place i h in
    (omega (arith, r.0), r.1)

-- no more points than shots of functions 3 and 4
pub points_lit : (step b k : ℕ) (ss : List Sector) → total (λ a. a.points) (arcs_from step b k ss) ≤ shots_with is_lit (arcs_from step b k ss)
points_lit step b k [] = omega arith
points_lit step b k (s ∷ ss) =
    go (eqb s.function 3) (eqb s.function 4) (shots_of step b s) (points_lit step (stop_of s) (k + shots_of step b s) ss)
  where
    go : (x y : Bool) (n : ℕ) {p q : ℕ} → p ≤ q → (if x then n else 0) + p ≤ (if (x || y) then n else 0) + q
    go true y n h = omega arith
    go false true n h = omega arith
    go false false n h = omega arith
