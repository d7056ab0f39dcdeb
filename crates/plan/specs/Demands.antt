-- What is promised of plans, as statements over the definitions above. The proofs stand in proofs/Rounds.antt and Tiling.antt.
use Rattle.std.specs.Prelude.{◌≡◌, List, [], ◌∷◌, ℕ, ◌+◌, ◌-◌, ◌<◌, T, leb, eqb, length, get_or, take, drop, if◌then◌else◌}
use Rattle.units.specs.Directions.{steps_past, revolution_shots}
use Rattle.words.specs.Lists.{count, total}
use Rattle.plan.specs.declared.Sector.{Sector}
use Rattle.plan.specs.declared.Plan.{Plan}
use Rattle.plan.specs.declared.Arc.{Arc}
use Rattle.plan.specs.Sectors.{is_step, unused, stop_of, active_of}
use Rattle.plan.specs.Validity.{ValidPlan}
use Rattle.plan.specs.Shots.{Shot, last_stop, arcs, no_arc, sweep, run_of}
use Rattle.plan.specs.Checks.{is_lit, lit_shots}

-- how many active sectors a plan has (rule 3.1)
abbrev pub actives : Plan → ℕ
actives p = length (active_of p)

-- what stands where a run has no shot (rule 3.4)
abbrev pub no_shot : Shot
no_shot = record { direction = 0; function = 0 }

-- the function towards a direction: of the first sector whose stop does not lie before it; past the last stop, of sector 0 (rule 3.5)
abbrev pub towards : ℕ → ℕ → List Sector → ℕ
towards direction function₀ [] = function₀
towards direction function₀ (s ∷ ss) = if leb direction (stop_of s) then s.function else towards direction function₀ ss

abbrev pub function_of : ℕ → List Sector → ℕ
function_of direction [] = 0
function_of direction (s ∷ ss) = towards direction s.function (s ∷ ss)

-- the direction of shot k: k + 1 steps after the last active stop (rule 3.5)
abbrev pub direction_of : ℕ → ℕ → List Sector → ℕ
direction_of step k ss = steps_past step (k + 1) (last_stop 0 ss)

-- the direction of an arc's last shot (rule 3.5)
abbrev pub end_of : ℕ → Arc → ℕ
end_of step a = steps_past step (a.shots - 1) a.first.0

-- Of a valid plan: one revolution has N shots; shot k has this direction and this function; the arcs' shots add up to N, and the last shot
-- of each arc is at its last direction, the sector's stop (rules 3.4 to 3.6)
pub record RunsRound (step : ℕ) (p : Plan) : Type 0 where
  pub long : length (run_of step p) ≡ revolution_shots step
  pub shot : (k : ℕ) → k < revolution_shots step
      → get_or (run_of step p) k no_shot
      ≡ record { direction = direction_of step k (active_of p); function = function_of (direction_of step k (active_of p)) (active_of p) }
  pub shots : total (λ a. a.shots) (arcs step (active_of p)) ≡ revolution_shots step
  pub ends : (place : ℕ) → place < actives p → end_of step (get_or (arcs step (active_of p)) place no_arc) ≡ (get_or (active_of p) place unused).stop.0

abbrev pub Revolution : Type 0
Revolution = (step : ℕ) → T (is_step step) → (p : Plan) → ValidPlan step p → RunsRound step p

-- Of the arc at a place: its first shot is the sum of the shots before it, the run has the arc's shots from there on, and shot i of the arc
-- lies i steps past its first direction, with its function. One arc for each active sector (rule 3.6)
pub record ArcIn (step : ℕ) (p : Plan) (place : ℕ) (a : Arc) : Type 0 where
  pub first_shot : a.shot ≡ total (λ b. b.shots) (take place (arcs step (active_of p)))
  pub stretch : take a.shots (drop a.shot (run_of step p)) ≡ sweep step a
  pub shot : (i : ℕ) → i < a.shots
      → get_or (run_of step p) (a.shot + i) no_shot ≡ record { direction = steps_past step i a.first.0; function = a.function }

pub record Tiles (step : ℕ) (p : Plan) : Type 0 where
  pub one_each : length (arcs step (active_of p)) ≡ actives p
  pub arc : (place : ℕ) → place < actives p → ArcIn step p place (get_or (arcs step (active_of p)) place no_arc)

abbrev pub Tiling : Type 0
Tiling = (step : ℕ) (p : Plan) → Tiles step p

-- The shots that check 2 counts are the run's shots of functions 3 and 4, and the arcs' points its shots of function 3 (rules 3.8 and 4.18)
pub record Counts (step : ℕ) (p : Plan) : Type 0 where
  pub lit : lit_shots p step ≡ count (λ s. is_lit s.function) (run_of step p)
  pub points : total (λ a. a.points) (arcs step (active_of p)) ≡ count (λ s. eqb s.function 3) (run_of step p)

abbrev pub Counting : Type 0
Counting = (step : ℕ) (p : Plan) → Counts step p
