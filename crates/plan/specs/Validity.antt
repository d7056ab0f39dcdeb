-- Rule 3.3: when active sectors are valid for a step.
use Rattle.std.specs.Prelude.{◌≡◌, Bool, true, ◌&&◌, List, [], ◌∷◌, ℕ, T, ltb, length}
use Rattle.units.specs.Directions.{on_circle, is_multiple}
use Rattle.words.specs.Lists.{some, every}
use Rattle.plan.specs.declared.Sector.{Sector}
use Rattle.plan.specs.declared.Plan.{Plan}
use Rattle.plan.specs.Sectors.{stop_of, is_function, active_of}

-- a function and a stop that an active sector may have (rule 3.3)
abbrev pub sector_ok : Sector → Bool
sector_ok s = is_function s.function && on_circle (stop_of s)

-- each stop is above the one before it (rule 3.3)
abbrev pub increases_from : ℕ → List Sector → Bool
increases_from before [] = true
increases_from before (s ∷ ss) = ltb before (stop_of s) && increases_from (stop_of s) ss

-- the stops strictly increase (rule 3.3)
abbrev pub increases : List Sector → Bool
increases [] = true
increases (s ∷ ss) = increases_from (stop_of s) ss

-- each stop is a multiple of the step (rule 3.3)
abbrev pub multiples : ℕ → List Sector → Bool
multiples step ss = every (λ s. is_multiple step (stop_of s)) ss

-- active sectors that are valid for a step (rule 3.3)
pub record Valid (step : ℕ) (ss : List Sector) : Type 0 where
  pub at_least_one : T (some ss)
  pub in_range : T (every sector_ok ss)
  pub increasing : T (increases ss)
  pub whole_steps : T (multiples step ss)

-- a plan, of eight entries, that is valid for a step (rule 3.3)
pub record ValidPlan (step : ℕ) (p : Plan) : Type 0 where
  pub eight : length p.sectors ≡ 8
  pub valid : Valid step (active_of p)
