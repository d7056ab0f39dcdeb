-- Rules, section 3: the arc of each active sector, and the shots of one revolution.
use Rattle.std.specs.Prelude.{Bool, List, [], ◌∷◌, ◌++◌, ℕ, zero, suc, ◌+◌, eqb, get_or, if◌then◌else◌}
use Rattle.units.specs.Directions.{step_after, shots_to}
use Rattle.words.specs.Lists.{total}
use Rattle.plan.specs.declared.Sector.{Sector}
use Rattle.plan.specs.declared.Plan.{Plan}
use Rattle.plan.specs.declared.Arc.{Arc}
use Rattle.plan.specs.Sectors.{stop_of, active_of}

-- the last active stop; where there is no active sector, the stop given (rule 3.5)
abbrev pub last_stop : ℕ → List Sector → ℕ
last_stop stop [] = stop
last_stop stop (s ∷ ss) = last_stop (stop_of s) ss

-- the shots of a sector, from one step after the stop before it to its own stop, included (rules 3.5 and 3.8)
abbrev pub shots_of : ℕ → ℕ → Sector → ℕ
shots_of step before s = shots_to step (step_after step before) (stop_of s)

-- what a sector is in a revolution: its function, its first and last direction, the number of its first shot, how many shots it has, and
-- how many of them are points: all in function 3, else none (rules 3.5 and 3.8)
abbrev pub arc_of : ℕ → ℕ → ℕ → Sector → Arc
arc_of step before shot s =
    record {
      function = s.function;
      first = record { 0 = step_after step before };
      last = s.stop;
      shot = shot;
      shots = shots_of step before s;
      points = if eqb s.function 3 then shots_of step before s else 0;
    }

-- the arcs of sectors in list order, from the stop before them and the number of their first shot on (rules 3.5 and 3.6)
abbrev pub arcs_from : ℕ → ℕ → ℕ → List Sector → List Arc
arcs_from step before shot [] = []
arcs_from step before shot (s ∷ ss) = arc_of step before shot s ∷ arcs_from step (stop_of s) (shot + shots_of step before s) ss

-- the arcs of a revolution: the last active stop is the one before sector 0 (rule 3.5)
abbrev pub arcs : ℕ → List Sector → List Arc
arcs step ss = arcs_from step (last_stop 0 ss) 0 ss

-- behind the last active sector there is no arc (rule 3.5)
abbrev pub no_arc : Arc
no_arc = record { function = 0; first = record { 0 = 0 }; last = record { 0 = 0 }; shot = 0; shots = 0; points = 0 }

-- the arc of the sector at a place of a plan (rule 3.5)
unfoldable pub arc_at : Plan → ℕ → ℕ → Arc
arc_at p step place = get_or (arcs step (active_of p)) place no_arc

-- one shot: the direction that the head passes, and the function there (rule 3.4)
pub record Shot : Type 0 where
  pub direction : ℕ
  pub function : ℕ

-- so many shots of a function, from a first direction on, each one step after the one before it (rule 3.5)
abbrev pub shots : ℕ → ℕ → ℕ → ℕ → List Shot
shots step function direction zero = []
shots step function direction (suc n) = record { direction = direction; function = function } ∷ shots step function (step_after step direction) n

-- the shots of an arc (rule 3.5)
abbrev pub sweep : ℕ → Arc → List Shot
sweep step a = shots step a.function a.first.0 a.shots

-- the shots of arcs, one after another (rule 3.6)
abbrev pub sweeps : ℕ → List Arc → List Shot
sweeps step [] = []
sweeps step (a ∷ as') = sweep step a ++ sweeps step as'

-- one revolution from sector 0 on, with a shot in every direction that is passed (rules 3.4 and 3.6)
abbrev pub run : ℕ → List Sector → List Shot
run step ss = sweeps step (arcs step ss)

abbrev pub run_of : ℕ → Plan → List Shot
run_of step p = run step (active_of p)

-- the shots of the arcs whose function passes a test (rule 4.18)
abbrev pub shots_with : (ℕ → Bool) → List Arc → ℕ
shots_with test as' = total (λ a. if test a.function then a.shots else 0) as'
