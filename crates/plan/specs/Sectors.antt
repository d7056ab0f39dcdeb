-- Rules, sections 2 and 3: angle steps, the entries of a plan and their ranges, the active sectors.
use Rattle.std.specs.Prelude.{Bool, ◌&&◌, ◌||◌, List, [], ◌∷◌, ◌++◌, ℕ, ◌-◌, leb, eqb, length, get_or, set}
use Rattle.std.specs.Prelude.{replicate, if◌then◌else◌}
use Rattle.units.specs.Units.{angle}
use Rattle.units.specs.Directions.{on_circle, divides_circle}
use Rattle.words.specs.Lists.{every}
use Rattle.plan.specs.declared.Sector.{Sector}
use Rattle.plan.specs.declared.Plan.{Plan}

-- 1 to 64, and whole steps go round: 23 values (rule 2.1)
unfoldable pub is_step : ℕ → Bool
is_step step = leb 1 step && leb step 64 && divides_circle step

-- the sector of a function and a stop (rule 2.2)
abbrev pub sector : ℕ → ℕ → Sector
sector function stop = record { function = function; stop = angle stop }

-- an entry that is not used (rule 2.2)
abbrev pub unused : Sector
unused = sector 0 0

abbrev pub stop_of : Sector → ℕ
stop_of s = s.stop.0

-- a function that an active sector may have (rule 3.3)
abbrev pub is_function : ℕ → Bool
is_function f = eqb f 1 || eqb f 3 || eqb f 4

-- a function 0 or one of these, and a stop on the circle (rule 2.2)
unfoldable pub entry_in_range : Sector → Bool
entry_in_range s = (eqb s.function 0 || is_function s.function) && on_circle (stop_of s)

-- all of a plan's entries are in their ranges, the unused ones included (rule 2.2)
unfoldable pub plan_in_range : Plan → Bool
plan_in_range p = every entry_in_range p.sectors

-- the entry at a place, 0/0 past the last (rule 2.2)
abbrev pub entry_at : Plan → ℕ → Sector
entry_at p place = get_or p.sectors place unused

-- the plan with the entry at a place set (rule 4.8)
abbrev pub with_entry : Plan → ℕ → Sector → Plan
with_entry p place entry = record { sectors = set p.sectors place entry }

-- sectors as a plan of eight entries, the others not used (rule 2.2)
abbrev pub filled : List Sector → Plan
filled ss = record { sectors = ss ++ replicate (8 - length ss) unused }

-- the active sectors: those before the first function 0 (rule 3.1)
abbrev pub active : List Sector → List Sector
active [] = []
active (s ∷ ss) = if eqb s.function 0 then [] else s ∷ active ss

abbrev pub active_of : Plan → List Sector
active_of p = active p.sectors
