-- The plan that plain words stand for.
use Rattle.std.specs.Prelude.{List, [], ◌∷◌, ℕ, ◌+◌, ◌*◌, get_or}
use Rattle.plan.specs.declared.Sector.{Sector}
use Rattle.plan.specs.declared.Plan.{Plan}
use Rattle.plan.specs.Sectors.{sector}

-- entry k: function and stop are words 2k and 2k + 1, 0 where there are none (rule 5.9)
abbrev pub entry_of : List ℕ → ℕ → Sector
entry_of ws k = sector (get_or ws (2 * k) 0) (get_or ws (2 * k + 1) 0)

abbrev pub plan_of : List ℕ → Plan
plan_of ws =
    record {
      sectors =
          entry_of ws 0 ∷ entry_of ws 1 ∷ entry_of ws 2 ∷ entry_of ws 3
          ∷ entry_of ws 4 ∷ entry_of ws 5 ∷ entry_of ws 6 ∷ entry_of ws 7 ∷ [];
    }
