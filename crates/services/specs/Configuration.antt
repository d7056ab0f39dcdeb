-- Rules, section 4: SET_CONFIG, GET_CONFIG, SET_FUNCTION, GET_FUNCTION.
use Rattle.std.specs.Prelude.{Bool, ◌&&◌, ◌||◌, [], ◌∷◌, ℕ, ◌%◌, ltb, eqb, if◌then◌else◌}
use Rattle.units.specs.Directions.{circle}
use Rattle.plan.specs.declared.Plan.{Plan}
use Rattle.plan.specs.Sectors.{sector, stop_of, entry_at, with_entry}
use Rattle.state.specs.declared.State.{State}
use Rattle.state.specs.Fields.{with_config, with_plans}
use Rattle.state.specs.Ranges.{config_ok}
use Rattle.state.specs.Replies.{Outcome}
use Rattle.services.specs.Answers.{answer, no_value}

-- the item of id, speed and step; `CONFIG_ITEM` in the code (rule 4.6)
abbrev pub config_item : ℕ
config_item = 0x0010

-- the item is the configuration's, and all three values are in their ranges (rule 4.6)
abbrev pub config_taken : ℕ → ℕ → ℕ → ℕ → Bool
config_taken item id speed step = eqb item config_item && config_ok id speed step

-- all three are stored and the item is answered, or none is and no value is; the running speed stays (rule 4.6)
abbrev pub set_config : State → ℕ → ℕ → ℕ → ℕ → ℕ → Outcome
set_config s code item id speed step =
    if config_taken item id speed step
    then answer (with_config s id speed step) (code ∷ item ∷ [])
    else answer s (code ∷ no_value ∷ [])

-- item, id, speed, step; no value for another item (rule 4.7)
abbrev pub get_config : State → ℕ → ℕ → Outcome
get_config s code item =
    if eqb item config_item
    then answer s (code ∷ item ∷ s.id ∷ s.speed ∷ s.step.0 ∷ [])
    else answer s (code ∷ no_value ∷ [])

-- the sector that is set: past the last, the last (rule 4.8)
abbrev pub sector_set : ℕ → ℕ
sector_set number = if ltb 7 number then 7 else number

-- the function that is set: 0 for one that there is not (rule 4.8)
abbrev pub function_set : ℕ → ℕ
function_set function = if eqb function 2 || ltb 4 function then 0 else function

-- the stop that is set (rule 4.8)
abbrev pub stop_set : ℕ → ℕ
stop_set stop = stop % circle

-- the working plan with one entry set (rule 4.8)
abbrev pub working_set : State → ℕ → ℕ → ℕ → Plan
working_set s number function stop = with_entry s.working (sector_set number) (sector (function_set function) (stop_set stop))

-- sector, function, stop as set; with a flash of 1 the whole working plan, this entry included, is stored (rule 4.8)
abbrev pub set_function : State → ℕ → ℕ → ℕ → ℕ → ℕ → Outcome
set_function s code number function stop flash =
    let working = working_set s number function stop in
    answer (with_plans s working (if eqb flash 1 then working else s.stored)) (code ∷ sector_set number ∷ function_set function ∷ stop_set stop ∷ [])

-- sector, function, stop of the working plan; no values past the last sector (rule 4.9)
abbrev pub get_function : State → ℕ → ℕ → Outcome
get_function s code number =
    if ltb 7 number
    then answer s (code ∷ no_value ∷ no_value ∷ no_value ∷ [])
    else answer s (code ∷ number ∷ (entry_at s.working number).function ∷ stop_of (entry_at s.working number) ∷ [])
