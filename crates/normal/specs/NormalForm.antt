-- Rules 3.10 and 3.11 and the numbers 9 to 11: the normal plan, and what the call answers.
use Rattle.std.specs.Prelude.{◌≡◌, not, ◌&&◌, List, [], ◌∷◌, ℕ, Result, Ok, Err, eqb, if◌then◌else◌}
use Rattle.words.specs.Lists.{some, every}
use Rattle.plan.specs.declared.Sector.{Sector}
use Rattle.plan.specs.declared.Plan.{Plan}
use Rattle.plan.specs.Sectors.{is_step, filled, active_of}
use Rattle.plan.specs.Validity.{sector_ok, increases, multiples}
use Rattle.normal.specs.declared.normal.PlanRefusal.{PlanRefusal}
use Rattle.normal.specs.declared.normal.PlanRefusal.TheVariants.{NoStep, NotValid, BetweenSteps}

-- a sector in front of others: joined to the first of them where the functions are equal, so that the later stop is kept (rule 3.10)
abbrev pub joined : Sector → List Sector → List Sector
joined s [] = s ∷ []
joined s (t ∷ ts) = if eqb s.function t.function then t ∷ ts else s ∷ t ∷ ts

-- neighbours of equal function joined in list order; the last is no neighbour of the first (rule 3.10)
abbrev pub normal : List Sector → List Sector
normal [] = []
normal (s ∷ ss) = joined s (normal ss)

abbrev pub normal_plan : Plan → Plan
normal_plan p = filled (normal (active_of p))

-- 9 for a step that is none; 10 for no active sector, one out of its ranges, or stops that do not increase; 11 for a stop that is no
-- multiple; 0 for none of these (rule 6.1)
unfoldable pub plan_refusal : Plan → ℕ → ℕ
plan_refusal p step =
    if not (is_step step) then 9 else
    if not (some (active_of p) && every sector_ok (active_of p) && increases (active_of p)) then 10 else
    if not (multiples step (active_of p)) then 11 else 0

-- what the call answers, by number and plan: a number for no with a plan of zeros, or 0 with the normal plan (rule 3.11)
pub record Normalised : Type 0 where
  pub refusal : ℕ
  pub plan : Plan

-- a refusal has a plan of zeros beside it (rule 6.2)
abbrev pub answered : ℕ → Plan → Normalised
answered refusal p = record { refusal = refusal; plan = if eqb refusal 0 then p else filled [] }

-- what the call answers (rule 3.11)
unfoldable pub normalised_of : Plan → ℕ → Normalised
normalised_of p step = answered (plan_refusal p step) (normal_plan p)

-- the number of a reason for no: 9 for a step that is none; 10 for no active sector, one out of its ranges, or stops that do not increase;
-- 11 for a stop that is no multiple (rule 6.1)
abbrev pub refusal_number : PlanRefusal → ℕ
refusal_number NoStep = 9
refusal_number NotValid = 10
refusal_number BetweenSteps = 11

-- the number that the tests' answer stands for: 0 where none fails (rule 6.1)
abbrev pub refusal_said : Result (Unit {0}) PlanRefusal → ℕ
refusal_said (Ok u) = 0
refusal_said (Err e) = refusal_number e

-- what an answer of the call stands for: 0 and the plan handed back, or the number for no and a plan of zeros (rule 6.2)
abbrev pub said : Result Plan PlanRefusal → Normalised
said (Ok p) = record { refusal = 0; plan = p }
said (Err e) = record { refusal = refusal_number e; plan = filled [] }

-- the contract of `normal_plan` (rule 3.11)
abbrev pub NormalPlanSays : Plan → ℕ → Result Plan PlanRefusal → Type 0
NormalPlanSays p step r = said r ≡ normalised_of p step
