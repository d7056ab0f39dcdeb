-- What is promised of the normal plan and of the call, as statements over the definitions above and those of the crate `plan`. The
-- proofs stand in proofs/Demand3.antt, those of the refusals in proofs/Numbers.antt.
use Rattle.std.specs.Prelude.{◌≡◌, ◌↔◌, not, ◌||◌, List, [], ◌∷◌, ℕ, ◌≤◌, T, length, replicate}
use Rattle.units.specs.Directions.{on_circle, is_multiple}
use Rattle.words.specs.Lists.{some, every}
use Rattle.words.specs.Numbers.{No, no, first_of}
use Rattle.plan.specs.declared.Plan.{Plan}
use Rattle.plan.specs.Sectors.{is_step, unused, stop_of, is_function, active_of}
use Rattle.plan.specs.Validity.{increases, ValidPlan}
use Rattle.plan.specs.Shots.{run_of}
use Rattle.plan.specs.Demands.{actives}
use Rattle.normal.specs.NormalForm.{normal_plan, normalised_of}

-- Demand 3, of a normaliser n for a step, and a plan p that is valid for the step: another valid plan has the same normal plan exactly when
-- it runs alike; the normal plan is valid and runs so; normalising again changes nothing; no valid plan with fewer active sectors runs so
-- (rules 3.9 and 3.10)
pub record NormalStands (n : Plan → Plan) (step : ℕ) (p : Plan) : Type 0 where
  pub alike : (q : Plan) → ValidPlan step q → (n p ≡ n q) ↔ (run_of step p ≡ run_of step q)
  pub valid : ValidPlan step (n p)
  pub runs_so : run_of step (n p) ≡ run_of step p
  pub again : n (n p) ≡ n p
  pub fewest : (q : Plan) → ValidPlan step q → run_of step q ≡ run_of step p → actives (n p) ≤ actives q

-- of every step of the 23, and every plan that is valid for it (rule 3.3)
abbrev pub Normalises : (ℕ → Plan → Plan) → Type 0
Normalises n = (step : ℕ) → T (is_step step) → (p : Plan) → ValidPlan step p → NormalStands (n step) step p

-- the plan that the call hands back (rule 3.11)
abbrev pub plan_back : ℕ → Plan → Plan
plan_back step p = (normalised_of p step).plan

abbrev pub Demand3 : Type 0
Demand3 = Normalises plan_back

-- what the call answers: 0 exactly for a step of the 23 and a plan that is valid for it, and then the normal plan (rule 3.11)
pub record Answers (step : ℕ) (p : Plan) : Type 0 where
  pub zero : ((normalised_of p step).refusal ≡ 0) ↔ (T (is_step step) × ValidPlan step p)
  pub normal : (normalised_of p step).refusal ≡ 0 → plan_back step p ≡ normal_plan p

abbrev pub AnswersValid : Type 0
AnswersValid = (step : ℕ) (p : Plan) → length p.sectors ≡ 8 → Answers step p

-- the table of numbers 9 to 11: step not one of the 23; no active sector, or among them a function or a stop out of its range, or stops
-- that do not increase; a stop that is no multiple (rule 6.1)
abbrev pub numbers_for_no : Plan → ℕ → List No
numbers_for_no p step =
    no 9 (not (is_step step))
    ∷ no 10 (
    not (some (active_of p))
    || not (every (λ s. is_function s.function) (active_of p))
    || not (every (λ s. on_circle (stop_of s)) (active_of p))
    || not (increases (active_of p))
    )
    ∷ no 11 (not (every (λ s. is_multiple step (stop_of s)) (active_of p)))
    ∷ []

-- the first that is due is given, and no other (rule 6.1)
abbrev pub RefusalsExactly : Type 0
RefusalsExactly = (p : Plan) (step : ℕ) → (normalised_of p step).refusal ≡ first_of (numbers_for_no p step)

-- a refusal hands back a plan of zeros (rule 6.2)
abbrev pub RefusalsGiveZeros : Type 0
RefusalsGiveZeros = (p : Plan) (step : ℕ) → ((normalised_of p step).refusal ≡ 0 → ⊥) → (plan_back step p).sectors ≡ replicate 8 unused
