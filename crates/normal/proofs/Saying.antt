-- The answers of `normal_plan`: two of one number and plan are one answer, and there is one for every plan and step.
use Rattle.std.proofs.Common.{◌≡◌, refl, sym, ap, Bool, true, false, not, ℕ, Result, Ok, Err, if◌then◌else◌}
use Rattle.plan.specs.declared.Plan.{Plan}
use Rattle.normal.specs.declared.normal.PlanRefusal.{PlanRefusal}
use Rattle.normal.specs.declared.normal.PlanRefusal.TheVariants.{NoStep, NotValid, BetweenSteps}
use Rattle.normal.specs.NormalForm.{normal_plan, plan_refusal, normalised_of, answered, refusal_number, said, NormalPlanSays}

no_zero : (e : PlanRefusal) → 0 ≡ refusal_number e → ⊥
no_zero NoStep h = cc
no_zero NotValid h = cc
no_zero BetweenSteps h = cc

one_number : (e f : PlanRefusal) → refusal_number e ≡ refusal_number f → e ≡ f
one_number NoStep NoStep h = refl
one_number NoStep NotValid h = cc
one_number NoStep BetweenSteps h = cc
one_number NotValid NoStep h = cc
one_number NotValid NotValid h = refl
one_number NotValid BetweenSteps h = cc
one_number BetweenSteps NoStep h = cc
one_number BetweenSteps NotValid h = cc
one_number BetweenSteps BetweenSteps h = refl

pub said_one : (a b : Result Plan PlanRefusal) → said a ≡ said b → a ≡ b
said_one (Ok p) (Ok q) h = ap Ok (ap (λ n. n.plan) h)
said_one (Ok p) (Err e) h = absurd (no_zero e (ap (λ n. n.refusal) h))
said_one (Err e) (Ok q) h = absurd (no_zero e (sym (ap (λ n. n.refusal) h)))
said_one (Err e) (Err f) h = ap Err (one_number e f (ap (λ n. n.refusal) h))

by_tests : (a b c : Bool) (p : Plan)
    → (r : Result Plan PlanRefusal) × (said r ≡ answered (if not a then 9 else if not b then 10 else if not c then 11 else 0) p)
by_tests false b c p = (Err NoStep, refl)
by_tests true false c p = (Err NotValid, refl)
by_tests true true false p = (Err BetweenSteps, refl)
by_tests true true true p = (Ok p, refl)

pub says_some : (p : Plan) (step : ℕ) → (r : Result Plan PlanRefusal) × NormalPlanSays p step r
unfolding plan_refusal normalised_of
says_some p step = by_tests _ _ _ (normal_plan p)
